-- What ties the records to the blocks, and the moves of one block that keep it. Assumes nothing.
use Rattle.std.proofs.Common.{◌≡◌, ℕ, zero, suc, ◌+◌, ◌<◌, false, eqb, ◌⊎◌, List, [], ◌∷◌, length, get_or, set, replicate, ℤ, Some, Option, sym, refl, ap, ◌∙◌, inl, inr, le_of_suc-le-suc, not-suc-le-zero, arith, length-set}
use Rattle.std.proofs.lemmas.List.{get_or-replicate}
use Rattle.std.proofs.lemmas.Bool.{ne_eqb}
use Rattle.records.specs.declared.kinds.Record.{Record}
use Rattle.records.specs.declared.kinds.Record.TheVariants.{Accept, Begin, End, State, Place, Cycle, Target}
use Rattle.records.specs.declared.motion.AxisState.{AxisState}
use Rattle.records.specs.declared.motion.BufferMode.{BufferMode}
use Rattle.records.specs.declared.motion.Command.{Command}
use Rattle.records.specs.declared.outcome.Outcome.{Outcome}
use Rattle.totals.specs.Counts.{end_one, done_one, aborted_one, error_one}
use Rattle.moves.specs.declared.instruction.Instruction.{Instruction}
use Rattle.moves.specs.declared.table.Block.{Block}
use Rattle.moves.specs.declared.table.Status.{Status}
use Rattle.moves.specs.declared.table.Status.TheVariants.{Waiting, Active}
use Rattle.moves.specs.Blocks.{block_of, command_of, with_status, status_of, is_busy}
use Rattle.moves.specs.Sheet.{idle_block}
use Rattle.law.specs.Laws.Accounts.{Rounds, stage_by, stage_of, busy_one, busy_blocks, is_done}
use Rattle.law.specs.Laws.Accounts.Stage.{out, waits}
use Rattle.law.specs.Readings.{names}
use Rattle.law.proofs.Lines.{each_set}
use Rattle.law.proofs.Readings.{ends_in}

-- so many executes were not refused as ended or are busy, and each block's words are rounds up to where it stands
pub record Good (n : ℕ) (rs : List Record) (bs : List Block) : Type 0 where
  pub size : length bs ≡ 32
  pub counts : n ≡ ends_in done_one rs + ends_in aborted_one rs + ends_in error_one rs + busy_blocks bs
  pub rounds : (b : ℕ) → b < 32 → Rounds b rs (stage_of (get_or bs b idle_block))

pub good_new : Good 0 [] (replicate 32 idle_block)
good_new = record {
  size = refl;
  counts = refl;
  rounds = λ b h. rw (get_or-replicate 32 b idle_block idle_block h) Rounds.none;
}

-- ---- one block becomes another

busy_set :
    (bs : List Block) (b : ℕ) (y : Block) → b < length bs →
    busy_blocks (set bs b y) + busy_one (get_or bs b idle_block).status ≡ busy_blocks bs + busy_one y.status
busy_set [] b y h = absurd (not-suc-le-zero h)
busy_set (x ∷ xs) zero y h = omega arith
busy_set (x ∷ xs) (suc b) y h = omega (arith, busy_set xs b y (le_of_suc-le-suc h))

-- what the end of a record counts, whatever its outcome
abbrev pub end_any : Record → ℕ
end_any x = end_one done_one x + end_one aborted_one x + end_one error_one x

-- a record x that names b alone is written, and the block b becomes y
pub moves_on :
    {n : ℕ} {rs : List Record} {bs : List Block} → Good n rs bs →
    (m b : ℕ) (x : Record) (y : Block) → b < 32 →
    ((c : ℕ) → names c x ≡ eqb b c) →
    m + busy_one (get_or bs b idle_block).status ≡ n + end_any x + busy_one y.status →
    Rounds b (x ∷ rs) (stage_of y) → Good m (x ∷ rs) (set bs b y)
moves_on {n} {rs} {bs} good m b x y h named count rounds = record {
  size = length-set bs b y ∙ good.size;
  counts = omega (arith, good.counts, count, busy_set bs b y (omega (arith, good.size)));
  rounds = each_set (λ c z. c < 32 → Rounds c (x ∷ rs) (stage_of z)) bs b y idle_block (omega (arith, good.size)) (λ k. rounds)
      (λ c ne k. Rounds.other (named c ∙ ne_eqb b c (λ e. ne (sym e))) (good.rounds c k));
}

-- ---- a record of no block

pub good_silent :
    {n : ℕ} {rs : List Record} {bs : List Block} → Good n rs bs → (x : Record) →
    ((b : ℕ) → names b x ≡ false) → ((one : Outcome → ℕ) → end_one one x ≡ 0) → Good n (x ∷ rs) bs
good_silent good x named ends = record {
  size = good.size;
  counts = omega (arith, good.counts, ends done_one, ends aborted_one, ends error_one);
  rounds = λ b h. Rounds.other (named b) (good.rounds b h);
}

module _ {n : ℕ} {rs : List Record} {bs : List Block} (good : Good n rs bs) where
  pub good_state : (a : ℕ) (old new : AxisState) → Good n (State a old new ∷ rs) bs
  good_state a old new = good_silent good (State a old new) (λ b. refl) (λ one. refl)

  pub good_place : (position : ℤ) → Good n (Place position ∷ rs) bs
  good_place position = good_silent good (Place position) (λ b. refl) (λ one. refl)

  pub good_cycle : (count : ℕ) → Good n (Cycle count ∷ rs) bs
  good_cycle count = good_silent good (Cycle count) (λ b. refl) (λ one. refl)

  pub good_target : (position : ℤ) → Good n (Target position ∷ rs) bs
  good_target position = good_silent good (Target position) (λ b. refl) (λ one. refl)

-- ---- where a block stands

busy_not : (s : Status) → is_busy s ≡ false → busy_one s ≡ 0
busy_not s e = grind arith

stage_not : (s : Status) (a : ℕ) (c : Option Command) → is_busy s ≡ false → stage_by s a c ≡ out
stage_not s a c e = grind arith

ended_not : (o : Outcome) → is_busy (status_of o) ≡ false
ended_not o = grind arith

ended_one : (o : Outcome) → done_one o + aborted_one o + error_one o ≡ 1
ended_one o = grind arith

taken_busy : (a : ℕ) (i : Instruction) (mode : BufferMode) → busy_one (block_of a i mode).status ≡ 1
taken_busy a i mode = grind arith

taken_stage : (a : ℕ) (i : Instruction) (mode : BufferMode) → stage_of (block_of a i mode) ≡ waits a (Some (command_of i))
taken_stage a i mode = grind arith

-- ---- the moves

module _ {n : ℕ} {rs : List Record} {bs : List Block} (good : Good n rs bs) where
  pub good_accepted :
      (a b : ℕ) (instruction : Instruction) (mode : BufferMode) → b < 32 →
      is_busy (get_or bs b idle_block).status ≡ false →
      Good (1 + n) (Accept a b (command_of instruction) mode ∷ rs) (set bs b (block_of a instruction mode))
  good_accepted a b instruction mode h free =
      let x = get_or bs b idle_block in
      moves_on good (1 + n) b (Accept a b (command_of instruction) mode) (block_of a instruction mode) h (λ c. refl)
      (omega (arith, busy_not x.status free, taken_busy a instruction mode))
      (rw (taken_stage a instruction mode) (Rounds.accepted (rw (stage_not x.status x.axis x.command free) at (good.rounds b h))))

  pub good_begun :
      (a b : ℕ) → b < 32 → (get_or bs b idle_block).status ≡ Waiting → (get_or bs b idle_block).axis ≡ a →
      Good n (Begin a b ∷ rs) (set bs b (with_status (get_or bs b idle_block) Active))
  good_begun a b h waiting on =
      let x = get_or bs b idle_block in
      moves_on good n b (Begin a b) (with_status x Active) h (λ c. refl)
      (omega (arith, ap busy_one waiting))
      (rw (← on) (Rounds.begun (rw waiting at (good.rounds b h))))

  pub good_ended :
      (a b : ℕ) (outcome : Outcome) → b < 32 → (get_or bs b idle_block).axis ≡ a →
      ((get_or bs b idle_block).status ≡ Active) ⊎ (((get_or bs b idle_block).status ≡ Waiting) × (is_done outcome ≡ false)) →
      Good n (End a b outcome ∷ rs) (set bs b (with_status (get_or bs b idle_block) (status_of outcome)))
  good_ended a b outcome h on was =
      let x = get_or bs b idle_block in
      let stood = good.rounds b h in
      let busy : busy_one x.status ≡ 1 = elim was [ inl e ↦ ap busy_one e | inr e ↦ ap busy_one e.0 ] in
      let over : Rounds b (End x.axis b outcome ∷ rs) out = elim was [
        | inl e ↦ Rounds.ended (rw e at stood)
        | inr e ↦ Rounds.dropped e.1 (rw e.0 at stood)
      ] in
      moves_on good n b (End a b outcome) (with_status x (status_of outcome)) h (λ c. refl)
      (omega (arith, busy, busy_not (status_of outcome) (ended_not outcome), ended_one outcome))
      (rw (stage_not (status_of outcome) x.axis x.command (ended_not outcome), ← on) over)

  -- no word is written
  pub good_idled : (b : ℕ) → b < 32 → is_busy (get_or bs b idle_block).status ≡ false → Good n rs (set bs b idle_block)
  good_idled b h free =
      let x = get_or bs b idle_block in
      record {
        size = length-set bs b idle_block ∙ good.size;
        counts = omega (arith, good.counts, busy_not x.status free, busy_set bs b idle_block (omega (arith, good.size)));
        rounds = each_set (λ c z. c < 32 → Rounds c rs (stage_of z)) bs b idle_block idle_block (omega (arith, good.size))
            (λ k. rw (stage_not x.status x.axis x.command free) at (good.rounds b h)) (λ c ne k. good.rounds c k);
      }
