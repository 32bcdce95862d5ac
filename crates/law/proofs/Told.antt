-- Words, blocks and states stay tied while a move changes the table and writes its words. Assumes nothing.
use Rattle.std.proofs.Common.{◌≡◌, ℕ, ◌+◌, ◌^◌, ◌<◌, Bool, true, false, eqb, ◌⊎◌, List, ◌∷◌, ◌++◌, ℤ, Some, None, Option, refl, arith}
use Rattle.std.proofs.lemmas.Bool.{lt-ltb}
use Rattle.records.specs.declared.kinds.Record.{Record}
use Rattle.records.specs.declared.kinds.Record.TheVariants.{Accept, Begin, End, State, Place, Cycle, Target}
use Rattle.records.specs.declared.motion.AxisState.{AxisState}
use Rattle.records.specs.declared.motion.BufferMode.{BufferMode}
use Rattle.records.specs.declared.outcome.Outcome.{Outcome}
use Rattle.records.specs.Numbers.{state_number}
use Rattle.words.specs.Words.{named, may_be, lawful_outcome, in_reach}
use Rattle.moves.specs.declared.instruction.Instruction.{Instruction}
use Rattle.moves.specs.declared.table.Axis.{Axis}
use Rattle.moves.specs.declared.table.Status.TheVariants.{Waiting, Active}
use Rattle.moves.specs.Blocks.{command_of, is_busy}
use Rattle.moves.specs.Moves.{accepted, ended, kept, entered_if, entered, begun, next_cycle, ticked}
use Rattle.moves.specs.Sheet.{Sheet, told}
use Rattle.law.specs.Laws.Accounts.{is_done}
use Rattle.law.specs.Laws.States.{Arrow}
use Rattle.law.proofs.Chains.{Chained, chained_other, chained_kept, chained_entered}
use Rattle.law.proofs.Good.{Good, good_state, good_place, good_cycle, good_target, good_accepted, good_begun, good_ended}
use Rattle.law.proofs.Lines.{nth, axle}
use Rattle.law.proofs.Readings.{Reads, reads_after}

-- the words before and on the sheet tell the records rs, by which its blocks and states stand
pub record Told (n : ℕ) (before : List ℕ) (rs : List Record) (s : Sheet) : Type 0 where
  pub reads : Reads (before ++ s.words) rs
  pub good : Good n rs s.table.blocks
  pub chained : Chained rs s.table.axes

-- axis and block are numbers that there can be
pub named_both : (a b : ℕ) → a < 8 → b < 32 → named a b ≡ true
named_both a b ha hb = grind arith

module _ {n : ℕ} {before : List ℕ} {rs : List Record} {s : Sheet} (t : Told n before rs s) where
  pub told_accepted :
      (a b : ℕ) (instruction : Instruction) (mode : BufferMode) → a < 8 → b < 32 →
      may_be (command_of instruction) mode ≡ true → is_busy (nth s.table.blocks b).status ≡ false →
      Told (1 + n) before (Accept a b (command_of instruction) mode ∷ rs) (accepted s a b instruction mode)
  unfolding accepted
  told_accepted a b instruction mode ha hb may idle = record {
    reads = reads_after before s.words t.reads (Accept a b (command_of instruction) mode) (rw (named_both a b ha hb) may);
    good = good_accepted t.good a b instruction mode hb idle;
    chained = chained_other t.chained (Accept a b (command_of instruction) mode) (λ d. refl);
  }

  pub told_ended :
      (a b : ℕ) (outcome : Outcome) → a < 8 → b < 32 → lawful_outcome outcome ≡ true →
      (nth s.table.blocks b).axis ≡ a →
      ((nth s.table.blocks b).status ≡ Active) ⊎ (((nth s.table.blocks b).status ≡ Waiting) × (is_done outcome ≡ false)) →
      Told n before (End a b outcome ∷ rs) (ended s a b outcome)
  unfolding ended
  told_ended a b outcome ha hb may axis busy = record {
    reads = reads_after before s.words t.reads (End a b outcome) (rw (named_both a b ha hb) may);
    good = good_ended t.good a b outcome hb axis busy;
    chained = chained_other t.chained (End a b outcome) (λ d. refl);
  }

  pub told_placed : (place : ℤ) → in_reach place ≡ true → Told n before (Place place ∷ rs) (told s (Place place))
  told_placed place reach = record {
    reads = reads_after before s.words t.reads (Place place) reach;
    good = good_place t.good place;
    chained = chained_other t.chained (Place place) (λ d. refl);
  }

  pub told_target : (target : ℤ) → in_reach target ≡ true → Told n before (Target target ∷ rs) (told s (Target target))
  told_target target reach = record {
    reads = reads_after before s.words t.reads (Target target) reach;
    good = good_target t.good target;
    chained = chained_other t.chained (Target target) (λ d. refl);
  }

  pub told_kept : (a : ℕ) (y : Axis) → a < 8 → y.state ≡ (axle s.table.axes a).state → Told n before rs (kept s a y)
  told_kept a y ha e = record { reads = t.reads; good = t.good; chained = chained_kept t.chained a y ha e }

  pub told_ticked : Told n before (Cycle (next_cycle s.table.cycles) ∷ rs) (ticked s)
  unfolding ticked
  told_ticked = record {
    reads = reads_after before s.words t.reads (Cycle (next_cycle s.table.cycles))
        (lt-ltb (next_cycle s.table.cycles) (2 ^ 28) (omega arith));
    good = good_cycle t.good (next_cycle s.table.cycles);
    chained = chained_other t.chained (Cycle (next_cycle s.table.cycles)) (λ d. refl);
  }

-- ---- a begin

-- the records of a begin
abbrev pub begin_records : ℕ → ℕ → Option ℤ → List Record → List Record
begin_records a b None rs = Begin a b ∷ rs
begin_records a b (Some target) rs = Target target ∷ Begin a b ∷ rs

-- a target, if there is one, is a position
abbrev pub Reachable : Option ℤ → Type 0
Reachable None = Unit {0}
Reachable (Some target) = in_reach target ≡ true

pub told_begun :
    {n : ℕ} {before : List ℕ} {rs : List Record} {s : Sheet} → Told n before rs s →
    (a b : ℕ) (target : Option ℤ) → a < 8 → b < 32 → Reachable target →
    (nth s.table.blocks b).axis ≡ a → (nth s.table.blocks b).status ≡ Waiting →
    Told n before (begin_records a b target rs) (begun s a b target)
unfolding begun
told_begun {n} {before} {rs} {s} t a b target ha hb reach axis waits = by target reach
  where
    first : Told n before (Begin a b ∷ rs) (begun s a b None)
    first = record {
      reads = reads_after before s.words t.reads (Begin a b) (named_both a b ha hb);
      good = good_begun t.good a b hb waits axis;
      chained = chained_other t.chained (Begin a b) (λ d. refl);
    }

    by : (aim : Option ℤ) → Reachable aim → Told n before (begin_records a b aim rs) (begun s a b aim)
    by None h = first
    by (Some p) h = told_target first p h

-- ---- an axis enters a state

-- the same number is the same state
pub same_state : (old new : AxisState) → eqb (state_number old) (state_number new) ≡ true → new ≡ old
same_state old new e = grind arith

-- the records of an entered state
abbrev pub state_records : Bool → ℕ → AxisState → AxisState → List Record → List Record
state_records true a old new rs = rs
state_records false a old new rs = State a old new ∷ rs

-- one state word, if the states differ
abbrev pub entry_records : ℕ → AxisState → AxisState → List Record → List Record
entry_records a old new rs = state_records (eqb (state_number old) (state_number new)) a old new rs

pub told_entered :
    {n : ℕ} {before : List ℕ} {rs : List Record} {s : Sheet} → Told n before rs s → (a : ℕ) (y : Axis) → a < 8 →
    (eqb (state_number (axle s.table.axes a).state) (state_number y.state) ≡ false → Arrow (axle s.table.axes a).state y.state) →
    Told n before (entry_records a (axle s.table.axes a).state y.state rs) (entered s a y)
unfolding entered
told_entered {n} {before} {rs} {s} t a y ha arrow = by (eqb (state_number old) (state_number y.state)) refl
  where
    old : AxisState
    old = (axle s.table.axes a).state

    by :
        (same : Bool) → eqb (state_number old) (state_number y.state) ≡ same →
        Told n before (state_records same a old y.state rs) (entered_if same s a y)
    by true e = told_kept t a y ha (same_state old y.state e)
    by false e = record {
      reads = reads_after before s.words t.reads (State a old y.state)
          (rw (lt-ltb a 8 ha, e));
      good = good_state t.good a old y.state;
      chained = chained_entered t.chained a y ha (arrow e);
    }
