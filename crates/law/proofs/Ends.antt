-- The commands of an axis end. Assumes nothing.
use Rattle.std.proofs.Common.{◌≡◌, ℕ, zero, suc, ◌<◌, Bool, true, false, ◌⊎◌, List, ◌∷◌, get_or, set, ℤ, Some, None, Option, sym, refl, ap, ◌∙◌, inl, inr, zero-add, arith}
use Rattle.std.proofs.lemmas.List.{get_or-set_same, get_or-set_other}
use Rattle.std.proofs.lemmas.Bool.{ne_eqb}
use Rattle.segment.specs.Row.{Row}
use Rattle.records.specs.declared.kinds.Record.{Record}
use Rattle.records.specs.declared.kinds.Record.TheVariants.{Begin, End}
use Rattle.records.specs.declared.motion.AxisState.{AxisState}
use Rattle.records.specs.declared.motion.Command.{Command}
use Rattle.records.specs.declared.outcome.Outcome.{Outcome}
use Rattle.words.specs.Words.{lawful_outcome}
use Rattle.moves.specs.declared.table.Axis.{Axis}
use Rattle.moves.specs.declared.table.Block.{Block}
use Rattle.moves.specs.declared.table.Status.{Status}
use Rattle.moves.specs.declared.table.Status.TheVariants.{Waiting, Active}
use Rattle.moves.specs.Axes.{without_commands}
use Rattle.moves.specs.Blocks.{with_status, status_of}
use Rattle.moves.specs.Moves.{ended, ended_upto, ended_active, emptied}
use Rattle.moves.specs.Sheet.{Sheet, idle_block}
use Rattle.law.specs.Laws.Accounts.{is_done}
use Rattle.law.specs.Laws.Arrivals.{done_ends}
use Rattle.law.specs.Readings.{LastAccept, LastTarget}
use Rattle.law.proofs.Lasts.{accept_before, done_end_not}
use Rattle.law.proofs.Lines.{nth, axle, At, Leaves, at_same, leaves_all, leaves_then, leaves_status, apart_by, line_none}
use Rattle.law.proofs.Parts.{Open, Targets, open_on}
use Rattle.law.proofs.Told.{Told, told_ended, told_kept, begin_records, state_records}

-- ---- what a move of the axis a adds to the records

-- no accept, no end done, and no begin of another axis's block
pub record Adds (a : ℕ) (bs : List Block) (rs qs : List Record) : Type 0 where
  pub targets : Targets a bs rs qs
  pub accepts : {b axis : ℕ} {command : Command} → LastAccept b qs axis command → LastAccept b rs axis command
  pub dones : (b : ℕ) → done_ends b qs ≡ done_ends b rs

pub adds_none : (a : ℕ) (bs : List Block) (rs : List Record) → Adds a bs rs rs
adds_none a bs rs = record { targets = λ b ne t last. last; accepts = λ last. last; dones = λ b. refl }

pub adds_then : {a : ℕ} {bs cs : List Block} {rs qs ps : List Record} → Leaves a bs cs → Adds a bs rs qs → Adds a cs qs ps → Adds a bs rs ps
adds_then left one two = record {
  targets = λ b ne t last. two.targets b (λ e f. ne (sym (left.axes b) ∙ e) (left.waits b f)) t (one.targets b ne t last);
  accepts = λ last. one.accepts (two.accepts last);
  dones = λ b. two.dones b ∙ one.dones b;
}

pub adds_end : (a : ℕ) (bs : List Block) (rs : List Record) (d b : ℕ) (o : Outcome) → is_done o ≡ false → Adds a bs rs (End d b o ∷ rs)
adds_end a bs rs d b o e = record {
  targets = λ c ne t last. LastTarget.before refl last;
  accepts = λ last. accept_before refl last;
  dones = λ c. omega (arith, done_end_not c d b o e);
}

pub adds_state : (a : ℕ) (bs : List Block) (rs : List Record) (same : Bool) (d : ℕ) (old new : AxisState) → Adds a bs rs (state_records same d old new rs)
adds_state a bs rs true d old new = adds_none a bs rs
adds_state a bs rs false d old new = record {
  targets = λ c ne t last. LastTarget.before refl last;
  accepts = λ last. accept_before refl last;
  dones = λ c. zero-add _;
}

pub adds_begin : (a : ℕ) (bs : List Block) (rs : List Record) (b : ℕ) (target : Option ℤ) → (nth bs b).axis ≡ a → (nth bs b).status ≡ Waiting → Adds a bs rs (begin_records a b target rs)
adds_begin a bs rs b target e f = by target
  where
    first : Adds a bs rs (Begin a b ∷ rs)
    first = record {
      targets = λ c ne t last. LastTarget.before (ne_eqb b c (λ i. ne (cc) (cc))) last;
      accepts = λ last. accept_before refl last;
      dones = λ c. zero-add _;
    }

    by : (aim : Option ℤ) → Adds a bs rs (begin_records a b aim rs)
    by None = first
    by (Some t) = record {
      targets = λ c ne t last. LastTarget.before refl (first.targets c ne t last);
      accepts = λ last. first.accepts (accept_before refl last);
      dones = λ c. zero-add _ ∙ first.dones c;
    }

-- ---- one command ends

-- what a row of moves on the axis a leads to: its axes are those before
pub record Ran (a n : ℕ) (before : List ℕ) (rs : List Record) (s : Sheet) (qs : List Record) (u : Sheet) : Type 0 where
  pub tells : Told n before qs u
  pub leaves : Leaves a s.table.blocks u.table.blocks
  pub axes : u.table.axes ≡ s.table.axes
  pub adds : Adds a s.table.blocks rs qs

-- an ended command does not wait
status_waits : (o : Outcome) → status_of o ≡ Waiting → ⊥
status_waits o e = grind arith

-- an ended command is not active
status_ended : (o : Outcome) → status_of o ≡ Active → ⊥
status_ended o e = grind arith

module _ {n : ℕ} {before : List ℕ} {rs : List Record} {s : Sheet} (t : Told n before rs s) (a b : ℕ) (o : Outcome) (hb : b < 32) where
  -- the blocks that are active then were so, and are others
  pub ended_active_ones : {c d : ℕ} → At (ended s a b o).table.blocks c d Active → At s.table.blocks c d Active × (c ≡ b → ⊥)
  unfolding ended
  ended_active_ones {c} at =
      let bs = s.table.blocks in
      let x = with_status (nth bs b) (status_of o) in
      let other : c ≡ b → ⊥ = λ e. status_ended o (rw (e, get_or-set_same bs b x idle_block (omega (arith, t.good.size))) at at.stands) in
      (at_same bs (sym (get_or-set_other bs b c x idle_block other)) at, other)

  pub ended_other : (c : ℕ) → (c ≡ b → ⊥) → nth (ended s a b o).table.blocks c ≡ nth s.table.blocks c
  unfolding ended
  ended_other c ne = get_or-set_other s.table.blocks b c _ idle_block ne

  pub ended_axes : (ended s a b o).table.axes ≡ s.table.axes
  unfolding ended
  ended_axes = refl

  pub ended_leaves : (nth s.table.blocks b).axis ≡ a → Leaves a s.table.blocks (ended s a b o).table.blocks
  unfolding ended
  ended_leaves axis = leaves_status a b s.table.blocks (status_of o) (status_waits o) (omega (arith, t.good.size)) axis

-- a status that may end with this outcome
abbrev pub MayEnd : Status → Outcome → Type 0
MayEnd status o = (status ≡ Active) ⊎ ((status ≡ Waiting) × (is_done o ≡ false))

pub ran_ended :
    {n : ℕ} {before : List ℕ} {rs : List Record} {s : Sheet} → Told n before rs s → (a b : ℕ) (o : Outcome) → a < 8 →
    {status : Status} → At s.table.blocks b a status → MayEnd status o → lawful_outcome o ≡ true → is_done o ≡ false →
    Ran a n before rs s (End a b o ∷ rs) (ended s a b o)
ran_ended {rs = rs} {s = s} t a b o ha at may lawful undone = record {
  tells = told_ended t a b o ha at.within lawful at.axis (rw at.stands may);
  leaves = ended_leaves t a b o at.within at.axis;
  axes = ended_axes t a b o at.within;
  adds = adds_end a s.table.blocks rs a b o undone;
}

pub ran_none : {n : ℕ} {before : List ℕ} {rs : List Record} {s : Sheet} → Told n before rs s → (a : ℕ) → Ran a n before rs s rs s
ran_none {rs = rs} {s = s} t a = record { tells = t; leaves = leaves_all a s.table.blocks; axes = refl; adds = adds_none a s.table.blocks rs }

pub ran_then :
    {a n : ℕ} {before : List ℕ} {rs qs ps : List Record} {s u v : Sheet} → Ran a n before rs s qs u → Ran a n before qs u ps v →
    Ran a n before rs s ps v
ran_then one two = record {
  tells = two.tells;
  leaves = leaves_then one.leaves two.leaves;
  axes = two.axes ∙ one.axes;
  adds = adds_then one.leaves one.adds two.adds;
}

-- ---- those that wait end

-- the records of the ends of the first m blocks of a queue
abbrev pub queue_records : ℕ → List ℕ → Outcome → ℕ → List Record → List Record
queue_records a queue o zero rs = rs
queue_records a queue o (suc m) rs = End a (get_or queue m 0) o ∷ queue_records a queue o m rs

record Upto (a n : ℕ) (before : List ℕ) (rs : List Record) (s : Sheet) (queue : List ℕ) (o : Outcome) (m : ℕ) : Type 0 where
  ran : Ran a n before rs s (queue_records a queue o m rs) (ended_upto s a queue o m)
  rest : (c : ℕ) → ((k : ℕ) → k < m → c ≡ get_or queue k 0 → ⊥) → nth (ended_upto s a queue o m).table.blocks c ≡ nth s.table.blocks c
  active : {c : ℕ} → At (ended_upto s a queue o m).table.blocks c a Active → At s.table.blocks c a Active

upto :
    {n : ℕ} {before : List ℕ} {rs : List Record} {s : Sheet} → Told n before rs s → (a : ℕ) (queue : List ℕ) (o : Outcome) → a < 8 →
    lawful_outcome o ≡ true → is_done o ≡ false → (m : ℕ) →
    ((k : ℕ) → k < m → At s.table.blocks (get_or queue k 0) a Waiting) →
    ((j k : ℕ) → j < k → k < m → get_or queue j 0 ≡ get_or queue k 0 → ⊥) → Upto a n before rs s queue o m
unfolding ended_upto
upto t a queue o ha lawful undone zero at apart = record { ran = ran_none t a; rest = λ c ne. refl; active = λ z. z }
upto {s = s} t a queue o ha lawful undone (suc m) at apart =
    let so = upto t a queue o ha lawful undone m (λ k h. at k (omega arith)) (λ j k h i. apart j k h (omega arith)) in
    let here = at m (omega arith) in
    let u = ended_upto s a queue o m in
    let last = get_or queue m 0 in
    let same : At u.table.blocks last a Waiting = at_same u.table.blocks (so.rest last (λ k h e. apart k m h (omega arith) (sym e))) here in
    record {
      ran = ran_then so.ran (ran_ended so.ran.tells a last o ha same (inr (refl, undone)) lawful undone);
      rest = λ c ne. ended_other so.ran.tells a last o here.within c (ne m (omega arith)) ∙ so.rest c (λ k h. ne k (omega arith));
      active = λ z. so.active (ended_active_ones so.ran.tells a last o here.within z).0;
    }

-- ---- the active one ends

abbrev pub active_records : ℕ → Option ℕ → Outcome → List Record → List Record
active_records a None o rs = rs
active_records a (Some b) o rs = End a b o ∷ rs

record First (a n : ℕ) (before : List ℕ) (rs : List Record) (s : Sheet) (active : Option ℕ) (o : Outcome) : Type 0 where
  ran : Ran a n before rs s (active_records a active o rs) (ended_active s a active o)
  rest : (c : ℕ) → (active ≡ Some c → ⊥) → nth (ended_active s a active o).table.blocks c ≡ nth s.table.blocks c
  none : {c : ℕ} → At (ended_active s a active o).table.blocks c a Active → ⊥

first :
    {n : ℕ} {before : List ℕ} {rs : List Record} {s : Sheet} → Told n before rs s → (a : ℕ) (active : Option ℕ) (o : Outcome) → a < 8 →
    lawful_outcome o ≡ true → is_done o ≡ false → ((b : ℕ) → active ≡ Some b → At s.table.blocks b a Active) →
    ((b : ℕ) → At s.table.blocks b a Active → active ≡ Some b) → First a n before rs s active o
unfolding ended_active
first t a None o ha lawful undone running only = record {
  ran = ran_none t a;
  rest = λ c ne. refl;
  none = λ {c} at. let e = only c at in cc;
}
first t a (Some b) o ha lawful undone running only =
    let at = running b refl in
    record {
      ran = ran_ended t a b o ha at (inl refl) lawful undone;
      rest = λ c ne. ended_other t a b o at.within c (λ e. ne (ap Some (sym e)));
      none = λ {c} z.
          let old = ended_active_ones t a b o at.within z in
          let e = only c old.0 in old.1 cc;
    }

-- ---- all commands of an axis end

abbrev pub empty_records : ℕ → Axis → Outcome → List Record → List Record
empty_records a y o rs = queue_records a y.queue o y.waiting (active_records a y.active o rs)

-- what is left of an open turn
pub record Emptied (a : ℕ) (C : ℕ → Type 0) (n : ℕ) (before : List ℕ) (rs : List Record) (s : Sheet) (row : Row) (o : Outcome) : Type 0 where
  pub still : Open a C n before (empty_records a (axle s.table.axes a) o rs) (emptied s a o) row
  pub adds : Adds a s.table.blocks rs (empty_records a (axle s.table.axes a) o rs)
  pub leaves : Leaves a s.table.blocks (emptied s a o).table.blocks
  pub own : axle (emptied s a o).table.axes a ≡ without_commands (axle s.table.axes a)
  pub rest : (c : ℕ) → ((axle s.table.axes a).active ≡ Some c → ⊥) → ((k : ℕ) → k < (axle s.table.axes a).waiting → c ≡ get_or (axle s.table.axes a).queue k 0 → ⊥)
      → nth (emptied s a o).table.blocks c ≡ nth s.table.blocks c
  pub none : {c : ℕ} → At (emptied s a o).table.blocks c a Active → ⊥
  pub others : (d : ℕ) → (d ≡ a → ⊥) → axle (emptied s a o).table.axes d ≡ axle s.table.axes d

pub emptied_open :
    {a : ℕ} {C : ℕ → Type 0} {n : ℕ} {before : List ℕ} {rs : List Record} {s : Sheet} {row : Row} → Open a C n before rs s row → a < 8 →
    (o : Outcome) → lawful_outcome o ≡ true → is_done o ≡ false → Emptied a C n before rs s row o
unfolding emptied
emptied_open {a} {C} {n} {before} {rs} {s} {row} turn ha o lawful undone =
    let y = axle s.table.axes a in
    let line = turn.lines.each a in
    let one = first turn.told a y.active o ha lawful undone line.running line.only in
    let u = ended_active s a y.active o in
    let waits : (k : ℕ) → k < y.waiting → At u.table.blocks (get_or y.queue k 0) a Waiting =
    λ k h. at_same u.table.blocks (one.rest (get_or y.queue k 0) (λ e. apart_by (line.running _ e) (line.waiting k h) refl)) (line.waiting k h) in
    let all = upto one.ran.tells a y.queue o ha lawful undone y.waiting waits line.apart in
    let v = ended_upto u a y.queue o y.waiting in
    let ran = ran_then one.ran all.ran in
    let none : (c : ℕ) → At v.table.blocks c a Active → ⊥ = λ c at. one.none (all.active at) in
    let done = told_kept ran.tells a (without_commands y) ha (ap (λ axs. (axle axs a).state) (sym ran.axes)) in
    record {
      still = open_on turn done (without_commands y) (ap (λ axs. set axs a (without_commands y)) ran.axes) ha ran.leaves (turn.lines.queues a ha)
          (line_none v.table.blocks a (without_commands y) refl refl none) ran.adds.targets;
      adds = ran.adds;
      leaves = ran.leaves;
      own = rw ran.axes (get_or-set_same s.table.axes a (without_commands y) _ (omega (arith, turn.lines.size)));
      rest = λ c ne nq. all.rest c nq ∙ one.rest c ne;
      none = λ at. none _ at;
      others = λ d ne. rw ran.axes (get_or-set_other s.table.axes a d (without_commands y) _ ne);
    }
