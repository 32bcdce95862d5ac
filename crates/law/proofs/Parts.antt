-- The whole invariant of a sheet and a row, and the same while the axis a is on its turn. Assumes nothing.
use Rattle.std.proofs.Common.{◌≡◌, ℕ, ◌<◌, true, List, length, set, ℤ, ◌-ℤ◌, Some, None, sym, refl, ◌∙◌}
use Rattle.segment.specs.declared.axis.AxisLook.{AxisLook}
use Rattle.segment.specs.Row.{Row}
use Rattle.records.specs.declared.kinds.Record.{Record}
use Rattle.records.specs.declared.motion.AxisState.{AxisState}
use Rattle.records.specs.declared.motion.AxisState.TheVariants.{Disabled, Standstill, Stopping, DiscreteMotion, ContinuousMotion, ErrorStop}
use Rattle.moves.specs.declared.table.Axis.{Axis}
use Rattle.moves.specs.declared.table.Block.{Block}
use Rattle.moves.specs.declared.table.Status.TheVariants.{Waiting}
use Rattle.moves.specs.Blocks.{is_move, state_under}
use Rattle.moves.specs.Sheet.{Sheet}
use Rattle.law.specs.Readings.{LastTarget}
use Rattle.law.proofs.Lines.{nth, axle, Line, Lines, Leaves, each_axle, lines_with}
use Rattle.law.proofs.Told.{Told}

-- a state without an active command
abbrev pub Rests : AxisState → Type 0
Rests Disabled = Unit {0}
Rests Standstill = Unit {0}
Rests Stopping = Unit {0}
Rests DiscreteMotion = ⊥
Rests ContinuousMotion = ⊥
Rests ErrorStop = Unit {0}

-- the state of an axis is that of its active command, and under a stop nothing waits
pub record Fits (bs : List Block) (y : Axis) : Type 0 where
  pub rests : y.active ≡ None → Rests y.state
  pub under : (b : ℕ) → y.active ≡ Some b → y.state ≡ state_under (nth bs b).command
  pub alone : (b : ℕ) → y.active ≡ Some b → y.state ≡ Stopping → (y.waiting ≡ 0) × (y.stop ≡ Some b)
  pub stop : (b : ℕ) → y.stop ≡ Some b → y.state ≡ Stopping

-- the block b leads to the target behind its last begin, of which this remains
pub record Aimed (rs : List Record) (b : ℕ) (remains demand : ℤ) : Type 0 where
  pub target : ℤ
  pub last : LastTarget b rs target
  pub way : remains ≡ target -ℤ demand

-- an active move leads to its target
pub record Aims (rs : List Record) (bs : List Block) (y : Axis) (look : AxisLook) : Type 0 where
  pub aimed : (b : ℕ) → y.active ≡ Some b → is_move (nth bs b).command ≡ true → Aimed rs b y.distance_to_go look.demand

pub record Part (C : ℕ → Type 0) (n : ℕ) (before : List ℕ) (rs : List Record) (s : Sheet) (row : Row) : Type 0 where
  pub told : Told n before rs s
  pub lines : Lines s.table.blocks s.table.axes
  pub fits : (d : ℕ) → Fits s.table.blocks (axle s.table.axes d)
  pub aims : (d : ℕ) → C d → Aims rs s.table.blocks (axle s.table.axes d) (row.at d)

-- all of it but what the axis a owes when its turn is over
pub record Open (a : ℕ) (C : ℕ → Type 0) (n : ℕ) (before : List ℕ) (rs : List Record) (s : Sheet) (row : Row) : Type 0 where
  pub told : Told n before rs s
  pub lines : Lines s.table.blocks s.table.axes
  pub fits : (d : ℕ) → (d ≡ a → ⊥) → Fits s.table.blocks (axle s.table.axes d)
  pub aims : (d : ℕ) → (d ≡ a → ⊥) → C d → Aims rs s.table.blocks (axle s.table.axes d) (row.at d)

pub opened : {C : ℕ → Type 0} {n : ℕ} {before : List ℕ} {rs : List Record} {s : Sheet} {row : Row} (a : ℕ) → Part C n before rs s row → Open a C n before rs s row
opened a p = record { told = p.told; lines = p.lines; fits = λ d ne. p.fits d; aims = λ d ne c. p.aims d c }

-- what is asked of each axis but a
abbrev pub But : ℕ → (ℕ → Type 0) → ℕ → Type 0
But a C d = (d ≡ a → ⊥) → C d

-- targets stay the last ones, but for those of blocks that wait on the axis a
abbrev pub Targets : ℕ → List Block → List Record → List Record → Type 0
Targets a bs rs qs = (b : ℕ) → ((nth bs b).axis ≡ a → (nth bs b).status ≡ Waiting → ⊥) → (target : ℤ) → LastTarget b rs target → LastTarget b qs target

-- ---- the other axes

fits_left : {a d : ℕ} {bs cs : List Block} {y : Axis} → Leaves a bs cs → (d ≡ a → ⊥) → Line bs d y → Fits bs y → Fits cs y
fits_left left ne line fits = record {
  rests = fits.rests;
  under = λ b e. rw (left.others b (λ i. ne (sym (line.running b e).axis ∙ i))) (fits.under b e);
  alone = fits.alone;
  stop = fits.stop;
}

aims_left : {a d : ℕ} {bs cs : List Block} {rs qs : List Record} {y : Axis} {look seen : AxisLook} → Leaves a bs cs → Targets a bs rs qs → (d ≡ a → ⊥) → Line bs d y → seen.demand ≡ look.demand → Aims rs bs y look → Aims qs cs y seen
aims_left {bs = bs} left targets ne line same aims = record {
  aimed = λ b e move.
      let own : (nth bs b).axis ≡ _ → ⊥ = λ i. ne (sym (line.running b e).axis ∙ i) in
      let old = aims.aimed b e (rw (left.others b own) at move) in
      record {
        target = old.target;
        last = targets b (λ i _. own i) old.target old.last;
        way = rw same old.way;
      };
}

-- a move leads on to its target where the demand and its command stay
pub aims_demand : {rs : List Record} {bs : List Block} {y z : Axis} {look seen : AxisLook} → z.active ≡ y.active → z.distance_to_go ≡ y.distance_to_go → seen.demand ≡ look.demand → Aims rs bs y look → Aims rs bs z seen
aims_demand e f g aims = record {
  aimed = λ b i m. let old = aims.aimed b (sym e ∙ i) m in record { target = old.target; last = old.last; way = rw (f, g) old.way };
}

-- ---- a move of the axis a, which goes on with its turn

module _ {a : ℕ} {C : ℕ → Type 0} {n : ℕ} {before : List ℕ} {rs : List Record} {s : Sheet} {row : Row} (o : Open a C n before rs s row) where
  pub open_on :
      {m : ℕ} {qs : List Record} {u : Sheet} → Told m before qs u → (y : Axis) → u.table.axes ≡ set s.table.axes a y → a < 8 →
      Leaves a s.table.blocks u.table.blocks → length y.queue ≡ 4 → Line u.table.blocks a y →
      Targets a s.table.blocks rs qs → Open a C m before qs u row
  open_on {qs = qs} {u = u} t y axes ha left long line targets = record {
    told = t;
    lines = rw axes (lines_with o.lines left ha y long line);
    fits = rw axes
        (each_axle (λ d z. (d ≡ a → ⊥) → Fits u.table.blocks z) s.table.axes a y o.lines.size ha (λ ne. absurd (ne refl))
        (λ d ne _. fits_left left ne (o.lines.each d) (o.fits d ne)));
    aims = rw axes
        (each_axle (λ d z. (d ≡ a → ⊥) → C d → Aims qs u.table.blocks z (row.at d)) s.table.axes a y o.lines.size ha (λ ne. absurd (ne refl))
        (λ d ne _ c. aims_left left targets ne (o.lines.each d) refl (o.aims d ne c)));
  }

  -- a move that ends the turn
  pub close_on :
      {m : ℕ} {qs : List Record} {u : Sheet} → Told m before qs u → (y : Axis) → u.table.axes ≡ set s.table.axes a y → a < 8 →
      Leaves a s.table.blocks u.table.blocks → length y.queue ≡ 4 → Line u.table.blocks a y →
      Targets a s.table.blocks rs qs → Fits u.table.blocks y →
      (after : Row) → ((d : ℕ) → (d ≡ a → ⊥) → (after.at d).demand ≡ (row.at d).demand) →
      Aims qs u.table.blocks y (after.at a) → Part (But a C) m before qs u after
  close_on {qs = qs} {u = u} t y axes ha left long line targets fits after same aims = record {
    told = t;
    lines = rw axes (lines_with o.lines left ha y long line);
    fits = rw axes
        (each_axle (λ d z. Fits u.table.blocks z) s.table.axes a y o.lines.size ha fits
        (λ d ne. fits_left left ne (o.lines.each d) (o.fits d ne)));
    aims = rw axes
        (each_axle (λ d z. But a C d → Aims qs u.table.blocks z (after.at d)) s.table.axes a y o.lines.size ha (λ _. aims)
        (λ d ne c. aims_left left targets ne (o.lines.each d) (same d ne) (o.aims d ne (c ne))));
  }
