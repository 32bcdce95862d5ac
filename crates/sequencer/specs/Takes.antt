-- What becomes of a command that was accepted. Assumes nothing.
use Rattle.std.specs.Prelude.{ℕ, Bool, true, false, ℤ, Option}
use Rattle.records.specs.declared.outcome.Outcome.TheVariants.{Aborted}
use Rattle.moves.specs.Axes.{joined}
use Rattle.moves.specs.Moves.{emptied, kept, started}
use Rattle.moves.specs.Sheet.{Sheet, axis_at}

-- the command of the block b waits on the axis a, or begins at once: then the others end aborted
abbrev pub taken : Bool → Sheet → ℕ → ℕ → Option ℤ → ℤ → Sheet
taken true s a b target demand = kept s a (joined (axis_at s.table a) b)
taken false s a b target demand = started (emptied s a Aborted) a b target demand (axis_at s.table a).queue 0
