use Rattle.std.proofs.Common.{◌<◌, ℕ}
use Rattle.moves.specs.Sheet.{axis_at}
use Rattle.moves.specs.Sized.{SizedAxis}
use Rattle.moves.proofs.table.Table.sized.Given as goal

abbrev pub invariant-loop-axis : goal.invariant-loop-axis
invariant-loop-axis l = (k : ℕ) → k < l.axis-index → SizedAxis (axis_at l.self k)
