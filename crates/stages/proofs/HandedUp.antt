-- What a stage knows from a look below that it handed up. Assumes nothing.
use Rattle.std.proofs.Common.{◌≡◌, ℕ, None, Ok, Err, Result, sym, ◌∙◌}
use Rattle.segment.specs.declared.axis.AxisLook.{AxisLook}
use Rattle.segment.specs.declared.refusal.Refusal.{Refusal}
use Rattle.segment.specs.Row.{Row}
use Rattle.segment.specs.Calls.{Looked, Handed, axis_reason}

-- the axis is there, and looks so below
pub looked_up : (row : Row) (axis : ℕ) (r : Result AxisLook Refusal) (look : AxisLook) → Looked row axis r → Handed r (Ok look)
    → (axis_reason row axis ≡ None) × (look ≡ row.at axis)
looked_up row axis (Ok a) look seen same = (seen.0, sym same ∙ seen.1)
looked_up row axis (Err e) look seen same = absurd same
