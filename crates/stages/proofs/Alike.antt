-- Axes that answer a follow alike. Assumes nothing.
use Rattle.std.proofs.Common.{◌≡◌, ℤ}
use Rattle.segment.specs.declared.axis.AxisLook.{AxisLook}
use Rattle.segment.specs.Calls.{in_range, ready_reason}

-- of one fault and one power, with positions that are both in range or both not
pub ready_same : (a b : AxisLook) (p q : ℤ) → a.fault ≡ b.fault → a.power ≡ b.power
    → in_range a p ≡ in_range b q → ready_reason a p ≡ ready_reason b q
ready_same a b p q fault power range = cc
