-- What a follow below makes of the row that a stage shows. Assumes nothing.
use Rattle.std.proofs.Common.{ℕ, ℤ, Result}
use Rattle.segment.specs.declared.axis.AxisLook.{AxisLook}
use Rattle.segment.specs.declared.refusal.Refusal.{Refusal}
use Rattle.segment.specs.Calls.{Followed, Handed, followed}
use Rattle.segment.specs.Row.{Row, mapped}
use Rattle.segment.proofs.Stages.{answers_up, changed_mapped}
use Rattle.stages.specs.View.{LeadsTo}

pub follow_up :
    (sees : ℕ → AxisLook → AxisLook) (row left : Row) (axis : ℕ) (position order : ℤ) (r s : Result (Unit {0}) Refusal) →
    LeadsTo sees row axis position order → Handed r s → Followed row axis order r left →
    Followed (mapped sees row) axis position s (mapped sees left)
follow_up sees row left axis position order r s leads =
    answers_up sees _ _ row _ _ left r s leads.reason
    (λ accepted. changed_mapped sees (followed order) (followed position) row axis (leads.seen accepted))
