-- What an accepted follow comes to. Assumes nothing.
use Rattle.std.specs.Prelude.{◌≡◌, ℕ, ℤ, Ok, Err, Result}
use Rattle.segment.specs.declared.axis.AxisLook.{AxisLook}
use Rattle.segment.specs.declared.refusal.Refusal.{Refusal}
use Rattle.segment.specs.Calls.{Followed}
use Rattle.segment.specs.Cycle.{Cycled}
use Rattle.segment.specs.Row.{Row}

-- after an accepted follow and a cycle in which no fault arose, the axis shows the position that was followed to
abbrev pub FollowIsShown : Type 0
FollowIsShown =
    (before ordered after : Row) (axis : ℕ) (position : ℤ) (accepted : Unit {0}) →
    Followed before axis position (Ok accepted) ordered → Cycled ordered after →
    (after.at axis).fault ≡ 0 → (after.at axis).demand ≡ position

-- a follow, then a cycle, then a look; a refused follow leaves the row as it was
abbrev pub Moved : Row → ℕ → ℤ → Result AxisLook Refusal → Row → Type 0
Moved before axis position (Ok a) after =
    (ordered : Row) × Followed before axis position (Ok tt) ordered × Cycled ordered after × (a ≡ after.at axis)
Moved before axis position (Err e) after = Followed before axis position (Err e) after
