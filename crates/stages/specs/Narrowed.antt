-- What soft limits show of the row below them, and what they refuse themselves. Assumes nothing.
use Rattle.std.specs.Prelude.{◌≡◌, refl, Bool, ◌||◌, ℤ, Some, Ok, Err, Option, Result, int_lt}
use Rattle.std.proofs.Common.{arith, rules}
use Rattle.std.specs.Int.{int_max, int_min}
use Rattle.std.proofs.lemmas.Int.{ints, clamps}
use Rattle.segment.specs.declared.axis.AxisLook.{AxisLook}
use Rattle.segment.specs.declared.refusal.Reason.{Reason}
use Rattle.segment.specs.declared.refusal.Refusal.{Refusal}
use Rattle.segment.specs.Calls.{ready_reason}
use Rattle.segment.specs.Row.{Row, Sound, SoundRow, mapped}
use Rattle.stages.specs.declared.limits.Limits.{Limits}
use Rattle.stages.specs.View.{KeepsCalls, seen_sound}

-- an axis with its low raised and its high lowered to the limits
abbrev pub narrowed : Limits → AxisLook → AxisLook
narrowed limits a =
    record {
      power = a.power;
      demand = a.demand;
      actual = a.actual;
      fault = a.fault;
      low = int_max a.low limits.low;
      high = int_min a.high limits.high;
    }

-- the row that soft limits show
abbrev pub narrowed_row : Limits → Row → Row
narrowed_row limits = mapped (λ _. narrowed limits)

-- the position is below low or above high
abbrev pub outside : Limits → ℤ → Bool
outside limits position = int_lt position limits.low || int_lt limits.high position

-- a refusal for this reason by the stage that is asked itself
pub record OwnRefusal (why : Option Reason) (refusal : Refusal) : Type 0 where
  pub reason : why ≡ Some refusal.reason
  pub depth : refusal.depth ≡ 0

-- an order that goes on down has one answer with the limits and without them, and any other is refused by the stage itself
abbrev pub Admitted : Limits → AxisLook → ℤ → Result (Unit {0}) Refusal → Type 0
Admitted limits a position (Ok x) = ready_reason (narrowed limits a) position ≡ ready_reason a position
Admitted limits a position (Err e) = OwnRefusal (ready_reason (narrowed limits a) position) e

-- ---- soft limits over a sound row show a sound row

pub axis_sound : (limits : Limits) (a : AxisLook) → Sound a → Sound (narrowed limits a)
axis_sound limits a s = grind (arith, ints, clamps)

pub narrowed_sound : (limits : Limits) (row : Row) → SoundRow row → SoundRow (narrowed_row limits row)
narrowed_sound limits = seen_sound (λ _. narrowed limits) (λ _. axis_sound limits)

-- ---- soft limits keep every call but a follow

pub narrowed_keeps_calls : (limits : Limits) → KeepsCalls (λ _. narrowed limits)
narrowed_keeps_calls limits =
    record { power_on = λ _ _. refl; power_off = λ _ _. refl; trip = λ _ _ _. refl; clear = λ _ _. refl; cycle = λ _ before after c. search rules }
