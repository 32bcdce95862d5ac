-- What each call of a segment answers, and the row that it leaves. Assumes nothing.
use Rattle.std.specs.Prelude.{◌≡◌, ℕ, Bool, cond, ◌&&◌, ℤ, Some, None, Ok, Err, Option, Result, ◌==◌, int_le, nat_le, nat_lt}
use Rattle.segment.specs.declared.axis.AxisLook.{AxisLook}
use Rattle.segment.specs.declared.axis.Power.{Power}
use Rattle.segment.specs.declared.axis.Power.TheVariants.{Off, Coming, On}
use Rattle.segment.specs.declared.refusal.Reason.{Reason}
use Rattle.segment.specs.declared.refusal.Reason.TheVariants.{NoSuchAxis, Faulted, PowerNotOn, OutOfRange, TripCode}
use Rattle.segment.specs.declared.refusal.Refusal.{Refusal}
use Rattle.segment.specs.Row.{Row, changed}

-- ---- what a call does to an axis

-- the axis with this power
abbrev pub with_power : Power → AxisLook → AxisLook
with_power power a = record { power = power; demand = a.demand; actual = a.actual; fault = a.fault; low = a.low; high = a.high }

-- off becomes coming
abbrev pub asked_for : Power → Power
asked_for Off = Coming
asked_for Coming = Coming
asked_for On = On

-- power on: off becomes coming if there is no fault
abbrev pub powered : AxisLook → AxisLook
powered a = with_power (cond (a.fault == 0) (asked_for a.power) a.power) a

-- power off
abbrev pub unpowered : AxisLook → AxisLook
unpowered a = with_power Off a

-- follow: demand becomes the position
abbrev pub followed : ℤ → AxisLook → AxisLook
followed position a = record { power = a.power; demand = position; actual = a.actual; fault = a.fault; low = a.low; high = a.high }

-- the axis with this fault and power
abbrev pub with_fault : ℕ → Power → AxisLook → AxisLook
with_fault fault power a = record { power = power; demand = a.demand; actual = a.actual; fault = fault; low = a.low; high = a.high }

-- trip: the fault becomes the code if there was none, and power is off
abbrev pub tripped : ℕ → AxisLook → AxisLook
tripped code a = with_fault (cond (a.fault == 0) code a.fault) Off a

-- clear: the fault becomes 0
abbrev pub cleared : AxisLook → AxisLook
cleared a = with_fault 0 a.power a

-- ---- why a call is refused, in the order of the checks

-- the axis is not there
abbrev pub axis_reason : Row → ℕ → Option Reason
axis_reason row axis = cond (nat_lt axis row.count) None (Some NoSuchAxis)

-- the position lies in the axis's range
abbrev pub in_range : AxisLook → ℤ → Bool
in_range a position = int_le a.low position && int_le position a.high

-- a position, if it lies in the axis's range
abbrev pub in_range_or_none : AxisLook → ℤ → Option ℤ
in_range_or_none a position = cond (in_range a position) (Some position) None

-- power is not on, or else the next reason
abbrev pub unless_on : Power → Option Reason → Option Reason
unless_on Off others = Some PowerNotOn
unless_on Coming others = Some PowerNotOn
unless_on On others = others

-- an axis does not follow with a fault, without power, or out of its range
abbrev pub ready_reason : AxisLook → ℤ → Option Reason
ready_reason a position =
    cond (a.fault == 0) (unless_on a.power (cond (in_range a position) None (Some OutOfRange))) (Some Faulted)

-- why a follow is refused
abbrev pub follow_reason : Row → ℕ → ℤ → Option Reason
follow_reason row axis position = cond (nat_lt axis row.count) (ready_reason (row.at axis) position) (Some NoSuchAxis)

-- why a trip is refused
abbrev pub trip_reason : Row → ℕ → ℕ → Option Reason
trip_reason row axis code =
    cond (nat_lt axis row.count) (cond (nat_le 1 code && nat_le code 15) None (Some TripCode)) (Some NoSuchAxis)

-- ---- answers

-- a call that is not refused leaves the row after it, and a refused one the row before; the depth is left open
abbrev pub Answers : {X : Type 0} → Option Reason → Row → Row → Result X Refusal → Row → Type 0
Answers reason before after (Ok x) left = (reason ≡ None) × (left ≡ after)
Answers reason before after (Err e) left = (reason ≡ Some e.reason) × (left ≡ before)

-- what a look answers
abbrev pub Looked : Row → ℕ → Result AxisLook Refusal → Type 0
Looked row axis (Ok a) = (axis_reason row axis ≡ None) × (a ≡ row.at axis)
Looked row axis (Err e) = axis_reason row axis ≡ Some e.reason

-- what power on answers and leaves
abbrev pub PoweredOn : Row → ℕ → Result (Unit {0}) Refusal → Row → Type 0
PoweredOn row axis r left = Answers (axis_reason row axis) row (changed powered row axis) r left

-- what power off answers and leaves
abbrev pub PoweredOff : Row → ℕ → Result (Unit {0}) Refusal → Row → Type 0
PoweredOff row axis r left = Answers (axis_reason row axis) row (changed unpowered row axis) r left

-- what a follow answers and leaves
abbrev pub Followed : Row → ℕ → ℤ → Result (Unit {0}) Refusal → Row → Type 0
Followed row axis position r left =
    Answers (follow_reason row axis position) row (changed (followed position) row axis) r left

-- what a trip answers and leaves
abbrev pub Tripped : Row → ℕ → ℕ → Result (Unit {0}) Refusal → Row → Type 0
Tripped row axis code r left = Answers (trip_reason row axis code) row (changed (tripped code) row axis) r left

-- what a clear answers and leaves
abbrev pub Cleared : Row → ℕ → Result (Unit {0}) Refusal → Row → Type 0
Cleared row axis r left = Answers (axis_reason row axis) row (changed cleared row axis) r left

-- an answer from below, handed up by a stage: the reason is kept
abbrev pub Handed : {X : Type 0} → Result X Refusal → Result X Refusal → Type 0
Handed (Ok x) (Ok y) = x ≡ y
Handed (Ok x) (Err f) = ⊥
Handed (Err e) (Ok y) = ⊥
Handed (Err e) (Err f) = f.reason ≡ e.reason
