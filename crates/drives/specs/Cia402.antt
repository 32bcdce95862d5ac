-- What a CiA 402 axis shows, and what an order makes of it. Assumes nothing.
use Rattle.std.specs.Prelude.{◌≡◌, ℕ, ◌<◌, ◌≤◌, Bool, true, false, cond, not, ◌&&◌, ℤ, ◌+ℤ◌, ◌-ℤ◌, neg_ℤ, ◌==◌, int_lt, nat_le}
use Rattle.std.proofs.Common.{arith}
use Rattle.std.proofs.lemmas.Bool.{eqb-true, leb-true, and_parts}
use Rattle.segment.specs.declared.axis.AxisLook.{AxisLook}
use Rattle.segment.specs.declared.axis.Power.{Power}
use Rattle.segment.specs.declared.axis.Power.TheVariants.{Off, Coming, On}
use Rattle.segment.specs.Row.{Sound, IsOff}
use Rattle.drives.specs.declared.cia402.Cia402Axis.{Cia402Axis}
use Rattle.drives.specs.declared.drive_state.DriveState.{DriveState}
use Rattle.drives.specs.declared.drive_state.DriveState.TheVariants.{NotReadyToSwitchOn, SwitchOnDisabled, ReadyToSwitchOn, SwitchedOn, OperationEnabled, FaultReactionActive, Fault}
use Rattle.drives.specs.Fitting.{fitting}
use Rattle.drives.specs.Orders.{Order, power_on, power_off, follow_to, trip_with, clear_it, cycle_it}

-- what a CiA 402 axis is made of
pub record Axis : Type 0 where
  pub state : DriveState
  pub requested : Bool
  pub fault : ℕ
  pub demand : ℤ
  pub actual : ℤ
  pub low : ℤ
  pub high : ℤ
  pub lag : ℤ

-- the parts of an axis
abbrev pub parts : Cia402Axis → Axis
parts d = record {
  state = d.state;
  requested = d.enable_requested;
  fault = d.fault;
  demand = d.demand;
  actual = d.actual;
  low = d.low;
  high = d.high;
  lag = d.lag.increments;
}

-- ---- what it shows

-- coming under a request
abbrev pub requested_power : Bool → Power
requested_power true = Coming
requested_power false = Off

-- power is on in the fifth state, coming with a request in the first four, and else off
abbrev pub power_of : DriveState → Bool → Power
power_of NotReadyToSwitchOn requested = requested_power requested
power_of SwitchOnDisabled requested = requested_power requested
power_of ReadyToSwitchOn requested = requested_power requested
power_of SwitchedOn requested = requested_power requested
power_of OperationEnabled requested = On
power_of FaultReactionActive requested = Off
power_of Fault requested = Off

-- the look of an axis
abbrev pub cia402_look : Cia402Axis → AxisLook
cia402_look d = record {
  power = power_of d.state d.enable_requested;
  demand = d.demand;
  actual = d.actual;
  fault = d.fault;
  low = d.low;
  high = d.high;
}

-- ---- the arrows between the states

-- from switch on disabled, by the request
abbrev pub when_requested : Bool → DriveState
when_requested true = ReadyToSwitchOn
when_requested false = SwitchOnDisabled

-- a cycle leads each of the first four to the next, the second only under a request, and the sixth to the seventh
abbrev pub state_cycled : DriveState → Bool → DriveState
state_cycled NotReadyToSwitchOn requested = SwitchOnDisabled
state_cycled SwitchOnDisabled requested = when_requested requested
state_cycled ReadyToSwitchOn requested = SwitchedOn
state_cycled SwitchedOn requested = OperationEnabled
state_cycled OperationEnabled requested = OperationEnabled
state_cycled FaultReactionActive requested = Fault
state_cycled Fault requested = Fault

-- power off brings the third to fifth to the second
abbrev pub state_off : DriveState → DriveState
state_off NotReadyToSwitchOn = NotReadyToSwitchOn
state_off SwitchOnDisabled = SwitchOnDisabled
state_off ReadyToSwitchOn = SwitchOnDisabled
state_off SwitchedOn = SwitchOnDisabled
state_off OperationEnabled = SwitchOnDisabled
state_off FaultReactionActive = FaultReactionActive
state_off Fault = Fault

-- clear leads from the last two to the second
abbrev pub state_cleared : DriveState → DriveState
state_cleared NotReadyToSwitchOn = NotReadyToSwitchOn
state_cleared SwitchOnDisabled = SwitchOnDisabled
state_cleared ReadyToSwitchOn = ReadyToSwitchOn
state_cleared SwitchedOn = SwitchedOn
state_cleared OperationEnabled = OperationEnabled
state_cleared FaultReactionActive = SwitchOnDisabled
state_cleared Fault = SwitchOnDisabled

-- ---- positions in a cycle

-- from a towards d, by no more than the lag
abbrev pub nearer : ℤ → ℤ → ℤ → ℤ
nearer a d lag = cond (int_lt lag (d -ℤ a)) (a +ℤ lag) (cond (int_lt (d -ℤ a) (neg_ℤ lag)) (a -ℤ lag) d)

-- the actual of an axis that was on goes to its demand
abbrev pub actual_cycled : DriveState → Axis → ℤ
actual_cycled NotReadyToSwitchOn x = x.actual
actual_cycled SwitchOnDisabled x = x.actual
actual_cycled ReadyToSwitchOn x = x.actual
actual_cycled SwitchedOn x = x.actual
actual_cycled OperationEnabled x = nearer x.actual x.demand x.lag
actual_cycled FaultReactionActive x = x.actual
actual_cycled Fault x = x.actual

-- demand stays where the axis was on, and else is the actual
abbrev pub demand_cycled : DriveState → Axis → ℤ
demand_cycled NotReadyToSwitchOn x = x.actual
demand_cycled SwitchOnDisabled x = x.actual
demand_cycled ReadyToSwitchOn x = x.actual
demand_cycled SwitchedOn x = x.actual
demand_cycled OperationEnabled x = x.demand
demand_cycled FaultReactionActive x = x.actual
demand_cycled Fault x = x.actual

-- ---- orders

-- an axis with this state, request and fault
abbrev pub with_state : DriveState → Bool → ℕ → Axis → Axis
with_state state requested fault x = record {
  state = state;
  requested = requested;
  fault = fault;
  demand = x.demand;
  actual = x.actual;
  low = x.low;
  high = x.high;
  lag = x.lag;
}

-- an axis with this demand and actual
abbrev pub with_positions : ℤ → ℤ → Axis → Axis
with_positions demand actual x = record {
  state = x.state;
  requested = x.requested;
  fault = x.fault;
  demand = demand;
  actual = actual;
  low = x.low;
  high = x.high;
  lag = x.lag;
}

-- what an order makes of an axis
abbrev pub cia402_after : Order → Axis → Axis
cia402_after power_on x = with_state x.state (cond (x.fault == 0) true x.requested) x.fault x
cia402_after power_off x = with_state (state_off x.state) false x.fault x
cia402_after (follow_to position) x = with_positions position x.actual x
cia402_after (trip_with code) x = cond (x.fault == 0) (with_state FaultReactionActive false code x) x
cia402_after clear_it x = with_state (state_cleared x.state) x.requested 0 x
cia402_after cycle_it x =
    with_state (state_cycled x.state x.requested) x.requested x.fault
    (with_positions (demand_cycled x.state x) (actual_cycled x.state x) x)

-- a CiA 402 axis is as the order makes it
abbrev pub Cia402Obeys : Order → Cia402Axis → Cia402Axis → Type 0
Cia402Obeys order before after = parts after ≡ cia402_after order (parts before)

-- ---- it is sound

fault_code : (s : DriveState) (w : Bool) (n : ℕ) → fitting s w n ≡ true → n ≤ 15
fault_code NotReadyToSwitchOn w n e = omega (arith, eqb-true n 0 e)
fault_code SwitchOnDisabled w n e = omega (arith, eqb-true n 0 e)
fault_code ReadyToSwitchOn w n e = omega (arith, eqb-true n 0 (and_parts w (n == 0) e).1)
fault_code SwitchedOn w n e = omega (arith, eqb-true n 0 (and_parts w (n == 0) e).1)
fault_code OperationEnabled w n e = omega (arith, eqb-true n 0 (and_parts w (n == 0) e).1)
fault_code FaultReactionActive w n e = leb-true n 15 (and_parts (not w && nat_le 1 n) (nat_le n 15) e).1
fault_code Fault w n e = leb-true n 15 (and_parts (not w && nat_le 1 n) (nat_le n 15) e).1

fault_is_off : (s : DriveState) (w : Bool) (n : ℕ) → fitting s w n ≡ true → 0 < n → IsOff (power_of s w)
fault_is_off NotReadyToSwitchOn w n e h = absurd (omega (arith, eqb-true n 0 e))
fault_is_off SwitchOnDisabled w n e h = absurd (omega (arith, eqb-true n 0 e))
fault_is_off ReadyToSwitchOn w n e h = absurd (omega (arith, eqb-true n 0 (and_parts w (n == 0) e).1))
fault_is_off SwitchedOn w n e h = absurd (omega (arith, eqb-true n 0 (and_parts w (n == 0) e).1))
fault_is_off OperationEnabled w n e h = absurd (omega (arith, eqb-true n 0 (and_parts w (n == 0) e).1))
fault_is_off FaultReactionActive w n e h = tt
fault_is_off Fault w n e h = tt

pub cia402_sound : (d : Cia402Axis) → Sound (cia402_look d)
cia402_sound d = record {
  demand = d.demand_in;
  actual = d.actual_in;
  low = d.low_in;
  high = d.high_in;
  fault = fault_code d.state d.enable_requested d.fault d.fits;
  power = fault_is_off d.state d.enable_requested d.fault d.fits;
}
