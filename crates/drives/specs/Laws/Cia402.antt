-- What holds of every CiA 402 drive. Assumes nothing.
use Rattle.std.specs.Prelude.{◌≡◌, ℕ, zero, suc, true, ◌⊎◌, ℤ, pos, ◌-ℤ◌, ◌≤ℤ◌}
use Rattle.std.specs.Int.{int_max, int_min}
use Rattle.drives.specs.declared.drive_state.DriveState.{DriveState}
use Rattle.drives.specs.declared.drive_state.DriveState.TheVariants.{NotReadyToSwitchOn, SwitchOnDisabled, ReadyToSwitchOn, SwitchedOn, OperationEnabled, FaultReactionActive, Fault}
use Rattle.drives.specs.Cia402.{Axis, nearer, state_cycled, cia402_after}
use Rattle.drives.specs.Orders.{Order}

-- ---- the lag

-- from a towards d: never farther than the lag, never past d, and there if the lag reaches
pub record Lags (a d lag next : ℤ) : Type 0 where
  pub least : (a -ℤ lag) ≤ℤ next
  pub most : (next -ℤ a) ≤ℤ lag
  pub low : int_min a d ≤ℤ next
  pub high : next ≤ℤ int_max a d
  pub there : (d -ℤ a) ≤ℤ lag → (a -ℤ d) ≤ℤ lag → next ≡ d

-- a drive's measured position goes to its demand by no more than the lag
abbrev pub LagIsKept : Type 0
LagIsKept = (a d lag : ℤ) → pos 1 ≤ℤ lag → Lags a d lag (nearer a d lag)

-- ---- the states

-- an arrow of the profile: up through the first five, back to switch on disabled, and through the two of a fault
pub data Arrow : DriveState → DriveState → Type 0 where
  started : Arrow NotReadyToSwitchOn SwitchOnDisabled
  shut_down : Arrow SwitchOnDisabled ReadyToSwitchOn
  switched_on : Arrow ReadyToSwitchOn SwitchedOn
  enabled : Arrow SwitchedOn OperationEnabled
  ready_disabled : Arrow ReadyToSwitchOn SwitchOnDisabled
  on_disabled : Arrow SwitchedOn SwitchOnDisabled
  enabled_disabled : Arrow OperationEnabled SwitchOnDisabled
  reacts : {state : DriveState} → Arrow state FaultReactionActive
  faulted : Arrow FaultReactionActive Fault
  reset_early : Arrow FaultReactionActive SwitchOnDisabled
  reset : Arrow Fault SwitchOnDisabled

-- whatever the order, a drive stays in its state or takes one arrow
abbrev pub StatesFollowArrows : Type 0
StatesFollowArrows =
    (order : Order) (x : Axis) → ((cia402_after order x).state ≡ x.state) ⊎ Arrow x.state
    (cia402_after order x).state

-- the state after n cycles under a request
abbrev pub after_cycles : ℕ → DriveState → DriveState
after_cycles zero state = state
after_cycles (suc n) state = after_cycles n (state_cycled state true)

-- a state without a fault
abbrev pub WithoutFault : DriveState → Type 0
WithoutFault NotReadyToSwitchOn = Unit {0}
WithoutFault SwitchOnDisabled = Unit {0}
WithoutFault ReadyToSwitchOn = Unit {0}
WithoutFault SwitchedOn = Unit {0}
WithoutFault OperationEnabled = Unit {0}
WithoutFault FaultReactionActive = ⊥
WithoutFault Fault = ⊥

-- a drive without a fault that is asked for power and then only cycled follows after four cycles
abbrev pub PowersUp : Type 0
PowersUp = (state : DriveState) → WithoutFault state → after_cycles 4 state ≡ OperationEnabled
