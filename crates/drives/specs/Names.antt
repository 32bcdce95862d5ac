-- The words by which a drive's states print. Assumes nothing.
use Rattle.std.specs.Prelude.{ℕ, List, codes}
use Rattle.drives.specs.declared.drive_state.DriveState.{DriveState}
use Rattle.drives.specs.declared.drive_state.DriveState.TheVariants.{NotReadyToSwitchOn, SwitchOnDisabled, ReadyToSwitchOn, SwitchedOn, OperationEnabled, FaultReactionActive, Fault}

-- the words for a state
abbrev pub state_name : DriveState → List ℕ
state_name NotReadyToSwitchOn = codes "not ready to switch on"
state_name SwitchOnDisabled = codes "switch on disabled"
state_name ReadyToSwitchOn = codes "ready to switch on"
state_name SwitchedOn = codes "switched on"
state_name OperationEnabled = codes "operation enabled"
state_name FaultReactionActive = codes "fault reaction active"
state_name Fault = codes "fault"
