-- Which request and fault go with a drive state. Assumes nothing.
use Rattle.std.specs.Prelude.{ℕ, Bool, not, ◌&&◌, ◌==◌, nat_le}
use Rattle.drives.specs.declared.drive_state.DriveState.{DriveState}
use Rattle.drives.specs.declared.drive_state.DriveState.TheVariants.{NotReadyToSwitchOn, SwitchOnDisabled, ReadyToSwitchOn, SwitchedOn, OperationEnabled, FaultReactionActive, Fault}

-- power comes and stays only under a request, and a fault is there exactly in the last two states, without a request
abbrev pub fitting : DriveState → Bool → ℕ → Bool
fitting NotReadyToSwitchOn requested fault = fault == 0
fitting SwitchOnDisabled requested fault = fault == 0
fitting ReadyToSwitchOn requested fault = requested && fault == 0
fitting SwitchedOn requested fault = requested && fault == 0
fitting OperationEnabled requested fault = requested && fault == 0
fitting FaultReactionActive requested fault = not requested && nat_le 1 fault && nat_le fault 15
fitting Fault requested fault = not requested && nat_le 1 fault && nat_le fault 15
