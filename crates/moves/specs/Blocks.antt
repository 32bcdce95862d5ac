-- What a block holds, and where its command leads. Assumes nothing.
use Rattle.std.specs.Prelude.{ℕ, Bool, true, false, ℤ, pos, ◌+ℤ◌, ◌-ℤ◌, Some, None, Ok, Err, Option, Result}
use Rattle.segment.specs.declared.axis.AxisLook.{AxisLook}
use Rattle.segment.specs.Calls.{in_range_or_none}
use Rattle.records.specs.declared.motion.AxisState.{AxisState}
use Rattle.records.specs.declared.motion.AxisState.TheVariants.{Stopping, DiscreteMotion, ContinuousMotion}
use Rattle.records.specs.declared.motion.BufferMode.{BufferMode}
use Rattle.records.specs.declared.motion.Command.{Command}
use Rattle.records.specs.declared.motion.Command.TheVariants as command
use Rattle.records.specs.declared.outcome.Outcome.{Outcome}
use Rattle.records.specs.declared.outcome.Outcome.TheVariants as outcome
use Rattle.moves.specs.declared.aim.OutOfRange.{OutOfRange}
use Rattle.moves.specs.declared.instruction.Instruction.{Instruction}
use Rattle.moves.specs.declared.instruction.Instruction.TheVariants.{Absolute, Relative, Velocity, Halt, Stop}
use Rattle.moves.specs.declared.table.Block.{Block}
use Rattle.moves.specs.declared.table.Status.{Status}
use Rattle.moves.specs.declared.table.Status.TheVariants.{Idle, Waiting, Active, Done, Aborted, Error}

-- the command of an instruction
abbrev pub command_of : Instruction → Command
command_of (Absolute position top acceleration) = command.Absolute
command_of (Relative distance top acceleration) = command.Relative
command_of (Velocity velocity acceleration) = command.Velocity
command_of (Halt acceleration) = command.Halt
command_of (Stop acceleration) = command.Stop

-- a block that waits, with these values
abbrev pub waiting_block : ℕ → Command → BufferMode → ℤ → ℕ → ℕ → Block
waiting_block axis command mode value top acceleration = record {
  status = Waiting;
  axis = axis;
  command = Some command;
  mode = mode;
  value = value;
  max_velocity = top;
  max_acceleration = acceleration;
}

-- the block of an instruction: each value that the command does not use is 0
abbrev pub block_of : ℕ → Instruction → BufferMode → Block
block_of axis (Absolute position top acceleration) mode =
    waiting_block axis command.Absolute mode position top acceleration
block_of axis (Relative distance top acceleration) mode =
    waiting_block axis command.Relative mode distance top acceleration
block_of axis (Velocity velocity acceleration) mode =
    waiting_block axis command.Velocity mode velocity 0 acceleration
block_of axis (Halt acceleration) mode = waiting_block axis command.Halt mode (pos 0) 0 acceleration
block_of axis (Stop acceleration) mode = waiting_block axis command.Stop mode (pos 0) 0 acceleration

-- the block with another status
abbrev pub with_status : Block → Status → Block
with_status x status = record {
  status = status;
  axis = x.axis;
  command = x.command;
  mode = x.mode;
  value = x.value;
  max_velocity = x.max_velocity;
  max_acceleration = x.max_acceleration;
}

-- the status of a command that ended
abbrev pub status_of : Outcome → Status
status_of outcome.Done = Done
status_of outcome.Aborted = Aborted
status_of (outcome.Error cause) = Error cause

-- a block without a command
abbrev pub is_idle : Status → Bool
is_idle Idle = true
is_idle Waiting = false
is_idle Active = false
is_idle Done = false
is_idle Aborted = false
is_idle (Error cause) = false

-- a command that waits or is active
abbrev pub is_busy : Status → Bool
is_busy Idle = false
is_busy Waiting = true
is_busy Active = true
is_busy Done = false
is_busy Aborted = false
is_busy (Error cause) = false

-- a move to a target
abbrev pub is_move : Option Command → Bool
is_move None = false
is_move (Some command.Absolute) = true
is_move (Some command.Relative) = true
is_move (Some command.Velocity) = false
is_move (Some command.Halt) = false
is_move (Some command.Stop) = false

-- a run at a velocity
abbrev pub is_run : Option Command → Bool
is_run None = false
is_run (Some command.Absolute) = false
is_run (Some command.Relative) = false
is_run (Some command.Velocity) = true
is_run (Some command.Halt) = false
is_run (Some command.Stop) = false

-- the state of an axis under a command
abbrev pub state_under : Option Command → AxisState
state_under None = DiscreteMotion
state_under (Some command.Absolute) = DiscreteMotion
state_under (Some command.Relative) = DiscreteMotion
state_under (Some command.Velocity) = ContinuousMotion
state_under (Some command.Halt) = DiscreteMotion
state_under (Some command.Stop) = Stopping

-- the block to remember for the state stopping: that of a stop
abbrev pub stop_under : Option Command → ℕ → Option ℕ
stop_under None b = None
stop_under (Some command.Absolute) b = None
stop_under (Some command.Relative) b = None
stop_under (Some command.Velocity) b = None
stop_under (Some command.Halt) b = None
stop_under (Some command.Stop) b = Some b

-- the target of a command, if it has one, unless it lies outside the axis's range
abbrev pub Aim : Type 0
Aim = Result (Option ℤ) OutOfRange

-- a target that lies in the axis's range, or none that does
abbrev pub aimed : Option ℤ → Aim
aimed None = Err (record {})
aimed (Some target) = Ok (Some target)

-- a position as a target
abbrev pub aimed_at : AxisLook → ℤ → Aim
aimed_at look position = aimed (in_range_or_none look position)

-- the target of a command that begins where the axis looks so: absolute the position, relative demand plus distance
abbrev pub aim_of : Option Command → ℤ → AxisLook → Aim
aim_of None value look = Ok None
aim_of (Some command.Absolute) value look = aimed_at look value
aim_of (Some command.Relative) value look = aimed_at look (look.demand +ℤ value)
aim_of (Some command.Velocity) value look = Ok None
aim_of (Some command.Halt) value look = Ok None
aim_of (Some command.Stop) value look = Ok None

-- the target of a block's command
abbrev pub block_aim : Block → AxisLook → Aim
block_aim x look = aim_of x.command x.value look

-- how far a target is from the demand; 0 without a target
abbrev pub distance_to : Option ℤ → ℤ → ℤ
distance_to None demand = pos 0
distance_to (Some target) demand = target -ℤ demand
