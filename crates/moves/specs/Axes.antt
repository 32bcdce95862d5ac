-- What an axis becomes when its commands come and go. Assumes nothing.
use Rattle.std.specs.Prelude.{ℕ, ◌+◌, Bool, true, false, List, [], ◌∷◌, ℤ, pos, Some, None, Option, ◌==◌, slice_index, slice_set}
use Rattle.records.specs.declared.motion.AxisState.{AxisState}
use Rattle.records.specs.declared.motion.AxisState.TheVariants.{Disabled, Standstill, Stopping, DiscreteMotion, ContinuousMotion, ErrorStop}
use Rattle.records.specs.declared.motion.Command.{Command}
use Rattle.moves.specs.declared.table.Axis.{Axis}
use Rattle.moves.specs.Blocks.{state_under, stop_under}

-- the axis with these commands
abbrev pub with_commands : Axis → Option ℕ → List ℕ → ℕ → Axis
with_commands y active queue waiting = record {
  state = y.state;
  velocity = y.velocity;
  distance_to_go = y.distance_to_go;
  enable_requested = y.enable_requested;
  active = active;
  queue = queue;
  waiting = waiting;
  stop = y.stop;
}

-- no command is active
abbrev pub without_active : Axis → Axis
without_active y = with_commands y None y.queue y.waiting

-- no command is active and none waits
abbrev pub without_commands : Axis → Axis
without_commands y = with_commands y None y.queue 0

-- one command more waits, behind the others
abbrev pub joined : Axis → ℕ → Axis
joined y b = with_commands y y.active (slice_set y.queue y.waiting b) (y.waiting + 1)

-- the queue without its first
abbrev pub shifted : List ℕ → List ℕ
shifted queue = slice_index queue 1 ∷ slice_index queue 2 ∷ slice_index queue 3 ∷ 0 ∷ []

-- the axis with another velocity and distance to go
abbrev pub with_motion : Axis → ℤ → ℤ → Axis
with_motion y velocity distance = record {
  state = y.state;
  velocity = velocity;
  distance_to_go = distance;
  enable_requested = y.enable_requested;
  active = y.active;
  queue = y.queue;
  waiting = y.waiting;
  stop = y.stop;
}

-- the axis with power asked for, or not
abbrev pub with_request : Axis → Bool → Axis
with_request y requested = record {
  state = y.state;
  velocity = y.velocity;
  distance_to_go = y.distance_to_go;
  enable_requested = requested;
  active = y.active;
  queue = y.queue;
  waiting = y.waiting;
  stop = y.stop;
}

-- the block of a stop is remembered while the axis stops, and forgotten when it leaves that state
abbrev pub stop_in : AxisState → Option ℕ → Option ℕ
stop_in Disabled stop = None
stop_in Standstill stop = None
stop_in Stopping stop = stop
stop_in DiscreteMotion stop = None
stop_in ContinuousMotion stop = None
stop_in ErrorStop stop = None

-- the axis in another state
abbrev pub with_state : Axis → AxisState → Axis
with_state y state = record {
  state = state;
  velocity = y.velocity;
  distance_to_go = y.distance_to_go;
  enable_requested = y.enable_requested;
  active = y.active;
  queue = y.queue;
  waiting = y.waiting;
  stop = stop_in state y.stop;
}

-- velocity and distance to go are 0, and the axis is in this state
abbrev pub halted_in : AxisState → Axis → Axis
halted_in state y = with_state (with_motion y (pos 0) (pos 0)) state

-- the axis under the command of the block b: it keeps its velocity
abbrev pub under_command : Axis → ℕ → Option Command → ℤ → List ℕ → ℕ → Axis
under_command y b command distance queue waiting = record {
  state = state_under command;
  velocity = y.velocity;
  distance_to_go = distance;
  enable_requested = y.enable_requested;
  active = Some b;
  queue = queue;
  waiting = waiting;
  stop = stop_under command b;
}

-- the state of an axis whose last command is done: a stop holds it
abbrev pub rest_state : AxisState → AxisState
rest_state Disabled = Standstill
rest_state Standstill = Standstill
rest_state Stopping = Stopping
rest_state DiscreteMotion = Standstill
rest_state ContinuousMotion = Standstill
rest_state ErrorStop = Standstill

-- an axis is disabled
abbrev pub is_disabled : AxisState → Bool
is_disabled Disabled = true
is_disabled Standstill = false
is_disabled Stopping = false
is_disabled DiscreteMotion = false
is_disabled ContinuousMotion = false
is_disabled ErrorStop = false

-- an axis is in errorstop
abbrev pub is_errorstop : AxisState → Bool
is_errorstop Disabled = false
is_errorstop Standstill = false
is_errorstop Stopping = false
is_errorstop DiscreteMotion = false
is_errorstop ContinuousMotion = false
is_errorstop ErrorStop = true

-- commands are allowed in standstill, discrete and continuous motion only
abbrev pub takes_commands : AxisState → Bool
takes_commands Disabled = false
takes_commands Standstill = true
takes_commands Stopping = false
takes_commands DiscreteMotion = true
takes_commands ContinuousMotion = true
takes_commands ErrorStop = false

-- whether there is a block
abbrev pub is_some : Option ℕ → Bool
is_some None = false
is_some (Some b) = true

-- whether the block there is is b
abbrev pub is_block : Option ℕ → ℕ → Bool
is_block None b = false
is_block (Some c) b = c == b
