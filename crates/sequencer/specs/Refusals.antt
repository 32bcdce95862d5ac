-- Why each call is refused: the first of its checks that fails. Assumes nothing.
use Rattle.std.specs.Prelude.{ℕ, ◌-◌, Bool, true, false, cond, not, ◌&&◌, length, ℤ, pos, negsuc, ◌+ℤ◌, Some, None, Option, int_le, nat_le, nat_lt}
use Rattle.segment.specs.declared.axis.AxisLook.{AxisLook}
use Rattle.segment.specs.Calls.{in_range}
use Rattle.records.specs.declared.motion.BufferMode.{BufferMode}
use Rattle.records.specs.declared.motion.BufferMode.TheVariants.{Aborting, Buffered}
use Rattle.moves.specs.declared.instruction.Instruction.{Instruction}
use Rattle.moves.specs.declared.instruction.Instruction.TheVariants.{Absolute, Relative, Velocity, Halt, Stop}
use Rattle.moves.specs.declared.table.Axis.{Axis}
use Rattle.moves.specs.Axes.{is_errorstop, takes_commands, is_some}
use Rattle.moves.specs.Blocks.{is_idle, is_busy}
use Rattle.moves.specs.Sheet.{block_at}
use Rattle.motion.specs.World.{World, axis_of}
use Rattle.sequencer.specs.declared.refusal.Refusal.{Refusal}
use Rattle.sequencer.specs.declared.refusal.Refusal.TheVariants.{NoSuchBlock, BlockNotIdle, BlockBusy, NoSuchAxis, BadValue, WrongState, QueueFull, OutOfRange, TrailFull}

-- refused where the test holds, and else by the other checks
abbrev pub refuse_if : Bool → Refusal → Option Refusal → Option Refusal
refuse_if test refusal others = cond test (Some refusal) others

-- how many words the trail still takes
abbrev pub free_in : World → ℕ
free_in w = w.sheet.room - length w.sheet.words

-- ---- limits of the values

-- a top speed or an acceleration is 1 to 10,000
abbrev pub is_rate : ℕ → Bool
is_rate increments = nat_le 1 increments && nat_le increments 10000

-- a velocity is at most 10,000 either way
abbrev pub is_velocity : ℤ → Bool
is_velocity velocity = int_le (negsuc 9999) velocity && int_le velocity (pos 10000)

-- a position or distance is at most 200,000,000 either way
abbrev pub is_distance : ℤ → Bool
is_distance increments = int_le (negsuc 199999999) increments && int_le increments (pos 200000000)

-- the mode is not Buffered
abbrev pub is_aborting : BufferMode → Bool
is_aborting Aborting = true
is_aborting Buffered = false

-- each value is within its limits, and a stop is not buffered
abbrev pub is_lawful : Instruction → BufferMode → Bool
is_lawful (Absolute position top acceleration) mode = is_distance position && is_rate top && is_rate acceleration
is_lawful (Relative distance top acceleration) mode = is_distance distance && is_rate top && is_rate acceleration
is_lawful (Velocity velocity acceleration) mode = is_velocity velocity && is_rate acceleration
is_lawful (Halt acceleration) mode = is_rate acceleration
is_lawful (Stop acceleration) mode = is_aborting mode && is_rate acceleration

-- ---- what an execute asks

-- a Buffered command waits if the axis has an active one
abbrev pub waits : BufferMode → Axis → Bool
waits Aborting y = false
waits Buffered y = is_some y.active

-- the target is out of range, for an absolute and for a relative that begins at once
abbrev pub is_outside : Instruction → Bool → AxisLook → Bool
is_outside (Absolute position top acceleration) waits look = not (in_range look position)
is_outside (Relative distance top acceleration) waits look = cond waits false (not (in_range look (look.demand +ℤ distance)))
is_outside (Velocity velocity acceleration) waits look = false
is_outside (Halt acceleration) waits look = false
is_outside (Stop acceleration) waits look = false

-- ---- the checks of each call, in their order

-- execute
abbrev pub execute_refusal : World → ℕ → ℕ → Instruction → BufferMode → Option Refusal
execute_refusal w b a instruction mode =
    refuse_if (nat_lt 31 b) NoSuchBlock
    (refuse_if (not (is_idle (block_at w.sheet.table b).status)) BlockNotIdle
    (refuse_if (nat_le w.row.count a) NoSuchAxis
    (refuse_if (not (is_lawful instruction mode)) BadValue
    (refuse_if (not (takes_commands (axis_of w a).state)) WrongState
    (refuse_if (waits mode (axis_of w a) && nat_lt 3 (axis_of w a).waiting) QueueFull
    (refuse_if (is_outside instruction (waits mode (axis_of w a)) (w.row.at a)) OutOfRange
    (refuse_if (nat_lt (free_in w) 16) TrailFull None)))))))

-- release
abbrev pub release_refusal : World → ℕ → Option Refusal
release_refusal w b =
    refuse_if (nat_lt 31 b) NoSuchBlock
    (refuse_if (is_busy (block_at w.sheet.table b).status) BlockBusy
    (refuse_if (nat_lt (free_in w) 16) TrailFull None))

-- power on and power off
abbrev pub power_refusal : World → ℕ → Option Refusal
power_refusal w a =
    refuse_if (nat_le w.row.count a) NoSuchAxis
    (refuse_if (is_errorstop (axis_of w a).state) WrongState
    (refuse_if (nat_lt (free_in w) 16) TrailFull None))

-- reset
abbrev pub reset_refusal : World → ℕ → Option Refusal
reset_refusal w a =
    refuse_if (nat_le w.row.count a) NoSuchAxis
    (refuse_if (not (is_errorstop (axis_of w a).state)) WrongState
    (refuse_if (nat_lt (free_in w) 16) TrailFull None))

-- trip
abbrev pub trip_refusal : World → ℕ → ℕ → Option Refusal
trip_refusal w a code =
    refuse_if (nat_le w.row.count a) NoSuchAxis
    (refuse_if (not (nat_le 1 code && nat_le code 15)) BadValue
    (refuse_if (nat_lt (free_in w) 16) TrailFull None))

-- cycle
abbrev pub cycle_refusal : World → Option Refusal
cycle_refusal w = refuse_if (nat_lt (free_in w) 64) TrailFull None
