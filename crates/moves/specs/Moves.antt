-- The moves: each changes the table and writes its words at once. Assumes nothing.
use Rattle.std.specs.Prelude.{ℕ, zero, suc, ◌+◌, ◌%◌, ◌^◌, Bool, true, false, List, ℤ, Some, None, Option, ◌==◌, slice_index}
use Rattle.records.specs.declared.kinds.Record.TheVariants.{Accept, Begin, End, State, Place, Cycle, Target}
use Rattle.records.specs.declared.motion.AxisState.{AxisState}
use Rattle.records.specs.declared.motion.BufferMode.{BufferMode}
use Rattle.records.specs.declared.outcome.Outcome.{Outcome}
use Rattle.records.specs.declared.outcome.Outcome.TheVariants.{Done}
use Rattle.records.specs.Numbers.{state_number}
use Rattle.moves.specs.declared.instruction.Instruction.{Instruction}
use Rattle.moves.specs.declared.table.Axis.{Axis}
use Rattle.moves.specs.declared.table.Status.TheVariants.{Active}
use Rattle.moves.specs.Axes.{without_active, without_commands, under_command, halted_in}
use Rattle.moves.specs.Blocks.{block_of, command_of, with_status, status_of, distance_to}
use Rattle.moves.specs.Sheet.{Sheet, block_at, axis_at, with_block, with_axis, on_table, told}

-- ---- a command comes

-- the block b takes a command for the axis a
unfoldable pub accepted : Sheet → ℕ → ℕ → Instruction → BufferMode → Sheet
accepted s a b instruction mode =
    told (on_table s (with_block s.table b (block_of a instruction mode))) (Accept a b (command_of instruction) mode)

-- ---- a command ends

-- the command of the block b ends
unfoldable pub ended : Sheet → ℕ → ℕ → Outcome → Sheet
ended s a b outcome =
    told (on_table s (with_block s.table b (with_status (block_at s.table b) (status_of outcome)))) (End a b outcome)

-- the commands of the first n blocks of the queue end, in their order
unfoldable pub ended_upto : Sheet → ℕ → List ℕ → Outcome → ℕ → Sheet
ended_upto s a queue outcome zero = s
ended_upto s a queue outcome (suc n) = ended (ended_upto s a queue outcome n) a (slice_index queue n) outcome

-- the active command ends, if there is one
unfoldable pub ended_active : Sheet → ℕ → Option ℕ → Outcome → Sheet
ended_active s a None outcome = s
ended_active s a (Some b) outcome = ended s a b outcome

-- the axis is written anew, in the state that it has
abbrev pub kept : Sheet → ℕ → Axis → Sheet
kept s a y = on_table s (with_axis s.table a y)

-- all commands of the axis a end, the active one first
unfoldable pub emptied : Sheet → ℕ → Outcome → Sheet
emptied s a outcome =
    let y = axis_at s.table a in
    kept (ended_upto (ended_active s a y.active outcome) a y.queue outcome y.waiting) a (without_commands y)

-- the command of the block b, the active one of the axis a, ends
unfoldable pub retired : Sheet → ℕ → ℕ → Outcome → Sheet
retired s a b outcome = kept (ended s a b outcome) a (without_active (axis_at s.table a))

-- the same where it did what was ordered, with the place where the axis stands
unfoldable pub finished : Sheet → ℕ → ℕ → ℤ → Sheet
finished s a b place = kept (told (ended s a b Done) (Place place)) a (without_active (axis_at s.table a))

-- ---- an axis enters a state

-- the axis is written anew, and if its state is another, so is a word of it
abbrev pub entered_if : Bool → Sheet → ℕ → Axis → Sheet
entered_if true s a y = kept s a y
entered_if false s a y = kept (told s (State a (axis_at s.table a).state y.state)) a y

-- the axis a becomes y
unfoldable pub entered : Sheet → ℕ → Axis → Sheet
entered s a y = entered_if (state_number (axis_at s.table a).state == state_number y.state) s a y

-- all commands of the axis a end, and the axis halts in a state
unfoldable pub quelled : Sheet → ℕ → Outcome → AxisState → Sheet
quelled s a outcome state =
    entered (emptied s a outcome) a (halted_in state (axis_at (emptied s a outcome).table a))

-- ---- a command begins

-- a target is written, if there is one
abbrev pub targeted : Sheet → Option ℤ → Sheet
targeted s None = s
targeted s (Some target) = told s (Target target)

-- the command of the block b begins
unfoldable pub begun : Sheet → ℕ → ℕ → Option ℤ → Sheet
begun s a b target =
    targeted (told (on_table s (with_block s.table b (with_status (block_at s.table b) Active))) (Begin a b)) target

-- and leads the axis a from this demand, with these waiting behind it
unfoldable pub started : Sheet → ℕ → ℕ → Option ℤ → ℤ → List ℕ → ℕ → Sheet
started s a b target demand queue waiting =
    entered (begun s a b target) a
    (under_command (axis_at s.table a) b (block_at s.table b).command (distance_to target demand) queue waiting)

-- ---- a cycle

-- cycles are counted modulo 2^28
abbrev pub next_cycle : ℕ → ℕ
next_cycle cycles = (cycles + 1) % 2 ^ 28

-- a cycle is counted
unfoldable pub ticked : Sheet → Sheet
ticked s =
    told (on_table s (record { blocks = s.table.blocks; axes = s.table.axes; cycles = next_cycle s.table.cycles }))
    (Cycle (next_cycle s.table.cycles))
