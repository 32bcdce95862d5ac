-- What the questions answer. Assumes nothing.
use Rattle.std.specs.Prelude.{ℕ, ◌<◌, ◌≤◌, Bool, true, false, cond, Some, None, Ok, Err, Option, Result, nat_le, nat_lt}
use Rattle.ramp.specs.Near.{Near}
use Rattle.records.specs.declared.outcome.Cause.{Cause}
use Rattle.segment.specs.Row.{Row}
use Rattle.moves.specs.declared.table.Axis.{Axis}
use Rattle.moves.specs.declared.table.Status.{Status}
use Rattle.moves.specs.declared.table.Status.TheVariants.{Idle, Waiting, Active, Done, Aborted, Error}
use Rattle.moves.specs.declared.table.Table.{Table}
use Rattle.moves.specs.Sheet.{block_at, axis_at}
use Rattle.sequencer.specs.declared.outputs.AxisAnswer.{AxisAnswer}
use Rattle.sequencer.specs.declared.outputs.BlockOutputs.{BlockOutputs}
use Rattle.sequencer.specs.declared.refusal.Refusal.{Refusal}
use Rattle.sequencer.specs.declared.refusal.Refusal.TheVariants.{NoSuchBlock, NoSuchAxis}

-- the outputs that are on, and the cause of an error
abbrev pub outputs : Bool → Bool → Bool → Bool → Bool → Option Cause → BlockOutputs
outputs busy active done aborted error cause =
    record { busy = busy; active = active; done = done; command_aborted = aborted; error = error; cause = cause }

-- the outputs of a block in this status
abbrev pub outputs_of : Status → BlockOutputs
outputs_of Idle = outputs false false false false false None
outputs_of Waiting = outputs true false false false false None
outputs_of Active = outputs true true false false false None
outputs_of Done = outputs false false true false false None
outputs_of Aborted = outputs false false false true false None
outputs_of (Error cause) = outputs false false false false true (Some cause)

-- what is answered of the block b: there are blocks 0 to 31
abbrev pub block_answer : Table → ℕ → Result BlockOutputs Refusal
block_answer table b = cond (nat_lt 31 b) (Err NoSuchBlock) (Ok (outputs_of (block_at table b).status))

-- what is answered of this axis
abbrev pub axis_values : Axis → AxisAnswer
axis_values y =
    record { state = y.state; velocity = y.velocity; distance_to_go = y.distance_to_go; waiting = y.waiting; active = y.active }

-- what is answered of the axis a
abbrev pub axis_answer : Row → Table → ℕ → Result AxisAnswer Refusal
axis_answer row table a = cond (nat_le row.count a) (Err NoSuchAxis) (Ok (axis_values (axis_at table a)))

-- the number of a block, if there is one
abbrev pub NamesBlock : Option ℕ → Type 0
NamesBlock None = Unit {0}
NamesBlock (Some b) = b < 32

-- what every answer of an axis keeps to: at most four wait, the active block has a number, and no step leads out of the numbers
pub record AxisLimits (answer : AxisAnswer) : Type 0 where
  pub few : answer.waiting ≤ 4
  pub active : NamesBlock answer.active
  pub near : Near answer.distance_to_go answer.velocity
