-- What each axis does after the segment's cycle. Assumes nothing.
use Rattle.std.specs.Prelude.{ℕ, zero, suc, ◌-◌, List, Some, None, Ok, Err, Option, slice_index, slice_index_or}
use Rattle.records.specs.declared.motion.AxisState.TheVariants.{Standstill}
use Rattle.records.specs.declared.outcome.Cause.{Cause}
use Rattle.records.specs.declared.outcome.Cause.TheVariants.{RangeAtBegin}
use Rattle.records.specs.declared.outcome.Outcome.TheVariants.{Aborted}
use Rattle.moves.specs.Axes.{with_state, rest_state, shifted}
use Rattle.moves.specs.Moves.{entered, started, finished, retired}
use Rattle.moves.specs.Sheet.{block_at}
use Rattle.turns.specs.declared.turn.Turn.{Turn}
use Rattle.turns.specs.declared.turn.Turn.TheVariants.{Rest, Fail, Enable, Finish, Yield}
use Rattle.turns.specs.Turns.{Next, active_block, turn_of, next_of}
use Rattle.motion.specs.World.{World, on_sheet, axis_of, failed}

-- what comes after a command of the axis a that ended
abbrev pub handed_by : Next → World → ℕ → World
handed_by (Ok None) w a = on_sheet w (entered w.sheet a (with_state (axis_of w a) (rest_state (axis_of w a).state)))
handed_by (Ok (Some start)) w a =
    on_sheet w
    (started w.sheet a start.block start.target (w.row.at a).demand (shifted (axis_of w a).queue) ((axis_of w a).waiting - 1))
handed_by (Err out) w a = failed w a RangeAtBegin

-- the first command that waits on the axis a begins, if one does
unfoldable pub handed : World → ℕ → World
handed w a =
    handed_by
    (next_of (axis_of w a) (block_at w.sheet.table (slice_index (axis_of w a).queue 0)) (w.row.at a))
    w a

-- the axis a takes this turn
abbrev pub settled_by : Turn ℕ → World → ℕ → World
settled_by Rest w a = w
settled_by (Fail cause) w a = failed w a cause
settled_by Enable w a = on_sheet w (entered w.sheet a (with_state (axis_of w a) Standstill))
settled_by (Finish b) w a = handed (on_sheet w (finished w.sheet a b (w.row.at a).actual)) a
settled_by (Yield b) w a = handed (on_sheet w (retired w.sheet a b Aborted)) a

-- the axis a takes its turn, after its follow was refused or not
unfoldable pub settled : World → ℕ → Option Cause → World
settled w a refusal =
    settled_by
    (turn_of (axis_of w a) (active_block w.sheet.table (axis_of w a).active) (w.row.at a) refusal)
    w a

-- the first n axes take their turns, in their order
unfoldable pub settled_upto : World → List (Option Cause) → ℕ → World
settled_upto w refusals zero = w
settled_upto w refusals (suc n) = settled (settled_upto w refusals n) n (slice_index_or refusals n None)
