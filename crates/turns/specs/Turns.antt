-- What an axis does after the segment's cycle: the first case that applies. Assumes nothing.
use Rattle.std.specs.Prelude.{ℕ, Bool, true, false, cond, not, ◌&&◌, ◌||◌, ℤ, pos, Some, None, Ok, Err, Option, Result, ◌==◌, int_le, nat_lt, slice_index}
use Rattle.segment.specs.declared.axis.AxisLook.{AxisLook}
use Rattle.segment.specs.declared.axis.Power.{Power}
use Rattle.segment.specs.declared.axis.Power.TheVariants.{Off, Coming, On}
use Rattle.records.specs.declared.outcome.Cause.{Cause}
use Rattle.records.specs.declared.outcome.Cause.TheVariants.{Drive}
use Rattle.moves.specs.declared.aim.OutOfRange.{OutOfRange}
use Rattle.moves.specs.declared.table.Axis.{Axis}
use Rattle.moves.specs.declared.table.Block.{Block}
use Rattle.moves.specs.declared.table.Table.{Table}
use Rattle.moves.specs.Axes.{is_disabled, is_errorstop}
use Rattle.moves.specs.Blocks.{Aim, is_move, is_run, block_aim}
use Rattle.moves.specs.Sheet.{idle_block, block_at}
use Rattle.turns.specs.declared.turn.Turn.{Turn}
use Rattle.turns.specs.declared.turn.Turn.TheVariants.{Rest, Fail, Enable, Finish, Yield}
use Rattle.turns.specs.declared.turn.Start.{Start}
use Rattle.turns.specs.Steps.{goal_of}

-- two numbers are equal
abbrev pub same : ℤ → ℤ → Bool
same p q = int_le p q && int_le q p

-- power is on
abbrev pub is_on : Power → Bool
is_on Off = false
is_on Coming = false
is_on On = true

-- the block of the active command
abbrev pub active_block : Table → Option ℕ → Block
active_block table None = idle_block
active_block table (Some b) = block_at table b

-- a command is reached with step 0 and actual equal to demand, a move also with nothing to go; a run never is
abbrev pub reached : Axis → Block → AxisLook → Bool
reached y x look =
    not (is_run x.command) && same y.velocity (pos 0) && same look.actual look.demand
    && (not (is_move x.command) || same y.distance_to_go (pos 0))

-- a run at its velocity yields to one that waits
abbrev pub yields : Axis → Block → Bool
yields y x = is_run x.command && same y.velocity (goal_of x) && nat_lt 0 y.waiting

-- a disabled axis whose power was asked for and is on
abbrev pub enables : Axis → AxisLook → Bool
enables y look = is_disabled y.state && y.enable_requested && is_on look.power

-- a fault outside errorstop
abbrev pub faults : Axis → AxisLook → Bool
faults y look = not (look.fault == 0) && not (is_errorstop y.state)

-- the turn under the active command
abbrev pub turn_under : {N : Type 0} → Option N → Axis → Block → AxisLook → Turn N
turn_under None y x look = Rest
turn_under (Some b) y x look = cond (reached y x look) (Finish b) (cond (yields y x) (Yield b) Rest)

-- a refused follow comes before the other cases
abbrev pub turn_after : {N : Type 0} → Option Cause → Turn N → Turn N
turn_after None others = others
turn_after (Some cause) others = Fail cause

-- the turn of an axis y with the active block x, of this number, that looks so, after its follow was refused or not
abbrev pub turn_by : {N : Type 0} → Option N → Axis → Block → AxisLook → Option Cause → Turn N
turn_by active y x look refusal =
    cond (faults y look) (Fail (Drive look.fault))
    (turn_after refusal (cond (enables y look) Enable (turn_under active y x look)))

-- the same, with the number that the axis has
unfoldable pub turn_of : Axis → Block → AxisLook → Option Cause → Turn ℕ
turn_of y x look refusal = turn_by y.active y x look refusal

-- what comes after a command that ended: nothing, or the start of another, unless its target is out of range
abbrev pub Next : Type 0
Next = Result (Option (Start ℕ)) OutOfRange

-- the first that waits begins, unless its target is out of range
abbrev pub next_by : {N : Type 0} → N → Aim → Result (Option (Start N)) OutOfRange
next_by b (Ok target) = Ok (Some (record { block = b; target = target }))
next_by b (Err out) = Err out

-- what comes after a command that ended, where x is the block of the first that waits
unfoldable pub next_of : Axis → Block → AxisLook → Next
next_of y x look = cond (y.waiting == 0) (Ok None) (next_by (slice_index y.queue 0) (block_aim x look))
