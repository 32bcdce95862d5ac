-- How far the active command steps in a cycle. Assumes nothing.
use Rattle.std.specs.Prelude.{ℕ, min, max, cond, ℤ, pos, negsuc, ◌-ℤ◌}
use Rattle.std.specs.Int.{int_max, int_min}
use Rattle.ramp.specs.RampStep.{ramp_step}
use Rattle.ramp.specs.VelocityStep.{velocity_step}
use Rattle.moves.specs.declared.table.Axis.{Axis}
use Rattle.moves.specs.declared.table.Block.{Block}
use Rattle.moves.specs.Axes.{with_motion}
use Rattle.moves.specs.Blocks.{is_move, is_run}

-- a rate, held to its limits: no accepted command has another
abbrev pub held_rate : ℕ → ℕ
held_rate increments = max 1 (min increments 10000)

-- a velocity, held to its limits: no accepted command has another
abbrev pub held_velocity : ℤ → ℤ
held_velocity velocity = int_max (negsuc 9999) (int_min velocity (pos 10000))

-- the velocity that a command leads to: that of a run, and else 0
abbrev pub goal_of : Block → ℤ
goal_of x = cond (is_run x.command) (held_velocity x.value) (pos 0)

-- the next step of an axis under the command of x
unfoldable pub step_of : Axis → Block → ℤ
step_of y x =
    cond (is_move x.command)
    (ramp_step y.distance_to_go y.velocity (held_rate x.max_velocity) (held_rate x.max_acceleration)
    (held_rate x.max_acceleration))
    (velocity_step y.velocity (goal_of x) (held_rate x.max_acceleration))

-- the distance that remains after the step; 0 where the command is no move
abbrev pub remaining : Axis → Block → ℤ
remaining y x = cond (is_move x.command) (y.distance_to_go -ℤ step_of y x) (pos 0)

-- the axis after its step
abbrev pub stepped : Axis → Block → Axis
stepped y x = with_motion y (step_of y x) (remaining y x)
