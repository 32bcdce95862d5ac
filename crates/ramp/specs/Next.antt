-- The step that a move takes next by its ramp. Assumes nothing.
use Rattle.std.specs.Prelude.{ℕ, ℤ}
use Rattle.ramp.specs.declared.motion.Motion.{Motion}
use Rattle.ramp.specs.declared.rate.Ramp.{Ramp}
use Rattle.ramp.specs.RampStep.{step_ahead, ramp_step}

-- by how much a step may be smaller than the one before it: as much as it may be larger
abbrev pub braking_rate : Ramp → ℕ
braking_rate ramp = ramp.max_acceleration.increments

-- the step of velocity v where the target lies d ahead
abbrev pub next_ahead : ℕ → ℤ → Ramp → ℤ
next_ahead d v ramp =
    step_ahead d v ramp.max_velocity.increments ramp.max_acceleration.increments (braking_rate ramp)

-- the step of a move
abbrev pub next_step : Motion → Ramp → ℤ
next_step motion ramp =
    ramp_step motion.distance_to_go motion.velocity ramp.max_velocity.increments
    ramp.max_acceleration.increments
    (braking_rate ramp)
