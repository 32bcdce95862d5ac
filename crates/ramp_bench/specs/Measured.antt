-- The step that is measured. Assumes nothing.
use Rattle.std.specs.Prelude.{ℤ}
use Rattle.ramp.specs.declared.motion.Motion.{Motion}
use Rattle.ramp.specs.declared.rate.Rate.{Rate}
use Rattle.ramp.specs.Next.{next_step}

-- the next step of a move by a ramp of these two rates
abbrev pub measured_step : Motion → Rate → Rate → ℤ
measured_step motion top accel = next_step motion (record { max_velocity = top; max_acceleration = accel })
