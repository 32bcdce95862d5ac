-- The step of a velocity. Assumes nothing.
use Rattle.std.proofs.Common.{◌≡◌, ℕ, ◌≤◌, ℤ, pos, arith}
use Rattle.std.specs.Prelude.{unsigned_abs}
use Rattle.std.proofs.lemmas.Int.{ints, clamps}
use Rattle.ramp.specs.VelocityStep.{velocity_step}
use Rattle.ramp.specs.Near.{Near}
use Rattle.ramp.specs.Laws.VelocityStep.{StepIsNearest}
use Rattle.ramp.proofs.Nears.{near_begin}

pub step_is_nearest : StepIsNearest
step_is_nearest v goal accel = record {
  within = omega (arith, ints, clamps);
  nearest = λ u h. omega (arith, ints, clamps);
  least = omega (arith, ints, clamps);
  most = omega (arith, ints, clamps);
}

-- between two velocities within limits, with nothing to go
pub near_velocity : (v goal : ℤ) (accel : ℕ) (r : ℤ) → r ≡ velocity_step v goal accel → unsigned_abs v ≤ 10000 →
    unsigned_abs goal ≤ 10000 → Near (pos 0) r
near_velocity v goal accel r e slow aim =
    let low = (step_is_nearest v goal accel).least in
    let high = (step_is_nearest v goal accel).most in
    near_begin (pos 0) r (record { reach = omega (arith, ints); speed = omega (arith, ints, clamps) })
