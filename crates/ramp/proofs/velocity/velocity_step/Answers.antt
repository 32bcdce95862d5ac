use Rattle.std.proofs.Common.{rules}
use Rattle.ramp.proofs.Velocities.{step_is_nearest, near_velocity}
use Rattle.ramp.proofs.velocity.velocity_step.Goals as goal

pub returns : goal.returns
returns c = record {
  step = search rules;
  near = near_velocity c.args.velocity c.args.goal c.args.max_acceleration.increments _ (search rules);
  nearest = step_is_nearest;
}
