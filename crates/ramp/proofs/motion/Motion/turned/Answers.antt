use Rattle.std.proofs.Common.{rules}
use Rattle.ramp.proofs.Nears.{near_turned}
use Rattle.ramp.proofs.motion.Motion.turned.Goals as goal

pub invariant_of-result : goal.invariant_of-result
invariant_of-result c =
    let motion = c.args.self in
    record { near = near_turned motion.distance_to_go motion.velocity _ _ (search rules) (search rules) motion.near }
