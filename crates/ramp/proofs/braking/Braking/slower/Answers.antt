use Rattle.std.proofs.Common.{arith}
use Rattle.ramp.proofs.Series.{slower}
use Rattle.ramp.proofs.braking.Braking.slower.Goals as goal

pub overflow_sub-excess : goal.overflow_sub-excess
overflow_sub-excess c = omega (arith, (slower _ _ _ _ _ (omega arith) c.args.self.series c.requires.fast).under)

pub invariant_of-result : goal.invariant_of-result
invariant_of-result c =
    let s = slower _ _ _ _ _ (omega arith) c.args.self.series c.requires.fast in
    record { least = s.least c.requires.some; most = omega arith }

pub returns : goal.returns
returns c =
    let s = slower _ _ _ _ _ (omega arith) c.args.self.series c.requires.fast in
    let least = s.least c.requires.some in
    record { less = omega arith; above = s.above }
