use Rattle.std.proofs.Common.{rules}
use Rattle.ramp.proofs.Nears.{near_begin}
use Rattle.ramp.proofs.Runs.{never_passes, stays_bounded}
use Rattle.ramp.proofs.motion.Motion.begin.Goals as goal

pub returns-then-unsigned_abs-gt-FARTHEST : goal.returns-then-unsigned_abs-gt-FARTHEST
returns-then-unsigned_abs-gt-FARTHEST c = record { begun = search rules; passes = never_passes; bounded = stays_bounded }

pub returns-then-unsigned_abs-gt-FASTEST : goal.returns-then-unsigned_abs-gt-FASTEST
returns-then-unsigned_abs-gt-FASTEST c = record { begun = search rules; passes = never_passes; bounded = stays_bounded }

pub invariant_of-result : goal.invariant_of-result
invariant_of-result c = record { near = near_begin _ _ (record { reach = search rules; speed = search rules }) }

pub returns : goal.returns
returns c = record { begun = search rules; passes = never_passes; bounded = stays_bounded }
