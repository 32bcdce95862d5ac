use Rattle.std.proofs.Common.{rules}
use Rattle.ramp.proofs.Nears.{near_next}
use Rattle.ramp.proofs.Terms.{stopping_grows}
use Rattle.ramp.proofs.Largest.{step_is_largest}
use Rattle.ramp.proofs.Worked.{ramp_cases}
use Rattle.ramp.proofs.motion.Motion.ramp_step.Goals as goal

pub returns : goal.returns
returns c = record {
  step = search rules;
  remaining = search rules;
  near = near_next c.args.self c.args.ramp _ _ (search rules) (search rules);
  largest = step_is_largest;
  grows = stopping_grows;
  cases = ramp_cases;
}
