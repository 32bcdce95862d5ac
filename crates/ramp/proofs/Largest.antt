-- The largest step that can still stop. Assumes nothing.
use Rattle.std.proofs.Common.{◌≡◌, ℕ, zero, suc, arith}
use Rattle.std.proofs.lemmas.Bool.Decides.{nat_tests}
use Rattle.ramp.specs.RampStep.{largest_step}
use Rattle.ramp.specs.Laws.RampStep.{Largest, StepIsLargest}
use Rattle.ramp.proofs.Terms.{stopping_none, speed_below, stopping_grows}

largest_more : (d decel cap : ℕ) → Largest d decel cap (largest_step d decel cap) →
    Largest d decel (suc cap) (largest_step d decel (suc cap))
unfolding largest_step
largest_more d decel cap l = grind (arith, nat_tests)

pub step_is_largest : StepIsLargest
unfolding largest_step
step_is_largest d decel zero = grind (arith, stopping_none)
step_is_largest d decel (suc cap) = largest_more d decel cap (step_is_largest d decel cap)

-- there is only one
pub largest_only : (d decel cap w : ℕ) → Largest d decel cap w → w ≡ largest_step d decel cap
largest_only d decel cap w l =
    let m = step_is_largest d decel cap in
    omega (arith, m.most w l.within l.stops, l.most (largest_step d decel cap) m.within m.stops)

-- what says which of two steps is the larger that stops
pub ruleset choosing = (step_is_largest, stopping_grows, speed_below)
