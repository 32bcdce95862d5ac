use Rattle.std.proofs.Common.{ℕ, ◌<◌, ◌≤◌}
use Rattle.ramp.specs.Stopping.{stopping}
use Rattle.ramp.proofs.way.Way.largest_step.Given as goal

-- the step is within the cap, and no larger one up to the cap stops within the distance
abbrev pub invariant-loop-self : goal.invariant-loop-self
invariant-loop-self l =
    (l.step.increments ≤ l.fn.cap.increments)
    × ((u : ℕ) → l.step.increments < u → u ≤ l.fn.cap.increments → l.self.distance < stopping l.self.deceleration.increments u)

abbrev pub decreases-loop-self : goal.decreases-loop-self
decreases-loop-self l = l.step.increments
