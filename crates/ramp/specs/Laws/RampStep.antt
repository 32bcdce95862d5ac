-- What the step that a move looks for is. Assumes nothing.
use Rattle.std.specs.Prelude.{ℕ, ◌≤◌}
use Rattle.ramp.specs.Stopping.{stopping}
use Rattle.ramp.specs.RampStep.{largest_step}

-- from step w the axis stops within d, and from no larger step up to cap
pub record Largest (d decel cap w : ℕ) : Type 0 where
  pub within : w ≤ cap
  pub stops : stopping decel w ≤ d
  pub most : (u : ℕ) → u ≤ cap → stopping decel u ≤ d → u ≤ w

-- at every distance, the step looked for is the largest from which the axis can still stop
abbrev pub StepIsLargest : Type 0
StepIsLargest = (d decel cap : ℕ) → Largest d decel cap (largest_step d decel cap)
