-- What the step of a velocity is. Assumes nothing.
use Rattle.std.specs.Prelude.{ℕ, ◌≤◌, ℤ, ◌-ℤ◌, ◌≤ℤ◌, unsigned_abs}
use Rattle.std.specs.Int.{int_max, int_min}
use Rattle.ramp.specs.VelocityStep.{velocity_step}

-- of the velocities within accel of v, r is the nearest to goal; it lies between the two
pub record Nearest (v goal : ℤ) (accel : ℕ) (r : ℤ) : Type 0 where
  pub within : unsigned_abs (r -ℤ v) ≤ accel
  pub nearest : (u : ℤ) → unsigned_abs (u -ℤ v) ≤ accel → unsigned_abs (r -ℤ goal) ≤ unsigned_abs (u -ℤ goal)
  pub least : int_min v goal ≤ℤ r
  pub most : r ≤ℤ int_max v goal

-- the velocity step goes as near to its goal as it may, and never past it
abbrev pub StepIsNearest : Type 0
StepIsNearest = (v goal : ℤ) (accel : ℕ) → Nearest v goal accel (velocity_step v goal accel)
