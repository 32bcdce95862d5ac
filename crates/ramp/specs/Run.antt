-- A run of ramp steps, one after the other. Assumes nothing.
-- The functions top, accel and decel give each step, counted from 0, its top speed, acceleration and deceleration.
use Rattle.std.specs.Prelude.{ℕ, zero, suc, ℤ, ◌-ℤ◌}
use Rattle.ramp.specs.RampStep.{ramp_step}

-- the distance to go and the velocity of a move
pub record Going : Type 0 where
  pub distance : ℤ
  pub velocity : ℤ

-- where a ramp step leads: the step is the new velocity, and the distance falls by it
abbrev pub stepped : Going → ℕ → ℕ → ℕ → Going
stepped g top accel decel =
    let step = ramp_step g.distance g.velocity top accel decel in
    record { distance = g.distance -ℤ step; velocity = step }

-- where n ramp steps lead
abbrev pub after : (ℕ → ℕ) → (ℕ → ℕ) → (ℕ → ℕ) → Going → ℕ → Going
after top accel decel g zero = g
after top accel decel g (suc n) = stepped (after top accel decel g n) (top n) (accel n) (decel n)
