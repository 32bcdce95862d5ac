-- The step of a move towards its target. Assumes nothing.
-- d is the distance to go, v the velocity, which is the step before; top, accel and decel are the move's top speed,
-- by how much a step may be larger than the one before it, and by how much smaller.
use Rattle.std.specs.Prelude.{ℕ, zero, suc, ◌+◌, min, cond, ℤ, pos, negsuc, ◌+ℤ◌, ◌-ℤ◌, neg_ℤ, nat_le}
use Rattle.std.specs.Int.{int_max, int_min}
use Rattle.ramp.specs.Stopping.{stopping}

-- the largest step from 0 to cap that stops within d: the cap, or where it does not, the largest below it
unfoldable pub largest_step : ℕ → ℕ → ℕ → ℕ
largest_step d decel zero = 0
largest_step d decel (suc cap) = cond (nat_le (stopping decel (suc cap)) d) (suc cap) (largest_step d decel cap)

-- the step where the target lies d ahead: a velocity away from it is braked to 0 at most, any other becomes the
-- largest step that can still stop, or where that would brake too hard, the hardest braking
abbrev pub step_ahead : ℕ → ℤ → ℕ → ℕ → ℕ → ℤ
step_ahead d (negsuc v) top accel decel = int_min (negsuc v +ℤ pos decel) (pos 0)
step_ahead d (pos v) top accel decel = int_max (pos (largest_step d decel (min (v + accel) top))) (pos v -ℤ pos decel)

-- the step for a target on either side: one that lies behind is ahead with all signs turned
abbrev pub ramp_step : ℤ → ℤ → ℕ → ℕ → ℕ → ℤ
ramp_step (pos d) v top accel decel = step_ahead d v top accel decel
ramp_step (negsuc d) v top accel decel = neg_ℤ (step_ahead (suc d) (neg_ℤ v) top accel decel)
