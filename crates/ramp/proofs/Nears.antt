-- A move stays near its target. Assumes nothing.
use Rattle.std.proofs.Common.{◌≡◌, ℕ, zero, suc, ◌+◌, ◌*◌, ◌<◌, ◌≤◌, min, ℤ, pos, negsuc, ◌-ℤ◌, neg_ℤ, refl, suc-mul, arith}
use Rattle.std.proofs.lemmas.Nat.{mul-le}
use Rattle.std.proofs.lemmas.Int.{ints, clamps}
use Rattle.ramp.specs.Stopping.{stopping}
use Rattle.ramp.specs.RampStep.{step_ahead, ramp_step}
use Rattle.ramp.specs.Limits.{Begins}
use Rattle.ramp.specs.Near.{Near}
use Rattle.ramp.specs.Next.{next_step}
use Rattle.ramp.specs.declared.motion.Motion.{Motion}
use Rattle.ramp.specs.declared.rate.Ramp.{Ramp}
use Rattle.ramp.proofs.Terms.{stopping_none, stopping_more, stopping_grows}
use Rattle.ramp.proofs.Largest.{step_is_largest}

coasts_more : (n : ℕ) → stopping 1 n + stopping 1 n ≡ n * suc n →
    stopping 1 (suc n) + stopping 1 (suc n) ≡ suc n * suc (suc n)
coasts_more n e = grind (arith, stopping_more, suc-mul)

coasts_twice : (n : ℕ) → stopping 1 n + stopping 1 n ≡ n * suc n
coasts_twice zero = grind (arith, stopping_none)
coasts_twice (suc n) = coasts_more n (coasts_twice n)

coasts_few : (n : ℕ) → n ≤ 9999 → stopping 1 n ≤ 49995000
coasts_few n h = grind (arith, coasts_twice n, mul-le)

-- every begin is near
pub near_begin : (d v : ℤ) → Begins d v → Near d v
near_begin d v b = grind (arith, ints, coasts_few)

-- turned about, it stays near
pub near_turned : (d v e u : ℤ) → e ≡ neg_ℤ d → u ≡ neg_ℤ v → Near d v → Near e u
near_turned d v e u p q near = grind (arith, ints)

-- a step ahead of an axis that does not move away
near_towards : (d n : ℕ) (s : ℤ) (top accel decel : ℕ) → d ≤ 350000000 → n ≤ 10000 → top ≤ 10000 →
    s ≡ step_ahead d (pos n) top accel decel → Near (pos d -ℤ s) s
near_towards d n s top accel decel l h t e =
    let within = (step_is_largest d decel (min (n + accel) top)).within in
    grind (arith, ints, clamps, coasts_few)

-- and of one that does
near_away : (d n : ℕ) (s : ℤ) (top accel decel : ℕ) → 0 < decel → s ≡ step_ahead d (negsuc n) top accel decel →
    Near (pos d) (negsuc n) → Near (pos d -ℤ s) s
near_away d n s top accel decel h e near = grind (arith, ints, clamps, stopping_more, stopping_grows)

near_ahead : (d : ℕ) (v s : ℤ) (top accel decel : ℕ) → 0 < decel → top ≤ 10000 →
    s ≡ step_ahead d v top accel decel → Near (pos d) v → Near (pos d -ℤ s) s
near_ahead d (pos n) s top accel decel h t e near = near_towards d n s top accel decel (omega (arith, ints)) near.0 t e
near_ahead d (negsuc n) s top accel decel h t e near = near_away d n s top accel decel h e near

-- every ramp step s stays near, where e remain
pub near_step : (d v e s : ℤ) (top accel decel : ℕ) → 0 < decel → top ≤ 10000 → s ≡ ramp_step d v top accel decel →
    e ≡ d -ℤ s → Near d v → Near e s
near_step (pos d) v e s top accel decel h t p q near = rw q (near_ahead d v s top accel decel h t p near)
near_step (negsuc d) v e s top accel decel h t p q near =
    let back = near_turned (negsuc d) v (pos (suc d)) (neg_ℤ v) refl refl near in
    let there = near_ahead (suc d) (neg_ℤ v) (step_ahead (suc d) (neg_ℤ v) top accel decel) top accel decel h t refl back in
    near_turned _ _ e s (omega (arith, ints)) p there

-- so does the step that a move takes next
pub near_next : (motion : Motion) (ramp : Ramp) (e s : ℤ) → s ≡ next_step motion ramp → e ≡ motion.distance_to_go -ℤ s →
    Near e s
near_next motion ramp e s p q =
    near_step motion.distance_to_go motion.velocity e s _ _ _ ramp.max_acceleration.least ramp.max_velocity.most p q motion.near
