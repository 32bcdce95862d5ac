-- Runs of ramp steps. Assumes nothing.
use Rattle.std.proofs.Common.{◌≡◌, ℕ, zero, suc, ◌+◌, ◌-◌, ◌<◌, ◌≤◌, min, max, ℤ, pos, negsuc, neg_ℤ, refl, ap, ◌∙◌, ◌-ℤ◌, arith}
use Rattle.std.proofs.lemmas.Int.{ints, clamps}
use Rattle.ramp.specs.Stopping.{stopping}
use Rattle.ramp.specs.RampStep.{largest_step, ramp_step}
use Rattle.ramp.specs.Limits.{LawfulRate}
use Rattle.ramp.specs.Near.{Near}
use Rattle.ramp.specs.Run.{Going, stepped, after}
use Rattle.ramp.specs.Laws.Run.{NeverPasses, StaysBounded}
use Rattle.ramp.proofs.Terms.{stopping_none, stopping_more, speed_below}
use Rattle.ramp.proofs.Largest.{step_is_largest}
use Rattle.ramp.proofs.Nears.{near_begin, near_step}

-- a move towards a target ahead: of d there remain at least 0, and braking suffices to stop there
record Safe (decel d : ℕ) (g : Going) : Type 0 where
  e : ℕ
  v : ℕ
  left : g.distance ≡ pos e
  towards : g.velocity ≡ pos v
  within : e ≤ d
  brakes : stopping decel (v - decel) ≤ e

-- the larger of the largest step and the hardest braking stops too
safe_step : (top accel decel d : ℕ) (g : Going) → 0 < decel → Safe decel d g → Safe decel d (stepped g top accel decel)
safe_step top accel decel d g h s =
    let cap = min (s.v + accel) top in
    let t = max (largest_step s.e decel cap) (s.v - decel) in
    let l = step_is_largest s.e decel cap in
    let stops : stopping decel t ≤ s.e = grind arith in
    let rest : (t ≤ s.e) × (stopping decel (t - decel) ≤ s.e - t) = grind (arith, stopping_more, stopping_none, speed_below) in
    record {
      e = s.e - t;
      v = t;
      left = rw (s.left, s.towards) (omega (arith, ints, clamps));
      towards = rw (s.left, s.towards) (omega (arith, ints, clamps));
      within = omega arith;
      brakes = rest.1;
    }

safe_run : (top accel : ℕ → ℕ) (decel d : ℕ) (g : Going) → 0 < decel → Safe decel d g → (n : ℕ) →
    Safe decel d (after top accel (λ _. decel) g n)
safe_run top accel decel d g h s zero = s
safe_run top accel decel d g h s (suc n) =
    safe_step (top n) (accel n) decel d _ h (safe_run top accel decel d g h s n)

from_standstill : (top accel : ℕ → ℕ) (decel d : ℕ) → 0 < decel → (n : ℕ) →
    Safe decel d (after top accel (λ _. decel) (record { distance = pos d; velocity = pos 0 }) n)
from_standstill top accel decel d h n =
    safe_run top accel decel d _ h
    (record { e = d; v = 0; left = refl; towards = refl; within = omega arith; brakes = grind (arith, stopping_none) })
    n

-- the same move seen from the other side
abbrev turned : Going → Going
turned g = record { distance = neg_ℤ g.distance; velocity = neg_ℤ g.velocity }

step_turned : (d v : ℤ) (top accel decel : ℕ) →
    ramp_step (neg_ℤ d) (neg_ℤ v) top accel decel ≡ neg_ℤ (ramp_step d v top accel decel)
step_turned d v top accel decel = grind (arith, ints, clamps, speed_below, step_is_largest)

stepped_turned : (g : Going) (top accel decel : ℕ) → stepped (turned g) top accel decel ≡ turned (stepped g top accel decel)
stepped_turned g top accel decel =
    let step = ramp_step g.distance g.velocity top accel decel in
    let rest : neg_ℤ g.distance -ℤ neg_ℤ step ≡ neg_ℤ (g.distance -ℤ step) = omega (arith, ints) in
    rw (step_turned g.distance g.velocity top accel decel, rest)

after_turned : (top accel decel : ℕ → ℕ) (g : Going) (n : ℕ) →
    after top accel decel (turned g) n ≡ turned (after top accel decel g n)
after_turned top accel decel g zero = refl
after_turned top accel decel g (suc n) = ap (λ g. stepped g (top n) (accel n) (decel n)) (after_turned top accel decel g n) ∙ stepped_turned (after top accel decel g n) (top n) (accel n) (decel n)

pub never_passes : NeverPasses
never_passes top accel decel h (pos d) n =
    let s = from_standstill top accel decel d h n in
    (omega (arith, ints, s.left), omega (arith, ints, s.left, s.within))
never_passes top accel decel h (negsuc d) n =
    let s = from_standstill top accel decel (suc d) h n in
    let e = ap (λ g. g.distance) (after_turned top accel (λ _. decel) (record { distance = pos (suc d); velocity = pos 0 }) n) in
    (omega (arith, ints, s.left, s.within), omega (arith, ints, s.left))

-- a run that is near its target stays near it
near_run : (top accel decel : ℕ → ℕ) → ((k : ℕ) → LawfulRate (top k)) → ((k : ℕ) → LawfulRate (decel k)) →
    (g : Going) → Near g.distance g.velocity → (n : ℕ) →
    Near (after top accel decel g n).distance (after top accel decel g n).velocity
near_run top accel decel ht hd g near zero = near
near_run top accel decel ht hd g near (suc n) =
    let now = after top accel decel g n in
    let next = stepped now (top n) (accel n) (decel n) in
    let brakes : 0 < decel n = (hd n).least in
    near_step now.distance now.velocity next.distance next.velocity (top n) (accel n) (decel n) brakes (ht n).most refl refl
    (near_run top accel decel ht hd g near n)

pub stays_bounded : StaysBounded
stays_bounded top accel decel ht hd g b n =
    let near = near_run top accel decel ht hd g (near_begin g.distance g.velocity b) n in
    record { reach = omega (arith, ints); speed = near.0 }
