-- What holds in every run of ramp steps. Assumes nothing.
use Rattle.std.specs.Prelude.{ℕ, ◌<◌, ◌≤◌, ℤ, pos, negsuc, ◌≤ℤ◌, unsigned_abs}
use Rattle.ramp.specs.Limits.{Begins, LawfulRate}
use Rattle.ramp.specs.Run.{Going, after}

-- e lies on the way from d to 0
abbrev pub OnTheWay : ℤ → ℤ → Type 0
OnTheWay (pos d) e = (pos 0 ≤ℤ e) × (e ≤ℤ pos d)
OnTheWay (negsuc d) e = (negsuc d ≤ℤ e) × (e ≤ℤ pos 0)

-- a move from standstill never passes its target, nor moves away from it, however its top speed and its
-- acceleration change on the way: what remains is always on the way from the distance at the start to 0
abbrev pub NeverPasses : Type 0
NeverPasses =
    (top accel : ℕ → ℕ) (decel : ℕ) → 0 < decel → (d : ℤ) (n : ℕ) →
    OnTheWay d (after top accel (λ _. decel) (record { distance = d; velocity = pos 0 }) n).distance

-- a distance of at most 350,000,000 and a velocity of at most 10,000 either way
pub record Bounded (g : Going) : Type 0 where
  pub reach : unsigned_abs g.distance ≤ 350000000
  pub speed : unsigned_abs g.velocity ≤ 10000

-- a move that begins within the limits stays within bounds for ever, however its rates change on the way
abbrev pub StaysBounded : Type 0
StaysBounded =
    (top accel decel : ℕ → ℕ) → ((k : ℕ) → LawfulRate (top k)) → ((k : ℕ) → LawfulRate (decel k)) →
    (g : Going) → Begins g.distance g.velocity → (n : ℕ) → Bounded (after top accel decel g n)
