-- Stopping distances as the sum of a series. Assumes nothing.
use Rattle.std.proofs.Common.{◌≡◌, ℕ, zero, suc, ◌+◌, ◌-◌, ◌*◌, ◌/◌, ◌<◌, ◌≤◌, suc-mul, mul_comm, mul-zero, zero-mul, mul-add, arith}
use Rattle.std.proofs.lemmas.Nat.{mul-le, div-add-mod', mod_below, div_below}
use Rattle.ramp.specs.Series.{Series}
use Rattle.ramp.specs.Stopping.{stopping, NoneStopsAbove}
use Rattle.ramp.proofs.Terms.{stopping_none, stopping_more}

-- after the first of two steps or more the others are a series
series_more : (n decel w ends : ℕ) → 0 < decel → Series decel w (suc (suc n)) ends →
    Series decel (w - decel) (suc n) (ends - decel)
series_more n decel w ends h s = grind (arith, suc-mul)

sum_more : (n decel w ends : ℕ) → 0 < decel → Series decel w (suc (suc n)) ends →
    2 * stopping decel (w - decel) ≡ suc n * (ends - decel) → 2 * stopping decel w ≡ suc (suc n) * ends
sum_more n decel w ends h s rest = grind (arith, stopping_more, suc-mul, mul-add)

-- twice the sum is the number of steps times the sum of the ends
pub series_sum : (n decel w ends : ℕ) → 0 < decel → Series decel w n ends → 2 * stopping decel w ≡ n * ends
series_sum zero decel w ends h s = absurd (omega (arith, s.some))
series_sum (suc zero) decel w ends h s = grind (arith, stopping_more, stopping_none)
series_sum (suc (suc n)) decel w ends h s =
    sum_more n decel w ends h s
    (series_sum (suc n) decel (w - decel) (ends - decel) h (series_more n decel w ends h s))

-- 0 + 1 + .. + (k − 1)
abbrev triangle : ℕ → ℕ
triangle zero = 0
triangle (suc k) = k + triangle k

-- the sum of the first k terms, those below 0 too, is at most the stopping distance
line_below : (k decel u : ℕ) → 0 < decel → k * u ≤ stopping decel u + decel * triangle k
line_below zero decel u h = omega (arith, zero-mul u)
line_below (suc k) decel zero h = omega (arith, mul-zero (suc k))
line_below (suc k) decel (suc w) h =
    let u = suc w in
    let rest = line_below k decel (u - decel) h in
    let more = mul-le k u k (u - decel + decel) (omega arith) (omega arith) in
    omega (arith, stopping_more decel u h, suc-mul k u, mul-add k (u - decel) decel, mul-add decel k (triangle k), mul_comm decel k)

-- what the line of n terms is below n times the speed
line_gap : (n decel : ℕ) → 2 * (decel * triangle (suc n)) ≡ suc n * (n * decel)
line_gap zero decel = grind arith
line_gap (suc n) decel = grind (arith, line_gap n decel, suc-mul, mul-add)

-- where the ends sum up to more than they may, no speed above what is left stops within d
above_left : (m decel w ends d : ℕ) → 0 < decel → Series decel w (suc m) ends → 2 * d / suc m < ends →
    NoneStopsAbove d decel (w - (ends - 2 * d / suc m + 1) / 2)
above_left m decel w ends d h s l u b =
    let n = suc m in
    let q = 2 * d / n in
    let gap : m * decel + ends ≡ w + w = omega (arith, suc-mul m decel, s.down) in
    let split = div-add-mod' (2 * d) n in
    let rest = mod_below (2 * d) n (omega arith) in
    let line = line_below n decel u h in
    let up = mul-le n (suc q + m * decel) n (u + u) (omega arith) (omega arith) in
    omega (arith, mul-add n u u, mul-add n (suc q) (m * decel), line_gap m decel, mul_comm n (suc q), suc-mul q n)

-- what is left of a speed w that does not stop within d: a lower speed, below none that does, and above 0 where d is
pub record Slower (decel w n ends d : ℕ) : Type 0 where
  pub under : 2 * d / n < ends
  pub fits : (ends - 2 * d / n + 1) / 2 ≤ w
  pub less : w - (ends - 2 * d / n + 1) / 2 < w
  pub above : NoneStopsAbove d decel (w - (ends - 2 * d / n + 1) / 2)
  pub least : 1 ≤ d → 1 ≤ w - (ends - 2 * d / n + 1) / 2

pub slower : (n decel w ends d : ℕ) → 0 < decel → Series decel w n ends → d < stopping decel w →
    Slower decel w n ends d
slower zero decel w ends d h s l = absurd (omega (arith, s.some))
slower (suc m) decel w ends d h s l =
    let sum = series_sum (suc m) decel w ends h s in
    let under = div_below (2 * d) (suc m) ends (omega arith) (omega (arith, mul_comm (suc m) ends)) in
    let above = above_left m decel w ends d h s under in
    record {
      under = under;
      fits = omega arith;
      less = omega arith;
      above = above;
      least = λ p. grind (arith, above 1, stopping_more, stopping_none);
    }
