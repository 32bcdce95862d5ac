-- Stopping distances, term by term. Assumes nothing.
use Rattle.std.proofs.Common.{◌≡◌, ℕ, zero, suc, ◌+◌, ◌-◌, ◌<◌, ◌≤◌, sym, refl, ap, arith}
use Rattle.ramp.specs.Stopping.{terms, stopping}
use Rattle.ramp.specs.Laws.Stopping.{StoppingGrows}

terms_of_none : (k decel w : ℕ) → w ≡ 0 → terms k decel w ≡ 0
terms_of_none zero decel w e = refl
terms_of_none (suc k) decel w e = omega (arith, terms_of_none k decel (w - decel) (omega arith))

-- past the w-th term nothing is added
terms_enough : (k m decel w : ℕ) → 0 < decel → w ≤ k → w ≤ m → terms k decel w ≡ terms m decel w
terms_enough zero m decel w h p q = sym (terms_of_none m decel w (omega arith))
terms_enough (suc k) zero decel w h p q = terms_of_none (suc k) decel w (omega arith)
terms_enough (suc k) (suc m) decel w h p q =
    ap (λ n. w + n) (terms_enough k m decel (w - decel) h (omega arith) (omega arith))

terms_grow : (k decel u w : ℕ) → u ≤ w → terms k decel u ≤ terms k decel w
terms_grow zero decel u w h = omega arith
terms_grow (suc k) decel u w h = omega (arith, terms_grow k decel (u - decel) (w - decel) (omega arith))

pub stopping_none : (decel : ℕ) → stopping decel 0 ≡ 0
unfolding stopping
stopping_none decel = refl

pub stopping_more : (decel w : ℕ) → 0 < decel → 0 < w → stopping decel w ≡ w + stopping decel (w - decel)
unfolding stopping
stopping_more decel w h p = grind (arith, terms_enough)

-- a speed runs on at least by itself
pub speed_below : (decel w : ℕ) → w ≤ stopping decel w
unfolding stopping
speed_below decel w = grind arith

pub stopping_grows : StoppingGrows
unfolding stopping
stopping_grows decel u w h l = omega (arith, terms_enough u w decel u h (omega arith) l, terms_grow w decel u w l)
