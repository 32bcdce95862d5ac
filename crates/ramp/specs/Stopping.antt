-- The stopping distance of a speed. Assumes nothing.
-- A speed w is in increments per cycle; decel is by how much a step may be smaller than the one before it.
use Rattle.std.specs.Prelude.{ℕ, zero, suc, ◌+◌, ◌-◌, ◌<◌}

-- the first k terms of w + (w − decel) + (w − 2·decel) + .., in which − stops at 0
abbrev pub terms : ℕ → ℕ → ℕ → ℕ
terms zero decel w = 0
terms (suc k) decel w = w + terms k decel (w - decel)

-- the stopping distance of w, the sum of all positive terms: where decel is at least 1, none comes after the w-th
unfoldable pub stopping : ℕ → ℕ → ℕ
stopping decel w = terms w decel w

-- no speed above w stops within d
abbrev pub NoneStopsAbove : ℕ → ℕ → ℕ → Type 0
NoneStopsAbove d decel w = (faster : ℕ) → w < faster → d < stopping decel faster
