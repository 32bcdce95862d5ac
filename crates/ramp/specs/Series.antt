-- The steps of braking as a series. Assumes nothing.
use Rattle.std.specs.Prelude.{◌≡◌, ℕ, ◌+◌, ◌*◌, ◌<◌, ◌≤◌}

-- the speed w is the first of n steps, each decel below the one before it; ends is the first plus the last, above 0
pub record Series (decel w n ends : ℕ) : Type 0 where
  pub some : 0 < n
  pub down : n * decel + ends ≡ w + w + decel
  pub low : w < ends
  pub high : ends ≤ w + decel
