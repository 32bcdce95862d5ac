-- How far from its target a move may be. Assumes nothing.
-- d is the distance to go, v the velocity; a step of s makes d into d − s.
use Rattle.std.specs.Prelude.{ℕ, zero, suc, ◌≤◌, ℤ, pos, negsuc, ◌+ℤ◌, ◌≤ℤ◌, unsigned_abs}
use Rattle.ramp.specs.Stopping.{stopping}

-- how far up the steps after v lead if each is 1 smaller than the one before it, the slowest braking there is
abbrev pub coasts_up : ℤ → ℕ
coasts_up (pos zero) = 0
coasts_up (pos (suc v)) = stopping 1 v
coasts_up (negsuc v) = 0

-- the same downwards
abbrev pub coasts_down : ℤ → ℕ
coasts_down (pos v) = 0
coasts_down (negsuc v) = stopping 1 v

-- v is at most 10,000 either way, and however slowly the axis brakes, d stays within 350,000,000 either way
abbrev pub Near : ℤ → ℤ → Type 0
Near d v =
    (unsigned_abs v ≤ 10000)
    × ((d +ℤ pos (coasts_down v)) ≤ℤ pos 350000000)
    × (pos (coasts_up v) ≤ℤ (pos 350000000 +ℤ d))
