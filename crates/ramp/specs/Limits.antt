-- The limits of what a move is given. Assumes nothing.
use Rattle.std.specs.Prelude.{ℕ, ◌≤◌, ℤ, unsigned_abs}

-- a top speed, an acceleration or a deceleration within its limits
pub record LawfulRate (increments : ℕ) : Type 0 where
  pub least : 1 ≤ increments
  pub most : increments ≤ 10000

-- what every command has where it begins: a target of at most 200,000,000 and a demand of at most 100,000,000
-- either way are at most 300,000,000 apart, and no velocity is above 10,000 either way
pub record Begins (d v : ℤ) : Type 0 where
  pub reach : unsigned_abs d ≤ 300000000
  pub speed : unsigned_abs v ≤ 10000
