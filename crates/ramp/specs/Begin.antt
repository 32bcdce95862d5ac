-- What is answered where a move begins. Assumes nothing.
use Rattle.std.specs.Prelude.{◌≡◌, ℤ, Some, None, Option}
use Rattle.ramp.specs.declared.motion.Motion.{Motion}
use Rattle.ramp.specs.Limits.{Begins}

-- the move m has d to go at velocity v, which are within the limits
pub record BegunAt (d v : ℤ) (m : Motion) : Type 0 where
  pub lawful : Begins d v
  pub distance : m.distance_to_go ≡ d
  pub velocity : m.velocity ≡ v

-- a move within the limits begins, and outside them there is none
abbrev pub Begun : ℤ → ℤ → Option Motion → Type 0
Begun d v None = Begins d v → ⊥
Begun d v (Some m) = BegunAt d v m
