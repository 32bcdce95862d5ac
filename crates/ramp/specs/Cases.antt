-- The worked cases of the ramp. Assumes nothing.
use Rattle.std.specs.Prelude.{◌≡◌, ℕ, zero, suc, List, [], ◌∷◌, ℤ, pos, negsuc}
use Rattle.ramp.specs.Stopping.{stopping}
use Rattle.ramp.specs.RampStep.{ramp_step}
use Rattle.ramp.specs.Run.{Going, stepped}

-- the next n steps of a move, each from where the one before it led; it brakes by what it speeds up by
abbrev pub next_steps : ℕ → Going → ℕ → ℕ → List ℤ
next_steps zero g top accel = []
next_steps (suc n) g top accel =
    let next = stepped g top accel accel in
    next.velocity ∷ next_steps n next top accel

-- what the definitions give at the numbers of the worked cases
pub record RampCases : Type 0 where
  pub stops_in_twelve : stopping 3 7 ≡ 12
  pub sets_off : ramp_step (pos 5) (pos 0) 2 1 1 ≡ pos 1
  pub brakes : ramp_step (pos 2) (pos 2) 2 1 1 ≡ pos 1
  pub sets_off_back : ramp_step (negsuc 4) (pos 0) 2 1 1 ≡ negsuc 0
  pub comes_back :
      next_steps 6 (record { distance = pos 1; velocity = pos 5 }) 5 2
      ≡ pos 3 ∷ pos 1 ∷ pos 0 ∷ negsuc 1 ∷ negsuc 0 ∷ pos 0 ∷ []
