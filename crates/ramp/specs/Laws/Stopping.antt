-- What holds of every stopping distance. Assumes nothing.
use Rattle.std.specs.Prelude.{ℕ, ◌<◌, ◌≤◌}
use Rattle.ramp.specs.Stopping.{stopping}

-- a faster axis does not stop in a shorter distance
abbrev pub StoppingGrows : Type 0
StoppingGrows = (decel slower faster : ℕ) → 0 < decel → slower ≤ faster → stopping decel slower ≤ stopping decel faster
