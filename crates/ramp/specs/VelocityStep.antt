-- The step of a velocity towards another. Assumes nothing.
use Rattle.std.specs.Prelude.{ℕ, ℤ, pos, ◌+ℤ◌, ◌-ℤ◌}
use Rattle.std.specs.Int.{int_max, int_min}

-- the velocity v moved towards goal by at most accel
abbrev pub velocity_step : ℤ → ℤ → ℕ → ℤ
velocity_step v goal accel = int_max (v -ℤ pos accel) (int_min goal (v +ℤ pos accel))
