-- What a segment is made from. Assumes nothing.
use Rattle.std.specs.Prelude.{ℕ, Bool, ◌&&◌, ℤ, pos, int_le, nat_le}
use Rattle.segment.specs.Row.{is_position}

-- a number of axes within its limits
abbrev pub has_axes : ℕ → Bool
has_axes count = nat_le 1 count && nat_le count 8

-- start and range are positions
abbrev pub are_positions : ℤ → ℤ → ℤ → Bool
are_positions start low high = is_position start && is_position low && is_position high

-- number of axes, start and range within their limits
abbrev pub fair : ℕ → ℤ → ℤ → ℤ → Bool
fair count start low high = has_axes count && are_positions start low high

-- a lag within its limits
abbrev pub fair_lag : ℤ → Bool
fair_lag lag = int_le (pos 1) lag && int_le lag (pos 100000)
