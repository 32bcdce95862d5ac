-- A segment's row of axes, and when it is sound. Assumes nothing.
use Rattle.std.specs.Prelude.{ℕ, ◌<◌, ◌≤◌, Bool, cond, ◌&&◌, ℤ, pos, negsuc, ◌≤ℤ◌, ◌==◌, int_le}
use Rattle.segment.specs.declared.axis.AxisLook.{AxisLook}
use Rattle.segment.specs.declared.axis.Power.{Power}
use Rattle.segment.specs.declared.axis.Power.TheVariants.{Off, Coming, On}

-- a position is within a hundred million increments of 0
abbrev pub Position : ℤ → Type 0
Position p = (negsuc 99999999 ≤ℤ p) × (p ≤ℤ pos 100000000)

-- the same as a test
abbrev pub is_position : ℤ → Bool
is_position p = int_le (negsuc 99999999) p && int_le p (pos 100000000)

-- power is off
abbrev pub IsOff : Power → Type 0
IsOff Off = Unit {0}
IsOff Coming = ⊥
IsOff On = ⊥

-- a sound axis: four positions, a fault of at most 15, and power off under a fault
pub record Sound (a : AxisLook) : Type 0 where
  pub demand : Position a.demand
  pub actual : Position a.actual
  pub low : Position a.low
  pub high : Position a.high
  pub fault : a.fault ≤ 15
  pub power : 0 < a.fault → IsOff a.power

-- a row of axes: how many, and how each looks; past the last nothing is said but that it is sound
pub record Row : Type 0 where
  pub count : ℕ
  pub at : ℕ → AxisLook

-- a sound row: one to eight axes, each of them sound
pub record SoundRow (row : Row) : Type 0 where
  pub some : 1 ≤ row.count
  pub few : row.count ≤ 8
  pub each : (k : ℕ) → Sound (row.at k)

-- the row with f done to one axis
abbrev pub changed : (AxisLook → AxisLook) → Row → ℕ → Row
changed f row axis = record { count = row.count; at = λ k. cond (k == axis) (f (row.at k)) (row.at k) }

-- the row with each axis shown by h, as most stages show it
abbrev pub mapped : (ℕ → AxisLook → AxisLook) → Row → Row
mapped h row = record { count = row.count; at = λ k. h k (row.at k) }
