-- A faulted axis rests. Assumes nothing.
use Rattle.std.specs.Prelude.{ℕ, Bool, true, false, cond, ◌==◌}
use Rattle.segment.specs.declared.axis.Power.{Power}
use Rattle.segment.specs.declared.axis.Power.TheVariants.{Off, Coming, On}

-- whether power is off
abbrev pub off : Power → Bool
off Off = true
off Coming = false
off On = false

-- an axis with a fault has power off
abbrev pub rests : ℕ → Power → Bool
rests fault power = cond (fault == 0) true (off power)
