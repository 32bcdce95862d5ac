-- The words by which powers print. Assumes nothing.
use Rattle.std.specs.Prelude.{ℕ, List, codes}
use Rattle.segment.specs.declared.axis.Power.{Power}
use Rattle.segment.specs.declared.axis.Power.TheVariants.{Off, Coming, On}

-- the word for a power
abbrev pub power_name : Power → List ℕ
power_name Off = codes "off"
power_name Coming = codes "coming"
power_name On = codes "on"
