-- The worked cases of the ramp, computed from the definitions. Assumes nothing.
use Rattle.std.proofs.Common.{refl}
use Rattle.ramp.specs.Stopping.{stopping}
use Rattle.ramp.specs.RampStep.{largest_step}
use Rattle.ramp.specs.Cases.{RampCases}

pub ramp_cases : RampCases
unfolding stopping largest_step
ramp_cases = record { stops_in_twelve = refl; sets_off = refl; brakes = refl; sets_off_back = refl; comes_back = refl }
