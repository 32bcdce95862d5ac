use Rattle.std.proofs.Common.{◌≡◌, ◌+ℤ◌, ◌-ℤ◌, neg_ℤ, ◌∙◌, arith, w32, to_z, of_z}
use Rattle.std.specs.Int.{int_max, int_min}
use Rattle.std.proofs.lemmas.Int.{ints, clamps}
use Rattle.drives.proofs.Nearer.{nearer_clamped}
use Rattle.drives.proofs.cia402.Cia402Axis.nearer.Goals as goal

pub returns : goal.returns
returns c =
    let x = c.args.self.now in
    let lag = x.lag.increments in
    let way : to_z w32 (of_z w32 (to_z w32 (of_z w32 x.actual) +ℤ to_z w32 (of_z w32 c.clamp.result))) ≡ x.actual +ℤ int_max (neg_ℤ lag) (int_min (x.demand -ℤ x.actual) lag) = omega (arith, ints, clamps) in
    record { moved = way ∙ nearer_clamped x.actual x.demand lag x.lag.some; within = (omega (arith, ints, clamps), omega (arith, ints, clamps)) }
