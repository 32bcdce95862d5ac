-- Settings within their limits are positions. Assumes nothing.
use Rattle.std.proofs.Common.{◌≡◌, true, ℤ, arith}
use Rattle.std.proofs.lemmas.Int.{ints}
use Rattle.std.proofs.lemmas.Bool.Decides.{nat_tests}
use Rattle.segment.specs.Row.{Position, is_position}

pub position_means : (p : ℤ) → is_position p ≡ true → Position p
position_means p e = grind (arith, ints, nat_tests)
