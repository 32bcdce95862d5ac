-- The way of a drive towards its demand. Assumes nothing.
use Rattle.std.proofs.Common.{◌≡◌, Bool, true, false, cond, ℤ, pos, ◌+ℤ◌, ◌-ℤ◌, neg_ℤ, ◌≤ℤ◌, refl, arith}
use lib.Signed.{lt_z}
use Rattle.std.specs.Int.{int_max, int_min}
use Rattle.std.proofs.lemmas.Int.{ints, clamps}
use Rattle.drives.specs.Cia402.{nearer}

nearer_by :
    (up down : Bool) (a d lag : ℤ) → pos 1 ≤ℤ lag → lt_z lag (d -ℤ a) ≡ up → lt_z (d -ℤ a) (neg_ℤ lag) ≡ down →
    a +ℤ int_max (neg_ℤ lag) (int_min (d -ℤ a) lag) ≡ cond up (a +ℤ lag) (cond down (a -ℤ lag) d)
nearer_by true down a d lag h u v = omega (arith, ints, clamps)
nearer_by false true a d lag h u v = omega (arith, ints, clamps)
nearer_by false false a d lag h u v = omega (arith, ints, clamps)

-- the way towards a demand is the distance to it, kept within the lag
pub nearer_clamped : (a d lag : ℤ) → pos 1 ≤ℤ lag → a +ℤ int_max (neg_ℤ lag) (int_min (d -ℤ a) lag) ≡ nearer a d lag
nearer_clamped a d lag h = nearer_by (lt_z lag (d -ℤ a)) (lt_z (d -ℤ a) (neg_ℤ lag)) a d lag h refl refl
