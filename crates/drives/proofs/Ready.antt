-- A position that may be followed to. Assumes nothing.
use Rattle.std.proofs.Common.{◌≡◌, Bool, true, cond, eqb, ℤ, ◌≤ℤ◌, Some, None, arith}
use Rattle.std.proofs.lemmas.Int.{ints}
use Rattle.std.proofs.lemmas.Bool.Decides.{nat_tests}
use Rattle.segment.specs.declared.axis.AxisLook.{AxisLook}
use Rattle.segment.specs.declared.axis.Power.{Power}
use Rattle.segment.specs.declared.refusal.Reason.TheVariants.{OutOfRange, Faulted}
use Rattle.segment.specs.Row.{Position, Sound}
use Rattle.segment.specs.Calls.{in_range, ready_reason, unless_on}

-- an axis that may follow has the position in its range
inner : (c t : Bool) (w : Power) → cond c (unless_on w (cond t None (Some OutOfRange))) (Some Faulted) ≡ None → t ≡ true
inner c t w e = grind arith

-- a sound axis that may follow to it has a position
pub ready_position : (a : AxisLook) (p : ℤ) → Sound a → ready_reason a p ≡ None → Position p
ready_position a p s e =
    let t = inner (eqb a.fault 0) (in_range a p) a.power e in
    let l = s.low in
    let h = s.high in
    grind (arith, ints, nat_tests)
