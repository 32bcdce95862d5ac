-- What soft limits make of a follow. Assumes nothing.
use Rattle.std.proofs.Common.{◌≡◌, ℕ, true, false, cond, ltb, eqb, ℤ, Option, Some, refl, ap, subst, arith}
use Rattle.std.proofs.lemmas.Int.{ints, clamps}
use Rattle.std.proofs.lemmas.Bool.{eq-eqb, ne_eqb}
use Rattle.std.proofs.lemmas.Bool.Decides.{nat_tests}
use Rattle.segment.specs.declared.axis.AxisLook.{AxisLook}
use Rattle.segment.specs.declared.axis.Power.{Power}
use Rattle.segment.specs.declared.axis.Power.TheVariants.{Off, Coming, On}
use Rattle.segment.specs.contracts.axis.Power.{the_type}
use denote.Enum.Bare.{sameb}
use Rattle.segment.specs.declared.refusal.Reason.{Reason}
use Rattle.segment.specs.declared.refusal.Reason.TheVariants.{NoSuchAxis, Faulted, OutOfRange}
use Rattle.segment.specs.Row.{Row}
use Rattle.segment.specs.Calls.{in_range, unless_on, ready_reason}
use Rattle.stages.specs.declared.limits.Limits.{Limits}
use Rattle.stages.specs.Narrowed.{narrowed, outside}
use Rattle.stages.specs.View.{LeadsTo}

-- no position outside the limits is in the narrowed range
range_outside : (limits : Limits) (a : AxisLook) (p : ℤ) → outside limits p ≡ true → in_range (narrowed limits a) p ≡ false
range_outside limits a p out = grind (arith, ints, clamps, nat_tests)

-- to a position within them the limits make no difference
range_inside : (limits : Limits) (a : AxisLook) (p : ℤ) → outside limits p ≡ false → in_range (narrowed limits a) p ≡ in_range a p
range_inside limits a p inside = grind (arith, ints, clamps, nat_tests)

pub faulted_same : (limits : Limits) (a : AxisLook) (p : ℤ) → (a.fault ≡ 0 → ⊥) → ready_reason (narrowed limits a) p ≡ ready_reason a p
faulted_same limits a p some = rw (ne_eqb a.fault 0 some)

-- without power the range makes no difference
unless_off : (power : Power) (x y : Option Reason) → sameb the_type power On ≡ false → unless_on power x ≡ unless_on power y
unless_off Off x y off = refl
unless_off Coming x y off = refl
unless_off On x y off = cc

pub powerless_same : (limits : Limits) (a : AxisLook) (p : ℤ) → sameb the_type a.power On ≡ false → ready_reason (narrowed limits a) p ≡ ready_reason a p
powerless_same limits a p off = ap (λ o. cond (eqb a.fault 0) o (Some Faulted)) (unless_off a.power _ _ off)

pub inside_same : (limits : Limits) (a : AxisLook) (p : ℤ) → outside limits p ≡ false → ready_reason (narrowed limits a) p ≡ ready_reason a p
inside_same limits a p inside = let range = range_inside limits a p inside in cc

-- an axis that has power and no fault
pub outside_refused : (limits : Limits) (a : AxisLook) (p : ℤ) → a.fault ≡ 0 → a.power ≡ On → outside limits p ≡ true
    → ready_reason (narrowed limits a) p ≡ Some OutOfRange
outside_refused limits a p none on out = rw (eq-eqb a.fault 0 none, on, range_outside limits a p out)

pub limits_lead : (limits : Limits) (row : Row) (axis : ℕ) (a : AxisLook) (p : ℤ) → a ≡ row.at axis
    → ready_reason (narrowed limits a) p ≡ ready_reason a p → LeadsTo (λ _. narrowed limits) row axis p p
limits_lead limits row axis a p e same =
    record {
      reason = ap (λ o. cond (ltb axis row.count) o (Some NoSuchAxis)) (subst (λ (b : AxisLook). ready_reason (narrowed limits b) p ≡ ready_reason b p) e same);
      seen = λ _. refl;
    }
