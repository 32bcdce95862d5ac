-- What an accepted follow tells of the axis. Assumes nothing.
use Rattle.std.proofs.Common.{◌≡◌, ℕ, ◌<◌, Bool, true, false, cond, eqb, ltb, ℤ, Some, None, sym, refl}
use Rattle.std.proofs.lemmas.Bool.{ltb-true, eqb-true}
use Rattle.std.proofs.lemmas.Option.{none-some}
use Rattle.segment.specs.declared.axis.Power.{Power}
use Rattle.segment.specs.declared.axis.Power.TheVariants.{Off, Coming, On}
use Rattle.segment.specs.declared.refusal.Reason.TheVariants.{NoSuchAxis, Faulted, OutOfRange}
use Rattle.segment.specs.Calls.{in_range, unless_on, follow_reason}
use Rattle.segment.specs.Row.{Row}

-- three tests that let a follow pass
record Passed (there calm : Bool) (power : Power) : Type 0 where
  there_is : there ≡ true
  calm_is : calm ≡ true
  on : power ≡ On

passed :
    (there calm range : Bool) (power : Power) →
    cond there (cond calm (unless_on power (cond range None (Some OutOfRange))) (Some Faulted)) (Some NoSuchAxis) ≡ None →
    Passed there calm power
passed true true range Off e = absurd (none-some _ (sym e))
passed true true range Coming e = absurd (none-some _ (sym e))
passed true true range On e = record { there_is = refl; calm_is = refl; on = refl }
passed true false range power e = absurd (none-some _ (sym e))
passed false calm range power e = absurd (none-some _ (sym e))

-- an axis that may follow is there, without a fault, and on
pub record Ready (row : Row) (axis : ℕ) : Type 0 where
  pub there : axis < row.count
  pub calm : (row.at axis).fault ≡ 0
  pub on : (row.at axis).power ≡ On

pub ready : (row : Row) (axis : ℕ) (position : ℤ) → follow_reason row axis position ≡ None → Ready row axis
ready row axis position e =
    let p =
    passed (ltb axis row.count) (eqb (row.at axis).fault 0) (in_range (row.at axis) position)
    (row.at axis).power e in
    record { there = ltb-true axis row.count p.there_is; calm = eqb-true (row.at axis).fault 0 p.calm_is; on = p.on }
