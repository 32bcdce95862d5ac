-- An accepted follow is shown after a calm cycle. Assumes nothing.
use Rattle.std.proofs.Common.{◌≡◌, ℕ, ◌<◌, eqb, ltb, ℤ, Some, None, Ok, Err, Result, sym, refl, ap, ◌∙◌, subst, inl, inr, arith}
use Rattle.std.proofs.lemmas.Bool.{cond-true, eq-eqb, lt-ltb}
use Rattle.std.proofs.lemmas.Option.{none-some}
use Rattle.segment.specs.declared.refusal.Reason.TheVariants.{NoSuchAxis}
use Rattle.segment.specs.declared.refusal.Refusal.{Refusal}
use Rattle.segment.specs.declared.axis.AxisLook.{AxisLook}
use Rattle.segment.specs.declared.axis.Power.{Power}
use Rattle.segment.specs.declared.axis.Power.TheVariants.{Off, Coming, On}
use Rattle.segment.specs.Calls.{followed, Followed, Looked}
use Rattle.segment.specs.Cycle.{AxisCycled, Cycled, DemandCycled}
use Rattle.segment.specs.Laws.Follow.{FollowIsShown, Moved}
use Rattle.segment.specs.Row.{Row, changed}
use Rattle.segment.proofs.Ready.{ready}

-- the changed row at the axis itself
pub changed_here : (f : AxisLook → AxisLook) (row : Row) (axis : ℕ) → (changed f row axis).at axis ≡ f (row.at axis)
changed_here f row axis = cond-true (eqb axis axis) (f (row.at axis)) (row.at axis) (eq-eqb axis axis refl)

kept_on : (power : Power) (a b : AxisLook) → power ≡ On → DemandCycled power a b → b.demand ≡ a.demand
kept_on Off a b e d = cc
kept_on Coming a b e d = cc
kept_on On a b e d = d

-- a calm cycle keeps the demand of an axis that is on
pub demand_kept : (a b : AxisLook) → a.power ≡ On → b.fault ≡ 0 → AxisCycled a b → b.demand ≡ a.demand
demand_kept a b on calm c = elim c.rest [
  | inl k ↦ kept_on a.power a b on k.demand
  | inr k ↦ absurd (omega (arith, k.fault))
]

pub follow_is_shown : FollowIsShown
follow_is_shown before ordered after axis position accepted f c calm =
    let r = ready before axis position f.0 in
    let here : ordered.at axis ≡ followed position (before.at axis) =
    ap (λ row. row.at axis) f.1 ∙ changed_here (followed position) before axis in
    let on : (ordered.at axis).power ≡ On = ap (λ a. a.power) here ∙ r.on in
    let in_row : axis < ordered.count = subst (λ row. axis < row.count) (sym f.1) r.there in
    demand_kept (ordered.at axis) (after.at axis) on calm (c.each axis in_row) ∙ ap (λ a. a.demand) here

-- a look after an accepted follow and a cycle is not refused
pub moved_on :
    (before ordered after : Row) (axis : ℕ) (position : ℤ) (r : Result AxisLook Refusal) →
    Followed before axis position (Ok tt) ordered → Cycled ordered after → Looked after axis r →
    Moved before axis position r after
moved_on before ordered after axis position (Ok a) f c l = (ordered, f, c, l.1)
moved_on before ordered after axis position (Err e) f c l =
    let here = (ready before axis position f.0).there in
    let counts : after.count ≡ before.count = c.count ∙ ap (λ row. row.count) f.1 in
    let there = cond-true (ltb axis after.count) None (Some NoSuchAxis) (lt-ltb axis after.count (omega arith)) in
    absurd (none-some _ (sym there ∙ l))
