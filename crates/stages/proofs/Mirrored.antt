-- What a follow below makes of the row that a mirror shows. Assumes nothing.
use Rattle.std.proofs.Common.{◌≡◌, ℕ, ◌/◌, ◌%◌, ◌^◌, ◌<◌, ◌≤◌, pow_mono, Bool, true, false, cond, eqb, ltb, ℤ, neg_ℤ, Some, None, sym, refl, ap, ◌∙◌, arith}
use Rattle.std.proofs.lemmas.Int.{ints, clamps}
use Rattle.std.proofs.lemmas.Bool.Decides.{nat_tests}
use native.Mathlib.Nat.{div-eq_of_lt}
use Rattle.segment.specs.declared.axis.AxisLook.{AxisLook}
use Rattle.segment.specs.declared.axis.Power.{Power}
use Rattle.segment.specs.declared.refusal.Reason.TheVariants.{NoSuchAxis, Faulted, OutOfRange}
use Rattle.segment.specs.Row.{Row, Sound, SoundRow}
use Rattle.segment.specs.Calls.{in_range, unless_on, ready_reason, follow_reason, followed}
use Rattle.stages.specs.Mirrored.{in_mask, turned_round, turned_if, order_below, mirrored}
use Rattle.stages.specs.View.{LeadsTo}

-- the range, seen from both sides
range_turned : (a : AxisLook) (p : ℤ) → Sound a → in_range (turned_round a) p ≡ in_range a (order_below true p)
range_turned a p s = grind (arith, ints, clamps, nat_tests)

ready_turned : (b : Bool) (a : AxisLook) (p : ℤ) → Sound a → ready_reason (turned_if b a) p ≡ ready_reason a (order_below b p)
ready_turned true a p s = let range = range_turned a p s in cc
ready_turned false a p s = refl

pub follow_reason_mirrored : (mask : ℕ) (row : Row) (axis : ℕ) (p q : ℤ) → SoundRow row → q ≡ order_below (in_mask mask axis) p
    → follow_reason (mirrored mask row) axis p ≡ follow_reason row axis q
follow_reason_mirrored mask row axis p q s e =
    ap (λ o. cond (ltb axis row.count) o (Some NoSuchAxis)) (ready_turned (in_mask mask axis) (row.at axis) p (s.each axis))
    ∙ ap (follow_reason row axis) (sym e)

-- an axis that may follow has the position in its range
accepted : (there clear fits : Bool) (power : Power)
    → cond there (cond clear (unless_on power (cond fits None (Some OutOfRange))) (Some Faulted)) (Some NoSuchAxis) ≡ None → fits ≡ true
accepted there clear fits power none = grind arith

-- the demand below, seen from the other side, is the position
demand_turned : (b : Bool) (a : AxisLook) (p : ℤ) → Sound a → in_range a (order_below b p) ≡ true
    → turned_if b (followed (order_below b p) a) ≡ followed p (turned_if b a)
demand_turned true a p s fits = ap (λ z. followed z (turned_round a)) back
  where
    back : neg_ℤ (order_below true p) ≡ p
    back = grind (arith, ints, clamps, nat_tests)
demand_turned false a p s fits = refl

pub mirror_leads : (mask : ℕ) (row : Row) (axis : ℕ) (p q : ℤ) → SoundRow row → q ≡ order_below (in_mask mask axis) p
    → LeadsTo (λ k. turned_if (in_mask mask k)) row axis p q
mirror_leads mask row axis p q s e =
    record {
      reason = follow_reason_mirrored mask row axis p q s e;
      seen = λ ok. rw e (demand_turned (in_mask mask axis) (row.at axis) p (s.each axis) (rw e at (fits ok)));
    }
  where
    fits : follow_reason row axis q ≡ None → in_range (row.at axis) q ≡ true
    fits ok = accepted (ltb axis row.count) (eqb (row.at axis).fault 0) _ (row.at axis).power ok

-- a mask of eight bits has no axis past them
pub past : (mask axis : ℕ) → mask < 2 ^ 8 → 8 ≤ axis → in_mask mask axis ≡ false
past mask axis small far =
    let larger : 2 ^ 8 ≤ 2 ^ axis = pow_mono far in
    let none : mask / 2 ^ axis ≡ 0 = div-eq_of_lt (omega arith) in
    ap (λ n. eqb (n % 2) 1) none
