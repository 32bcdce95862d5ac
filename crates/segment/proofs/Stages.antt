-- What a call below makes of the row of a stage that shows h of each axis. Assumes nothing.
use Rattle.std.proofs.Common.{◌≡◌, ℕ, ◌<◌, cond, eqb, ltb, ℤ, Some, None, Ok, Err, Option, Result, sym, refl, ap, ◌∙◌, subst, inl, inr, ⊎_elim}
use Rattle.std.proofs.lemmas.Option.{none-some}
use Rattle.std.proofs.lemmas.Bool.{cases_eq, cases_lt, lt-ltb, le-ltb, eq-eqb, ne_eqb, cond-true, cond-false}
use Rattle.segment.specs.declared.axis.AxisLook.{AxisLook}
use Rattle.segment.specs.declared.refusal.Reason.{Reason}
use Rattle.segment.specs.declared.refusal.Reason.TheVariants.{NoSuchAxis}
use Rattle.segment.specs.declared.refusal.Refusal.{Refusal}
use Rattle.segment.specs.Row.{Row, changed, mapped}
use Rattle.segment.specs.Calls.{Answers, Handed, axis_reason, follow_reason, ready_reason}
use Rattle.segment.specs.Cycle.{AxisCycled, Cycled}

-- an axis that is not refused is one of the row
pub within : (n i : ℕ) → cond (ltb i n) None (Some NoSuchAxis) ≡ None → i < n
within n i e =
    ⊎_elim (λ h. h)
    (λ h. absurd (none-some _ (sym e ∙ cond-false (ltb i n) None (Some NoSuchAxis) (le-ltb i n h))))
    (cases_lt i n)

pub ready_from :
    (row : Row) (i : ℕ) (a : AxisLook) (p : ℤ) (o : Option Reason) → axis_reason row i ≡ None → a ≡ row.at i →
    ready_reason a p ≡ o → follow_reason row i p ≡ o
ready_from row i a p o w e r =
    cond-true _ _ _ (lt-ltb _ _ (within row.count i w)) ∙ ap (λ b. ready_reason b p) (sym e) ∙ r

-- a row that is x at i and the old row elsewhere is the changed one
pub at_changed :
    (f : AxisLook → AxisLook) (old new : ℕ → AxisLook) (i : ℕ) → new i ≡ f (old i) →
    ((k : ℕ) → (k ≡ i → ⊥) → new k ≡ old k)
    → (k : ℕ) → new k ≡ cond (eqb k i) (f (old k)) (old k)
at_changed f old new i here there k =
    elim (cases_eq k i) [
      | inl e ↦ subst (λ n. new n ≡ f (old n)) (sym e) here ∙ sym (cond-true (eqb k i) (f (old k)) (old k) (eq-eqb k i e))
      | inr ne ↦ there k ne ∙ sym (cond-false (eqb k i) (f (old k)) (old k) (ne_eqb k i ne))
    ]

pub changed_mapped :
    (h : ℕ → AxisLook → AxisLook) (f g : AxisLook → AxisLook) (row : Row) (i : ℕ) →
    h i (f (row.at i)) ≡ g (h i (row.at i))
    → mapped h (changed f row i) ≡ changed g (mapped h row) i
changed_mapped h f g row i same = λ j. record { count = row.count; at = λ k. each k j }
  where
    each :
        (k : ℕ) →
        h k (cond (eqb k i) (f (row.at k)) (row.at k)) ≡ cond (eqb k i) (g (h k (row.at k))) (h k (row.at k))
    each = at_changed g (mapped h row).at (mapped h (changed f row i)).at i
        (ap (h i) (cond-true (eqb i i) (f (row.at i)) (row.at i) (eq-eqb i i refl)) ∙ same)
        (λ k ne. ap (h k) (cond-false (eqb k i) (f (row.at k)) (row.at k) (ne_eqb k i ne)))

-- the answer from below, handed up
pub answers_up : {X : Type 0} (h : ℕ → AxisLook → AxisLook) (reason' reason : Option Reason) (before after after' left : Row) (r s : Result X Refusal)
    → reason' ≡ reason → (reason ≡ None → mapped h after ≡ after') → Handed r s → Answers reason before after r left → Answers reason' (mapped h before) after' s (mapped h left)
answers_up h reason' reason before after after' left (Ok x) (Ok y) w e p a = (w ∙ a.0, ap (mapped h) a.1 ∙ e a.0)
answers_up h reason' reason before after after' left (Ok x) (Err y) w e p a = absurd p
answers_up h reason' reason before after after' left (Err x) (Ok y) w e p a = absurd p
answers_up h reason' reason before after after' left (Err x) (Err y) w e p a =
    (w ∙ a.0 ∙ ap Some (sym p), ap (mapped h) a.1)

pub cycled_up :
    (h : ℕ → AxisLook → AxisLook) (before after : Row) →
    ((k : ℕ) (a b : AxisLook) → AxisCycled a b → AxisCycled (h k a) (h k b))
    → Cycled before after → Cycled (mapped h before) (mapped h after)
cycled_up h before after step c = record { count = c.count; each = λ k lt. step k (before.at k) (after.at k) (c.each k lt) }
