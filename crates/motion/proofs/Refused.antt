-- What the answer to a follow tells. Assumes nothing.
use Rattle.std.proofs.Common.{◌≡◌, ℕ, ◌<◌, Bool, true, false, cond, eqb, ltb, leb, ℤ, Some, None, Option, sym, refl, ◌∙◌, subst, arith}
use Rattle.std.proofs.lemmas.Bool.{lt-ltb, le-leb, and_from, cond-true}
use Rattle.segment.specs.declared.axis.Power.{Power}
use Rattle.segment.specs.declared.axis.Power.TheVariants.{Off, Coming, On}
use Rattle.segment.specs.declared.refusal.Reason.{Reason}
use Rattle.segment.specs.declared.refusal.Reason.TheVariants.{NoSuchAxis, Faulted, PowerNotOn, OutOfRange}
use Rattle.segment.specs.declared.refusal.Refusal.{Refusal}
use Rattle.segment.specs.Calls.{in_range, unless_on, ready_reason, follow_reason, followed}
use Rattle.segment.specs.Row.{Row, changed}
use Rattle.records.specs.declared.outcome.Cause.{Cause}
use Rattle.records.specs.declared.outcome.Cause.TheVariants.{Segment}
use Rattle.words.specs.Words.{refuses_follow, lawful_cause}
use Rattle.motion.specs.Ordering.{Noted, followed_unless}

of_follow : (x reason : Reason) → Some x ≡ Some reason → refuses_follow x ≡ true → refuses_follow reason ≡ true
of_follow x reason e h = let same : x ≡ reason = cc in subst (λ (r : Reason). refuses_follow r ≡ true) same h

ready_refuses : (calm range : Bool) (power : Power) (reason : Reason) →
    cond calm (unless_on power (cond range None (Some OutOfRange))) (Some Faulted) ≡ Some reason →
    refuses_follow reason ≡ true
ready_refuses true range Off reason e = of_follow PowerNotOn reason e refl
ready_refuses true range Coming reason e = of_follow PowerNotOn reason e refl
ready_refuses true true On reason e = absurd (let z : ◌≡◌ {A = ℕ} 0 1 = cc in omega arith)
ready_refuses true false On reason e = of_follow OutOfRange reason e refl
ready_refuses false range power reason e = of_follow Faulted reason e refl

-- an axis that is there refuses a follow for a reason of a follow
refuses : (row : Row) (a : ℕ) (position : ℤ) (reason : Reason) →
    a < row.count → follow_reason row a position ≡ Some reason → refuses_follow reason ≡ true
refuses row a position reason there e =
    let ready = cond-true (ltb a row.count) (ready_reason (row.at a) position) (Some NoSuchAxis) (lt-ltb a row.count there) in
    ready_refuses (eqb (row.at a).fault 0) (in_range (row.at a) position) (row.at a).power reason (sym ready ∙ e)

-- what a refused follow leaves and notes
module _ (row left : Row) (a : ℕ) (position : ℤ) (refusal : Refusal) (cause : Cause)
    (there : a < row.count) (reason : follow_reason row a position ≡ Some refusal.reason)
    (same : left ≡ row) (is : cause ≡ Segment refusal.depth refusal.reason) where
  pub noted_refused : Noted (follow_reason row a position) (Some cause)
  noted_refused = subst (λ (o : Option Reason). Noted o (Some cause)) (sym reason) (refusal.depth, refusal.shallow, is)

  pub lawful_refused : lawful_cause cause ≡ true
  lawful_refused =
      subst (λ (x : Cause). lawful_cause x ≡ true) (sym is)
      (and_from (leb refusal.depth 15) (refuses_follow refusal.reason) (le-leb refusal.depth 15 refusal.shallow)
      (refuses row a position refusal.reason there reason))

  pub row_refused : left ≡ followed_unless (follow_reason row a position) row a position
  row_refused = subst (λ (o : Option Reason). left ≡ followed_unless o row a position) (sym reason) same

-- what a follow that is not refused leaves and notes
module _ (row left : Row) (a : ℕ) (position : ℤ) (reason : follow_reason row a position ≡ None)
    (after : left ≡ changed (followed position) row a) where
  pub noted_followed : Noted (follow_reason row a position) None
  noted_followed = subst (λ (o : Option Reason). Noted o None) (sym reason) tt

  pub row_followed : left ≡ followed_unless (follow_reason row a position) row a position
  row_followed = subst (λ (o : Option Reason). left ≡ followed_unless o row a position) (sym reason) after
