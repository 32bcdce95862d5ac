-- A fault locks an axis out until it is cleared and powered on again. Assumes nothing.
use Rattle.std.proofs.Common.{◌≡◌, ℕ, ◌<◌, eqb, ◌⊎◌, List, ℤ, None, Ok, Err, Option, Result, sym, refl, ap, ◌∙◌, subst, inl, inr, arith}
use Rattle.std.proofs.lemmas.Bool.{cases_eq, eq-eqb, ne_eqb, cond-true, cond-false}
use Rattle.segment.specs.declared.axis.AxisLook.{AxisLook}
use Rattle.segment.specs.declared.axis.Power.{Power}
use Rattle.segment.specs.declared.axis.Power.TheVariants.{Off, Coming, On}
use Rattle.segment.specs.declared.refusal.Reason.{Reason}
use Rattle.segment.specs.declared.refusal.Refusal.{Refusal}
use Rattle.segment.specs.Calls.{Answers, powered, unpowered, followed, tripped, cleared, follow_reason}
use Rattle.segment.specs.Cycle.{AxisCycled, PowerCycled}
use Rattle.segment.specs.Laws.Faults.{Call, power_on, power_off, follow, trip, clear, cycle, Turn, Run, done, then, PowersNow, Powers, ClearsNow, ClearsAndPowers, FaultsLockOut}
use Rattle.segment.specs.Row.{Row, IsOff, changed}
use Rattle.segment.proofs.Ready.{ready}

-- ---- what a call keeps of an axis

-- a call that does f to the axis k keeps P of an axis, if f does or if it is another axis
kept_changed :
    (P : AxisLook → Type 0) (f : AxisLook → AxisLook) (row : Row) (k axis : ℕ) → (k ≡ axis → P (f (row.at axis))) →
    P (row.at axis) → P ((changed f row k).at axis)
kept_changed P f row k axis here there = elim (cases_eq axis k) [
  | inl e ↦ subst P (sym (cond-true (eqb axis k) (f (row.at axis)) (row.at axis) (eq-eqb axis k e))) (here (sym e))
  | inr ne ↦ subst P (sym (cond-false (eqb axis k) (f (row.at axis)) (row.at axis) (ne_eqb axis k ne))) there
]

-- and so does a refused one
kept_answered :
    (P : AxisLook → Type 0) (f : AxisLook → AxisLook) (reason : Option Reason) (row left : Row) (k axis : ℕ) (r : Result (Unit {0}) Refusal) →
    Answers reason row (changed f row k) r left → (k ≡ axis → P (f (row.at axis))) → P (row.at axis) →
    P (left.at axis)
kept_answered P f reason row left k axis (Ok x) a here there =
    subst (λ row. P (row.at axis)) (sym a.1) (kept_changed P f row k axis here there)
kept_answered P f reason row left k axis (Err e) a here there = subst (λ row. P (row.at axis)) (sym a.1) there

-- a row keeps its count
count_answered :
    (f : AxisLook → AxisLook) (reason : Option Reason) (row left : Row) (k : ℕ) (r : Result (Unit {0}) Refusal) →
    Answers reason row (changed f row k) r left → left.count ≡ row.count
count_answered f reason row left k (Ok x) a = ap (λ row. row.count) a.1
count_answered f reason row left k (Err e) a = ap (λ row. row.count) a.1

count_kept : (before after : Row) (call : Call) → Turn before call after → after.count ≡ before.count
count_kept before after (power_on k) t = count_answered powered _ before after k t.0 t.1
count_kept before after (power_off k) t = count_answered unpowered _ before after k t.0 t.1
count_kept before after (follow k position) t = count_answered (followed position) _ before after k t.0 t.1
count_kept before after (trip k code) t = count_answered (tripped code) _ before after k t.0 t.1
count_kept before after (clear k) t = count_answered cleared _ before after k t.0 t.1
count_kept before after cycle t = t.count

-- ---- an axis that is off

abbrev OffAt : AxisLook → Type 0
OffAt a = IsOff a.power

off_cycled : (power after : Power) → PowerCycled power after → IsOff power → IsOff after
off_cycled Off after e h = subst IsOff (sym e) tt
off_cycled Coming after e h = absurd h
off_cycled On after e h = absurd h

off_kept_cycle : (a b : AxisLook) → AxisCycled a b → OffAt a → OffAt b
off_kept_cycle a b c h = elim c.rest [
  | inl k ↦ off_cycled a.power b.power k.power h
  | inr k ↦ subst IsOff (sym k.power) tt
]

-- off stays off, unless power is asked for
off_turn :
    (before after : Row) (call : Call) (axis : ℕ) → axis < before.count → Turn before call after →
    OffAt (before.at axis) → PowersNow axis call ⊎ OffAt (after.at axis)
off_turn before after (power_on k) axis lt t h = elim (cases_eq k axis) [
  | inl e ↦ inl e
  | inr ne ↦ inr (kept_answered OffAt powered _ before after k axis t.0 t.1 (λ e. absurd (ne e)) h)
]
off_turn before after (power_off k) axis lt t h =
    inr (kept_answered OffAt unpowered _ before after k axis t.0 t.1 (λ _. tt) h)
off_turn before after (follow k position) axis lt t h =
    inr (kept_answered OffAt (followed position) _ before after k axis t.0 t.1 (λ _. h) h)
off_turn before after (trip k code) axis lt t h =
    inr (kept_answered OffAt (tripped code) _ before after k axis t.0 t.1 (λ _. tt) h)
off_turn before after (clear k) axis lt t h =
    inr (kept_answered OffAt cleared _ before after k axis t.0 t.1 (λ _. h) h)
off_turn before after cycle axis lt t h = inr (off_kept_cycle (before.at axis) (after.at axis) (t.each axis lt) h)

not_off : (power : Power) → power ≡ On → IsOff power → ⊥
not_off Off e h = cc
not_off Coming e h = h
not_off On e h = h

off_run :
    {before after : Row} {calls : List Call} (axis : ℕ) (position : ℤ) → Run before calls after →
    axis < before.count → OffAt (before.at axis) → follow_reason after axis position ≡ None → Powers axis calls
off_run {after = after} axis position done lt h e =
    absurd (not_off (after.at axis).power (ready after axis position e).on h)
off_run axis position (then {before = before} {next = next} {call = call} s t run) lt h e = elim (off_turn before next call axis lt t h) [
  | inl p ↦ inl p
  | inr k ↦ inr (off_run axis position run (omega (arith, count_kept before next call t)) k e)
]

-- ---- an axis with a fault

abbrev FaultedAt : AxisLook → Type 0
FaultedAt a = 0 < a.fault

faulted_tripped : (code : ℕ) (a : AxisLook) → FaultedAt a → FaultedAt (tripped code a)
faulted_tripped code a h =
    let some = ne_eqb a.fault 0 (λ z. absurd (omega arith)) in
    subst (λ n. 0 < n) (sym (cond-false (eqb a.fault 0) code a.fault some)) h

faulted_kept_cycle : (a b : AxisLook) → AxisCycled a b → FaultedAt a → FaultedAt b
faulted_kept_cycle a b c h = elim c.rest [
  | inl k ↦ omega (arith, k.fault)
  | inr k ↦ omega (arith, k.fault)
]

-- a fault stays, unless it is cleared
faulted_turn :
    (before after : Row) (call : Call) (axis : ℕ) → axis < before.count → Turn before call after →
    FaultedAt (before.at axis) → ClearsNow axis call ⊎ FaultedAt (after.at axis)
faulted_turn before after (power_on k) axis lt t h =
    inr (kept_answered FaultedAt powered _ before after k axis t.0 t.1 (λ _. h) h)
faulted_turn before after (power_off k) axis lt t h =
    inr (kept_answered FaultedAt unpowered _ before after k axis t.0 t.1 (λ _. h) h)
faulted_turn before after (follow k position) axis lt t h =
    inr (kept_answered FaultedAt (followed position) _ before after k axis t.0 t.1 (λ _. h) h)
faulted_turn before after (trip k code) axis lt t h =
    inr
    (kept_answered FaultedAt (tripped code) _ before after k axis t.0 t.1 (λ _. faulted_tripped code (before.at axis) h) h)
faulted_turn before after (clear k) axis lt t h = elim (cases_eq k axis) [
  | inl e ↦ inl e
  | inr ne ↦ inr (kept_answered FaultedAt cleared _ before after k axis t.0 t.1 (λ e. absurd (ne e)) h)
]
faulted_turn before after cycle axis lt t h =
    inr (faulted_kept_cycle (before.at axis) (after.at axis) (t.each axis lt) h)

-- a clear does not ask for power
clear_no_power : (axis : ℕ) (call : Call) → ClearsNow axis call → PowersNow axis call → ⊥
clear_no_power axis (power_on k) c p = c
clear_no_power axis (power_off k) c p = c
clear_no_power axis (follow k position) c p = c
clear_no_power axis (trip k code) c p = c
clear_no_power axis (clear k) c p = p
clear_no_power axis cycle c p = c

faulted_run :
    {before after : Row} {calls : List Call} (axis : ℕ) (position : ℤ) → Run before calls after →
    axis < before.count → FaultedAt (before.at axis) → follow_reason after axis position ≡ None →
    ClearsAndPowers axis calls
faulted_run {after = after} axis position done lt h e = absurd (omega (arith, (ready after axis position e).calm))
faulted_run axis position (then {before = before} {next = next} {call = call} s t run) lt h e =
    let more : axis < next.count = omega (arith, count_kept before next call t) in
    elim (faulted_turn before next call axis lt t h) [
      | inl c ↦ elim (off_turn before next call axis lt t ((s.each axis).power h)) [
        | inl p ↦ absurd (clear_no_power axis call c p)
        | inr k ↦ inl (c, off_run axis position run more k e)
      ]
      | inr k ↦ inr (faulted_run axis position run more k e)
    ]

run_count : {before after : Row} {calls : List Call} → Run before calls after → after.count ≡ before.count
run_count done = refl
run_count (then {before = before} {next = next} {call = call} s t run) = run_count run ∙ count_kept before next call t

pub faults_lock_out : FaultsLockOut
faults_lock_out before after calls axis position run h e =
    faulted_run axis position run (omega (arith, (ready after axis position e).there, run_count run)) h e
