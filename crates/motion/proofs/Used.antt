-- How many words a failing axis writes. Assumes nothing.
use Rattle.std.proofs.Common.{◌≡◌, ℕ, zero, suc, ◌+◌, ◌≤◌, Bool, true, false, eqb, List, [], length, get_or, ℤ, None, Option, ap, ◌∙◌, inl, inr, arith, length-append}
use Rattle.std.proofs.lemmas.List.{get_or_past, get_or-set_same, set_past}
use Rattle.std.proofs.lemmas.Bool.{cases_lt}
use Rattle.records.specs.declared.motion.AxisState.{AxisState}
use Rattle.records.specs.declared.motion.AxisState.TheVariants.{ErrorStop}
use Rattle.records.specs.declared.outcome.Cause.{Cause}
use Rattle.records.specs.declared.outcome.Outcome.{Outcome}
use Rattle.records.specs.declared.outcome.Outcome.TheVariants.{Done, Error}
use Rattle.records.specs.Numbers.{state_number}
use Rattle.moves.specs.declared.table.Axis.{Axis}
use Rattle.moves.specs.declared.table.Table.{Table}
use Rattle.moves.specs.Axes.{without_active, halted_in}
use Rattle.moves.specs.Moves.{ended, ended_upto, ended_active, emptied, entered, entered_if, quelled, finished}
use Rattle.moves.specs.Sheet.{Sheet, disabled_axis, axis_at, with_axis}
use Rattle.motion.specs.World.{World, axis_of, failed}

entered_if_used : (same : Bool) (s : Sheet) (a : ℕ) (y : Axis) → length (entered_if same s a y).words ≤ length s.words + 1
entered_if_used true s a y = omega arith
entered_if_used false s a y = simp length-append (omega arith)

entered_used : (s : Sheet) (a : ℕ) (y : Axis) → length (entered s a y).words ≤ length s.words + 1
unfolding entered
entered_used s a y = entered_if_used (eqb (state_number (axis_at s.table a).state) (state_number y.state)) s a y

ended_used : (s : Sheet) (a b : ℕ) (outcome : Outcome) → length (ended s a b outcome).words ≤ length s.words + 1
unfolding ended
ended_used s a b outcome = simp length-append (omega arith)

upto_used : (s : Sheet) (a : ℕ) (queue : List ℕ) (outcome : Outcome) (n : ℕ) →
    length (ended_upto s a queue outcome n).words ≤ length s.words + n
unfolding ended_upto
upto_used s a queue outcome zero = omega arith
upto_used s a queue outcome (suc n) =
    omega (arith, ended_used (ended_upto s a queue outcome n) a (get_or queue n 0) outcome, upto_used s a queue outcome n)

idle_used : (s : Sheet) (a : ℕ) (active : Option ℕ) (outcome : Outcome) → active ≡ None → ended_active s a active outcome ≡ s
unfolding ended_active
idle_used s a active outcome none = ap (λ (o : Option ℕ). ended_active s a o outcome) none

-- an axis with no command active: one word for each that waits
emptied_used : (s : Sheet) (a : ℕ) (outcome : Outcome) → (axis_at s.table a).active ≡ None →
    length (emptied s a outcome).words ≤ length s.words + (axis_at s.table a).waiting
unfolding emptied
emptied_used s a outcome none =
    let y : Axis = axis_at s.table a in
    let t = ended_active s a y.active outcome in
    let same = ap (λ (u : Sheet). length u.words) (idle_used s a y.active outcome none) in
    omega (arith, upto_used t a y.queue outcome y.waiting, same)

quelled_used : (s : Sheet) (a : ℕ) (outcome : Outcome) (state : AxisState) → (axis_at s.table a).active ≡ None →
    length (quelled s a outcome state).words ≤ length s.words + ((axis_at s.table a).waiting + 1)
unfolding quelled
quelled_used s a outcome state none =
    omega (
      arith,
      entered_used (emptied s a outcome) a (halted_in state (axis_at (emptied s a outcome).table a)),
      emptied_used s a outcome none,
    )

-- an axis with no command active fails in five words
pub failed_used : (w : World) (a : ℕ) (cause : Cause) → (axis_of w a).active ≡ None → (axis_of w a).waiting ≤ 4 →
    length (failed w a cause).sheet.words ≤ length w.sheet.words + 5
unfolding failed
failed_used w a cause none few = omega (arith, quelled_used w.sheet a (Error cause) ErrorStop none)

-- ---- after a command that is done, none is active

idle_at : (table : Table) (a : ℕ) (y : Axis) → (axis_at (with_axis table a (without_active y)) a).active ≡ None
idle_at table a y =
    elim (cases_lt a (length table.axes)) [
      | inl within ↦ ap (λ (z : Axis). z.active) (get_or-set_same table.axes a (without_active y) (disabled_axis []) within)
      | inr past ↦ ap (λ (axes : List Axis). (get_or axes a (disabled_axis [])).active) (set_past table.axes a (without_active y) past)
          ∙ ap (λ (z : Axis). z.active) (get_or_past table.axes a (disabled_axis []) past)
    ]

pub finished_idle : (s : Sheet) (a b : ℕ) (place : ℤ) → (axis_at (finished s a b place).table a).active ≡ None
unfolding finished
finished_idle s a b place = idle_at (ended s a b Done).table a (axis_at s.table a)
