-- Whom a released block held. Assumes nothing.
use Rattle.std.proofs.Common.{◌≡◌, ℕ, ◌≤◌, [], length, None, Option, sym, ap}
use Rattle.std.proofs.lemmas.List.{get_or_past}
use Rattle.moves.specs.declared.table.Axis.{Axis}
use Rattle.moves.specs.Axes.{is_block}
use Rattle.moves.specs.Sheet.{Sheet, axis_at, disabled_axis}
use Rattle.sequencer.specs.Calls.{freed}

-- no stop holds an axis past the last
pub freed_past : (s : Sheet) (a b : ℕ) → length s.table.axes ≤ a → s ≡ freed (is_block (axis_at s.table a).stop b) s a
freed_past s a b past =
    let none : (axis_at s.table a).stop ≡ None = ap (λ (y : Axis). y.stop) (get_or_past s.table.axes a (disabled_axis []) past) in
    sym (ap (λ (stop : Option ℕ). freed (is_block stop b) s a) none)
