-- The commands of a queue end one after the other. Assumes nothing.
use Rattle.std.proofs.Common.{◌≡◌, ℕ, ◌+◌, List, slice_index, refl, ap, ◌∙◌, add-one}
use Rattle.records.specs.declared.outcome.Outcome.{Outcome}
use Rattle.trail.specs.declared.memory.Trail.{Trail}
use Rattle.moves.specs.declared.table.Table.{Table}
use Rattle.moves.specs.Moves.{ended, ended_upto}
use Rattle.moves.specs.Room.{Wrote}
use Rattle.moves.specs.Sheet.{Sheet, sheet}

pub ended_none : (s : Sheet) (a : ℕ) (queue : List ℕ) (outcome : Outcome) → s ≡ ended_upto s a queue outcome 0
unfolding ended_upto
ended_none s a queue outcome = refl

pub ended_more : (s t u : Sheet) (a : ℕ) (queue : List ℕ) (outcome : Outcome) (n : ℕ) →
    t ≡ ended_upto s a queue outcome n → u ≡ ended t a (slice_index queue n) outcome → u ≡ ended_upto s a queue outcome (n + 1)
unfolding ended_upto
ended_more s t u a queue outcome n e f = rw add-one (f ∙ ap (λ (v : Sheet). ended v a (slice_index queue n) outcome) e)

-- the first n are ended, and table and trail are these
pub record EndedFirst (old new : Table) (before after : Trail) (a : ℕ) (queue : List ℕ) (outcome : Outcome) (n : ℕ) : Type 0 where
  pub so_far : sheet new after ≡ ended_upto (sheet old before) a queue outcome n
  pub wrote : Wrote n before after
  pub axes : new.axes ≡ old.axes
