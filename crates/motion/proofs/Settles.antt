-- The axes take their turns, one after the other. Assumes nothing.
use Rattle.std.proofs.Common.{◌≡◌, ℕ, ◌+◌, ◌*◌, List, slice_index_or, None, Option, refl, ap, ◌∙◌, add-one}
use Rattle.segment.specs.Row.{Row}
use Rattle.records.specs.declared.outcome.Cause.{Cause}
use Rattle.trail.specs.declared.memory.Trail.{Trail}
use Rattle.moves.specs.declared.table.Table.{Table}
use Rattle.moves.specs.Room.{Wrote}
use Rattle.motion.specs.Settling.{settled, settled_upto}
use Rattle.motion.specs.World.{World, world}

pub settled_none : (w : World) (refusals : List (Option Cause)) → w ≡ settled_upto w refusals 0
unfolding settled_upto
settled_none w refusals = refl

pub settled_more : (w v u : World) (refusals : List (Option Cause)) (n : ℕ) →
    v ≡ settled_upto w refusals n → u ≡ settled v n (slice_index_or refusals n None) → u ≡ settled_upto w refusals (n + 1)
unfolding settled_upto
settled_more w v u refusals n e f = rw add-one (f ∙ ap (λ (x : World). settled x n (slice_index_or refusals n None)) e)

-- the first n axes took their turns, and row, table and trail are these
pub record SettledFirst (before after : Row) (old new : Table) (start end : Trail) (refusals : List (Option Cause)) (n : ℕ) : Type 0 where
  pub so_far : world after new end ≡ settled_upto (world before old start) refusals n
  pub wrote : Wrote (7 * n) start end
  pub count : after.count ≡ before.count
