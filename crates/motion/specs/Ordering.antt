-- What a cycle orders of the segment. Assumes nothing.
use Rattle.std.specs.Prelude.{◌≡◌, ℕ, zero, suc, ◌<◌, ◌≤◌, List, ℤ, ◌+ℤ◌, Some, None, Option, slice_index_or}
use Rattle.segment.specs.declared.refusal.Reason.{Reason}
use Rattle.segment.specs.Calls.{follow_reason, followed}
use Rattle.segment.specs.Row.{Row, changed}
use Rattle.records.specs.declared.outcome.Cause.{Cause}
use Rattle.records.specs.declared.outcome.Cause.TheVariants.{Segment}
use Rattle.moves.specs.Moves.{kept}
use Rattle.moves.specs.Sheet.{block_at}
use Rattle.turns.specs.Steps.{step_of, stepped}
use Rattle.motion.specs.World.{World, axis_of}

-- where the axis a is ordered to go under the command of the block b: demand plus the step
abbrev pub next_position : World → ℕ → ℕ → ℤ
next_position w a b = (w.row.at a).demand +ℤ step_of (axis_of w a) (block_at w.sheet.table b)

-- the row after a follow that was refused for this reason, or not
abbrev pub followed_unless : Option Reason → Row → ℕ → ℤ → Row
followed_unless None row a position = changed (followed position) row a
followed_unless (Some reason) row a position = row

-- the axis a follows under this active block, if there is one
abbrev pub ordered_under : Option ℕ → World → ℕ → World
ordered_under None w a = w
ordered_under (Some b) w a = record {
  sheet = kept w.sheet a (stepped (axis_of w a) (block_at w.sheet.table b));
  row = followed_unless (follow_reason w.row a (next_position w a b)) w.row a (next_position w a b);
}

-- the axis a follows, if it has an active command
unfoldable pub ordered : World → ℕ → World
ordered w a = ordered_under (axis_of w a).active w a

-- the first n axes follow, in their order
unfoldable pub ordered_upto : World → ℕ → World
ordered_upto w zero = w
ordered_upto w (suc n) = ordered (ordered_upto w n) n

-- why the follow under this active block is refused, if it is
abbrev pub refusal_under : Option ℕ → World → ℕ → Option Reason
refusal_under None w a = None
refusal_under (Some b) w a = follow_reason w.row a (next_position w a b)

-- why the follow of the axis a is refused, if it is
unfoldable pub refusal_of : World → ℕ → Option Reason
refusal_of w a = refusal_under (axis_of w a).active w a

-- a refused follow is noted with its reason as a cause; the depth is left open
abbrev pub Noted : Option Reason → Option Cause → Type 0
Noted None None = Unit {0}
Noted None (Some cause) = ⊥
Noted (Some reason) None = ⊥
Noted (Some reason) (Some cause) = (depth : ℕ) × (depth ≤ 15) × (cause ≡ Segment depth reason)

-- each of the first n axes is noted, as it was refused at its turn
abbrev pub RefusedUpto : World → List (Option Cause) → ℕ → Type 0
RefusedUpto w refusals n = (a : ℕ) → a < n → Noted (refusal_of (ordered_upto w a) a) (slice_index_or refusals a None)
