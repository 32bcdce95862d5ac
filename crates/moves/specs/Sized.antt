-- What every table keeps to, so that the moves are safe. Assumes nothing.
use Rattle.std.specs.Prelude.{ℕ, ◌<◌, ◌≤◌, Some, None, Option, slice_index}
use Rattle.ramp.specs.Near.{Near}
use Rattle.moves.specs.declared.table.Axis.{Axis}
use Rattle.moves.specs.declared.table.Table.{Table}
use Rattle.moves.specs.Sheet.{axis_at}

-- the number of a block, 0 where there is none
abbrev pub number_of : Option ℕ → ℕ
number_of None = 0
number_of (Some b) = b

-- at most four commands wait on an axis
abbrev pub Few : Table → Type 0
Few table = (a : ℕ) → (axis_at table a).waiting ≤ 4

-- the active command is that of a block
abbrev pub ActiveNamed : Table → Type 0
ActiveNamed table = (a : ℕ) → number_of (axis_at table a).active < 32

-- those that wait are those of blocks
abbrev pub QueueNamed : Table → Type 0
QueueNamed table = (a k : ℕ) → slice_index (axis_at table a).queue k < 32

-- no step of an axis leads out of the numbers
abbrev pub AllNear : Table → Type 0
AllNear table = (a : ℕ) → Near (axis_at table a).distance_to_go (axis_at table a).velocity

-- all four
pub record Sized (table : Table) : Type 0 where
  pub few : Few table
  pub active : ActiveNamed table
  pub queued : QueueNamed table
  pub near : AllNear table

-- the same of one axis
pub record SizedAxis (y : Axis) : Type 0 where
  pub few : y.waiting ≤ 4
  pub active : number_of y.active < 32
  pub queued : (k : ℕ) → slice_index y.queue k < 32
  pub near : Near y.distance_to_go y.velocity
