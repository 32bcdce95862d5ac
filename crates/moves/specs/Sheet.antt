-- The sheet: the table and the trail beside it, and how each of their parts is read and written. Assumes nothing.
use Rattle.std.specs.Prelude.{ℕ, false, List, [], ◌∷◌, ◌++◌, replicate, pos, None, slice_index_or, slice_set}
use Rattle.records.specs.declared.kinds.Record.{Record}
use Rattle.records.specs.declared.motion.AxisState.TheVariants.{Disabled}
use Rattle.records.specs.declared.motion.BufferMode.TheVariants.{Aborting}
use Rattle.words.specs.Words.{word}
use Rattle.trail.specs.declared.memory.Trail.{Trail}
use Rattle.trail.specs.Held.{held_words, held_room}
use Rattle.moves.specs.declared.table.Axis.{Axis}
use Rattle.moves.specs.declared.table.Block.{Block}
use Rattle.moves.specs.declared.table.Status.TheVariants.{Idle}
use Rattle.moves.specs.declared.table.Table.{Table}

-- an idle block: zero in every part
abbrev pub idle_block : Block
idle_block = record { status = Idle; axis = 0; command = None; mode = Aborting; value = pos 0; max_velocity = 0; max_acceleration = 0 }

-- an axis that is disabled and has this queue, of which none waits
abbrev pub disabled_axis : List ℕ → Axis
disabled_axis queue = record {
  state = Disabled;
  velocity = pos 0;
  distance_to_go = pos 0;
  enable_requested = false;
  active = None;
  queue = queue;
  waiting = 0;
  stop = None;
}

-- the table of a new sequencer
abbrev pub new_table : Table
new_table = record { blocks = replicate 32 idle_block; axes = replicate 8 (disabled_axis (replicate 4 0)); cycles = 0 }

-- the block of a number; past the last an idle one
abbrev pub block_at : Table → ℕ → Block
block_at table b = slice_index_or table.blocks b idle_block

-- the axis of a number; past the last a disabled one
abbrev pub axis_at : Table → ℕ → Axis
axis_at table a = slice_index_or table.axes a (disabled_axis [])

-- the table with another block
abbrev pub with_block : Table → ℕ → Block → Table
with_block table b x = record { blocks = slice_set table.blocks b x; axes = table.axes; cycles = table.cycles }

-- the table with another axis
abbrev pub with_axis : Table → ℕ → Axis → Table
with_axis table a y = record { blocks = table.blocks; axes = slice_set table.axes a y; cycles = table.cycles }

-- a table, the words of a trail, the oldest first, and how many words the trail can hold
pub record Sheet : Type 0 where
  pub table : Table
  pub words : List ℕ
  pub room : ℕ

-- the sheet of a table and a trail
abbrev pub sheet : Table → Trail → Sheet
sheet table trail = record { table = table; words = held_words trail; room = held_room trail }

-- the sheet with another table
abbrev pub on_table : Sheet → Table → Sheet
on_table s table = record { table = table; words = s.words; room = s.room }

-- the sheet with the word of one record more
abbrev pub told : Sheet → Record → Sheet
told s x = record { table = s.table; words = s.words ++ (word x ∷ []); room = s.room }
