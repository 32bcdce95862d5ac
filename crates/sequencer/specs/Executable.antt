-- What an execute that is not refused may count on. Assumes nothing.
use Rattle.std.specs.Prelude.{◌≡◌, ℕ, ◌<◌, ◌≤◌, true}
use Rattle.records.specs.declared.motion.BufferMode.{BufferMode}
use Rattle.moves.specs.declared.instruction.Instruction.{Instruction}
use Rattle.moves.specs.Blocks.{command_of}
use Rattle.motion.specs.World.{World, axis_of}
use Rattle.words.specs.Words.{may_be}
use Rattle.sequencer.specs.Refusals.{free_in, waits}

-- block and axis are there, a stop is not buffered, fewer than four wait where it waits, and 16 words are free
pub record Executable (w : World) (b a : ℕ) (instruction : Instruction) (mode : BufferMode) : Type 0 where
  pub block : b < 32
  pub axis : a < w.row.count
  pub buffer : may_be (command_of instruction) mode ≡ true
  pub waiting : waits mode (axis_of w a) ≡ true → (axis_of w a).waiting < 4
  pub free : 16 ≤ free_in w
