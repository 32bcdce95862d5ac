-- The world: the sheet, and what the segment shows. Assumes nothing.
use Rattle.std.specs.Prelude.{ℕ}
use Rattle.segment.specs.Calls.{unpowered}
use Rattle.segment.specs.Row.{Row, changed}
use Rattle.records.specs.declared.motion.AxisState.TheVariants.{ErrorStop}
use Rattle.records.specs.declared.outcome.Cause.{Cause}
use Rattle.records.specs.declared.outcome.Outcome.TheVariants.{Error}
use Rattle.trail.specs.declared.memory.Trail.{Trail}
use Rattle.moves.specs.declared.table.Axis.{Axis}
use Rattle.moves.specs.declared.table.Table.{Table}
use Rattle.moves.specs.Moves.{quelled}
use Rattle.moves.specs.Sheet.{Sheet, sheet, axis_at}
use Rattle.motion.specs.declared.machine.Machine.{Machine}

-- table and trail, and the segment's row
pub record World : Type 0 where
  pub sheet : Sheet
  pub row : Row

-- the world of a row, a table and a trail
abbrev pub world : Row → Table → Trail → World
world row table trail = record { sheet = sheet table trail; row = row }

-- the world of a machine whose segment shows so, and a trail
abbrev pub machine_world : {S : Type 0} → (S → Row) → Machine S → Trail → World
machine_world shows machine trail = world (shows machine.segment) machine.table trail

-- how many axes a machine has whose segment shows so
abbrev pub axes_of : {S : Type 0} → (S → Row) → Machine S → ℕ
axes_of shows machine = (shows machine.segment).count

-- the world with another sheet
abbrev pub on_sheet : World → Sheet → World
on_sheet w s = record { sheet = s; row = w.row }

-- the axis a of the world
abbrev pub axis_of : World → ℕ → Axis
axis_of w a = axis_at w.sheet.table a

-- errorstop: the axis's commands end in error with one cause, it halts, and its power is off
unfoldable pub failed : World → ℕ → Cause → World
failed w a cause = record { sheet = quelled w.sheet a (Error cause) ErrorStop; row = changed unpowered w.row a }
