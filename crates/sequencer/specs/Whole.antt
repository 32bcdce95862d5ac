-- The world of a sequencer and a trail. Assumes nothing.
use Rattle.segment.specs.Row.{Row}
use Rattle.trail.specs.declared.memory.Trail.{Trail}
use Rattle.moves.specs.declared.table.Table.{Table}
use Rattle.motion.specs.World.{World, machine_world}
use Rattle.sequencer.specs.declared.sequencer.Sequencer.{Sequencer}

-- the segment of a sequencer
abbrev pub segment_of : {S : Type 0} → Sequencer S → S
segment_of sequencer = sequencer.machine.segment

-- the table of a sequencer
abbrev pub table_of : {S : Type 0} → Sequencer S → Table
table_of sequencer = sequencer.machine.table

-- the world of a sequencer whose segment shows so, and a trail
abbrev pub world_of : {S : Type 0} → (S → Row) → Sequencer S → Trail → World
world_of shows sequencer trail = machine_world shows sequencer.machine trail
