use Rattle.std.proofs.Common.{take}
use Rattle.sequencer.specs.Whole.{world_of}
use Rattle.law.specs.Laws.Law.{Played}
use Rattle.law.proofs.playing.play.Given as goal

abbrev pub invariant-loop-order : goal.invariant-loop-order
invariant-loop-order g l = Played (world_of g.S.Segment.shows l.initial.sequencer l.initial.trail) (take l.order-index l.orders) (world_of g.S.Segment.shows l.sequencer l.trail)
