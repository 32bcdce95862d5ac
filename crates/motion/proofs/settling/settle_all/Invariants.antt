use Rattle.motion.proofs.Settles.{SettledFirst}
use Rattle.motion.proofs.settling.settle_all.Given as goal

abbrev pub invariant-loop-axis : goal.invariant-loop-axis
invariant-loop-axis g l =
    SettledFirst (g.S.Segment.shows l.initial.segment) (g.S.Segment.shows l.segment) l.initial.table l.table
    l.initial.trail l.trail l.refusals l.axis
