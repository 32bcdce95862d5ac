use Rattle.motion.proofs.Orders.{OrderedFirst}
use Rattle.motion.proofs.ordering.order_all.Given as goal

abbrev pub invariant-loop-axis : goal.invariant-loop-axis
invariant-loop-axis g l =
    OrderedFirst (g.S.Segment.shows l.initial.segment) (g.S.Segment.shows l.segment) l.initial.table l.table
    l.refusals l.axis
