use Rattle.trail.specs.Held.{held_room}
use Rattle.law.specs.declared.order.Order.TheVariants.{PowerOn}
use Rattle.law.proofs.Played.{played_none, played_more, new_fresh}
use Rattle.law.proofs.playing.play.Goals as goal

pub loop-order-init : goal.loop-order-init
loop-order-init g c =
    played_none _ (rw c.begin-sequencer.ensures (new_fresh (g.S.Segment.shows c.args.segment) (held_room c.args.trail.now) (g.S.Segment.sound c.args.segment)))

pub loop-order-preserved : goal.loop-order-preserved
loop-order-preserved g c = played_more _ c.args.orders.now c.loop-order.order-index (PowerOn 0) _ _ _ c.loop-order-test.true c.loop-order.invariant c.call.ensures.step
