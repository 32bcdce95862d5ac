use Rattle.std.proofs.Common.{◌≡◌, ◌<◌, length, replicate, None, refl, ◌∙◌, subst, arith}
use Rattle.std.proofs.lemmas.List.{length-set}
use Rattle.trail.specs.declared.memory.Trail.{Trail}
use Rattle.motion.specs.Ordering.{ordered, refusal_of, Noted}
use Rattle.motion.specs.World.{world}
use Rattle.motion.proofs.Orders.{OrderedFirst, ordered_none, ordered_more, refused_none, refused_at}
use Rattle.motion.proofs.ordering.order_all.Goals as goal

pub loop-axis-init : goal.loop-axis-init
loop-axis-init g c = record {
  so_far = λ trail. ordered_none _;
  noted = λ trail. refused_none _ (replicate 8 None);
  long = refl;
  count = refl;
}

pub loop-axis-preserved : goal.loop-axis-preserved
loop-axis-preserved g c =
    let inv = c.loop-axis.invariant in
    let axis = c.loop-axis.axis in
    let refusals = c.loop-axis.refusals in
    let few = (g.S.Segment.sound c.args.segment.now).few in
    let within : axis < length refusals = omega (arith, few, inv.long, c.loop-axis-test.true, c.requires.there) in
    let shows = g.S.Segment.shows in
    let same : c.of.result ≡ axis = omega (arith, c.of.ensures, few, c.loop-axis-test.true, c.requires.there) in
    let step : (trail : Trail) → world (shows c.order.new.segment) c.order.new.table trail ≡ ordered (world (shows c.loop-axis.segment) c.loop-axis.table trail) axis =
    rw (← same) c.order.ensures.world in
    let noted : (trail : Trail) → Noted (refusal_of (world (shows c.loop-axis.segment) c.loop-axis.table trail) axis) c.order.result =
    rw (← same) c.order.ensures.noted in
    record {
      so_far = λ trail. ordered_more _ _ _ axis (inv.so_far trail) (step trail);
      noted = λ trail. refused_at _ _ refusals c.order.result axis _ (omega arith) within (inv.so_far trail) (inv.noted trail) (noted trail);
      long = length-set refusals _ c.order.result ∙ inv.long;
      count = c.order.ensures.count ∙ inv.count;
    }

pub returns : goal.returns
returns g c =
    let all : c.loop-axis.axis ≡ c.args.count = omega (arith, c.loop-axis-test.false, c.loop-axis.auto.axis-end) in
    let done =
    subst (λ n. OrderedFirst (g.S.Segment.shows c.args.segment.now) (g.S.Segment.shows c.loop-axis.segment)
    c.args.table.now c.loop-axis.table c.loop-axis.refusals n) all c.loop-axis.invariant in
    record { world = done.so_far; noted = done.noted; count = done.count }
