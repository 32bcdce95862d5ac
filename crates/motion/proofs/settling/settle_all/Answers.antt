use Rattle.std.proofs.Common.{◌≡◌, ℕ, ◌<◌, length, None, Option, ap, slice_index_or, refl, ◌∙◌, subst, arith, rules}
use Rattle.std.proofs.lemmas.List.{get_or_default}
use Rattle.records.specs.declared.outcome.Cause.{Cause}
use Rattle.motion.specs.Settling.{settled}
use Rattle.motion.specs.World.{world}
use Rattle.motion.proofs.Settles.{SettledFirst, settled_none, settled_more}
use Rattle.motion.proofs.settling.settle_all.Goals as goal

pub loop-axis-init : goal.loop-axis-init
loop-axis-init g c = record {
  so_far = settled_none _ _;
  wrote = record { used = omega arith; room = refl };
  count = refl;
}

pub loop-axis-preserved : goal.loop-axis-preserved
loop-axis-preserved g c =
    let inv = c.loop-axis.invariant in
    let axis = c.loop-axis.axis in
    let few = (g.S.Segment.sound c.args.segment.now).few in
    let long : 8 ≡ length c.args.refusals = search rules in
    let within : axis < length c.args.refusals =
    omega (arith, few, long, c.loop-axis-test.true, c.requires.there) in
    let w = world (g.S.Segment.shows c.loop-axis.segment) c.loop-axis.table c.loop-axis.trail in
    let any = c.index-refusals-axis.result in
    let same : c.of.result ≡ axis = omega (arith, c.of.ensures, few, c.loop-axis-test.true, c.requires.there) in
    let step =
    c.settle.ensures.world ∙ ap (λ (a : ℕ). settled w a (slice_index_or c.args.refusals axis any)) same
    ∙ ap (λ (r : Option Cause). settled w axis r) (get_or_default c.args.refusals axis any None within) in
    record {
      so_far = settled_more _ _ _ _ axis inv.so_far step;
      wrote = record {
        used = omega (arith, inv.wrote.used, c.settle.ensures.wrote.used);
        room = c.settle.ensures.wrote.room ∙ inv.wrote.room;
      };
      count = c.settle.ensures.count ∙ inv.count;
    }

pub returns : goal.returns
returns g c =
    let all : c.loop-axis.axis ≡ c.args.count = omega (arith, c.loop-axis-test.false, c.loop-axis.auto.axis-end) in
    let done =
    subst (λ n. SettledFirst (g.S.Segment.shows c.args.segment.now) (g.S.Segment.shows c.loop-axis.segment)
    c.args.table.now c.loop-axis.table c.args.trail.now c.loop-axis.trail c.args.refusals n) all c.loop-axis.invariant in
    record { world = done.so_far; wrote = done.wrote; count = done.count }
