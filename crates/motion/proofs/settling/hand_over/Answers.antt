use Rattle.std.proofs.Common.{◌≤◌, length, ap, ◌∙◌, subst, arith}
use Rattle.moves.specs.declared.table.Axis.{Axis}
use Rattle.moves.specs.Sheet.{axis_at}
use Rattle.motion.specs.World.{World, world}
use Rattle.motion.proofs.Used.{failed_used}
use Rattle.motion.proofs.settling.hand_over.Goals as goal

pub returns-in-Err-clause-idle : goal.returns-in-Err-clause-idle
returns-in-Err-clause-idle g c none =
    let w = world (g.S.Segment.shows c.args.segment.now) c.args.table.now c.args.trail.now in
    let few : (axis_at c.args.table.now c.args.axis).waiting ≤ 4 =
    subst (λ (y : Axis). y.waiting ≤ 4) (c.old.view_is ∙ c.axis-old.ensures) c.at.ensures.few in
    let words = ap (λ (v : World). length v.sheet.words) c.fail.ensures.world in
    omega (arith, words, failed_used w c.args.axis c.of.result none few)
