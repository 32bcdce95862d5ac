use Rattle.std.proofs.Common.{w32, SFits, rules}
use Rattle.std.proofs.lemmas.Int.{to_z-of_z}
use Rattle.stages.proofs.Leading.{follow_up}
use Rattle.stages.proofs.stage_segment.StageSegment.follow.Goals as goal

pub returns : goal.returns
returns g c =
    let fits : SFits w32 c.args.position = c.ranges.position in
    let fits_order : SFits w32 c.in_ok-order.order = search rules in
    let leads = simp to_z-of_z at c.in_ok-order.ensures in
    let below = simp to_z-of_z at c.follow.ensures in
    follow_up _ _ _ _ _ _ c.follow.result _ leads c.up.ensures.handed below
