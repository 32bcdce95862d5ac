use Rattle.std.proofs.Common.{w32, SFits}
use Rattle.std.proofs.lemmas.Int.{to_z-of_z}
use Rattle.segment.proofs.Follows.{moved_on}
use Rattle.segment.proofs.moving.follow_and_cycle.Goals as goal

pub returns-clause-moved : goal.returns-clause-moved
returns-clause-moved g c =
    let fits : SFits w32 c.args.position = c.ranges.position in
    let followed = simp to_z-of_z at c.in_ok-follow.ensures in
    moved_on _ (g.S.Segment.shows c.follow.new.self) _ c.args.axis c.args.position _ followed
    c.look_after_cycle.ensures.cycled c.look_after_cycle.ensures.looked
