use Rattle.std.proofs.Common.{w32, SFits, rules}
use Rattle.std.proofs.lemmas.Int.{to_z-of_z}
use Rattle.stages.proofs.Mirrored.{mirror_leads}
use Rattle.stages.proofs.mirror_view.TurnedAxesView.ordered.Goals as goal

pub returns : goal.returns
returns g c =
    let below = c.args._below.now in
    let fits : SFits w32 c.args.position = c.ranges.position in
    let fits_order : SFits w32 c.order_for.result = search rules in
    let e = simp to_z-of_z at c.order_for.ensures in
    rw to_z-of_z (mirror_leads c.args.self.now.mask (g.S.Segment.shows below) c.args.axis c.args.position c.order_for.result (g.S.Segment.sound below) e)
