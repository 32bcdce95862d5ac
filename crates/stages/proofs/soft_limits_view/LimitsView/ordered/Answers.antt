use Rattle.std.proofs.Common.{ap, w32, SFits}
use Rattle.std.proofs.lemmas.Result.{err_from_is_err_and}
use Rattle.std.proofs.lemmas.Int.{to_z-of_z}
use Rattle.segment.proofs.Stages.{ready_from}
use Rattle.stages.specs.Narrowed.{narrowed, narrowed_row}
use Rattle.stages.proofs.HandedUp.{looked_up}
use Rattle.stages.proofs.Narrowed.{limits_lead}
use Rattle.stages.proofs.soft_limits_view.LimitsView.ordered.Goals as goal

pub returns-in_err-admit : goal.returns-in_err-admit
returns-in_err-admit g c =
    let row = g.S.Segment.shows c.args.below.now in
    let limits = c.args.self.now in
    let fits : SFits w32 c.args.position = c.ranges.position in
    let seen = looked_up row c.args.axis c.look.result c.in_ok-look.look c.look.ensures c.in_ok-look.ensures.handed in
    let refused = err_from_is_err_and c.from_residual-in_err-admit.result c.from_residual-in_err-admit.ensures.1 in
    let own = simp to_z-of_z at c.in_err-admit.ensures in
    let why = ready_from (narrowed_row limits row) c.args.axis (narrowed limits c.in_ok-look.look) c.args.position _ seen.0 (ap (narrowed limits) seen.1) own.reason in
    rw (refused.1, refused.2) why

pub returns : goal.returns
returns g c =
    let row = g.S.Segment.shows c.args.below.now in
    let fits : SFits w32 c.args.position = c.ranges.position in
    let seen = looked_up row c.args.axis c.look.result c.in_ok-look.look c.look.ensures c.in_ok-look.ensures.handed in
    let same = simp to_z-of_z at c.in_ok-admit.ensures in
    rw to_z-of_z (limits_lead c.args.self.now row c.args.axis c.in_ok-look.look c.args.position seen.1 same)
