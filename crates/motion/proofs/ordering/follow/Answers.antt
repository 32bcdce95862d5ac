use Rattle.std.proofs.Common.{ap, w32, SFits}
use Rattle.std.proofs.lemmas.Result.{err_from_is_err_and}
use Rattle.std.proofs.lemmas.Int.{to_z-of_z}
use Rattle.segment.specs.Row.{Row}
use Rattle.motion.proofs.Refused.{noted_refused, lawful_refused, row_refused, noted_followed, row_followed}
use Rattle.motion.proofs.ordering.follow.Goals as goal

pub returns-in_err-follow : goal.returns-in_err-follow
returns-in_err-follow g c =
    let fits : SFits w32 c.args.position = c.ranges.position in
    let p = err_from_is_err_and c.from_residual.result c.from_residual.ensures.1 in
    let refused = simp (to_z-of_z, c.index.ensures.same) at c.in_err-follow.ensures in
    let refusal = c.in_err-follow.field-0.0 in
    let row = g.S.Segment.shows c.args.segment.now in
    let left = g.S.Segment.shows c.follow.new.self in
    let axis = c.args.axis in
    let position = c.args.position in
    record {
      noted = rw p.1 (noted_refused row left axis position refusal p.0 c.requires.there refused.0 refused.1 p.2);
      cause = rw p.1 (lawful_refused row left axis position refusal p.0 c.requires.there refused.0 refused.1 p.2);
      row = row_refused row left axis position refusal p.0 c.requires.there refused.0 refused.1 p.2;
      count = ap (λ (r : Row). r.count) refused.1;
    }

pub returns : goal.returns
returns g c =
    let fits : SFits w32 c.args.position = c.ranges.position in
    let followed = simp (to_z-of_z, c.index.ensures.same) at c.in_ok-follow.ensures in
    let row = g.S.Segment.shows c.args.segment.now in
    let left = g.S.Segment.shows c.follow.new.self in
    record {
      noted = noted_followed row left c.args.axis c.args.position followed.0 followed.1;
      cause = tt;
      row = row_followed row left c.args.axis c.args.position followed.0 followed.1;
      count = ap (λ (r : Row). r.count) followed.1;
    }
