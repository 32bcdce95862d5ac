use Rattle.std.proofs.Common.{get_or, sym, refl, ap, ◌∙◌, subst, arith, w32, to_z, of_z}
use Rattle.std.proofs.lemmas.Result.{err_from_is_err_and}
use Rattle.std.proofs.lemmas.Int.{to_z-of_z}
use Rattle.segment.specs.Calls.{followed, ready_reason}
use Rattle.drives.specs.Orders.{follow_to}
use Rattle.drives.specs.Shown.{shown_row}
use Rattle.segment.proofs.Stages.{within, ready_from}
use Rattle.drives.proofs.Rows.{shown_at, shown_changed, obeyed_set}
use Rattle.drives.proofs.row.BankSegment.follow.Goals as goal

pub returns-in_err-ready : goal.returns-in_err-ready
returns-in_err-ready g c =
    let p = err_from_is_err_and c.from_residual-in_err-ready.result c.from_residual-in_err-ready.ensures.1 in
    let seen = c.in_ok-look.ensures in
    rw (p.1, p.2) (record { meant = (ready_from (shown_row g.D.Drive.seen c.args.self.now.count c.args.self.now.drives) _ _ _ _ seen.0 seen.1 (ap (ready_reason c.in_ok-look.look) (sym (to_z-of_z w32 c.args.position c.ranges.position)) ∙ c.in_err-ready.ensures), refl); exact = refl })

pub offset_bounds-self-axis : goal.offset_bounds-self-axis
offset_bounds-self-axis g c = omega (arith, within _ _ c.in_ok-look.ensures.0)

pub listed : goal.listed
listed g c = omega (arith, within _ _ c.in_ok-look.ensures.0)

pub bounds-self-axis : goal.bounds-self-axis
bounds-self-axis g c = omega (arith, within _ _ c.in_ok-look.ensures.0)

pub follow-requires : goal.follow-requires
follow-requires g c =
    let seen = c.in_ok-look.ensures in
    ap (λ a. ready_reason a (to_z w32 (of_z w32 c.args.position)))
    (sym (seen.1 ∙ shown_at _ _ _ (omega arith) _ _ (within _ _ seen.0)))
    ∙ c.in_ok-ready.ensures

pub returns : goal.returns
returns g c =
    let seen = c.in_ok-look.ensures in
    let back = to_z-of_z w32 c.args.position c.ranges.position in
    let reason =
    ready_from (shown_row g.D.Drive.seen c.args.self.now.count c.args.self.now.drives) _ _ _ _
    seen.0 seen.1
    (ap (ready_reason c.in_ok-look.look) (sym back) ∙ c.in_ok-ready.ensures) in
    let shows =
    c.follow.ensures.shows
    ∙ ap
    (λ z. followed z (g.D.Drive.seen (get_or c.args.self.now.drives c.args.axis c.index-self-axis.result)))
    back in
    let did =
    subst
    (λ z. g.D.Drive.obeys (follow_to z) (get_or c.args.self.now.drives c.args.axis c.index-self-axis.result) c.follow.new.self)
    back c.follow.ensures.exact in
    record {
      meant =
          (reason, shown_changed _ _ _ (omega arith) (followed c.args.position) _ c.index-self-axis.result _ (within _ _ seen.0) shows);
      exact =
          obeyed_set g.D.Drive.obeys (follow_to c.args.position) c.args.axis _
          c.index-self-axis.result _ (omega (arith, within _ _ seen.0)) did;
    }
