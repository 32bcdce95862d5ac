use Rattle.std.proofs.Common.{arith, rules}
use Rattle.segment.specs.Calls.{tripped}
use Rattle.drives.specs.Orders.{trip_with}
use Rattle.drives.proofs.Rows.{shown_changed, obeyed_set}
use Rattle.drives.proofs.row.BankSegment.trip.Goals as goal

pub returns : goal.returns
returns g c = record {
  meant =
      (search rules, shown_changed _ _ _ (omega arith) (tripped c.args.code) _ _ _ c.in_ok-there.ensures c.trip.ensures.shows);
  exact =
      obeyed_set g.D.Drive.obeys (trip_with c.args.code) c.args.axis _ _ _ (omega arith)
      c.trip.ensures.exact;
}
