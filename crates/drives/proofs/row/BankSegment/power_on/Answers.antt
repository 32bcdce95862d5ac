use Rattle.std.proofs.Common.{arith, rules}
use Rattle.segment.specs.Calls.{powered}
use Rattle.drives.specs.Orders.{power_on}
use Rattle.drives.proofs.Rows.{shown_changed, obeyed_set}
use Rattle.drives.proofs.row.BankSegment.power_on.Goals as goal

pub returns : goal.returns
returns g c = record {
  meant =
      (search rules, shown_changed _ _ _ (omega arith) powered _ _ _ c.in_ok-there.ensures c.power_on.ensures.shows);
  exact = obeyed_set g.D.Drive.obeys power_on c.args.axis _ _ _ (omega arith) c.power_on.ensures.exact;
}
