use Rattle.std.proofs.Common.{arith, rules}
use Rattle.segment.specs.Calls.{unpowered}
use Rattle.drives.specs.Orders.{power_off}
use Rattle.drives.proofs.Rows.{shown_changed, obeyed_set}
use Rattle.drives.proofs.row.BankSegment.power_off.Goals as goal

pub returns : goal.returns
returns g c = record {
  meant =
      (search rules, shown_changed _ _ _ (omega arith) unpowered _ _ _ c.in_ok-there.ensures c.power_off.ensures.shows);
  exact = obeyed_set g.D.Drive.obeys power_off c.args.axis _ _ _ (omega arith) c.power_off.ensures.exact;
}
