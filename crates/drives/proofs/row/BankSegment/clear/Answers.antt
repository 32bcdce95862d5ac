use Rattle.std.proofs.Common.{arith, rules}
use Rattle.segment.specs.Calls.{cleared}
use Rattle.drives.specs.Orders.{clear_it}
use Rattle.drives.proofs.Rows.{shown_changed, obeyed_set}
use Rattle.drives.proofs.row.BankSegment.clear.Goals as goal

pub returns : goal.returns
returns g c = record {
  meant =
      (search rules, shown_changed _ _ _ (omega arith) cleared _ _ _ c.in_ok-there.ensures c.clear.ensures.shows);
  exact = obeyed_set g.D.Drive.obeys clear_it c.args.axis _ _ _ (omega arith) c.clear.ensures.exact;
}
