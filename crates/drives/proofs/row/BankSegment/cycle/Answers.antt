use Rattle.std.proofs.Common.{◌++◌, drop, refl, arith}
use Rattle.std.proofs.lemmas.List.{length-take-le, length-append}
use Rattle.drives.proofs.Rows.{Turned, shown_cycled, gone_more, gone_all}
use Rattle.drives.proofs.row.BankSegment.cycle.Goals as goal

pub loop-drive-preserved : goal.loop-drive-preserved
loop-drive-preserved g c =
    gone_more (Turned g.D.Drive.seen g.D.Drive.obeys) _ c.loop-drive.drive-items c.loop-drive.drive-index c.drive-item.result _ (omega arith)
    c.loop-drive.invariant (record { shows = c.cycle.ensures.shows; exact = c.cycle.ensures.exact })

pub returns : goal.returns
returns g c =
    let n = c.args.self.now.count in
    let xs = c.args.self.now.drives in
    let ys = c.loop-drive.drive-items in
    let rest = drop n xs in
    let n_long = length-take-le n xs (omega arith) in
    let long = length-append ys rest in
    let gone = gone_all (Turned g.D.Drive.seen g.D.Drive.obeys) n c.loop-drive.drive-index xs ys rest (omega arith) c.loop-drive.auto.drive-items c.loop-drive-test.false c.loop-drive.invariant in
    record {
      meant = shown_cycled g.D.Drive.seen n n xs (ys ++ rest) refl (omega arith) (omega arith) (λ k d h. (gone k d h).shows);
      exact = λ k d h. (gone k d h).exact;
    }
