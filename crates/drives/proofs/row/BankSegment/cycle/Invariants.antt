use Rattle.drives.proofs.Rows.{Gone, Turned}
use Rattle.drives.proofs.row.BankSegment.cycle.Given as goal

-- the drives before the index have cycled, and the others are as they were
abbrev pub invariant-loop-drive : goal.invariant-loop-drive
invariant-loop-drive g l = Gone (Turned g.D.Drive.seen g.D.Drive.obeys) l.initial.drive-items l.drive-items l.drive-index
