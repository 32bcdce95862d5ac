use Rattle.std.proofs.Common.{◌≤◌, length, arith}
use Rattle.moves.specs.Sheet.{sheet}
use Rattle.sequencer.proofs.Releases.{freed_past}
use Rattle.sequencer.proofs.sequencer.releasing.free_axis.Goals as goal

pub returns-then-from-axes : goal.returns-then-from-axes
returns-then-from-axes c =
    let past : length c.args.table.now.axes ≤ c.args.axis = omega arith in
    freed_past (sheet c.args.table.now c.args.trail.now) c.args.axis c.args.block past
