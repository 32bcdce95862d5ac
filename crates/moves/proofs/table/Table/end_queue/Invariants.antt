use Rattle.moves.proofs.Ends.{EndedFirst}
use Rattle.moves.proofs.table.Table.end_queue.Given as goal

abbrev pub invariant-loop-block : goal.invariant-loop-block
invariant-loop-block l =
    EndedFirst l.initial.self l.self l.initial.trail l.trail l.axis l.fn.queue.blocks l.ending l.block-index
