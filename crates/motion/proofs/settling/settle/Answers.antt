use Rattle.std.proofs.Common.{sym, ap, ◌∙◌, arith}
use Rattle.moves.specs.Sheet.{Sheet, sheet, axis_at}
use Rattle.motion.proofs.Turned.{lawful_turn}
use Rattle.motion.proofs.Used.{finished_idle}
use Rattle.motion.proofs.settling.settle.Goals as goal

pub returns-in-Finish-clause-wrote : goal.returns-in-Finish-clause-wrote
returns-in-Finish-clause-wrote g c =
    let s = sheet c.args.table.now c.args.trail.now in
    let none =
    ap (λ (t : Sheet). (axis_at t.table c.args.axis).active) c.finish.ensures.sheet
    ∙ finished_idle s c.args.axis c.in-Finish.block c.of-in-Finish.result in
    record {
      used = omega (arith, c.hand_over.ensures.idle none, c.finish.ensures.wrote.used);
      room = c.hand_over.ensures.wrote.room ∙ c.finish.ensures.wrote.room;
    }

pub of-requires : goal.of-requires
of-requires g c =
    lawful_turn _ _ c.look_at-look.result c.cause_of.result c.in-Fail.cause c.look_at-look.ensures.sound c.cause_of.ensures.lawful
    (sym c.in-Fail.is ∙ c.turn.ensures)
