use Rattle.law.proofs.Invariant.{lawful}
use Rattle.law.proofs.calling.call.Goals as goal

pub returns-clause-law : goal.returns-clause-law
returns-clause-law g c = lawful _ c.args.order c.obey.result _ (record { obeyed = c.obey.ensures; sound = g.S.Segment.sound c.obey.new.sequencer.machine.segment })
