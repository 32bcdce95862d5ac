use Rattle.segment.proofs.Stages.{cycled_up}
use Rattle.stages.proofs.stage_segment.StageSegment.cycle.Goals as goal

pub returns : goal.returns
returns g c = cycled_up (g.V.View.sees c.args.self.now.view) _ _ (g.met.V.View.keeps_calls c.args.self.now.view).cycle c.cycle.ensures
