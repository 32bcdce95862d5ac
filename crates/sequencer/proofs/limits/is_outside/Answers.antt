use Rattle.std.proofs.Common.{rules}
use Rattle.sequencer.proofs.limits.is_outside.Goals as goal

pub returns-in-Relative : goal.returns-in-Relative
returns-in-Relative c = search rules
