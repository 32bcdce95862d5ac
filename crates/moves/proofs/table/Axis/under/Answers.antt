use Rattle.std.proofs.Common.{rules}
use Rattle.ramp.specs.Near.{Near}
use Rattle.ramp.proofs.Nears.{near_begin}
use Rattle.moves.proofs.table.Axis.under.Goals as goal

pub invariant_of-self : goal.invariant_of-self
invariant_of-self c =
    let near : Near c.args.distance_to_go c.self.inside.velocity = near_begin c.args.distance_to_go c.self.inside.velocity (record { reach = c.requires; speed = c.self.invariant.0 }) in
    search rules
