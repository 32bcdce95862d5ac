use Rattle.std.proofs.Common.{◌≡◌, Ok, sym, ap, subst, ◌∙◌}
use Rattle.moves.proofs.Aims.{ReachesAim, aim_reaches}
use Rattle.moves.proofs.table.Block.place.Goals as goal

pub map-requires : goal.map-requires
map-requires c x e =
    let was : c.aim.result ≡ Ok c.in_ok-target.target = c.in_ok-target.was in
    subst ReachesAim (sym c.aim.ensures ∙ was ∙ ap Ok e) (aim_reaches c.args.self c.args.look c.requires)
