use Rattle.std.proofs.Common.{Some, sym, ap, ◌∙◌, w32, SFits, rules}
use Rattle.std.proofs.lemmas.Int.{to_z-of_z}
use denote.Enum.Bare.{same_true}
use Rattle.segment.specs.contracts.axis.Power.{the_type}
use Rattle.stages.proofs.Narrowed.{faulted_same, powerless_same, inside_same, outside_refused}
use Rattle.stages.proofs.limits.Limits.admit.Goals as goal
use Rattle.stages.proofs.limits.Limits.admit.Goals.{else-look-eq0-via-then-look-eq0+then-eq+else-excludes, else-look-eq0-via-then-look-eq0+else-eq, else-look-eq0-via-else-look-eq0}

pub returns-then-excludes : goal.returns-then-excludes
returns-then-excludes c =
    let fits : SFits w32 c.args.position = c.ranges.position in
    let out = simp to_z-of_z at c.if-excludes.ensures in
    let on = same_true the_type (search rules) _ _ (sym c.if-eq.ensures) in
    let why = outside_refused c.args.self c.args.look c.args.position c.if-look-eq0.true on (sym out) in
    record { reason = why ∙ ap Some (sym c.new.ensures.reason); depth = c.new.ensures.depth }

pub returns : goal.returns
returns c =
    let fits : SFits w32 c.args.position = c.ranges.position in
    elim c.else-look-eq0.branch [
      | else-look-eq0-via-then-look-eq0+then-eq+else-excludes w ↦
          let inside = simp to_z-of_z at w.if-excludes.ensures in
          inside_same c.args.self c.args.look c.args.position (sym inside)
      | else-look-eq0-via-then-look-eq0+else-eq w ↦ powerless_same c.args.self c.args.look c.args.position (sym w.if-eq.ensures)
      | else-look-eq0-via-else-look-eq0 w ↦ faulted_same c.args.self c.args.look c.args.position w.if-look-eq0.false
    ]
