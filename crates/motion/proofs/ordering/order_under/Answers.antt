use Rattle.std.proofs.Common.{◌≡◌, ℤ, ◌+ℤ◌, Option, sym, ap, ◌∙◌, subst, w32, SFits, rules}
use Rattle.std.proofs.lemmas.Int.{to_z-of_z}
use Rattle.records.specs.declared.outcome.Cause.{Cause}
use Rattle.segment.specs.Calls.{follow_reason}
use Rattle.moves.specs.declared.table.Axis.{Axis}
use Rattle.moves.specs.Sheet.{axis_at, block_at, with_axis}
use Rattle.turns.specs.Steps.{step_of, stepped}
use Rattle.motion.specs.Ordering.{Noted}
use Rattle.motion.proofs.Orders.{sum_fits, ordered_active, noted_active}
use Rattle.motion.proofs.ordering.order_under.Goals as goal

pub returns : goal.returns
returns g c =
    let row = g.S.Segment.shows c.args.segment.now in
    let left = g.S.Segment.shows c.follow.new.segment in
    let table = c.args.table.now in
    let axis = c.args.axis in
    let block = c.args.block in
    let old : Axis = axis_at table axis in
    let demand = c.look_at.result.demand in
    let velocity = c.motion.result.velocity in
    let demand_fits : SFits w32 demand = search rules in
    let velocity_fits : SFits w32 velocity = search rules in
    let fits : SFits w32 (demand +ℤ velocity) =
    sum_fits demand velocity c.look_at.ensures.sound.demand c.motion.result.near.0 in
    let followed = simp to_z-of_z at c.follow.ensures.row in
    let noted = simp to_z-of_z at c.follow.ensures.noted in
    let next : c.stepped-next.result ≡ stepped old (block_at table block) = search rules in
    let goes : demand +ℤ velocity ≡ (row.at axis).demand +ℤ step_of old (block_at table block) =
    ap (λ (p : ℤ). p +ℤ velocity) (ap (λ look. look.demand) c.look_at.ensures.look)
    ∙ ap (λ (v : ℤ). (row.at axis).demand +ℤ v) (c.motion.ensures.velocity ∙ ap (λ (y : Axis). y.velocity) next) in
    record {
      world =
          ordered_active row table axis block (demand +ℤ velocity) c.requires.active goes left c.keep.new.self
          (c.keep.ensures ∙ ap (λ (y : Axis). with_axis table axis y) next) followed;
      noted =
          noted_active row table axis block (demand +ℤ velocity) c.requires.active goes c.refusal_of.result
          (subst (λ (o : Option Cause). Noted (follow_reason row axis (demand +ℤ velocity)) o) (sym c.refusal_of.ensures) noted);
      count = c.follow.ensures.count;
    }
