use Rattle.std.proofs.Common.{◌≡◌, ◌<◌, true, false, List, [], slice_index_or, None, refl, sym, ap, ◌∙◌, subst, w32, SFits, rules}
use Rattle.std.specs.Result.{result_unwrap_or}
use Rattle.std.proofs.lemmas.Int.{to_z-of_z}
use Rattle.segment.specs.declared.axis.AxisLook.{AxisLook}
use Rattle.moves.specs.declared.table.Axis.{Axis}
use Rattle.moves.specs.declared.table.Table.{Table}
use Rattle.moves.specs.Blocks.{Aim, block_aim, block_of}
use Rattle.moves.specs.Sheet.{disabled_axis, sheet}
use Rattle.motion.specs.World.{axis_of}
use Rattle.sequencer.specs.Refusals.{waits}
use Rattle.sequencer.specs.Whole.{world_of}
use Rattle.sequencer.proofs.Takes.{accepted_axes, executed_on, target_of_is}
use Rattle.sequencer.proofs.sequencer.Sequencer.take.Goals as goal

pub join-requires : goal.join-requires
join-requires g c =
    let args = c.args in
    let w = world_of g.S.Segment.shows args.self.now args.trail.now in
    let axes =
    accepted_axes (sheet args.self.now.machine.table args.trail.now) (sheet c.accept.new.self c.accept.new.trail)
    args.axis args.block args.instruction args.mode c.accept.ensures.sheet in
    let holds : waits args.mode (axis_of w args.axis) ≡ true = search rules in
    record {
      waiting =
          subst (λ (ys : List Axis). (slice_index_or ys args.axis (disabled_axis [])).waiting < 4) (sym axes)
          (c.requires.waiting holds);
    }

pub returns-then-waits : goal.returns-then-waits
returns-then-waits g c =
    let args = c.args in
    let w = world_of g.S.Segment.shows args.self.now args.trail.now in
    let held : true ≡ waits args.mode (axis_of w args.axis) = search rules in
    executed_on w args.block args.axis args.instruction args.mode true _ _ (sheet c.accept.new.self c.accept.new.trail)
    (sheet c.join.new.self c.accept.new.trail) held refl refl c.accept.ensures.sheet
    (ap (λ (table : Table). sheet table c.accept.new.trail) c.join.ensures)

pub returns : goal.returns
returns g c =
    let args = c.args in
    let look = c.look_at-look.result in
    let fits : SFits w32 look.demand = search rules in
    let shown = c.look_at-look.ensures.look in
    let w = world_of g.S.Segment.shows args.self.now args.trail.now in
    let held : false ≡ waits args.mode (axis_of w args.axis) = search rules in
    let aim = block_aim (block_of args.axis args.instruction args.mode) (w.row.at args.axis) in
    let made = c.of.ensures ∙ ap (λ a. block_of a args.instruction args.mode) c.into.ensures.0 in
    let aims : c.place-aim.result ≡ aim = c.place-aim.ensures ∙ (λ i. block_aim (made i) (shown i)) in
    let target = c.unwrap_or.ensures ∙ ap (λ (z : Aim). result_unwrap_or z None) aims ∙ target_of_is aim in
    let demand = simp to_z-of_z at c.of-demand.ensures in
    executed_on w args.block args.axis args.instruction args.mode false c.unwrap_or.result c.of-demand.result
    (sheet c.accept.new.self c.accept.new.trail) (sheet c.take_over.new.table c.take_over.new.trail) held target
    (demand ∙ ap (λ (l : AxisLook). l.demand) shown) c.accept.ensures.sheet c.take_over.ensures
