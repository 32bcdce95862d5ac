use Rattle.std.proofs.Common.{◌≡◌, ◌<◌, ℕ, List, slice_index, length, take, ap, refl, ◌∙◌, subst, arith, rules}
use Rattle.std.proofs.lemmas.List.{get_or-take, get_or_read_under}
use Rattle.moves.specs.Moves.{ended}
use Rattle.moves.specs.Sheet.{sheet}
use Rattle.moves.proofs.Ends.{EndedFirst, ended_none, ended_more}
use Rattle.moves.proofs.table.Table.end_queue.Goals as goal

pub loop-block-init : goal.loop-block-init
loop-block-init c = record {
  so_far = ended_none _ _ _ _;
  wrote = record { used = omega arith; room = refl };
  axes = refl;
}

pub loop-block-preserved : goal.loop-block-preserved
loop-block-preserved c =
    let before = c.loop-block.invariant in
    let queue = c.args.queue in
    let k = c.loop-block.block-index in
    let items = c.as_slice-block-items.result.now in
    let few : length items ≡ queue.waiting = search rules in
    let those : items ≡ take queue.waiting queue.blocks = search rules in
    let within : k < queue.waiting = omega (arith, c.loop-block-test.true, few) in
    let block =
    get_or_read_under items k _ c.block-item.result 0 c.block-item.is c.loop-block-test.true refl
    ∙ ap (λ (xs : List ℕ). slice_index xs k) those ∙ get_or-take queue.waiting queue.blocks k 0 within in
    let step = c.end.ensures.sheet ∙ ap (λ b. ended (sheet c.loop-block.self c.loop-block.trail) c.args.axis b c.args.ending) block in
    record {
      so_far = ended_more _ _ _ _ _ _ k before.so_far step;
      wrote = record {
        used = omega (arith, before.wrote.used, c.end.ensures.wrote.used);
        room = c.end.ensures.wrote.room ∙ before.wrote.room;
      };
      axes = c.end.ensures.axes ∙ before.axes;
    }

pub returns : goal.returns
returns c =
    let few : length c.as_slice-block-items.result.now ≡ c.args.queue.waiting = search rules in
    let all : c.loop-block.block-index ≡ c.args.queue.waiting =
    omega (arith, c.loop-block-test.false, c.loop-block.auto.block-index-end, few) in
    let done =
    subst (λ n. EndedFirst c.args.self.now c.loop-block.self c.args.trail.now c.loop-block.trail c.args.axis
    c.args.queue.blocks c.args.ending n) all c.loop-block.invariant in
    record { sheet = done.so_far; wrote = done.wrote; axes = done.axes }
