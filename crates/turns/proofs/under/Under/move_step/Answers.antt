use Rattle.std.proofs.Common.{◌≡◌, ℕ, true, ℤ, ◌-ℤ◌, w32, SFits, rules}
use Rattle.std.proofs.lemmas.Int.{to_z-of_z}
use Rattle.ramp.specs.RampStep.{ramp_step}
use Rattle.moves.specs.declared.table.Axis.{Axis}
use Rattle.moves.specs.declared.table.Block.{Block}
use Rattle.moves.specs.Blocks.{is_move}
use Rattle.turns.specs.Steps.{held_rate, step_of, remaining}
use Rattle.turns.proofs.under.Under.move_step.Goals as goal

-- the step of a move is its ramp step
step_of_move : (y : Axis) (x : Block) (top accel : ℕ) (s : ℤ) → is_move x.command ≡ true →
    top ≡ held_rate x.max_velocity → accel ≡ held_rate x.max_acceleration →
    s ≡ ramp_step y.distance_to_go y.velocity top accel accel → s ≡ step_of y x
unfolding step_of
step_of_move y x top accel s moves t a e = simp (moves, ← t, ← a) e

-- and what remains is the distance less the step
remaining_of_move : (y : Axis) (x : Block) (s r : ℤ) → is_move x.command ≡ true → s ≡ step_of y x →
    r ≡ y.distance_to_go -ℤ s → r ≡ remaining y x
remaining_of_move y x s r moves e d = simp (moves, ← e) d

pub returns : goal.returns
returns c =
    let y = c.args.self.now.axis in
    let x = c.args.self.now.block in
    let s = c.ramp_step-velocity.result.0 in
    let fits : SFits w32 s = search rules in
    let fits_too : SFits w32 c.ramp_step-velocity.result.1 = search rules in
    let moves = c.requires.moves in
    let top = c.held_rate-max_velocity.ensures in
    let accel = c.held_rate-max_acceleration.ensures in
    let ramped = simp (c.motion-motion.ensures.velocity, c.motion-motion.ensures.distance) at c.ramp_step-velocity.ensures.step in
    let less = simp c.motion-motion.ensures.distance at c.ramp_step-velocity.ensures.remaining in
    let step = step_of_move y x _ _ s moves top accel ramped in
    record {
      step = simp to_z-of_z step;
      remaining = simp to_z-of_z (remaining_of_move y x s _ moves step less);
    }
