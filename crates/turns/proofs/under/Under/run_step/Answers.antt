use Rattle.std.proofs.Common.{◌≡◌, ℕ, false, ℤ, w32, SFits, rules}
use Rattle.std.proofs.lemmas.Int.{to_z-of_z}
use Rattle.ramp.specs.VelocityStep.{velocity_step}
use Rattle.moves.specs.declared.table.Axis.{Axis}
use Rattle.moves.specs.declared.table.Block.{Block}
use Rattle.moves.specs.Blocks.{is_move}
use Rattle.turns.specs.Steps.{held_rate, goal_of, step_of}
use Rattle.turns.proofs.under.Under.run_step.Goals as goal

-- the step of a command that is no move leads towards its velocity
step_of_run : (y : Axis) (x : Block) (goal : ℤ) (accel : ℕ) (s : ℤ) → is_move x.command ≡ false →
    goal ≡ goal_of x → accel ≡ held_rate x.max_acceleration → s ≡ velocity_step y.velocity goal accel →
    s ≡ step_of y x
unfolding step_of
step_of_run y x goal accel s runs g a e = simp (runs, ← g, ← a) e

pub invariant_of-result : goal.invariant_of-result
invariant_of-result c =
    let velocity : SFits w32 c.motion-motion.result.velocity = search rules in
    let goal : SFits w32 c.goal.result = search rules in
    let fits : SFits w32 c.velocity_step-velocity.result = search rules in
    let near = simp to_z-of_z at c.velocity_step-velocity.ensures.near in
    record { near = simp to_z-of_z (near c.motion-motion.result.near.0 c.goal.ensures.limit) }

pub returns : goal.returns
returns c =
    let y = c.args.self.now.axis in
    let x = c.args.self.now.block in
    let velocity : SFits w32 c.motion-motion.result.velocity = search rules in
    let goal : SFits w32 c.goal.result = search rules in
    let fits : SFits w32 c.velocity_step-velocity.result = search rules in
    let towards = simp to_z-of_z at c.velocity_step-velocity.ensures.step in
    let from_axis = simp c.motion-motion.ensures.velocity at towards in
    let step = step_of_run y x _ _ _ c.requires.runs c.goal.ensures.goal c.held_rate-max_acceleration.ensures from_axis in
    record { step = simp to_z-of_z step; remaining = search rules }
