-- What holds where a check passes. Assumes nothing.
use Rattle.std.proofs.Common.{◌≡◌, ℕ, Bool, true, false, not, ◌&&◌, nat_lt, nat_le, None, Option, refl, arith}
use Rattle.records.specs.declared.motion.BufferMode.{BufferMode}
use Rattle.moves.specs.declared.instruction.Instruction.{Instruction}
use Rattle.moves.specs.Axes.{takes_commands}
use Rattle.moves.specs.Blocks.{is_idle}
use Rattle.moves.specs.Sheet.{block_at}
use Rattle.motion.specs.World.{World, axis_of}
use Rattle.sequencer.specs.declared.refusal.Refusal.{Refusal}
use Rattle.sequencer.specs.declared.refusal.Refusal.TheVariants.{TrailFull}
use Rattle.sequencer.specs.Executable.{Executable}
use Rattle.sequencer.specs.Refusals.{refuse_if, free_in, is_lawful, waits, is_outside, execute_refusal}

-- the first check passes, and so do the others
passes : (test : Bool) (refusal : Refusal) (others : Option Refusal) →
    refuse_if test refusal others ≡ None → (test ≡ false) × (others ≡ None)
passes true refusal others passed = (cc, cc)
passes false refusal others passed = (refl, passed)

module _ (w : World) (b a : ℕ) (instruction : Instruction) (mode : BufferMode) where
  -- an execute that is not refused
  pub execute_passes : execute_refusal w b a instruction mode ≡ None → Executable w b a instruction mode
  execute_passes passed =
      let block = passes (nat_lt 31 b) _ _ passed in
      let idle = passes (not (is_idle (block_at w.sheet.table b).status)) _ _ block.1 in
      let axis = passes (nat_le w.row.count a) _ _ idle.1 in
      let value = passes (not (is_lawful instruction mode)) _ _ axis.1 in
      let state = passes (not (takes_commands (axis_of w a).state)) _ _ value.1 in
      let queue = passes (waits mode (axis_of w a) && nat_lt 3 (axis_of w a).waiting) _ _ state.1 in
      let range = passes (is_outside instruction (waits mode (axis_of w a)) (w.row.at a)) _ _ queue.1 in
      let trail = passes (nat_lt (free_in w) 16) TrailFull None range.1 in
      record {
        block = grind (arith, block.0);
        axis = grind (arith, axis.0);
        buffer = grind (arith, value.0);
        waiting = λ h. grind (arith, queue.0);
        free = grind (arith, trail.0);
      }
