-- An accepted command and the world; which numbers a position is. Assumes nothing.
use Rattle.std.proofs.Common.{◌≡◌, ℕ, Bool, true, false, ℤ, pos, negsuc, None, Ok, Err, Option, sym, refl, ap, ◌∙◌, arith, w32, SFits}
use Rattle.std.proofs.lemmas.Int.{ints}
use Rattle.std.specs.Result.{result_unwrap_or}
use Rattle.records.specs.declared.motion.BufferMode.{BufferMode}
use Rattle.segment.specs.Row.{Position}
use Rattle.moves.specs.declared.instruction.Instruction.{Instruction}
use Rattle.moves.specs.Blocks.{Aim, block_aim, block_of}
use Rattle.moves.specs.Moves.{accepted}
use Rattle.moves.specs.Sheet.{Sheet}
use Rattle.motion.specs.World.{World, axis_of, on_sheet}
use Rattle.words.specs.Words.{in_reach}
use Rattle.sequencer.specs.Calls.{target_of, taken_on, executed}
use Rattle.sequencer.specs.Refusals.{waits}
use Rattle.sequencer.specs.Takes.{taken}

-- a command is taken on as it is on the sheet
pub taken_on_sheet : (waits : Bool) (w : World) (a b : ℕ) (aim : Aim) →
    taken_on waits w a b aim ≡ on_sheet w (taken waits w.sheet a b (target_of aim) (w.row.at a).demand)
taken_on_sheet true w a b aim = refl
taken_on_sheet false w a b aim = refl

-- a command that is accepted and then taken on is executed
pub executed_on : (w : World) (b a : ℕ) (instruction : Instruction) (mode : BufferMode)
    (held : Bool) (target : Option ℤ) (demand : ℤ) (s t : Sheet) →
    held ≡ waits mode (axis_of w a) → target ≡ target_of (block_aim (block_of a instruction mode) (w.row.at a)) →
    demand ≡ (w.row.at a).demand → s ≡ accepted w.sheet a b instruction mode → t ≡ taken held s a b target demand →
    on_sheet w t ≡ executed w b a instruction mode
unfolding executed
executed_on w b a instruction mode held target demand s t e-held e-target e-demand e-s e-t =
    let aim = block_aim (block_of a instruction mode) (w.row.at a) in
    let next : t ≡ taken (waits mode (axis_of w a)) (accepted w.sheet a b instruction mode) a b (target_of aim) (w.row.at a).demand =
    cc in
    ap (λ (u : Sheet). on_sheet w u) next
    ∙ sym (taken_on_sheet (waits mode (axis_of w a)) (on_sheet w (accepted w.sheet a b instruction mode)) a b aim)

-- an accept changes no axis
pub accepted_axes : (s t : Sheet) (a b : ℕ) (instruction : Instruction) (mode : BufferMode) →
    t ≡ accepted s a b instruction mode → t.table.axes ≡ s.table.axes
unfolding accepted
accepted_axes s t a b instruction mode e = ap (λ (s : Sheet). s.table.axes) e

-- a position is a number of 32 bits
pub position_fits : (p : ℤ) → Position p → SFits w32 p
position_fits (pos n) within = record { sfits = omega (arith, ints) }
position_fits (negsuc n) within = record { sfits = omega (arith, ints) }

-- a position is in reach
pub position_in_reach : (p : ℤ) → Position p → in_reach p ≡ true
position_in_reach p within = grind (arith, ints)

-- the target of an aim, none where it is out of range
pub target_of_is : (aim : Aim) → result_unwrap_or aim None ≡ target_of aim
target_of_is (Ok target) = refl
target_of_is (Err out) = refl
