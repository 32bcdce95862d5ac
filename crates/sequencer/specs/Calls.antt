-- What each call answers, and the world that it leaves. Assumes nothing.
use Rattle.std.specs.Prelude.{◌≡◌, ℕ, Bool, true, false, List, ℤ, Some, None, Ok, Err, Option, Result}
use Rattle.segment.specs.Calls.{powered, unpowered, tripped, cleared}
use Rattle.segment.specs.Cycle.{Cycled}
use Rattle.segment.specs.Row.{Row, SoundRow, changed}
use Rattle.records.specs.declared.motion.AxisState.TheVariants.{Disabled, Standstill}
use Rattle.records.specs.declared.motion.BufferMode.{BufferMode}
use Rattle.records.specs.declared.outcome.Cause.{Cause}
use Rattle.records.specs.declared.outcome.Cause.TheVariants.{Drive}
use Rattle.records.specs.declared.outcome.Outcome.TheVariants.{Aborted}
use Rattle.moves.specs.declared.instruction.Instruction.{Instruction}
use Rattle.moves.specs.Axes.{with_request, with_state, joined, is_errorstop, is_block}
use Rattle.moves.specs.Blocks.{Aim, block_of, block_aim}
use Rattle.moves.specs.Moves.{accepted, emptied, quelled, entered, started, kept, ticked}
use Rattle.moves.specs.Sheet.{Sheet, idle_block, block_at, axis_at, with_block, on_table}
use Rattle.motion.specs.Ordering.{ordered_upto, RefusedUpto}
use Rattle.motion.specs.Settling.{settled_upto}
use Rattle.motion.specs.World.{World, on_sheet, axis_of, failed}
use Rattle.sequencer.specs.declared.refusal.Refusal.{Refusal}
use Rattle.sequencer.specs.Refusals.{waits, execute_refusal, release_refusal, power_refusal, reset_refusal, trip_refusal, cycle_refusal}

-- what a call answers
abbrev pub Answer : Type 0
Answer = Result (Unit {0}) Refusal

-- a call that is not refused leaves the world after it, and a refused one the world before
abbrev pub Answers : Option Refusal → World → World → Answer → World → Type 0
Answers refusal before after (Ok _) left = (refusal ≡ None) × (left ≡ after)
Answers refusal before after (Err e) left = (refusal ≡ Some e) × (left ≡ before)

-- ---- power

-- power on: the request is noted, and the segment's axis powered
unfoldable pub powered_on : World → ℕ → World
powered_on w a = record {
  sheet = kept w.sheet a (with_request (axis_of w a) true);
  row = changed powered w.row a;
}

-- power off: the request is dropped, the axis's commands end aborted, and the axis halts disabled
unfoldable pub powered_off : World → ℕ → World
powered_off w a = record {
  sheet = quelled (kept w.sheet a (with_request (axis_of w a) false)) a Aborted Disabled;
  row = changed unpowered w.row a;
}

-- ---- execute

-- the target of a command that begins at once
abbrev pub target_of : Aim → Option ℤ
target_of (Ok target) = target
target_of (Err out) = None

-- the command of the block b was accepted, and waits or begins at once: then the others end aborted
abbrev pub taken_on : Bool → World → ℕ → ℕ → Aim → World
taken_on true w a b aim = on_sheet w (kept w.sheet a (joined (axis_of w a) b))
taken_on false w a b aim =
    on_sheet w
    (started (emptied w.sheet a Aborted) a b (target_of aim) (w.row.at a).demand (axis_of w a).queue 0)

-- execute
unfoldable pub executed : World → ℕ → ℕ → Instruction → BufferMode → World
executed w b a instruction mode =
    taken_on (waits mode (axis_of w a)) (on_sheet w (accepted w.sheet a b instruction mode)) a b
    (block_aim (block_of a instruction mode) (w.row.at a))

-- ---- release

-- the block becomes idle
abbrev pub idled : Sheet → ℕ → Sheet
idled s b = on_table s (with_block s.table b idle_block)

-- and the axis a goes to standstill, if this block's stop holds it
abbrev pub freed : Bool → Sheet → ℕ → Sheet
freed true s a = entered s a (with_state (axis_at s.table a) Standstill)
freed false s a = s

-- release
unfoldable pub released : World → ℕ → World
released w b =
    on_sheet w
    (freed (is_block (axis_of w (block_at w.sheet.table b).axis).stop b) (idled w.sheet b)
    (block_at w.sheet.table b).axis)

-- ---- reset and trip

-- reset: the fault is cleared, the request dropped, and the axis disabled
unfoldable pub reset_world : World → ℕ → World
reset_world w a = record {
  sheet = entered w.sheet a (with_state (with_request (axis_of w a) false) Disabled);
  row = changed cleared w.row a;
}

-- errorstop by the drive's fault, unless the axis is in errorstop
abbrev pub failed_unless : Bool → World → ℕ → World
failed_unless true w a = w
failed_unless false w a = failed w a (Drive (w.row.at a).fault)

-- trip: the segment is tripped, and the axis led to errorstop
unfoldable pub tripped_world : World → ℕ → ℕ → World
tripped_world w a code =
    failed_unless (is_errorstop (axis_of w a).state)
    (record { sheet = w.sheet; row = changed (tripped code) w.row a }) a

-- ---- cycle

-- the world in which a cycle's orders are given: the cycle is counted
abbrev pub counted : World → World
counted w = on_sheet w (ticked w.sheet)

-- the world after its orders
abbrev pub ordered_all : World → World
ordered_all w = ordered_upto (counted w) w.row.count

-- a cycle: the axes follow, the segment cycles to what it now shows, and the axes take their turns
pub record CycleLeft (w w' : World) : Type 0 where
  -- which follows were refused, and why
  pub refusals : List (Option Cause)
  pub noted : RefusedUpto (counted w) refusals w.row.count
  -- what the segment shows after its own cycle
  pub shown : Row
  pub sound : SoundRow shown
  pub cycled : Cycled (ordered_all w).row shown
  pub left : w' ≡ settled_upto (record { sheet = (ordered_all w).sheet; row = shown }) refusals w.row.count

-- ---- the calls

abbrev pub PoweredOn : World → ℕ → Answer → World → Type 0
PoweredOn w a r left = Answers (power_refusal w a) w (powered_on w a) r left

abbrev pub PoweredOff : World → ℕ → Answer → World → Type 0
PoweredOff w a r left = Answers (power_refusal w a) w (powered_off w a) r left

abbrev pub Executed : World → ℕ → ℕ → Instruction → BufferMode → Answer → World → Type 0
Executed w b a instruction mode r left =
    Answers (execute_refusal w b a instruction mode) w (executed w b a instruction mode) r left

abbrev pub Released : World → ℕ → Answer → World → Type 0
Released w b r left = Answers (release_refusal w b) w (released w b) r left

abbrev pub WasReset : World → ℕ → Answer → World → Type 0
WasReset w a r left = Answers (reset_refusal w a) w (reset_world w a) r left

abbrev pub WasTripped : World → ℕ → ℕ → Answer → World → Type 0
WasTripped w a code r left = Answers (trip_refusal w a code) w (tripped_world w a code) r left

abbrev pub WasCycled : World → Answer → World → Type 0
WasCycled w (Ok _) left = (cycle_refusal w ≡ None) × CycleLeft w left
WasCycled w (Err e) left = (cycle_refusal w ≡ Some e) × (left ≡ w)
