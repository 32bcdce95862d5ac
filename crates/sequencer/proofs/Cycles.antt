-- What a cycle leaves, from what its parts leave. Assumes nothing.
use Rattle.std.proofs.Common.{◌≡◌, ℕ, List, Option}
use Rattle.segment.specs.Cycle.{Cycled}
use Rattle.segment.specs.Row.{Row, SoundRow}
use Rattle.records.specs.declared.outcome.Cause.{Cause}
use Rattle.moves.specs.Moves.{ticked}
use Rattle.moves.specs.Sheet.{Sheet}
use Rattle.motion.specs.Ordering.{ordered_upto, RefusedUpto}
use Rattle.motion.specs.Settling.{settled_upto}
use Rattle.motion.specs.World.{World, on_sheet}
use Rattle.sequencer.specs.Calls.{CycleLeft}

-- counted to s, ordered to x with these refusals, cycled to what is shown, and settled to w'
pub cycle_left : (w : World) (s : Sheet) (x w' : World) (refusals : List (Option Cause)) (shown : Row) (n : ℕ) →
    s ≡ ticked w.sheet → n ≡ w.row.count → x ≡ ordered_upto (on_sheet w s) n → RefusedUpto (on_sheet w s) refusals n →
    SoundRow shown → Cycled x.row shown →
    w' ≡ settled_upto (record { sheet = x.sheet; row = shown }) refusals n → CycleLeft w w'
cycle_left w s x w' refusals shown n e-s e-n e-x noted sound cycled e-left = record {
  refusals = refusals;
  noted = rw (e-s, e-n) at noted;
  shown = shown;
  sound = sound;
  cycled = rw (e-x, e-s, e-n) at cycled;
  left = rw (e-left, e-x, e-s, e-n);
}
