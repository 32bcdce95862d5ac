-- The numbers of a segment's reasons to refuse, and a refusal of its own. Assumes nothing.
use Rattle.std.specs.Prelude.{◌≡◌, ℕ}
use Rattle.segment.specs.declared.refusal.Reason.{Reason}
use Rattle.segment.specs.declared.refusal.Refusal.{Refusal}
use Rattle.segment.specs.declared.refusal.Reason.TheVariants.{NoSuchAxis, Faulted, PowerNotOn, OutOfRange, TripCode, Setting}

-- the number by which a reason goes
abbrev pub reason_number : Reason → ℕ
reason_number NoSuchAxis = 11
reason_number Faulted = 12
reason_number PowerNotOn = 13
reason_number OutOfRange = 15
reason_number TripCode = 16
reason_number Setting = 17

-- a refusal for this reason by the segment that is asked itself: no stage handed it up
pub record Own (why : Reason) (refusal : Refusal) : Type 0 where
  pub reason : refusal.reason ≡ why
  pub depth : refusal.depth ≡ 0
