-- A fault locks an axis out. Assumes nothing.
use Rattle.std.specs.Prelude.{◌≡◌, ℕ, ◌<◌, ◌⊎◌, List, [], ◌∷◌, ℤ, None, Result}
use Rattle.segment.specs.declared.refusal.Refusal.{Refusal}
use Rattle.segment.specs.Calls.{PoweredOn, PoweredOff, Followed, Tripped, Cleared, follow_reason}
use Rattle.segment.specs.Cycle.{Cycled}
use Rattle.segment.specs.Row.{Row, SoundRow}

-- a call that may change a row
pub data Call : Type 0 where
  power_on : ℕ → Call
  power_off : ℕ → Call
  follow : ℕ → ℤ → Call
  trip : ℕ → ℕ → Call
  clear : ℕ → Call
  cycle : Call

-- what a call may make of a row, whether it is refused or not
abbrev pub Turn : Row → Call → Row → Type 0
Turn before (power_on axis) after = (r : Result (Unit {0}) Refusal) × PoweredOn before axis r after
Turn before (power_off axis) after = (r : Result (Unit {0}) Refusal) × PoweredOff before axis r after
Turn before (follow axis position) after = (r : Result (Unit {0}) Refusal) × Followed before axis position r after
Turn before (trip axis code) after = (r : Result (Unit {0}) Refusal) × Tripped before axis code r after
Turn before (clear axis) after = (r : Result (Unit {0}) Refusal) × Cleared before axis r after
Turn before cycle after = Cycled before after

-- a run of calls, from the first to the last, over sound rows
pub data Run : Row → List Call → Row → Type 0 where
  done : {row : Row} → Run row [] row
  then :
      {before next after : Row} {call : Call} {calls : List Call} → SoundRow before → Turn before call next →
      Run next calls after → Run before (call ∷ calls) after

-- a call asks for power for the axis
abbrev pub PowersNow : ℕ → Call → Type 0
PowersNow axis (power_on k) = k ≡ axis
PowersNow axis (power_off k) = ⊥
PowersNow axis (follow k position) = ⊥
PowersNow axis (trip k code) = ⊥
PowersNow axis (clear k) = ⊥
PowersNow axis cycle = ⊥

-- one of the calls asks for power for the axis
abbrev pub Powers : ℕ → List Call → Type 0
Powers axis [] = ⊥
Powers axis (call ∷ calls) = PowersNow axis call ⊎ Powers axis calls

-- a call takes the axis's fault away
abbrev pub ClearsNow : ℕ → Call → Type 0
ClearsNow axis (power_on k) = ⊥
ClearsNow axis (power_off k) = ⊥
ClearsNow axis (follow k position) = ⊥
ClearsNow axis (trip k code) = ⊥
ClearsNow axis (clear k) = k ≡ axis
ClearsNow axis cycle = ⊥

-- one of the calls takes the axis's fault away, and a later one asks for power for it
abbrev pub ClearsAndPowers : ℕ → List Call → Type 0
ClearsAndPowers axis [] = ⊥
ClearsAndPowers axis (call ∷ calls) = (ClearsNow axis call × Powers axis calls) ⊎ ClearsAndPowers axis calls

-- an axis with a fault accepts no follow until it has been cleared and then powered on again
abbrev pub FaultsLockOut : Type 0
FaultsLockOut =
    (before after : Row) (calls : List Call) (axis : ℕ) (position : ℤ) → Run before calls after →
    0 < (before.at axis).fault → follow_reason after axis position ≡ None → ClearsAndPowers axis calls
