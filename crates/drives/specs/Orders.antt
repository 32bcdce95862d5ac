-- The orders that a drive takes, and what an order to one of a row leaves. Assumes nothing.
use Rattle.std.specs.Prelude.{◌≡◌, ℕ, ◌<◌, ◌≤◌, List, ℤ, Ok, Err, Result, ◌≢◌, slice_index_or}
use Rattle.segment.specs.declared.refusal.Reason.TheVariants.{NoSuchAxis}
use Rattle.segment.specs.declared.refusal.Refusal.{Refusal}
use Rattle.segment.specs.Refusal.{Own}
use Rattle.drives.specs.declared.bank.Bank.{Bank}

-- an order to a drive
pub data Order : Type 0 where
  power_on : Order
  power_off : Order
  follow_to : ℤ → Order
  trip_with : ℕ → Order
  clear_it : Order
  cycle_it : Order

-- whether a row has an axis
abbrev pub There : {D : Type 0} → Bank D → ℕ → Result (Unit {0}) Refusal → Type 0
There bank axis (Ok x) = axis < bank.count
There bank axis (Err e) = (bank.count ≤ axis) × Own NoSuchAxis e

-- the drive at an axis obeyed, and the others stayed as they were
pub record Obeyed {D : Type 0} (obeys : Order → D → D → Type 0) (order : Order) (axis : ℕ) (before after : List D) : Type 0 where
  pub here : (d : D) → obeys order (slice_index_or before axis d) (slice_index_or after axis d)
  pub others : (k : ℕ) (d : D) → (k ≢ axis) → slice_index_or after k d ≡ slice_index_or before k d

-- an order that is not refused is obeyed, and a refused one changes no drive
abbrev pub ObeyedOrNot :
    {D : Type 0} → (Order → D → D → Type 0) → Order → ℕ → Bank D → Result (Unit {0}) Refusal → Bank D → Type 0
ObeyedOrNot obeys order axis before (Ok x) after = Obeyed obeys order axis before.drives after.drives
ObeyedOrNot obeys order axis before (Err e) after = after.drives ≡ before.drives

-- each drive of the row ran its cycle
abbrev pub AllCycled : {D : Type 0} → (Order → D → D → Type 0) → Bank D → Bank D → Type 0
AllCycled {D} obeys before after =
    (k : ℕ) (d : D) → k < before.count → obeys cycle_it (slice_index_or before.drives k d) (slice_index_or after.drives k d)
