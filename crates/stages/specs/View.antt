-- What the stages ask of a view of the axes below. Assumes nothing.
use Rattle.std.specs.Prelude.{◌≡◌, ℕ, ℤ, None, Some, Ok, Err, Result}
use Rattle.segment.specs.declared.axis.AxisLook.{AxisLook}
use Rattle.segment.specs.declared.refusal.Refusal.{Refusal}
use Rattle.segment.specs.Calls.{powered, unpowered, followed, tripped, cleared, follow_reason}
use Rattle.segment.specs.Cycle.{AxisCycled}
use Rattle.segment.specs.Row.{Row, Sound, SoundRow, mapped}

-- every call but a follow does to an axis as it is seen what it does to the axis below
pub record KeepsCalls (sees : ℕ → AxisLook → AxisLook) : Type 0 where
  pub power_on : (axis : ℕ) (a : AxisLook) → sees axis (powered a) ≡ powered (sees axis a)
  pub power_off : (axis : ℕ) (a : AxisLook) → sees axis (unpowered a) ≡ unpowered (sees axis a)
  pub trip : (axis : ℕ) (code : ℕ) (a : AxisLook) → sees axis (tripped code a) ≡ tripped code (sees axis a)
  pub clear : (axis : ℕ) (a : AxisLook) → sees axis (cleared a) ≡ cleared (sees axis a)
  pub cycle : (axis : ℕ) (before after : AxisLook) → AxisCycled before after → AxisCycled (sees axis before) (sees axis after)

-- an order is answered below as the position is above, and once it is accepted the axis is seen ordered to the position
pub record LeadsTo (sees : ℕ → AxisLook → AxisLook) (row : Row) (axis : ℕ) (position order : ℤ) : Type 0 where
  pub reason : follow_reason (mapped sees row) axis position ≡ follow_reason row axis order
  pub seen : follow_reason row axis order ≡ None → sees axis (followed order (row.at axis)) ≡ followed position (sees axis (row.at axis))

-- an order goes on down if it leads to the position, and is refused only for the reason that a follow as it is seen has
abbrev pub Ordered : (ℕ → AxisLook → AxisLook) → Row → ℕ → ℤ → Result ℤ Refusal → Type 0
Ordered sees row axis position (Ok order) = LeadsTo sees row axis position order
Ordered sees row axis position (Err refusal) = follow_reason (mapped sees row) axis position ≡ Some refusal.reason

-- a sound row is seen as a sound row
pub seen_sound :
    (sees : ℕ → AxisLook → AxisLook) → ((axis : ℕ) (a : AxisLook) → Sound a → Sound (sees axis a)) →
    (row : Row) → SoundRow row → SoundRow (mapped sees row)
seen_sound sees each row s = record { some = s.some; few = s.few; each = λ k. each k (row.at k) (s.each k) }
