-- The row that a bank shows, and that it is sound where each of its drives is. Assumes nothing.
use Rattle.std.specs.Prelude.{ℕ, zero, suc, ◌≤◌, List, [], ◌∷◌, map, take, pos, slice_index_or}
use Rattle.std.proofs.Common.{arith}
use Rattle.std.proofs.lemmas.Int.{ints}
use Rattle.segment.specs.declared.axis.AxisLook.{AxisLook}
use Rattle.segment.specs.declared.axis.Power.TheVariants.{Off}
use Rattle.drives.specs.declared.bank.Bank.{Bank}
use Rattle.segment.specs.Row.{Row, Position, Sound, SoundRow}

-- what stands for an axis past the end of the row
abbrev pub blank : AxisLook
blank = record { power = Off; demand = pos 0; actual = pos 0; fault = 0; low = pos 0; high = pos 0 }

-- the first drives of a list, each as it is seen
abbrev pub shown_row : {D : Type 0} → (D → AxisLook) → ℕ → List D → Row
shown_row seen count drives = record { count = count; at = λ k. slice_index_or (map seen (take count drives)) k blank }

-- the row that a bank shows
abbrev pub row_of : {D : Type 0} → (D → AxisLook) → Bank D → Row
row_of seen bank = shown_row seen bank.count bank.drives

sound_blank : Sound blank
sound_blank =
    let zero_in : Position (pos 0) = (omega (arith, ints), omega (arith, ints)) in
    record { demand = zero_in; actual = zero_in; low = zero_in; high = zero_in; fault = omega arith; power = λ h. tt }

sound_at :
    {D : Type 0} (seen : D → AxisLook) → ((d : D) → Sound (seen d)) → (drives : List D) (k : ℕ) →
    Sound (slice_index_or (map seen drives) k blank)
sound_at seen each [] k = sound_blank
sound_at seen each (x ∷ xs) zero = each x
sound_at seen each (x ∷ xs) (suc k) = sound_at seen each xs k

pub shown_sound :
    {D : Type 0} (seen : D → AxisLook) (count : ℕ) (drives : List D) → ((d : D) → Sound (seen d)) → 1 ≤ count →
    count ≤ 8 → SoundRow (shown_row seen count drives)
shown_sound seen count drives each some few = record { some = some; few = few; each = sound_at seen each (take count drives) }
