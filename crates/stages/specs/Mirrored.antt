-- What a mirror shows of the row below it, and where it orders an axis below. Assumes nothing.
use Rattle.std.specs.Prelude.{ℕ, ◌/◌, ◌%◌, ◌^◌, Bool, true, false, ℤ, negsuc, neg_ℤ, ◌==◌}
use Rattle.std.proofs.Common.{arith, rules}
use Rattle.std.specs.Int.{int_max}
use Rattle.std.proofs.lemmas.Int.{ints}
use Rattle.segment.specs.declared.axis.AxisLook.{AxisLook}
use Rattle.segment.specs.Row.{Row, Position, Sound, SoundRow, mapped}
use Rattle.stages.specs.View.{KeepsCalls, seen_sound}

-- the mask has the axis: the bit of its number is set
abbrev pub in_mask : ℕ → ℕ → Bool
in_mask mask axis = mask / 2 ^ axis % 2 == 1

-- an axis turned round: positions are negated, and so low and high change places
abbrev pub turned_round : AxisLook → AxisLook
turned_round a =
    record {
      power = a.power;
      demand = neg_ℤ a.demand;
      actual = neg_ℤ a.actual;
      fault = a.fault;
      low = neg_ℤ a.high;
      high = neg_ℤ a.low;
    }

-- an axis as a mirror shows it: turned round if the mask has it
abbrev pub turned_if : Bool → AxisLook → AxisLook
turned_if true a = turned_round a
turned_if false a = a

-- the row that a mirror shows
abbrev pub mirrored : ℕ → Row → Row
mirrored mask = mapped (λ axis. turned_if (in_mask mask axis))

-- where an axis is ordered below, to be seen at the position; the smallest i32, which has no negation, goes as the next one
abbrev pub order_below : Bool → ℤ → ℤ
order_below true position = neg_ℤ (int_max position (negsuc 2147483646))
order_below false position = position

-- ---- a mirror of a sound row shows a sound row

position_negated : (p : ℤ) → Position p → Position (neg_ℤ p)
position_negated p h = (omega (arith, ints), omega (arith, ints))

pub turned_sound : (turned : Bool) (a : AxisLook) → Sound a → Sound (turned_if turned a)
turned_sound true a s = search (rules, position_negated)
turned_sound false a s = s

pub mirrored_sound : (mask : ℕ) (row : Row) → SoundRow row → SoundRow (mirrored mask row)
mirrored_sound mask = seen_sound (λ axis. turned_if (in_mask mask axis)) (λ axis. turned_sound (in_mask mask axis))

-- ---- a mirror keeps every call but a follow

pub turned_keeps_calls : (mask : ℕ) → KeepsCalls (λ axis. turned_if (in_mask mask axis))
turned_keeps_calls mask =
    record {
      power_on = λ axis a. search rules;
      power_off = λ axis a. search rules;
      trip = λ axis code a. search rules;
      clear = λ axis a. search rules;
      cycle = λ axis before after c. search rules;
    }
