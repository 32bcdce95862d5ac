-- What a virtual axis makes of an order. Assumes nothing.
use Rattle.std.specs.Prelude.{◌≡◌, ℕ, ◌<◌, true, ℤ}
use Rattle.std.proofs.Common.{arith}
use Rattle.std.proofs.lemmas.Bool.{ne_eqb, false≢true}
use Rattle.segment.specs.declared.axis.AxisLook.{AxisLook}
use Rattle.segment.specs.declared.axis.Power.{Power}
use Rattle.segment.specs.declared.axis.Power.TheVariants.{Off, Coming, On}
use Rattle.segment.specs.Row.{Sound, IsOff}
use Rattle.segment.specs.Calls.{powered, unpowered, followed, tripped, cleared}
use Rattle.drives.specs.declared.virtual_axis.VirtualAxis.{VirtualAxis}
use Rattle.drives.specs.Orders.{Order, power_on, power_off, follow_to, trip_with, clear_it, cycle_it}
use Rattle.drives.specs.Rest.{rests}

-- a new axis: off, at its start
abbrev pub fresh : ℤ → ℤ → ℤ → AxisLook
fresh start low high = record { power = Off; demand = start; actual = start; fault = 0; low = low; high = high }

-- a cycle by the power before it: coming becomes on, an axis that was on is where it was told, and no fault arises
abbrev pub cycled_from : Power → AxisLook → AxisLook
cycled_from Off a = record { power = Off; demand = a.actual; actual = a.actual; fault = a.fault; low = a.low; high = a.high }
cycled_from Coming a = record { power = On; demand = a.actual; actual = a.actual; fault = a.fault; low = a.low; high = a.high }
cycled_from On a = record { power = On; demand = a.demand; actual = a.demand; fault = a.fault; low = a.low; high = a.high }

-- what an order makes of a virtual axis
abbrev pub virtual_after : Order → AxisLook → AxisLook
virtual_after power_on a = powered a
virtual_after power_off a = unpowered a
virtual_after (follow_to position) a = followed position a
virtual_after (trip_with code) a = tripped code a
virtual_after clear_it a = cleared a
virtual_after cycle_it a = cycled_from a.power a

-- a virtual axis is as the order makes it
abbrev pub VirtualObeys : Order → VirtualAxis → VirtualAxis → Type 0
VirtualObeys order before after = after.look ≡ virtual_after order before.look

rest_is_off : (fault : ℕ) (power : Power) → rests fault power ≡ true → 0 < fault → IsOff power
rest_is_off fault Off h k = tt
rest_is_off fault Coming h k = let e = ne_eqb fault 0 (λ z. absurd (omega arith)) in absurd (false≢true (rw e at h))
rest_is_off fault On h k = let e = ne_eqb fault 0 (λ z. absurd (omega arith)) in absurd (false≢true (rw e at h))

pub virtual_sound : (d : VirtualAxis) → Sound d.look
virtual_sound d = record {
  demand = d.demand_in;
  actual = d.actual_in;
  low = d.low_in;
  high = d.high_in;
  fault = d.code;
  power = rest_is_off d.look.fault d.look.power d.rest;
}
