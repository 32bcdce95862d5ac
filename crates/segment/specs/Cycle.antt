-- What a cycle may make of a row. Assumes nothing.
use Rattle.std.specs.Prelude.{◌≡◌, ℕ, ◌<◌, ◌≤◌, ◌⊎◌}
use Rattle.segment.specs.declared.axis.AxisLook.{AxisLook}
use Rattle.segment.specs.declared.axis.Power.{Power}
use Rattle.segment.specs.declared.axis.Power.TheVariants.{Off, Coming, On}
use Rattle.segment.specs.Row.{Row}

-- off stays off, on stays on, coming becomes on or stays
abbrev pub PowerCycled : Power → Power → Type 0
PowerCycled Off after = after ≡ Off
PowerCycled Coming after = (after ≡ Coming) ⊎ (after ≡ On)
PowerCycled On after = after ≡ On

-- demand stays where power was on, and else is the new actual
abbrev pub DemandCycled : Power → AxisLook → AxisLook → Type 0
DemandCycled Off before after = after.demand ≡ after.actual
DemandCycled Coming before after = after.demand ≡ after.actual
DemandCycled On before after = after.demand ≡ before.demand

-- no fault arose: a fault there was stays
pub record Calm (before after : AxisLook) : Type 0 where
  pub fault : after.fault ≡ before.fault
  pub power : PowerCycled before.power after.power
  pub demand : DemandCycled before.power before after

-- a fault arose: power is off, and demand is the new actual
pub record Arose (before after : AxisLook) : Type 0 where
  pub none : before.fault ≡ 0
  pub fault : 1 ≤ after.fault
  pub power : after.power ≡ Off
  pub demand : after.demand ≡ after.actual

-- a cycle of one axis: its range stays; its actual may become any position
pub record AxisCycled (before after : AxisLook) : Type 0 where
  pub low : after.low ≡ before.low
  pub high : after.high ≡ before.high
  pub rest : Calm before after ⊎ Arose before after

-- a cycle of all axes
pub record Cycled (before after : Row) : Type 0 where
  pub count : after.count ≡ before.count
  pub each : (k : ℕ) → k < before.count → AxisCycled (before.at k) (after.at k)
