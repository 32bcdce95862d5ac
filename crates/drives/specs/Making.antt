-- What the segments are when they are made, and what a question for a drive's state answers. Assumes nothing.
use Rattle.std.specs.Prelude.{◌≡◌, ℕ, ◌<◌, ◌≤◌, true, false, ◌&&◌, ℤ, Ok, Err, Result, slice_index_or}
use Rattle.segment.specs.declared.refusal.Reason.TheVariants.{NoSuchAxis, Setting}
use Rattle.segment.specs.declared.refusal.Refusal.{Refusal}
use Rattle.segment.specs.Refusal.{Own}
use Rattle.drives.specs.declared.bank.Bank.{Bank}
use Rattle.drives.specs.declared.cia402.Cia402Axis.{Cia402Axis}
use Rattle.drives.specs.declared.drive_state.DriveState.{DriveState}
use Rattle.drives.specs.declared.drive_state.DriveState.TheVariants.{NotReadyToSwitchOn}
use Rattle.drives.specs.declared.settings.Lag.{Lag}
use Rattle.drives.specs.declared.settings.Settings.{Settings}
use Rattle.drives.specs.declared.virtual_axis.VirtualAxis.{VirtualAxis}
use Rattle.drives.specs.Cia402.{Axis, parts}
use Rattle.drives.specs.Settings.{has_axes, are_positions, fair, fair_lag}
use Rattle.drives.specs.Virtual.{fresh}

-- ---- checks

-- start and range, if they are positions
abbrev pub SettingsChecked : ℤ → ℤ → ℤ → Result Settings Refusal → Type 0
SettingsChecked start low high (Ok s) =
    (are_positions start low high ≡ true) × (s.start ≡ start) × (s.low ≡ low) × (s.high ≡ high)
SettingsChecked start low high (Err e) = (are_positions start low high ≡ false) × Own Setting e

-- a lag, if it is within its limits
abbrev pub LagChecked : ℤ → Result Lag Refusal → Type 0
LagChecked lag (Ok l) = (fair_lag lag ≡ true) × (l.increments ≡ lag)
LagChecked lag (Err e) = (fair_lag lag ≡ false) × Own Setting e

-- a row of axes that are all alike, if their number is within its limits
abbrev pub BankMade : {D : Type 0} → ℕ → D → Result (Bank D) Refusal → Type 0
BankMade {D} count axis (Ok bank) =
    (has_axes count ≡ true) × (bank.count ≡ count) ×
    ((k : ℕ) (d : D) → k < 8 → slice_index_or bank.drives k d ≡ axis)
BankMade count axis (Err e) = (has_axes count ≡ false) × Own Setting e

-- ---- segments

-- a new virtual segment
pub record NewVirtual (count : ℕ) (start low high : ℤ) (bank : Bank VirtualAxis) : Type 0 where
  pub settings : fair count start low high ≡ true
  pub axes : bank.count ≡ count
  pub each : (k : ℕ) (d : VirtualAxis) → k < 8 → (slice_index_or bank.drives k d).look ≡ fresh start low high

-- it is made if the settings are within their limits
abbrev pub VirtualMade : ℕ → ℤ → ℤ → ℤ → Result (Bank VirtualAxis) Refusal → Type 0
VirtualMade count start low high (Ok bank) = NewVirtual count start low high bank
VirtualMade count start low high (Err e) = (fair count start low high ≡ false) × (e.reason ≡ Setting)

-- a new CiA 402 axis
abbrev pub new_cia402 : ℤ → ℤ → ℤ → ℤ → Axis
new_cia402 start low high lag = record {
  state = NotReadyToSwitchOn;
  requested = false;
  fault = 0;
  demand = start;
  actual = start;
  low = low;
  high = high;
  lag = lag;
}

-- a new CiA 402 segment
pub record NewCia402 (count : ℕ) (start low high lag : ℤ) (bank : Bank Cia402Axis) : Type 0 where
  pub settings : (fair count start low high && fair_lag lag) ≡ true
  pub axes : bank.count ≡ count
  pub each : (k : ℕ) (d : Cia402Axis) → k < 8 → parts (slice_index_or bank.drives k d) ≡ new_cia402 start low high lag

-- it is made if the settings are within their limits
abbrev pub Cia402Made : ℕ → ℤ → ℤ → ℤ → ℤ → Result (Bank Cia402Axis) Refusal → Type 0
Cia402Made count start low high lag (Ok bank) = NewCia402 count start low high lag bank
Cia402Made count start low high lag (Err e) =
    ((fair count start low high && fair_lag lag) ≡ false) × (e.reason ≡ Setting)

-- a question for a drive's state answers it, for an axis that is there
abbrev pub StateAnswered : Bank Cia402Axis → ℕ → Result DriveState Refusal → Type 0
StateAnswered bank axis (Ok state) =
    (axis < bank.count) × ((d : Cia402Axis) → state ≡ (slice_index_or bank.drives axis d).state)
StateAnswered bank axis (Err e) = (bank.count ≤ axis) × (e.reason ≡ NoSuchAxis)
