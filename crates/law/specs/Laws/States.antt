-- States follow the arrows. Assumes nothing.
use Rattle.std.specs.Prelude.{◌≡◌, ℕ, ◌<◌, false, List, [], ◌∷◌}
use Rattle.records.specs.declared.kinds.Record.{Record}
use Rattle.records.specs.declared.kinds.Record.TheVariants.{State}
use Rattle.records.specs.declared.motion.AxisState.{AxisState}
use Rattle.records.specs.declared.motion.AxisState.TheVariants.{Disabled, Standstill, Stopping, DiscreteMotion, ContinuousMotion, ErrorStop}
use Rattle.moves.specs.declared.table.Status.TheVariants.{Active}
use Rattle.moves.specs.declared.table.Table.{Table}
use Rattle.moves.specs.Axes.{is_disabled, is_errorstop}
use Rattle.moves.specs.Sheet.{block_at}
use Rattle.law.specs.Readings.{states}

-- the arrows between the states of an axis
pub data Arrow : AxisState → AxisState → Type 0 where
  fails : {state : AxisState} → is_errorstop state ≡ false → Arrow state ErrorStop
  disables : {state : AxisState} → is_disabled state ≡ false → Arrow state Disabled
  enables : Arrow Disabled Standstill
  stops : Arrow Standstill Stopping
  moves : Arrow Standstill DiscreteMotion
  runs : Arrow Standstill ContinuousMotion
  frees : Arrow Stopping Standstill
  rests : Arrow DiscreteMotion Standstill
  stops_moving : Arrow DiscreteMotion Stopping
  runs_on : Arrow DiscreteMotion ContinuousMotion
  stops_running : Arrow ContinuousMotion Stopping
  moves_on : Arrow ContinuousMotion DiscreteMotion

-- the state words of the axis a, the newest first, lead along the arrows from disabled, each from where the one
-- before ended, to this state
pub data Chain (a : ℕ) : List Record → AxisState → Type 0 where
  starts : Chain a [] Disabled
  other : {x : Record} {rs : List Record} {state : AxisState} → states a x ≡ false → Chain a rs state → Chain a (x ∷ rs) state
  goes : {old new : AxisState} {rs : List Record} → Chain a rs old → Arrow old new → Chain a (State a old new ∷ rs) new

-- the command of the block b is active on the axis a
pub record ActiveOn (table : Table) (a b : ℕ) : Type 0 where
  pub within : b < 32
  pub active : (block_at table b).status ≡ Active
  pub axis : (block_at table b).axis ≡ a

-- no two commands are active on the axis a
abbrev pub AtMostOne : Table → ℕ → Type 0
AtMostOne table a = (b c : ℕ) → ActiveOn table a b → ActiveOn table a c → b ≡ c

-- exactly one of its commands is active
abbrev pub ExactlyOne : Table → ℕ → Type 0
ExactlyOne table a = ((b : ℕ) × ActiveOn table a b) × AtMostOne table a

-- none is
abbrev pub NoneActive : Table → ℕ → Type 0
NoneActive table a = (b : ℕ) → ActiveOn table a b → ⊥

-- how many commands are active in each state
abbrev pub Actives : AxisState → Table → ℕ → Type 0
Actives Disabled table a = NoneActive table a
Actives Standstill table a = NoneActive table a
Actives Stopping table a = AtMostOne table a
Actives DiscreteMotion table a = ExactlyOne table a
Actives ContinuousMotion table a = ExactlyOne table a
Actives ErrorStop table a = NoneActive table a
