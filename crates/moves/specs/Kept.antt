-- What the sequencer keeps of an axis, and who waits on it, as contracts see them. Assumes nothing.
use Rattle.std.specs.Prelude.{ℕ, Bool, List, ℤ, Option}
use Rattle.records.specs.declared.motion.AxisState.{AxisState}

-- four places of a queue, and how many of them are taken
pub record Waiting : Type 0 where
  pub blocks : List ℕ
  pub waiting : ℕ

-- what is kept of an axis: its queue and how many wait stand beside each other
pub record Kept : Type 0 where
  pub state : AxisState
  pub velocity : ℤ
  pub distance_to_go : ℤ
  pub enable_requested : Bool
  pub active : Option ℕ
  pub queue : List ℕ
  pub waiting : ℕ
  pub stop : Option ℕ
