-- How a trail is read: its records, the newest first, and what they tell of a block and of an axis. Assumes nothing.
use Rattle.std.specs.Prelude.{◌≡◌, ℕ, Bool, false, List, [], ◌∷◌, ◌++◌, ℤ, Some, None, Option, ◌==◌}
use Rattle.records.specs.declared.kinds.Record.{Record}
use Rattle.records.specs.declared.kinds.Record.TheVariants.{Accept, Begin, End, State, Place, Cycle, Target}
use Rattle.records.specs.declared.motion.Command.{Command}
use Rattle.words.specs.Reading.{reading}

-- a record that was read, as a list
abbrev pub read_one : Option Record → List Record
read_one None = []
read_one (Some x) = x ∷ []

-- the records of the words, the newest first
abbrev pub records_of : List ℕ → List Record
records_of [] = []
records_of (w ∷ ws) = records_of ws ++ read_one (reading w)

-- a block's words are the accepts, begins and ends that name it
abbrev pub names : ℕ → Record → Bool
names b (Accept axis block command mode) = block == b
names b (Begin axis block) = block == b
names b (End axis block outcome) = block == b
names b (State axis old new) = false
names b (Place position) = false
names b (Cycle count) = false
names b (Target position) = false

-- an axis's state words
abbrev pub states : ℕ → Record → Bool
states a (Accept axis block command mode) = false
states a (Begin axis block) = false
states a (End axis block outcome) = false
states a (State axis old new) = axis == a
states a (Place position) = false
states a (Cycle count) = false
states a (Target position) = false

-- an accept of the block b
abbrev pub accepts : ℕ → Record → Bool
accepts b (Accept axis block command mode) = block == b
accepts b (Begin axis block) = false
accepts b (End axis block outcome) = false
accepts b (State axis old new) = false
accepts b (Place position) = false
accepts b (Cycle count) = false
accepts b (Target position) = false

-- a begin of the block b
abbrev pub begins : ℕ → Record → Bool
begins b (Accept axis block command mode) = false
begins b (Begin axis block) = block == b
begins b (End axis block outcome) = false
begins b (State axis old new) = false
begins b (Place position) = false
begins b (Cycle count) = false
begins b (Target position) = false

-- the last accept of the block b is of this axis and command
pub data LastAccept (b : ℕ) : List Record → ℕ → Command → Type 0 where
  here : {axis block : ℕ} {command : Command} {mode : _} {rs : List Record} → block ≡ b → LastAccept b (Accept axis block command mode ∷ rs) axis command
  before : {x : Record} {rs : List Record} {axis : ℕ} {command : Command} → accepts b x ≡ false → LastAccept b rs axis command → LastAccept b (x ∷ rs) axis command

-- the target behind the last begin of the block b
pub data LastTarget (b : ℕ) : List Record → ℤ → Type 0 where
  here : {axis block : ℕ} {target : ℤ} {rs : List Record} → block ≡ b → LastTarget b (Target target ∷ Begin axis block ∷ rs) target
  before : {x : Record} {rs : List Record} {target : ℤ} → begins b x ≡ false → LastTarget b rs target → LastTarget b (x ∷ rs) target
