-- Every accepted command is accounted for. Assumes nothing.
use Rattle.std.specs.Prelude.{◌≡◌, ℕ, ◌+◌, Bool, true, false, List, [], ◌∷◌, Some, Option}
use Rattle.records.specs.declared.kinds.Record.{Record}
use Rattle.records.specs.declared.kinds.Record.TheVariants.{Accept, Begin, End}
use Rattle.records.specs.declared.motion.BufferMode.{BufferMode}
use Rattle.records.specs.declared.motion.Command.{Command}
use Rattle.records.specs.declared.outcome.Outcome.{Outcome}
use Rattle.records.specs.declared.outcome.Outcome.TheVariants as outcome
use Rattle.moves.specs.declared.table.Block.{Block}
use Rattle.moves.specs.declared.table.Status.{Status}
use Rattle.moves.specs.declared.table.Status.TheVariants.{Idle, Waiting, Active, Done, Aborted, Error}
use Rattle.law.specs.Readings.{names}

-- where a round of a block's words stands: ended or none yet, accepted for an axis, or begun there
pub data Stage : Type 0 where
  out : Stage
  waits : ℕ → Option Command → Stage
  runs : ℕ → Option Command → Stage

-- the stage of a block's command
abbrev pub stage_by : Status → ℕ → Option Command → Stage
stage_by Idle axis command = out
stage_by Waiting axis command = waits axis command
stage_by Active axis command = runs axis command
stage_by Done axis command = out
stage_by Aborted axis command = out
stage_by (Error cause) axis command = out

abbrev pub stage_of : Block → Stage
stage_of x = stage_by x.status x.axis x.command

-- a command that did not begin is not done
abbrev pub is_done : Outcome → Bool
is_done outcome.Done = true
is_done outcome.Aborted = false
is_done (outcome.Error cause) = false

-- the words of the block b, the newest first, are rounds: an accept, at most one begin, one end, all of one axis,
-- and done only after a begin; only the last round may lack its end, and then stands at this stage
pub data Rounds (b : ℕ) : List Record → Stage → Type 0 where
  none : Rounds b [] out
  other : {x : Record} {rs : List Record} {stage : Stage} → names b x ≡ false → Rounds b rs stage → Rounds b (x ∷ rs) stage
  accepted : {axis : ℕ} {command : Command} {mode : BufferMode} {rs : List Record} → Rounds b rs out → Rounds b (Accept axis b command mode ∷ rs) (waits axis (Some command))
  begun : {axis : ℕ} {command : Option Command} {rs : List Record} → Rounds b rs (waits axis command) → Rounds b (Begin axis b ∷ rs) (runs axis command)
  dropped : {axis : ℕ} {command : Option Command} {outcome : Outcome} {rs : List Record} → is_done outcome ≡ false → Rounds b rs (waits axis command) → Rounds b (End axis b outcome ∷ rs) out
  ended : {axis : ℕ} {command : Option Command} {outcome : Outcome} {rs : List Record} → Rounds b rs (runs axis command) → Rounds b (End axis b outcome ∷ rs) out

-- a block that is busy counts one
abbrev pub busy_one : Status → ℕ
busy_one Idle = 0
busy_one Waiting = 1
busy_one Active = 1
busy_one Done = 0
busy_one Aborted = 0
busy_one (Error cause) = 0

-- how many blocks are busy
abbrev pub busy_blocks : List Block → ℕ
busy_blocks [] = 0
busy_blocks (x ∷ xs) = busy_one x.status + busy_blocks xs
