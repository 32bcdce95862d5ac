-- The runs of a sequencer: what was called, what was answered, and the world that this led to. Assumes nothing.
use Rattle.std.specs.Prelude.{◌≡◌, ℕ, ◌+◌, List, [], ◌∷◌, Ok, Err}
use Rattle.segment.specs.Row.{Row, SoundRow}
use Rattle.moves.specs.Sheet.{new_table}
use Rattle.motion.specs.World.{World}
use Rattle.sequencer.specs.Calls.{Answer, PoweredOn, PoweredOff, Executed, Released, WasReset, WasTripped, WasCycled}
use Rattle.law.specs.declared.order.Order.{Order}
use Rattle.law.specs.declared.order.Order.TheVariants.{PowerOn, PowerOff, Execute, Release, Reset, Trip, Cycle}

-- what an order answers, and the world that it leaves
abbrev pub Obeyed : World → Order → Answer → World → Type 0
Obeyed w (PowerOn axis) r left = PoweredOn w axis r left
Obeyed w (PowerOff axis) r left = PoweredOff w axis r left
Obeyed w (Execute block axis instruction mode) r left = Executed w block axis instruction mode r left
Obeyed w (Release block) r left = Released w block r left
Obeyed w (Reset axis) r left = WasReset w axis r left
Obeyed w (Trip axis code) r left = WasTripped w axis code r left
Obeyed w Cycle r left = WasCycled w r left

-- one call: it is obeyed, and the segment shows a sound row after it
pub record Step (w : World) (order : Order) (answer : Answer) (w' : World) : Type 0 where
  pub obeyed : Obeyed w order answer w'
  pub sound : SoundRow w'.row

-- a call and what it answered
pub record Entry : Type 0 where
  pub order : Order
  pub answer : Answer

abbrev pub entry : Order → Answer → Entry
entry order answer = record { order = order; answer = answer }

-- the calls that were made, the newest first
abbrev pub History : Type 0
History = List Entry

-- the world of a new sequencer and an empty trail
abbrev pub new_world : Row → ℕ → World
new_world row room = record { sheet = record { table = new_table; words = []; room = room }; row = row }

-- a sequencer just made, over any segment, however it stands, and an empty trail with any room
pub record Fresh (w : World) : Type 0 where
  pub table : w.sheet.table ≡ new_table
  pub words : w.sheet.words ≡ []
  pub sound : SoundRow w.row

-- a run: from a fresh world, call by call
pub data Run (start : World) : History → World → Type 0 where
  made : Fresh start → Run start [] start
  called : {h : History} {w w' : World} (e : Entry) → Run start h w → Step w e.order e.answer w' → Run start (e ∷ h) w'

-- an execute that was not refused counts one
abbrev pub execute_one : Order → Answer → ℕ
execute_one (PowerOn axis) r = 0
execute_one (PowerOff axis) r = 0
execute_one (Execute block axis instruction mode) (Ok _) = 1
execute_one (Execute block axis instruction mode) (Err e) = 0
execute_one (Release block) r = 0
execute_one (Reset axis) r = 0
execute_one (Trip axis code) r = 0
execute_one Cycle r = 0

-- how many executes were not refused
abbrev pub executes : History → ℕ
executes [] = 0
executes (e ∷ h) = execute_one e.order e.answer + executes h
