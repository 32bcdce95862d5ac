-- The law of every run. Assumes nothing.
use Rattle.std.specs.Prelude.{◌≡◌, ℕ, ◌+◌, ◌<◌, List, [], ◌∷◌, ◌++◌, None}
use Rattle.words.specs.Reading.{first_bad}
use Rattle.totals.specs.Counts.{ends, done_one, aborted_one, error_one}
use Rattle.moves.specs.Sheet.{block_at}
use Rattle.motion.specs.World.{World, axis_of}
use Rattle.law.specs.declared.order.Order.{Order}
use Rattle.law.specs.Laws.Accounts.{Rounds, stage_of, busy_blocks}
use Rattle.law.specs.Laws.Arrivals.{Arrives}
use Rattle.law.specs.Laws.States.{Chain, Actives}
use Rattle.law.specs.Readings.{records_of}
use Rattle.law.specs.Runs.{Entry, History, Run, executes}
use Rattle.law.specs.Runs.Run.{made, called}

-- the law at a point of a run: of the calls made, the words written, and the world there
pub record Law (h : History) (words : List ℕ) (w : World) : Type 0 where
  -- every word is that of a lawful record
  pub read : first_bad words ≡ None
  -- executes not refused are the ends done, aborted and in error, and the blocks that are busy
  pub counts : executes h ≡ ends done_one words + ends aborted_one words + ends error_one words + busy_blocks w.sheet.table.blocks
  -- each block's words are rounds, and only the last may lack its end, exactly when the block is busy
  pub rounds : (b : ℕ) → b < 32 → Rounds b (records_of words) (stage_of (block_at w.sheet.table b))
  -- each axis's state words lead along the arrows to its state
  pub chains : (a : ℕ) → Chain a (records_of words) (axis_of w a).state
  -- so many of its commands are active as its state says
  pub actives : (a : ℕ) → Actives (axis_of w a).state w.sheet.table a

-- a call from w to w' that made the entry e: the law holds after it, and what it ended done has arrived
pub record Lawful (start : World) (h : History) (e : Entry) (w w' : World) : Type 0 where
  pub run : Run start (e ∷ h) w'
  pub law : Law (e ∷ h) w'.sheet.words w'
  pub arrives : Arrives (records_of w.sheet.words) (records_of w'.sheet.words) w'.row

-- whatever run led to w
abbrev pub Always : World → Entry → World → Type 0
Always w e w' = (start : World) (h : History) → Run start h w → Lawful start h e w w'

-- at every point of the run
abbrev pub Throughout : {start : World} {h : History} {w : World} → Run start h w → Type 0
Throughout {start = start} (made fresh) = Law [] start.sheet.words start
Throughout {start = start} (called {h = h} {w = w} {w' = w'} e run step) = Lawful start h e w w' × Throughout run

-- the orders of a history, the oldest first
abbrev pub orders_of : History → List Order
orders_of [] = []
orders_of (e ∷ h) = orders_of h ++ (e.order ∷ [])

-- some run from start gave just these orders and led to w, and the law held at every point of it
pub record Played (start : World) (orders : List Order) (w : World) : Type 0 where
  pub history : History
  pub given : orders_of history ≡ orders
  pub run : Run start history w
  pub throughout : Throughout run
