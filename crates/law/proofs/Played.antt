-- A row of orders, one more at a time. Assumes nothing.
use Rattle.std.proofs.Common.{◌≡◌, ℕ, ◌+◌, ◌<◌, ◌≤◌, List, [], ◌∷◌, length, get_or, take, refl, subst, take_all}
use Rattle.std.proofs.lemmas.List.{take_more}
use Rattle.segment.specs.Row.{Row, SoundRow}
use Rattle.trail.specs.declared.memory.Trail.{Trail}
use Rattle.trail.specs.Held.{held_words, held_room}
use Rattle.moves.specs.Sheet.{new_table}
use Rattle.motion.specs.World.{World}
use Rattle.sequencer.specs.declared.sequencer.Sequencer.{Sequencer}
use Rattle.sequencer.specs.Calls.{Answer}
use Rattle.sequencer.specs.Whole.{segment_of, table_of, world_of}
use Rattle.law.specs.declared.order.Order.{Order}
use Rattle.law.specs.Laws.Law.{Played}
use Rattle.law.specs.Runs.{Step, entry, Fresh, Run, new_world}
use Rattle.law.specs.Runs.Run.{made, called}
use Rattle.law.proofs.Invariant.{throughout}

pub played_none : (start : World) → Fresh start → Played start [] start
played_none start f = record { history = []; given = refl; run = made f; throughout = throughout (made f) }

pub played_more :
    (start : World) (orders : List Order) (i : ℕ) (default : Order) (r : Answer) (w w' : World) → i < length orders →
    Played start (take i orders) w → Step w (get_or orders i default) r w' → Played start (take (i + 1) orders) w'
played_more start orders i default r w w' h p s =
    let e = entry (get_or orders i default) r in
    let run : Run start (e ∷ p.history) w' = called e p.run s in
    record {
      history = e ∷ p.history;
      given = rw (p.given, take_more orders i default h);
      run = run;
      throughout = throughout run;
    }

-- once all the orders are taken, they are played
pub played_all : (start : World) (orders : List Order) (i : ℕ) (w : World) → length orders ≤ i → Played start (take i orders) w → Played start orders w
played_all start orders i w h p = subst (λ os. Played start os w) (take_all i orders h) p

-- a sequencer just made and an emptied trail are a new world
pub new_is :
    {S : Type 0} (shows : S → Row) (sequencer : Sequencer S) (segment : S) (trail : Trail) (room : ℕ) →
    table_of sequencer ≡ new_table → segment_of sequencer ≡ segment → held_words trail ≡ [] → held_room trail ≡ room →
    world_of shows sequencer trail ≡ new_world (shows segment) room
new_is shows sequencer segment trail room e f g h = λ i. record { sheet = record { table = e i; words = g i; room = h i }; row = shows (f i) }

pub new_fresh : (row : Row) (room : ℕ) → SoundRow row → Fresh (new_world row room)
new_fresh row room sound = record { table = refl; words = refl; sound = sound }
