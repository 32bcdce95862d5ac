-- The law of every run, by induction over the run. Assumes nothing.
use Rattle.std.proofs.Common.{◌≡◌, ℕ, ◌+◌, ◌<◌, List, [], ◌∷◌, length, replicate, Some, None, Ok, Err, Option, sym, refl, ap, ◌∙◌, subst, zero-add, arith}
use Rattle.std.proofs.lemmas.List.{get_or-replicate}
use Rattle.segment.specs.Row.{SoundRow}
use Rattle.records.specs.declared.kinds.Record.{Record}
use Rattle.records.specs.declared.motion.AxisState.{AxisState}
use Rattle.records.specs.declared.motion.AxisState.TheVariants.{Disabled, Standstill, Stopping, DiscreteMotion, ContinuousMotion, ErrorStop}
use Rattle.records.specs.declared.motion.BufferMode.{BufferMode}
use Rattle.records.specs.declared.motion.Command.{Command}
use Rattle.totals.specs.Counts.{done_one, aborted_one, error_one}
use Rattle.moves.specs.declared.instruction.Instruction.{Instruction}
use Rattle.moves.specs.declared.table.Axis.{Axis}
use Rattle.moves.specs.declared.table.Status.TheVariants.{Active}
use Rattle.moves.specs.declared.table.Table.{Table}
use Rattle.moves.specs.Blocks.{state_under}
use Rattle.moves.specs.Sheet.{idle_block, disabled_axis, new_table}
use Rattle.motion.specs.World.{World, axis_of}
use Rattle.sequencer.specs.declared.refusal.Refusal.{Refusal}
use Rattle.sequencer.specs.Calls.{Answer}
use Rattle.sequencer.specs.Refusals.{execute_refusal}
use Rattle.law.specs.declared.order.Order.{Order}
use Rattle.law.specs.declared.order.Order.TheVariants.{PowerOn, PowerOff, Execute, Release, Reset, Trip, Cycle}
use Rattle.law.specs.Laws.Arrivals.{done_ends, Arrives}
use Rattle.law.specs.Laws.Law.{Law, Always, Throughout}
use Rattle.law.specs.Laws.States.{Actives, ActiveOn, AtMostOne, ExactlyOne, NoneActive}
use Rattle.law.specs.Readings.{records_of}
use Rattle.law.specs.Runs.{Obeyed, Step, entry, History, Fresh, Run, execute_one, executes}
use Rattle.law.specs.Runs.Run.{made, called}
use Rattle.law.proofs.Keeping.{Keeps, keeps_power_on, keeps_power_off, keeps_reset, keeps_trip}
use Rattle.law.proofs.Chains.{chained_new}
use Rattle.law.proofs.Cycling.{cycle_keeps}
use Rattle.law.proofs.Executing.{Passed, keeps_execute, keeps_release}
use Rattle.law.proofs.Good.{good_new}
use Rattle.law.proofs.Lines.{nth, At, Line, Lines, line_none, fresh_axle}
use Rattle.law.proofs.Parts.{Rests, Fits, Aims, Part}
use Rattle.law.proofs.Readings.{reads_none, ends_read}

-- ---- the invariant: table and row are tied to the words, and these to the history

pub record Inv (h : History) (w : World) : Type 0 where
  pub records : List Record
  pub part : Part (λ d. d < w.row.count) (executes h) [] records w.sheet w.row
  pub sound : SoundRow w.row

-- ---- a state and how many commands are active in it

module _ (table : Table) {a : ℕ} {y : Axis} (line : Line table.blocks a y) (fits : Fits table.blocks y) where
  active_is : (b : ℕ) → ActiveOn table a b → y.active ≡ Some b
  active_is b on = line.only b (record { within = on.within; stands = on.active; axis = on.axis })

  at_most_one : AtMostOne table a
  at_most_one b c on also = cc (active_is b on, active_is c also)

  none_active : ((c : Option Command) → y.state ≡ state_under c → ⊥) → NoneActive table a
  none_active never b on = never (nth table.blocks b).command (fits.under b (active_is b on))

  exactly_one : (Rests y.state → ⊥) → ExactlyOne table a
  exactly_one busy = by y.active refl
    where
      by : (o : Option ℕ) → y.active ≡ o → ExactlyOne table a
      by None e = absurd (busy (fits.rests e))
      by (Some b) e = let at = line.running b e in ((b, record { within = at.within; active = at.stands; axis = at.axis }), at_most_one)

-- a command leads to no state that rests but a stop's
no_rest : (state : AxisState) (c : Option Command) → Rests state → state ≡ state_under c → state ≡ Stopping
no_rest state c rests e = grind arith

actives_of : (table : Table) {a : ℕ} {y : Axis} → Line table.blocks a y → Fits table.blocks y → (state : AxisState) → y.state ≡ state → Actives state table a
actives_of table line fits Disabled e = none_active table line fits (λ c f. cc (no_rest Disabled c tt (sym e ∙ f)))
actives_of table line fits Standstill e = none_active table line fits (λ c f. cc (no_rest Standstill c tt (sym e ∙ f)))
actives_of table line fits Stopping e = at_most_one table line fits
actives_of table line fits DiscreteMotion e = exactly_one table line fits (λ h. rw e at h)
actives_of table line fits ContinuousMotion e = exactly_one table line fits (λ h. rw e at h)
actives_of table line fits ErrorStop e = none_active table line fits (λ c f. cc (no_rest ErrorStop c tt (sym e ∙ f)))

-- ---- the law from the invariant

pub law_of : {h : History} {w : World} → Inv h w → Law h w.sheet.words w
law_of {h} {w} inv =
    let p = inv.part in
    let reads = p.told.reads in
    record {
      read = reads.whole;
      counts = omega (arith, p.told.good.counts, ends_read done_one reads, ends_read aborted_one reads, ends_read error_one reads);
      rounds = λ b hb. rw reads.told (p.told.good.rounds b hb);
      chains = λ a. rw reads.told (p.told.chained.each a);
      actives = λ a. actives_of w.sheet.table (p.lines.each a) (p.fits a) (axis_of w a).state refl;
    }

-- ---- the start

fresh_idle : (b : ℕ) (a : ℕ) → At new_table.blocks b a Active → ⊥
fresh_idle b a at = cc (get_or-replicate 32 b idle_block idle_block at.within)

fresh_lines : Lines new_table.blocks new_table.axes
fresh_lines = record {
  size = refl;
  queues = λ d h. ap (λ (y : Axis). length y.queue) (get_or-replicate 8 d (disabled_axis (replicate 4 0)) (disabled_axis []) h);
  each = λ d. fresh_axle (λ y. Line new_table.blocks d y) (line_none new_table.blocks d _ refl refl (λ b. fresh_idle b d)) (line_none new_table.blocks d _ refl refl (λ b. fresh_idle b d)) d;
}

fresh_fits : (queue : List ℕ) → Fits new_table.blocks (disabled_axis queue)
fresh_fits queue = record {
  rests = λ e. tt;
  under = λ b e. cc;
  alone = λ b e. cc;
  stop = λ b e. cc;
}

pub starts : (w : World) → Fresh w → Inv [] w
starts w f = record {
  records = [];
  part = subst (λ s. Part (λ d. d < w.row.count) 0 [] [] s w.row) (λ i. record { table = sym f.table i; words = sym f.words i; room = w.sheet.room }) (record {
    told = record { reads = reads_none; good = good_new; chained = chained_new };
    lines = fresh_lines;
    fits = fresh_axle (Fits new_table.blocks) (fresh_fits (replicate 4 0)) (fresh_fits []);
    aims = λ d lt. fresh_axle (λ y. Aims [] new_table.blocks y (w.row.at d)) (record { aimed = λ b e. cc }) (record { aimed = λ b e. cc }) d;
  });
  sound = f.sound;
}

-- ---- a call that is not refused has passed each check

execute_passed : (w : World) (b a : ℕ) (i : Instruction) (mode : BufferMode) → execute_refusal w b a i mode ≡ None → Passed w b a i mode
execute_passed w b a i mode e = record {
  block = grind arith;
  idle = grind arith;
  axis = grind arith;
  lawful = grind arith;
  state = grind arith;
  queue = λ h. grind arith;
  range = grind arith;
}

-- ---- one call

record Kept (h : History) (o : Order) (r : Answer) (w w' : World) : Type 0 where
  inv : Inv (entry o r ∷ h) w'
  arrives : Arrives (records_of w.sheet.words) (records_of w'.sheet.words) w'.row

-- no call that ends nothing done has to arrive
quiet : (rs qs : List Record) (w' : World) → ((b : ℕ) → done_ends b qs ≡ done_ends b rs) → Arrives rs qs w'.row
quiet rs qs w' same b grew = absurd (omega (arith, grew, same b))

module _ (h : History) (w w' : World) (inv : Inv h w) (o : Order) (r : Answer) (sound : SoundRow w'.row) where
  -- a refused call
  stays : execute_one o r ≡ 0 → w' ≡ w → Kept h o r w w'
  stays none e = rw e (record {
    inv = record { records = inv.records; part = rw (none, zero-add) inv.part; sound = inv.sound };
    arrives = quiet (records_of w.sheet.words) (records_of w.sheet.words) w (λ b. refl);
  })

  -- a call that ends nothing done
  keeps : {m : ℕ} (v : World) → execute_one o r + executes h ≡ m → Keeps m [] inv.records v → w' ≡ v → Kept h o r w w'
  keeps v count k e =
      rw e (record {
        inv = record { records = k.records; part = rw count k.part; sound = rw e at sound };
        arrives = quiet (records_of w.sheet.words) (records_of v.sheet.words) v
            (λ b. rw (k.part.told.reads.told, k.dones b, inv.part.told.reads.told));
      })

err_none : (o : Order) (e : Refusal) → execute_one o (Err e) ≡ 0
err_none o e = grind arith

err_same : (w w' : World) (o : Order) (e : Refusal) → Obeyed w o (Err e) w' → w' ≡ w
err_same w w' o e obeyed = grind arith

advance : (h : History) (w w' : World) (o : Order) (r : Answer) → Inv h w → Step w o r w' → Kept h o r w w'
advance h w w' o (Err e) inv s = stays h w w' inv o (Err e) s.sound (err_none o e) (err_same w w' o e s.obeyed)
advance h w w' (PowerOn a) (Ok u) inv s =
    keeps h w w' inv (PowerOn a) (Ok u) s.sound _ (zero-add _) (keeps_power_on w inv.part inv.sound.few a (grind (arith, s.obeyed.0))) s.obeyed.1
advance h w w' (PowerOff a) (Ok u) inv s =
    keeps h w w' inv (PowerOff a) (Ok u) s.sound _ (zero-add _) (keeps_power_off w inv.part inv.sound.few a (grind (arith, s.obeyed.0))) s.obeyed.1
advance h w w' (Execute b a i mode) (Ok u) inv s =
    keeps h w w' inv (Execute b a i mode) (Ok u) s.sound _ refl
    (keeps_execute w inv.part inv.sound.few b a i mode (execute_passed w b a i mode s.obeyed.0) (inv.sound.each a)) s.obeyed.1
advance h w w' (Release b) (Ok u) inv s =
    keeps h w w' inv (Release b) (Ok u) s.sound _ (zero-add _) (keeps_release w inv.part b (grind (arith, s.obeyed.0)) (grind (arith, s.obeyed.0))) s.obeyed.1
advance h w w' (Reset a) (Ok u) inv s =
    keeps h w w' inv (Reset a) (Ok u) s.sound _ (zero-add _) (keeps_reset w inv.part inv.sound.few a (grind (arith, s.obeyed.0)) (grind (arith, s.obeyed.0))) s.obeyed.1
advance h w w' (Trip a code) (Ok u) inv s =
    keeps h w w' inv (Trip a code) (Ok u) s.sound _ (zero-add _)
    (keeps_trip w inv.part inv.sound.few a (grind (arith, s.obeyed.0)) code (grind (arith, s.obeyed.0)) (grind (arith, s.obeyed.0)) (inv.sound.each a).fault) s.obeyed.1
advance h w w' Cycle (Ok u) inv s =
    let k = cycle_keeps w w' inv.part inv.sound.few s.obeyed.1 in
    record {
      inv = record { records = k.records; part = rw zero-add k.part; sound = s.sound };
      arrives = rw (k.part.told.reads.told, inv.part.told.reads.told) k.arrives;
    }

-- ---- every run

pub kept : {start : World} {h : History} {w : World} → Run start h w → Inv h w
kept (made f) = starts _ f
kept (called e run s) = (advance _ _ _ e.order e.answer (kept run) s).inv

pub lawful : (w : World) (o : Order) (r : Answer) (w' : World) → Step w o r w' → Always w (entry o r) w'
lawful w o r w' s start h run =
    let next = advance h w w' o r (kept run) s in
    record { run = called (entry o r) run s; law = law_of next.inv; arrives = next.arrives }

pub throughout : {start : World} {h : History} {w : World} (run : Run start h w) → Throughout run
throughout {start = start} (made f) = law_of (starts start f)
throughout {start = start} (called {h = h} {w = w} {w' = w'} e run s) = (lawful w e.order e.answer w' s start h run, throughout run)
