-- Each call but the cycle keeps the law. Assumes nothing.
use Rattle.std.proofs.Common.{◌≡◌, ℕ, ◌+◌, ◌<◌, ◌≤◌, Bool, true, false, List, ◌∷◌, set, ℤ, Some, None, Option, refl, arith}
use Rattle.std.proofs.lemmas.List.{get_or-set_other}
use Rattle.segment.specs.declared.axis.AxisLook.{AxisLook}
use Rattle.segment.specs.Calls.{powered, unpowered, tripped, cleared}
use Rattle.segment.specs.Row.{Row, changed}
use Rattle.records.specs.declared.kinds.Record.{Record}
use Rattle.records.specs.declared.kinds.Record.TheVariants.{Accept}
use Rattle.records.specs.declared.motion.AxisState.{AxisState}
use Rattle.records.specs.declared.motion.AxisState.TheVariants.{Disabled}
use Rattle.records.specs.declared.motion.BufferMode.{BufferMode}
use Rattle.records.specs.declared.outcome.Cause.TheVariants.{Drive}
use Rattle.records.specs.declared.outcome.Outcome.TheVariants.{Aborted}
use Rattle.words.specs.Words.{may_be, lawful_cause}
use Rattle.moves.specs.declared.instruction.Instruction.{Instruction}
use Rattle.moves.specs.declared.table.Axis.{Axis}
use Rattle.moves.specs.declared.table.Block.{Block}
use Rattle.moves.specs.declared.table.Status.TheVariants.{Active}
use Rattle.moves.specs.Axes.{with_request, with_state, is_errorstop}
use Rattle.moves.specs.Blocks.{block_of, command_of, is_busy}
use Rattle.moves.specs.Moves.{accepted, kept}
use Rattle.moves.specs.Sheet.{Sheet, idle_block}
use Rattle.motion.specs.World.{World, axis_of}
use Rattle.sequencer.specs.Calls.{powered_on, powered_off, idled, reset_world, failed_unless, tripped_world}
use Rattle.law.specs.Laws.Arrivals.{done_ends}
use Rattle.law.specs.Laws.States.{Arrow}
use Rattle.law.specs.Readings.{LastTarget}
use Rattle.law.proofs.Closing.{Leads, enter_rest, stop_remembered, quelled_part, quelled_adds, quell_records}
use Rattle.law.proofs.Ends.{adds_state}
use Rattle.law.proofs.Good.{good_idled}
use Rattle.law.proofs.Handing.{failed_went, seen_unpowered}
use Rattle.law.proofs.Lines.{nth, axle, leaves_all, line_same, line_replaced, not_busy}
use Rattle.law.proofs.Parts.{Fits, Open, Part, But, opened, open_on, close_on, aims_demand}
use Rattle.law.proofs.Told.{Told, told_accepted, told_kept, entry_records}
use Rattle.law.proofs.Turning.{runs_no_errorstop}

-- what a call that ends nothing done keeps
pub record Keeps (m : ℕ) (before : List ℕ) (rs : List Record) (w' : World) : Type 0 where
  pub records : List Record
  pub part : Part (λ d. d < w'.row.count) m before records w'.sheet w'.row
  pub dones : (b : ℕ) → done_ends b records ≡ done_ends b rs

-- an axis that is asked for nothing more
pub whole : {a m : ℕ} {count : ℕ} {before : List ℕ} {rs : List Record} {s : Sheet} {row : Row} → Part (But a (λ d. d < count)) m before rs s row → Part (λ d. d < count) m before rs s row
whole p = record { told = p.told; lines = p.lines; fits = p.fits; aims = λ d lt. p.aims d (λ ne. lt) }

-- ---- rows

-- a change of an axis that leaves its demand
row_demand : (f : AxisLook → AxisLook) → ((look : AxisLook) → (f look).demand ≡ look.demand) → (row : Row) (a d : ℕ) → ((changed f row a).at d).demand ≡ (row.at d).demand
row_demand f same row a d = grind (arith, same (row.at d))

-- ---- power

leads_disabled : (state : AxisState) → Leads state Disabled
leads_disabled state i = grind (arith, Arrow.disables)

fits_request : {bs : List Block} {y : Axis} (r : Bool) → Fits bs y → Fits bs (with_request y r)
fits_request r fits = record { rests = fits.rests; under = fits.under; alone = fits.alone; stop = fits.stop }

module _ {n : ℕ} {before : List ℕ} {rs : List Record} (w : World) (p : Part (λ d. d < w.row.count) n before rs w.sheet w.row) (few : w.row.count ≤ 8) (a : ℕ) (there : a < w.row.count) where
  ha : a < 8
  ha = omega arith

  pub keeps_power_on : Keeps n before rs (powered_on w a)
  unfolding powered_on
  keeps_power_on =
      let y = axis_of w a in
      let z = with_request y true in
      record {
        records = rs;
        part = whole {a = a} (close_on (opened a p) (told_kept p.told a z ha refl) z refl ha (leaves_all a w.sheet.table.blocks) (p.lines.queues a ha)
            (line_same z refl refl refl (p.lines.each a)) (λ b ne t last. last) (fits_request true (p.fits a))
            (changed powered w.row a) (λ d ne. row_demand powered (λ look. refl) w.row a d)
            (aims_demand {z = z} refl refl (row_demand powered (λ look. refl) w.row a a) (p.aims a there)));
        dones = λ b. refl;
      }

  pub keeps_power_off : Keeps n before rs (powered_off w a)
  unfolding powered_off
  keeps_power_off =
      let y = axis_of w a in
      let z = with_request y false in
      let s = kept w.sheet a z in
      let turn : Open a (λ d. d < w.row.count) n before rs s w.row =
      open_on (opened a p) (told_kept p.told a z ha refl) z refl ha (leaves_all a w.sheet.table.blocks) (p.lines.queues a ha)
      (line_same z refl refl refl (p.lines.each a)) (λ b ne t last. last) in
      record {
        records = quell_records turn ha Aborted refl refl Disabled;
        part = whole {a = a} (quelled_part turn ha Aborted refl refl Disabled tt (leads_disabled (axle s.table.axes a).state) (changed unpowered w.row a) (λ d ne. (seen_unpowered w.row a d).demand));
        dones = (quelled_adds turn ha Aborted refl refl Disabled).dones;
      }

  -- ---- reset and trip

  pub keeps_reset : is_errorstop (axis_of w a).state ≡ true → Keeps n before rs (reset_world w a)
  unfolding reset_world
  keeps_reset e =
      let y = axis_of w a in
      let z = with_state (with_request y false) Disabled in
      let none : y.active ≡ None = by y.active refl in
      record {
        records = entry_records a y.state Disabled rs;
        part = whole {a = a} (enter_rest (opened a p) ha z none none refl refl tt (λ b. stop_remembered Disabled y.stop b) (leads_disabled y.state)
            (changed cleared w.row a) (λ d ne. row_demand cleared (λ look. refl) w.row a d));
        dones = (adds_state a w.sheet.table.blocks rs _ a y.state Disabled).dones;
      }
    where
      by : (o : Option ℕ) → (axis_of w a).active ≡ o → o ≡ None
      by None i = refl
      by (Some b) i = let under = (p.fits a).under b i in let calm = runs_no_errorstop (nth w.sheet.table.blocks b).command in cc

  tripped_fault : (code : ℕ) → 1 ≤ code → code ≤ 15 → (w.row.at a).fault ≤ 15 → lawful_cause (Drive ((changed (tripped code) w.row a).at a).fault) ≡ true
  tripped_fault code low high sound = grind arith

  pub keeps_trip : (code : ℕ) → 1 ≤ code → code ≤ 15 → (w.row.at a).fault ≤ 15 → Keeps n before rs (tripped_world w a code)
  unfolding tripped_world
  keeps_trip code low high sound = by (is_errorstop (axis_of w a).state) refl
    where
      row1 : Row
      row1 = changed (tripped code) w.row a

      w1 : World
      w1 = record { sheet = w.sheet; row = row1 }

      p1 : Part (λ d. d < w.row.count) n before rs w.sheet row1
      p1 = record { told = p.told; lines = p.lines; fits = p.fits; aims = λ d lt. aims_demand refl refl (row_demand (tripped code) (λ look. refl) w.row a d) (p.aims d lt) }

      by : (z : Bool) → is_errorstop (axis_of w a).state ≡ z → Keeps n before rs (failed_unless z w1 a)
      by true e = record { records = rs; part = p1; dones = λ b. refl }
      by false e =
          let g = failed_went w1 (opened a p1) ha (Drive (row1.at a).fault) (tripped_fault code low high sound) e in
          record {
            records = g.records;
            part = rw g.count (whole {a = a} g.part);
            dones = g.adds.dones;
          }

-- ---- a block that is not busy becomes another

module _ {C : ℕ → Type 0} {n : ℕ} {before : List ℕ} {rs : List Record} {s : Sheet} {row : Row} (p : Part C n before rs s row) (b : ℕ) (hb : b < 32) (idle : is_busy (nth s.table.blocks b).status ≡ false) where
  -- the block of an active command is another
  active_other : (d c : ℕ) (x : Block) → (axle s.table.axes d).active ≡ Some c → nth (set s.table.blocks b x) c ≡ nth s.table.blocks c
  active_other d c x e = get_or-set_other s.table.blocks b c x idle_block (not_busy {b = b} refl ((p.lines.each d).running c e) idle)

  pub replaced_part :
      {m : ℕ} {qs : List Record} {u : Sheet} (x : Block) → (x.status ≡ Active → ⊥) → u.table.blocks ≡ set s.table.blocks b x → u.table.axes ≡ s.table.axes →
      Told m before qs u → ((c : ℕ) (t : ℤ) → LastTarget c rs t → LastTarget c qs t) → Part C m before qs u row
  replaced_part {m} {qs} {u} x calm blocks axes told targets = record {
    told = told;
    lines = rw (axes, blocks) (record {
      size = p.lines.size;
      queues = p.lines.queues;
      each = λ d. line_replaced b x (omega (arith, p.told.good.size, hb)) idle calm (p.lines.each d);
    });
    fits = rw (axes, blocks) (λ d.
        let old = p.fits d in
        record {
          rests = old.rests;
          under = λ c e. rw (active_other d c x e) (old.under c e);
          alone = old.alone;
          stop = old.stop;
        });
    aims = rw (axes, blocks) (λ d ok.
        record {
          aimed = λ c e m.
              let old = (p.aims d ok).aimed c e (rw (active_other d c x e) at m) in
              record { target = old.target; last = targets c old.target old.last; way = old.way };
        });
  }

  pub accepted_part :
      (a : ℕ) (i : Instruction) (mode : BufferMode) → a < 8 → may_be (command_of i) mode ≡ true →
      Part C (1 + n) before (Accept a b (command_of i) mode ∷ rs) (accepted s a b i mode) row
  unfolding accepted
  accepted_part a i mode ha may =
      replaced_part (block_of a i mode) (λ e. grind arith) refl refl (told_accepted p.told a b i mode ha hb may idle) (λ c t last. LastTarget.before refl last)

  pub idled_part : Part C n before rs (idled s b) row
  idled_part =
      replaced_part idle_block (λ e. cc) refl refl
      (record { reads = p.told.reads; good = good_idled p.told.good b hb idle; chained = p.told.chained }) (λ c t last. last)
