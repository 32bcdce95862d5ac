-- Execute and release keep the law. Assumes nothing.
use Rattle.std.proofs.Common.{◌≡◌, ℕ, ◌+◌, ◌<◌, ◌≤◌, Bool, true, false, List, [], ◌∷◌, length, get_or, Some, None, Ok, Err, Option, sym, refl, ap, ◌∙◌, inl, inr, zero-add, arith, length-set}
use Rattle.std.proofs.lemmas.List.{get_or-set_same, get_or-set_other, get_or_past}
use Rattle.std.proofs.lemmas.Bool.{cases_eq, cases_lt}
use Rattle.segment.specs.declared.axis.AxisLook.{AxisLook}
use Rattle.segment.specs.Row.{Sound}
use Rattle.records.specs.declared.kinds.Record.{Record}
use Rattle.records.specs.declared.kinds.Record.TheVariants.{Accept}
use Rattle.records.specs.declared.motion.AxisState.{AxisState}
use Rattle.records.specs.declared.motion.AxisState.TheVariants.{Standstill, Stopping}
use Rattle.records.specs.declared.motion.BufferMode.{BufferMode}
use Rattle.records.specs.declared.motion.Command.{Command}
use Rattle.records.specs.declared.outcome.Outcome.TheVariants.{Aborted}
use Rattle.words.specs.Words.{may_be}
use Rattle.moves.specs.declared.aim.OutOfRange.{OutOfRange}
use Rattle.moves.specs.declared.instruction.Instruction.{Instruction}
use Rattle.moves.specs.declared.table.Axis.{Axis}
use Rattle.moves.specs.declared.table.Status.TheVariants.{Waiting, Active}
use Rattle.moves.specs.Axes.{with_state, joined, is_block, takes_commands}
use Rattle.moves.specs.Blocks.{Aim, block_of, command_of, block_aim, is_busy, state_under}
use Rattle.moves.specs.Moves.{accepted, emptied, kept, started}
use Rattle.moves.specs.Sheet.{Sheet, idle_block, disabled_axis}
use Rattle.motion.specs.World.{World, on_sheet, axis_of}
use Rattle.sequencer.specs.Calls.{target_of, taken_on, executed, idled, freed, released}
use Rattle.sequencer.specs.Refusals.{waits, is_outside, is_lawful}
use Rattle.law.specs.Laws.Arrivals.{done_ends}
use Rattle.law.specs.Laws.States.{Arrow}
use Rattle.law.proofs.Keeping.{Keeps, whole, accepted_part, idled_part}
use Rattle.law.proofs.Closing.{Leads, Behind, enter_rest, stop_remembered, started_part, started_adds, start_records}
use Rattle.law.proofs.Ends.{adds_state, emptied_open}
use Rattle.law.proofs.Handing.{TargetOf, target_free, target_at}
use Rattle.law.proofs.Lines
use Rattle.law.proofs.Lines.{nth, axle, Line, each_set, leaves_all, at_same, not_busy, is_stop}
use Rattle.law.proofs.Parts.{Part, opened, close_on}
use Rattle.law.proofs.Told.{told_kept, entry_records}

-- ---- states that take commands

leads_begin : (state : AxisState) (c : Option Command) → takes_commands state ≡ true → Leads state (state_under c)
leads_begin state c e i = grind (arith, Arrow.moves, Arrow.runs, Arrow.stops, Arrow.runs_on, Arrow.moves_on, Arrow.stops_moving, Arrow.stops_running)

-- a state that takes commands is not stopping
not_stopping : (state : AxisState) → takes_commands state ≡ true → state ≡ Stopping → ⊥
not_stopping state e i = grind arith

-- ---- instructions

-- a lawful instruction may be in its mode
lawful_mode : (i : Instruction) (mode : BufferMode) → is_lawful i mode ≡ true → may_be (command_of i) mode ≡ true
lawful_mode i mode e = grind arith

-- one that waits is no stop
waits_gently : (i : Instruction) (mode : BufferMode) (a : ℕ) (y : Axis) → is_lawful i mode ≡ true → waits mode y ≡ true → is_stop (block_of a i mode).command ≡ false
waits_gently i mode a y e w = grind arith

of_axis : (i : Instruction) (mode : BufferMode) (a : ℕ) → (block_of a i mode).axis ≡ a
of_axis i mode a = grind arith

of_status : (i : Instruction) (mode : BufferMode) (a : ℕ) → (block_of a i mode).status ≡ Waiting
of_status i mode a = grind arith

-- one that begins at once is not out of range
begins_inside : (i : Instruction) (mode : BufferMode) (a : ℕ) (look : AxisLook) → is_outside i false look ≡ false → (out : OutOfRange) → block_aim (block_of a i mode) look ≡ Err out → ⊥
begins_inside i mode a look e out f = grind arith

begin_target : (i : Instruction) (mode : BufferMode) (a : ℕ) (look : AxisLook) → is_outside i false look ≡ false → TargetOf (block_of a i mode) look (target_of (block_aim (block_of a i mode) look))
begin_target i mode a look e = by (block_aim (block_of a i mode) look) refl
  where
    by : (z : Aim) → block_aim (block_of a i mode) look ≡ z → TargetOf (block_of a i mode) look (target_of z)
    by (Ok None) f = target_free (block_of a i mode) look f
    by (Ok (Some t)) f = target_at (block_of a i mode) look t f
    by (Err out) f = absurd (begins_inside i mode a look e out f)

-- ---- execute

-- what an execute that is not refused has passed
pub record Passed (w : World) (b a : ℕ) (i : Instruction) (mode : BufferMode) : Type 0 where
  pub block : b < 32
  pub idle : is_busy (nth w.sheet.table.blocks b).status ≡ false
  pub axis : a < w.row.count
  pub lawful : is_lawful i mode ≡ true
  pub state : takes_commands (axis_of w a).state ≡ true
  pub queue : waits mode (axis_of w a) ≡ true → (axis_of w a).waiting < 4
  pub range : is_outside i (waits mode (axis_of w a)) (w.row.at a) ≡ false

module _ {n : ℕ} {before : List ℕ} {rs : List Record} (w : World) (p : Part (λ d. d < w.row.count) n before rs w.sheet w.row) (few : w.row.count ≤ 8)
    (b a : ℕ) (i : Instruction) (mode : BufferMode) (ok : Passed w b a i mode) (sound : Sound (w.row.at a)) where
  s : Sheet
  s = accepted w.sheet a b i mode

  qs : List Record
  qs = Accept a b (command_of i) mode ∷ rs

  ha : a < 8
  ha = omega (arith, ok.axis)

  part : Part (λ d. d < w.row.count) (1 + n) before qs s w.row
  unfolding s qs
  part = accepted_part p b ok.block ok.idle a i mode ha (lawful_mode i mode ok.lawful)

  here : nth s.table.blocks b ≡ block_of a i mode
  unfolding s accepted
  here = get_or-set_same w.sheet.table.blocks b (block_of a i mode) idle_block (omega (arith, p.told.good.size, ok.block))

  axes : s.table.axes ≡ w.sheet.table.axes
  unfolding s accepted
  axes = refl

  at : Lines.At s.table.blocks b a Waiting
  at = record {
    within = ok.block;
    stands = rw here (of_status i mode a);
    axis = rw here (of_axis i mode a);
  }

  same_axle : (d : ℕ) → axle s.table.axes d ≡ axis_of w d
  same_axle d = ap (λ axs. axle axs d) axes

  -- the block is not on the line of the axis yet
  not_queued : (k : ℕ) → k < (axle s.table.axes a).waiting → get_or (axle s.table.axes a).queue k 0 ≡ b → ⊥
  not_queued k h e =
      let old = (p.lines.each a).waiting k (rw (same_axle a) at h) in
      not_busy {b = b} refl old ok.idle (rw (same_axle a) at e)

  dones_accept : (c : ℕ) → done_ends c qs ≡ done_ends c rs
  unfolding qs
  dones_accept c = zero-add _

  -- it waits behind the others
  joins : waits mode (axis_of w a) ≡ true → Keeps (1 + n) before rs (on_sheet w (kept s a (joined (axle s.table.axes a) b)))
  joins waiting =
      let y = axle s.table.axes a in
      let z = joined y b in
      let line = part.lines.each a in
      let room : y.waiting < 4 = rw (same_axle a) (ok.queue waiting) in
      let long : y.waiting < length y.queue = omega (arith, room, part.lines.queues a ha) in
      let last = get_or-set_same y.queue y.waiting b 0 long in
      let moving : y.state ≡ Stopping → ⊥ = not_stopping y.state (rw (same_axle a) ok.state) in
      let part' = close_on (opened a part) (told_kept part.told a z ha refl) z refl ha (leaves_all a s.table.blocks)
      (length-set y.queue y.waiting b ∙ part.lines.queues a ha)
      (record {
        running = line.running;
        waiting = each_set (λ k m. k < y.waiting + 1 → Lines.At s.table.blocks m a Waiting) y.queue y.waiting b 0 long (λ h. at) (λ k ne h. line.waiting k (omega (arith, h, ne)));
        gentle = each_set (λ k m. k < y.waiting + 1 → is_stop (nth s.table.blocks m).command ≡ false) y.queue y.waiting b 0 long
            (λ h. rw here (waits_gently i mode a (axis_of w a) ok.lawful waiting)) (λ k ne h. line.gentle k (omega (arith, h, ne)));
        apart = λ j k lt h q.
            let first = get_or-set_other y.queue y.waiting j b 0 (omega (arith, lt, h)) in
            elim (cases_eq k y.waiting) [
              | inl e ↦ not_queued j (omega (arith, lt, e)) (cc)
              | inr ne ↦ let other = get_or-set_other y.queue y.waiting k b 0 ne in line.apart j k lt (omega (arith, h, ne)) (cc)
            ];
        only = line.only;
        few = omega (arith, room);
      })
      (λ c ne t last. last)
      (record { rests = (part.fits a).rests; under = (part.fits a).under; alone = λ c e f. absurd (moving f); stop = (part.fits a).stop })
      w.row (λ d ne. refl)
      (record { aimed = λ c e m. (part.aims a ok.axis).aimed c e m }) in
      record {
        records = qs;
        part = whole {a = a} part';
        dones = dones_accept;
      }

  -- or begins at once, in the place of all of them
  begins : is_outside i false (w.row.at a) ≡ false → Keeps (1 + n) before rs
      (on_sheet w (started (emptied s a Aborted) a b (target_of (block_aim (block_of a i mode) (w.row.at a))) (w.row.at a).demand (axle s.table.axes a).queue 0))
  begins range =
      let y = axle s.table.axes a in
      let g = emptied_open (opened a part) ha Aborted refl refl in
      let u = emptied s a Aborted in
      let line = part.lines.each a in
      let same = g.rest b (λ e. Lines.apart_by (line.running b e) at refl) (λ k h e. not_queued k h (sym e)) in
      let now = at_same u.table.blocks same at in
      let is_block_of : nth u.table.blocks b ≡ block_of a i mode = same ∙ here in
      let target = target_of (block_aim (block_of a i mode) (w.row.at a)) in
      let aimed = begin_target i mode a (w.row.at a) range in
      let behind : Behind u.table.blocks a b y.queue 0 = record {
        long = part.lines.queues a ha;
        few = omega arith;
        waits = λ k h. absurd (omega arith);
        gentle = λ k h. absurd (omega arith);
        others = λ k h. absurd (omega arith);
        apart = λ j k l h. absurd (omega arith);
      } in
      let none : (c : ℕ) → Lines.At u.table.blocks c a Active → ⊥ = λ c z. g.none z in
      let state : takes_commands (axle u.table.axes a).state ≡ true = rw (g.own, same_axle a) ok.state in
      let part' = started_part g.still ha none b now y.queue 0 behind target (w.row.at a).demand (aimed.reach sound)
      (rw is_block_of aimed.has) refl (λ e. refl)
      (leads_begin (axle u.table.axes a).state (nth u.table.blocks b).command state) in
      record {
        records = start_records g.still ha none b now y.queue 0 behind target;
        part = whole {a = a} part';
        dones = λ c. (started_adds g.still ha none b now y.queue 0 behind target).dones c ∙ g.adds.dones c ∙ dones_accept c;
      }

  pub keeps_execute : Keeps (1 + n) before rs (executed w b a i mode)
  unfolding executed s
  keeps_execute = by (waits mode (axis_of w a)) refl ok.range
    where
      by : (z : Bool) → waits mode (axis_of w a) ≡ z → is_outside i z (w.row.at a) ≡ false →
          Keeps (1 + n) before rs (taken_on z (on_sheet w s) a b (block_aim (block_of a i mode) (w.row.at a)))
      by true e r = joins e
      by false e r = begins r

-- ---- release

-- the block there is, if it is b
block_is : (o : Option ℕ) (b : ℕ) → is_block o b ≡ true → o ≡ Some b
block_is o b e = grind arith

pub keeps_release :
    {n : ℕ} {before : List ℕ} {rs : List Record} (w : World) → Part (λ d. d < w.row.count) n before rs w.sheet w.row →
    (b : ℕ) → b < 32 → is_busy (nth w.sheet.table.blocks b).status ≡ false → Keeps n before rs (released w b)
unfolding released
keeps_release {n} {before} {rs} w p b hb idle = by (is_block y.stop b) refl
  where
    a : ℕ
    a = (nth w.sheet.table.blocks b).axis

    y : Axis
    y = axis_of w a

    q : Part (λ d. d < w.row.count) n before rs (idled w.sheet b) w.row
    q = idled_part p b hb idle

    -- only an axis that there is remembers a stop
    there : y.stop ≡ Some b → a < 8
    there e = elim (cases_lt a 8) [
      | inl h ↦ h
      | inr h ↦ let past = get_or_past w.sheet.table.axes a (disabled_axis []) (omega (arith, h, p.lines.size)) in cc
    ]

    none : y.stop ≡ Some b → (o : Option ℕ) → y.active ≡ o → o ≡ None
    none e None i = refl
    none e (Some c) i =
        let own = ((p.fits a).alone c i ((p.fits a).stop b e)).1 in
        absurd (not_busy {b = b} refl ((p.lines.each a).running c i) idle (cc))

    by : (z : Bool) → is_block y.stop b ≡ z → Keeps n before rs (on_sheet w (freed z (idled w.sheet b) a))
    by false e = record { records = rs; part = q; dones = λ c. refl }
    by true e =
        let stop = block_is y.stop b e in
        let still = none stop y.active refl in
        let z = with_state y Standstill in
        let over = enter_rest (opened a q) (there stop) z still still refl refl tt (λ c. stop_remembered Standstill y.stop c)
        (rw ((p.fits a).stop b stop) (λ i. Arrow.frees)) w.row (λ d ne. refl) in
        record {
          records = entry_records a y.state Standstill rs;
          part = whole {a = a} over;
          dones = (adds_state a w.sheet.table.blocks rs _ a y.state Standstill).dones;
        }
