-- The turn of an axis ends: it rests in a state, or a command begins. Assumes nothing.
use Rattle.std.proofs.Common.{◌≡◌, ℕ, ◌<◌, ◌≤◌, Bool, true, false, eqb, List, length, get_or, set, ℤ, Some, None, Option, sym, refl, ap, ◌∙◌, subst, inl, inr, arith}
use Rattle.std.proofs.lemmas.List.{get_or-set_same, get_or-set_other}
use Rattle.std.proofs.lemmas.Bool.{cases_eq}
use Rattle.segment.specs.Row.{Row}
use Rattle.records.specs.declared.kinds.Record.{Record}
use Rattle.records.specs.declared.motion.AxisState.{AxisState}
use Rattle.records.specs.declared.motion.AxisState.TheVariants.{Stopping}
use Rattle.records.specs.declared.motion.Command.{Command}
use Rattle.records.specs.declared.outcome.Outcome.{Outcome}
use Rattle.records.specs.Numbers.{state_number}
use Rattle.words.specs.Words.{lawful_outcome}
use Rattle.moves.specs.declared.table.Axis.{Axis}
use Rattle.moves.specs.declared.table.Block.{Block}
use Rattle.moves.specs.declared.table.Status.TheVariants.{Waiting, Active}
use Rattle.moves.specs.Axes.{stop_in, halted_in, under_command}
use Rattle.moves.specs.Blocks.{is_move, state_under, stop_under, distance_to, with_status}
use Rattle.moves.specs.Moves.{entered, begun, started, quelled, emptied}
use Rattle.moves.specs.Sheet.{Sheet, idle_block}
use Rattle.law.specs.Laws.Accounts.{is_done}
use Rattle.law.specs.Laws.States.{Arrow}
use Rattle.law.specs.Readings.{LastTarget}
use Rattle.law.proofs.Ends.{Adds, adds_then, adds_begin, adds_state, emptied_open, empty_records}
use Rattle.law.proofs.Lines.{nth, axle, At, Line, Leaves, at_same, leaves_all, leaves_status, line_same, is_stop}
use Rattle.law.proofs.Parts.{Rests, Open, Part, But, close_on}
use Rattle.law.proofs.Told.{told_entered, told_begun, begin_records, state_records, entry_records, Reachable}

-- ---- an axis enters a state

pub entered_axes : (s : Sheet) (a : ℕ) (y : Axis) → (entered s a y).table.axes ≡ set s.table.axes a y
unfolding entered
entered_axes s a y = grind arith

pub entered_blocks : (s : Sheet) (a : ℕ) (y : Axis) → (entered s a y).table.blocks ≡ s.table.blocks
unfolding entered
entered_blocks s a y = grind arith

pub stop_remembered : (state : AxisState) (stop : Option ℕ) (b : ℕ) → stop_in state stop ≡ Some b → state ≡ Stopping
stop_remembered state stop b e = grind arith

-- an arrow is asked for only where the states differ
abbrev pub Leads : AxisState → AxisState → Type 0
Leads old new = eqb (state_number old) (state_number new) ≡ false → Arrow old new

-- an axis without an active command enters a state
pub enter_rest :
    {a : ℕ} {C : ℕ → Type 0} {n : ℕ} {before : List ℕ} {rs : List Record} {s : Sheet} {row : Row} → Open a C n before rs s row → a < 8 →
    (y : Axis) → y.active ≡ None → (axle s.table.axes a).active ≡ None → y.queue ≡ (axle s.table.axes a).queue →
    y.waiting ≡ (axle s.table.axes a).waiting → Rests y.state → ((b : ℕ) → y.stop ≡ Some b → y.state ≡ Stopping) →
    Leads (axle s.table.axes a).state y.state →
    (after : Row) → ((d : ℕ) → (d ≡ a → ⊥) → (after.at d).demand ≡ (row.at d).demand) →
    Part (But a C) n before (entry_records a (axle s.table.axes a).state y.state rs) (entered s a y) after
enter_rest {a} {C} {n} {before} {rs} {s} {row} turn ha y none was queue waiting rests stop leads after same =
    let bs = s.table.blocks in
    let blocks = entered_blocks s a y in
    close_on turn (told_entered turn.told a y ha leads) y (entered_axes s a y) ha
    (rw blocks (leaves_all a bs))
    (rw queue (turn.lines.queues a ha))
    (rw blocks (line_same y (cc) queue waiting (turn.lines.each a)))
    (adds_state a bs rs (eqb (state_number (axle s.table.axes a).state) (state_number y.state)) a (axle s.table.axes a).state y.state).targets
    (record { rests = λ e. rests; under = λ b e. cc; alone = λ b e. cc; stop = stop })
    after same (record { aimed = λ b e. cc })

-- ---- all commands end, and the axis halts

module _ {a : ℕ} {C : ℕ → Type 0} {n : ℕ} {before : List ℕ} {rs : List Record} {s : Sheet} {row : Row} (turn : Open a C n before rs s row) (ha : a < 8) (o : Outcome) (lawful : lawful_outcome o ≡ true) (undone : is_done o ≡ false) where
  -- the records that it adds
  abbrev pub quell_records : AxisState → List Record
  quell_records state = entry_records a (axle (emptied s a o).table.axes a).state state (empty_records a (axle s.table.axes a) o rs)

  pub quelled_part :
      (state : AxisState) → Rests state → Leads (axle s.table.axes a).state state →
      (after : Row) → ((d : ℕ) → (d ≡ a → ⊥) → (after.at d).demand ≡ (row.at d).demand) →
      Part (But a C) n before (quell_records state) (quelled s a o state) after
  unfolding quelled
  quelled_part state rests leads after same =
      let e = emptied_open turn ha o lawful undone in
      let y = axle (emptied s a o).table.axes a in
      enter_rest e.still ha (halted_in state y)
      (ap (λ (z : Axis). z.active) e.own) (ap (λ (z : Axis). z.active) e.own) refl refl rests
      (λ b. stop_remembered state _ b)
      (rw e.own leads)
      after same

  pub quelled_adds : (state : AxisState) → Adds a s.table.blocks rs (quell_records state)
  quelled_adds state =
      let e = emptied_open turn ha o lawful undone in
      adds_then e.leaves e.adds (adds_state a (emptied s a o).table.blocks (empty_records a (axle s.table.axes a) o rs) _ a (axle (emptied s a o).table.axes a).state state)

  pub quelled_others : (state : AxisState) (d : ℕ) → (d ≡ a → ⊥) → axle (quelled s a o state).table.axes d ≡ axle s.table.axes d
  unfolding quelled
  quelled_others state d ne =
      rw (entered_axes (emptied s a o) a) (get_or-set_other (emptied s a o).table.axes a d _ _ ne ∙ (emptied_open turn ha o lawful undone).others d ne)

  pub quelled_leaves : (state : AxisState) → Leaves a s.table.blocks (quelled s a o state).table.blocks
  unfolding quelled
  quelled_leaves state = rw (entered_blocks (emptied s a o) a) (emptied_open turn ha o lawful undone).leaves

-- ---- a command begins

stop_alone : (c : Option Command) (b : ℕ) → state_under c ≡ Stopping → stop_under c b ≡ Some b
stop_alone c b e = grind arith

stop_stops : (c : Option Command) (b d : ℕ) → stop_under c b ≡ Some d → state_under c ≡ Stopping
stop_stops c b d e = grind arith

-- those that wait behind a command that begins
pub record Behind (bs : List Block) (a b : ℕ) (queue : List ℕ) (waiting : ℕ) : Type 0 where
  pub long : length queue ≡ 4
  pub few : waiting ≤ 4
  pub waits : (k : ℕ) → k < waiting → At bs (get_or queue k 0) a Waiting
  pub gentle : (k : ℕ) → k < waiting → is_stop (nth bs (get_or queue k 0)).command ≡ false
  pub others : (k : ℕ) → k < waiting → get_or queue k 0 ≡ b → ⊥
  pub apart : (j k : ℕ) → j < k → k < waiting → get_or queue j 0 ≡ get_or queue k 0 → ⊥

-- a move that begins has a target
abbrev pub HasTarget : Option Command → Option ℤ → Type 0
HasTarget c target = is_move c ≡ true → (t : ℤ) × (target ≡ Some t)

-- the target behind a begin is its last one, with a state word behind it or not
last_begun : (a b : ℕ) (t : ℤ) (rs : List Record) (same : Bool) (old new : AxisState) → LastTarget b (state_records same a old new (begin_records a b (Some t) rs)) t
last_begun a b t rs true old new = LastTarget.here refl
last_begun a b t rs false old new = LastTarget.before refl (LastTarget.here refl)

module _ {a : ℕ} {C : ℕ → Type 0} {n : ℕ} {before : List ℕ} {rs : List Record} {s : Sheet} {row : Row} (turn : Open a C n before rs s row) (ha : a < 8) (none : (c : ℕ) → At s.table.blocks c a Active → ⊥)
    (b : ℕ) (at : At s.table.blocks b a Waiting) (queue : List ℕ) (waiting : ℕ) (behind : Behind s.table.blocks a b queue waiting) where
  x : Block
  x = with_status (nth s.table.blocks b) Active

  cs : List Block
  unfolding x
  cs = set s.table.blocks b x

  here : nth cs b ≡ x
  unfolding cs x
  here = get_or-set_same s.table.blocks b _ idle_block (omega (arith, turn.told.good.size, at.within))

  there : (c : ℕ) → (c ≡ b → ⊥) → nth cs c ≡ nth s.table.blocks c
  unfolding cs x
  there c ne = get_or-set_other s.table.blocks b c _ idle_block ne

  begun_line : (y : Axis) → y.active ≡ Some b → y.queue ≡ queue → y.waiting ≡ waiting → Line cs a y
  unfolding x
  begun_line y e q w = line_same {y = record { state = y.state; velocity = y.velocity; distance_to_go = y.distance_to_go; enable_requested = y.enable_requested; active = Some b; queue = queue; waiting = waiting; stop = y.stop }} y e q w (record {
    running = λ c i.
        let same : c ≡ b = cc in rw same (record { within = at.within; stands = cc here; axis = cc here });
    waiting = λ k h. at_same cs (there _ (behind.others k h)) (behind.waits k h);
    gentle = λ k h. rw (there _ (behind.others k h)) (behind.gentle k h);
    apart = behind.apart;
    only = λ c z. elim (cases_eq c b) [
      | inl i ↦ ap Some (sym i)
      | inr ne ↦ absurd (none c (at_same s.table.blocks (sym (there c ne)) z))
    ];
    few = behind.few;
  })

  -- the records that it adds
  abbrev pub start_records : Option ℤ → List Record
  start_records target = entry_records a (axle s.table.axes a).state (state_under (nth s.table.blocks b).command) (begin_records a b target rs)

  begun_blocks : (target : Option ℤ) → (begun s a b target).table.blocks ≡ cs
  unfolding begun cs x
  begun_blocks None = refl
  begun_blocks (Some t) = refl

  begun_axes : (target : Option ℤ) → (begun s a b target).table.axes ≡ s.table.axes
  unfolding begun
  begun_axes None = refl
  begun_axes (Some t) = refl

  started_leaves : Leaves a s.table.blocks cs
  unfolding cs x
  started_leaves = leaves_status a b s.table.blocks Active (λ e. cc) (omega (arith, turn.told.good.size, at.within)) at.axis

  pub started_adds : (target : Option ℤ) → Adds a s.table.blocks rs (start_records target)
  started_adds target = adds_then (leaves_all a s.table.blocks) (adds_begin a s.table.blocks rs b target at.axis at.stands) (adds_state a s.table.blocks (begin_records a b target rs) _ a _ _)

  pub started_others : (target : Option ℤ) (demand : ℤ) (d : ℕ) → (d ≡ a → ⊥) → axle (started s a b target demand queue waiting).table.axes d ≡ axle s.table.axes d
  unfolding started
  started_others target demand d ne =
      rw (entered_axes (begun s a b target) a, begun_axes target) (get_or-set_other s.table.axes a d _ _ ne)

  pub started_left : (target : Option ℤ) (demand : ℤ) → Leaves a s.table.blocks (started s a b target demand queue waiting).table.blocks
  unfolding started
  started_left target demand = rw (entered_blocks (begun s a b target) a, begun_blocks target) started_leaves

  pub started_part :
      (target : Option ℤ) (demand : ℤ) → Reachable target → HasTarget (nth s.table.blocks b).command target →
      (row.at a).demand ≡ demand → (state_under (nth s.table.blocks b).command ≡ Stopping → waiting ≡ 0) →
      Leads (axle s.table.axes a).state (state_under (nth s.table.blocks b).command) →
      Part (But a C) n before (start_records target) (started s a b target demand queue waiting) row
  unfolding started x
  started_part target demand reach has same alone leads =
      let c = (nth s.table.blocks b).command in
      let y = under_command (axle s.table.axes a) b c (distance_to target demand) queue waiting in
      let u = begun s a b target in
      let first = told_begun turn.told a b target ha at.within reach at.axis at.stands in
      let was = ap (λ axs. (axle axs a).state) (begun_axes target) in
      let whole = told_entered first a y ha (rw was leads) in
      let blocks : (entered u a y).table.blocks ≡ cs = entered_blocks u a y ∙ begun_blocks target in
      let same_command : (nth cs b).command ≡ c = ap (λ (z : Block). z.command) here in
      close_on turn (rw was at whole) y
      (rw (entered_axes u a y, begun_axes target)) ha
      (rw blocks started_leaves) behind.long
      (rw blocks (begun_line y refl refl refl))
      (started_adds target).targets
      (rw blocks (record {
        rests = λ e. cc;
        under = λ d e. cc;
        alone = λ d e f. let i = stop_alone c b f in (alone f, cc);
        stop = λ d e. stop_stops c b d e;
      }))
      row (λ d ne. refl)
      (rw blocks (record {
        aimed = λ d e move.
            let i : b ≡ d = cc in
            let t = has cc in
            record {
              target = t.0;
              last = subst (λ k. LastTarget k (start_records target) t.0) i (rw t.1 (last_begun a b t.0 rs _ _ _));
              way = rw (t.1, same);
            };
      }))
