-- What comes after a command that ended: the next one, standstill, or errorstop. Assumes nothing.
use Rattle.std.proofs.Common.{◌≡◌, ℕ, ◌+◌, ◌-◌, ◌<◌, true, false, eqb, List, get_or, ℤ, Some, None, Ok, Err, Option, refl, ◌∙◌, arith}
use Rattle.std.proofs.lemmas.List.{get_or-set_other}
use Rattle.std.proofs.lemmas.Int.{ints}
use Rattle.std.proofs.lemmas.Bool.{cond-false, ne_eqb}
use Rattle.segment.specs.declared.axis.AxisLook.{AxisLook}
use Rattle.segment.specs.Calls.{in_range, unpowered}
use Rattle.segment.specs.Row.{Row, Position, Sound, changed}
use Rattle.records.specs.declared.kinds.Record.{Record}
use Rattle.records.specs.declared.motion.AxisState.{AxisState}
use Rattle.records.specs.declared.motion.AxisState.TheVariants.{Stopping, DiscreteMotion, ContinuousMotion, ErrorStop}
use Rattle.records.specs.declared.motion.Command.{Command}
use Rattle.records.specs.declared.outcome.Cause.{Cause}
use Rattle.records.specs.declared.outcome.Cause.TheVariants.{RangeAtBegin}
use Rattle.records.specs.declared.outcome.Outcome.TheVariants.{Error}
use Rattle.records.specs.Numbers.{state_number}
use Rattle.words.specs.Words.{lawful_cause, in_reach}
use Rattle.moves.specs.declared.table.Axis.{Axis}
use Rattle.moves.specs.declared.table.Block.{Block}
use Rattle.moves.specs.declared.table.Status.TheVariants.{Active}
use Rattle.moves.specs.Axes.{with_state, rest_state, shifted, is_errorstop}
use Rattle.moves.specs.Blocks.{is_move, state_under, aim_of, block_aim}
use Rattle.turns.specs.declared.turn.Start.{Start}
use Rattle.turns.specs.Turns.{Next, next_of}
use Rattle.motion.specs.Settling.{handed_by, handed}
use Rattle.motion.specs.World.{World, axis_of, failed}
use Rattle.law.specs.Laws.States.{Arrow}
use Rattle.law.proofs.Closing.{Leads, Behind, HasTarget, enter_rest, entered_axes, entered_blocks, stop_remembered, quelled_part, quelled_adds, quelled_others, quelled_leaves, quell_records, started_part, started_adds, started_others, started_left, start_records}
use Rattle.law.proofs.Ends.{Adds, adds_state}
use Rattle.law.proofs.Lines.{nth, axle, Line, Leaves, leaves_all, is_stop}
use Rattle.law.proofs.Lines
use Rattle.law.proofs.Parts.{Open, Part, But, Rests}
use Rattle.law.proofs.Told.{Reachable, entry_records}

-- ---- rows

-- the axis shows the same but for its power
pub record Seen (old new : AxisLook) : Type 0 where
  pub demand : new.demand ≡ old.demand
  pub actual : new.actual ≡ old.actual
  pub fault : new.fault ≡ old.fault

pub seen_same : (look : AxisLook) → Seen look look
seen_same look = record { demand = refl; actual = refl; fault = refl }

pub seen_then : {x y z : AxisLook} → Seen x y → Seen y z → Seen x z
seen_then one two = record { demand = two.demand ∙ one.demand; actual = two.actual ∙ one.actual; fault = two.fault ∙ one.fault }

pub seen_unpowered : (row : Row) (a d : ℕ) → Seen (row.at d) ((changed unpowered row a).at d)
seen_unpowered row a d = grind arith

-- ---- a turn of the axis a that is over

pub record Went (a : ℕ) (C : ℕ → Type 0) (n : ℕ) (before : List ℕ) (rs : List Record) (w w' : World) : Type 0 where
  pub records : List Record
  pub part : Part (But a C) n before records w'.sheet w'.row
  pub adds : Adds a w.sheet.table.blocks rs records
  pub leaves : Leaves a w.sheet.table.blocks w'.sheet.table.blocks
  pub others : (d : ℕ) → (d ≡ a → ⊥) → axle w'.sheet.table.axes d ≡ axle w.sheet.table.axes d
  pub seen : (d : ℕ) → Seen (w.row.at d) (w'.row.at d)
  pub rows : (d : ℕ) → (d ≡ a → ⊥) → w'.row.at d ≡ w.row.at d
  pub count : w'.row.count ≡ w.row.count

pub leads_errorstop : (state : AxisState) → is_errorstop state ≡ false → Leads state ErrorStop
leads_errorstop state e i = Arrow.fails e

pub failed_went :
    {a : ℕ} {C : ℕ → Type 0} {n : ℕ} {before : List ℕ} {rs : List Record} (w : World) → Open a C n before rs w.sheet w.row → a < 8 →
    (cause : Cause) → lawful_cause cause ≡ true → is_errorstop (axis_of w a).state ≡ false → Went a C n before rs w (failed w a cause)
unfolding failed
failed_went {a} w turn ha cause lawful state = record {
  records = quell_records turn ha (Error cause) lawful refl ErrorStop;
  part = quelled_part turn ha (Error cause) lawful refl ErrorStop tt (leads_errorstop (axis_of w a).state state) (changed unpowered w.row a) (λ d ne. (seen_unpowered w.row a d).demand);
  adds = quelled_adds turn ha (Error cause) lawful refl ErrorStop;
  leaves = quelled_leaves turn ha (Error cause) lawful refl ErrorStop;
  others = quelled_others turn ha (Error cause) lawful refl ErrorStop;
  seen = λ d. seen_unpowered w.row a d;
  rows = λ d ne. cond-false (eqb d a) (unpowered (w.row.at d)) (w.row.at d) (ne_eqb d a ne);
  count = refl;
}

-- ---- positions in reach

pub reach_of : (p : ℤ) → Position p → in_reach p ≡ true
reach_of p h = grind (arith, ints)

pub reach_within : (look : AxisLook) (p : ℤ) → Sound look → in_range look p ≡ true → in_reach p ≡ true
reach_within look p sound e = grind (arith, ints)

-- ---- the next command

-- what a begin of the next command tells
record Begins (y : Axis) (x : Block) (look : AxisLook) (b : ℕ) (target : Option ℤ) : Type 0 where
  some : 0 < y.waiting
  block : b ≡ get_or y.queue 0 0
  has : HasTarget x.command target
  reach : Sound look → Reachable target

aim_in : (c : Option Command) (value : ℤ) (look : AxisLook) (t : ℤ) → aim_of c value look ≡ Ok (Some t) → in_range look t ≡ true
aim_in c value look t e = grind arith

-- a command without a target is no move
pub free_no_move : (c : Option Command) (value : ℤ) (look : AxisLook) → aim_of c value look ≡ Ok None → is_move c ≡ true → ⊥
free_no_move c value look e m = grind arith

-- the target of a block that begins
pub record TargetOf (x : Block) (look : AxisLook) (target : Option ℤ) : Type 0 where
  pub has : HasTarget x.command target
  pub reach : Sound look → Reachable target

pub target_free : (x : Block) (look : AxisLook) → block_aim x look ≡ Ok None → TargetOf x look None
target_free x look e = record { has = λ m. absurd (free_no_move x.command x.value look e m); reach = λ _. tt }

pub target_at : (x : Block) (look : AxisLook) (t : ℤ) → block_aim x look ≡ Ok (Some t) → TargetOf x look (Some t)
target_at x look t e = record { has = λ m. (t, refl); reach = λ sound. reach_within look t sound (aim_in x.command x.value look t e) }

targeted : (o : Option ℤ) → (o ≡ None → ⊥) → (t : ℤ) × (o ≡ Some t)
targeted None never = absurd (never refl)
targeted (Some t) never = (t, refl)

next_begin : (y : Axis) (x : Block) (look : AxisLook) (start : Start ℕ) → next_of y x look ≡ Ok (Some start) → Begins y x look start.block start.target
unfolding next_of
next_begin y x look start e = record {
  some = grind arith;
  block = grind arith;
  has = λ m. targeted start.target (λ none. grind (arith, free_no_move));
  reach = λ sound. grind (arith, reach_within, aim_in);
}

next_nothing : (y : Axis) (x : Block) (look : AxisLook) → next_of y x look ≡ Ok None → y.waiting ≡ 0
unfolding next_of
next_nothing y x look e = grind arith

-- ---- states

-- the state of an axis whose command ended, and whether another waits
pub data LeftIn : AxisState → ℕ → Type 0 where
  moving : (waiting : ℕ) → LeftIn DiscreteMotion waiting
  stopping : LeftIn Stopping 0
  running : (waiting : ℕ) → 0 < waiting → LeftIn ContinuousMotion waiting

leads_rest : {state : AxisState} {waiting : ℕ} → LeftIn state waiting → waiting ≡ 0 → Leads state (rest_state state)
leads_rest left z i = grind (arith, Arrow.rests)

rests_rest : (state : AxisState) → Rests (rest_state state)
rests_rest state = grind arith

not_errorstop : {state : AxisState} {waiting : ℕ} → LeftIn state waiting → is_errorstop state ≡ false
not_errorstop left = grind arith

no_stop : (c : Option Command) → is_stop c ≡ false → state_under c ≡ Stopping → ⊥
no_stop c e i = grind arith

leads_next : {state : AxisState} {waiting : ℕ} (c : Option Command) → LeftIn state waiting → 0 < waiting → Leads state (state_under c)
leads_next c (moving _) h i = grind (arith, Arrow.runs_on, Arrow.stops_moving)
leads_next c stopping h i = absurd (omega (arith, h))
leads_next c (running _ k) h i = grind (arith, Arrow.moves_on, Arrow.stops_running)

-- ---- the queue without its first

shifted_at : (queue : List ℕ) (k : ℕ) → k < 3 → get_or (shifted queue) k 0 ≡ get_or queue (k + 1) 0
shifted_at queue k h = grind arith

behind_first : {bs : List Block} {a : ℕ} {y : Axis} → Line bs a y → 0 < y.waiting → Behind bs a (get_or y.queue 0 0) (shifted y.queue) (y.waiting - 1)
behind_first {bs} {a} {y} line some = record {
  long = refl;
  few = omega (arith, line.few);
  waits = λ k h. rw (moved k h) (line.waiting (k + 1) (omega (arith, h)));
  gentle = λ k h. rw (moved k h) (line.gentle (k + 1) (omega (arith, h)));
  others = λ k h e. line.apart 0 (k + 1) (omega arith) (omega (arith, h)) (cc (moved k h));
  apart = λ j k i h e. line.apart (j + 1) (k + 1) (omega (arith, i)) (omega (arith, h)) (cc (moved j (omega (arith, i, h)), moved k h));
}
  where
    moved : (k : ℕ) → k < y.waiting - 1 → get_or (shifted y.queue) k 0 ≡ get_or y.queue (k + 1) 0
    moved k h = shifted_at y.queue k (omega (arith, h, line.few))

-- ---- the hand-over

pub handed_went :
    {a : ℕ} {C : ℕ → Type 0} {n : ℕ} {before : List ℕ} {rs : List Record} (w : World) → Open a C n before rs w.sheet w.row → a < 8 →
    Sound (w.row.at a) → (axis_of w a).active ≡ None → LeftIn (axis_of w a).state (axis_of w a).waiting →
    Went a C n before rs w (handed w a)
unfolding handed
handed_went {a} {C} {n} {before} {rs} w turn ha sound none left = by (next_of y x look) refl
  where
    y : Axis
    y = axis_of w a

    bs : List Block
    bs = w.sheet.table.blocks

    look : AxisLook
    look = w.row.at a

    x : Block
    x = nth bs (get_or y.queue 0 0)

    line : Line bs a y
    line = turn.lines.each a

    idle : (c : ℕ) → Lines.At bs c a Active → ⊥
    idle c at = let e = line.only c at in cc

    begins : (b : ℕ) (target : Option ℤ) → Begins y x look b target → Went a C n before rs w (handed_by (Ok (Some (record { block = b; target = target }))) w a)
    begins b target g = rw g.block
        (let at = line.waiting 0 g.some in
        let behind = behind_first line g.some in
        let first = get_or y.queue 0 0 in
        record {
          records = start_records turn ha idle first at (shifted y.queue) (y.waiting - 1) behind target;
          part = started_part turn ha idle first at (shifted y.queue) (y.waiting - 1) behind target look.demand (g.reach sound) g.has refl
              (λ e. absurd (no_stop x.command (line.gentle 0 g.some) e)) (leads_next x.command left g.some);
          adds = started_adds turn ha idle first at (shifted y.queue) (y.waiting - 1) behind target;
          leaves = started_left turn ha idle first at (shifted y.queue) (y.waiting - 1) behind target look.demand;
          others = started_others turn ha idle first at (shifted y.queue) (y.waiting - 1) behind target look.demand;
          seen = λ d. seen_same (w.row.at d);
          rows = λ d ne. refl;
          count = refl;
        })

    by : (next : Next) → next_of y x look ≡ next → Went a C n before rs w (handed_by next w a)
    by (Ok None) e =
        let z : Axis = with_state y (rest_state y.state) in
        record {
          records = entry_records a y.state z.state rs;
          part = enter_rest turn ha z none none refl refl (rests_rest y.state) (λ b. stop_remembered (rest_state y.state) y.stop b)
              (leads_rest left (next_nothing y x look e)) w.row (λ d ne. refl);
          adds = adds_state a bs rs (eqb (state_number y.state) (state_number z.state)) a y.state z.state;
          leaves = rw (entered_blocks w.sheet a z) (leaves_all a bs);
          others = λ d ne. rw (entered_axes w.sheet a z) (get_or-set_other w.sheet.table.axes a d z _ ne);
          seen = λ d. seen_same (w.row.at d);
          rows = λ d ne. refl;
          count = refl;
        }
    by (Ok (Some start)) e = begins start.block start.target (next_begin y x look start e)
    by (Err out) e = failed_went w turn ha RangeAtBegin refl (not_errorstop left)
