-- An axis takes its turn after the segment's cycle. Assumes nothing.
use Rattle.std.proofs.Common.{◌≡◌, ℕ, ◌<◌, Bool, true, false, cond, eqb, List, ℤ, pos, Some, None, Option, sym, refl, ap, ◌∙◌, subst, inl, inr, arith}
use Rattle.std.proofs.lemmas.List.{get_or-set_other}
use Rattle.std.proofs.lemmas.Int.{ints}
use Rattle.std.proofs.lemmas.Bool.{cases_eq}
use Rattle.segment.specs.declared.axis.AxisLook.{AxisLook}
use Rattle.segment.specs.Row.{Sound}
use Rattle.records.specs.declared.kinds.Record.{Record}
use Rattle.records.specs.declared.kinds.Record.TheVariants.{End}
use Rattle.records.specs.declared.motion.AxisState.{AxisState}
use Rattle.records.specs.declared.motion.AxisState.TheVariants.{Disabled, Standstill, Stopping}
use Rattle.records.specs.declared.motion.Command.{Command}
use Rattle.records.specs.declared.outcome.Cause.{Cause}
use Rattle.records.specs.declared.outcome.Cause.TheVariants.{Drive}
use Rattle.records.specs.declared.outcome.Outcome.TheVariants.{Done, Aborted}
use Rattle.records.specs.Numbers.{state_number}
use Rattle.words.specs.Words.{lawful_cause}
use Rattle.moves.specs.declared.table.Axis.{Axis}
use Rattle.moves.specs.declared.table.Block.{Block}
use Rattle.moves.specs.Axes.{with_state, is_disabled, is_errorstop}
use Rattle.moves.specs.Blocks.{is_move, is_run, state_under}
use Rattle.moves.specs.Moves.{entered, finished, retired}
use Rattle.turns.specs.declared.turn.Turn.{Turn}
use Rattle.turns.specs.declared.turn.Turn.TheVariants.{Rest, Fail, Enable, Finish, Yield}
use Rattle.turns.specs.Turns.{same, active_block, reached, yields, enables, faults, turn_under, turn_after, turn_of}
use Rattle.motion.specs.Settling.{handed, settled_by, settled}
use Rattle.motion.specs.World.{World, on_sheet, axis_of, failed}
use Rattle.law.specs.Laws.Arrivals.{done_end, done_ends, StandsAt}
use Rattle.law.specs.Laws.States.{Arrow}
use Rattle.law.specs.Readings.{LastAccept, LastTarget}
use Rattle.law.proofs.Closing.{enter_rest, entered_axes, entered_blocks, stop_remembered}
use Rattle.law.proofs.Ends.{adds_state}
use Rattle.law.proofs.Handing.{Seen, seen_same, Went, failed_went, handed_went, reach_of, LeftIn}
use Rattle.law.proofs.Handing.LeftIn.{moving, stopping, running}
use Rattle.law.proofs.Lasts.{accept_before, done_end_other, done_end_not}
use Rattle.law.proofs.Lines.{nth, axle, Leaves, leaves_all, leaves_then}
use Rattle.law.proofs.Parts.{Aims, Part, But, Targets, opened}
use Rattle.law.proofs.Retiring.{retired_open, retired_own, retired_others, retired_leaves, finished_open, finished_own, finished_others, finished_leaves, finished_done}
use Rattle.law.proofs.Told.{entry_records}

-- ---- which turn it is

-- what a turn tells of the axis
data Turned (y : Axis) (x : Block) (look : AxisLook) (refusal : Option Cause) : Turn ℕ → Type 0 where
  rests : faults y look ≡ false → refusal ≡ None → Turned y x look refusal Rest
  faulted : faults y look ≡ true → Turned y x look refusal (Fail (Drive look.fault))
  refused : (cause : Cause) → refusal ≡ Some cause → Turned y x look refusal (Fail cause)
  enabled : enables y look ≡ true → Turned y x look refusal Enable
  finishes : (b : ℕ) → faults y look ≡ false → refusal ≡ None → y.active ≡ Some b → reached y x look ≡ true → Turned y x look refusal (Finish b)
  yielded : (b : ℕ) → y.active ≡ Some b → yields y x ≡ true → Turned y x look refusal (Yield b)

turned : (y : Axis) (x : Block) (look : AxisLook) (refusal : Option Cause) → Turned y x look refusal (turn_of y x look refusal)
unfolding turn_of
turned y x look refusal = by (faults y look) refusal (enables y look) y.active refl refl refl refl
  where
    under : faults y look ≡ false → refusal ≡ None → (b : ℕ) → y.active ≡ Some b → (r v : Bool) → reached y x look ≡ r → yields y x ≡ v →
        Turned y x look refusal (cond r (Finish b) (cond v (Yield b) Rest))
    under f n b e true v i j = finishes b f n e i
    under f n b e false true i j = yielded b e j
    under f n b e false false i j = rests f n

    by : (f : Bool) (o : Option Cause) (e : Bool) (active : Option ℕ) → faults y look ≡ f → refusal ≡ o → enables y look ≡ e → y.active ≡ active →
        Turned y x look refusal (cond f (Fail (Drive look.fault)) (turn_after o (cond e Enable (turn_under active y x look))))
    by true o e active i j k l = faulted i
    by false (Some cause) e active i j k l = refused cause j
    by false None true active i j k l = enabled k
    by false None false None i j k l = rests i j
    by false None false (Some b) i j k l = under i j b l (reached y x look) (yields y x) refl refl

-- ---- facts of the tests

same_is : (p q : ℤ) → same p q ≡ true → p ≡ q
same_is p q e = grind (arith, ints)

pub runs_no_errorstop : (c : Option Command) → is_errorstop (state_under c) ≡ false
runs_no_errorstop c = grind arith

runs_enabled : (c : Option Command) → is_disabled (state_under c) ≡ false
runs_enabled c = grind arith

disabled_is : (state : AxisState) → is_disabled state ≡ true → state ≡ Disabled
disabled_is state e = grind arith

-- outside errorstop, an axis that does not fail has no fault
no_fault : (y : Axis) (look : AxisLook) → faults y look ≡ false → is_errorstop y.state ≡ false → look.fault ≡ 0
no_fault y look e s = grind arith

-- what a reached command tells
record Reached (y : Axis) (x : Block) (look : AxisLook) : Type 0 where
  no_run : is_run x.command ≡ false
  caught_up : look.actual ≡ look.demand
  arrived : is_move x.command ≡ true → y.distance_to_go ≡ pos 0

reached_tells : (y : Axis) (x : Block) (look : AxisLook) → reached y x look ≡ true → Reached y x look
reached_tells y x look e = record {
  no_run = grind arith;
  caught_up = same_is look.actual look.demand (grind arith);
  arrived = λ m. same_is y.distance_to_go (pos 0) (grind arith);
}

-- and one that yields
yields_tells : (y : Axis) (x : Block) → yields y x ≡ true → (is_run x.command ≡ true) × (0 < y.waiting)
yields_tells y x e = grind arith

-- where a done command leaves its axis
left_done : (c : Option Command) (state : AxisState) (waiting : ℕ) → state ≡ state_under c → is_run c ≡ false → (state ≡ Stopping → waiting ≡ 0) → LeftIn state waiting
left_done c state waiting e r h = grind (arith, moving, stopping)

left_run : (c : Option Command) (state : AxisState) (waiting : ℕ) → state ≡ state_under c → is_run c ≡ true → 0 < waiting → LeftIn state waiting
left_run c state waiting e r h = grind (arith, running)

-- ---- the turn

-- a refused follow has a lawful cause, and an active command
abbrev pub Fair : Option Cause → Axis → Type 0
Fair refusal y = (cause : Cause) → refusal ≡ Some cause → (lawful_cause cause ≡ true) × ((b : ℕ) × (y.active ≡ Some b))

-- a block that ended done was active on the axis, and stands at its target if it is a move
pub record Landed (bs : List Block) (y : Axis) (look : AxisLook) (qs : List Record) (b : ℕ) : Type 0 where
  pub active : y.active ≡ Some b
  pub stands : is_move (nth bs b).command ≡ true → (t : ℤ) × LastTarget b qs t × StandsAt look t

pub record TurnOver (a : ℕ) (C : ℕ → Type 0) (n : ℕ) (before : List ℕ) (rs : List Record) (w w' : World) : Type 0 where
  pub records : List Record
  pub part : Part (But a C) n before records w'.sheet w'.row
  pub targets : Targets a w.sheet.table.blocks rs records
  pub accepts : {b axis : ℕ} {command : Command} → LastAccept b records axis command → LastAccept b rs axis command
  pub dones : (b : ℕ) → done_ends b rs < done_ends b records → Landed w.sheet.table.blocks (axis_of w a) (w.row.at a) records b
  pub leaves : Leaves a w.sheet.table.blocks w'.sheet.table.blocks
  pub others : (d : ℕ) → (d ≡ a → ⊥) → axle w'.sheet.table.axes d ≡ axle w.sheet.table.axes d
  pub seen : (d : ℕ) → Seen (w.row.at d) (w'.row.at d)
  pub rows : (d : ℕ) → (d ≡ a → ⊥) → w'.row.at d ≡ w.row.at d
  pub count : w'.row.count ≡ w.row.count

-- a turn in which nothing is done
over : {a : ℕ} {C : ℕ → Type 0} {n : ℕ} {before : List ℕ} {rs : List Record} {w w' : World} → Went a C n before rs w w' → TurnOver a C n before rs w w'
over g = record {
  records = g.records;
  part = g.part;
  targets = g.adds.targets;
  accepts = g.adds.accepts;
  dones = λ b lt. absurd (omega (arith, lt, g.adds.dones b));
  leaves = g.leaves;
  others = g.others;
  seen = g.seen;
  rows = g.rows;
  count = g.count;
}

module _ {C : ℕ → Type 0} {n : ℕ} {before : List ℕ} {rs : List Record} (w : World) (p : Part C n before rs w.sheet w.row) (a : ℕ) (ha : a < 8) (sound : Sound (w.row.at a))
    (refusal : Option Cause) (fair : Fair refusal (axis_of w a))
    (pending : refusal ≡ None → (w.row.at a).fault ≡ 0 → Aims rs w.sheet.table.blocks (axis_of w a) (w.row.at a)) where
  x : Block
  x = active_block w.sheet.table (axis_of w a).active

  active_is : (b : ℕ) → (axis_of w a).active ≡ Some b → x ≡ nth w.sheet.table.blocks b
  unfolding x
  active_is b e = ap (active_block w.sheet.table) e

  unfailing : (b : ℕ) → (axis_of w a).active ≡ Some b → is_errorstop (axis_of w a).state ≡ false
  unfailing b e = rw ((p.fits a).under b e) (runs_no_errorstop (nth w.sheet.table.blocks b).command)

  -- the axis does not fail: its move leads to its target
  sure : faults (axis_of w a) (w.row.at a) ≡ false → refusal ≡ None → Aims rs w.sheet.table.blocks (axis_of w a) (w.row.at a)
  sure f r = record { aimed = λ b e. (pending r (no_fault (axis_of w a) (w.row.at a) f (unfailing b e))).aimed b e }

  rest_over : faults (axis_of w a) (w.row.at a) ≡ false → refusal ≡ None → TurnOver a C n before rs w w
  rest_over f r = record {
    records = rs;
    part = record {
      told = p.told;
      lines = p.lines;
      fits = p.fits;
      aims = λ d c. elim (cases_eq d a) [
        | inl e ↦ rw e (sure f r)
        | inr ne ↦ p.aims d (c ne)
      ];
    };
    targets = λ b ne t last. last;
    accepts = λ last. last;
    dones = λ b lt. absurd (omega (arith, lt));
    leaves = leaves_all a w.sheet.table.blocks;
    others = λ d ne. refl;
    seen = λ d. seen_same (w.row.at d);
    rows = λ d ne. refl;
    count = refl;
  }

  fault_over : faults (axis_of w a) (w.row.at a) ≡ true → TurnOver a C n before rs w (failed w a (Drive (w.row.at a).fault))
  fault_over f = over (failed_went w (opened a p) ha (Drive (w.row.at a).fault) (grind (arith, sound.fault, f)) (grind (arith, f)))

  refused_over : (cause : Cause) → refusal ≡ Some cause → TurnOver a C n before rs w (failed w a cause)
  refused_over cause e =
      let h = fair cause e in
      over (failed_went w (opened a p) ha cause h.0 (unfailing h.1.0 h.1.1))

  no_active : is_disabled (axis_of w a).state ≡ true → (axis_of w a).active ≡ None
  no_active e = by (axis_of w a).active refl
    where
      by : (o : Option ℕ) → (axis_of w a).active ≡ o → o ≡ None
      by None i = refl
      by (Some b) i = let under = (p.fits a).under b i in let on = runs_enabled (nth w.sheet.table.blocks b).command in cc

  enable_over : enables (axis_of w a) (w.row.at a) ≡ true → TurnOver a C n before rs w (on_sheet w (entered w.sheet a (with_state (axis_of w a) Standstill)))
  enable_over e =
      let off : is_disabled (axis_of w a).state ≡ true = grind (arith, e) in
      let none = no_active off in
      let y = axis_of w a in
      let z = with_state y Standstill in
      let state = disabled_is y.state off in
      over (record {
        records = entry_records a y.state Standstill rs;
        part = enter_rest (opened a p) ha z none none refl refl tt (λ b. stop_remembered Standstill y.stop b)
            (rw state (λ i. Arrow.enables)) w.row (λ d ne. refl);
        adds = adds_state a w.sheet.table.blocks rs (eqb (state_number y.state) 1) a y.state Standstill;
        leaves = rw (entered_blocks w.sheet a z) (leaves_all a w.sheet.table.blocks);
        others = λ d ne. rw (entered_axes w.sheet a z) (get_or-set_other w.sheet.table.axes a d z _ ne);
        seen = λ d. seen_same (w.row.at d);
        rows = λ d ne. refl;
        count = refl;
      })

  yield_over : (b : ℕ) → (axis_of w a).active ≡ Some b → yields (axis_of w a) x ≡ true → TurnOver a C n before rs w (handed (on_sheet w (retired w.sheet a b Aborted)) a)
  yield_over b e y =
      let tells = yields_tells (axis_of w a) x y in
      let run : is_run (nth w.sheet.table.blocks b).command ≡ true = rw (← active_is b e) tells.0 in
      let left = left_run (nth w.sheet.table.blocks b).command (axis_of w a).state (axis_of w a).waiting ((p.fits a).under b e) run tells.1 in
      let turn = retired_open (opened a p) ha b e Aborted refl in
      let own = retired_own (opened a p) ha b e Aborted in
      let w1 = on_sheet w (retired w.sheet a b Aborted) in
      let g = handed_went w1 turn ha sound (rw own) (rw own left) in
      let leaves = retired_leaves (opened a p) ha b e Aborted in
      record {
        records = g.records;
        part = g.part;
        targets = λ c ne t last. g.adds.targets c (λ i f. ne (sym (leaves.axes c) ∙ i) (leaves.waits c f)) t (LastTarget.before refl last);
        accepts = λ last. accept_before refl (g.adds.accepts last);
        dones = λ c lt. absurd (omega (arith, lt, g.adds.dones c, zero_end c));
        leaves = leaves_then leaves g.leaves;
        others = λ d ne. g.others d ne ∙ retired_others (opened a p) ha b e Aborted d ne;
        seen = g.seen;
        rows = g.rows;
        count = g.count;
      }
    where
      zero_end : (c : ℕ) → done_end c (End a b Aborted) ≡ 0
      zero_end c = done_end_not c a b Aborted refl

  finish_over : (b : ℕ) → faults (axis_of w a) (w.row.at a) ≡ false → refusal ≡ None → (axis_of w a).active ≡ Some b → reached (axis_of w a) x (w.row.at a) ≡ true →
      TurnOver a C n before rs w (handed (on_sheet w (finished w.sheet a b (w.row.at a).actual)) a)
  finish_over b f r e y =
      let look = w.row.at a in
      let tells = rw (active_is b e) at (reached_tells (axis_of w a) x look y) in
      let left = left_done (nth w.sheet.table.blocks b).command (axis_of w a).state (axis_of w a).waiting ((p.fits a).under b e) tells.no_run (λ s. ((p.fits a).alone b e s).0) in
      let reach = reach_of look.actual sound.actual in
      let turn = finished_open (opened a p) ha b e look.actual reach in
      let own = finished_own (opened a p) ha b e look.actual reach in
      let w1 = on_sheet w (finished w.sheet a b look.actual) in
      let g = handed_went w1 turn ha sound (rw own) (rw own left) in
      let leaves = finished_leaves (opened a p) ha b e look.actual reach in
      let done = finished_done (opened a p) ha b e look.actual reach in
      record {
        records = g.records;
        part = g.part;
        targets = λ c ne t last. g.adds.targets c (λ i q. ne (sym (leaves.axes c) ∙ i) (leaves.waits c q)) t (LastTarget.before refl (LastTarget.before refl last));
        accepts = λ last. accept_before refl (accept_before refl (g.adds.accepts last));
        dones = λ c lt. elim (cases_eq b c) [
          | inr ne ↦ absurd (omega (arith, lt, g.adds.dones c, done_end_other c a b Done ne))
          | inl i ↦ subst (Landed w.sheet.table.blocks (axis_of w a) look g.records) i (record {
            active = e;
            stands = λ m.
                let aim = (sure f r).aimed b e m in
                let zero = tells.arrived m in
                let same : look.demand ≡ aim.target = omega (arith, ints, aim.way, zero) in (
                  aim.target,
                  g.adds.targets b (λ _ q. cc) aim.target (LastTarget.before refl (LastTarget.before refl aim.last)),
                  record { demand = same; actual = tells.caught_up ∙ same },
                );
          })
        ];
        leaves = leaves_then leaves g.leaves;
        others = λ d ne. g.others d ne ∙ finished_others (opened a p) ha b e look.actual reach d ne;
        seen = g.seen;
        rows = g.rows;
        count = g.count;
      }

  pub settled_over : TurnOver a C n before rs w (settled w a refusal)
  unfolding settled x
  settled_over = by (turned (axis_of w a) x (w.row.at a) refusal)
    where
      by : {turn : Turn ℕ} → Turned (axis_of w a) x (w.row.at a) refusal turn → TurnOver a C n before rs w (settled_by turn w a)
      by (rests f r) = rest_over f r
      by (faulted f) = fault_over f
      by (refused cause e) = refused_over cause e
      by (enabled e) = enable_over e
      by (finishes b f r e y) = finish_over b f r e y
      by (yielded b e y) = yield_over b e y
