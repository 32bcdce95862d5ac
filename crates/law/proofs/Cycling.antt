-- A whole cycle keeps the law, and what it ends done has arrived. Assumes nothing.
use Rattle.std.proofs.Common.{◌≡◌, ℕ, zero, suc, ◌<◌, ◌≤◌, true, List, ◌∷◌, get_or, ℤ, Some, None, Option, sym, refl, ◌∙◌, subst, inl, inr, arith}
use Rattle.std.proofs.lemmas.Bool.{cases_lt, le-leb}
use Rattle.segment.specs.declared.refusal.Reason.{Reason}
use Rattle.segment.specs.Calls.{follow_reason}
use Rattle.segment.specs.Row.{Row, SoundRow}
use Rattle.records.specs.declared.kinds.Record.{Record}
use Rattle.records.specs.declared.kinds.Record.TheVariants.{Cycle}
use Rattle.records.specs.declared.motion.Command.{Command}
use Rattle.records.specs.declared.outcome.Cause.{Cause}
use Rattle.words.specs.Words.{lawful_cause, refuses_follow}
use Rattle.moves.specs.declared.table.Axis.{Axis}
use Rattle.moves.specs.declared.table.Block.{Block}
use Rattle.moves.specs.declared.table.Status.TheVariants.{Active}
use Rattle.moves.specs.Blocks.{is_move}
use Rattle.moves.specs.Moves.{ticked, next_cycle}
use Rattle.motion.specs.Ordering.{next_position, ordered_upto, refusal_under, refusal_of, Noted}
use Rattle.motion.specs.Settling.{settled, settled_upto}
use Rattle.motion.specs.World.{World, axis_of}
use Rattle.sequencer.specs.Calls.{counted, ordered_all, CycleLeft}
use Rattle.law.specs.Laws.Accounts.{Rounds}
use Rattle.law.specs.Laws.Accounts.Stage.{runs}
use Rattle.law.specs.Laws.Arrivals.{done_ends, StandsAt, Arrives}
use Rattle.law.specs.Readings.{LastAccept, LastTarget}
use Rattle.law.proofs.Following.{ordered_to, followed_part, Unhurt}
use Rattle.law.proofs.Handing.{Seen, seen_same, seen_then}
use Rattle.law.proofs.Lasts.{last_of_runs}
use Rattle.law.proofs.Lines.{nth, axle, At}
use Rattle.law.proofs.Parts.{Part}
use Rattle.law.proofs.Told.{told_ticked}
use Rattle.law.proofs.Turning.{Fair, Landed, settled_over}

-- ---- why a follow is refused

follow_reasons : (row : Row) (a : ℕ) (p : ℤ) (reason : Reason) → a < row.count → follow_reason row a p ≡ Some reason → refuses_follow reason ≡ true
follow_reasons row a p reason there e = grind arith

-- a refused follow has an active command and one of these reasons
record Refused (w : World) (a : ℕ) (reason : Reason) : Type 0 where
  active : (b : ℕ) × ((axis_of w a).active ≡ Some b)
  follows : refuses_follow reason ≡ true

refused_tells : (w : World) (a : ℕ) (reason : Reason) → a < w.row.count → refusal_of w a ≡ Some reason → Refused w a reason
unfolding refusal_of
refused_tells w a reason there e = by (axis_of w a).active refl e
  where
    by : (o : Option ℕ) → (axis_of w a).active ≡ o → refusal_under o w a ≡ Some reason → Refused w a reason
    by None i e = cc
    by (Some b) i e = record { active = (b, i); follows = follow_reasons w.row a (next_position w a b) reason there e }

fair_noted : (w : World) (a : ℕ) (refusal : Option Cause) (y : Axis) → a < w.row.count → y.active ≡ (axis_of w a).active → Noted (refusal_of w a) refusal → Fair refusal y
fair_noted w a refusal y there same noted cause e = by (refusal_of w a) refl (rw e at noted)
  where
    by : (o : Option Reason) → refusal_of w a ≡ o → Noted o (Some cause) → (lawful_cause cause ≡ true) × ((b : ℕ) × (y.active ≡ Some b))
    by None i h = absurd h
    by (Some reason) i h =
        let tells = refused_tells w a reason there i in (
          rw (h.2, le-leb h.0 15 h.1) tells.follows,
          (tells.active.0, same ∙ tells.active.1),
        )

-- ---- the turns of the first m axes

-- a block that ended done in this cycle, on one of these axes
record Arrived (m : ℕ) (bs : List Block) (shown : Row) (qs : List Record) (b : ℕ) : Type 0 where
  axis : (nth bs b).axis < m
  stands : (a : ℕ) (command : Command) → LastAccept b qs a command → is_move (Some command) ≡ true → (t : ℤ) × LastTarget b qs t × StandsAt (shown.at a) t

record SettledTo (C : ℕ → Type 0) (n : ℕ) (before : List ℕ) (rs : List Record) (w : World) (m : ℕ) (v : World) : Type 0 where
  records : List Record
  part : Part (λ d. m ≤ d → C d) n before records v.sheet v.row
  accepts : {b axis : ℕ} {command : Command} → LastAccept b records axis command → LastAccept b rs axis command
  arrived : (b : ℕ) → done_ends b rs < done_ends b records → Arrived m v.sheet.table.blocks w.row records b
  ahead : (d : ℕ) → m ≤ d → axle v.sheet.table.axes d ≡ axle w.sheet.table.axes d
  rows : (d : ℕ) → m ≤ d → v.row.at d ≡ w.row.at d
  seen : (d : ℕ) → Seen (w.row.at d) (v.row.at d)
  count : v.row.count ≡ w.row.count

-- an axis's command that ended done had this axis and command in its last accept
module _ {C : ℕ → Type 0} {n : ℕ} {before : List ℕ} {rs qs : List Record} (v : World) (m b : ℕ) (p : Part C n before rs v.sheet v.row)
    (landed : Landed v.sheet.table.blocks (axis_of v m) (v.row.at m) qs b) where
  landed_at : At v.sheet.table.blocks b m Active
  landed_at = (p.lines.each m).running b landed.active

  landed_round : Rounds b rs (runs m (nth v.sheet.table.blocks b).command)
  landed_round =
      let x = nth v.sheet.table.blocks b in
      rw (landed_at.stands, landed_at.axis) at (p.told.good.rounds b landed_at.within)

  landed_stands : (a : ℕ) (command : Command) → LastAccept b rs a command → is_move (Some command) ≡ true → (t : ℤ) × LastTarget b qs t × StandsAt (v.row.at a) t
  landed_stands a command last move =
      let same = last_of_runs landed_round last in
      let got = landed.stands (cc) in
      (got.0, got.1, subst (λ k. StandsAt (v.row.at k) got.0) (sym same.0) got.2)

stands_seen : {t : ℤ} (row shown : Row) (a : ℕ) → Seen (shown.at a) (row.at a) → StandsAt (row.at a) t → StandsAt (shown.at a) t
stands_seen row shown a seen stands = record { demand = cc; actual = cc }

stands_on : {t : ℤ} (row shown : Row) (a : ℕ) → Seen (shown.at a) (row.at a) → StandsAt (shown.at a) t → StandsAt (row.at a) t
stands_on row shown a seen stands = record { demand = cc; actual = cc }

module _ {n : ℕ} {before : List ℕ} {rs : List Record} (w : World) (count : ℕ) (refusals : List (Option Cause))
    (p : Part (Unhurt count refusals w.row) n before rs w.sheet w.row) (few : count ≤ 8) (sound : SoundRow w.row)
    (fair : (d : ℕ) → d < count → Fair (get_or refusals d None) (axis_of w d)) where
  settled_next : (m : ℕ) → m < count → (v : World) → SettledTo (Unhurt count refusals w.row) n before rs w m v → SettledTo (Unhurt count refusals w.row) n before rs w (suc m) (settled v m (get_or refusals m None))
  settled_next m lt v g =
      let row_same = g.rows m (omega arith) in
      let over = settled_over v g.part m (omega arith) (rw row_same (sound.each m)) (get_or refusals m None)
      (rw (g.ahead m (omega arith)) (fair m lt))
      (λ r f. g.part.aims m (λ _. (lt, r, cc))) in
      let u = settled v m (get_or refusals m None) in
      let part = over.part in
      record {
        records = over.records;
        part = record {
          told = part.told;
          lines = part.lines;
          fits = part.fits;
          aims = λ d c. part.aims d (λ ne h. c (omega (arith, ne, h)));
        };
        accepts = λ last. g.accepts (over.accepts last);
        arrived = λ b grew. elim (cases_lt (done_ends b rs) (done_ends b g.records)) [
          | inl before ↦
              let old = g.arrived b before in
              record {
                axis = omega (arith, old.axis, over.leaves.axes b);
                stands = λ a command last move.
                    let got = old.stands a command (over.accepts last) move in
                    (got.0, over.targets b (λ e _. omega (arith, e, old.axis)) got.0 got.1, got.2);
              }
          | inr now ↦
              let landed = over.dones b (omega (arith, grew, now)) in
              record {
                axis = omega (arith, over.leaves.axes b, (landed_at v m b g.part landed).axis);
                stands = λ a command last move.
                    let got = landed_stands v m b g.part landed a command (over.accepts last) move in
                    (got.0, got.1, stands_seen {t = got.0} v.row w.row a (g.seen a) got.2);
              }
        ];
        ahead = λ d h. over.others d (omega arith) ∙ g.ahead d (omega arith);
        rows = λ d h. over.rows d (omega arith) ∙ g.rows d (omega arith);
        seen = λ d. seen_then (g.seen d) (over.seen d);
        count = over.count ∙ g.count;
      }

  settled_to : (m : ℕ) → m ≤ count → SettledTo (Unhurt count refusals w.row) n before rs w m (settled_upto w refusals m)
  unfolding settled_upto
  settled_to zero h = record {
    records = rs;
    part = record { told = p.told; lines = p.lines; fits = p.fits; aims = λ d c. p.aims d (c (omega arith)) };
    accepts = λ last. last;
    arrived = λ b grew. absurd (omega (arith, grew));
    ahead = λ d h. refl;
    rows = λ d h. refl;
    seen = λ d. seen_same (w.row.at d);
    count = refl;
  }
  settled_to (suc m) h = settled_next m (omega arith) (settled_upto w refusals m) (settled_to m (omega arith))

-- ---- a cycle is counted

ticked_part :
    {C : ℕ → Type 0} {n : ℕ} {before : List ℕ} {rs : List Record} {w : World} → Part C n before rs w.sheet w.row →
    Part C n before (Cycle (next_cycle w.sheet.table.cycles) ∷ rs) (ticked w.sheet) w.row
unfolding ticked
ticked_part p = record {
  told = told_ticked p.told;
  lines = p.lines;
  fits = p.fits;
  aims = λ d c. record { aimed = λ b e m. let old = (p.aims d c).aimed b e m in record { target = old.target; last = LastTarget.before refl old.last; way = old.way } };
}

-- ---- the whole cycle

pub record CycleKeeps (n : ℕ) (before : List ℕ) (rs : List Record) (w w' : World) : Type 0 where
  pub records : List Record
  pub part : Part (λ d. d < w'.row.count) n before records w'.sheet w'.row
  pub arrives : Arrives rs records w'.row
  pub count : w'.row.count ≡ w.row.count

pub cycle_keeps :
    {n : ℕ} {before : List ℕ} {rs : List Record} (w w' : World) → Part (λ d. d < w.row.count) n before rs w.sheet w.row → w.row.count ≤ 8 →
    CycleLeft w w' → CycleKeeps n before rs w w'
cycle_keeps {n} {before} {rs} w w' p few left =
    let count = w.row.count in
    let v = ordered_all w in
    let u : World = record { sheet = v.sheet; row = left.shown } in
    let g = ordered_to (counted w) start few count (omega arith) in
    let part = followed_part (counted w) start few left.refusals left.noted left.shown left.cycled in
    let fair : (d : ℕ) → d < count → Fair (get_or left.refusals d None) (axis_of u d) = λ d lt.
    let h = ordered_to (counted w) start few d (omega arith) in
    fair_noted (ordered_upto (counted w) d) d (get_or left.refusals d None) (axis_of u d) (omega (arith, h.count, lt)) (g.active d ∙ sym (h.active d)) (left.noted d lt) in
    let all = settled_to u count left.refusals part few left.sound fair count (omega arith) in
    let same : (settled_upto u left.refusals count).row.count ≡ count = all.count ∙ left.cycled.count ∙ g.count in
    rw left.left (record {
      records = all.records;
      part = record {
        told = all.part.told;
        lines = all.part.lines;
        fits = all.part.fits;
        aims = λ d lt. all.part.aims d (λ h. absurd (omega (arith, h, lt, same)));
      };
      arrives = λ b grew a command last move.
          let got = (all.arrived b (omega (arith, grew))).stands a command last move in
          (got.0, got.1, stands_on (settled_upto u left.refusals count).row left.shown a (all.seen a) got.2);
      count = same;
    })
  where
    start : Part (λ d. d < w.row.count) n before (Cycle (next_cycle w.sheet.table.cycles) ∷ rs) (ticked w.sheet) w.row
    start = ticked_part p
