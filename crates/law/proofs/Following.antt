-- The axes follow, and the segment cycles: a move that was not refused leads to its target still. Assumes nothing.
use Rattle.std.proofs.Common.{◌≡◌, ℕ, zero, suc, ◌<◌, ◌≤◌, true, List, [], get_or, ℤ, ◌+ℤ◌, ◌-ℤ◌, Some, None, Option, sym, refl, ap, ◌∙◌, inl, inr, arith}
use Rattle.std.proofs.lemmas.List.{get_or-set_same, get_or-set_other}
use Rattle.std.proofs.lemmas.Int.{ints}
use Rattle.std.proofs.lemmas.Bool.{cases_eq, cond-true}
use Rattle.segment.specs.declared.axis.AxisLook.{AxisLook}
use Rattle.segment.specs.declared.axis.Power.TheVariants.{On}
use Rattle.segment.specs.declared.refusal.Reason.{Reason}
use Rattle.segment.specs.Calls.{follow_reason, followed}
use Rattle.segment.specs.Cycle.{AxisCycled, Cycled}
use Rattle.segment.specs.Row.{Row}
use Rattle.segment.proofs.Ready.{ready}
use Rattle.records.specs.declared.kinds.Record.{Record}
use Rattle.records.specs.declared.outcome.Cause.{Cause}
use Rattle.moves.specs.declared.table.Axis.{Axis}
use Rattle.moves.specs.declared.table.Block.{Block}
use Rattle.moves.specs.Blocks.{is_move}
use Rattle.moves.specs.Sheet.{disabled_axis}
use Rattle.turns.specs.Steps.{step_of, stepped, remaining}
use Rattle.motion.specs.Ordering.{next_position, followed_unless, ordered_under, ordered, ordered_upto, refusal_under, refusal_of, Noted, RefusedUpto}
use Rattle.motion.specs.World.{World, axis_of}
use Rattle.law.proofs.Lines.{nth, axle, Lines, leaves_all, line_same, lines_with, each_axle}
use Rattle.law.proofs.Parts.{Fits, Aims, Part, aims_demand}
use Rattle.law.proofs.Told.{Told, told_kept}

-- an axis that followed without refusal: ready to, and on the way to its target
pub record OnWay (rs : List Record) (bs : List Block) (y : Axis) (look : AxisLook) : Type 0 where
  pub calm : look.fault ≡ 0
  pub on : look.power ≡ On
  pub aims : Aims rs bs y look

-- what the orders to the first m axes have left
pub record OrderedTo (n : ℕ) (before : List ℕ) (rs : List Record) (w : World) (m : ℕ) (v : World) : Type 0 where
  pub tells : Told n before rs v.sheet
  pub lines : Lines v.sheet.table.blocks v.sheet.table.axes
  pub fits : (d : ℕ) → Fits v.sheet.table.blocks (axle v.sheet.table.axes d)
  pub blocks : v.sheet.table.blocks ≡ w.sheet.table.blocks
  pub count : v.row.count ≡ w.row.count
  pub axes_ahead : (d : ℕ) → m ≤ d → axle v.sheet.table.axes d ≡ axle w.sheet.table.axes d
  pub rows_ahead : (d : ℕ) → m ≤ d → v.row.at d ≡ w.row.at d
  pub active : (d : ℕ) → (axle v.sheet.table.axes d).active ≡ (axle w.sheet.table.axes d).active
  pub ways : (d : ℕ) → d < m → (b : ℕ) → (axle w.sheet.table.axes d).active ≡ Some b → refusal_of (ordered_upto w d) d ≡ None → OnWay rs w.sheet.table.blocks (axle v.sheet.table.axes d) (v.row.at d)

fits_same : {bs : List Block} {y : Axis} (z : Axis) → z.state ≡ y.state → z.active ≡ y.active → z.waiting ≡ y.waiting → z.stop ≡ y.stop → Fits bs y → Fits bs z
fits_same z s a w t fits = record {
  rests = λ e. rw s (fits.rests (cc));
  under = λ b e. s ∙ fits.under b (cc);
  alone = λ b e f. let h = fits.alone b (cc) (cc) in (w ∙ h.0, t ∙ h.1);
  stop = λ b e. s ∙ fits.stop b (cc);
}

-- the row after a follow, at other axes and at the axis itself
unless_other : (reason : Option Reason) (row : Row) (a d : ℕ) (p : ℤ) → (d ≡ a → ⊥) → (followed_unless reason row a p).at d ≡ row.at d
unless_other reason row a d p ne = grind arith

unless_count : (reason : Option Reason) (row : Row) (a : ℕ) (p : ℤ) → (followed_unless reason row a p).count ≡ row.count
unless_count reason row a p = grind arith

unless_own : (reason : Option Reason) (row : Row) (a : ℕ) (p : ℤ) → reason ≡ None → (followed_unless reason row a p).at a ≡ followed p (row.at a)
unless_own reason row a p e = grind arith

-- a step leads a move from its demand to the same target
step_aims : {rs : List Record} {bs : List Block} (y : Axis) (b : ℕ) (look : AxisLook) → y.active ≡ Some b → Aims rs bs y look → Aims rs bs (stepped y (nth bs b)) (followed (look.demand +ℤ step_of y (nth bs b)) look)
step_aims {rs} {bs} y b look active aims = record {
  aimed = λ c e m.
      let old = aims.aimed c e m in
      let same : b ≡ c = cc in
      let mine : is_move (nth bs b).command ≡ true = rw same m in
      let less : remaining y (nth bs b) ≡ y.distance_to_go -ℤ step_of y (nth bs b) = cond-true (is_move (nth bs b).command) _ _ mine in
      record { target = old.target; last = old.last; way = omega (arith, ints, old.way, less) };
}

refusal_is : (v : World) (m b : ℕ) → (axis_of v m).active ≡ Some b → refusal_of v m ≡ follow_reason v.row m (next_position v m b)
unfolding refusal_of
refusal_is v m b e = ap (λ o. refusal_under o v m) e

module _ {n : ℕ} {before : List ℕ} {rs : List Record} (w : World) (p : Part (λ d. d < w.row.count) n before rs w.sheet w.row) (few : w.row.count ≤ 8) where
  private_next : (m : ℕ) → m < w.row.count → (v : World) → v ≡ ordered_upto w m → OrderedTo n before rs w m v → (o : Option ℕ) → (axis_of v m).active ≡ o → OrderedTo n before rs w (suc m) (ordered_under o v m)
  private_next m lt v same g None e = record {
    tells = g.tells;
    lines = g.lines;
    fits = g.fits;
    blocks = g.blocks;
    count = g.count;
    axes_ahead = λ d h. g.axes_ahead d (omega arith);
    rows_ahead = λ d h. g.rows_ahead d (omega arith);
    active = g.active;
    ways = λ d h b f r. elim (cases_eq d m) [
      | inl i ↦ let q = g.active m in cc
      | inr ne ↦ g.ways d (omega (arith, h, ne)) b f r
    ];
  }
  private_next m lt v same g (Some b) e =
      let y = axis_of v m in
      let bs = v.sheet.table.blocks in
      let x = nth bs b in
      let z = stepped y x in
      let position = next_position v m b in
      let reason = follow_reason v.row m position in
      let ha : m < 8 = omega arith in
      let other = λ (d : ℕ) (ne : d ≡ m → ⊥). get_or-set_other v.sheet.table.axes m d z (disabled_axis []) ne in
      let own = get_or-set_same v.sheet.table.axes m z (disabled_axis []) (omega (arith, g.lines.size)) in
      record {
        tells = told_kept g.tells m z ha refl;
        lines = lines_with g.lines (leaves_all m bs) ha z (g.lines.queues m ha) (line_same z refl refl refl (g.lines.each m));
        fits = each_axle (λ d k. Fits bs k) v.sheet.table.axes m z g.lines.size ha (fits_same z refl refl refl refl (g.fits m)) (λ d ne. g.fits d);
        blocks = g.blocks;
        count = unless_count reason v.row m position ∙ g.count;
        axes_ahead = λ d h. other d (omega arith) ∙ g.axes_ahead d (omega arith);
        rows_ahead = λ d h. unless_other reason v.row m d position (omega arith) ∙ g.rows_ahead d (omega arith);
        active = each_axle (λ d k. k.active ≡ (axle w.sheet.table.axes d).active) v.sheet.table.axes m z g.lines.size ha (g.active m) (λ d ne. g.active d);
        ways = λ d h c f r. elim (cases_eq d m) [
          | inr ne ↦
              let old = g.ways d (omega (arith, h, ne)) c f r in
              rw (other d ne, unless_other reason v.row m d position ne) old
          | inl i ↦
              let none : reason ≡ None = sym (refusal_is v m b e) ∙ ap (λ u. refusal_of u m) same ∙ rw i at r in
              let is_ready = ready v.row m position none in
              let aims : Aims rs bs y (v.row.at m) = rw (g.blocks, g.axes_ahead m (omega arith), g.rows_ahead m (omega arith)) (p.aims m lt) in
              let now : OnWay rs bs z (followed position (v.row.at m)) = record { calm = is_ready.calm; on = is_ready.on; aims = step_aims y b (v.row.at m) e aims } in
              rw (i, own, unless_own reason v.row m position none, ← g.blocks) now
        ];
      }

  pub ordered_to : (m : ℕ) → m ≤ w.row.count → OrderedTo n before rs w m (ordered_upto w m)
  unfolding ordered_upto ordered
  ordered_to zero h = record {
    tells = p.told;
    lines = p.lines;
    fits = p.fits;
    blocks = refl;
    count = refl;
    axes_ahead = λ d h. refl;
    rows_ahead = λ d h. refl;
    active = λ d. refl;
    ways = λ d h. absurd (omega arith);
  }
  ordered_to (suc m) h = private_next m (omega arith) (ordered_upto w m) refl (ordered_to m (omega arith)) (axis_of (ordered_upto w m) m).active refl

-- ---- the segment's cycle

-- where no fault arose, an axis that was on shows its demand still
demand_kept : {look seen : AxisLook} → AxisCycled look seen → look.power ≡ On → seen.fault ≡ 0 → seen.demand ≡ look.demand
demand_kept {look} {seen} cycled on calm = elim cycled.rest [
  | inl c ↦ rw on at c.demand
  | inr c ↦ absurd (omega (arith, c.fault, calm))
]

-- what is asked of an axis before its turn: its follow was not refused, and it shows no fault
abbrev pub Unhurt : ℕ → List (Option Cause) → Row → ℕ → Type 0
Unhurt count refusals shown d = (d < count) × (get_or refusals d None ≡ None) × ((shown.at d).fault ≡ 0)

noted_none : (reason : Option Reason) (o : Option Cause) → Noted reason o → o ≡ None → reason ≡ None
noted_none reason o h e = grind arith

-- after its orders and the segment's cycle, what was not hurt leads to its target
pub followed_part :
    {n : ℕ} {before : List ℕ} {rs : List Record} (w : World) → Part (λ d. d < w.row.count) n before rs w.sheet w.row → w.row.count ≤ 8 →
    (refusals : List (Option Cause)) → RefusedUpto w refusals w.row.count → (shown : Row) → Cycled (ordered_upto w w.row.count).row shown →
    Part (Unhurt w.row.count refusals shown) n before rs (ordered_upto w w.row.count).sheet shown
followed_part {rs = rs} w p few refusals noted shown cycled =
    let g = ordered_to w p few w.row.count (omega arith) in
    let v = ordered_upto w w.row.count in
    record {
      told = g.tells;
      lines = g.lines;
      fits = g.fits;
      aims = λ d c.
          record {
            aimed = λ b e m.
                let there : d < v.row.count = omega (arith, c.0, g.count) in
                let way = g.ways d c.0 b (sym (g.active d) ∙ e) (noted_none (refusal_of (ordered_upto w d) d) (get_or refusals d None) (noted d c.0) c.1) in
                let kept = demand_kept (cycled.each d there) way.on c.2 in
                (aims_demand {z = axle v.sheet.table.axes d} {seen = shown.at d} refl refl kept way.aims).aimed b e (rw g.blocks at m);
          };
    }
