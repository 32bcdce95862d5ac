-- What the axes order, one after the other. Assumes nothing.
use Rattle.std.proofs.Common.{◌≡◌, ℕ, ◌+◌, ◌<◌, ◌≤◌, ◌≢◌, List, length, get_or, set, ℤ, ◌+ℤ◌, nat_abs, Some, None, Option, sym, refl, ap, ◌∙◌, subst, add-one, arith, w32, SFits, rules, below_none, below_more}
use Rattle.std.proofs.lemmas.List.{get_or-set_same, get_or-set_other}
use Rattle.segment.specs.Calls.{follow_reason}
use Rattle.segment.specs.Row.{Row, Position}
use Rattle.records.specs.declared.outcome.Cause.{Cause}
use Rattle.trail.specs.declared.memory.Trail.{Trail}
use Rattle.moves.specs.declared.table.Table.{Table}
use Rattle.moves.specs.Sheet.{axis_at, block_at, with_axis}
use Rattle.turns.specs.Steps.{step_of, stepped}
use Rattle.motion.specs.Ordering.{ordered, ordered_under, ordered_upto, followed_unless, refusal_of, refusal_under, Noted, RefusedUpto}
use Rattle.motion.specs.World.{World, world}

-- demand and step together are a number of 32 bits
pub sum_fits : (demand velocity : ℤ) → Position demand → nat_abs velocity ≤ 10000 → SFits w32 (demand +ℤ velocity)
sum_fits demand velocity position slow = search rules

-- ---- one axis

module _ (before : Row) (old : Table) (a b : ℕ) (position : ℤ) (active : (axis_at old a).active ≡ Some b)
    (goes : position ≡ (before.at a).demand +ℤ step_of (axis_at old a) (block_at old b)) where
  pub ordered_active : (after : Row) (new : Table) →
      new ≡ with_axis old a (stepped (axis_at old a) (block_at old b)) →
      after ≡ followed_unless (follow_reason before a position) before a position →
      (trail : Trail) → world after new trail ≡ ordered (world before old trail) a
  unfolding ordered
  ordered_active after new table row trail =
      let left = row ∙ ap (λ (p : ℤ). followed_unless (follow_reason before a p) before a p) goes in
      (λ i. world (left i) (table i) trail)
      ∙ sym (ap (λ (o : Option ℕ). ordered_under o (world before old trail) a) active)

  pub noted_active : (refusal : Option Cause) → Noted (follow_reason before a position) refusal →
      (trail : Trail) → Noted (refusal_of (world before old trail) a) refusal
  unfolding refusal_of
  noted_active refusal noted trail =
      subst (λ (o : Option ℕ). Noted (refusal_under o (world before old trail) a) refusal) (sym active)
      (subst (λ (p : ℤ). Noted (follow_reason before a p) refusal) goes noted)

-- ---- all axes

pub ordered_none : (w : World) → w ≡ ordered_upto w 0
unfolding ordered_upto
ordered_none w = refl

pub ordered_more : (w v u : World) (n : ℕ) → v ≡ ordered_upto w n → u ≡ ordered v n → u ≡ ordered_upto w (n + 1)
unfolding ordered_upto
ordered_more w v u n e f = rw add-one (f ∙ ap (λ (x : World). ordered x n) e)

pub refused_none : (w : World) (refusals : List (Option Cause)) → RefusedUpto w refusals 0
refused_none w refusals = below_none (λ a. Noted (refusal_of (ordered_upto w a) a) (get_or refusals a None))

pub refused_more : (w v : World) (refusals : List (Option Cause)) (refusal : Option Cause) (n : ℕ) →
    n < length refusals → v ≡ ordered_upto w n → RefusedUpto w refusals n → Noted (refusal_of v n) refusal →
    RefusedUpto w (set refusals n refusal) (n + 1)
refused_more w v refusals refusal n within e all noted =
    below_more (λ a. Noted (refusal_of (ordered_upto w a) a) (get_or (set refusals n refusal) a None)) n
    (λ k h. let ne : k ≢ n = omega arith in rw (get_or-set_other refusals n k refusal None ne) (all k h))
    (rw (get_or-set_same refusals n refusal None within) (subst (λ (x : World). Noted (refusal_of x n) refusal) e noted))

-- the same, where the refusal is put at a place that is n
pub refused_at : (w v : World) (refusals : List (Option Cause)) (refusal : Option Cause) (n place : ℕ) → place ≡ n →
    n < length refusals → v ≡ ordered_upto w n → RefusedUpto w refusals n → Noted (refusal_of v n) refusal →
    RefusedUpto w (set refusals place refusal) (n + 1)
refused_at w v refusals refusal n place there within e all noted =
    rw there (refused_more w v refusals refusal n within e all noted)

-- the first n axes are ordered, and row, table and refusals are these
pub record OrderedFirst (before after : Row) (old new : Table) (refusals : List (Option Cause)) (n : ℕ) : Type 0 where
  pub so_far : (trail : Trail) → world after new trail ≡ ordered_upto (world before old trail) n
  pub noted : (trail : Trail) → RefusedUpto (world before old trail) refusals n
  pub long : length refusals ≡ 8
  pub count : after.count ≡ before.count
