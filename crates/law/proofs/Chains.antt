-- What ties the state words to the axes, and the steps that keep it. Assumes nothing.
use Rattle.std.proofs.Common.{◌≡◌, ℕ, ◌<◌, false, List, [], ◌∷◌, length, get_or, set, replicate, sym, refl, ◌∙◌, length-set}
use Rattle.std.proofs.lemmas.Bool.{ne_eqb}
use Rattle.records.specs.declared.kinds.Record.{Record}
use Rattle.records.specs.declared.kinds.Record.TheVariants.{State}
use Rattle.moves.specs.declared.table.Axis.{Axis}
use Rattle.moves.specs.Sheet.{disabled_axis}
use Rattle.law.specs.Laws.States.{Arrow, Chain}
use Rattle.law.specs.Laws.States.Chain.{starts, other, goes}
use Rattle.law.specs.Readings.{states}
use Rattle.law.proofs.Lines.{each_axle, fresh_axle}

-- each axis's state words lead to its state; past the last axis there are none
pub record Chained (rs : List Record) (axs : List Axis) : Type 0 where
  pub size : length axs ≡ 8
  pub each : (a : ℕ) → Chain a rs (get_or axs a (disabled_axis [])).state

pub chained_new : Chained [] (replicate 8 (disabled_axis (replicate 4 0)))
chained_new = record { size = refl; each = λ a. fresh_axle (λ y. Chain a [] y.state) starts starts a }

module _ {rs : List Record} {axs : List Axis} (chained : Chained rs axs) where
  -- a record that is no state word
  pub chained_other : (x : Record) → ((a : ℕ) → states a x ≡ false) → Chained (x ∷ rs) axs
  chained_other x no-state = record { size = chained.size; each = λ a. other (no-state a) (chained.each a) }

  -- an axis is written anew, in the state that it has
  pub chained_kept :
      (a : ℕ) (y : Axis) → a < 8 → y.state ≡ (get_or axs a (disabled_axis [])).state → Chained rs (set axs a y)
  chained_kept a y h same = record {
    size = length-set axs a y ∙ chained.size;
    each = each_axle (λ c z. Chain c rs z.state) axs a y chained.size h (rw same (chained.each a)) (λ c ne. chained.each c);
  }

  -- an axis goes along an arrow, with its word
  pub chained_entered :
      (a : ℕ) (y : Axis) → a < 8 → Arrow (get_or axs a (disabled_axis [])).state y.state →
      Chained (State a (get_or axs a (disabled_axis [])).state y.state ∷ rs) (set axs a y)
  chained_entered a y h arrow = record {
    size = length-set axs a y ∙ chained.size;
    each = each_axle (λ c z. Chain c (State a (get_or axs a (disabled_axis [])).state y.state ∷ rs) z.state)
        axs a y chained.size h (goes (chained.each a) arrow)
        (λ c ne. other (ne_eqb a c (λ e. ne (sym e))) (chained.each c));
  }
