-- The active command of an axis ends, and its turn goes on. Assumes nothing.
use Rattle.std.proofs.Common.{◌≡◌, ℕ, ◌<◌, true, List, [], ◌∷◌, get_or, set, ℤ, Some, sym, refl, ap, inl, arith}
use Rattle.std.proofs.lemmas.List.{get_or-set_same, get_or-set_other}
use Rattle.segment.specs.Row.{Row}
use Rattle.records.specs.declared.kinds.Record.{Record}
use Rattle.records.specs.declared.kinds.Record.TheVariants.{End, Place}
use Rattle.records.specs.declared.outcome.Outcome.{Outcome}
use Rattle.records.specs.declared.outcome.Outcome.TheVariants.{Done}
use Rattle.words.specs.Words.{lawful_outcome, in_reach}
use Rattle.moves.specs.declared.table.Block.{Block}
use Rattle.moves.specs.declared.table.Status.TheVariants as status
use Rattle.moves.specs.declared.table.Status.TheVariants.{Waiting, Active}
use Rattle.moves.specs.Axes.{without_active}
use Rattle.moves.specs.Moves.{ended, retired, finished}
use Rattle.moves.specs.Sheet.{Sheet, idle_block, disabled_axis}
use Rattle.law.specs.Readings.{LastTarget}
use Rattle.law.proofs.Ends.{ended_active_ones, ended_other, ended_axes, ended_leaves}
use Rattle.law.proofs.Lines.{nth, axle, At, Line, Leaves, at_same, apart_by}
use Rattle.law.proofs.Parts.{Open, open_on}
use Rattle.law.proofs.Told.{Told, told_ended, told_placed, told_kept}

module _ {a : ℕ} {C : ℕ → Type 0} {n : ℕ} {before : List ℕ} {rs : List Record} {s : Sheet} {row : Row} (turn : Open a C n before rs s row) (ha : a < 8) (b : ℕ) (active : (axle s.table.axes a).active ≡ Some b) (o : Outcome) where
  own : At s.table.blocks b a Active
  own = (turn.lines.each a).running b active

  -- no command of the axis is active then
  pub none_runs : (c : ℕ) → At (ended s a b o).table.blocks c a Active → ⊥
  none_runs c z =
      let old = ended_active_ones turn.told a b o own.within z in
      let e = (turn.lines.each a).only c old.0 in old.1 cc

  -- one that waits is not the one that ended
  pub still_waits : (k : ℕ) → k < (axle s.table.axes a).waiting → nth (ended s a b o).table.blocks (get_or (axle s.table.axes a).queue k 0) ≡ nth s.table.blocks (get_or (axle s.table.axes a).queue k 0)
  still_waits k h = ended_other turn.told a b o own.within _ (λ e. apart_by own ((turn.lines.each a).waiting k h) (sym e))

  line_after : Line (ended s a b o).table.blocks a (without_active (axle s.table.axes a))
  line_after =
      let line = turn.lines.each a in
      let cs = (ended s a b o).table.blocks in
      record {
        running = λ c e. cc;
        waiting = λ k h. at_same cs (still_waits k h) (line.waiting k h);
        gentle = λ k h. rw (still_waits k h) (line.gentle k h);
        apart = line.apart;
        only = λ c z. absurd (none_runs c z);
        few = line.few;
      }

  leaves_after : Leaves a s.table.blocks (ended s a b o).table.blocks
  leaves_after = ended_leaves turn.told a b o own.within own.axis

  same_state : (axle s.table.axes a).state ≡ (axle (ended s a b o).table.axes a).state
  same_state = rw (ended_axes turn.told a b o own.within)

  axes_after : set (ended s a b o).table.axes a (without_active (axle s.table.axes a)) ≡ set s.table.axes a (without_active (axle s.table.axes a))
  axes_after = rw (ended_axes turn.told a b o own.within)

  told_after : lawful_outcome o ≡ true → Told n before (End a b o ∷ rs) (ended s a b o)
  told_after lawful = told_ended turn.told a b o ha own.within lawful own.axis (inl own.stands)

  pub retired_open : lawful_outcome o ≡ true → Open a C n before (End a b o ∷ rs) (retired s a b o) row
  unfolding retired
  retired_open lawful =
      open_on turn (told_kept (told_after lawful) a (without_active (axle s.table.axes a)) ha same_state)
      (without_active (axle s.table.axes a)) axes_after ha leaves_after (turn.lines.queues a ha) line_after
      (λ c ne t last. LastTarget.before refl last)

  pub retired_own : axle (retired s a b o).table.axes a ≡ without_active (axle s.table.axes a)
  unfolding retired
  retired_own = rw axes_after (get_or-set_same s.table.axes a _ (disabled_axis []) (omega (arith, turn.lines.size)))

  pub retired_others : (d : ℕ) → (d ≡ a → ⊥) → axle (retired s a b o).table.axes d ≡ axle s.table.axes d
  unfolding retired
  retired_others d ne = rw axes_after (get_or-set_other s.table.axes a d _ (disabled_axis []) ne)

  -- the blocks are those after the end
  pub retired_blocks : (retired s a b o).table.blocks ≡ (ended s a b o).table.blocks
  unfolding retired
  retired_blocks = refl

  pub retired_leaves : Leaves a s.table.blocks (retired s a b o).table.blocks
  unfolding retired
  retired_leaves = leaves_after

module _ {a : ℕ} {C : ℕ → Type 0} {n : ℕ} {before : List ℕ} {rs : List Record} {s : Sheet} {row : Row} (turn : Open a C n before rs s row) (ha : a < 8) (b : ℕ) (active : (axle s.table.axes a).active ≡ Some b) (place : ℤ) (reach : in_reach place ≡ true) where
  pub finished_open : Open a C n before (Place place ∷ End a b Done ∷ rs) (finished s a b place) row
  unfolding finished
  finished_open =
      open_on turn (told_kept (told_placed (told_after turn ha b active Done refl) place reach) a (without_active (axle s.table.axes a)) ha (same_state turn ha b active Done))
      (without_active (axle s.table.axes a)) (axes_after turn ha b active Done) ha (leaves_after turn ha b active Done) (turn.lines.queues a ha) (line_after turn ha b active Done)
      (λ c ne t last. LastTarget.before refl (LastTarget.before refl last))

  pub finished_own : axle (finished s a b place).table.axes a ≡ without_active (axle s.table.axes a)
  unfolding finished
  finished_own = rw (axes_after turn ha b active Done) (get_or-set_same s.table.axes a _ (disabled_axis []) (omega (arith, turn.lines.size)))

  pub finished_others : (d : ℕ) → (d ≡ a → ⊥) → axle (finished s a b place).table.axes d ≡ axle s.table.axes d
  unfolding finished
  finished_others d ne = rw (axes_after turn ha b active Done) (get_or-set_other s.table.axes a d _ (disabled_axis []) ne)

  -- the block that ended is done
  pub finished_done : (nth (finished s a b place).table.blocks b).status ≡ status.Done
  unfolding finished ended
  finished_done = ap (λ (x : Block). x.status) (get_or-set_same s.table.blocks b _ idle_block (omega (arith, turn.told.good.size, (own turn ha b active Done).within)))

  -- the blocks are those after the end
  pub finished_blocks : (finished s a b place).table.blocks ≡ (ended s a b Done).table.blocks
  unfolding finished
  finished_blocks = refl

  pub finished_leaves : Leaves a s.table.blocks (finished s a b place).table.blocks
  unfolding finished
  finished_leaves = leaves_after turn ha b active Done
