-- The row that a bank shows: its first n drives, each as it is seen. Assumes nothing.
use Rattle.std.proofs.Common.{◌≡◌, ℕ, ◌+◌, ◌<◌, ◌≤◌, ◌≢◌, List, [], ◌∷◌, ◌++◌, map, length, get_or, take, set, sym, refl, ap, ◌∙◌, subst, ⊎_elim, arith, length-take, get_or-set_other, get_or-take, get_or-set_same}
use lib.Seq.{take-set-lt, map-set}
use Rattle.std.proofs.lemmas.List.{length-map, length-take-le, get_or-map, get_or_append_left, get_or_default}
use Rattle.std.proofs.lemmas.Bool.{cases_eq}
use Rattle.segment.specs.declared.axis.AxisLook.{AxisLook}
use Rattle.segment.specs.Row.{changed}
use Rattle.segment.specs.Cycle.{AxisCycled, Cycled}
use Rattle.segment.proofs.Stages.{at_changed}
use Rattle.drives.specs.Orders.{Order, cycle_it, Obeyed}
use Rattle.drives.specs.Shown.{blank, shown_row}

-- a list that is not empty has an element to stand for the default
some_of : {D : Type 0} (xs : List D) (k : ℕ) → k < length xs → D
some_of [] k h = absurd (omega arith)
some_of (x ∷ xs) k h = x

module _ {D : Type 0} (f : D → AxisLook) (n : ℕ) (xs : List D) (within : n ≤ length xs) where
  pub shown_at : (i : ℕ) (d : D) → i < n → (shown_row f n xs).at i ≡ f (get_or xs i d)
  shown_at i d h =
      let l : i < length (take n xs) = simp length-take (omega arith) in
      get_or-map f (take n xs) i d blank l ∙ ap f (get_or-take n xs i d h)

  pub shown_changed : (g : AxisLook → AxisLook) (i : ℕ) (d y : D) → i < n → f y ≡ g (f (get_or xs i d))
      → shown_row f n (set xs i y) ≡ changed g (shown_row f n xs) i
  shown_changed g i d y h s =
      let row = map f (take n xs) in
      let l : i < length row = simp (length-map, length-take) (omega arith) in
      let e : map f (take n (set xs i y)) ≡ set row i (f y) =
      ap (map f) (take-set-lt n xs i y h) ∙ map-set f (take n xs) i y in
      let each = at_changed g (λ k. get_or row k blank) (λ k. get_or (map f (take n (set xs i y))) k blank) i
      (ap (λ ys. get_or ys i blank) e ∙ get_or-set_same row i (f y) blank l ∙ s ∙ ap g (sym (shown_at i d h)))
      (λ k ne. ap (λ ys. get_or ys k blank) e ∙ get_or-set_other row i k (f y) blank ne) in
      λ j. record { count = n; at = λ k. each k j }

-- a drive ran its cycle, as it is seen and exactly
pub record Turned {D : Type 0} (seen : D → AxisLook) (obeys : Order → D → D → Type 0) (before after : D) : Type 0 where
  pub shows : AxisCycled (seen before) (seen after)
  pub exact : obeys cycle_it before after

-- a loop that has changed the drives below i, each as R allows
module _ {D : Type 0} (R : D → D → Type 0) (xs ys : List D) (i : ℕ) where
  abbrev pub Gone : Type 0
  Gone =
      ((k : ℕ) (d : D) → k < i → R (get_or xs k d) (get_or ys k d)) ×
      ((k : ℕ) (d : D) → i ≤ k → get_or ys k d ≡ get_or xs k d)

pub gone_more : {D : Type 0} (R : D → D → Type 0) (xs ys : List D) (i : ℕ) (x y : D) → i < length ys
    → Gone R xs ys i → R (get_or ys i x) y → Gone R xs (set ys i y) (i + 1)
gone_more {D} R xs ys i x y lt inv r = (
  (λ k d h. ⊎_elim (here k d) (there k d h) (cases_eq k i)),
  (λ k d h. let ne : k ≢ i = omega arith in rw get_or-set_other (inv.1 k d (omega arith))),
)
  where
    at_i : (d : D) → R (get_or xs i d) (get_or (set ys i y) i d)
    at_i d = rw get_or-set_same (rw (← inv.1 i d (omega arith), get_or_default ys i d x lt) r)

    here : (k : ℕ) (d : D) → k ≡ i → R (get_or xs k d) (get_or (set ys i y) k d)
    here k d e = let P : ℕ → Type 0 = λ n. R (get_or xs n d) (get_or (set ys i y) n d) in subst P (sym e) (at_i d)

    there : (k : ℕ) (d : D) → k < i + 1 → (k ≡ i → ⊥) → R (get_or xs k d) (get_or (set ys i y) k d)
    there k d h ne = let other : k ≢ i = ne in rw get_or-set_other (inv.0 k d (omega arith))

-- after a loop that went through the first n, with the others behind them
pub gone_all : {D : Type 0} (R : D → D → Type 0) (n i : ℕ) (xs ys rest : List D) → n ≤ length xs → length ys ≡ length (take n xs)
    → length (take n xs) ≤ i → Gone R (take n xs) ys i → (k : ℕ) (d : D) → k < n → R (get_or xs k d) (get_or (ys ++ rest) k d)
gone_all R n i xs ys rest p l q gone k d h =
    let n_long = length-take-le n xs p in
    let in_ys : k < length ys = omega arith in
    rw (get_or_append_left, ← get_or-take n xs k d h) (gone.0 k d (omega arith))

pub shown_cycled : {D : Type 0} (f : D → AxisLook) (n m : ℕ) (xs ys : List D) → m ≡ n → n ≤ length xs → n ≤ length ys
    → ((k : ℕ) (d : D) → k < n → AxisCycled (f (get_or xs k d)) (f (get_or ys k d))) → Cycled (shown_row f n xs) (shown_row f m ys)
shown_cycled {D} f n m xs ys e p q h =
    rw e
    (record { count = refl; each = λ k lt. let d : D = some_of xs k (omega arith) in rw (shown_at f n xs p k d lt, shown_at f n ys q k d lt) (h k d lt) })

-- a drive of the row obeyed, and the others stayed
pub obeyed_set :
    {D : Type 0} (obeys : Order → D → D → Type 0) (order : Order) (axis : ℕ) (xs : List D) (x y : D) →
    axis < length xs → obeys order (get_or xs axis x) y → Obeyed obeys order axis xs (set xs axis y)
obeyed_set obeys order axis xs x y lt o = record {
  here = λ d. rw get_or-set_same (rw (get_or_default xs axis d x lt) o);
  others = λ k d ne. let other : k ≢ axis = ne in rw get_or-set_other;
}
