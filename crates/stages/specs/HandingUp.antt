-- How deep a refusal is that a stage hands up. Assumes nothing.
use Rattle.std.specs.Prelude.{◌≡◌, ◌+◌, min, Ok, Err, Result}
use Rattle.segment.specs.declared.refusal.Refusal.{Refusal}

-- a refusal that is handed up is one stage deeper, counted to 15
abbrev pub Deeper : {X : Type 0} → Result X Refusal → Result X Refusal → Type 0
Deeper (Ok x) r = Unit {0}
Deeper (Err e) (Ok y) = ⊥
Deeper (Err e) (Err f) = f.depth ≡ min (e.depth + 1) 15
