-- The last accept of a block is that of its open round; which ends are done. Assumes nothing.
use Rattle.std.proofs.Common.{◌≡◌, ℕ, Bool, true, false, cond, List, ◌∷◌, Some, Option, refl, arith}
use Rattle.std.proofs.lemmas.Bool.{eqb-false}
use Rattle.records.specs.declared.kinds.Record.{Record}
use Rattle.records.specs.declared.kinds.Record.TheVariants.{End}
use Rattle.records.specs.declared.motion.Command.{Command}
use Rattle.records.specs.declared.outcome.Outcome.{Outcome}
use Rattle.law.specs.Laws.Accounts.{Rounds, is_done}
use Rattle.law.specs.Laws.Accounts.Rounds.{other, accepted, begun}
use Rattle.law.specs.Laws.Accounts.Stage.{waits, runs}
use Rattle.law.specs.Laws.Arrivals.{done_end}
use Rattle.law.specs.Readings.{LastAccept, accepts}

-- a command that waits is that of the last accept
pub last_of_waits :
    {b a' : ℕ} {c' : Command} {a : ℕ} {c : Option Command} {rs : List Record} →
    Rounds b rs (waits a c) → LastAccept b rs a' c' → (a' ≡ a) × (Some c' ≡ c)
last_of_waits (other e r) (LastAccept.here q) = absurd (eqb-false _ _ e q)
last_of_waits (other e r) (LastAccept.before p l) = last_of_waits r l
last_of_waits (accepted r) (LastAccept.here q) = (refl, refl)
last_of_waits {b = b} (accepted r) (LastAccept.before p l) = absurd (eqb-false b b p refl)

-- and so is one that has begun
pub last_of_runs :
    {b a' : ℕ} {c' : Command} {a : ℕ} {c : Option Command} {rs : List Record} →
    Rounds b rs (runs a c) → LastAccept b rs a' c' → (a' ≡ a) × (Some c' ≡ c)
last_of_runs (other e r) (LastAccept.here q) = absurd (eqb-false _ _ e q)
last_of_runs (other e r) (LastAccept.before p l) = last_of_runs r l
last_of_runs (begun r) (LastAccept.before p l) = last_of_waits r l

-- a record that accepts nothing for the block leaves its last accept
pub accept_before :
    {b axis : ℕ} {command : Command} {x : Record} {rs : List Record} →
    accepts b x ≡ false → LastAccept b (x ∷ rs) axis command → LastAccept b rs axis command
accept_before e (LastAccept.here q) = absurd (eqb-false _ _ e q)
accept_before e (LastAccept.before p l) = l

-- the end of another block is not done for this one
pub done_end_other : (c a b : ℕ) (o : Outcome) → (b ≡ c → ⊥) → done_end c (End a b o) ≡ 0
done_end_other c a b o ne = grind arith

-- nothing either way is nothing
nothing : (t : Bool) → ◌≡◌ {A = ℕ} (cond t 0 0) 0
nothing true = refl
nothing false = refl

-- nor is an end that is not done
pub done_end_not : (c a b : ℕ) (o : Outcome) → is_done o ≡ false → done_end c (End a b o) ≡ 0
done_end_not c a b o e = grind arith
