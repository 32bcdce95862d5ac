-- An axis fails by a lawful cause; what a segment shows is in reach. Assumes nothing.
use Rattle.std.proofs.Common.{◌≡◌, ℕ, ◌≤◌, Bool, true, cond, not, ◌&&◌, eqb, leb, ℤ, Some, None, Option, sym, subst, arith}
use Rattle.std.proofs.lemmas.Int.{ints}
use Rattle.std.proofs.lemmas.Bool.{and_from, and_parts, not-true, eqb-false, le-leb, cond_both}
use Rattle.segment.specs.declared.axis.AxisLook.{AxisLook}
use Rattle.segment.specs.Row.{Position, Sound}
use Rattle.records.specs.declared.outcome.Cause.{Cause}
use Rattle.records.specs.declared.outcome.Cause.TheVariants.{Drive}
use Rattle.words.specs.Words.{in_reach, lawful_cause}
use Rattle.moves.specs.declared.table.Axis.{Axis}
use Rattle.moves.specs.declared.table.Block.{Block}
use Rattle.moves.specs.Axes.{is_errorstop}
use Rattle.turns.specs.declared.turn.Turn.{Turn}
use Rattle.turns.specs.declared.turn.Turn.TheVariants.{Rest, Fail, Enable, Finish, Yield}
use Rattle.turns.specs.Turns.{reached, yields, enables, faults, turn_under, turn_after, turn_of}
use Rattle.motion.specs.Causes.{LawfulNoted}

-- what a segment shows, a record can tell
pub position_in_reach : (p : ℤ) → Position p → in_reach p ≡ true
position_in_reach p position = grind (arith, ints)

-- the cause of a turn that fails is lawful
abbrev FailsLawfully : Turn ℕ → Type 0
FailsLawfully Rest = Unit {0}
FailsLawfully (Fail cause) = lawful_cause cause ≡ true
FailsLawfully Enable = Unit {0}
FailsLawfully (Finish b) = Unit {0}
FailsLawfully (Yield b) = Unit {0}

fault_lawful : (fault : ℕ) (calm : Bool) → fault ≤ 15 → (not (eqb fault 0) && calm) ≡ true → lawful_cause (Drive fault) ≡ true
fault_lawful fault calm most e =
    let some = eqb-false fault 0 (not-true (eqb fault 0) (and_parts (not (eqb fault 0)) calm e).0) in
    let least : 1 ≤ fault = omega arith in
    and_from (leb 1 fault) (leb fault 15) (le-leb 1 fault least) (le-leb fault 15 most)

under_fails : (active : Option ℕ) (y : Axis) (x : Block) (look : AxisLook) → FailsLawfully (turn_under active y x look)
under_fails None y x look = tt
under_fails (Some b) y x look =
    cond_both (reached y x look) (Finish b) (cond (yields y x) (Yield b) Rest) FailsLawfully (λ _. tt)
    (λ _. cond_both (yields y x) (Yield b) Rest FailsLawfully (λ _. tt) (λ _. tt))

after_fails : (refusal : Option Cause) (others : Turn ℕ) → LawfulNoted refusal → FailsLawfully others → FailsLawfully (turn_after refusal others)
after_fails None others lawful fails = fails
after_fails (Some cause) others lawful fails = lawful

turn_fails : (y : Axis) (x : Block) (look : AxisLook) (refusal : Option Cause) → Sound look → LawfulNoted refusal →
    FailsLawfully (turn_of y x look refusal)
unfolding turn_of
turn_fails y x look refusal sound lawful =
    let under = turn_under y.active y x look in
    let others = cond (enables y look) Enable under in
    cond_both (faults y look) (Fail (Drive look.fault)) (turn_after refusal others) FailsLawfully
    (λ e. fault_lawful look.fault (not (is_errorstop y.state)) sound.fault e)
    (λ _. after_fails refusal others lawful
    (cond_both (enables y look) Enable under FailsLawfully (λ _. tt) (λ _. under_fails y.active y x look)))

pub lawful_turn : (y : Axis) (x : Block) (look : AxisLook) (refusal : Option Cause) (cause : Cause) →
    Sound look → LawfulNoted refusal → Fail cause ≡ turn_of y x look refusal → lawful_cause cause ≡ true
lawful_turn y x look refusal cause sound lawful is =
    subst FailsLawfully (sym is) (turn_fails y x look refusal sound lawful)
