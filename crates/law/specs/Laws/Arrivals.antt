-- Done means arrived. Assumes nothing.
use Rattle.std.specs.Prelude.{◌≡◌, ℕ, ◌+◌, ◌<◌, true, cond, List, [], ◌∷◌, ℤ, Some, ◌==◌}
use Rattle.segment.specs.declared.axis.AxisLook.{AxisLook}
use Rattle.segment.specs.Row.{Row}
use Rattle.records.specs.declared.kinds.Record.{Record}
use Rattle.records.specs.declared.kinds.Record.TheVariants.{Accept, Begin, End, State, Place, Cycle, Target}
use Rattle.records.specs.declared.motion.Command.{Command}
use Rattle.totals.specs.Counts.{done_one}
use Rattle.moves.specs.Blocks.{is_move}
use Rattle.law.specs.Readings.{LastAccept, LastTarget}

-- an end of the block b that is done counts one
abbrev pub done_end : ℕ → Record → ℕ
done_end b (Accept axis block command mode) = 0
done_end b (Begin axis block) = 0
done_end b (End axis block outcome) = cond (block == b) (done_one outcome) 0
done_end b (State axis old new) = 0
done_end b (Place position) = 0
done_end b (Cycle count) = 0
done_end b (Target position) = 0

-- how often the block b ended done
abbrev pub done_ends : ℕ → List Record → ℕ
done_ends b [] = 0
done_ends b (x ∷ rs) = done_end b x + done_ends b rs

-- the axis stands at the target
pub record StandsAt (look : AxisLook) (target : ℤ) : Type 0 where
  pub demand : look.demand ≡ target
  pub actual : look.actual ≡ target

-- where a call that led from the records rs to rs' ended a move done, the segment shows the move's axis at the target
-- that was written behind the move's begin
abbrev pub Arrives : List Record → List Record → Row → Type 0
Arrives rs rs' row =
    (b : ℕ) → done_ends b rs < done_ends b rs' →
    (axis : ℕ) (command : Command) → LastAccept b rs' axis command → is_move (Some command) ≡ true →
    (target : ℤ) × LastTarget b rs' target × StandsAt (row.at axis) target
