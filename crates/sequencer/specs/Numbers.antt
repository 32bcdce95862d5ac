-- The number of each refusal. Assumes nothing.
use Rattle.std.specs.Prelude.{ℕ}
use Rattle.sequencer.specs.declared.refusal.Refusal.{Refusal}
use Rattle.sequencer.specs.declared.refusal.Refusal.TheVariants.{NoSuchBlock, BlockNotIdle, BlockBusy, NoSuchAxis, BadValue, WrongState, QueueFull, OutOfRange, TrailFull}

-- the number of a refusal
abbrev pub refusal_number : Refusal → ℕ
refusal_number NoSuchBlock = 1
refusal_number BlockNotIdle = 2
refusal_number BlockBusy = 3
refusal_number NoSuchAxis = 4
refusal_number BadValue = 5
refusal_number WrongState = 6
refusal_number QueueFull = 7
refusal_number OutOfRange = 8
refusal_number TrailFull = 9
