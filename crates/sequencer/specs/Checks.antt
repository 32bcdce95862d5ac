-- What a check answers. Assumes nothing.
use Rattle.std.specs.Prelude.{◌≡◌, Some, None, Ok, Err, Option, Result}
use Rattle.sequencer.specs.declared.refusal.Refusal.{Refusal}

-- a check passes where nothing is refused, and else answers the refusal
abbrev pub Checked : {T : Type 0} → Option Refusal → Result T Refusal → Type 0
Checked refusal (Ok _) = refusal ≡ None
Checked refusal (Err e) = refusal ≡ Some e
