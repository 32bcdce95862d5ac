-- The cause that a refused follow leaves. Assumes nothing.
use Rattle.std.specs.Prelude.{◌≡◌, true, Some, None, Option}
use Rattle.records.specs.declared.outcome.Cause.{Cause}
use Rattle.words.specs.Words.{lawful_cause}

-- no cause, or a lawful one
abbrev pub LawfulNoted : Option Cause → Type 0
LawfulNoted None = Unit {0}
LawfulNoted (Some cause) = lawful_cause cause ≡ true
