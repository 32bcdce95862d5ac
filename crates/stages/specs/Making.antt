-- What soft limits are made of, and when they are refused. Assumes nothing.
use Rattle.std.specs.Prelude.{◌≡◌, ℤ}
use Rattle.segment.specs.declared.refusal.Reason.TheVariants.{Setting}
use Rattle.segment.specs.declared.refusal.Refusal.{Refusal}
use Rattle.segment.specs.Row.{Position}
use Rattle.stages.specs.declared.limits.Limits.{Limits}

-- limits with this low and high, both of them positions
pub record MadeOf (low high : ℤ) (limits : Limits) : Type 0 where
  pub is_low : limits.low ≡ low
  pub is_high : limits.high ≡ high
  pub low_in : Position low
  pub high_in : Position high

-- the refusal of a low and a high that are not both positions
pub record SettingRefused (low high : ℤ) (refusal : Refusal) : Type 0 where
  pub outside : Position low × Position high → ⊥
  pub reason : refusal.reason ≡ Setting
  pub depth : refusal.depth ≡ 0
