-- Drives keep to their lag and to the arrows of their profile. Assumes nothing.
use Rattle.std.proofs.Common.{◌≡◌, Bool, true, false, cond, eqb, ◌⊎◌, ℤ, pos, ◌+ℤ◌, ◌-ℤ◌, neg_ℤ, ◌≤ℤ◌, sym, refl, subst, inl, inr, arith}
use lib.Signed.{lt_z}
use Rattle.std.proofs.lemmas.Int.{ints, clamps}
use Rattle.drives.specs.declared.drive_state.DriveState.{DriveState}
use Rattle.drives.specs.declared.drive_state.DriveState.TheVariants.{NotReadyToSwitchOn, SwitchOnDisabled, ReadyToSwitchOn, SwitchedOn, OperationEnabled, FaultReactionActive, Fault}
use Rattle.drives.specs.Cia402.{Axis, state_cycled, state_off, state_cleared, with_state}
use Rattle.drives.specs.Laws.Cia402.{Lags, LagIsKept, Arrow, started, shut_down, switched_on, enabled, ready_disabled, on_disabled, enabled_disabled, reacts, faulted, reset_early, reset, StatesFollowArrows, PowersUp}
use Rattle.drives.specs.Orders.{power_on, power_off, follow_to, trip_with, clear_it, cycle_it}

-- what nearer comes to, by its two tests
lags_by :
    (up down : Bool) (a d lag : ℤ) → pos 1 ≤ℤ lag → lt_z lag (d -ℤ a) ≡ up → lt_z (d -ℤ a) (neg_ℤ lag) ≡ down →
    Lags a d lag (cond up (a +ℤ lag) (cond down (a -ℤ lag) d))
lags_by true down a d lag h u v = record {
  least = grind (arith, ints, clamps);
  most = grind (arith, ints, clamps);
  low = grind (arith, ints, clamps);
  high = grind (arith, ints, clamps);
  there = λ p q. grind (arith, ints, clamps);
}
lags_by false true a d lag h u v = record {
  least = grind (arith, ints, clamps);
  most = grind (arith, ints, clamps);
  low = grind (arith, ints, clamps);
  high = grind (arith, ints, clamps);
  there = λ p q. grind (arith, ints, clamps);
}
lags_by false false a d lag h u v = record {
  least = grind (arith, ints, clamps);
  most = grind (arith, ints, clamps);
  low = grind (arith, ints, clamps);
  high = grind (arith, ints, clamps);
  there = λ p q. refl;
}

pub lag_is_kept : LagIsKept
lag_is_kept a d lag h = lags_by (lt_z lag (d -ℤ a)) (lt_z (d -ℤ a) (neg_ℤ lag)) a d lag h refl refl

abbrev StaysOrArrow : DriveState → DriveState → Type 0
StaysOrArrow before after = (after ≡ before) ⊎ Arrow before after

off_arrow : (state : DriveState) → StaysOrArrow state (state_off state)
off_arrow NotReadyToSwitchOn = inl refl
off_arrow SwitchOnDisabled = inl refl
off_arrow ReadyToSwitchOn = inr ready_disabled
off_arrow SwitchedOn = inr on_disabled
off_arrow OperationEnabled = inr enabled_disabled
off_arrow FaultReactionActive = inl refl
off_arrow Fault = inl refl

cleared_arrow : (state : DriveState) → StaysOrArrow state (state_cleared state)
cleared_arrow NotReadyToSwitchOn = inl refl
cleared_arrow SwitchOnDisabled = inl refl
cleared_arrow ReadyToSwitchOn = inl refl
cleared_arrow SwitchedOn = inl refl
cleared_arrow OperationEnabled = inl refl
cleared_arrow FaultReactionActive = inr reset_early
cleared_arrow Fault = inr reset

cycled_arrow : (state : DriveState) (requested : Bool) → StaysOrArrow state (state_cycled state requested)
cycled_arrow NotReadyToSwitchOn requested = inr started
cycled_arrow SwitchOnDisabled true = inr shut_down
cycled_arrow SwitchOnDisabled false = inl refl
cycled_arrow ReadyToSwitchOn requested = inr switched_on
cycled_arrow SwitchedOn requested = inr enabled
cycled_arrow OperationEnabled requested = inl refl
cycled_arrow FaultReactionActive requested = inr faulted
cycled_arrow Fault requested = inl refl

trip_arrow :
    (calm : Bool) (tripped x : Axis) → tripped.state ≡ FaultReactionActive →
    StaysOrArrow x.state (cond calm tripped x).state
trip_arrow true tripped x e = inr (subst (λ s. Arrow x.state s) (sym e) reacts)
trip_arrow false tripped x e = inl refl

pub states_follow_arrows : StatesFollowArrows
states_follow_arrows power_on x = inl refl
states_follow_arrows power_off x = off_arrow x.state
states_follow_arrows (follow_to position) x = inl refl
states_follow_arrows (trip_with code) x =
    trip_arrow (eqb x.fault 0) (with_state FaultReactionActive false code x) x refl
states_follow_arrows clear_it x = cleared_arrow x.state
states_follow_arrows cycle_it x = cycled_arrow x.state x.requested

pub powers_up : PowersUp
powers_up NotReadyToSwitchOn h = refl
powers_up SwitchOnDisabled h = refl
powers_up ReadyToSwitchOn h = refl
powers_up SwitchedOn h = refl
powers_up OperationEnabled h = refl
powers_up FaultReactionActive h = absurd h
powers_up Fault h = absurd h
