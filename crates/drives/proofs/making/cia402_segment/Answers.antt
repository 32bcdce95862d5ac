use Rattle.std.proofs.Common.{rules}
use Rattle.std.proofs.lemmas.Bool.{and_left, and_right, and_from}
use Rattle.drives.proofs.Profile.{lag_is_kept, states_follow_arrows, powers_up}
use Rattle.drives.proofs.making.cia402_segment.Goals as goal

pub returns-in_err-settings : goal.returns-in_err-settings
returns-in_err-settings c = record { made = search rules; lags = lag_is_kept; arrows = states_follow_arrows; powers = powers_up }

pub returns-in_err-lag : goal.returns-in_err-lag
returns-in_err-lag c = record { made = search (rules, and_right); lags = lag_is_kept; arrows = states_follow_arrows; powers = powers_up }

pub returns : goal.returns
returns c = record { made = search (rules, and_left, and_right, and_from); lags = lag_is_kept; arrows = states_follow_arrows; powers = powers_up }
