-- Where a command leads is in reach. Assumes nothing.
use Rattle.std.proofs.Common.{◌≡◌, Bool, true, false, cond, ℤ, ◌+ℤ◌, Some, None, Ok, Err, Option, refl, arith}
use Rattle.std.proofs.lemmas.Int.{ints}
use Rattle.segment.specs.declared.axis.AxisLook.{AxisLook}
use Rattle.segment.specs.Calls.{in_range}
use Rattle.segment.specs.Row.{Sound}
use Rattle.records.specs.declared.motion.Command.{Command}
use Rattle.records.specs.declared.motion.Command.TheVariants.{Absolute, Relative, Velocity, Halt, Stop}
use Rattle.words.specs.Words.{in_reach}
use Rattle.moves.specs.declared.table.Block.{Block}
use Rattle.moves.specs.Blocks.{Aim, aimed, aimed_at, aim_of, block_aim}

-- an aim with a target has one that a record can tell
abbrev pub ReachesAim : Aim → Type 0
ReachesAim (Ok None) = Unit {0}
ReachesAim (Ok (Some target)) = in_reach target ≡ true
ReachesAim (Err out) = Unit {0}

-- a sound range lies within the positions, and so does what lies in it
in_range_reaches : (look : AxisLook) (position : ℤ) → Sound look → in_range look position ≡ true →
    in_reach position ≡ true
in_range_reaches look position sound within = grind (arith, ints)

tested_reaches : (position : ℤ) (within : Bool) → (within ≡ true → in_reach position ≡ true) →
    ReachesAim (aimed (cond within (Some position) None))
tested_reaches position true reaches = reaches refl
tested_reaches position false reaches = tt

aimed_reaches : (look : AxisLook) (position : ℤ) → Sound look → ReachesAim (aimed_at look position)
aimed_reaches look position sound =
    tested_reaches position (in_range look position) (in_range_reaches look position sound)

command_reaches : (command : Option Command) (value : ℤ) (look : AxisLook) → Sound look →
    ReachesAim (aim_of command value look)
command_reaches None value look sound = tt
command_reaches (Some Absolute) value look sound = aimed_reaches look value sound
command_reaches (Some Relative) value look sound = aimed_reaches look (look.demand +ℤ value) sound
command_reaches (Some Velocity) value look sound = tt
command_reaches (Some Halt) value look sound = tt
command_reaches (Some Stop) value look sound = tt

-- the target of a block's command, where the axis looks sound, is in reach
pub aim_reaches : (x : Block) (look : AxisLook) → Sound look → ReachesAim (block_aim x look)
aim_reaches x look sound = command_reaches x.command x.value look sound
