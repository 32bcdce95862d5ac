-- What an axis says of its blocks, and which blocks a move leaves as they are. Assumes nothing.
use Rattle.std.proofs.Common.{◌≡◌, ℕ, ◌<◌, ◌≤◌, Bool, true, false, List, [], length, get_or, set, replicate, Some, None, Option, sym, refl, ◌∙◌, inl, inr, arith, length-set}
use Rattle.std.proofs.lemmas.List.{get_or-set_same, get_or-set_other, get_or-replicate, get_or_past}
use Rattle.std.proofs.lemmas.Grind.{get_or-set_at}
use Rattle.std.proofs.lemmas.Bool.{cases_eq, cases_lt}
use Rattle.records.specs.declared.motion.Command.{Command}
use Rattle.records.specs.declared.motion.Command.TheVariants as command
use Rattle.moves.specs.declared.table.Axis.{Axis}
use Rattle.moves.specs.declared.table.Block.{Block}
use Rattle.moves.specs.declared.table.Status.{Status}
use Rattle.moves.specs.declared.table.Status.TheVariants.{Waiting, Active}
use Rattle.moves.specs.Blocks.{is_busy, with_status}
use Rattle.moves.specs.Sheet.{idle_block, disabled_axis, new_table}

-- the block of a number
abbrev pub nth : List Block → ℕ → Block
nth bs b = get_or bs b idle_block

-- the axis of a number
abbrev pub axle : List Axis → ℕ → Axis
axle axs a = get_or axs a (disabled_axis [])

-- the block b is one of the table, with this status, on the axis a
pub record At (bs : List Block) (b a : ℕ) (status : Status) : Type 0 where
  pub within : b < 32
  pub stands : (nth bs b).status ≡ status
  pub axis : (nth bs b).axis ≡ a

-- a stop
abbrev pub is_stop : Option Command → Bool
is_stop None = false
is_stop (Some command.Absolute) = false
is_stop (Some command.Relative) = false
is_stop (Some command.Velocity) = false
is_stop (Some command.Halt) = false
is_stop (Some command.Stop) = true

-- the commands of the axis a are those of its blocks
pub record Line (bs : List Block) (a : ℕ) (y : Axis) : Type 0 where
  pub running : (b : ℕ) → y.active ≡ Some b → At bs b a Active
  pub waiting : (k : ℕ) → k < y.waiting → At bs (get_or y.queue k 0) a Waiting
  pub gentle : (k : ℕ) → k < y.waiting → is_stop (nth bs (get_or y.queue k 0)).command ≡ false
  pub apart : (j k : ℕ) → j < k → k < y.waiting → get_or y.queue j 0 ≡ get_or y.queue k 0 → ⊥
  pub only : (b : ℕ) → At bs b a Active → y.active ≡ Some b
  pub few : y.waiting ≤ 4

pub record Lines (bs : List Block) (axs : List Axis) : Type 0 where
  pub size : length axs ≡ 8
  pub queues : (d : ℕ) → d < 8 → length (axle axs d).queue ≡ 4
  pub each : (d : ℕ) → Line bs d (axle axs d)

pub at_same : {bs : List Block} {b a : ℕ} {status : Status} (cs : List Block) → nth cs b ≡ nth bs b → At bs b a status → At cs b a status
at_same cs e at = record {
  within = at.within;
  stands = cc;
  axis = cc;
}

-- ---- what a move of the axis a leaves

-- every block keeps its axis, none begins to wait, and one of another axis stays as it is
pub record Leaves (a : ℕ) (bs cs : List Block) : Type 0 where
  pub axes : (b : ℕ) → (nth cs b).axis ≡ (nth bs b).axis
  pub waits : (b : ℕ) → (nth cs b).status ≡ Waiting → (nth bs b).status ≡ Waiting
  pub others : (b : ℕ) → ((nth bs b).axis ≡ a → ⊥) → nth cs b ≡ nth bs b

pub leaves_all : (a : ℕ) (bs : List Block) → Leaves a bs bs
leaves_all a bs = record { axes = λ b. refl; waits = λ b e. e; others = λ b ne. refl }

pub leaves_then : {a : ℕ} {bs cs ds : List Block} → Leaves a bs cs → Leaves a cs ds → Leaves a bs ds
leaves_then one two = record {
  axes = λ b. two.axes b ∙ one.axes b;
  waits = λ b e. one.waits b (two.waits b e);
  others = λ b ne. two.others b (λ e. ne (sym (one.axes b) ∙ e)) ∙ one.others b ne;
}

pub leaves_status : (a b : ℕ) (bs : List Block) (status : Status) → (status ≡ Waiting → ⊥) → b < length bs → (nth bs b).axis ≡ a → Leaves a bs (set bs b (with_status (nth bs b) status))
leaves_status a b bs status calm h e = record {
  waits = λ c i. grind (arith, get_or-set_at, get_or-set_other);
  axes = λ c. grind (arith, get_or-set_at, get_or-set_other);
  others = λ c ne. grind (arith, get_or-set_other);
}

-- the line of another axis stays
pub line_left : {a d : ℕ} {bs cs : List Block} {y : Axis} → Leaves a bs cs → (d ≡ a → ⊥) → Line bs d y → Line cs d y
line_left {d = d} {bs = bs} {cs = cs} {y = y} left ne line = record {
  running = λ b e. let at = line.running b e in at_same cs (same at) at;
  waiting = λ k h. let at = line.waiting k h in at_same cs (same at) at;
  gentle = λ k h. rw (same (line.waiting k h)) (line.gentle k h);
  apart = line.apart;
  only = λ b at. line.only b (at_same bs (sym (left.others b (λ e. ne (sym at.axis ∙ left.axes b ∙ e)))) at);
  few = line.few;
}
  where
    same : {b : ℕ} {status : Status} → At bs b d status → nth cs b ≡ nth bs b
    same at = left.others _ (λ e. ne (sym at.axis ∙ e))

-- the line depends on the axis's commands only
pub line_same : {bs : List Block} {a : ℕ} {y : Axis} (z : Axis) → z.active ≡ y.active → z.queue ≡ y.queue → z.waiting ≡ y.waiting → Line bs a y → Line bs a z
line_same z e f g line = record {
  running = λ b i. line.running b cc;
  waiting = λ k h. rw f (line.waiting k (omega (arith, g)));
  gentle = λ k h. rw f (line.gentle k (omega (arith, g)));
  apart = λ j k h i q. line.apart j k h (omega (arith, g)) (rw f at q);
  only = λ b at. e ∙ line.only b at;
  few = omega (arith, g, line.few);
}

-- two statuses that differ are not those of one block
pub apart_by : {bs : List Block} {b c a d : ℕ} → At bs b a Active → At bs c d Waiting → b ≡ c → ⊥
apart_by r w e = cc

-- a block that is not busy is on no line
pub not_busy : {bs : List Block} {b c a : ℕ} {status : Status} → is_busy status ≡ true → At bs c a status → is_busy (nth bs b).status ≡ false → c ≡ b → ⊥
not_busy busy at idle e = cc

-- a block that is not busy is written anew, and is not active then
pub line_replaced : {bs : List Block} {d : ℕ} {y : Axis} (b : ℕ) (x : Block) → b < length bs → is_busy (nth bs b).status ≡ false → (x.status ≡ Active → ⊥) → Line bs d y → Line (set bs b x) d y
line_replaced {bs} {d} {y} b x h idle calm line = record {
  running = λ c e. let at = line.running c e in at_same (set bs b x) (same at refl) at;
  waiting = λ k i. let at = line.waiting k i in at_same (set bs b x) (same at refl) at;
  gentle = λ k i. rw (same (line.waiting k i) refl) (line.gentle k i);
  apart = line.apart;
  only = λ c at. elim (cases_eq c b) [
    | inl e ↦ let here = get_or-set_same bs b x idle_block h in absurd (calm cc)
    | inr ne ↦ line.only c (at_same bs (sym (get_or-set_other bs b c x idle_block ne)) at)
  ];
  few = line.few;
}
  where
    same : {c : ℕ} {status : Status} → At bs c d status → is_busy status ≡ true → nth (set bs b x) c ≡ nth bs c
    same at busy = get_or-set_other bs b _ x idle_block (not_busy {b = b} busy at idle)

-- an axis without commands
pub line_none : (bs : List Block) (a : ℕ) (y : Axis) → y.active ≡ None → y.waiting ≡ 0 → ((b : ℕ) → At bs b a Active → ⊥) → Line bs a y
line_none bs a y e w none = record {
  running = λ b i. cc;
  waiting = λ k h. absurd (omega (arith, w));
  gentle = λ k h. absurd (omega (arith, w));
  apart = λ j k h i. absurd (omega (arith, w));
  only = λ b at. absurd (none b at);
  few = omega (arith, w);
}

-- ---- one axis is written anew

-- one element of a list becomes another
pub each_set :
    {X : Type 0} (P : ℕ → X → Type 0) (xs : List X) (i : ℕ) (y d : X) → i < length xs → P i y →
    ((k : ℕ) → (k ≡ i → ⊥) → P k (get_or xs k d)) → (k : ℕ) → P k (get_or (set xs i y) k d)
each_set P xs i y d h here there k = elim (cases_eq k i) [
  | inl e ↦ rw (e, get_or-set_same xs i y d h) here
  | inr ne ↦ rw (get_or-set_other xs i k y d ne) (there k ne)
]

pub each_axle : (P : ℕ → Axis → Type 0) (axs : List Axis) (a : ℕ) (y : Axis) → length axs ≡ 8 → a < 8 → P a y → ((d : ℕ) → (d ≡ a → ⊥) → P d (axle axs d)) → (d : ℕ) → P d (axle (set axs a y) d)
each_axle P axs a y size ha = each_set P axs a y (disabled_axis []) (omega arith)

pub lines_with : {a : ℕ} {bs cs : List Block} {axs : List Axis} → Lines bs axs → Leaves a bs cs → a < 8 → (y : Axis) → length y.queue ≡ 4 → Line cs a y → Lines cs (set axs a y)
lines_with {a} {bs} {cs} {axs} lines left ha y long line = record {
  size = length-set axs a y ∙ lines.size;
  queues = λ d hd. each_axle (λ k z. k < 8 → length z.queue ≡ 4) axs a y lines.size ha (λ h. long) (λ k ne. lines.queues k) d hd;
  each = each_axle (λ k z. Line cs k z) axs a y lines.size ha line (λ k ne. line_left left ne (lines.each k));
}

-- ---- the axes of a new table, and past its last

pub fresh_axle : (P : Axis → Type 0) → P (disabled_axis (replicate 4 0)) → P (disabled_axis []) → (d : ℕ) → P (axle new_table.axes d)
fresh_axle P p q d = elim (cases_lt d 8) [
  | inl h ↦ rw (get_or-replicate 8 d (disabled_axis (replicate 4 0)) (disabled_axis []) h) p
  | inr h ↦ rw (get_or_past new_table.axes d (disabled_axis []) h) q
]
