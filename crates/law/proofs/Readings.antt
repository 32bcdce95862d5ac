-- One word more: the records that are read, and what their ends count. Assumes nothing.
use Rattle.std.proofs.Common.{◌≡◌, ℕ, ◌+◌, List, [], ◌∷◌, ◌++◌, Some, None, Option, refl, arith}
use Rattle.std.proofs.lemmas.List.{append-nil, append_assoc}
use Rattle.records.specs.declared.kinds.Record.{Record}
use Rattle.records.specs.declared.outcome.Outcome.{Outcome}
use Rattle.words.specs.Reading.{reading, first_of, first_bad}
use Rattle.words.specs.Words.{word, Lawful}
use Rattle.words.proofs.Faithful.{read_back}
use Rattle.totals.specs.Counts.{end_one, counts, ends}
use Rattle.law.specs.Readings.{read_one, records_of}

-- what the ends of the records count
abbrev pub ends_in : (Outcome → ℕ) → List Record → ℕ
ends_in one [] = 0
ends_in one (x ∷ rs) = end_one one x + ends_in one rs

-- every word is read, and these are the records, the newest first
pub record Reads (words : List ℕ) (rs : List Record) : Type 0 where
  pub whole : first_bad words ≡ None
  pub told : records_of words ≡ rs

pub reads_none : Reads [] []
reads_none = record { whole = refl; told = refl }

-- ---- one word more

first_more : (o : Option Record) (others more : Option ℕ) → (others ≡ None → more ≡ None) → first_of o others ≡ None → first_of o more ≡ None
first_more o others more step e = grind arith

first_bad_push :
    (ws : List ℕ) (w : ℕ) (x : Record) → first_bad ws ≡ None → reading w ≡ Some x → first_bad (ws ++ (w ∷ [])) ≡ None
first_bad_push [] w x whole e = rw e
first_bad_push (v ∷ vs) w x whole e = first_more (reading v) (first_bad vs) _ (λ rest. first_bad_push vs w x rest e) whole

records_push : (ws : List ℕ) (w : ℕ) → records_of (ws ++ (w ∷ [])) ≡ read_one (reading w) ++ records_of ws
records_push [] w = simp append-nil
records_push (v ∷ vs) w = rw (records_push vs w, append_assoc)

-- a lawful record is written
pub reads_more :
    {words : List ℕ} {rs : List Record} → Reads words rs → (x : Record) → Lawful x →
    Reads (words ++ (word x ∷ [])) (x ∷ rs)
reads_more {words} {rs} reads x lawful =
    let back = read_back x lawful in
    record {
      whole = first_bad_push words (word x) x reads.whole back;
      told = rw (records_push words (word x), back, reads.told);
    }

-- the same, where the words stand behind others
pub reads_after :
    (before words : List ℕ) {rs : List Record} → Reads (before ++ words) rs → (x : Record) → Lawful x →
    Reads (before ++ (words ++ (word x ∷ []))) (x ∷ rs)
reads_after before words reads x lawful = rw (← append_assoc before words (word x ∷ [])) (reads_more reads x lawful)

-- ---- what the ends count

ends_in_append :
    (one : Outcome → ℕ) (xs ys : List Record) → ends_in one (xs ++ ys) ≡ ends_in one xs + ends_in one ys
ends_in_append one [] ys = omega arith
ends_in_append one (x ∷ xs) ys = omega (arith, ends_in_append one xs ys)

ends_read_one : (one : Outcome → ℕ) (o : Option Record) → counts (end_one one) o ≡ ends_in one (read_one o)
ends_read_one one None = refl
ends_read_one one (Some x) = omega arith

ends_records : (one : Outcome → ℕ) (ws : List ℕ) → ends one ws ≡ ends_in one (records_of ws)
ends_records one [] = refl
ends_records one (w ∷ ws) =
    omega (arith, ends_records one ws, ends_read_one one (reading w), ends_in_append one (records_of ws) (read_one (reading w)))

-- the ends of the words are those of their records
pub ends_read :
    (one : Outcome → ℕ) {words : List ℕ} {rs : List Record} → Reads words rs → ends one words ≡ ends_in one rs
ends_read one {words} reads = rw (ends_records one words, reads.told)
