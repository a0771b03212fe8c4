-- What is sent.
use Rattle.std.proofs.Common.{◌≡◌, ℕ, zero, suc, ◌+◌, ◌*◌, ◌/◌, ◌%◌, ◌<◌, ◌≤◌, inl, inr, List, [], ◌∷◌, ◌++◌, length, get_or, ap, refl, sym, ◌∙◌, arith, append_assoc}
use Rattle.std.specs.Prelude.{Result, Ok, Err, IsErr, OnOk, map, min, take}
use Rattle.std.specs.Int.{w32, to_le_bytes}
use Rattle.std.proofs.lemmas.Bool.{cases_lt}
use Rattle.std.proofs.lemmas.List.{append-nil}
use Rattle.sercos_telegram.specs.declared.words.Control.{Control}
use Rattle.sercos_telegram.specs.Words.{control_word}
use Rattle.sercos_telegram.specs.Spells
use Rattle.sercos_telegram.specs.Spells.{fields}
use Rattle.sercos_service_master.specs.Begun.{Said, said_by}
use Rattle.sercos_seat.specs.declared.answers.Words.{Words}
use Rattle.std.specs.List.{fold, sum_by}
use Rattle.sercos_service_master.specs.Begun.{master_says}
use Rattle.sercos_service_master.specs.Calls.{begun_by}
use Rattle.sercos_seat.specs.Ring.{MemberView}
use Rattle.sercos_seat.specs.Agenda.{len_or_none, mdt_attributes, record_len}
use Rattle.sercos_seat.specs.Records.{word_said, record_said, lens_said, value_said, values_said}
use Rattle.sercos_seat.specs.Seats.{long_of, len_of_words, Seen, outcomes_seen, record_seen}
use Rattle.sercos_seat.proofs.Lengths.{small_value}

-- the word of a record
pub same_word : (control : Control) (word : ℕ) → control.cyclic ≡ 0 → control_word control ≡ word_said (said_by control word)
same_word control word e = rw e (omega arith)

pub same_record : (control : Control) (word : ℕ) (said : Said) (values : List ℕ) → control.cyclic ≡ 0 → said_by control word ≡ said →
    fields (control_word control) word values ≡ record_said said values
same_record control word said values e f = rw (← f, same_word control word e) refl

-- one command value more
pub values_more : (count : ℕ) (lens : List ℕ) (n : ℕ) → n < length lens →
    lens_said count (take (n + 1) lens) ≡ lens_said count (take n lens) ++ value_said count (get_or lens n 0)
values_more count [] n h = absurd (omega (arith, h))
values_more count (len ∷ lens) zero h = append-nil (value_said count len)
values_more count (len ∷ lens) (suc n) h =
    let e : suc n + 1 ≡ suc (n + 1) = omega arith in
    rw (e, values_more count lens n (omega (arith, h))) (sym (append_assoc (value_said count len) (lens_said count (take n lens)) (value_said count (get_or lens n 0))))

-- what words say by their lengths
pub by_lens : (count : ℕ) (words : List Words) → values_said count (map long_of words) ≡ lens_said count (map len_of_words words)
by_lens count [] = refl
by_lens count (w ∷ words) = ap (λ rest. value_said count (len_of_words w) ++ rest) (by_lens count words)

length_both : (xs ys : List ℕ) → length (xs ++ ys) ≡ length xs + length ys
length_both [] ys = omega arith
length_both (x ∷ xs) ys = let e : length (xs ++ ys) ≡ length xs + length ys = length_both xs ys in rw e (omega arith)

value_length : (count len : ℕ) → length (value_said count len) ≤ 4
value_length count len = at_most ((count % 256) ∷ (count / 256 % 256) ∷ (count / 65536 % 256) ∷ (count / 16777216 % 256) ∷ []) len
  where
    at_most : (xs : List ℕ) (n : ℕ) → length (take n xs) ≤ length xs
    at_most [] zero = omega arith
    at_most [] (suc n) = omega arith
    at_most (x ∷ xs) zero = omega arith
    at_most (x ∷ xs) (suc n) = let e : length (take n xs) ≤ length xs = at_most xs n in omega (arith, e)

pub longer : (values : List ℕ) (count len n : ℕ) → length values ≤ 4 * n → length (values ++ value_said count len) ≤ 4 * (n + 1)
longer values count len n h =
    let a : length (values ++ value_said count len) ≡ length values + length (value_said count len) = length_both values (value_said count len) in
    let b : length (value_said count len) ≤ 4 = value_length count len in
    omega (arith, a, b, h)

take_all : {A : Type 0} (xs : List A) (n : ℕ) → length xs ≤ n → take n xs ≡ xs
take_all [] zero h = refl
take_all [] (suc n) h = refl
take_all (x ∷ xs) zero h = absurd (omega (arith, h))
take_all (x ∷ xs) (suc n) h = ap (λ ys. x ∷ ys) (take_all xs n (omega (arith, h)))

-- the first bytes of the count, as many as the length says
pub value_taken : (count len : ℕ) → take (min len 4) (to_le_bytes w32 count) ≡ value_said count len
value_taken count len =
    elim (cases_lt len 4) [
      | inl less ↦ let is : min len 4 ≡ len = omega arith in ap (λ n. take n (to_le_bytes w32 count)) is
      | inr most ↦ let is : min len 4 ≡ 4 = omega arith in ap (λ n. take n (to_le_bytes w32 count)) is ∙ sym (take_all (to_le_bytes w32 count) len (omega arith))
    ]

pub values_whole : (count : ℕ) (lens : List ℕ) (n : ℕ) → length lens ≤ n → lens_said count (take n lens) ≡ lens_said count lens
values_whole count lens n h = ap (lens_said count) (take_all lens n h)

-- a record has its two words and its values
pub fields_length : (word info : ℕ) (values : List ℕ) → length (fields word info values) ≡ 4 + length values
unfolding Spells.fields Spells.word_bytes
fields_length word info values = omega arith

pub when_ok : {A : Type 0} {B : Type 0} {P : Type 0} (r : Result A B) → (IsErr r → ⊥) → OnOk r P → P
when_ok (Ok x) never p = p
when_ok (Err e) never p = absurd (never refl)

-- a record fits where its length does
pub record_length : (control : Control) (word : ℕ) (said : Said) (values : List ℕ) → control.cyclic ≡ 0 → said_by control word ≡ said → length (record_said said values) ≡ 4 + length values
record_length control word said values e f = ap (λ bytes. length bytes) (sym (same_record control word said values e f)) ∙ fields_length (control_word control) word values

-- A record is as long as its drive's wish says.
value_whole : (count len : ℕ) → len ≤ 4 → length (value_said count len) ≡ len
value_whole count zero h = refl
value_whole count (suc zero) h = refl
value_whole count (suc (suc zero)) h = refl
value_whole count (suc (suc (suc zero))) h = refl
value_whole count (suc (suc (suc (suc zero)))) h = refl
value_whole count (suc (suc (suc (suc (suc n))))) h = absurd (omega (arith, h))

values_length : (count : ℕ) (words : List ℕ) (n : ℕ) → n + length (values_said count words) ≡ fold (λ a w. a + len_or_none w) n words
values_length count [] n = omega arith
values_length count (w ∷ words) n =
    let one : length (value_said count (len_or_none w)) ≡ len_or_none w = value_whole count (len_or_none w) (small_value w) in
    let both : length (values_said count (w ∷ words)) ≡ length (value_said count (len_or_none w)) + length (values_said count words) = length_both (value_said count (len_or_none w)) (values_said count words) in
    let rest = values_length count words (n + len_or_none w) in
    let sum : n + length (values_said count (w ∷ words)) ≡ n + len_or_none w + length (values_said count words) = omega (arith, one, both) in
    sum ∙ rest

pub seen_length : (count : ℕ) (d : MemberView) (x : Seen) → length (record_seen count d x) ≡ record_len d (outcomes_seen x)
seen_length count d x =
    let all : 0 + length (values_said count (mdt_attributes d (outcomes_seen x))) ≡ sum_by len_or_none (mdt_attributes d (outcomes_seen x)) = values_length count (mdt_attributes d (outcomes_seen x)) 0 in
    let said = master_says (begun_by x.calls) in
    fields_length (word_said said) said.step.word (values_said count (mdt_attributes d (outcomes_seen x))) ∙ omega (arith, all)
