-- How long telegrams are, and what a drive wishes, by what is kept and by the outcomes.
use Rattle.std.proofs.Common.{◌≡◌, ℕ, zero, suc, ◌+◌, ◌*◌, ◌<◌, ◌≤◌, ◌==◌, Bool, true, false, List, [], ◌∷◌, Option, Some, None, length, ap, refl, ◌∙◌, arith, if◌then◌else◌}
use Rattle.std.specs.Prelude.{map, take, drop, min, nat_le, slice_get, slice_index_or, unwrap_or, sum_by, ◌-◌, option_and_then}
use Rattle.std.specs.List.{fold}
use Rattle.std.proofs.lemmas.Bool.Decides.{nat_tests}
use Rattle.sercos_seat.specs.Ring.{MemberView}
use Rattle.sercos_step.specs.declared.request.Outcome.{Outcome}
use Rattle.sercos_seat.specs.Agenda.{at_len, record_len, len_or_none, words_given, reads_count, mdt_attributes, short_in, given}
use Rattle.sercos_seat.specs.Seats.{last_long, Seen, SeatView, SeatStandsFor, at_len_kept, record_len_kept, len_of_words, result_words, outcomes_seen, long_of, low_at, mdt_words_kept}
use Rattle.sercos_idn.specs.declared.idn.Idn.{Idn}
use Rattle.sercos_idn.specs.declared.attribute.Attribute.{Attribute}
use Rattle.sercos_idn.specs.declared.kinds.Length.{Length}
use Rattle.sercos_idn.specs.declared.kinds.Length.TheVariants.{Two, Four, List1, List2, List4}
use Rattle.sercos_idn.specs.Codes.{item_len}
use Rattle.sercos_block.specs.Blocks.{is_number}
use Rattle.sercos_block.specs.Rings.{attribute_in, number_len}
use Rattle.sercos_seat.specs.declared.answers.Words.{Words}

-- a part of a part is one of the whole
pub part_of_part : {A : Type 0} (xs : List A) (from count all : ℕ) → from + count ≤ all → take count (drop from (take all xs)) ≡ take count (drop from xs)
part_of_part [] from count all h = rw (take_nothing all) refl
  where
    take_nothing : {A : Type 0} (n : ℕ) → take {A = A} n [] ≡ []
    take_nothing zero = refl
    take_nothing (suc n) = refl
part_of_part (x ∷ xs) zero zero all h = refl
part_of_part (x ∷ xs) zero (suc count) zero h = absurd (omega (arith, h))
part_of_part (x ∷ xs) zero (suc count) (suc all) h = ap (λ ys. x ∷ ys) (drop_none (take all xs) ∙ part_of_part xs zero count all (omega (arith, h)))
  where
    drop_none : {A : Type 0} (ys : List A) → take count ys ≡ take count (drop zero ys)
    drop_none ys = refl
part_of_part (x ∷ xs) (suc from) count zero h = absurd (omega (arith, h))
part_of_part (x ∷ xs) (suc from) count (suc all) h = part_of_part xs from count all (omega (arith, h))

-- the lengths by what is kept are those by the outcomes
folds : (all : List Outcome) (n count : ℕ) → fold (λ a w. a + len_of_words w) n (take count (map result_words all)) ≡ fold (λ a w. a + len_or_none w) n (take count (words_given all))
folds [] n zero = refl
folds [] n (suc count) = refl
folds (o ∷ all) n zero = refl
folds (o ∷ all) n (suc count) = folds all (n + len_of_words (result_words o)) count

sums : (all : List Outcome) (from count : ℕ) → sum_by len_of_words (take count (drop from (map result_words all))) ≡ sum_by len_or_none (take count (drop from (words_given all)))
sums all zero count = folds all 0 count
sums [] (suc from) zero = refl
sums [] (suc from) (suc count) = refl
sums (o ∷ all) (suc from) count = sums all from count

pub at_len_same : (v : SeatView) (d : MemberView) (x : Seen) → SeatStandsFor v d x → at_len_kept v ≡ at_len d (outcomes_seen x)
at_len_same v d x c =
    rw (c.member_is, c.given_is, part_of_part (map result_words (outcomes_seen x)) 6 (length d.at) (reads_count d) (omega arith))
    (ap (λ n. 4 + n) (sums (outcomes_seen x) 6 (length d.at)))

pub record_len_same : (v : SeatView) (d : MemberView) (x : Seen) → SeatStandsFor v d x → record_len_kept v ≡ record_len d (outcomes_seen x)
record_len_same v d x c =
    rw (c.member_is, c.given_is, part_of_part (map result_words (outcomes_seen x)) (6 + length d.at) (length d.mdt) (reads_count d) (omega arith))
    (ap (λ n. 4 + n) (sums (outcomes_seen x) (6 + length d.at) (length d.mdt)))

-- THE LAST LONG ONE
pub drop_at : {A : Type 0} (n : ℕ) (xs : List A) (x : A) → slice_get xs n ≡ Some x → drop n xs ≡ x ∷ drop (n + 1) xs
drop_at zero [] x e = cc
drop_at zero (y ∷ xs) x e = ap (λ z. z ∷ xs) (inside e)
  where
    inside : {A : Type 0} {a b : A} → Some a ≡ Some b → a ≡ b
    inside e = cc
drop_at (suc n) [] x e = cc
drop_at (suc n) (y ∷ xs) x e = let f : suc n + 1 ≡ suc (n + 1) = omega arith in rw f (drop_at n xs x e)

pub drop_all : {A : Type 0} (n : ℕ) (xs : List A) → length xs ≤ n → drop n xs ≡ []
drop_all zero [] h = refl
drop_all zero (x ∷ xs) h = absurd (omega (arith, h))
drop_all (suc n) [] h = refl
drop_all (suc n) (x ∷ xs) h = drop_all n xs (omega (arith, h))

no_words_left : (idns : List Idn) → last_long idns [] ≡ None
no_words_left [] = refl
no_words_left (i ∷ idns) = refl

pub none_behind : (idns : List Idn) (words : List ℕ) (count n : ℕ) → n ≡ count → (length idns ≤ count → ⊥) → length words ≤ count → last_long (drop n idns) (drop n words) ≡ None
none_behind idns words count n e f h = rw (e, drop_all count words h) (no_words_left (drop count idns))

pub none_behind_idns : (idns : List Idn) (words : List ℕ) (n : ℕ) → length idns ≤ n → last_long (drop n idns) (drop n words) ≡ None
none_behind_idns idns words n h = rw (drop_all n idns h) refl

pub none_behind_words : (idns : List Idn) (words : List ℕ) (n : ℕ) → length words ≤ n → last_long (drop n idns) (drop n words) ≡ None
none_behind_words idns words n h = rw (drop_all n words h) (no_words_left (drop n idns))

-- one more that isn't long
pub one_short : (idns : List Idn) (words : List ℕ) (n m : ℕ) (i : Idn) (w : ℕ) → slice_get idns n ≡ Some i → slice_get words n ≡ Some w → m ≡ n + 1 → (len_or_none w == 4) ≡ false →
    last_long (drop m idns) (drop m words) ≡ None → last_long (drop n idns) (drop n words) ≡ None
one_short idns words n m i w e f g short none = rw (drop_at n idns i e, drop_at n words w f, ← g, none, short) refl

passes : (n : ℕ) (idns : List Idn) (words : List ℕ) (x : Idn × ℕ) → last_long (drop n idns) (drop n words) ≡ Some x → last_long idns words ≡ Some x
passes zero idns words x e = e
passes (suc n) [] words x e = absurd (cc)
passes (suc n) (i ∷ idns) [] x e = rw (no_words_left (drop n idns)) at e
passes (suc n) (i ∷ idns) (w ∷ words) x e = let f : last_long idns words ≡ Some x = passes n idns words x e in rw (f) refl

-- the last long one
pub one_long : (idns : List Idn) (words : List ℕ) (n m : ℕ) (i : Idn) (w : ℕ) → slice_get idns n ≡ Some i → slice_get words n ≡ Some w → m ≡ n + 1 → (len_or_none w == 4) ≡ true →
    last_long (drop m idns) (drop m words) ≡ None → last_long idns words ≡ Some (i, w)
one_long idns words n m i w e f g long none = passes n idns words (i, w) (rw (drop_at n idns i e, drop_at n words w f, ← g, none, long) refl)

-- THE WISH OF A DRIVE
low_same : (outcomes : List Outcome) (reads i : ℕ) → i < reads → low_at (take reads (map result_words outcomes)) i ≡ short_in (given outcomes i)
low_same [] zero i h = absurd (omega (arith, h))
low_same [] (suc reads) i h = refl
low_same (o ∷ outcomes) zero i h = absurd (omega (arith, h))
low_same (o ∷ outcomes) (suc reads) zero h = refl
low_same (o ∷ outcomes) (suc reads) (suc i) h = low_same outcomes reads i (omega (arith, h))

pub lows : (v : SeatView) (d : MemberView) (x : Seen) (i : ℕ) → SeatStandsFor v d x → i < 6 → low_at v.given i ≡ short_in (given (outcomes_seen x) i)
lows v d x i s h = rw s.given_is (low_same (outcomes_seen x) (reads_count d) i (omega (arith, h)))

longs : (outcomes : List Outcome) (from count : ℕ) → map long_of (take count (drop from (map result_words outcomes))) ≡ take count (drop from (words_given outcomes))
longs outcomes zero zero = refl
longs [] zero (suc count) = refl
longs (o ∷ outcomes) zero (suc count) = ap (λ ws. long_of (result_words o) ∷ ws) (longs outcomes zero count)
longs [] (suc from) zero = refl
longs [] (suc from) (suc count) = refl
longs (o ∷ outcomes) (suc from) count = longs outcomes from count

pub attributes_same : (v : SeatView) (d : MemberView) (x : Seen) → SeatStandsFor v d x → map long_of (mdt_words_kept v) ≡ mdt_attributes d (outcomes_seen x)
attributes_same v d x c =
    rw (c.member_is, c.given_is, part_of_part (map result_words (outcomes_seen x)) (6 + length d.at) (length d.mdt) (reads_count d) (omega arith))
    (longs (outcomes_seen x) (6 + length d.at) (length d.mdt))

pub get_there : {A : Type 0} (xs : List A) (k : ℕ) (d : A) → k < length xs → slice_get xs k ≡ Some (slice_index_or xs k d)
get_there [] k d h = absurd (omega (arith, h))
get_there (x ∷ xs) zero d h = refl
get_there (x ∷ xs) (suc k) d h = get_there xs k d (omega (arith, h))

get_mapped : (words : List Words) (k : ℕ) (d : Words) → k < length words → slice_get (map long_of words) k ≡ Some (long_of (slice_index_or words k d))
get_mapped [] k d h = absurd (omega (arith, h))
get_mapped (w ∷ words) zero d h = refl
get_mapped (w ∷ words) (suc k) d h = get_mapped words k d (omega (arith, h))

map_length : (words : List Words) → length (map long_of words) ≡ length words
map_length [] = refl
map_length (w ∷ words) = ap (λ n. suc n) (map_length words)

pub long_init : (idns : List Idn) (words : List Words) (count : ℕ) → count ≡ min (length words) (length idns) → last_long (drop (count - 0) idns) (drop (count - 0) (map long_of words)) ≡ None
long_init idns words count e = by (nat_le (length idns) count) refl
  where
    by : (b : Bool) → nat_le (length idns) count ≡ b → last_long (drop (count - 0) idns) (drop (count - 0) (map long_of words)) ≡ None
    by true f = none_behind_idns idns (map long_of words) (count - 0) (grind (arith, nat_tests, f))
    by false f = none_behind_words idns (map long_of words) (count - 0) (let l : length (map long_of words) ≡ length words = map_length words in let n : length words ≤ count = grind (arith, nat_tests, f, e) in omega (arith, l, n))

pub long_preserved : (idns : List Idn) (words : List Words) (count i : ℕ) (d : Words) → count ≡ min (length words) (length idns) → i < count → (len_or_none (long_of (slice_index_or words (count - 1 - i) d)) == 4) ≡ false →
    last_long (drop (count - i) idns) (drop (count - i) (map long_of words)) ≡ None → last_long (drop (count - (i + 1)) idns) (drop (count - (i + 1)) (map long_of words)) ≡ None
long_preserved idns words count i d e below short none =
    let same : count - (i + 1) ≡ count - 1 - i = omega arith in
    rw same
    (one_short idns (map long_of words) (count - 1 - i) (count - i) (slice_index_or idns (count - 1 - i) (record { raw = 0 })) (long_of (slice_index_or words (count - 1 - i) d))
    (get_there idns (count - 1 - i) (record { raw = 0 }) (omega (arith, e, below))) (get_mapped words (count - 1 - i) d (omega (arith, e, below))) (omega (arith, below)) short none)

pub long_found : (idns : List Idn) (words : List Words) (count i : ℕ) (d : Words) → count ≡ min (length words) (length idns) → i < count → (len_or_none (long_of (slice_index_or words (count - 1 - i) d)) == 4) ≡ true →
    last_long (drop (count - i) idns) (drop (count - i) (map long_of words)) ≡ None →
    last_long idns (map long_of words) ≡ Some (slice_index_or idns (count - 1 - i) (record { raw = 0 }), long_of (slice_index_or words (count - 1 - i) d))
long_found idns words count i d e below long none =
    one_long idns (map long_of words) (count - 1 - i) (count - i) (slice_index_or idns (count - 1 - i) (record { raw = 0 })) (long_of (slice_index_or words (count - 1 - i) d))
    (get_there idns (count - 1 - i) (record { raw = 0 }) (omega (arith, e, below))) (get_mapped words (count - 1 - i) d (omega (arith, e, below))) (omega (arith, below)) long none

-- a value adds at most four bytes
small_len : (o : Option Attribute) → unwrap_or (option_and_then number_len o) 0 ≤ 4
small_len None = omega arith
small_len (Some a) = by (is_number a) a.length
  where
    by : (b : Bool) (l : Length) → unwrap_or (if b then Some (item_len l) else None) 0 ≤ 4
    by false l = omega arith
    by true Two = omega arith
    by true Four = omega arith
    by true List1 = omega arith
    by true List2 = omega arith
    by true List4 = omega arith

pub small_value : (word : ℕ) → len_or_none word ≤ 4
small_value word = small_len (attribute_in word)

folded : (words : List ℕ) (n count : ℕ) → fold (λ a w. a + len_or_none w) n (take count words) ≤ n + 4 * count
folded [] n zero = omega arith
folded [] n (suc count) = omega arith
folded (w ∷ words) n zero = omega arith
folded (w ∷ words) n (suc count) =
    let e : fold (λ a w. a + len_or_none w) (n + len_or_none w) (take count words) ≤ n + len_or_none w + 4 * count = folded words (n + len_or_none w) count in
    let f : len_or_none w ≤ 4 = small_value w in
    omega (arith, e, f)

pub lens : (words : List ℕ) (count : ℕ) → count ≤ 16 → (4 ≤ 4 + sum_by len_or_none (take count words)) × (4 + sum_by len_or_none (take count words) ≤ 68)
lens words count h = let e : sum_by len_or_none (take count words) ≤ 0 + 4 * count = folded words 0 count in (omega arith, omega (arith, e, h))
