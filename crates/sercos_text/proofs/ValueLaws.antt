-- A number and bytes without a fault spell their value, and the text of a value is read as it.
use Rattle.std.proofs.Common.{◌≡◌, ℕ, zero, suc, ◌+◌, ◌-◌, ◌*◌, ◌/◌, ◌%◌, ◌^◌, ◌<◌, ◌≤◌, Bool, true, false, not, ◌==◌, ◌&&◌, ◌||◌, nat_lt, cond, unwrap_or, lit<, inl, inr, List, [], ◌∷◌, ◌++◌, length, take, drop, get_or, Option, Some, None, Ok, refl, sym, ap, subst, ◌∙◌, arith, decimal, length-append}
use Rattle.std.specs.Bool.{then_some}
use Rattle.std.specs.Char.{is_ascii_digit}
use Rattle.std.specs.Fmt.{signed_decimal}
use Rattle.std.specs.Prelude.{ℤ, pos, negsuc, ◌-ℤ◌}
use Rattle.sercos_model.specs.Bits.{AreBytes}
use Rattle.std.specs.Int.{IsInRange}
use Rattle.hex.specs.Hex.{hex_digit_value, lower_digits, decode_pairs, pair_value, encode_with}
use Rattle.hex.proofs.Pairs.{cons_byte, decode_pairs-ok_pair}
use Rattle.hex.proofs.HexLemmas.{decode_of-even, decode_of-encode_lower, length-encode_with}
use Rattle.sercos_model.proofs.BitLemmas.{AreBytes-get_or}
use Rattle.std.specs.List.{prefix_len}
use Rattle.std.specs.Str.Parse.{digits_value}
use Rattle.std.proofs.lemmas.Bool.{cases_lt, and_parts}
use Rattle.std.proofs.lemmas.Bool.Decides.{nat_tests}
use Rattle.std.proofs.lemmas.Fmt.{decimal-digits_value, digits_value-decimal, digits_decimal, decimal_digit, decimal_nonempty, first_decimal}
use Rattle.std.proofs.lemmas.List.{take-append-drop, length-take-le, get_or-take, get_or_append_left, get_or-append_right, take_at, drop-drop}
use Rattle.std.proofs.lemmas.List.Sums.{prefix_len_passes, prefix_len_is, prefix_len-le-length}
use Rattle.std.proofs.lemmas.Str.Parse.{IsNumeralModel, numerals_by_value, tells_by_index}
use Rattle.sercos_model.proofs.FaultLemmas.{none_of-or, none_of-then, none_of-map, at_least, nat_lt-at_least}
use Rattle.sercos_text.specs.Templates.{hex_text, IsSmall}
use Rattle.sercos_text.specs.Fields.{behind, is_negative, is_hex, number_len, number_of, number_fault, negative_fault, signed_fault, signed_len, signed_of, hex_fault, hex_len, hex_of, pairs_fault, pairs_of, is_dash, digit_of, low_pairs, all_hex}

-- what comes after a field: nothing, or a space
abbrev pub IsRest : List ℕ → Type 0
IsRest text = get_or text 0 32 ≡ 32

-- decimal digits by index, and the number that they write
abbrev AreDigits : List ℕ → Type 0
AreDigits text = (i : ℕ) → i < length text → IsInRange 48 57 (get_or text i 0)

digits_model : IsNumeralModel AreDigits (digits_value 10)
digits_model = numerals_by_value AreDigits tells_by_index

digit_in_range : (c : ℕ) → is_ascii_digit c ≡ true → IsInRange 48 57 c
digit_in_range c is = grind (arith, nat_tests)

in_range_digit : (c : ℕ) → IsInRange 48 57 c → is_ascii_digit c ≡ true
in_range_digit c within = grind (arith, nat_tests)

-- a number without a fault
pub record IsGood (most : ℕ) (text : List ℕ) : Type 0 where
  pub some : 0 < number_len text
  pub lead : get_or text 0 0 ≡ 48 → number_len text ≤ 1
  pub most_is : number_of text ≤ most

pub IsGood-number_fault : (most : ℕ) (text : List ℕ) → number_fault most text ≡ None → IsGood most text
unfolding number_fault
IsGood-number_fault most text none =
    let digits : ℕ = number_len text in
    let first = none_of-or (then_some (digits == 0) 0) _ none in
    let second = none_of-or (then_some ((get_or text 0 0 == 48) && nat_lt 1 digits) 1) (then_some (nat_lt most (number_of text)) 0) first.1 in
    record {
      some = is_some digits (none_of-then _ 0 first.0);
      lead = is_lead (get_or text 0 0) digits (none_of-then _ 1 second.0);
      most_is = at_least most (number_of text) (none_of-then _ 0 second.1);
    }
  where
    is_some : (digits : ℕ) → (digits == 0) ≡ false → 0 < digits
    is_some digits fails = grind (arith, nat_tests)

    is_lead : (first digits : ℕ) → ((first == 48) && nat_lt 1 digits) ≡ false → first ≡ 48 → digits ≤ 1
    is_lead first digits fails zeros = grind (arith, nat_tests)

pub number_fault-IsGood : (most : ℕ) (text : List ℕ) → IsGood most text → number_fault most text ≡ None
unfolding number_fault
number_fault-IsGood most text good =
    let digits : ℕ = number_len text in
    let first = is_some digits good.some in
    let second = is_lead (get_or text 0 0) digits good.lead in
    let third = nat_lt-at_least most (number_of text) good.most_is in
    rw (first, second, third) refl
  where
    is_some : (digits : ℕ) → 0 < digits → (digits == 0) ≡ false
    is_some digits some = grind (arith, nat_tests)

    is_lead : (first digits : ℕ) → (first ≡ 48 → digits ≤ 1) → ((first == 48) && nat_lt 1 digits) ≡ false
    is_lead first digits lead = grind (arith, nat_tests)

-- what a number without a fault spells
pub number_front : (most : ℕ) (text : List ℕ) → most < 2 ^ 64 → IsGood most text → decimal (number_of text) ≡ take (number_len text) text
number_front most text fits good =
    let digits : ℕ = number_len text in
    let front : List ℕ = take digits text in
    let long = length-take-le digits text (prefix_len-le-length is_ascii_digit text) in
    let first = get_or-take digits text 0 0 good.some in
    let are : AreDigits front =
    λ i below. rw (get_or-take digits text i 0 (omega arith)) (digit_in_range (get_or text i 0) (prefix_len_passes is_ascii_digit text i 0 (omega arith))) in
    decimal-digits_value digits_model front are (omega (arith, long, good.some)) (λ zeros. omega (arith, long, good.some, good.lead (sym first ∙ zeros))) (omega (arith, good.most_is))

pub number_spelled : (most : ℕ) (text : List ℕ) → most < 2 ^ 64 → IsGood most text → text ≡ decimal (number_of text) ++ drop (number_len text) text
number_spelled most text fits good =
    sym (take-append-drop (number_len text) text) ∙ ap (λ front. front ++ drop (number_len text) text) (sym (number_front most text fits good))

-- what a number and the text after it are read as
pub record ReadsNumber (text : List ℕ) (n : ℕ) : Type 0 where
  pub len : number_len text ≡ length (decimal n)
  pub number : number_of text ≡ n
  pub lead : get_or text 0 0 ≡ 48 → number_len text ≤ 1
  pub some : 0 < number_len text

leading_zero : (n : ℕ) → n < 2 ^ 64 → get_or (decimal n) 0 0 ≡ 48 → length (decimal n) ≤ 1
leading_zero zero fits zeros = omega (arith, ap length (decimal_digit 0 (omega arith)))
leading_zero (suc n) fits zeros = absurd (omega (arith, first_decimal (suc n) (omega arith) fits))

space_no_digit : (rest : List ℕ) (k : ℕ) → IsRest rest → 0 < length rest → k ≡ 0 → is_ascii_digit (get_or rest k 0) ≡ false
space_no_digit [] k is some zero_is = absurd (omega arith)
space_no_digit (c ∷ rest) k is some zero_is = rw (zero_is) (rw is refl)

pub reads_number : (n : ℕ) (rest : List ℕ) → n < 2 ^ 64 → IsRest rest → ReadsNumber (decimal n ++ rest) n
reads_number n rest fits is =
    let front : List ℕ = decimal n in
    let text : List ℕ = front ++ rest in
    let are = digits_decimal digits_model n fits in
    let long = length-append front rest in
    let digits : prefix_len is_ascii_digit text ≡ length front =
    prefix_len_is is_ascii_digit text (length front) 0 (omega arith)
    (λ k below. rw (get_or_append_left front rest 0 k below) (in_range_digit (get_or front k 0) (are k below)))
    (λ inside. rw (get_or-append_right front rest (length front) (length front) 0 refl (omega arith)) (space_no_digit rest _ is (omega arith) (omega arith))) in
    let first = get_or_append_left front rest 0 0 (decimal_nonempty n fits) in
    let number : number_of text ≡ n = rw (digits, take_at front rest (length front) refl) (digits_value-decimal digits_model n fits) in
    record {
      len = digits;
      number = number;
      lead = λ zeros. omega (arith, digits, leading_zero n fits (sym first ∙ zeros));
      some = omega (arith, digits, decimal_nonempty n fits);
    }

-- ---- signed numbers

negative_good : (most : ℕ) (text : List ℕ) → most < 2 ^ 64 → negative_fault most text ≡ None → IsGood most text × (0 < number_of text)
unfolding negative_fault
negative_good most text below none =
    let digits : ℕ = number_len text in
    let first = none_of-or (then_some (digits == 0) 0) _ none in
    let second = none_of-or (then_some (get_or text 0 0 == 48) 0) (then_some (nat_lt most (number_of text)) 0) first.1 in
    let lead : get_or text 0 0 ≡ 48 → ⊥ = is_lead (get_or text 0 0) (none_of-then _ 0 second.0) in
    let good : IsGood most text = record {
      some = is_some digits (none_of-then _ 0 first.0);
      lead = λ zeros. absurd (lead zeros);
      most_is = at_least most (number_of text) (none_of-then _ 0 second.1);
    } in
    (good, positive (number_of text) refl lead (number_spelled most text below good))
  where
    is_some : (digits : ℕ) → (digits == 0) ≡ false → 0 < digits
    is_some digits fails = grind (arith, nat_tests)

    is_lead : (first : ℕ) → (first == 48) ≡ false → first ≡ 48 → ⊥
    is_lead first fails zeros = grind (arith, nat_tests)

    first_zero : (n : ℕ) → n ≡ 0 → text ≡ decimal n ++ drop (number_len text) text → get_or text 0 0 ≡ 48
    first_zero n none is = ap (λ t. get_or t 0 0) (is ∙ ap (λ m. decimal m ++ drop (number_len text) text) none ∙ ap (λ d. d ++ drop (number_len text) text) (decimal_digit 0 (omega arith)))

    positive : (n : ℕ) → n ≡ number_of text → (get_or text 0 0 ≡ 48 → ⊥) → text ≡ decimal n ++ drop (number_len text) text → 0 < number_of text
    positive zero same lead is = absurd (lead (first_zero zero refl is))
    positive (suc n) same lead is = omega (arith, same)

negated : (m : ℕ) → pos 0 -ℤ pos (suc m) ≡ negsuc m
negated m =
    let test : nat_lt 0 (suc m) ≡ true = grind (arith, nat_tests) in
    let less : suc m - 1 ≡ m = omega arith in
    rw (test, less) refl

-- the two cases of a signed number
plain_signed : (text : List ℕ) → is_negative text ≡ false → (signed_fault text ≡ number_fault 2147483647 text) × (signed_len text ≡ number_len text) × (signed_of text ≡ pos (number_of text))
unfolding signed_fault signed_of signed_len
plain_signed text is = (rw is refl, rw is refl, rw is refl)

dashed_signed : (text : List ℕ) → is_negative text ≡ true → (signed_fault text ≡ behind 1 (negative_fault 2147483648 (drop 1 text))) × (signed_len text ≡ 1 + number_len (drop 1 text)) × (signed_of text ≡ pos 0 -ℤ pos (number_of (drop 1 text)))
unfolding signed_fault signed_of signed_len
dashed_signed text is = (rw is refl, rw is refl, rw is refl)

dash_at : (text : List ℕ) → (get_or text 0 0 == 45) ≡ true → text ≡ 45 ∷ drop 1 text
dash_at [] is = cc
dash_at (c ∷ text) is = let e : c ≡ 45 = grind (arith, nat_tests) in ap (λ b. b ∷ text) e

pub record SpellsSigned (text : List ℕ) (z : ℤ) (len : ℕ) : Type 0 where
  pub small : IsSmall z
  pub text_is : text ≡ signed_decimal z ++ drop len text

plain_spelled : (text : List ℕ) → number_fault 2147483647 text ≡ None → SpellsSigned text (pos (number_of text)) (number_len text)
plain_spelled text none =
    let good = IsGood-number_fault 2147483647 text none in
    record { small = unfold IsSmall in good.most_is; text_is = number_spelled 2147483647 text (lit< tt) good }

dashed_spelled : (text : List ℕ) (n : ℕ) → n ≡ number_of (drop 1 text) → text ≡ 45 ∷ drop 1 text → drop 1 text ≡ decimal n ++ drop (number_len (drop 1 text)) (drop 1 text) → 0 < n → n ≤ 2147483648 → SpellsSigned text (pos 0 -ℤ pos n) (1 + number_len (drop 1 text))
dashed_spelled text zero same dash is some most = absurd (omega arith)
dashed_spelled text (suc m) same dash is some most =
    let rest : drop (number_len (drop 1 text)) (drop 1 text) ≡ drop (1 + number_len (drop 1 text)) text = drop-drop (number_len (drop 1 text)) 1 text in
    let spells : SpellsSigned text (negsuc m) (1 + number_len (drop 1 text)) = record {
      small = unfold IsSmall in omega arith;
      text_is = dash ∙ ap (λ t. 45 ∷ t) (is ∙ ap (λ t. decimal (suc m) ++ t) rest);
    } in
    let P : ℤ → Type 0 = λ z. SpellsSigned text z (1 + number_len (drop 1 text)) in
    subst P (sym (negated m)) spells

pub signed_spelled : (text : List ℕ) → signed_fault text ≡ None → SpellsSigned text (signed_of text) (signed_len text)
signed_spelled text none = go (is_negative text) refl
  where
    go : (dash : Bool) → is_negative text ≡ dash → SpellsSigned text (signed_of text) (signed_len text)
    go false is =
        let plain = plain_signed text is in
        rw (plain.1, plain.2) (plain_spelled text (sym plain.0 ∙ none))
    go true is =
        let dashed = dashed_signed text is in
        let none_there = none_of-map _ (negative_fault 2147483648 (drop 1 text)) (sym dashed.0 ∙ none) in
        let good = negative_good 2147483648 (drop 1 text) (lit< tt) none_there in
        rw (dashed.1, dashed.2) (dashed_spelled text (number_of (drop 1 text)) refl (dash_at text is) (number_spelled 2147483648 (drop 1 text) (lit< tt) good.0) good.1 good.0.most_is)

digit_no_dash : (c : ℕ) → is_ascii_digit c ≡ true → (c == 45) ≡ false
digit_no_dash c is = grind (arith, nat_tests)

pub record ReadsSigned (text : List ℕ) (z : ℤ) (len : ℕ) : Type 0 where
  pub none : signed_fault text ≡ None
  pub long : signed_len text ≡ len
  pub given : signed_of text ≡ z

negative_passes : (n : ℕ) (text : List ℕ) → suc n ≤ 2147483648 → ReadsNumber text (suc n) → 48 < get_or text 0 0 → negative_fault 2147483648 text ≡ None
unfolding negative_fault
negative_passes n text most reads lead =
    let first : (number_len text == 0) ≡ false = is_some (number_len text) reads.some in
    let second : (get_or text 0 0 == 48) ≡ false = is_more (get_or text 0 0) lead in
    let third = nat_lt-at_least 2147483648 (number_of text) (omega (arith, reads.number)) in
    rw (first, second, third) refl
  where
    is_some : (digits : ℕ) → 0 < digits → (digits == 0) ≡ false
    is_some digits some = grind (arith, nat_tests)

    is_more : (c : ℕ) → 48 < c → (c == 48) ≡ false
    is_more c more = grind (arith, nat_tests)

pub signed_reads : (z : ℤ) (rest : List ℕ) → IsSmall z → IsRest rest → ReadsSigned (signed_decimal z ++ rest) z (length (signed_decimal z))
unfolding IsSmall
signed_reads (pos n) rest small is =
    let text : List ℕ = decimal n ++ rest in
    let reads = reads_number n rest (omega (arith, small)) is in
    let plain = plain_signed text (digit_no_dash (get_or text 0 0) (prefix_len_passes is_ascii_digit text 0 0 reads.some)) in
    let good : IsGood 2147483647 text = record { some = reads.some; lead = reads.lead; most_is = omega (arith, reads.number, small) } in
    record {
      none = plain.0 ∙ number_fault-IsGood 2147483647 text good;
      long = plain.1 ∙ reads.len;
      given = plain.2 ∙ ap pos reads.number;
    }
signed_reads (negsuc n) rest small is =
    let behind_dash : List ℕ = decimal (suc n) ++ rest in
    let fits : suc n < 2 ^ 64 = omega (arith, small) in
    let reads = reads_number (suc n) rest fits is in
    let dashed = dashed_signed (45 ∷ behind_dash) refl in
    let lead : 48 < get_or behind_dash 0 0 = rw (get_or_append_left (decimal (suc n)) rest 0 0 (decimal_nonempty (suc n) fits)) (first_decimal (suc n) (omega arith) fits) in
    record {
      none = dashed.0 ∙ ap (behind 1) (negative_passes n behind_dash (omega (arith, small)) reads lead);
      long = dashed.1 ∙ omega (arith, reads.len);
      given = dashed.2 ∙ ap (λ m. pos 0 -ℤ pos m) reads.number ∙ negated n;
    }

-- ---- bytes

-- what each number below a bound passes, by computation
unfoldable pub all_below : (p : ℕ → Bool) → ℕ → Bool
all_below p zero = true
all_below p (suc n) = p n && all_below p n

pub passes_below : (p : ℕ → Bool) (n k : ℕ) → all_below p n ≡ true → k < n → p k ≡ true
unfolding all_below
passes_below p zero k all below = absurd (omega arith)
passes_below p (suc n) k all below =
    let parts = and_parts (p n) (all_below p n) all in
    elim (cases_lt k n) [
      | inl less ↦ passes_below p n k parts.1 less
      | inr top ↦ let e : k ≡ n = omega arith in rw e parts.0
    ]

is_good_digit : ℕ → Bool
is_good_digit c = not (is_hex c) || ((unwrap_or (hex_digit_value c) 99 == digit_of c) && (get_or lower_digits (digit_of c) 0 == c) && nat_lt (digit_of c) 16)

all_digits : all_below is_good_digit 128 ≡ true
unfolding all_below is_good_digit digit_of
all_digits = refl

pub hex_below : (c : ℕ) → is_hex c ≡ true → c < 128
hex_below c is = grind (arith, nat_tests)

record Digit (c : ℕ) : Type 0 where
  value : hex_digit_value c ≡ Some (digit_of c)
  text : get_or lower_digits (digit_of c) 0 ≡ c
  below : digit_of c < 16

some_from_unwrap : (o : Option ℕ) (d : ℕ) → d < 16 → unwrap_or o 99 ≡ d → o ≡ Some d
some_from_unwrap (Some v) d lt e = ap Some e
some_from_unwrap None d lt e = absurd (omega arith)

digit_good : (c : ℕ) → is_hex c ≡ true → Digit c
digit_good c is =
    let good = passes_below is_good_digit 128 c all_digits (hex_below c is) in
    parts_of (is_hex c) (unwrap_or (hex_digit_value c) 99 == digit_of c) (get_or lower_digits (digit_of c) 0 == c) (nat_lt (digit_of c) 16) is (unfold is_good_digit in good) refl refl refl
  where
    less_of : (d : ℕ) → nat_lt d 16 ≡ true → d < 16
    less_of d is = grind (arith, nat_tests)

    same_of : (a b : ℕ) → (a == b) ≡ true → a ≡ b
    same_of a b is = grind (arith, nat_tests)

    parts_of : (hex value text below : Bool) → hex ≡ true → (not hex || (value && text && below)) ≡ true → (unwrap_or (hex_digit_value c) 99 == digit_of c) ≡ value → (get_or lower_digits (digit_of c) 0 == c) ≡ text → nat_lt (digit_of c) 16 ≡ below → Digit c
    parts_of true true true true is good v t b =
        let less : digit_of c < 16 = less_of (digit_of c) b in
        record { value = some_from_unwrap (hex_digit_value c) (digit_of c) less (same_of _ _ v); text = same_of _ _ t; below = less }
    parts_of _ _ _ _ is good v t b = cc

pair_is : (i high low : ℕ) → Digit high → Digit low → pair_value high low i ≡ Ok (digit_of high * 16 + digit_of low)
pair_is i high low h l = rw (h.value, l.value) refl

pub record SpellsPairs (text : List ℕ) : Type 0 where
  pub decoded : (i : ℕ) → decode_pairs i text ≡ Ok (low_pairs text)
  pub encoded : encode_with lower_digits (low_pairs text) ≡ text
  pub are : AreBytes (low_pairs text)
  pub twice : length text ≡ 2 * length (low_pairs text)

pub spells_pairs : (text : List ℕ) → all_hex text ≡ true → length text % 2 ≡ 0 → SpellsPairs text
unfolding all_hex low_pairs decode_pairs encode_with AreBytes
spells_pairs [] all even = record { decoded = λ i. refl; encoded = refl; are = tt; twice = omega arith }
spells_pairs (high ∷ []) all even = absurd (omega arith)
spells_pairs (high ∷ low ∷ text) all even =
    let first = and_parts (is_hex high) (is_hex low && all_hex text) all in
    let second = and_parts (is_hex low) (all_hex text) first.1 in
    let h = digit_good high first.0 in
    let l = digit_good low second.0 in
    let rest = spells_pairs text second.1 (omega arith) in
    let byte : ℕ = digit_of high * 16 + digit_of low in
    let upper : byte / 16 ≡ digit_of high = omega (arith, l.below) in
    let lower : byte % 16 ≡ digit_of low = omega (arith, l.below) in
    record {
      decoded = λ i. decode_pairs-ok_pair i high low _ text (pair_is i high low h l) ∙ ap (cons_byte byte) (rest.decoded (i + 2));
      encoded = rw (upper, lower, h.text, l.text, rest.encoded) refl;
      are = (omega (arith, h.below, l.below), rest.are);
      twice = omega (arith, rest.twice);
    }

taken_by : (c : ℕ) (text : List ℕ) (test : Bool) → is_hex c ≡ test → all_hex (take (prefix_len is_hex text) text) ≡ true → all_hex (take (cond test (1 + prefix_len is_hex text) 0) (c ∷ text)) ≡ true
unfolding all_hex
taken_by c text false is rest = refl
taken_by c text true is rest = let next : 1 + prefix_len is_hex text ≡ suc (prefix_len is_hex text) = omega arith in rw (next, is) rest

pub taken_are_hex : (text : List ℕ) → all_hex (take (prefix_len is_hex text) text) ≡ true
unfolding all_hex
taken_are_hex [] = refl
taken_are_hex (c ∷ text) = taken_by c text (is_hex c) refl (taken_are_hex text)

-- the first n are digits
more_digits : (c k : ℕ) (text : List ℕ) (test : Bool) → is_hex c ≡ test → suc k ≤ cond test (1 + prefix_len is_hex text) 0 → (k ≤ prefix_len is_hex text → all_hex (take k text) ≡ true)
    → all_hex (c ∷ take k text) ≡ true
unfolding all_hex
more_digits c k text true is fits rest = rw (is, rest (omega (arith, fits))) refl
more_digits c k text false is fits rest = absurd (omega (arith, fits))

pub fewer_digits : (k : ℕ) (text : List ℕ) → k ≤ prefix_len is_hex text → all_hex (take k text) ≡ true
unfolding all_hex
fewer_digits zero text fits = refl
fewer_digits (suc k) [] fits = refl
fewer_digits (suc k) (c ∷ text) fits = more_digits c k text (is_hex c) refl fits (fewer_digits k text)

none_behind : (rest : List ℕ) → IsRest rest → prefix_len is_hex rest ≡ 0
none_behind [] is = refl
none_behind (c ∷ rest) is = rw is refl

pub hex_counted : (text rest : List ℕ) → all_hex text ≡ true → IsRest rest → prefix_len is_hex (text ++ rest) ≡ length text
unfolding all_hex
hex_counted [] rest all is = none_behind rest is
hex_counted (c ∷ text) rest all is =
    let parts = and_parts (is_hex c) (all_hex text) all in
    rw (parts.0, hex_counted text rest parts.1 is) (omega arith)

all_lower : all_below (λ d. is_hex (get_or lower_digits d 0)) 16 ≡ true
unfolding all_below
all_lower = refl

lower_is_hex : (d : ℕ) → d < 16 → is_hex (get_or lower_digits d 0) ≡ true
lower_is_hex d below = passes_below (λ d. is_hex (get_or lower_digits d 0)) 16 d all_lower below

pub encoded_are_hex : (list : List ℕ) → AreBytes list → all_hex (encode_with lower_digits list) ≡ true
unfolding all_hex encode_with AreBytes
encoded_are_hex [] are = refl
encoded_are_hex (byte ∷ list) are =
    rw (lower_is_hex (byte / 16) (omega (arith, are.0)), lower_is_hex (byte % 16) (omega arith), encoded_are_hex list are.1) refl

pub record SpellsHex (most : ℕ) (text : List ℕ) : Type 0 where
  pub are : AreBytes (hex_of text)
  pub fits : length (hex_of text) ≤ most
  pub text_is : text ≡ hex_text (hex_of text) ++ drop (hex_len text) text

record IsGoodHex (most : ℕ) (text : List ℕ) : Type 0 where
  some : 0 < prefix_len is_hex text
  fits : prefix_len is_hex text ≤ 2 * most
  even : prefix_len is_hex text % 2 ≡ 0

good_hex : (most : ℕ) (text : List ℕ) → pairs_fault most text ≡ None → IsGoodHex most text
unfolding pairs_fault
good_hex most text none =
    let digits : ℕ = prefix_len is_hex text in
    let first = none_of-or (then_some (digits == 0) 0) _ none in
    let second = none_of-or (then_some (nat_lt (2 * most) digits) (2 * most)) (then_some (digits % 2 == 1) digits) first.1 in
    record {
      some = is_some digits (none_of-then _ 0 first.0);
      fits = at_least (2 * most) digits (none_of-then _ (2 * most) second.0);
      even = is_even digits (none_of-then _ digits second.1);
    }
  where
    is_some : (digits : ℕ) → (digits == 0) ≡ false → 0 < digits
    is_some digits fails = grind (arith, nat_tests)

    is_even : (digits : ℕ) → (digits % 2 == 1) ≡ false → digits % 2 ≡ 0
    is_even digits fails = grind (arith, nat_tests)

hex_good : (most : ℕ) (text : List ℕ) → IsGoodHex most text → pairs_fault most text ≡ None
unfolding pairs_fault
hex_good most text good =
    let digits : ℕ = prefix_len is_hex text in
    rw (is_some digits good.some, nat_lt-at_least (2 * most) digits good.fits, is_even digits good.even) refl
  where
    is_some : (digits : ℕ) → 0 < digits → (digits == 0) ≡ false
    is_some digits some = grind (arith, nat_tests)

    is_even : (digits : ℕ) → digits % 2 ≡ 0 → (digits % 2 == 1) ≡ false
    is_even digits even = grind (arith, nat_tests)

dashed_hex : (most : ℕ) (text : List ℕ) → is_dash text ≡ true → (hex_fault most text ≡ None) × (hex_len text ≡ 1) × (hex_of text ≡ [])
unfolding hex_fault hex_of hex_len
dashed_hex most text is = (rw is refl, rw is refl, rw is refl)

plain_hex : (most : ℕ) (text : List ℕ) → is_dash text ≡ false → (hex_fault most text ≡ pairs_fault most text) × (hex_len text ≡ prefix_len is_hex text) × (hex_of text ≡ pairs_of (take (prefix_len is_hex text) text))
unfolding hex_fault hex_of hex_len
plain_hex most text is = (rw is refl, rw is refl, rw is refl)

pub decodes : (text : List ℕ) → SpellsPairs text → pairs_of text ≡ low_pairs text
unfolding pairs_of
decodes text pairs = let even : length text % 2 ≡ 0 = omega (arith, pairs.twice) in rw (decode_of-even text even, pairs.decoded 0) refl

-- some bytes have digits, and no bytes a dash
pub text_of_some : (list : List ℕ) → 0 < length list → hex_text list ≡ encode_with lower_digits list
unfolding hex_text
text_of_some [] some = absurd (omega arith)
text_of_some (byte ∷ list) some = refl

pub hex_spelled : (most : ℕ) (text : List ℕ) → hex_fault most text ≡ None → SpellsHex most text
hex_spelled most text none = go (is_dash text) refl
  where
    go : (dash : Bool) → is_dash text ≡ dash → SpellsHex most text
    go true is =
        let dashed = dashed_hex most text is in
        record {
          are = rw (dashed.2) (unfold AreBytes in tt);
          fits = rw (dashed.2) (omega arith);
          text_is = rw (dashed.1, dashed.2) (unfold hex_text in dash_at text is);
        }
    go false is =
        let plain = plain_hex most text is in
        let good = good_hex most text (sym plain.0 ∙ none) in
        let front : List ℕ = take (prefix_len is_hex text) text in
        let long = length-take-le (prefix_len is_hex text) text (prefix_len-le-length is_hex text) in
        let pairs = spells_pairs front (taken_are_hex text) (omega (arith, long, good.even)) in
        let bytes_are = decodes front pairs in
        record {
          are = rw (plain.2, bytes_are) pairs.are;
          fits = rw (plain.2, bytes_are) (omega (arith, pairs.twice, long, good.fits));
          text_is = rw (plain.1, plain.2, bytes_are, text_of_some (low_pairs front) (omega (arith, pairs.twice, long, good.some)), pairs.encoded)
              (sym (take-append-drop (prefix_len is_hex text) text));
        }

pub record ReadsHex (most : ℕ) (text list : List ℕ) (len : ℕ) : Type 0 where
  pub none : hex_fault most text ≡ None
  pub long : hex_len text ≡ len
  pub given : hex_of text ≡ list

hex_no_dash : (c : ℕ) → is_hex c ≡ true → (c == 45) ≡ false
hex_no_dash c is = grind (arith, nat_tests)

pub given_back : (list : List ℕ) → AreBytes list → pairs_of (encode_with lower_digits list) ≡ list
unfolding pairs_of
given_back list are = rw (decode_of-encode_lower list (λ i. AreBytes-get_or list i are)) refl

pub hex_reads : (most : ℕ) (list rest : List ℕ) → AreBytes list → length list ≤ most → IsRest rest → ReadsHex most (hex_text list ++ rest) list (length (hex_text list))
unfolding hex_text
hex_reads most [] rest are fits is = let dashed = dashed_hex most (45 ∷ rest) refl in record { none = dashed.0; long = dashed.1; given = dashed.2 }
hex_reads most (byte ∷ list) rest are fits is =
    let bytes : List ℕ = byte ∷ list in
    let digits : List ℕ = encode_with lower_digits bytes in
    let text : List ℕ = digits ++ rest in
    let long = length-encode_with lower_digits bytes in
    let counted = hex_counted digits rest (encoded_are_hex bytes are) is in
    let first = prefix_len_passes is_hex text 0 0 (omega (arith, counted, long)) in
    let plain = plain_hex most text (hex_no_dash (get_or text 0 0) first) in
    let good : IsGoodHex most text = record { some = omega (arith, counted, long); fits = omega (arith, counted, long, fits); even = omega (arith, counted, long) } in
    let front : take (prefix_len is_hex text) text ≡ digits = rw counted (take_at digits rest (length digits) refl) in
    let given : pairs_of digits ≡ bytes = given_back bytes are in
    record {
      none = plain.0 ∙ hex_good most text good;
      long = plain.1 ∙ counted;
      given = plain.2 ∙ ap pairs_of front ∙ given;
    }
