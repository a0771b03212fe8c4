-- What the place of a refused text says of it.
use Rattle.std.proofs.Common.{◌≡◌, ℕ, zero, suc, ◌+◌, ◌-◌, ◌/◌, ◌%◌, ◌<◌, ◌≤◌, ◌&&◌, inl, inr, nat_lt, Bool, true, false, List, [], ◌∷◌, ◌++◌, length, take, drop, get_or, Option, Some, refl, sym, ◌∙◌, ap, arith, length-append}
use Rattle.std.proofs.lemmas.Bool.{false≢true, lt-ltb, cases_lt}
use Rattle.std.proofs.lemmas.List.{get_or-take, get_or-drop, length-take, length-take-le, length-drop, take_all, get_or_append_left, get_or-append_right}
use Rattle.sercos_idn.specs.Idns.{idn_fault, idn_text, four_digits, has_byte, can_stand, letter_of, set_of, number_of, spelled_number, spelled_raw}
use Rattle.sercos_idn.specs.Places.{IsLarge, Begins, IsRefusedAt}
use Rattle.sercos_idn.specs.Places.Begins.{begins, begins_large}
use Rattle.sercos_idn.specs.Places.IsRefusedAt.{large, at_byte, at_end}
use Rattle.sercos_idn.proofs.IdnLemmas.{HasForm, IsSpelled, slot_at, AreSlots, Judged, judged, has_place, form_of, eight, four_by, letter_good, digit_good, number_again, spelled_raw-below, idn_text-spelled_raw}
use Rattle.sercos_idn.proofs.IdnLemmas.Judged.{no_byte, too_large, too_long, taken}

-- eight bytes, each of which can be at its place
record IsWhole (text : List ℕ) : Type 0 where
  all : length text ≡ 8
  slots : AreSlots text 8

with_number : (raw number : ℕ) → number < 10000 → IsWhole (take 4 (idn_text raw) ++ four_digits number)
unfolding idn_text four_digits
with_number raw number small = record { all = refl; slots = stands }
  where
    stands : AreSlots (letter_of raw ∷ 45 ∷ (48 + set_of raw) ∷ 45 ∷ (48 + number / 1000) ∷ (48 + number / 100 % 10) ∷ (48 + number / 10 % 10) ∷ (48 + number % 10) ∷ []) 8
    stands zero low = letter_good raw
    stands (suc zero) low = refl
    stands (suc (suc zero)) low = digit_good 7 (set_of raw) (omega arith)
    stands (suc (suc (suc zero))) low = refl
    stands (suc (suc (suc (suc zero)))) low = digit_good 9 (number / 1000) (omega arith)
    stands (suc (suc (suc (suc (suc zero))))) low = digit_good 9 (number / 100 % 10) (omega arith)
    stands (suc (suc (suc (suc (suc (suc zero)))))) low = digit_good 9 (number / 10 % 10) (omega arith)
    stands (suc (suc (suc (suc (suc (suc (suc zero))))))) low = digit_good 9 (number % 10) (omega arith)
    stands (suc (suc (suc (suc (suc (suc (suc (suc place)))))))) low = absurd (omega arith)

same_text : (raw : ℕ) → take 4 (idn_text raw) ++ four_digits (number_of raw) ≡ idn_text raw
unfolding idn_text four_digits
same_text raw = refl

length-idn_text : (raw : ℕ) → length (idn_text raw) ≡ 8
unfolding idn_text four_digits
length-idn_text raw = refl

record IsPart (bytes : List ℕ) : Type 0 where
  rest : List ℕ
  whole : IsWhole (bytes ++ rest)

part_of : (bytes : List ℕ) → Begins bytes → IsPart bytes
part_of bytes (begins raw rest small is) = record { rest = rest; whole = rw (← is, ← same_text raw) (with_number raw (number_of raw) (omega arith)) }
part_of bytes (begins_large rest is) = record { rest = rest; whole = rw (is.whole) (with_number is.raw is.number is.below) }

-- a text has a byte that can be at a place if another text has the same byte there, and it can be
other_has : (text other : List ℕ) (place : ℕ) → place < length text → get_or other place 0 ≡ get_or text place 0 → has_byte other place (slot_at place) ≡ true → has_byte text place (slot_at place) ≡ true
other_has text other place low same has = rw (lt-ltb place (length text) low, ← same) (stands (nat_lt place (length other)) (can_stand (slot_at place) (get_or other place 0)) has)
  where
    stands : (within can : Bool) → within && can ≡ true → can ≡ true
    stands true can has = has
    stands false can has = cc

begun_has : (text : List ℕ) (place : ℕ) → place < length text → Begins (take (suc place) text) → (place < 8) × (has_byte text place (slot_at place) ≡ true)
begun_has text place low begun =
    let part = part_of (take (suc place) text) begun in
    let long : length (take (suc place) text) ≡ suc place = length-take-le (suc place) text (omega arith) in
    let within : place < 8 = omega (arith, part.whole.all, long, length-append (take (suc place) text) part.rest) in
    let same : get_or (take (suc place) text ++ part.rest) place 0 ≡ get_or text place 0 =
    get_or_append_left (take (suc place) text) part.rest 0 place (omega (arith, long)) ∙ get_or-take (suc place) text place 0 (omega arith) in
    (within, other_has text (take (suc place) text ++ part.rest) place low same (part.whole.slots place within))

large_slots : (text : List ℕ) → IsLarge (take 8 text) → AreSlots text 8
large_slots text is place low =
    let whole : IsWhole (take 8 text) = rw (is.whole) (with_number is.raw is.number is.below) in
    let long = has_place (take 8 text) place (slot_at place) (whole.slots place low) in
    other_has text (take 8 text) place (omega (arith, length-take 8 text, long)) (get_or-take 8 text place 0 low) (whole.slots place low)

-- the way back: bytes that can be at their places begin a whole text, which continues as `S-0-0000` does
abbrev zeros : List ℕ
zeros = 83 ∷ 45 ∷ 48 ∷ 45 ∷ 48 ∷ 48 ∷ 48 ∷ 48 ∷ []

zeros_slots : AreSlots zeros 8
zeros_slots zero low = refl
zeros_slots (suc zero) low = refl
zeros_slots (suc (suc zero)) low = refl
zeros_slots (suc (suc (suc zero))) low = refl
zeros_slots (suc (suc (suc (suc zero)))) low = refl
zeros_slots (suc (suc (suc (suc (suc zero))))) low = refl
zeros_slots (suc (suc (suc (suc (suc (suc zero)))))) low = refl
zeros_slots (suc (suc (suc (suc (suc (suc (suc zero))))))) low = refl
zeros_slots (suc (suc (suc (suc (suc (suc (suc (suc place)))))))) low = absurd (omega arith)

reached : (text : List ℕ) (count : ℕ) → AreSlots text count → count ≤ length text
reached text zero slots = omega arith
reached text (suc place) slots = has_place text place (slot_at place) (slots place (omega arith))

filled : (text : List ℕ) (count : ℕ) → count ≤ 8 → AreSlots text count → IsWhole (take count text ++ drop count zeros)
filled text count most slots = record { all = all; slots = stands }
  where
    long : length (take count text) ≡ count
    long = length-take-le count text (reached text count slots)

    all : length (take count text ++ drop count zeros) ≡ 8
    all = omega (arith, length-append (take count text) (drop count zeros), long, length-drop count zeros)

    back : (place : ℕ) → count ≤ place → count + (place - count) ≡ place
    back place behind = omega (arith, behind)

    stands : AreSlots (take count text ++ drop count zeros) 8
    stands place low = elim (cases_lt place count) [
      | inl before ↦ other_has (take count text ++ drop count zeros) text place (omega (arith, all))
          (sym (get_or_append_left (take count text) (drop count zeros) 0 place (omega (arith, before, long)) ∙ get_or-take count text place 0 before)) (slots place before)
      | inr behind ↦ other_has (take count text ++ drop count zeros) zeros place (omega (arith, all))
          (sym (get_or-append_right (take count text) (drop count zeros) count place 0 long behind ∙ get_or-drop count zeros (place - count) 0 ∙ ap (λ n. get_or zeros n 0) (back place behind))) (zeros_slots place low)
    ]

-- a whole text is an identifier number's, or its number is too large
large_by : (text : List ℕ) → HasForm text → 4095 < spelled_number text → IsLarge text
large_by text form above =
    let start : List ℕ = get_or text 0 0 ∷ get_or text 1 0 ∷ get_or text 2 0 ∷ get_or text 3 0 ∷ 48 ∷ 48 ∷ 48 ∷ 48 ∷ [] in
    let is : IsSpelled start = record {
      form = record {
        all = refl;
        letter = form.letter;
        first_dash = form.first_dash;
        set_low = form.set_low;
        set_high = form.set_high;
        second_dash = form.second_dash;
        thousands_low = omega arith;
        thousands_high = omega arith;
        hundreds_low = omega arith;
        hundreds_high = omega arith;
        tens_low = omega arith;
        tens_high = omega arith;
        ones_low = omega arith;
        ones_high = omega arith;
      };
      small = omega arith;
    } in
    let digits = four_by (get_or text 4 0) (get_or text 5 0) (get_or text 6 0) (get_or text 7 0) (spelled_number text) form.thousands_low form.thousands_high form.hundreds_low form.hundreds_high form.tens_low form.tens_high form.ones_low form.ones_high refl in
    record {
      raw = spelled_raw start;
      number = spelled_number text;
      small = spelled_raw-below start is;
      above = above;
      below = omega (arith, form.thousands_high, form.hundreds_high, form.tens_high, form.ones_high);
      whole = eight text form.all ∙ sym (ap (λ four. get_or text 0 0 ∷ get_or text 1 0 ∷ get_or text 2 0 ∷ get_or text 3 0 ∷ four) digits) ∙ ap (λ t. take 4 t ++ four_digits (spelled_number text)) (idn_text-spelled_raw start is);
    }

begins_from : (text : List ℕ) (count : ℕ) → count ≤ 8 → AreSlots text count → Begins (take count text)
begins_from text count most slots =
    let whole = filled text count most slots in
    let form = form_of (take count text ++ drop count zeros) whole.all whole.slots in
    elim (cases_lt 4095 (spelled_number (take count text ++ drop count zeros))) [
      | inl above ↦ begins_large (drop count zeros) (large_by (take count text ++ drop count zeros) form above)
      | inr small ↦
          let is : IsSpelled (take count text ++ drop count zeros) = record { form = form; small = small } in
          begins (spelled_raw (take count text ++ drop count zeros)) (drop count zeros) (spelled_raw-below (take count text ++ drop count zeros) is) (sym (idn_text-spelled_raw (take count text ++ drop count zeros) is))
    ]

first_eight : (text : List ℕ) → AreSlots text 8 → IsWhole (take 8 text)
first_eight text slots = record { all = all; slots = λ place low. other_has (take 8 text) text place (omega (arith, all)) (sym (get_or-take 8 text place 0 low)) (slots place low) }
  where
    all : length (take 8 text) ≡ 8
    all = length-take-le 8 text (reached text 8 slots)

same_number : (text : List ℕ) → spelled_number (take 8 text) ≡ spelled_number text
same_number text =
    rw (get_or-take 8 text 4 0 (omega arith), get_or-take 8 text 5 0 (omega arith), get_or-take 8 text 6 0 (omega arith), get_or-take 8 text 7 0 (omega arith)) refl

large_number : (raw number : ℕ) → number < 10000 → spelled_number (take 4 (idn_text raw) ++ four_digits number) ≡ number
unfolding idn_text four_digits
large_number raw number small = number_again number small

pub refused_at : (text : List ℕ) (place : ℕ) → idn_fault text ≡ Some place → IsRefusedAt text place
refused_at text place is = cases (idn_fault text) (judged text) is
  where
    not_there : (place : ℕ) → place < 8 → has_byte text place (slot_at place) ≡ false → IsLarge (take 8 text) → ⊥
    not_there place low lacks is = absurd (false≢true (sym lacks ∙ large_slots text is place low))

    lacking : (place : ℕ) → place < 8 → AreSlots text place → has_byte text place (slot_at place) ≡ false → IsRefusedAt text place
    lacking place low slots lacks = elim (cases_lt place (length text)) [
      | inl within ↦ at_byte place (not_there place low lacks) within (begins_from text place (omega (arith, low)) slots) (λ begun. absurd (false≢true (sym lacks ∙ (begun_has text place within begun).1)))
      | inr over ↦
          let end : place ≡ length text = omega (arith, over, reached text place slots) in
          let begun : Begins text = rw (take_all place text over) at (begins_from text place (omega (arith, low)) slots) in
          rw (end) (at_end (not_there place low lacks) begun (λ raw same. absurd (omega (arith, low, end, ap length same, length-idn_text raw))))
    ]

    small_enough : spelled_number text ≤ 4095 → IsLarge (take 8 text) → ⊥
    small_enough small is = absurd (omega (arith, small, is.above, large_number is.raw is.number is.below, ap spelled_number is.whole, same_number text))

    cases : (o : Option ℕ) → Judged text o → o ≡ Some place → IsRefusedAt text place
    cases o (taken slots small short) is = cc
    cases o (no_byte at low slots lacks) is = let same : at ≡ place = cc in rw (← same) (lacking at low slots lacks)
    cases o (too_large slots above) is =
        let whole = first_eight text slots in
        let same : 4 ≡ place = cc in
        rw (← same) (large (large_by (take 8 text) (form_of (take 8 text) whole.all whole.slots) (omega (arith, above, same_number text))))
    cases o (too_long slots small longer) is =
        let same : 8 ≡ place = cc in
        rw (← same) (at_byte 8 (small_enough small) longer (begins_from text 8 (omega arith) slots) (λ begun. absurd (omega (arith, (begun_has text 8 longer begun).0))))
