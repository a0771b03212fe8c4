-- What the bits of a byte give a reader, by the table.
use Rattle.std.proofs.Common.{◌≡◌, ℕ, ◌+◌, ◌-◌, ◌*◌, ◌/◌, ◌%◌, ◌^◌, ◌<◌, ◌≤◌, ◌==◌, ◌||◌, nat_le, Bool, true, false, cond, inl, inr, List, length, map, get_or, refl, sym, ap, ◌∙◌, arith}
use Rattle.std.specs.List.{range_with_len}
use Rattle.std.proofs.lemmas.List.{get_or-map, length-take-le}
use Rattle.std.proofs.lemmas.List.FromFn.{get_or-map-range_with_len}
use Rattle.std.proofs.lemmas.Bool.{cases_Bool, cases_eq, eq-eqb, ne_eqb, eqb-true, cond-true, cond-false, agree_below, agree_below_at}
use Rattle.std.proofs.lemmas.Bool.Decides.{nat_tests}
use Rattle.sercos_model.specs.Bits.{is_odd, low_bits, number_of}
use Rattle.sercos_model.proofs.BitLemmas.{length-low_bits, low_bits-number_of, number_of-below}
use Rattle.sercos_hdlc.specs.Reason.{unstuffed}
use Rattle.sercos_hdlc.specs.Given.{parts_of, given_of, before_sixth, IsGiven, IsEnd}
use Rattle.sercos_hdlc.specs.declared.given.Given.{Given}
use Rattle.sercos_hdlc.specs.Sought.{ones_after, has_six, sixth_at, dropped_after}
use Rattle.sercos_hdlc.specs.declared.given.TheConstants.{GIVEN, ENDING}
use Rattle.sercos_hdlc.proofs.SixthLemmas.{sixth, sixth_at-inside, ones_after-few, dropped_after-ones}
use Rattle.sercos_hdlc.proofs.SoughtLemmas.{length-unstuffed}

-- where ones alone come before the sixth one, the last zero is what it was
zero_by : (place k : ℕ) (first : List Bool) (before dropped : Bool) → length first ≡ place → ones_after k first ≡ 5 → dropped ≡ cond (place + k == 5) false (dropped_after k before first) → cond (place + k == 5) before dropped ≡ dropped_after k before first
zero_by place k first before dropped long five is =
    elim (cases_eq (place + k) 5) [
      | inl ones ↦ cond-true (place + k == 5) before dropped (eq-eqb (place + k) 5 ones) ∙ sym (dropped_after-ones k before first (omega (arith, five, long, ones)))
      | inr other ↦
          let test : (place + k == 5) ≡ false = ne_eqb (place + k) 5 other in
          cond-false (place + k == 5) before dropped test ∙ is ∙ cond-false (place + k == 5) false (dropped_after k before first) test
    ]

abbrev row : Bool → ℕ → ℕ × ℕ × ℕ × Bool
row before i = given_of before (i / 256) (low_bits 8 (i % 256))

all_rows : map parts_of GIVEN ≡ map (row false) (range_with_len 0 1536)
unfolding unstuffed low_bits is_odd number_of has_six sixth_at ones_after dropped_after
all_rows = refl

all_rows_behind : map parts_of GIVEN ≡ map (row true) (range_with_len 0 1536)
unfolding unstuffed low_bits is_odd number_of has_six sixth_at ones_after dropped_after
all_rows_behind = refl

rows_of : (before : Bool) → map parts_of GIVEN ≡ map (row before) (range_with_len 0 1536)
rows_of true = all_rows_behind
rows_of false = all_rows

pub found : (before : Bool) (ones byte : ℕ) → ones ≤ 5 → byte < 256 → parts_of (get_or GIVEN (256 * ones + byte) 0) ≡ given_of before ones (low_bits 8 byte)
found before ones byte few below =
    let i : ℕ = 256 * ones + byte in
    let inside : i < 1536 = omega arith in
    let upper : i / 256 ≡ ones = omega arith in
    let lower : i % 256 ≡ byte = omega arith in
    let at_place : parts_of (get_or GIVEN i 0) ≡ row before i = sym (get_or-map parts_of GIVEN i 0 (0, 0, 0, false) inside) ∙ ap (λ xs. get_or xs i (0, 0, 0, false)) (rows_of before) ∙ get_or-map-range_with_len (row before) 0 1536 i i (0, 0, 0, false) inside (omega arith) in
    rw (upper, lower) at at_place

-- what an entry says
module _ (entry k byte : ℕ) (is : (before : Bool) → parts_of entry ≡ given_of before k (low_bits 8 byte)) where
  bits : List Bool
  bits = low_bits 8 byte

  first : List Bool
  first = before_sixth k (low_bits 8 byte)

  six_is : (before : Bool) → has_six k bits ≡ true → parts_of entry ≡ (number_of (unstuffed k first), length (unstuffed k first), 6 + (sixth_at k bits - length (unstuffed k first)), cond (sixth_at k bits + k == 5) false (dropped_after k before first))
  unfolding bits first
  six_is before six = is before ∙ cond-true (has_six k (low_bits 8 byte)) _ (number_of (unstuffed k (low_bits 8 byte)), length (unstuffed k (low_bits 8 byte)), ones_after k (low_bits 8 byte), dropped_after k before (low_bits 8 byte)) six

  none_is : (before : Bool) → has_six k bits ≡ false → parts_of entry ≡ (number_of (unstuffed k bits), length (unstuffed k bits), ones_after k bits, dropped_after k before bits)
  unfolding bits
  none_is before none = is before ∙ cond-false (has_six k (low_bits 8 byte)) _ (number_of (unstuffed k (low_bits 8 byte)), length (unstuffed k (low_bits 8 byte)), ones_after k (low_bits 8 byte), dropped_after k before (low_bits 8 byte)) none

  -- the bits before the sixth one are fewer than all
  first_few : has_six k bits ≡ true → length first ≡ sixth_at k bits
  unfolding bits first
  first_few six = length-take-le (sixth_at k (low_bits 8 byte)) (low_bits 8 byte) (omega (arith, sixth_at-inside k (low_bits 8 byte) six))

  pub count_few : entry / 256 % 16 ≤ 8
  unfolding bits
  count_few =
      elim (cases_Bool (has_six k bits)) [
        | inl six ↦ omega (arith, ap (λ p. p.1) (six_is false six), length-unstuffed k first, first_few six, sixth_at-inside k (low_bits 8 byte) six, length-low_bits 8 byte)
        | inr none ↦ omega (arith, ap (λ p. p.1) (none_is false none), length-unstuffed k bits, length-low_bits 8 byte)
      ]

  pub bits_below : entry % 256 < 2 ^ (entry / 256 % 16)
  unfolding bits
  bits_below =
      elim (cases_Bool (has_six k bits)) [
        | inl six ↦ rw (ap (λ p. p.0) (six_is false six), ap (λ p. p.1) (six_is false six)) (number_of-below (unstuffed k first))
        | inr none ↦ rw (ap (λ p. p.0) (none_is false none), ap (λ p. p.1) (none_is false none)) (number_of-below (unstuffed k bits))
      ]

  no_six_in : entry / 4096 % 8 ≤ 5 → has_six k bits ≡ false
  unfolding bits
  no_six_in few =
      elim (cases_Bool (has_six k bits)) [
        | inl six ↦ absurd (omega (arith, ap (λ p. p.2) (six_is false six)))
        | inr none ↦ none
      ]

  six_in : k ≤ 5 → 5 < entry / 4096 % 8 → has_six k bits ≡ true
  unfolding bits
  six_in few many =
      elim (cases_Bool (has_six k bits)) [
        | inl six ↦ six
        | inr none ↦ absurd (omega (arith, ap (λ p. p.2) (none_is false none), ones_after-few k bits few none))
      ]

  pub given_in : (given : Given) → given.bits ≡ entry % 256 → given.count ≡ entry / 256 % 16 → given.ones ≡ entry / 4096 % 8 → given.dropped ≡ (entry / 32768 == 1) → given.ones ≤ 5 → IsGiven k (low_bits 8 byte) given
  unfolding bits
  given_in given a b c d few =
      let none : has_six k (low_bits 8 byte) ≡ false = no_six_in (omega arith) in
      let all : given.count ≡ length (unstuffed k (low_bits 8 byte)) = b ∙ ap (λ p. p.1) (none_is false none) in
      record {
        no_six = none;
        plain = rw (all, a ∙ ap (λ p. p.0) (none_is false none)) (low_bits-number_of (unstuffed k (low_bits 8 byte)));
        all = all;
        behind = c ∙ ap (λ p. p.2) (none_is false none);
        last_zero = λ before. d ∙ ap (λ p. p.3) (none_is before none);
      }

  pub end_in : (given : Given) → k ≤ 5 → given.bits ≡ entry % 256 → given.count ≡ entry / 256 % 16 → given.ones ≡ entry / 4096 % 8 → given.dropped ≡ (entry / 32768 == 1) → 5 < given.ones → IsEnd k (low_bits 8 byte) given
  unfolding bits first
  end_in given few a b c d many =
      let six : has_six k (low_bits 8 byte) ≡ true = six_in few (omega arith) in
      let all : given.count ≡ length (unstuffed k (before_sixth k (low_bits 8 byte))) = b ∙ ap (λ p. p.1) (six_is false six) in
      record {
        six = six;
        plain = rw (all, a ∙ ap (λ p. p.0) (six_is false six)) (low_bits-number_of (unstuffed k (before_sixth k (low_bits 8 byte))));
        all = all;
        place = omega (arith, all, c, ap (λ p. p.2) (six_is false six), length-unstuffed k (before_sixth k (low_bits 8 byte)), first_few six);
        last_zero = λ before. zero_by (sixth_at k (low_bits 8 byte)) k (before_sixth k (low_bits 8 byte)) before given.dropped (first_few six) ((sixth k (low_bits 8 byte) six).five few) (d ∙ ap (λ p. p.3) (six_is before six));
      }

-- the table of the ones at the end
all_endings : agree_below (λ i. has_six (i / 256) (low_bits 8 (i % 256)) || (get_or ENDING (i % 256) 0 == ones_after (i / 256) (low_bits 8 (i % 256)))) (λ i. true) 1536 ≡ true
unfolding low_bits is_odd has_six ones_after
all_endings = refl

all_few : agree_below (λ i. nat_le (get_or ENDING i 0) 5) (λ i. true) 256 ≡ true
all_few = refl

pub ending_is : (ones byte : ℕ) → ones ≤ 5 → byte < 256 → has_six ones (low_bits 8 byte) ≡ false → get_or ENDING byte 0 ≡ ones_after ones (low_bits 8 byte)
ending_is ones byte few below none =
    let i : ℕ = 256 * ones + byte in
    let inside : i < 1536 = omega arith in
    let upper : i / 256 ≡ ones = omega arith in
    let lower : i % 256 ≡ byte = omega arith in
    let at_place = agree_below_at (λ i. has_six (i / 256) (low_bits 8 (i % 256)) || (get_or ENDING (i % 256) 0 == ones_after (i / 256) (low_bits 8 (i % 256)))) (λ i. true) 1536 i all_endings inside in
    let there : (has_six ones (low_bits 8 byte) || (get_or ENDING byte 0 == ones_after ones (low_bits 8 byte))) ≡ true = rw (upper, lower) at at_place in
    eqb-true (get_or ENDING byte 0) (ones_after ones (low_bits 8 byte)) (sym (ap (λ v. v || (get_or ENDING byte 0 == ones_after ones (low_bits 8 byte))) none) ∙ there)

pub ending_few : (byte : ℕ) → byte < 256 → get_or ENDING byte 0 ≤ 5
ending_few byte below =
    let test = agree_below_at (λ i. nat_le (get_or ENDING i 0) 5) (λ i. true) 256 byte all_few below in
    grind (arith, nat_tests)
