-- The table of the values of digits, and the bits of the bytes that pairs of digits spell.
use Rattle.std.proofs.Common.{◌≡◌, ℕ, zero, suc, ◌+◌, ◌*◌, ◌/◌, ◌%◌, ◌^◌, ◌<◌, ◌≤◌, Bool, true, List, ◌∷◌, ◌++◌, inl, inr, bit_or, slice_set, length, map, take, drop, get_or, unwrap_or, Option, Some, None, is_some, nat_lt, refl, sym, ap, ◌∙◌, arith, append_assoc}
use Rattle.std.specs.Char.{is_ascii_hexdigit}
use Rattle.std.specs.List.{range_with_len}
use Rattle.std.proofs.Math.Seq.{take-append-add, take-append_seam}
use Rattle.std.proofs.lemmas.Bool.{cases_lt, cases_eq}
use Rattle.std.proofs.lemmas.Bool.Decides.{nat_tests}
use Rattle.std.proofs.lemmas.List.Sums.{prefix_len_is}
use Rattle.std.proofs.lemmas.Nat.{le_or_l, le_or_r, or_lt}
use Rattle.std.proofs.lemmas.List.{take-append-drop, take-append-le, length-take-le, get_or-set_same, get_or-set_other, ext_get_or}
use Rattle.std.proofs.lemmas.List.FromFn.{get_or-map-range_with_len}
use Rattle.hex.specs.Hex.{hex_digit_value}
use Rattle.sercos_model.specs.Bits.{is_odd, low_bits, bits_of}
use Rattle.sercos_model.proofs.BitLemmas.{length-low_bits, bits_of-append, length-bits_of, bits_of-next}
use Rattle.sercos_text.specs.Fields.{pairs_of}
use Rattle.sercos_show.specs.declared.digits.TheConstants.{VALUES}
use Rattle.sercos_show.specs.Digits.{AreDigitPairs}
use Rattle.sercos_show.specs.Line.{byte_of}
use Rattle.sercos_show.proofs.HexPairs.{is_hex_digit-ascii, digit_of, byte_of-digits, pair_bytes, pair_bytes-at, AllPass-prefix_len, decode_of-pair_bytes, ArePairs-decoded}

-- the table of values
abbrev value_or : ℕ → ℕ
value_or c = unwrap_or (hex_digit_value c) 255

all_values : VALUES ≡ map value_or (range_with_len 0 256)
all_values = refl

value_small : (c v : ℕ) → hex_digit_value c ≡ Some v → v < 16
value_small c v is = grind (arith, nat_tests)

pub value_at : (c : ℕ) → c < 256 → is_ascii_hexdigit c ≡ true → (hex_digit_value c ≡ Some (get_or VALUES c 0)) × (get_or VALUES c 0 < 16)
value_at c below is =
    let found : get_or VALUES c 0 ≡ value_or c = ap (λ xs. get_or xs c 0) all_values ∙ get_or-map-range_with_len value_or 0 256 c c 0 below (omega arith) in
    let digit = digit_of c (is_hex_digit-ascii c ∙ is) in
    let value : get_or VALUES c 0 ≡ digit.0 = found ∙ ap (λ o. unwrap_or o 255) digit.1 in
    (digit.1 ∙ ap Some (sym value), rw value (value_small c digit.0 digit.1))

pub test_at : (c : ℕ) → c < 256 → nat_lt (get_or VALUES c 0) 16 ≡ is_ascii_hexdigit c
test_at c below =
    let found : get_or VALUES c 0 ≡ value_or c = ap (λ xs. get_or xs c 0) all_values ∙ get_or-map-range_with_len value_or 0 256 c c 0 below (omega arith) in
    ap (λ n. nat_lt n 16) found ∙ test_by (hex_digit_value c) (value_small c) ∙ is_hex_digit-ascii c
  where
    test_by : (o : Option ℕ) → ((v : ℕ) → o ≡ Some v → v < 16) → nat_lt (unwrap_or o 255) 16 ≡ is_some o
    test_by (Some v) small = let below = small v refl in grind (arith, nat_tests)
    test_by None small = refl

pub value_by : (c : ℕ) → c < 256 → get_or VALUES c 0 < 16 → hex_digit_value c ≡ Some (get_or VALUES c 0)
value_by c below small = (value_at c below (sym (test_at c below) ∙ small_test (get_or VALUES c 0) small)).0
  where
    small_test : (n : ℕ) → n < 16 → nat_lt n 16 ≡ true
    small_test n few = grind (arith, nat_tests)

-- the digits at the places of a pair
pub digit_is : (text : List ℕ) (k : ℕ) → AreDigitPairs text → k < length text → is_ascii_hexdigit (get_or text k 0) ≡ true
digit_is text k pairs inside = sym (is_hex_digit-ascii (get_or text k 0)) ∙ AllPass-prefix_len text pairs.all k 0 inside

pub pairs_of-pair_bytes : (text : List ℕ) → AreDigitPairs text → pairs_of text ≡ pair_bytes text
unfolding pairs_of
pairs_of-pair_bytes text pairs = rw (decode_of-pair_bytes text pairs.even (AllPass-prefix_len text pairs.all)) refl

pub byte_is : (high low h l : ℕ) → hex_digit_value high ≡ Some h → hex_digit_value low ≡ Some l → 16 * h + l ≡ byte_of high low
byte_is high low h l high_is low_is =
    let sum : 16 * h + l ≡ h * 16 + l = omega arith in
    sum ∙ sym (byte_of-digits high low h l high_is low_is)

pub pair_is : (text : List ℕ) (k : ℕ) → AreDigitPairs text → 2 * k + 2 ≤ length text → byte_of (get_or text (2 * k) 0) (get_or text (2 * k + 1) 0) ≡ get_or (pairs_of text) k 0
pair_is text k pairs inside = sym (pair_bytes-at k text (omega arith)) ∙ ap (λ bytes. get_or bytes k 0) (sym (pairs_of-pair_bytes text pairs))

pub length-pairs_of : (text : List ℕ) → AreDigitPairs text → 2 * length (pairs_of text) ≡ length text
length-pairs_of text pairs =
    let are = ArePairs-decoded text (pair_bytes text) (decode_of-pair_bytes text pairs.even (AllPass-prefix_len text pairs.all)) in
    rw (pairs_of-pair_bytes text pairs) (sym are.twice)

-- the lowest bits of a byte
take-low_bits : (u w n : ℕ) → u ≤ w → take u (low_bits w n) ≡ low_bits u n
unfolding low_bits
take-low_bits zero w n few = refl
take-low_bits (suc u) zero n few = absurd (omega arith)
take-low_bits (suc u) (suc w) n few = ap (λ bits. is_odd n ∷ bits) (take-low_bits u w (n / 2) (omega arith))

-- some bits more
bits_more : (bytes : List ℕ) (k u : ℕ) → k < length bytes → u ≤ 8 → take (8 * k + u) (bits_of bytes) ≡ take (8 * k) (bits_of bytes) ++ low_bits u (get_or bytes k 0)
bits_more bytes k u inside few =
    let front : List Bool = bits_of (take k bytes) in
    let byte : List Bool = low_bits 8 (get_or bytes k 0) in
    let behind : List Bool = bits_of (drop (k + 1) bytes) in
    let whole : bits_of bytes ≡ front ++ (byte ++ behind) =
    ap bits_of (sym (take-append-drop k bytes)) ∙ bits_of-append (take k bytes) (drop k bytes) ∙ ap (λ bits. front ++ bits) (bits_of-next bytes k inside) in
    let len : length front ≡ 8 * k = length-bits_of (take k bytes) ∙ ap (λ n. 8 * n) (length-take-le k bytes (omega arith)) in
    let cut : take u (byte ++ behind) ≡ low_bits u (get_or bytes k 0) =
    take-append-le u byte behind (omega (arith, length-low_bits 8 (get_or bytes k 0), few)) ∙ take-low_bits u 8 (get_or bytes k 0) few in
    let first : take (8 * k) (bits_of bytes) ≡ front =
    rw whole (rw (← len) (take-append_seam front (byte ++ behind))) in
    let more : take (8 * k + u) (bits_of bytes) ≡ front ++ take u (byte ++ behind) =
    rw whole (rw (← len) (take-append-add front (byte ++ behind) u)) in
    more ∙ ap (λ bits. front ++ bits) cut ∙ ap (λ bits. bits ++ low_bits u (get_or bytes k 0)) (sym first)

pub bits_of-first : (bytes : List ℕ) (k : ℕ) → k ≤ length bytes → bits_of (take k bytes) ≡ take (8 * k) (bits_of bytes)
bits_of-first bytes k inside =
    let front : List Bool = bits_of (take k bytes) in
    let whole : bits_of bytes ≡ front ++ bits_of (drop k bytes) = ap bits_of (sym (take-append-drop k bytes)) ∙ bits_of-append (take k bytes) (drop k bytes) in
    let len : length front ≡ 8 * k = length-bits_of (take k bytes) ∙ ap (λ n. 8 * n) (length-take-le k bytes inside) in
    sym (ap (take (8 * k)) whole ∙ ap (λ n. take n (front ++ bits_of (drop k bytes))) (sym len) ∙ take-append_seam front (bits_of (drop k bytes)))

-- the bits of whole bytes, and some of the next one's
pub first_fed : (bytes : List ℕ) (before : List Bool) (k u : ℕ) → k < length bytes → u ≤ 8
    → before ++ take (8 * k + u) (bits_of bytes) ≡ (before ++ bits_of (take k bytes)) ++ low_bits u (get_or bytes k 0)
first_fed bytes before k u inside few =
    let front : List Bool = bits_of (take k bytes) in
    let first : bits_of (take k bytes) ≡ take (8 * k) (bits_of bytes) = bits_of-first bytes k (omega arith) in
    ap (λ bits. before ++ bits) (bits_more bytes k u inside few ∙ ap (λ b. b ++ low_bits u (get_or bytes k 0)) (sym first)) ∙ sym (append_assoc before front (low_bits u (get_or bytes k 0)))

-- Bytes are set to those that pairs of digits spell, up to a place. What was seen is below 16 where all these are digits.
pub record IsSet (digits bytes : List ℕ) (place seen : ℕ) : Type 0 where
  pub digit : seen < 16 → (k : ℕ) → k < 2 * place → is_ascii_hexdigit (get_or digits k 0) ≡ true
  pub byte : seen < 16 → (k : ℕ) → k < place → get_or bytes k 0 ≡ byte_of (get_or digits (2 * k) 0) (get_or digits (2 * k + 1) 0)
  pub small : ((k : ℕ) → k < length digits → is_ascii_hexdigit (get_or digits k 0) ≡ true) → seen < 16

pub IsSet-none : (digits bytes : List ℕ) → IsSet digits bytes 0 0
IsSet-none digits bytes = record {
  digit = λ few k none. absurd (omega arith);
  byte = λ few k none. absurd (omega arith);
  small = λ all. omega arith;
}

pub below_by : (n : ℕ) → nat_lt n 16 ≡ true → n < 16
below_by n test = grind (arith, nat_tests)

test_16 : (n : ℕ) → n < 16 → nat_lt n 16 ≡ true
test_16 n below = grind (arith, nat_tests)

pair_value : (high low : ℕ) → high < 16 → low < 16 → (high * 16 % 256 + low) % 256 ≡ 16 * high + low
pair_value high low few also = omega arith

pub IsSet-more : (digits bytes : List ℕ) (place seen high low byte : ℕ) → place < length bytes → length digits ≡ 2 * length bytes
    → (high < 16 → hex_digit_value (get_or digits (2 * place) 0) ≡ Some high) → nat_lt high 16 ≡ is_ascii_hexdigit (get_or digits (2 * place) 0)
    → (low < 16 → hex_digit_value (get_or digits (2 * place + 1) 0) ≡ Some low) → nat_lt low 16 ≡ is_ascii_hexdigit (get_or digits (2 * place + 1) 0)
    → byte ≡ (high * 16 % 256 + low) % 256 → IsSet digits bytes place seen
    → IsSet digits (slice_set bytes place byte) (place + 1) (bit_or seen (bit_or high low))
IsSet-more digits bytes place seen high low byte inside long high_is high_test low_is low_test is h = record {
  digit = λ few k below.
      let parts = parted few in
      elim (cases_lt k (2 * place)) [
        | inl old ↦ h.digit parts.0 k old
        | inr new ↦ elim (cases_eq k (2 * place)) [
          | inl first ↦ rw first (sym high_test ∙ test_16 high parts.1)
          | inr second ↦
              let last : k ≡ 2 * place + 1 = omega arith in
              rw last (sym low_test ∙ test_16 low parts.2)
        ]
      ];
  byte = λ few k below.
      let parts = parted few in
      elim (cases_eq k place) [
        | inl here ↦
            rw (here, get_or-set_same bytes place byte 0 inside) (is ∙ pair_value high low parts.1 parts.2 ∙ byte_is (get_or digits (2 * place) 0) (get_or digits (2 * place + 1) 0) high low (high_is parts.1) (low_is parts.2))
        | inr other ↦ get_or-set_other bytes place k byte 0 other ∙ h.byte parts.0 k (omega arith)
      ];
  small = λ all.
      let a : seen < 2 ^ 4 = h.small all in
      let b : high < 2 ^ 4 = below_by high (high_test ∙ all (2 * place) (omega arith)) in
      let c : low < 2 ^ 4 = below_by low (low_test ∙ all (2 * place + 1) (omega arith)) in
      or_lt 4 seen (bit_or high low) a (or_lt 4 high low b c);
}
  where
    parted : bit_or seen (bit_or high low) < 16 → (seen < 16) × (high < 16) × (low < 16)
    parted few =
        let both : bit_or high low < 16 = omega (arith, few, le_or_r seen (bit_or high low)) in
        (omega (arith, few, le_or_l seen (bit_or high low)), omega (arith, both, le_or_l high low), omega (arith, both, le_or_r high low))

pub AreDigitPairs-set : (digits bytes : List ℕ) (seen : ℕ) → length digits ≡ 2 * length bytes → IsSet digits bytes (length bytes) seen → nat_lt seen 16 ≡ true → AreDigitPairs digits
AreDigitPairs-set digits bytes seen long h test = record {
  all = prefix_len_is is_ascii_hexdigit digits (length digits) 0 (omega arith) (λ k inside. h.digit (below_by seen test) k (omega (arith, long, inside))) (λ past. absurd (omega arith));
  even = omega (arith, long);
}

pub bytes_set : (digits bytes : List ℕ) (seen : ℕ) → length digits ≡ 2 * length bytes → IsSet digits bytes (length bytes) seen → nat_lt seen 16 ≡ true → bytes ≡ pairs_of digits
bytes_set digits bytes seen long h test =
    let pairs = AreDigitPairs-set digits bytes seen long h test in
    ext_get_or 0 bytes (pairs_of digits) (omega (arith, long, length-pairs_of digits pairs)) (λ k inside. h.byte (below_by seen test) k inside ∙ pair_is digits k pairs (omega (arith, long, inside)))

pub all_seen : (digits bytes : List ℕ) (seen : ℕ) → length digits ≡ 2 * length bytes → IsSet digits bytes (length bytes) seen → AreDigitPairs digits → nat_lt seen 16 ≡ true
all_seen digits bytes seen long h pairs = test_16 seen (h.small (λ k inside. digit_is digits k pairs inside))
