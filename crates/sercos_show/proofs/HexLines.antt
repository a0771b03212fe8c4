-- The HEX of a line has no fault exactly where it spells bits.
use Rattle.std.proofs.Common.{◌≡◌, ℕ, zero, suc, ◌+◌, ◌-◌, ◌*◌, ◌/◌, ◌^◌, ◌<◌, ◌≤◌, Bool, false, not, ◌==◌, nat_lt, nat_le, List, [], ◌∷◌, length, replicate, take, get_or, None, Ok, refl, sym, ap, ◌∙◌, arith, codes, length-append}
use Rattle.std.specs.Bool.{then_some}
use Rattle.std.specs.Char.{is_ascii_hexdigit}
use Rattle.std.specs.List.{prefix_len}
use Rattle.std.proofs.lemmas.Bool.Decides.{nat_tests}
use Rattle.std.proofs.lemmas.List.{length-take-le, length-replicate, take_all, take_at}
use Rattle.std.proofs.lemmas.List.Sums.{prefix_len-le-length}
use Rattle.hex.specs.Hex.{decode_of}
use Rattle.sercos_model.specs.Bits.{bits_of}
use Rattle.sercos_model.proofs.BitLemmas.{length-bits_of}
use Rattle.sercos_text.specs.Fields.{pairs_of}
use Rattle.sercos_show.specs.Line.{byte_of, wanted_digits, has_spare, dash_fault, digits_fault, hex_fault, hex_bits}
use Rattle.sercos_show.specs.Digits.{AreDigitPairs}
use Rattle.sercos_show.specs.SpelledLine.{AreDigitsOf, IsHexOf}
use Rattle.sercos_model.proofs.FaultLemmas.{none_of-or, none_of-then, at_least, nat_lt-at_least}
use Rattle.sercos_show.proofs.HexPairs.{pair_bytes, pair_bytes-at, byte_of-least, AllPass-prefix_len, prefix_len-AllPass, decode_of-pair_bytes, ArePairs-decoded}
use Rattle.sercos_show.proofs.SpareBits.{spare_zeros, last_below}

-- how many bytes come before the last one of n bits
abbrev pub bytes_before : ℕ → ℕ
bytes_before count = (count + 7) / 8 - 1

pub has_spare-small : (count byte : ℕ) → has_spare count byte ≡ false → byte < 2 ^ (count - 8 * bytes_before count)
unfolding has_spare
has_spare-small count byte fails = grind (arith, nat_tests)

pub small-has_spare : (count byte : ℕ) → byte < 2 ^ (count - 8 * bytes_before count) → has_spare count byte ≡ false
unfolding has_spare
small-has_spare count byte small = grind (arith, nat_tests)

-- the digits of n bits, without a fault
pub record AreGoodDigits (count : ℕ) (text : List ℕ) : Type 0 where
  pub long : length text ≡ wanted_digits count
  pub all : prefix_len is_ascii_hexdigit text ≡ length text
  pub least : has_spare count (byte_of (get_or text (wanted_digits count - 2) 0) 48) ≡ false
  pub last : has_spare count (byte_of (get_or text (wanted_digits count - 2) 0) (get_or text (wanted_digits count - 2 + 1) 0)) ≡ false

pub AreGoodDigits-digits_fault : (count : ℕ) (text : List ℕ) → digits_fault count text ≡ None → AreGoodDigits count text
unfolding digits_fault
AreGoodDigits-digits_fault count text none =
    let wanted : ℕ = wanted_digits count in
    let digits : ℕ = prefix_len is_ascii_hexdigit text in
    let high : ℕ = get_or text (wanted - 2) 0 in
    let first = none_of-or (then_some (nat_le digits (wanted - 2)) digits) _ none in
    let second = none_of-or (then_some (has_spare count (byte_of high 48)) (wanted - 2)) _ first.1 in
    let third = none_of-or (then_some (nat_lt digits wanted) digits) _ second.1 in
    let fourth = none_of-or (then_some (has_spare count (byte_of high (get_or text (wanted - 2 + 1) 0))) (wanted - 2)) (then_some (nat_lt wanted (length text)) wanted) third.1 in
    let enough : wanted ≤ digits = at_least digits wanted (none_of-then _ digits third.0) in
    let few : length text ≤ wanted = at_least wanted (length text) (none_of-then _ wanted fourth.1) in
    let within = prefix_len-le-length is_ascii_hexdigit text in
    record {
      long = omega arith;
      all = omega arith;
      least = none_of-then _ (wanted - 2) second.0;
      last = none_of-then _ (wanted - 2) fourth.0;
    }

nat_le-above : (a b : ℕ) → b < a → nat_le a b ≡ false
nat_le-above a b above = grind (arith, nat_tests)

pub digits_fault-AreGoodDigits : (count : ℕ) (text : List ℕ) → 2 ≤ wanted_digits count → AreGoodDigits count text → digits_fault count text ≡ None
unfolding digits_fault
digits_fault-AreGoodDigits count text some good =
    let digits : ℕ = prefix_len is_ascii_hexdigit text in
    let first : nat_le digits (wanted_digits count - 2) ≡ false = nat_le-above digits (wanted_digits count - 2) (omega (arith, good.long, good.all)) in
    let third : nat_lt digits (wanted_digits count) ≡ false = nat_lt-at_least digits (wanted_digits count) (omega (arith, good.long, good.all)) in
    let fifth : nat_lt (wanted_digits count) (length text) ≡ false = nat_lt-at_least (wanted_digits count) (length text) (omega (arith, good.long)) in
    rw (first, good.least, third, good.last, fifth) refl

hex_bits-decoded : (count : ℕ) (text bytes : List ℕ) → length text ≡ wanted_digits count → decode_of text ≡ Ok bytes → hex_bits count text ≡ take count (bits_of bytes)
unfolding hex_bits pairs_of
hex_bits-decoded count text bytes long decoded =
    let all : take (wanted_digits count) text ≡ text = take_all (wanted_digits count) text (omega arith) in
    rw (all, decoded) refl

-- digits without a fault spell as many bits as are wanted
AreDigitsOf-good : (count : ℕ) (text : List ℕ) → 0 < count → AreGoodDigits count text → AreDigitsOf text (hex_bits count text) × (length (hex_bits count text) ≡ count)
unfolding wanted_digits
AreDigitsOf-good count text some good =
    let before : ℕ = bytes_before count in
    let used : ℕ = count - 8 * before in
    let spare : ℕ = 8 - used in
    let bytes : List ℕ = pair_bytes text in
    let decoded = decode_of-pair_bytes text (omega (arith, good.long)) (AllPass-prefix_len text good.all) in
    let pairs = ArePairs-decoded text bytes decoded in
    let place : wanted_digits count - 2 ≡ 2 * before = omega arith in
    let byte = pair_bytes-at before text (omega (arith, good.long)) in
    let small : get_or bytes before 0 < 2 ^ used = rw byte (has_spare-small count _ (rw place at good.last)) in
    let whole : 8 * before + used ≡ count = omega arith in
    let filled = spare_zeros bytes before used spare (omega (arith, pairs.twice, good.long)) (omega arith) small in
    let bits_are = hex_bits-decoded count text bytes good.long decoded in (
      record { bytes = bytes; decoded = decoded; spare = spare; few = omega arith; filled = rw bits_are (rw whole at filled) },
      rw bits_are (length-take-le count (bits_of bytes) (omega (arith, length-bits_of bytes, pairs.twice, good.long))),
    )

-- digits that spell bits have no fault
good-AreDigitsOf : (text : List ℕ) (bits : List Bool) → 0 < length bits → AreDigitsOf text bits → AreGoodDigits (length bits) text × (hex_bits (length bits) text ≡ bits)
unfolding wanted_digits
good-AreDigitsOf text bits some spelled =
    let count : ℕ = length bits in
    let before : ℕ = bytes_before count in
    let bytes : List ℕ = spelled.bytes in
    let pairs = ArePairs-decoded text bytes spelled.decoded in
    let sum : 8 * length bytes ≡ count + spelled.spare =
    omega (arith, length-bits_of bytes, ap length spelled.filled, length-append bits (replicate spelled.spare false), length-replicate spelled.spare false) in
    let long : length text ≡ wanted_digits count = omega (arith, pairs.twice, spelled.few) in
    let high : ℕ = get_or text (2 * before) 0 in
    let low : ℕ = get_or text (2 * before + 1) 0 in
    let byte : get_or bytes before 0 ≡ byte_of high low = ap (λ l. get_or l before 0) pairs.bytes_are ∙ pair_bytes-at before text (omega arith) in
    let small = last_below bytes bits before spelled.spare (omega (arith, spelled.few)) (pairs.each before) (omega arith) spelled.filled in
    let least = byte_of-least high low (pairs.digits (2 * before) 0 (omega arith)) (pairs.digits (2 * before + 1) 0 (omega arith)) in
    let place : wanted_digits count - 2 ≡ 2 * before = omega arith in (
      record {
        long = long;
        all = prefix_len-AllPass text pairs.digits;
        least = rw place (small-has_spare count (byte_of high 48) (omega (arith, small, least, byte)));
        last = rw place (small-has_spare count (byte_of high low) (omega (arith, small, byte)));
      },
      hex_bits-decoded count text bytes long spelled.decoded ∙ ap (take count) spelled.filled ∙ take_at bits (replicate spelled.spare false) count refl,
    )

-- the HEX of no bits
pub dash_fault-dash : (text : List ℕ) → dash_fault text ≡ None → text ≡ codes "-"
unfolding dash_fault
dash_fault-dash [] none = cc
dash_fault-dash (byte ∷ []) none =
    let is = none_of-or (then_some (not (byte == 45)) 0) _ none in
    ap (λ first. first ∷ []) (same byte (none_of-then (not (byte == 45)) 0 is.0))
  where
    same : (byte : ℕ) → not (byte == 45) ≡ false → byte ≡ 45
    same byte is = grind (arith, nat_tests)
dash_fault-dash (byte ∷ more ∷ text) none =
    let is = none_of-or (then_some (not (byte == 45)) 0) _ none in
    let few = at_least 1 (suc (suc (length text))) (none_of-then _ 1 is.1) in
    absurd (omega arith)

IsHexOf-digits : (text : List ℕ) (bits : List Bool) → 0 < length bits → AreDigitsOf text bits → IsHexOf text bits
unfolding IsHexOf
IsHexOf-digits text [] some spelled = absurd (omega arith)
IsHexOf-digits text (bit ∷ bits) some spelled = spelled

pub hex_fault-some : (count : ℕ) (text : List ℕ) → 0 < count → hex_fault count text ≡ digits_fault count text
unfolding hex_fault
hex_fault-some count text some =
    let other : (count == 0) ≡ false = grind (arith, nat_tests) in
    rw other refl

-- HEX without a fault spells its bits, as many as COUNT says
pub IsHexOf-hex_fault : (count : ℕ) (text : List ℕ) → hex_fault count text ≡ None → IsHexOf text (hex_bits count text) × (length (hex_bits count text) ≡ count)
unfolding hex_fault hex_bits IsHexOf
IsHexOf-hex_fault zero text none = (dash_fault-dash text none, refl)
IsHexOf-hex_fault (suc count) text none =
    let is = AreDigitsOf-good (suc count) text (omega arith) (AreGoodDigits-digits_fault (suc count) text (sym (hex_fault-some (suc count) text (omega arith)) ∙ none)) in
    (IsHexOf-digits text (hex_bits (suc count) text) (omega (arith, is.1)) is.0, is.1)

-- what spells bits is HEX without a fault, and gives these
pub hex_fault-IsHexOf : (text : List ℕ) (bits : List Bool) → IsHexOf text bits → (hex_fault (length bits) text ≡ None) × (hex_bits (length bits) text ≡ bits)
unfolding hex_fault hex_bits IsHexOf dash_fault
hex_fault-IsHexOf text [] is = (rw is refl, refl)
hex_fault-IsHexOf text (bit ∷ bits) is =
    let good = good-AreDigitsOf text (bit ∷ bits) (omega arith) is in
    let count : ℕ = suc (length bits) in
    let none = digits_fault-AreGoodDigits count text (unfold wanted_digits in omega arith) good.0 in
    (hex_fault-some count text (omega arith) ∙ none, good.1)

-- the HEX of at least one bit, without a fault, is pairs of digits, which give its bits
pub AreDigitPairs-hex_fault : (count : ℕ) (text : List ℕ) → 0 < count → hex_fault count text ≡ None → AreDigitPairs text
unfolding wanted_digits
AreDigitPairs-hex_fault count text some none =
    let good = AreGoodDigits-digits_fault count text (sym (hex_fault-some count text some) ∙ none) in
    record { all = good.all; even = omega (arith, good.long) }

pub length-hex_fault : (count : ℕ) (text : List ℕ) → 0 < count → hex_fault count text ≡ None → length text ≡ 2 * ((count + 7) / 8)
unfolding wanted_digits
length-hex_fault count text some none = (AreGoodDigits-digits_fault count text (sym (hex_fault-some count text some) ∙ none)).long

pub hex_bits-all : (count : ℕ) (text : List ℕ) → length text ≡ 2 * ((count + 7) / 8) → take count (bits_of (pairs_of text)) ≡ hex_bits count text
unfolding hex_bits wanted_digits
hex_bits-all count text long =
    let all : take (2 * ((count + 7) / 8)) text ≡ text = take_all (2 * ((count + 7) / 8)) text (omega arith) in
    rw all refl

pub hex_bits-none : (count : ℕ) (text : List ℕ) → count ≡ 0 → [] ≡ hex_bits count text
unfolding hex_bits
hex_bits-none count text none = rw none refl
