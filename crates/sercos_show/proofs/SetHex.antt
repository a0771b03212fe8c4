-- The HEX of at least one bit, whose bytes are set at once.
use Rattle.std.proofs.Common.{◌≡◌, ℕ, zero, suc, ◌+◌, ◌-◌, ◌*◌, ◌<◌, ◌≤◌, Bool, true, false, not, List, [], length, take, get_or, None, refl, sym, ap, ◌∙◌, arith, ◌++◌, length-take-le}
use Rattle.std.proofs.lemmas.List.{take_at, get_or-take}
use Rattle.sercos_hdlc.specs.Fed.{IsFed}
use Rattle.sercos_hdlc.specs.declared.deframer.Deframer.{Deframer}
use Rattle.sercos_text.specs.Fields.{pairs_of}
use Rattle.sercos_show.specs.Line.{byte_of, wanted_digits, has_spare, hex_fault, hex_bits}
use Rattle.sercos_show.specs.Digits.{AreDigitPairs}
use Rattle.sercos_show.proofs.DigitLemmas.{pair_is, digit_is}
use Rattle.sercos_show.proofs.HexPairs.{is_hex_digit-ascii, byte_of-least}
use Rattle.sercos_show.proofs.HexLines.{bytes_before, has_spare-small, small-has_spare, AreGoodDigits-digits_fault, digits_fault-AreGoodDigits, hex_fault-some, hex_bits-none}

-- digits of the wanted length, without spare bits, have no fault
pub hex_fault-set : (count : ℕ) (text : List ℕ) → 0 < count → length text ≡ wanted_digits count → AreDigitPairs text → has_spare count (get_or (pairs_of text) (bytes_before count) 0) ≡ false → hex_fault count text ≡ None
unfolding wanted_digits
hex_fault-set count text some long pairs last =
    let before : ℕ = bytes_before count in
    let high : ℕ = get_or text (2 * before) 0 in
    let low : ℕ = get_or text (2 * before + 1) 0 in
    let place : wanted_digits count - 2 ≡ 2 * before = omega arith in
    let byte : byte_of high low ≡ get_or (pairs_of text) before 0 = pair_is text before pairs (omega (arith, long)) in
    let good : has_spare count (byte_of high low) ≡ false = rw byte last in
    let least = byte_of-least high low (is_hex_digit-ascii high ∙ digit_is text (2 * before) pairs (omega (arith, long))) (is_hex_digit-ascii low ∙ digit_is text (2 * before + 1) pairs (omega (arith, long))) in
    hex_fault-some count text some ∙ digits_fault-AreGoodDigits count text (omega arith) (record {
      long = long;
      all = pairs.all;
      least = rw place (small-has_spare count (byte_of high 48) (omega (arith, has_spare-small count (byte_of high low) good, least)));
      last = rw place good;
    })

-- and others have one
pub record IsWhole (count : ℕ) (text : List ℕ) : Type 0 where
  pub long : length text ≡ wanted_digits count
  pub pairs : AreDigitPairs text
  pub last : has_spare count (get_or (pairs_of text) (bytes_before count) 0) ≡ false

pub IsWhole-hex_fault : (count : ℕ) (text : List ℕ) → 0 < count → hex_fault count text ≡ None → IsWhole count text
unfolding wanted_digits
IsWhole-hex_fault count text some none =
    let good = AreGoodDigits-digits_fault count text (sym (hex_fault-some count text some) ∙ none) in
    let before : ℕ = bytes_before count in
    let place : wanted_digits count - 2 ≡ 2 * before = omega arith in
    let pairs : AreDigitPairs text = record { all = good.all; even = omega (arith, good.long) } in
    let byte = pair_is text before pairs (omega (arith, good.long)) in
    record {
      long = good.long;
      pairs = pairs;
      last = rw (← byte) (rw place at good.last);
    }

-- where nothing was set, a HEX without a fault is that of no bits
pub none_set : (count : ℕ) (text : List ℕ) (set : Bool) (deframer : Deframer) → hex_fault count text ≡ None → (0 < count → hex_fault count text ≡ None → set ≡ true) → set ≡ false → IsFed [] deframer → IsFed (hex_bits count text) deframer
none_set zero text set deframer none all not_set h = rw (← hex_bits-none 0 text refl) h
none_set (suc count) text set deframer none all not_set h = absurd (both set (all (omega arith) none) not_set)
  where
    both : (b : Bool) → b ≡ true → b ≡ false → ⊥
    both b is not_is = cc

-- the last byte that was set
pub last_of : (room set behind bytes : List ℕ) (len place : ℕ) → length set ≡ length (take len room) → len ≤ length room → set ≡ bytes → place < len → get_or (set ++ behind) place 0 ≡ get_or bytes place 0
last_of room set behind bytes len place long inside is before =
    let all : length set ≡ len = long ∙ length-take-le len room inside in
    sym (get_or-take len (set ++ behind) place 0 before) ∙ ap (λ b. get_or b place 0) (take_at set behind len all ∙ is)
