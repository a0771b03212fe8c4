-- Pairs of hexadecimal digits, and the bytes that they spell.
use Rattle.std.proofs.Common.{◌≡◌, ℕ, zero, suc, ◌+◌, ◌*◌, ◌%◌, ◌<◌, ◌≤◌, true, List, [], ◌∷◌, length, get_or, Option, Some, None, is_some, Ok, refl, sym, ap, ◌∙◌, arith}
use Rattle.std.specs.Char.{is_ascii_hexdigit}
use Rattle.std.specs.List.{AllPass, prefix_len}
use Rattle.std.proofs.lemmas.Bool.Decides.{nat_tests}
use Rattle.std.proofs.lemmas.List.Elements.{All-head, All-tail}
use Rattle.std.proofs.lemmas.List.Sums.{prefix_len_passes, prefix_len_is}
use Rattle.hex.specs.Hex.{decode_of, decode_pairs, hex_digit_value, is_hex_digit, pair_value}
use Rattle.hex.proofs.Pairs.{cons_byte, decode_pairs-ok_pair}
use Rattle.hex.proofs.HexLemmas.{decode_of-even, decode_of-ok, decode_of-same}
use Rattle.sercos_show.specs.Line.{byte_of}
use Rattle.sercos_text.specs.Fields.{pairs_of}

pub is_hex_digit-ascii : (c : ℕ) → is_hex_digit c ≡ is_ascii_hexdigit c
is_hex_digit-ascii c = grind (arith, nat_tests)

-- the value of a digit
pub digit_of : (c : ℕ) → is_hex_digit c ≡ true → (value : ℕ) × (hex_digit_value c ≡ Some value)
digit_of c digit = some_of (hex_digit_value c) digit
  where
    some_of : (o : Option ℕ) → is_some o ≡ true → (value : ℕ) × (o ≡ Some value)
    some_of (Some value) some = (value, refl)
    some_of None some = cc

pub byte_of-digits : (high low h l : ℕ) → hex_digit_value high ≡ Some h → hex_digit_value low ≡ Some l → byte_of high low ≡ h * 16 + l
unfolding byte_of pairs_of decode_pairs
byte_of-digits high low h l high_is low_is = rw (high_is, low_is) refl

pair_value-digits : (i high low h l : ℕ) → hex_digit_value high ≡ Some h → hex_digit_value low ≡ Some l → pair_value high low i ≡ Ok (h * 16 + l)
pair_value-digits i high low h l high_is low_is = rw (high_is, low_is) refl

pair_value-byte_of : (i high low : ℕ) → is_hex_digit high ≡ true → is_hex_digit low ≡ true → pair_value high low i ≡ Ok (byte_of high low)
pair_value-byte_of i high low high_is low_is =
    let h = digit_of high high_is in
    let l = digit_of low low_is in
    pair_value-digits i high low h.0 l.0 h.1 l.1 ∙ ap Ok (sym (byte_of-digits high low h.0 l.0 h.1 l.1))

-- with the digit 0 in place of the second one the byte is no larger
pub byte_of-least : (high low : ℕ) → is_hex_digit high ≡ true → is_hex_digit low ≡ true → byte_of high 48 ≤ byte_of high low
byte_of-least high low high_is low_is =
    let h = digit_of high high_is in
    let l = digit_of low low_is in
    omega (arith, byte_of-digits high low h.0 l.0 h.1 l.1, byte_of-digits high 48 h.0 0 h.1 refl)

-- the bytes of pairs of digits
unfoldable pub pair_bytes : List ℕ → List ℕ
pair_bytes (high ∷ low ∷ text) = byte_of high low ∷ pair_bytes text
pair_bytes _ = []

decode_pairs-pair_bytes : (i : ℕ) (text : List ℕ) → length text % 2 ≡ 0 → AllPass is_hex_digit text → decode_pairs i text ≡ Ok (pair_bytes text)
unfolding decode_pairs pair_bytes
decode_pairs-pair_bytes i [] even digits = refl
decode_pairs-pair_bytes i (high ∷ []) even digits = absurd (omega arith)
decode_pairs-pair_bytes i (high ∷ low ∷ text) even digits =
    let holds : ℕ → Type 0 = λ c. is_hex_digit c ≡ true in
    let behind = All-tail holds high (low ∷ text) digits in
    let pair = pair_value-byte_of i high low (All-head holds high (low ∷ text) digits) (All-head holds low text behind) in
    decode_pairs-ok_pair i high low _ text pair
    ∙ ap (cons_byte (byte_of high low)) (decode_pairs-pair_bytes (i + 2) text (omega arith) (All-tail holds low text behind))

pub pair_bytes-at : (k : ℕ) (text : List ℕ) → 2 * k + 1 < length text → get_or (pair_bytes text) k 0 ≡ byte_of (get_or text (2 * k) 0) (get_or text (2 * k + 1) 0)
unfolding pair_bytes
pair_bytes-at zero (high ∷ low ∷ text) inside = refl
pair_bytes-at (suc k) (high ∷ low ∷ text) inside =
    let two : 2 * suc k ≡ suc (suc (2 * k)) = omega arith in
    let three : suc (suc (2 * k)) + 1 ≡ suc (suc (2 * k + 1)) = omega arith in
    rw (two, three) (pair_bytes-at k text (omega arith))
pair_bytes-at k _ inside = absurd (omega arith)

-- digits are what the line's rules and the decoder take for them alike
pub AllPass-prefix_len : (text : List ℕ) → prefix_len is_ascii_hexdigit text ≡ length text → AllPass is_hex_digit text
AllPass-prefix_len text all k d inside =
    is_hex_digit-ascii (get_or text k d) ∙ prefix_len_passes is_ascii_hexdigit text k d (omega arith)

pub prefix_len-AllPass : (text : List ℕ) → AllPass is_hex_digit text → prefix_len is_ascii_hexdigit text ≡ length text
prefix_len-AllPass text digits =
    prefix_len_is is_ascii_hexdigit text (length text) 0 (omega arith)
    (λ k inside. sym (is_hex_digit-ascii (get_or text k 0)) ∙ digits k 0 inside) (λ past. absurd (omega arith))

pub decode_of-pair_bytes : (text : List ℕ) → length text % 2 ≡ 0 → AllPass is_hex_digit text → decode_of text ≡ Ok (pair_bytes text)
decode_of-pair_bytes text even digits = decode_of-even text even ∙ decode_pairs-pair_bytes 0 text even digits

-- what decodes is pairs of digits
pub record ArePairs (text bytes : List ℕ) : Type 0 where
  pub digits : AllPass is_hex_digit text
  pub twice : length text ≡ 2 * length bytes
  pub bytes_are : bytes ≡ pair_bytes text
  pub each : (k : ℕ) → get_or bytes k 0 < 256

pub ArePairs-decoded : (text bytes : List ℕ) → decode_of text ≡ Ok bytes → ArePairs text bytes
ArePairs-decoded text bytes decoded =
    let ok = decode_of-ok text bytes decoded in
    record {
      digits = ok.1;
      twice = ok.2;
      bytes_are = decode_of-same text bytes (pair_bytes text) decoded (decode_of-pair_bytes text ok.0 ok.1);
      each = ok.3;
    }
