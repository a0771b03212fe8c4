-- What is printed of an identifier number is its text.
use Rattle.std.proofs.Common.{◌≡◌, ℕ, ◌+◌, ◌-◌, ◌/◌, ◌%◌, ◌^◌, ◌<◌, ◌≤◌, Bool, true, false, cond, nat_lt, [], ◌∷◌, ◌++◌, ⊎_elim, refl, ◌∙◌, ap, arith, decimal}
use Rattle.std.specs.Fmt.{char_count, format_spec, padded_integral}
use Rattle.std.proofs.lemmas.Fmt.{decimal_digit, decimal_step}
use Rattle.std.proofs.Math.Utf8.{encode}
use Rattle.std.proofs.lemmas.Str.{encode_ascii}
use Rattle.std.proofs.lemmas.Bool.{cases_lt}
use Rattle.sercos_idn.specs.Idns.{idn_text, four_digits, letter_of}

two_digits : (n : ℕ) → 10 ≤ n → n < 100 → decimal n ≡ (48 + n / 10) ∷ (48 + n % 10) ∷ []
two_digits n low high = let ten : n / 10 < 10 = omega arith in let fits : n < 2 ^ 64 = omega arith in decimal_step n low fits ∙ ap (λ ds. ds ++ ((48 + n % 10) ∷ [])) (decimal_digit (n / 10) ten)

three_digits : (n : ℕ) → 100 ≤ n → n < 1000 → decimal n ≡ (48 + n / 10 / 10) ∷ (48 + n / 10 % 10) ∷ (48 + n % 10) ∷ []
three_digits n low high = let ten : 10 ≤ n = omega arith in let fits : n < 2 ^ 64 = omega arith in decimal_step n ten fits ∙ ap (λ ds. ds ++ ((48 + n % 10) ∷ [])) (two_digits (n / 10) (omega arith) (omega arith))

all_digits : (n : ℕ) → 1000 ≤ n → n < 10000 → decimal n ≡ (48 + n / 10 / 10 / 10) ∷ (48 + n / 10 / 10 % 10) ∷ (48 + n / 10 % 10) ∷ (48 + n % 10) ∷ []
all_digits n low high = let ten : 10 ≤ n = omega arith in let fits : n < 2 ^ 64 = omega arith in decimal_step n ten fits ∙ ap (λ ds. ds ++ ((48 + n % 10) ∷ [])) (three_digits (n / 10) (omega arith) (omega arith))

pad_one : (a : ℕ) → padded_integral (format_spec 32 0 4 4 (2 ^ 64 - 1)) false [] (a ∷ []) ≡ 48 ∷ 48 ∷ 48 ∷ a ∷ []
unfolding padded_integral char_count
pad_one a = refl

pad_two : (a b : ℕ) → padded_integral (format_spec 32 0 4 4 (2 ^ 64 - 1)) false [] (a ∷ b ∷ []) ≡ 48 ∷ 48 ∷ a ∷ b ∷ []
unfolding padded_integral char_count
pad_two a b = refl

pad_three : (a b c : ℕ) → padded_integral (format_spec 32 0 4 4 (2 ^ 64 - 1)) false [] (a ∷ b ∷ c ∷ []) ≡ 48 ∷ a ∷ b ∷ c ∷ []
unfolding padded_integral char_count
pad_three a b c = refl

pad_none : (a b c d : ℕ) → padded_integral (format_spec 32 0 4 4 (2 ^ 64 - 1)) false [] (a ∷ b ∷ c ∷ d ∷ []) ≡ a ∷ b ∷ c ∷ d ∷ []
unfolding padded_integral char_count
pad_none a b c d = refl

printed_one : (n : ℕ) → n < 10 → padded_integral (format_spec 32 0 4 4 (2 ^ 64 - 1)) false [] (decimal n) ≡ four_digits n
unfolding four_digits
printed_one n small =
    let a : n / 1000 ≡ 0 = omega arith in
    let b : n / 100 % 10 ≡ 0 = omega arith in
    let c : n / 10 % 10 ≡ 0 = omega arith in
    let d : n % 10 ≡ n = omega arith in
    ap (padded_integral (format_spec 32 0 4 4 (2 ^ 64 - 1)) false []) (decimal_digit n small) ∙ pad_one (48 + n) ∙ rw (a, b, c, d) refl

printed_two : (n : ℕ) → 10 ≤ n → n < 100 → padded_integral (format_spec 32 0 4 4 (2 ^ 64 - 1)) false [] (decimal n) ≡ four_digits n
unfolding four_digits
printed_two n low small =
    let a : n / 1000 ≡ 0 = omega arith in
    let b : n / 100 % 10 ≡ 0 = omega arith in
    let c : n / 10 % 10 ≡ n / 10 = omega arith in
    ap (padded_integral (format_spec 32 0 4 4 (2 ^ 64 - 1)) false []) (two_digits n low small) ∙ pad_two (48 + n / 10) (48 + n % 10) ∙ rw (a, b, c) refl

printed_three : (n : ℕ) → 100 ≤ n → n < 1000 → padded_integral (format_spec 32 0 4 4 (2 ^ 64 - 1)) false [] (decimal n) ≡ four_digits n
unfolding four_digits
printed_three n low small =
    let a : n / 1000 ≡ 0 = omega arith in
    let b : n / 100 % 10 ≡ n / 10 / 10 = omega arith in
    ap (padded_integral (format_spec 32 0 4 4 (2 ^ 64 - 1)) false []) (three_digits n low small) ∙ pad_three (48 + n / 10 / 10) (48 + n / 10 % 10) (48 + n % 10) ∙ rw (a, b) refl

printed_four : (n : ℕ) → 1000 ≤ n → n < 10000 → padded_integral (format_spec 32 0 4 4 (2 ^ 64 - 1)) false [] (decimal n) ≡ four_digits n
unfolding four_digits
printed_four n low small =
    let a : n / 1000 ≡ n / 10 / 10 / 10 = omega arith in
    let b : n / 100 % 10 ≡ n / 10 / 10 % 10 = omega arith in
    ap (padded_integral (format_spec 32 0 4 4 (2 ^ 64 - 1)) false []) (all_digits n low small)
    ∙ pad_none (48 + n / 10 / 10 / 10) (48 + n / 10 / 10 % 10) (48 + n / 10 % 10) (48 + n % 10) ∙ rw (a, b) refl

printed_number : (n : ℕ) → n < 10000 → padded_integral (format_spec 32 0 4 4 (2 ^ 64 - 1)) false [] (decimal n) ≡ four_digits n
printed_number n small = ⊎_elim (printed_one n) (λ two. ⊎_elim (printed_two n two) (λ three. ⊎_elim (printed_three n three) (λ four. printed_four n four small) (cases_lt n 1000)) (cases_lt n 100)) (cases_lt n 10)

printed_letter : (raw : ℕ) → encode (letter_of raw) ≡ letter_of raw ∷ []
printed_letter raw = encode_ascii (letter_of raw) (below (nat_lt raw 32768))
  where
    below : (b : Bool) → cond b 83 80 < 128
    below true = omega arith
    below false = omega arith

pub printed : (raw : ℕ) → encode (letter_of raw) ++ 45 ∷ (decimal (raw / 4096 % 8) ++ 45 ∷ padded_integral (format_spec 32 0 4 4 (2 ^ 64 - 1)) false [] (decimal (raw % 4096))) ≡ idn_text raw
unfolding idn_text
printed raw =
    let set : raw / 4096 % 8 < 10 = omega arith in
    rw (printed_letter raw, decimal_digit (raw / 4096 % 8) set, printed_number (raw % 4096) (omega arith)) refl
