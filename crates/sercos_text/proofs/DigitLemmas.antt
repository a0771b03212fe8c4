-- The table of digits, and the loop over pairs.
use Rattle.std.proofs.Common.{◌≡◌, ℕ, zero, suc, ◌+◌, ◌-◌, ◌*◌, ◌%◌, ◌<◌, ◌≤◌, Bool, true, false, ◌==◌, ◌&&◌, nat_lt, cond, List, [], ◌∷◌, ◌++◌, length, take, drop, get_or, refl, sym, ap, ◌∙◌, arith, append_assoc, length-drop}
use Rattle.std.proofs.lemmas.Bool.{and_parts}
use Rattle.std.proofs.lemmas.Bool.Decides.{nat_tests}
use Rattle.std.proofs.lemmas.List.{append-nil, at_drop_all, drop_more, drop-drop, length-take-le}
use Rattle.sercos_text.specs.Fields.{is_hex, is_dash, digit_of, low_pairs, all_hex, hex_len, hex_of}
use Rattle.std.specs.List.{prefix_len}
use Rattle.sercos_text.specs.declared.digits.TheConstants.{VALUES}
use Rattle.sercos_text.proofs.ValueLaws.{all_below, passes_below, taken_are_hex, spells_pairs, decodes}

-- a byte of the table
is_row : ℕ → Bool
is_row byte = cond (is_hex byte) ((get_or VALUES byte 0 == digit_of byte) && nat_lt (digit_of byte) 16) (get_or VALUES byte 0 == 255)

all_rows : all_below is_row 256 ≡ true
unfolding all_below is_row digit_of
all_rows = refl

same : (a b : ℕ) → (a == b) ≡ true → a ≡ b
same a b is = grind (arith, nat_tests)

less : (a b : ℕ) → nat_lt a b ≡ true → a < b
less a b is = grind (arith, nat_tests)

row : (byte : ℕ) → byte < 256 → is_row byte ≡ true
row byte below = passes_below is_row 256 byte all_rows below

pub digit_at : (byte : ℕ) → byte < 256 → is_hex byte ≡ true → (get_or VALUES byte 0 ≡ digit_of byte) × (get_or VALUES byte 0 < 16)
unfolding is_row
digit_at byte below is =
    let parts = and_parts (get_or VALUES byte 0 == digit_of byte) (nat_lt (digit_of byte) 16) (rw is at (row byte below)) in
    let e = same (get_or VALUES byte 0) (digit_of byte) parts.0 in
    (e, omega (arith, e, less (digit_of byte) 16 parts.1))

pub other_at : (byte : ℕ) → byte < 256 → is_hex byte ≡ false → get_or VALUES byte 0 ≡ 255
unfolding is_row
other_at byte below is = same (get_or VALUES byte 0) 255 (rw is at (row byte below))

-- the digit at a place is one
pub all_hex-at : (text : List ℕ) (i : ℕ) → all_hex text ≡ true → i < length text → is_hex (get_or text i 0) ≡ true
unfolding all_hex
all_hex-at [] i all inside = absurd (omega arith)
all_hex-at (c ∷ text) zero all inside = (and_parts (is_hex c) (all_hex text) all).0
all_hex-at (c ∷ text) (suc i) all inside = all_hex-at text i (and_parts (is_hex c) (all_hex text) all).1 (omega arith)

-- one pair more
pub pair_more : (text : List ℕ) (k byte : ℕ) (told more all : List ℕ) → 2 * k + 1 < length text → byte ≡ digit_of (get_or text (2 * k) 0) * 16 + digit_of (get_or text (2 * k + 1) 0) → more ≡ told ++ byte ∷ [] → told ++ low_pairs (drop (2 * k) text) ≡ all → more ++ low_pairs (drop (2 * (k + 1)) text) ≡ all
unfolding low_pairs
pair_more text k byte told more all inside is grown before =
    let first = drop_more text (2 * k) 0 (omega arith) in
    let second = drop_more text (2 * k + 1) 0 inside in
    let place : 2 * k + 1 + 1 ≡ 2 * (k + 1) = omega arith in
    rw (grown, append_assoc, is) (rw (first, second, place) at before)

pub pairs_end : (text : List ℕ) (k : ℕ) (told all : List ℕ) → length text ≤ 2 * k → told ++ low_pairs (drop (2 * k) text) ≡ all → told ≡ all
unfolding low_pairs
pairs_end text k told all ended before =
    let none : low_pairs (drop (2 * k) text) ≡ [] = at_drop_all low_pairs text (2 * k) ended in
    sym (append-nil told) ∙ (rw none at before)

pub plain_len : (text : List ℕ) (len : ℕ) → is_dash text ≡ false → len ≡ hex_len text → len ≡ prefix_len is_hex text
unfolding hex_len
plain_len text len plain is = is ∙ rw plain refl

pub plain_digits : (text : List ℕ) (len : ℕ) → is_dash text ≡ false → len ≡ hex_len text → all_hex (take len text) ≡ true
plain_digits text len plain is = rw (plain_len text len plain is) (taken_are_hex text)

pub plain_bytes : (text : List ℕ) (len : ℕ) → is_dash text ≡ false → len ≡ hex_len text → len % 2 ≡ 0 → len ≤ length text → low_pairs (take len text) ≡ hex_of text
unfolding hex_of
plain_bytes text len plain is even inside =
    let size = plain_len text len plain is in
    let long : length (take len text) ≡ len = length-take-le len text inside in
    let pairs = spells_pairs (take len text) (plain_digits text len plain is) (omega (arith, long, even)) in
    sym (decodes (take len text) pairs) ∙ rw (plain, ← size) refl

pub no_dash : (text : List ℕ) → (get_or text 0 0 ≡ 45 → ⊥) → is_dash text ≡ false
no_dash text differ = fails (get_or text 0 0) differ
  where
    fails : (c : ℕ) → (c ≡ 45 → ⊥) → (c == 45) ≡ false
    fails c differ = grind (arith, nat_tests)

-- Eight bytes are digits if the sum of their values is below that of a byte that is none.
digit_by : (byte value : ℕ) → (is_hex byte ≡ false → value ≡ 255) → value < 255 → is_hex byte ≡ true
digit_by byte value other below = by (is_hex byte) refl
  where
    by : (is : Bool) → is_hex byte ≡ is → is ≡ true
    by true e = refl
    by false e = let wrong = other e in absurd (omega (arith, wrong, below))

all_by : (text : List ℕ) → ((i : ℕ) → i < length text → is_hex (get_or text i 0) ≡ true) → all_hex text ≡ true
unfolding all_hex
all_by [] all = refl
all_by (c ∷ text) all = rw (all 0 (omega arith)) (all_by text (λ i below. all (suc i) (omega (arith, below))))

pub eight_digits : (text : List ℕ) (a b c d e f g h : ℕ) → length text ≡ 8
    → (is_hex (get_or text 0 0) ≡ false → a ≡ 255) → (is_hex (get_or text 1 0) ≡ false → b ≡ 255)
    → (is_hex (get_or text 2 0) ≡ false → c ≡ 255) → (is_hex (get_or text 3 0) ≡ false → d ≡ 255)
    → (is_hex (get_or text 4 0) ≡ false → e ≡ 255) → (is_hex (get_or text 5 0) ≡ false → f ≡ 255)
    → (is_hex (get_or text 6 0) ≡ false → g ≡ 255) → (is_hex (get_or text 7 0) ≡ false → h ≡ 255)
    → a + b + c + d + (e + f + g + h) < 255 → all_hex text ≡ true
eight_digits text a b c d e f g h eight a_is b_is c_is d_is e_is f_is g_is h_is below = all_by text at
  where
    at : (i : ℕ) → i < length text → is_hex (get_or text i 0) ≡ true
    at zero inside = digit_by (get_or text 0 0) a a_is (omega (arith, below))
    at (suc zero) inside = digit_by (get_or text 1 0) b b_is (omega (arith, below))
    at (suc (suc zero)) inside = digit_by (get_or text 2 0) c c_is (omega (arith, below))
    at (suc (suc (suc zero))) inside = digit_by (get_or text 3 0) d d_is (omega (arith, below))
    at (suc (suc (suc (suc zero)))) inside = digit_by (get_or text 4 0) e e_is (omega (arith, below))
    at (suc (suc (suc (suc (suc zero))))) inside = digit_by (get_or text 5 0) f f_is (omega (arith, below))
    at (suc (suc (suc (suc (suc (suc zero)))))) inside = digit_by (get_or text 6 0) g g_is (omega (arith, below))
    at (suc (suc (suc (suc (suc (suc (suc zero))))))) inside = digit_by (get_or text 7 0) h h_is (omega (arith, below))
    at (suc (suc (suc (suc (suc (suc (suc (suc i)))))))) inside = absurd (omega (arith, eight, inside))

-- where digits come first, they count
digits_first : (n : ℕ) (text : List ℕ) → n ≤ length text → all_hex (take n text) ≡ true → prefix_len is_hex text ≡ n + prefix_len is_hex (drop n text)
unfolding all_hex
digits_first zero text inside all = omega arith
digits_first (suc n) [] inside all = absurd (omega arith)
digits_first (suc n) (c ∷ text) inside all =
    let parts = and_parts (is_hex c) (all_hex (take n text)) all in
    let rest = digits_first n text (omega arith) parts.1 in
    rw parts.0 (omega (arith, rest))

pub eight_more : (text : List ℕ) (k : ℕ) (part : List ℕ) → 8 * k + 8 ≤ length text → part ≡ take 8 (drop (8 * k) text) → all_hex part ≡ true
    → prefix_len is_hex text ≡ 8 * k + prefix_len is_hex (drop (8 * k) text) → prefix_len is_hex text ≡ 8 * (k + 1) + prefix_len is_hex (drop (8 * (k + 1)) text)
eight_more text k part inside is all before =
    let long : length (drop (8 * k) text) ≡ length text - 8 * k = length-drop (8 * k) text in
    let more : prefix_len is_hex (drop (8 * k) text) ≡ 8 + prefix_len is_hex (drop 8 (drop (8 * k) text)) = digits_first 8 (drop (8 * k) text) (omega (arith, long, inside)) (rw is at all) in
    let place : 8 * k + 8 ≡ 8 * (k + 1) = omega arith in
    let next : drop 8 (drop (8 * k) text) ≡ drop (8 * (k + 1)) text = rw (drop-drop 8 (8 * k) text, place) refl in
    before ∙ ap (λ (n : ℕ). 8 * k + n) (more ∙ ap (λ (rest : List ℕ). 8 + prefix_len is_hex rest) next) ∙ omega arith

pub sixteen_more : (text : List ℕ) (k : ℕ) (part : List ℕ) → 16 * k + 16 ≤ length text → part ≡ take 16 (drop (16 * k) text) → all_hex part ≡ true
    → prefix_len is_hex text ≡ 16 * k + prefix_len is_hex (drop (16 * k) text) → prefix_len is_hex text ≡ 16 * (k + 1) + prefix_len is_hex (drop (16 * (k + 1)) text)
sixteen_more text k part inside is all before =
    let long : length (drop (16 * k) text) ≡ length text - 16 * k = length-drop (16 * k) text in
    let more : prefix_len is_hex (drop (16 * k) text) ≡ 16 + prefix_len is_hex (drop 16 (drop (16 * k) text)) = digits_first 16 (drop (16 * k) text) (omega (arith, long, inside)) (rw is at all) in
    let place : 16 * k + 16 ≡ 16 * (k + 1) = omega arith in
    let next : drop 16 (drop (16 * k) text) ≡ drop (16 * (k + 1)) text = rw (drop-drop 16 (16 * k) text, place) refl in
    before ∙ ap (λ (n : ℕ). 16 * k + n) (more ∙ ap (λ (rest : List ℕ). 16 + prefix_len is_hex rest) next) ∙ omega arith

-- all so far are digits, and so are those that are left; one byte more
and_assoc : (a b c : Bool) → (a && (b && c)) ≡ ((a && b) && c)
and_assoc true b c = refl
and_assoc false b c = refl

and_true : (a : Bool) → (a && true) ≡ a
and_true true = refl
and_true false = refl

pub digit_more : (text : List ℕ) (i : ℕ) (all more whole : Bool) → i < length text → more ≡ (all && is_hex (get_or text i 0)) → (all && all_hex (drop i text)) ≡ whole → (more && all_hex (drop (i + 1) text)) ≡ whole
unfolding all_hex
digit_more text i all more whole inside is before =
    let first = drop_more text i 0 inside in
    rw is (sym (and_assoc all (is_hex (get_or text i 0)) (all_hex (drop (i + 1) text))) ∙ (rw first at before))

pub digits_end : (text : List ℕ) (i : ℕ) (all whole : Bool) → length text ≤ i → (all && all_hex (drop i text)) ≡ whole → all ≡ whole
unfolding all_hex
digits_end text i all whole ended before =
    let none : all_hex (drop i text) ≡ true = at_drop_all all_hex text i ended in
    sym (and_true all) ∙ (rw none at before)
