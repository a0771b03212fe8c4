-- The words of an element that a store keeps, read as the attribute says, are its bytes.
use Rattle.sercos_law_channel.proofs.Words.{◌≡◌, ℕ, ◌+◌, ◌/◌, ◌≤◌, Bool, true, false, not, ◌&&◌, List, [], ◌∷◌, length, take, refl, ap, ◌∙◌, arith, if◌then◌else◌, ◌==◌, nat_le, Option, Some, None, is_none, option_map, unwrap_or, slice_index, min, list_all, w16, w32, to_le_bytes, nat_tests, Attribute, Length, is_list, item_len, Shape, words_of, bytes_in, bytes_read, words_in, shape_by, as_value, width_of, bytes_for, is_text, is_printable, is_limit, list_words, low_back, high_back, bytes_back, and_parts, AreBytes, length-words_of, eqb-true, limit_of_number, leb-true}
use Rattle.sercos_idn.specs.declared.kinds.Length.TheVariants as len
use Rattle.sercos_step.specs.declared.shape.Shape.TheVariants as shape
use Rattle.sercos_law_channel.proofs.Handshake.ReadRows.{row, row-all}

-- the bytes that these words give, as many of them as the first says
abbrev pub read_from : Shape → List ℕ → List ℕ
read_from s words = bytes_read s (row (words_in s (slice_index words 0)) words)

pub list_read : (bytes : List ℕ) (longest : ℕ) → length bytes ≤ 1024 → AreBytes bytes → read_from shape.List (list_words longest bytes) ≡ bytes
list_read bytes longest few are =
    let least : min (length bytes) 1024 ≡ length bytes = omega (arith, few) in
    let half : (min (length bytes) 1024 + 1) / 2 ≡ length (words_of bytes) = ap (λ (n : ℕ). (n + 1) / 2) least ∙ length-words_of bytes in
    let count : 2 + (min (length bytes) 1024 + 1) / 2 ≡ length (list_words longest bytes) = omega (arith, half) in
    ap (λ (n : ℕ). bytes_read shape.List (row n (list_words longest bytes))) count ∙ ap (bytes_read shape.List) (row-all (list_words longest bytes))
    ∙ ap (λ (n : ℕ). take n (bytes_in (words_of bytes))) least ∙ bytes_back bytes are

two_read : (bytes : List ℕ) → length bytes ≡ 2 → AreBytes bytes → read_from shape.One (words_of bytes) ≡ bytes
unfolding AreBytes
two_read [] is are = absurd (omega arith)
two_read (a ∷ []) is are = absurd (omega arith)
two_read (a ∷ b ∷ []) is are = rw (low_back a b are.0, high_back a b are.0) refl
two_read (a ∷ b ∷ c ∷ bytes) is are = absurd (omega arith)

four_read : (bytes : List ℕ) → length bytes ≡ 4 → AreBytes bytes → read_from shape.Two (words_of bytes) ≡ bytes
unfolding AreBytes
four_read [] is are = absurd (omega arith)
four_read (a ∷ []) is are = absurd (omega arith)
four_read (a ∷ b ∷ []) is are = absurd (omega arith)
four_read (a ∷ b ∷ c ∷ []) is are = absurd (omega arith)
four_read (a ∷ b ∷ c ∷ d ∷ []) is are = rw (low_back a b are.0, high_back a b are.0, low_back c d are.1.1.0, high_back c d are.1.1.0) refl
four_read (a ∷ b ∷ c ∷ d ∷ e ∷ bytes) is are = absurd (omega arith)

pub two_bytes : (n : ℕ) → AreBytes (to_le_bytes w16 n)
unfolding AreBytes
two_bytes n = (omega arith, (omega arith, tt))

pub four_bytes : (n : ℕ) → AreBytes (to_le_bytes w32 n)
unfolding AreBytes
four_bytes n = (omega arith, (omega arith, (omega arith, (omega arith, tt))))

pub word_read : (n : ℕ) → read_from shape.Two (words_of (to_le_bytes w32 n)) ≡ to_le_bytes w32 n
word_read n = four_read (to_le_bytes w32 n) refl (four_bytes n)

limit_read : (l : Length) (n : ℕ) → is_list l ≡ false → read_from (as_value (shape_by l)) (words_of (to_le_bytes (width_of l) n)) ≡ to_le_bytes (width_of l) n
limit_read len.Two n no_list = two_read (to_le_bytes w16 n) refl (two_bytes n)
limit_read len.Four n no_list = four_read (to_le_bytes w32 n) refl (four_bytes n)
limit_read len.List1 n no_list = absurd (cc)
limit_read len.List2 n no_list = absurd (cc)
limit_read len.List4 n no_list = absurd (cc)

pub bound_read : (a : Attribute) (o : Option ℕ) → is_limit a o ≡ true → is_none (option_map (bytes_for a) o) ≡ false →
    read_from (as_value (shape_by a.length)) (words_of (unwrap_or (option_map (bytes_for a) o) [])) ≡ unwrap_or (option_map (bytes_for a) o) []
bound_read a None fits there = absurd (cc)
bound_read a (Some bits) fits there = limit_read a.length bits (limit_of_number a bits fits)

pub printable_bytes : (text : List ℕ) → list_all is_printable text ≡ true → AreBytes text
unfolding AreBytes
printable_bytes [] are = tt
printable_bytes (byte ∷ text) are =
    let parts = and_parts (is_printable byte) (list_all is_printable text) are in
    (grind (arith, nat_tests, (and_parts (nat_le 0x20 byte) (nat_le byte 0x7e) parts.0).1), printable_bytes text parts.1)

pub text_read : (most : ℕ) (o : Option (List ℕ)) → most ≤ 1024 → is_text most o ≡ true → read_from shape.List (list_words most (unwrap_or o [])) ≡ unwrap_or o []
text_read most None small fits = list_read [] most (omega arith) (printable_bytes [] refl)
text_read most (Some text) small fits =
    let kept = and_parts (nat_le (length text) most) (list_all is_printable text) (and_parts (nat_le 1 (length text)) _ fits).1 in
    list_read text most (omega (arith, leb-true (length text) most kept.0)) (printable_bytes text kept.1)

-- a number's own bytes, or those that it has grown to
abbrev grown : Length → Bool → List ℕ → ℕ → List ℕ
grown l still value n = if still then value else to_le_bytes (width_of l) n

are_grown : (l : Length) (still : Bool) (value : List ℕ) (n : ℕ) → is_list l ≡ false → length value ≡ item_len l → AreBytes value →
    (length (grown l still value n) ≡ item_len l) × AreBytes (grown l still value n)
are_grown l true value n no_list is are = (is, are)
are_grown len.Two false value n no_list is are = (refl, two_bytes n)
are_grown len.Four false value n no_list is are = (refl, four_bytes n)
are_grown len.List1 false value n no_list is are = absurd (cc)
are_grown len.List2 false value n no_list is are = absurd (cc)
are_grown len.List4 false value n no_list is are = absurd (cc)

most_of : (n longest : ℕ) (v : Bool) → nat_le n longest ≡ true → (nat_le 1 longest && (nat_le longest 1024 && v)) ≡ true → n ≤ 1024
most_of n longest v less fits =
    let kept = and_parts (nat_le longest 1024) v (and_parts (nat_le 1 longest) _ fits).1 in
    omega (arith, leb-true n longest less, leb-true longest 1024 kept.0)

pub data_read : (l : Length) (still : Bool) (value : List ℕ) (n longest : ℕ) (v : Bool) → (if is_list l then nat_le (length value) longest else length value == item_len l) ≡ true →
    (if is_list l then nat_le 1 longest && (nat_le longest 1024 && v) else longest == 0) ≡ true → AreBytes value →
    read_from (shape_by l) (if is_list l then list_words longest value else words_of (grown l still value n)) ≡ (if not (is_list l) then grown l still value n else value)
data_read len.Two still value n longest v fits most are =
    let (long, all) = are_grown len.Two still value n refl (eqb-true (length value) 2 fits) are in
    two_read (grown len.Two still value n) long all
data_read len.Four still value n longest v fits most are =
    let (long, all) = are_grown len.Four still value n refl (eqb-true (length value) 4 fits) are in
    four_read (grown len.Four still value n) long all
data_read len.List1 still value n longest v fits most are = list_read value longest (most_of (length value) longest v fits most) are
data_read len.List2 still value n longest v fits most are = list_read value longest (most_of (length value) longest v fits most) are
data_read len.List4 still value n longest v fits most are = list_read value longest (most_of (length value) longest v fits most) are
