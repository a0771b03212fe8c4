-- One bit of packed words.
use Rattle.std.proofs.Common.{◌≡◌, ◌≢◌, ℕ, zero, suc, ◌+◌, ◌-◌, ◌*◌, ◌/◌, ◌%◌, ◌^◌, ◌<◌, ◌≤◌, ◌==◌, inl, inr, Bool, true, false, not, List, [], ◌∷◌, ◌++◌, length, take, drop, set, get_or, replicate, refl, sym, ap, ◌∙◌, arith, get_or-set_same, get_or-set_other, add-zero}
use mir.Val.{bool_byte}
use Rattle.std.specs.Int.{bit_at}
use Rattle.std.specs.Int.Bits.{bit_xor, bit_or}
use Rattle.std.proofs.lemmas.Bool.{cases_eq, cases_lt}
use Rattle.std.proofs.lemmas.Nat.{pow_pos, shr-shr, shr_split}
use Rattle.std.proofs.lemmas.Nat.Bits.{bit_at_xor, bit_at_or, bit_at-zero, bit_at-pow_same, bit_at-pow_other, bit_at-lt, same_from_bits_below, bit_at_above, bit_at_cat_low, bit_at_cat_high}
use Rattle.std.proofs.lemmas.List.{ext_get_or, length-set, append-nil, append_assoc, length-take, length-drop, get_or-take, get_or-drop, get_or_append_left, get_or-append_right}
use Rattle.std.proofs.lemmas.List.FromFn.{length-map-range_with_len, get_or-map-range_with_len, take-map-range_with_len, map-range_with_len_more}
use Rattle.sercos_model.specs.Bits.{is_odd, low_bits, number_of}
use Rattle.sercos_model.proofs.BitLemmas.{length-low_bits, number_of-low_bits}
use Rattle.sercos_bits.specs.Packed.{bit_in, packed}

-- the bit as a number
pub bit_in-bit_at : (words : List ℕ) (i : ℕ) → bit_in words i ≡ (bit_at (get_or words (i / 64) 0) (i % 64) == 1)
unfolding bit_in is_odd
bit_in-bit_at words i = refl

pub length-packed : (words : List ℕ) (len : ℕ) → length (packed words len) ≡ len
unfolding packed
length-packed words len = length-map-range_with_len (bit_in words) 0 len

pub packed-at : (words : List ℕ) (len i : ℕ) → i < len → get_or (packed words len) i false ≡ bit_in words i
unfolding packed
packed-at words len i inside = get_or-map-range_with_len (bit_in words) 0 len i i false inside (omega arith)

-- words with the same bits below len
pub packed-same : (words others : List ℕ) (len : ℕ) → ((i : ℕ) → i < len → bit_in words i ≡ bit_in others i) → packed words len ≡ packed others len
packed-same words others len same =
    ext_get_or false (packed words len) (packed others len) (length-packed words len ∙ sym (length-packed others len))
    (λ i inside. let below : i < len = omega (arith, length-packed words len) in packed-at words len i below ∙ same i below ∙ sym (packed-at others len i below))

pub packed-more : (words : List ℕ) (len : ℕ) → packed words (len + 1) ≡ packed words len ++ bit_in words len ∷ []
unfolding packed
packed-more words len = map-range_with_len_more (bit_in words) 0 len len (omega arith)

pub packed-take : (words : List ℕ) (len k : ℕ) → k ≤ len → take k (packed words len) ≡ packed words k
unfolding packed
packed-take words len k within = take-map-range_with_len (bit_in words) 0 len k within

pub packed-none : (words : List ℕ) → packed words 0 ≡ []
unfolding packed
packed-none words = refl

-- what a write of one word leaves at other words
pub bit_in-other_word : (words : List ℕ) (p word i : ℕ) → i / 64 ≢ p → bit_in (set words p word) i ≡ bit_in words i
unfolding bit_in
bit_in-other_word words p word i other = rw (get_or-set_other words p (i / 64) word 0 other) refl

pub bit_in-word : (words : List ℕ) (p word i : ℕ) → i / 64 ≡ p → p < length words → bit_in (set words p word) i ≡ (bit_at word (i % 64) == 1)
unfolding bit_in is_odd
bit_in-word words p word i here inside = rw (here, get_or-set_same words p word 0 inside) refl

parity_flips : (n : ℕ) → n < 2 → ((n + 1) % 2 == 1) ≡ not (n == 1)
parity_flips zero below = refl
parity_flips (suc zero) below = refl
parity_flips (suc (suc n)) below = absurd (omega arith)

pub bit_flipped : (n k : ℕ) → (bit_at (bit_xor n (2 ^ k)) k == 1) ≡ not (bit_at n k == 1)
bit_flipped n k = rw (bit_at_xor n (2 ^ k) k, bit_at-pow_same k) (parity_flips (bit_at n k) (bit_at-lt n k))

pub bit_kept : (n k i : ℕ) → i ≢ k → bit_at (bit_xor n (2 ^ k)) i ≡ bit_at n i
bit_kept n k i other =
    bit_at_xor n (2 ^ k) i ∙ (rw (bit_at-pow_other k i other) (omega (arith, bit_at-lt n i)))

pub flipped-there : (words : List ℕ) (p : ℕ) → p < 64 * length words → bit_in (set words (p / 64) (bit_xor (get_or words (p / 64) 0) (2 ^ (p % 64)))) p ≡ not (bit_in words p)
flipped-there words p inside =
    bit_in-word words (p / 64) _ p refl (omega arith) ∙ bit_flipped (get_or words (p / 64) 0) (p % 64) ∙ ap not (sym (bit_in-bit_at words p))

pub flipped-others : (words : List ℕ) (p i : ℕ) → p < 64 * length words → i ≢ p → bit_in (set words (p / 64) (bit_xor (get_or words (p / 64) 0) (2 ^ (p % 64)))) i ≡ bit_in words i
flipped-others words p i inside other =
    elim (cases_eq (i / 64) (p / 64)) [
      | inl same ↦
          let different : i % 64 ≢ p % 64 = λ e. other (omega arith) in
          bit_in-word words (p / 64) _ i same (omega arith) ∙ ap (λ n. n == 1) (bit_kept (get_or words (p / 64) 0) (p % 64) (i % 64) different)
          ∙ ap (λ w. bit_at (get_or words w 0) (i % 64) == 1) (sym same) ∙ sym (bit_in-bit_at words i)
      | inr differ ↦ bit_in-other_word words (p / 64) _ i differ
    ]

-- a bit that is no one is 0
zero_from_false : (n : ℕ) → n < 2 → (n == 1) ≡ false → n ≡ 0
zero_from_false zero below is = refl
zero_from_false (suc zero) below is = cc
zero_from_false (suc (suc n)) below is = absurd (omega arith)

-- bits are the same where the tests for one are
bit_from_test : (m n : ℕ) → m < 2 → n < 2 → (m == 1) ≡ (n == 1) → m ≡ n
bit_from_test zero zero below below2 same = refl
bit_from_test zero (suc zero) below below2 same = cc
bit_from_test (suc zero) zero below below2 same = cc
bit_from_test (suc zero) (suc zero) below below2 same = refl
bit_from_test (suc (suc m)) n below below2 same = absurd (omega arith)
bit_from_test m (suc (suc n)) below below2 same = absurd (omega arith)

pub bit_at-none : (words : List ℕ) (i : ℕ) → bit_in words i ≡ false → bit_at (get_or words (i / 64) 0) (i % 64) ≡ 0
bit_at-none words i none =
    zero_from_false _ (bit_at-lt (get_or words (i / 64) 0) (i % 64)) (sym (bit_in-bit_at words i) ∙ none)

-- the low bits of a number
pub bit_at-mod : (n k j : ℕ) → j < k → bit_at (n % 2 ^ k) j ≡ bit_at n j
bit_at-mod n k j below =
    let low : bit_at (n / 2 ^ k * 2 ^ k + n % 2 ^ k) j ≡ bit_at (n % 2 ^ k) j = bit_at_cat_low (n / 2 ^ k) k (n % 2 ^ k) j below in
    sym (ap (λ m. bit_at m j) (sym (shr_split n k)) ∙ low)

pub bit_at-mod_above : (n k j : ℕ) → k ≤ j → bit_at (n % 2 ^ k) j ≡ 0
bit_at-mod_above n k j above = bit_at_above (n % 2 ^ k) k j (let positive : 0 < 2 ^ k = pow_pos k in omega arith) above

-- a word in which the ones of a mask are set
pub ones-there : (words : List ℕ) (p mask i : ℕ) → p < length words → i / 64 ≡ p → bit_in words i ≡ false → bit_in (set words p (bit_or (get_or words p 0) mask)) i ≡ is_odd (mask / 2 ^ (i % 64))
unfolding is_odd
ones-there words p mask i inside here none =
    let nothing = rw here at (bit_at-none words i none) in
    bit_in-word words p _ i here inside ∙ ap (λ n. n == 1) (bit_at_or (get_or words p 0) mask (i % 64) ∙ rw nothing (omega arith))

pub ones-kept : (words : List ℕ) (p mask i : ℕ) → p < length words → i / 64 ≡ p → is_odd (mask / 2 ^ (i % 64)) ≡ false → bit_in (set words p (bit_or (get_or words p 0) mask)) i ≡ bit_in words i
unfolding is_odd
ones-kept words p mask i inside here none =
    let nothing : bit_at mask (i % 64) ≡ 0 = zero_from_false _ (bit_at-lt mask (i % 64)) none in
    bit_in-word words p _ i here inside ∙ ap (λ n. n == 1) (bit_at_or (get_or words p 0) mask (i % 64) ∙ rw nothing (omega arith))
    ∙ ap (λ w. bit_at (get_or words w 0) (i % 64) == 1) (sym here) ∙ sym (bit_in-bit_at words i)

-- the bits of a number that is shifted to a place within a word
shifted-at : (n s i : ℕ) → s + i < 64 → is_odd (n * 2 ^ s % 2 ^ 64 / 2 ^ (s + i)) ≡ is_odd (n / 2 ^ i)
unfolding is_odd
shifted-at n s i inside =
    let back : s + i - s ≡ i = omega arith in
    let those : bit_at (n * 2 ^ s) (s + i) ≡ bit_at n (s + i - s) = ap (λ m. bit_at m (s + i)) (sym (add-zero (n * 2 ^ s))) ∙ bit_at_cat_high n s 0 (s + i) (pow_pos s) (omega arith) in
    ap (λ b. b == 1) (bit_at-mod (n * 2 ^ s) 64 (s + i) inside ∙ those ∙ ap (bit_at n) back)

shifted-below : (n s i : ℕ) → i < s → s ≤ 64 → is_odd (n * 2 ^ s % 2 ^ 64 / 2 ^ i) ≡ false
unfolding is_odd
shifted-below n s i below within =
    let zeros : bit_at (n * 2 ^ s) i ≡ 0 = ap (λ m. bit_at m i) (sym (add-zero (n * 2 ^ s))) ∙ bit_at_cat_low n s 0 i below ∙ bit_at-zero i in
    ap (λ b. b == 1) (bit_at-mod (n * 2 ^ s) 64 i (omega arith) ∙ zeros)

-- the bits for which that word has no room
rest-at : (n s i : ℕ) → s < 64 → 64 ≤ s + i → is_odd (n / 2 / 2 ^ (63 - s) / 2 ^ (s + i - 64)) ≡ is_odd (n / 2 ^ i)
rest-at n s i within past =
    let all : 1 + (63 - s) + (s + i - 64) ≡ i = omega arith in
    ap is_odd (ap (λ m. m / 2 ^ (s + i - 64)) (shr-shr n 1 (63 - s)) ∙ shr-shr n (1 + (63 - s)) (s + i - 64) ∙ ap (λ k. n / 2 ^ k) all)

none_above : (n k i : ℕ) → n < 2 ^ k → k ≤ i → is_odd (n / 2 ^ i) ≡ false
unfolding is_odd
none_above n k i below above = ap (λ b. b == 1) (bit_at_above n k i below above)

-- a number over zeros: words with the part of it that one word has room for
pub part-before : (words one : List ℕ) (place n i : ℕ)
    → ((i : ℕ) → i / 64 ≡ place / 64 → is_odd (n * 2 ^ (place % 64) % 2 ^ 64 / 2 ^ (i % 64)) ≡ false → bit_in one i ≡ bit_in words i)
    → ((i : ℕ) → i / 64 ≢ place / 64 → bit_in one i ≡ bit_in words i) → i < place → bit_in one i ≡ bit_in words i
part-before words one place n i kept others before = elim (cases_eq (i / 64) (place / 64)) [
  | inl same ↦ kept i same (shifted-below n (place % 64) (i % 64) (omega arith) (omega arith))
  | inr differ ↦ others i differ
]

part-there : (words one : List ℕ) (place n i : ℕ)
    → ((i : ℕ) → i / 64 ≡ place / 64 → bit_in words i ≡ false → bit_in one i ≡ is_odd (n * 2 ^ (place % 64) % 2 ^ 64 / 2 ^ (i % 64)))
    → bit_in words (place + i) ≡ false → (place + i) / 64 ≡ place / 64 → bit_in one (place + i) ≡ is_odd (n / 2 ^ i)
part-there words one place n i there zero_there same =
    let at : (place + i) % 64 ≡ place % 64 + i = omega arith in
    there (place + i) same zero_there ∙ ap (λ k. is_odd (n * 2 ^ (place % 64) % 2 ^ 64 / 2 ^ k)) at ∙ shifted-at n (place % 64) i (omega arith)

-- that is all of it
pub whole-there : (words one : List ℕ) (place n len i : ℕ)
    → ((i : ℕ) → i / 64 ≡ place / 64 → bit_in words i ≡ false → bit_in one i ≡ is_odd (n * 2 ^ (place % 64) % 2 ^ 64 / 2 ^ (i % 64)))
    → ((i : ℕ) → i / 64 ≢ place / 64 → bit_in one i ≡ bit_in words i)
    → ((i : ℕ) → place ≤ i → bit_in words i ≡ false) → n < 2 ^ len → len ≤ 64 - place % 64 → bit_in one (place + i) ≡ is_odd (n / 2 ^ i)
whole-there words one place n len i there others zeros below fits = elim (cases_eq ((place + i) / 64) (place / 64)) [
  | inl same ↦ part-there words one place n i there (zeros (place + i) (omega arith)) same
  | inr differ ↦ others (place + i) differ ∙ zeros (place + i) (omega arith) ∙ sym (none_above n len i below (omega arith))
]

-- the rest is in the next word
pub both-before : (words one two : List ℕ) (place n i : ℕ)
    → ((i : ℕ) → i / 64 ≡ place / 64 → is_odd (n * 2 ^ (place % 64) % 2 ^ 64 / 2 ^ (i % 64)) ≡ false → bit_in one i ≡ bit_in words i)
    → ((i : ℕ) → i / 64 ≢ place / 64 → bit_in one i ≡ bit_in words i)
    → ((i : ℕ) → i / 64 ≢ place / 64 + 1 → bit_in two i ≡ bit_in one i) → i < place → bit_in two i ≡ bit_in words i
both-before words one two place n i kept others others2 before =
    others2 i (λ e. omega arith) ∙ part-before words one place n i kept others before

pub both-there : (words one two : List ℕ) (place n i : ℕ)
    → ((i : ℕ) → i / 64 ≡ place / 64 → bit_in words i ≡ false → bit_in one i ≡ is_odd (n * 2 ^ (place % 64) % 2 ^ 64 / 2 ^ (i % 64)))
    → ((i : ℕ) → i / 64 ≢ place / 64 → bit_in one i ≡ bit_in words i)
    → ((i : ℕ) → i / 64 ≡ place / 64 + 1 → bit_in one i ≡ false → bit_in two i ≡ is_odd (n / 2 / 2 ^ (63 - place % 64) / 2 ^ (i % 64)))
    → ((i : ℕ) → i / 64 ≢ place / 64 + 1 → bit_in two i ≡ bit_in one i)
    → ((i : ℕ) → place ≤ i → bit_in words i ≡ false) → n < 2 ^ 16 → bit_in two (place + i) ≡ is_odd (n / 2 ^ i)
both-there words one two place n i there others there2 others2 zeros below =
    let zero_there : bit_in words (place + i) ≡ false = zeros (place + i) (omega arith) in
    elim (cases_eq ((place + i) / 64) (place / 64)) [
      | inl same ↦ others2 (place + i) (λ e. omega arith) ∙ part-there words one place n i there zero_there same
      | inr differ ↦ elim (cases_eq ((place + i) / 64) (place / 64 + 1)) [
        | inl next ↦
            let at : (place + i) % 64 ≡ place % 64 + i - 64 = omega arith in
            there2 (place + i) next (others (place + i) differ ∙ zero_there)
            ∙ ap (λ k. is_odd (n / 2 / 2 ^ (63 - place % 64) / 2 ^ k)) at ∙ rest-at n (place % 64) i (omega arith) (omega arith)
        | inr far ↦ others2 (place + i) far ∙ others (place + i) differ ∙ zero_there ∙ sym (none_above n 16 i below (omega arith))
      ]
    ]

-- the byte at a place, in one word or in two
pub byte-bit : (words : List ℕ) (place i : ℕ) → place % 64 + 8 ≤ 64 → i < 8 → is_odd (get_or words (place / 64) 0 / 2 ^ (place % 64) % 256 / 2 ^ i) ≡ bit_in words (place + i)
unfolding is_odd
byte-bit words place i whole few =
    let same : (place + i) / 64 ≡ place / 64 = omega arith in
    let at : (place + i) % 64 ≡ place % 64 + i = omega arith in
    let w = get_or words (place / 64) 0 in
    ap (λ n. n == 1) (bit_at-mod (w / 2 ^ (place % 64)) 8 i few ∙ ap (λ n. n % 2) (shr-shr w (place % 64) i))
    ∙ sym (bit_in-bit_at words (place + i) ∙ rw (same, at) refl)

-- one bit of the end of a word and the beginning of the next
first-of_two : (w v s i : ℕ) → s < 64 → s + i < 64 → bit_at (bit_or (w / 2 ^ s) (v * 2 ^ (64 - s) % 2 ^ 64)) i ≡ bit_at w (s + i)
first-of_two w v s i within few =
    let high : bit_at (v * 2 ^ (64 - s) % 2 ^ 64) i ≡ 0 =
    bit_at-mod (v * 2 ^ (64 - s)) 64 i (omega arith) ∙ ap (λ m. bit_at m i) (sym (add-zero (v * 2 ^ (64 - s)))) ∙ bit_at_cat_low v (64 - s) 0 i (omega arith) ∙ bit_at-zero i in
    bit_at_or (w / 2 ^ s) (v * 2 ^ (64 - s) % 2 ^ 64) i ∙ rw high (omega arith) ∙ ap (λ n. n % 2) (shr-shr w s i)

second-of_two : (w v s i : ℕ) → w < 2 ^ 64 → s < 64 → i < 64 → 64 ≤ s + i → bit_at (bit_or (w / 2 ^ s) (v * 2 ^ (64 - s) % 2 ^ 64)) i ≡ bit_at v (s + i - 64)
second-of_two w v s i below within few past =
    let low : bit_at (w / 2 ^ s) i ≡ 0 = ap (λ n. n % 2) (shr-shr w s i) ∙ bit_at_above w 64 (s + i) below past in
    let back : i - (64 - s) ≡ s + i - 64 = omega arith in
    let high : bit_at (v * 2 ^ (64 - s) % 2 ^ 64) i ≡ bit_at v (s + i - 64) =
    bit_at-mod (v * 2 ^ (64 - s)) 64 i few ∙ ap (λ m. bit_at m i) (sym (add-zero (v * 2 ^ (64 - s)))) ∙ bit_at_cat_high v (64 - s) 0 i (pow_pos (64 - s)) (omega arith) ∙ ap (bit_at v) back in
    bit_at_or (w / 2 ^ s) (v * 2 ^ (64 - s) % 2 ^ 64) i ∙ rw (low, high) (omega arith)

pub byte-bit_two : (words : List ℕ) (place i : ℕ) → get_or words (place / 64) 0 < 2 ^ 64 → i < 8
    → is_odd (bit_or (get_or words (place / 64) 0 / 2 ^ (place % 64)) (get_or words (place / 64 + 1) 0 * 2 ^ (64 - place % 64) % 2 ^ 64) % 256 / 2 ^ i) ≡ bit_in words (place + i)
unfolding is_odd
byte-bit_two words place i below few =
    let w = get_or words (place / 64) 0 in
    let v = get_or words (place / 64 + 1) 0 in
    let s = place % 64 in
    ap (λ n. n == 1) (bit_at-mod (bit_or (w / 2 ^ s) (v * 2 ^ (64 - s) % 2 ^ 64)) 8 i few) ∙ elim (cases_lt (s + i) 64) [
      | inl here ↦
          let same : (place + i) / 64 ≡ place / 64 = omega arith in
          let at : (place + i) % 64 ≡ s + i = omega arith in
          ap (λ n. n == 1) (first-of_two w v s i (omega arith) here) ∙ sym (bit_in-bit_at words (place + i) ∙ rw (same, at) refl)
      | inr past ↦
          let next : (place + i) / 64 ≡ place / 64 + 1 = omega arith in
          let at : (place + i) % 64 ≡ s + i - 64 = omega arith in
          ap (λ n. n == 1) (second-of_two w v s i below (omega arith) (omega arith) past) ∙ sym (bit_in-bit_at words (place + i) ∙ rw (next, at) refl)
    ]

-- a word of which the bits from a place on are cleared, and a word of zeros
pub cut-kept : (words : List ℕ) (place i : ℕ) → place < 64 * length words → i < place → bit_in (set words (place / 64) (get_or words (place / 64) 0 % 2 ^ (place % 64))) i ≡ bit_in words i
cut-kept words place i inside before =
    elim (cases_eq (i / 64) (place / 64)) [
      | inl same ↦
          let below : i % 64 < place % 64 = omega arith in
          bit_in-word words (place / 64) _ i same (omega arith) ∙ ap (λ n. n == 1) (bit_at-mod (get_or words (place / 64) 0) (place % 64) (i % 64) below)
          ∙ ap (λ w. bit_at (get_or words w 0) (i % 64) == 1) (sym same) ∙ sym (bit_in-bit_at words i)
      | inr differ ↦ bit_in-other_word words (place / 64) _ i differ
    ]

pub cut-cleared : (words : List ℕ) (place i : ℕ) → place < 64 * length words → place ≤ i → i / 64 ≡ place / 64 → bit_in (set words (place / 64) (get_or words (place / 64) 0 % 2 ^ (place % 64))) i ≡ false
cut-cleared words place i inside from same =
    bit_in-word words (place / 64) _ i same (omega arith) ∙ ap (λ n. n == 1) (bit_at-mod_above (get_or words (place / 64) 0) (place % 64) (i % 64) (omega arith))

pub wiped : (words : List ℕ) (p i : ℕ) → p < length words → i / 64 ≡ p → bit_in (set words p 0) i ≡ false
wiped words p i inside here = bit_in-word words p 0 i here inside ∙ ap (λ n. n == 1) (bit_at-zero (i % 64))

-- ---- the list that the words and the length stand for

pub len-of : (words : List ℕ) (len : ℕ) (bits : List Bool) → packed words len ≡ bits → len ≡ length bits
len-of words len bits is = sym (length-packed words len) ∙ ap length is

pub at-of : (words : List ℕ) (len : ℕ) (bits : List Bool) (i : ℕ) → packed words len ≡ bits → i < length bits → bit_in words i ≡ get_or bits i false
at-of words len bits i is inside =
    let below : i < len = omega (arith, len-of words len bits is) in
    sym (packed-at words len i below) ∙ ap (λ b. get_or b i false) is

zeros-at : (n i : ℕ) → let nothing : ℕ = 0 in get_or (replicate n nothing) i nothing ≡ nothing
zeros-at zero i = refl
zeros-at (suc n) zero = refl
zeros-at (suc n) (suc i) = zeros-at n i

pub bit_in-zeros : (n i : ℕ) → let nothing : ℕ = 0 in bit_in (replicate n nothing) i ≡ false
bit_in-zeros n i =
    bit_in-bit_at (replicate n 0) i ∙ ap (λ w. bit_at w (i % 64) == 1) (zeros-at n (i / 64)) ∙ ap (λ w. w == 1) (bit_at-zero (i % 64))

pub cut-is : (words others : List ℕ) (len n : ℕ) (bits : List Bool) → packed words len ≡ bits → n ≤ len → ((i : ℕ) → i < n → bit_in others i ≡ bit_in words i) → packed others n ≡ take n bits
cut-is words others len n bits is within kept =
    packed-same others words n kept ∙ sym (packed-take words len n within) ∙ ap (take n) is

pub push-is : (words others : List ℕ) (len : ℕ) (bits : List Bool) (bit : Bool) → packed words len ≡ bits → ((i : ℕ) → i < len → bit_in others i ≡ bit_in words i) → bit_in others len ≡ bit → packed others (len + 1) ≡ bits ++ bit ∷ []
push-is words others len bits bit is kept there =
    packed-more others len ∙ rw there (ap (λ b. b ++ bit ∷ []) (packed-same others words len kept ∙ is))

pub low_bits-at : (k n i : ℕ) → i < k → get_or (low_bits k n) i false ≡ is_odd (n / 2 ^ i)
unfolding low_bits
low_bits-at zero n i inside = absurd (omega arith)
low_bits-at (suc k) n zero inside = let e : n / 2 ^ 0 ≡ n = omega arith in sym (ap is_odd e)
low_bits-at (suc k) n (suc i) inside =
    let e : n / 2 / 2 ^ i ≡ n / 2 ^ suc i = shr-shr n 1 i ∙ ap (λ j. n / 2 ^ j) (omega arith) in
    low_bits-at k (n / 2) i (omega arith) ∙ ap is_odd e

pub packed-grown : (k : ℕ) (words : List ℕ) (len n : ℕ) → ((i : ℕ) → i < k → bit_in words (len + i) ≡ is_odd (n / 2 ^ i)) → packed words (len + k) ≡ packed words len ++ low_bits k n
unfolding low_bits
packed-grown zero words len n those = rw (add-zero len, append-nil) refl
packed-grown (suc k) words len n those =
    let next : len + suc k ≡ len + 1 + k = omega arith in
    let first : bit_in words len ≡ is_odd n = rw (add-zero len, let e : n / 2 ^ 0 ≡ n = omega arith in e) at (those 0 (omega arith)) in
    rw next (packed-grown k words (len + 1) (n / 2) (λ i few.
    let place : len + 1 + i ≡ len + suc i = omega arith in
    rw place (those (suc i) (omega arith) ∙ ap is_odd (sym (shr-shr n 1 i ∙ ap (λ j. n / 2 ^ j) (omega arith)))))
    ∙ rw (packed-more words len, first, append_assoc) refl)

-- what a number appends: words with its bits from the end on
pub number-is : (words others : List ℕ) (len n k : ℕ) (bits : List Bool) → packed words len ≡ bits → ((i : ℕ) → i < len → bit_in others i ≡ bit_in words i) → ((i : ℕ) → bit_in others (len + i) ≡ is_odd (n % 2 ^ k / 2 ^ i)) → packed others (len + k) ≡ bits ++ low_bits k n
unfolding is_odd
number-is words others len n k bits is kept there =
    packed-grown k others len n (λ i few. there i ∙ ap (λ b. b == 1) (bit_at-mod n k i few)) ∙ ap (λ b. b ++ low_bits k n) (packed-same others words len kept ∙ is)

pub number-clear : (others : List ℕ) (len n k i : ℕ) → ((i : ℕ) → bit_in others (len + i) ≡ is_odd (n % 2 ^ k / 2 ^ i)) → len + k ≤ i → bit_in others i ≡ false
unfolding is_odd
number-clear others len n k i there past =
    let at : len + (i - len) ≡ i = omega arith in
    rw at at (there (i - len)) ∙ ap (λ b. b == 1) (bit_at-mod_above n k (i - len) (omega arith))

pub one_bit : (bit : Bool) → low_bits 1 (bool_byte bit) ≡ bit ∷ []
unfolding low_bits is_odd
one_bit true = refl
one_bit false = refl

-- the byte that eight bits spell
pub byte_bits-is : (words : List ℕ) (len place byte : ℕ) (bits : List Bool) → packed words len ≡ bits → place + 8 ≤ length bits → ((i : ℕ) → i < 8 → is_odd (byte / 2 ^ i) ≡ bit_in words (place + i)) → low_bits 8 byte ≡ take 8 (drop place bits)
byte_bits-is words len place byte bits is inside those =
    let eight : length (take 8 (drop place bits)) ≡ 8 = omega (arith, length-take 8 (drop place bits), length-drop place bits) in
    ext_get_or false (low_bits 8 byte) (take 8 (drop place bits)) (length-low_bits 8 byte ∙ sym eight) (λ i few.
    let less : i < 8 = omega (arith, length-low_bits 8 byte) in
    low_bits-at 8 byte i less ∙ those i less ∙ at-of words len bits (place + i) is (omega arith) ∙ sym (get_or-take 8 (drop place bits) i false less ∙ get_or-drop place bits i false))

pub byte-is : (words : List ℕ) (len place byte : ℕ) (bits : List Bool) → packed words len ≡ bits → place + 8 ≤ length bits → byte < 256 → ((i : ℕ) → i < 8 → is_odd (byte / 2 ^ i) ≡ bit_in words (place + i)) → byte ≡ number_of (take 8 (drop place bits))
byte-is words len place byte bits is inside below those =
    sym (number_of-low_bits 8 byte below) ∙ ap number_of (byte_bits-is words len place byte bits is inside those)

-- lists of the same length, and their bits
pub same-is : (words others : List ℕ) (len m : ℕ) (bits other : List Bool) → packed words len ≡ bits → packed others m ≡ other → len ≡ m → ((i : ℕ) → i < len → bit_in words i ≡ bit_in others i) → bits ≡ other
same-is words others len m bits other is are long same =
    sym is ∙ packed-same words others len same ∙ ap (packed others) long ∙ are

pub same-bits : (words others : List ℕ) (len m i : ℕ) (bits other : List Bool) → packed words len ≡ bits → packed others m ≡ other → bits ≡ other
    → ((i : ℕ) → len ≤ i → bit_in words i ≡ false) → ((i : ℕ) → m ≤ i → bit_in others i ≡ false) → bit_in words i ≡ bit_in others i
same-bits words others len m i bits other is are same clear clear2 =
    let long : len ≡ length bits = len-of words len bits is in
    let long2 : m ≡ length other = len-of others m other are in
    let equal : length bits ≡ length other = ap length same in
    elim (cases_lt i len) [
      | inl inside ↦ at-of words len bits i is (omega arith) ∙ ap (λ (b : List Bool). get_or b i false) same ∙ sym (at-of others m other i are (omega arith))
      | inr past ↦ clear i past ∙ sym (clear2 i (omega arith))
    ]

-- words that are copied, and those that stay
pub copied-bit : (words others all : List ℕ) (count i : ℕ) → all ≡ take count others ++ drop count words → count ≤ length words → count ≤ length others → i < 64 * count → bit_in all i ≡ bit_in others i
unfolding bit_in
copied-bit words others all count i is few few2 inside =
    let long : length (take count others) ≡ count = omega (arith, length-take count others) in
    rw (is, get_or_append_left (take count others) (drop count words) 0 (i / 64) (omega arith), get_or-take count others (i / 64) 0 (omega arith)) refl

pub kept-bit : (words others all : List ℕ) (count i : ℕ) → all ≡ take count others ++ drop count words → count ≤ length words → count ≤ length others → 64 * count ≤ i → bit_in all i ≡ bit_in words i
unfolding bit_in
kept-bit words others all count i is few few2 past =
    let long : length (take count others) ≡ count = omega (arith, length-take count others) in
    let back : count + (i / 64 - count) ≡ i / 64 = omega arith in
    rw (is, get_or-append_right (take count others) (drop count words) count (i / 64) 0 long (omega arith), get_or-drop count words (i / 64 - count) 0, back) refl

-- words with the same bits are the same
same_word : (words others : List ℕ) (p : ℕ) → get_or words p 0 < 2 ^ 64 → get_or others p 0 < 2 ^ 64 → ((i : ℕ) → i / 64 ≡ p → bit_in words i ≡ bit_in others i) → get_or words p 0 ≡ get_or others p 0
unfolding bit_in is_odd
same_word words others p below below2 same = same_from_bits_below 64 _ _ below below2 (λ j few.
    let word : (64 * p + j) / 64 ≡ p = omega arith in
    let at : (64 * p + j) % 64 ≡ j = omega arith in
    bit_from_test _ _ (bit_at-lt (get_or words p 0) j) (bit_at-lt (get_or others p 0) j) (rw (word, at) at (same (64 * p + j) word)))

pub same_words : (words others : List ℕ) (count : ℕ) → count ≤ length words → count ≤ length others → ((p : ℕ) → get_or words p 0 < 2 ^ 64) → ((p : ℕ) → get_or others p 0 < 2 ^ 64)
    → ((i : ℕ) → i < 64 * count → bit_in words i ≡ bit_in others i) → take count words ≡ take count others
same_words words others count few few2 below below2 same =
    ext_get_or 0 (take count words) (take count others) (length-take count words ∙ omega (arith, length-take count others)) (λ p inside.
    let within : p < count = omega (arith, length-take count words) in
    get_or-take count words p 0 within ∙ same_word words others p (below p) (below2 p) (λ i here. same i (omega arith)) ∙ sym (get_or-take count others p 0 within))

pub bit-of_same : (words others : List ℕ) (count i : ℕ) → take count words ≡ take count others → i < 64 * count → bit_in words i ≡ bit_in others i
unfolding bit_in
bit-of_same words others count i same inside =
    let word : get_or words (i / 64) 0 ≡ get_or others (i / 64) 0 =
    sym (get_or-take count words (i / 64) 0 (omega arith)) ∙ ap (λ (ws : List ℕ). get_or ws (i / 64) 0) same ∙ get_or-take count others (i / 64) 0 (omega arith) in
    ap (λ w. is_odd (w / 2 ^ (i % 64))) word

pub flip-is : (words others : List ℕ) (len place : ℕ) (bits : List Bool) → packed words len ≡ bits → place < length bits → bit_in others place ≡ not (bit_in words place) → ((i : ℕ) → i ≢ place → bit_in others i ≡ bit_in words i) → packed others len ≡ set bits place (not (get_or bits place false))
flip-is words others len place bits is inside there rest =
    ext_get_or false (packed others len) (set bits place (not (get_or bits place false))) (length-packed others len ∙ len-of words len bits is ∙ sym (length-set bits place _)) (λ i before.
    let below : i < len = omega (arith, length-packed others len) in
    let within : i < length bits = omega (arith, len-of words len bits is) in
    packed-at others len i below ∙ elim (cases_eq i place) [
      | inl same ↦ rw (same, get_or-set_same bits place _ false inside) (there ∙ ap not (at-of words len bits place is inside))
      | inr differ ↦ rest i differ ∙ at-of words len bits i is within ∙ sym (get_or-set_other bits place i _ false differ)
    ])
