-- Lemmas on bits and bytes.
use Rattle.std.proofs.Common.{◌≡◌, ℕ, zero, suc, ◌+◌, ◌-◌, ◌*◌, ◌/◌, ◌%◌, ◌^◌, ◌<◌, ◌≤◌, ◌==◌, ◌⊎◌, inl, inr, Bool, true, false, not, cond, List, [], ◌∷◌, ◌++◌, length, map, take, drop, get_or, refl, sym, ap, ◌∙◌, arith, length-append, length-drop, append_assoc}
use Rattle.std.specs.Int.Bits.{bit_xor}
use Rattle.std.proofs.lemmas.Nat.{xor_mod, xor_shr}
use Rattle.std.proofs.lemmas.List.{at_drop_more, at_drop_all, drop-drop}
use Rattle.std.proofs.Math.Nat.{pow-suc}
use Rattle.sercos_model.specs.Bits.{is_odd, low_bits, number_of, bits_of, bytes_of, AreBytes}
use Rattle.sercos_model.specs.CheckSequence.{sum_of, added}

pub length-low_bits : (k n : ℕ) → length (low_bits k n) ≡ k
unfolding low_bits
length-low_bits zero n = refl
length-low_bits (suc k) n = ap suc (length-low_bits k (n / 2))

-- a remainder by two is one or zero
parity_of : (rest : ℕ) → rest < 2 → (((rest == 1) ≡ true) × (rest ≡ 1)) ⊎ (((rest == 1) ≡ false) × (rest ≡ 0))
parity_of zero below = inr (refl, refl)
parity_of (suc zero) below = inl (refl, refl)
parity_of (suc (suc rest)) below = absurd (omega arith)

pub parity : (n : ℕ) → ((is_odd n ≡ true) × (n % 2 ≡ 1)) ⊎ ((is_odd n ≡ false) × (n % 2 ≡ 0))
unfolding is_odd
parity n = parity_of (n % 2) (omega arith)

-- the number that one bit is
abbrev pub unit_of : Bool → ℕ
unit_of bit = cond bit 1 0

pub unit_of-is_odd : (n : ℕ) → unit_of (is_odd n) ≡ n % 2
unit_of-is_odd n = elim (parity n) [ inl one ↦ rw (one.0) (sym one.1) | inr none ↦ rw (none.0) (sym none.1) ]

pub is_odd-unit_of : (bit : Bool) (n : ℕ) → is_odd (unit_of bit + 2 * n) ≡ bit
unfolding is_odd
is_odd-unit_of true n = let e : (1 + 2 * n) % 2 ≡ 1 = omega arith in rw e
is_odd-unit_of false n = let e : (0 + 2 * n) % 2 ≡ 0 = omega arith in rw e

pub number_of-cons : (bit : Bool) (bits : List Bool) → number_of (bit ∷ bits) ≡ unit_of bit + 2 * number_of bits
unfolding number_of
number_of-cons true bits = refl
number_of-cons false bits = omega arith

pub is_odd-xor : (a b : ℕ) → is_odd (bit_xor a b) ≡ sum_of (is_odd a) (is_odd b)
unfolding is_odd sum_of
is_odd-xor a b =
    let e : bit_xor a b % 2 ≡ bit_xor (a % 2) (b % 2) = xor_mod a b 1 in
    elim (parity a) [
      | inl x ↦ elim (parity b) [ inl y ↦ rw (e, x.1, y.1) | inr y ↦ rw (e, x.1, y.1) ]
      | inr x ↦ elim (parity b) [ inl y ↦ rw (e, x.1, y.1) | inr y ↦ rw (e, x.1, y.1) ]
    ]

pub half-xor : (a b : ℕ) → bit_xor a b / 2 ≡ bit_xor (a / 2) (b / 2)
half-xor a b = xor_shr a b 1

pub low_bits-xor : (k a b : ℕ) → low_bits k (bit_xor a b) ≡ added (low_bits k a) (low_bits k b)
unfolding low_bits added
low_bits-xor zero a b = refl
low_bits-xor (suc k) a b = rw (is_odd-xor, half-xor, low_bits-xor k (a / 2) (b / 2))

half_below : (k n : ℕ) → n < 2 ^ suc k → n / 2 < 2 ^ k
half_below k n below = omega (arith, pow-suc 2 k)

pub low_bits-more : (k n : ℕ) → n < 2 ^ k → low_bits (suc k) n ≡ low_bits k n ++ false ∷ []
unfolding low_bits is_odd
low_bits-more zero n below = let e : n ≡ 0 = omega arith in rw e
low_bits-more (suc k) n below =
    ap (λ bits. is_odd n ∷ bits) (low_bits-more k (n / 2) (half_below k n below))

-- the complement of the k lowest bits of a number
pub number_of-not_low_bits : (k n : ℕ) → n < 2 ^ k → number_of (map not (low_bits k n)) + n + 1 ≡ 2 ^ k
unfolding low_bits
number_of-not_low_bits zero n below = unfold number_of in omega arith
number_of-not_low_bits (suc k) n below =
    let rest : number_of (map not (low_bits k (n / 2))) + n / 2 + 1 ≡ 2 ^ k = number_of-not_low_bits k (n / 2) (half_below k n below) in
    rw number_of-cons (elim (parity n) [
      | inl one ↦ rw (one.0) (omega (arith, pow-suc 2 k, one.1))
      | inr none ↦ rw (none.0) (omega (arith, pow-suc 2 k, none.1))
    ])

pub number_of-low_bits : (k n : ℕ) → n < 2 ^ k → number_of (low_bits k n) ≡ n
unfolding low_bits
number_of-low_bits zero n below = unfold number_of in omega arith
number_of-low_bits (suc k) n below =
    let rest : number_of (low_bits k (n / 2)) ≡ n / 2 = number_of-low_bits k (n / 2) (half_below k n below) in
    rw (number_of-cons, unit_of-is_odd, rest) (omega arith)

pub number_of-below : (bits : List Bool) → number_of bits < 2 ^ length bits
unfolding number_of
number_of-below [] = omega arith
number_of-below (true ∷ bits) = omega (arith, number_of-below bits, pow-suc 2 (length bits))
number_of-below (false ∷ bits) = omega (arith, number_of-below bits, pow-suc 2 (length bits))

half-unit_of : (bit : Bool) (n : ℕ) → (unit_of bit + 2 * n) / 2 ≡ n
half-unit_of true n = omega arith
half-unit_of false n = omega arith

pub low_bits-number_of : (bits : List Bool) → low_bits (length bits) (number_of bits) ≡ bits
unfolding low_bits
low_bits-number_of [] = refl
low_bits-number_of (bit ∷ bits) =
    rw (number_of-cons, is_odd-unit_of, half-unit_of, low_bits-number_of bits)

pub bits_of-append : (xs ys : List ℕ) → bits_of (xs ++ ys) ≡ bits_of xs ++ bits_of ys
unfolding bits_of
bits_of-append [] ys = refl
bits_of-append (x ∷ xs) ys = rw (bits_of-append xs ys, append_assoc)

pub length-bits_of : (bytes : List ℕ) → length (bits_of bytes) ≡ 8 * length bytes
unfolding bits_of
length-bits_of [] = refl
length-bits_of (byte ∷ bytes) =
    omega (arith, length-append (low_bits 8 byte) (bits_of bytes), length-low_bits 8 byte, length-bits_of bytes)

-- the bits of the bytes from a place on: those of the byte there, and of the bytes behind it
pub bits_of-next : (bytes : List ℕ) (i : ℕ) → i < length bytes → bits_of (drop i bytes) ≡ low_bits 8 (get_or bytes i 0) ++ bits_of (drop (i + 1) bytes)
unfolding bits_of
bits_of-next bytes i inside = at_drop_more bits_of bytes i 0 inside

pub bits_of-none : (bytes : List ℕ) (i : ℕ) → length bytes ≤ i → bits_of (drop i bytes) ≡ []
unfolding bits_of
bits_of-none bytes i past = at_drop_all bits_of bytes i past

-- the first byte that bits spell, and the bytes that the others spell
pub bytes_of-next : (bits : List Bool) → 8 ≤ length bits → bytes_of bits ≡ number_of (take 8 bits) ∷ bytes_of (drop 8 bits)
unfolding bytes_of
bytes_of-next (a ∷ b ∷ c ∷ d ∷ e ∷ f ∷ g ∷ h ∷ bits) enough = refl
bytes_of-next _ enough = absurd (omega arith)

pub bytes_of-none : (bits : List Bool) → length bits < 8 → bytes_of bits ≡ []
unfolding bytes_of
bytes_of-none (a ∷ b ∷ c ∷ d ∷ e ∷ f ∷ g ∷ h ∷ bits) few = absurd (omega arith)
bytes_of-none _ few = refl

-- the bytes from the i-th on
pub bytes_of-step : (bits : List Bool) (i : ℕ) → 8 * i + 8 ≤ length bits → bytes_of (drop (8 * i) bits) ≡ number_of (take 8 (drop (8 * i) bits)) ∷ bytes_of (drop (8 * (i + 1)) bits)
bytes_of-step bits i enough =
    let left : 8 ≤ length (drop (8 * i) bits) = omega (arith, length-drop (8 * i) bits) in
    let place : 8 * i + 8 ≡ 8 * (i + 1) = omega arith in
    rw (bytes_of-next (drop (8 * i) bits) left, drop-drop 8 (8 * i) bits, place)

pub bits_of-bytes_of : (bits : List Bool) → length bits % 8 ≡ 0 → bits_of (bytes_of bits) ≡ bits
unfolding bits_of bytes_of
bits_of-bytes_of [] whole = refl
bits_of-bytes_of (a ∷ b ∷ c ∷ d ∷ e ∷ f ∷ g ∷ h ∷ bits) whole =
    rw (low_bits-number_of (a ∷ b ∷ c ∷ d ∷ e ∷ f ∷ g ∷ h ∷ []), bits_of-bytes_of bits (omega arith))
bits_of-bytes_of _ whole = absurd (omega arith)

pub length-bytes_of : (bits : List Bool) → length (bytes_of bits) ≡ length bits / 8
unfolding bytes_of
length-bytes_of (a ∷ b ∷ c ∷ d ∷ e ∷ f ∷ g ∷ h ∷ bits) = omega (arith, length-bytes_of bits)
length-bytes_of _ = refl

pub AreBytes-bytes_of : (bits : List Bool) → AreBytes (bytes_of bits)
unfolding bytes_of AreBytes
AreBytes-bytes_of (a ∷ b ∷ c ∷ d ∷ e ∷ f ∷ g ∷ h ∷ bits) =
    (number_of-below (a ∷ b ∷ c ∷ d ∷ e ∷ f ∷ g ∷ h ∷ []), AreBytes-bytes_of bits)
AreBytes-bytes_of _ = tt

pub bytes_of-bits_of : (bytes : List ℕ) → AreBytes bytes → bytes_of (bits_of bytes) ≡ bytes
unfolding bits_of bytes_of low_bits AreBytes
bytes_of-bits_of [] are = refl
bytes_of-bits_of (byte ∷ bytes) are = rw (number_of-low_bits 8 byte (are.0), bytes_of-bits_of bytes (are.1))

-- A list is one of bytes where each of its elements is a byte
pub AreBytes-by_index : (bytes : List ℕ) → ((i : ℕ) → get_or bytes i 0 < 256) → AreBytes bytes
unfolding AreBytes
AreBytes-by_index [] each = tt
AreBytes-by_index (byte ∷ bytes) each = (each 0, AreBytes-by_index bytes (λ i. each (suc i)))

pub AreBytes-get_or : (bytes : List ℕ) (i : ℕ) → AreBytes bytes → get_or bytes i 0 < 256
unfolding AreBytes
AreBytes-get_or [] i are = omega arith
AreBytes-get_or (byte ∷ bytes) zero are = are.0
AreBytes-get_or (byte ∷ bytes) (suc i) are = AreBytes-get_or bytes i (are.1)

pub AreBytes-append : (xs ys : List ℕ) → AreBytes xs → AreBytes ys → AreBytes (xs ++ ys)
unfolding AreBytes
AreBytes-append [] ys left right = right
AreBytes-append (x ∷ xs) ys left right = (left.0, AreBytes-append xs ys (left.1) right)

pub AreBytes-take : (n : ℕ) (bytes : List ℕ) → AreBytes bytes → AreBytes (take n bytes)
unfolding AreBytes
AreBytes-take zero bytes are = tt
AreBytes-take (suc n) [] are = tt
AreBytes-take (suc n) (byte ∷ bytes) are = (are.0, AreBytes-take n bytes (are.1))

pub AreBytes-drop : (n : ℕ) (bytes : List ℕ) → AreBytes bytes → AreBytes (drop n bytes)
unfolding AreBytes
AreBytes-drop zero bytes are = are
AreBytes-drop (suc n) [] are = tt
AreBytes-drop (suc n) (byte ∷ bytes) are = AreBytes-drop n bytes (are.1)

-- the number that bits from a place on spell: the bit there, and the bits behind it
pub number_of-step : (bits : List Bool) (i : ℕ) → i < length bits → number_of (drop i bits) ≡ unit_of (get_or bits i false) + 2 * number_of (drop (i + 1) bits)
number_of-step bits i inside =
    at_drop_more number_of bits i false inside ∙ number_of-cons (get_or bits i false) (drop (i + 1) bits)

pub number_of-none : (bits : List Bool) (i : ℕ) → length bits ≤ i → number_of (drop i bits) ≡ 0
unfolding number_of
number_of-none bits i past = at_drop_all number_of bits i past

-- the bits of a number that are left after the first k of w
pub low_bits-next : (w k n : ℕ) → k < w → low_bits (w - k) n ≡ is_odd n ∷ low_bits (w - (k + 1)) (n / 2)
unfolding low_bits
low_bits-next w k n left = let e : w - k ≡ suc (w - (k + 1)) = omega arith in rw e

pub low_bits-none : (w k n : ℕ) → w ≤ k → low_bits (w - k) n ≡ []
unfolding low_bits
low_bits-none w k n done = let e : w - k ≡ 0 = omega arith in rw e
