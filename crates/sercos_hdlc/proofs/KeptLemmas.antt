-- Bits that are appended to a number, and bytes that are taken off it.
use Rattle.std.proofs.Common.{◌≡◌, ℕ, zero, suc, ◌+◌, ◌-◌, ◌*◌, ◌/◌, ◌%◌, ◌^◌, ◌<◌, ◌≤◌, Fits, Bool, List, [], ◌++◌, ◌⊎◌, inl, inr, length, take, min, refl, sym, ap, ◌∙◌, arith, length-append, append_assoc}
use Rattle.std.proofs.lemmas.List.{take-take, length-take-le}
use Rattle.std.proofs.Math.Nat.{pow-suc, pow-succ', mul_left_comm, mul_comm, add-mul, mul-le-mul_right, div-div-eq-div-mul}
use Rattle.std.proofs.Math.Seq.{take-append-add}
use Rattle.std.specs.Int.{w64, to_le_bytes, bytes_low_first, byte_at}
use Rattle.std.proofs.Math.Pow.{pow_mono}
use Rattle.std.proofs.Math.Nat.{mod-eq_of_lt}
use Rattle.std.proofs.lemmas.Nat.{pow-add, pow_pos, div_below, shr-shr}
use Rattle.std.proofs.lemmas.Bool.{cases_lt}
use Rattle.sercos_hdlc.proofs.FramingLemmas.{low_bits_low_byte}
use Rattle.sercos_model.specs.Bits.{is_odd, low_bits, bits_of}
use Rattle.sercos_model.proofs.BitLemmas.{length-low_bits, length-bits_of, bits_of-append}

pub low_bits-join : (a c r b : ℕ) → r < 2 ^ a → low_bits (a + c) (r + b * 2 ^ a) ≡ low_bits a r ++ low_bits c b
unfolding low_bits is_odd
low_bits-join zero c r b below = let e : r + b * 2 ^ 0 ≡ b = omega arith in let z : 0 + c ≡ c = omega arith in rw (e, z)
low_bits-join (suc a) c r b below =
    let power = pow-suc 2 a in
    let long : suc a + c ≡ suc (a + c) = omega arith in
    let product : b * 2 ^ suc a ≡ 2 * (b * 2 ^ a) = ap (λ n. b * n) (pow-succ' 2 a) ∙ mul_left_comm b 2 (2 ^ a) in
    let odd : (r + b * 2 ^ suc a) % 2 ≡ r % 2 = omega (arith, product) in
    let half : (r + b * 2 ^ suc a) / 2 ≡ r / 2 + b * 2 ^ a = omega (arith, product) in
    rw (long, odd, half, low_bits-join a c (r / 2) b (omega (arith, power)))

-- the first byte of a number, and the bits after it
pub low_bits-byte : (len n : ℕ) → 8 ≤ len → low_bits len n ≡ low_bits 8 n ++ low_bits (len - 8) (n / 256)
unfolding low_bits
low_bits-byte len n long =
    let e : len ≡ suc (suc (suc (suc (suc (suc (suc (suc (len - 8)))))))) = omega arith in
    let upper : n / 2 / 2 / 2 / 2 / 2 / 2 / 2 / 2 ≡ n / 256 = omega arith in
    ap (λ k. low_bits k n) e ∙ rw upper

-- a number of `count` bits, moved up by others
moved_below : (count len bits : ℕ) → bits < 2 ^ count → bits * 2 ^ len + 2 ^ len ≤ 2 ^ (len + count)
moved_below count len bits below =
    let wide : (bits + 1) * 2 ^ len ≤ 2 ^ count * 2 ^ len = mul-le-mul_right (2 ^ len) (omega arith) in
    omega (arith, wide, add-mul bits 1 (2 ^ len), pow-add 2 len count, mul_comm (2 ^ count) (2 ^ len))

moved : (count len bits : ℕ) → len + count ≤ 63 → bits < 2 ^ count → bits * 2 ^ len % 2 ^ 64 ≡ bits * 2 ^ len
moved count len bits few below =
    let high : 2 ^ (len + count) ≤ 2 ^ 63 = pow_mono few in
    let small : bits * 2 ^ len < 2 ^ 64 = omega (arith, moved_below count len bits below, high) in
    mod-eq_of_lt small

pub joined_below : (rest len bits count : ℕ) → rest < 2 ^ len → len + count ≤ 63 → bits < 2 ^ count → rest + bits * 2 ^ len % 2 ^ 64 < 2 ^ (len + count)
joined_below rest len bits count low few below =
    rw (moved count len bits few below) (omega (arith, moved_below count len bits below))

pub joined_fits : (rest len bits count : ℕ) → rest < 2 ^ len → len + count ≤ 63 → bits < 2 ^ count → Fits w64 (rest + bits * 2 ^ len % 2 ^ 64)
joined_fits rest len bits count low few below =
    let high : 2 ^ (len + count) ≤ 2 ^ 63 = pow_mono few in
    let small : rest + bits * 2 ^ len % 2 ^ 64 < 2 ^ 64 = omega (arith, joined_below rest len bits count low few below, high) in
    omega (arith, small)

pub joined_bits : (rest len bits count : ℕ) → rest < 2 ^ len → len + count ≤ 63 → bits < 2 ^ count → low_bits (len + count) (rest + bits * 2 ^ len % 2 ^ 64) ≡ low_bits len rest ++ low_bits count bits
joined_bits rest len bits count low few below =
    rw (moved count len bits few below) (low_bits-join len count rest bits low)

-- the first bits of a number, and those after them
pub low_bits-split : (a b n : ℕ) → low_bits (a + b) n ≡ low_bits a n ++ low_bits b (n / 2 ^ a)
unfolding low_bits
low_bits-split zero b n = let e : n / 2 ^ 0 ≡ n = omega arith in let z : 0 + b ≡ b = omega arith in rw (e, z) refl
low_bits-split (suc a) b n =
    let long : suc a + b ≡ suc (a + b) = omega arith in
    let half : n / 2 / 2 ^ a ≡ n / 2 ^ suc a = ap (λ m. m / 2 ^ a) (omega arith) ∙ shr-shr n 1 a ∙ ap (λ k. n / 2 ^ k) (omega arith) in
    rw (long, low_bits-split a b (n / 2), half) refl

pub behind_below : (len first n : ℕ) → first ≤ len → n < 2 ^ len → n / 2 ^ first < 2 ^ (len - first)
behind_below len first n long below =
    let e : len ≡ (len - first) + first = omega arith in
    let power : 2 ^ len ≡ 2 ^ (len - first) * 2 ^ first = ap (λ k. 2 ^ k) e ∙ pow-add 2 (len - first) first in
    div_below n (2 ^ first) (2 ^ (len - first)) (pow_pos first) (omega (arith, below, power))

pub behind_bits : (len first n : ℕ) → first ≤ len → low_bits len n ≡ low_bits first n ++ low_bits (len - first) (n / 2 ^ first)
behind_bits len first n long =
    let e : len ≡ first + (len - first) = omega arith in
    ap (λ k. low_bits k n) e ∙ low_bits-split first (len - first) n

-- the bytes of a number
byte_is : (i n : ℕ) → byte_at i n ≡ n / 256 ^ i % 256
byte_is zero n = omega arith
byte_is (suc i) n = refl

behind_byte : (i n : ℕ) → n / 256 ^ i / 256 ≡ n / 256 ^ suc i
behind_byte i n = div-div-eq-div-mul n (256 ^ i) 256 ∙ ap (λ m. n / m) (sym (pow-suc 256 i))

low_bits-zero : (n : ℕ) → low_bits (8 * 0) n ≡ []
unfolding low_bits
low_bits-zero n = refl

pub bits_of-low_first : (count i len n : ℕ) → count ≤ len → bits_of (take count (bytes_low_first i len n)) ≡ low_bits (8 * count) (n / 256 ^ i)
unfolding bits_of
bits_of-low_first zero i len n few = sym (low_bits-zero (n / 256 ^ i))
bits_of-low_first (suc count) i zero n few = absurd (omega arith)
bits_of-low_first (suc count) i (suc len) n few =
    let long : 8 ≤ 8 * suc count = omega arith in
    let less : 8 * suc count - 8 ≡ 8 * count = omega arith in
    let front : low_bits 8 (byte_at i n) ≡ low_bits 8 (n / 256 ^ i) = ap (low_bits 8) (byte_is i n) ∙ low_bits_low_byte (n / 256 ^ i) in
    ap (λ b. low_bits 8 (byte_at i n) ++ b) (bits_of-low_first count (suc i) len n (omega arith))
    ∙ ap (λ b. b ++ low_bits (8 * count) (n / 256 ^ suc i)) front
    ∙ ap (λ m. low_bits 8 (n / 256 ^ i) ++ low_bits (8 * count) m) (sym (behind_byte i n))
    ∙ ap (λ k. low_bits 8 (n / 256 ^ i) ++ low_bits k (n / 256 ^ i / 256)) (sym less)
    ∙ sym (low_bits-byte (8 * suc count) (n / 256 ^ i) long)

pub bits_of-word : (count word : ℕ) → count ≤ 8 → bits_of (take count (to_le_bytes w64 word)) ≡ low_bits (8 * count) word
bits_of-word count word few =
    let whole : word / 256 ^ 0 ≡ word = omega arith in
    bits_of-low_first count 0 8 word few ∙ ap (low_bits (8 * count)) whole

-- bytes that were written after others
pub bits_of-written : (room written : List ℕ) (len count word : ℕ) → take (len + 8) written ≡ take len room ++ to_le_bytes w64 word → len ≤ length room → count ≤ 8 → bits_of (take (len + count) written) ≡ bits_of (take len room) ++ low_bits (8 * count) word
bits_of-written room written len count word is inside few =
    let front : List ℕ = take len room in
    let long : length front ≡ len = length-take-le len room inside in
    let cut : take (len + count) written ≡ front ++ take count (to_le_bytes w64 word) =
    sym (take-take (len + count) (len + 8) written (omega arith)) ∙ ap (take (len + count)) is ∙ ap (λ n. take (n + count) (front ++ to_le_bytes w64 word)) (sym long) ∙ take-append-add front (to_le_bytes w64 word) count in
    ap bits_of cut ∙ bits_of-append front (take count (to_le_bytes w64 word)) ∙ ap (λ b. bits_of front ++ b) (bits_of-word count word few)

-- no more than the rest changes
pub rest_more : (plain bits : List Bool) (bytes : List ℕ) (rest len sum long : ℕ) → low_bits long sum ≡ low_bits len rest ++ bits → (plain ≡ bits_of bytes ++ low_bits len rest) ⊎ (16408 ≤ length plain) → (plain ++ bits ≡ bits_of bytes ++ low_bits long sum) ⊎ (16408 ≤ length (plain ++ bits))
rest_more plain bits bytes rest len sum long is (inl all) =
    inl (ap (λ b. b ++ bits) all ∙ append_assoc (bits_of bytes) (low_bits len rest) bits ∙ ap (λ b. bits_of bytes ++ b) (sym is))
rest_more plain bits bytes rest len sum long is (inr many) = inr (omega (arith, length-append plain bits))

-- some bytes are whole
pub bytes_more : (plain : List Bool) (bytes more : List ℕ) (sum long count rest : ℕ) → (length bytes + count ≤ 2050 → bits_of more ≡ bits_of bytes ++ low_bits (8 * count) sum) → 8 * count ≤ long → low_bits long sum ≡ low_bits (8 * count) sum ++ low_bits (long - 8 * count) rest → (plain ≡ bits_of bytes ++ low_bits long sum) ⊎ (16408 ≤ length plain) → (plain ≡ bits_of more ++ low_bits (long - 8 * count) rest) ⊎ (16408 ≤ length plain)
bytes_more plain bytes more sum long count rest push enough is (inl all) =
    elim (cases_lt (length bytes + count) 2051) [
      | inl room ↦ inl (all ∙ ap (λ b. bits_of bytes ++ b) is ∙ sym (append_assoc (bits_of bytes) (low_bits (8 * count) sum) (low_bits (long - 8 * count) rest)) ∙ ap (λ b. b ++ low_bits (long - 8 * count) rest) (sym (push (omega (arith, room)))))
      | inr full ↦ inr (omega (arith, full, enough, ap length all, length-append (bits_of bytes) (low_bits long sum), length-bits_of bytes, length-low_bits long sum))
    ]
bytes_more plain bytes more sum long count rest push enough is (inr many) = inr many

pub bits_of-appended : (now room written : List ℕ) (len count more word : ℕ) → take len room ≡ now → take (len + 8) written ≡ take len room ++ to_le_bytes w64 word → len ≤ length room → count ≤ 8 → more ≡ min (len + count) 2050 → length now + count ≤ 2050 → bits_of (take more written) ≡ bits_of now ++ low_bits (8 * count) word
bits_of-appended now room written len count more word view is inside few most fits =
    let long : length now ≡ len = ap length (sym view) ∙ length-take-le len room inside in
    let all : more ≡ len + count = omega (arith, long) in
    ap (λ n. bits_of (take n written)) all ∙ bits_of-written room written len count word is inside few ∙ ap (λ b. bits_of b ++ low_bits (8 * count) word) view

pub length-appended : (now room written : List ℕ) (len count more : ℕ) → take len room ≡ now → 2050 ≤ length room → len ≤ 2050
    → length written ≡ length room → more ≡ min (len + count) 2050 → length (take more written) ≡ min (length now + count) 2050
length-appended now room written len count more view large few same most =
    let long : length now ≡ len = ap length (sym view) ∙ length-take-le len room (omega arith) in
    length-take-le more written (omega arith) ∙ most ∙ ap (λ n. min (n + count) 2050) (sym long)
