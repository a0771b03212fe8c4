-- The byte in which the sixth one comes, and the bits of bytes that are taken.
use Rattle.std.proofs.Common.{◌≡◌, ℕ, zero, suc, ◌+◌, ◌-◌, ◌*◌, ◌/◌, ◌^◌, ◌<◌, ◌≤◌, ◌==◌, nat_lt, Bool, true, false, cond, List, [], ◌∷◌, ◌++◌, length, take, drop, get_or, refl, sym, ap, subst, ◌∙◌, arith, length-append, append_assoc}
use Rattle.std.proofs.lemmas.List.{append-nil, take_all, drop_all, drop_at, length-take-le, length-drop, take-append-drop}
use Rattle.std.proofs.lemmas.Bool.Decides.{nat_tests}
use Rattle.std.proofs.lemmas.Nat.{shr-shr}
use Rattle.std.proofs.Math.Seq.{take-append-add}
use Rattle.sercos_model.specs.Bits.{is_odd, low_bits, bits_of}
use Rattle.sercos_model.proofs.BitLemmas.{length-low_bits, bits_of-append, length-bits_of}
use Rattle.sercos_hdlc.specs.Reason.{unstuffed}
use Rattle.sercos_hdlc.specs.Given.{before_sixth, IsEnd}
use Rattle.sercos_hdlc.specs.Sought.{ones_after, has_six, sixth_at, dropped_after}
use Rattle.sercos_hdlc.specs.declared.given.Given.{Given}
use Rattle.sercos_hdlc.proofs.GroupLemmas.{bits_of-take_more}
use Rattle.sercos_hdlc.proofs.SixthLemmas.{sixth, sixth_at-inside}

-- a bit of a number
halved : (n place : ℕ) → n / 2 / 2 ^ place ≡ n / 2 ^ suc place
halved n place = ap (λ m. m / 2 ^ place) (omega arith) ∙ shr-shr n 1 place ∙ ap (λ k. n / 2 ^ k) (omega arith)

pub bit_there : (place len n : ℕ) → place < len → is_odd (n / 2 ^ place) ≡ get_or (drop place (low_bits len n)) 0 false
unfolding low_bits
bit_there zero zero n inside = absurd (omega arith)
bit_there zero (suc len) n inside = let e : n / 2 ^ 0 ≡ n = omega arith in ap is_odd e
bit_there (suc place) zero n inside = absurd (omega arith)
bit_there (suc place) (suc len) n inside = ap is_odd (sym (halved n place)) ∙ bit_there place len (n / 2) (omega arith)

pub bit_past : (place len n : ℕ) → len ≤ place → nat_lt place len ≡ get_or (drop place (low_bits len n)) 0 false
bit_past place len n past =
    let none : nat_lt place len ≡ false = grind (arith, nat_tests) in
    none ∙ ap (λ b. get_or b 0 false) (sym (drop_all place (low_bits len n) (omega (arith, length-low_bits len n))))

-- the lowest bits of a number are the first of more of them
take-low_bits : (u w n : ℕ) → u ≤ w → take u (low_bits w n) ≡ low_bits u n
unfolding low_bits
take-low_bits zero w n few = refl
take-low_bits (suc u) zero n few = absurd (omega arith)
take-low_bits (suc u) (suc w) n few = ap (λ bits. is_odd n ∷ bits) (take-low_bits u w (n / 2) (omega arith))

-- What the lowest bits of a byte give, among which the sixth one is.
pub record IsEndOf (k byte len place : ℕ) (given : Given) : Type 0 where
  pub before : List Bool
  pub rest : List Bool
  pub whole : low_bits len byte ≡ before ++ (true ∷ rest)
  pub long : length before ≡ place
  pub all : length rest + 1 + place ≡ len
  pub none : has_six k before ≡ false
  pub five : ones_after k before ≡ 5
  pub plain : low_bits given.count given.bits ≡ unstuffed k before
  pub count : given.count ≡ length (unstuffed k before)
  pub last_zero : (dropped : Bool) → cond (place + k == 5) dropped given.dropped ≡ dropped_after k dropped before
  pub next : get_or (drop (place + 1) (low_bits len byte)) 0 false ≡ get_or rest 0 false

end_at : (k byte len : ℕ) (given : Given) → k ≤ 5 → len ≤ 8 → IsEnd k (low_bits 8 byte) given → sixth_at k (low_bits 8 byte) < len → IsEndOf k byte len (sixth_at k (low_bits 8 byte)) given
end_at k byte len given few short e inside =
    let bits : List Bool = low_bits 8 byte in
    let place : ℕ = sixth_at k bits in
    let before : List Bool = before_sixth k bits in
    let h = sixth k bits e.six in
    let long : length before ≡ place = length-take-le place bits (omega (arith, sixth_at-inside k bits e.six)) in
    let left : ℕ = len - (place + 1) in
    let rest : List Bool = take left h.rest in
    let sum : len ≡ length before + suc left = omega (arith, long, inside) in
    let whole : low_bits len byte ≡ before ++ (true ∷ rest) =
    sym (take-low_bits len 8 byte short) ∙ ap (take len) h.whole ∙ ap (λ n. take n (before ++ (true ∷ h.rest))) sum ∙ take-append-add before (true ∷ h.rest) (suc left) in
    let all : length rest + 1 + place ≡ len = omega (arith, long, ap length whole, length-append before (true ∷ rest), length-low_bits len byte) in
    record {
      before = before;
      rest = rest;
      whole = whole;
      long = long;
      all = all;
      none = h.none;
      five = h.five few;
      plain = e.plain;
      count = e.all;
      last_zero = e.last_zero;
      next = ap (λ b. get_or (drop (place + 1) b) 0 false) whole ∙ ap (λ b. get_or b 0 false) (behind_one before rest place long);
    }
  where
    behind_one : (before rest : List Bool) (place : ℕ) → length before ≡ place → drop (place + 1) (before ++ (true ∷ rest)) ≡ rest
    behind_one before rest place long =
        ap (drop (place + 1)) (sym (append_assoc before (true ∷ []) rest)) ∙ drop_at (before ++ (true ∷ [])) rest (place + 1) (omega (arith, long, length-append before (true ∷ [])))

pub end_of : (k byte len place : ℕ) (given : Given) → k ≤ 5 → len ≤ 8 → IsEnd k (low_bits 8 byte) given → place ≡ sixth_at k (low_bits 8 byte) → place < len → IsEndOf k byte len place given
end_of k byte len place given few short e is inside =
    subst (λ n. IsEndOf k byte len n given) (sym is) (end_at k byte len given few short e (omega (arith, is, inside)))

-- the bits of bytes that were taken before, and of one more
pub byte_fed : (bits : List Bool) (bytes : List ℕ) (i : ℕ) → i < length bytes → bits ++ bits_of (take (i + 1) bytes) ≡ (bits ++ bits_of (take i bytes)) ++ low_bits 8 (get_or bytes i 0)
byte_fed bits bytes i inside =
    ap (λ b. bits ++ b) (bits_of-take_more bytes i inside) ∙ sym (append_assoc bits (bits_of (take i bytes)) (low_bits 8 (get_or bytes i 0)))

-- and of some more
take_more_of : (bytes : List ℕ) (i count : ℕ) → i ≤ length bytes → take (i + count) bytes ≡ take i bytes ++ take count (drop i bytes)
take_more_of bytes i count inside =
    let long : length (take i bytes) ≡ i = length-take-le i bytes inside in
    ap (take (i + count)) (sym (take-append-drop i bytes)) ∙ ap (λ n. take (n + count) (take i bytes ++ drop i bytes)) (sym long) ∙ take-append-add (take i bytes) (drop i bytes) count

pub some_fed : (bits : List Bool) (bytes : List ℕ) (i count : ℕ) → i ≤ length bytes → bits ++ bits_of (take (i + count) bytes) ≡ (bits ++ bits_of (take i bytes)) ++ bits_of (take count (drop i bytes))
some_fed bits bytes i count inside =
    ap (λ b. bits ++ b) (ap bits_of (take_more_of bytes i count inside) ∙ bits_of-append (take i bytes) (take count (drop i bytes))) ∙ sym (append_assoc bits (bits_of (take i bytes)) (bits_of (take count (drop i bytes))))

pub slice_rest : (bytes : List ℕ) (i : ℕ) → take (length bytes - i) (drop i bytes) ≡ drop i bytes
slice_rest bytes i = take_all (length bytes - i) (drop i bytes) (omega (arith, length-drop i bytes))

-- the bits of the first byte
pub one_byte : (bytes : List ℕ) → 1 ≤ length bytes → bits_of (take 1 bytes) ≡ low_bits 8 (get_or bytes 0 0)
unfolding bits_of
one_byte [] some = absurd (omega arith)
one_byte (byte ∷ bytes) some = append-nil (low_bits 8 byte)

-- the first bit, and the others
unfoldable pub others_of : List ℕ → List Bool
others_of [] = []
others_of (byte ∷ bytes) = low_bits 7 (byte / 2) ++ bits_of bytes

pub first_bit : (bytes : List ℕ) → 1 ≤ length bytes → bits_of (take (length bytes) bytes) ≡ is_odd (get_or bytes 0 0) ∷ others_of bytes
unfolding bits_of low_bits others_of
first_bit [] some = absurd (omega arith)
first_bit (byte ∷ bytes) some = ap bits_of (take_all (length (byte ∷ bytes)) (byte ∷ bytes) (omega arith))

pub length-others_of : (bytes : List ℕ) → 1 ≤ length bytes → length (others_of bytes) + 1 ≡ 8 * length bytes
unfolding others_of
length-others_of [] some = absurd (omega arith)
length-others_of (byte ∷ bytes) some = omega (arith, length-append (low_bits 7 (byte / 2)) (bits_of bytes), length-low_bits 7 (byte / 2), length-bits_of bytes)
