-- Eight steps of the register at once, by the table.
use Rattle.std.proofs.Common.{◌≡◌, ℕ, zero, suc, ◌+◌, ◌*◌, ◌/◌, ◌%◌, ◌^◌, ◌<◌, ◌≤◌, Bool, true, false, cond, List, [], ◌∷◌, ◌++◌, map, get_or, replicate, refl, length, sym, ap, ◌∙◌, add-one, arith, length-append}
use Rattle.std.specs.Prelude.{fold}
use Rattle.std.specs.List.{range_with_len}
use Rattle.std.specs.Int.Bits.{bit_xor, xor_zero_l}
use Rattle.std.proofs.lemmas.Grind.{fold-append}
use Rattle.std.proofs.lemmas.List.{get_or-map}
use Rattle.std.proofs.lemmas.List.FromFn.{get_or-map-range_with_len}
use Rattle.std.proofs.lemmas.Nat.{mod-pow-add}
use Rattle.sercos_model.specs.Bits.{is_odd, low_bits}
use Rattle.sercos_model.specs.CheckSequence.{sum_of, added, divided, generator, sixteen_zeros, raised}
use Rattle.sercos_model.proofs.BitLemmas.{low_bits-xor, length-low_bits}
use Rattle.sercos_bits.specs.Register.{fed}
use Rattle.sercos_bits.specs.declared.check_sequence.TheConstants.{REMAINDERS, LATER, LATER_BY_TWO, LATER_BY_THREE}
use Rattle.sercos_bits.proofs.Division.{register_divides, added-added, added_twice, added-zeros, length-fed}

-- what the register holds after a byte
abbrev after_byte : ℕ → List Bool
after_byte byte = fold fed sixteen_zeros (low_bits 8 byte)

entries : map (low_bits 16) REMAINDERS ≡ map after_byte (range_with_len 0 256)
unfolding low_bits is_odd fed sum_of added
entries = refl

pub entry : (byte : ℕ) → byte < 256 → low_bits 16 (get_or REMAINDERS byte 0) ≡ fold fed sixteen_zeros (low_bits 8 byte)
entry byte below =
    sym (get_or-map (low_bits 16) REMAINDERS byte 0 [] below) ∙ ap (λ r. get_or r byte []) entries ∙ get_or-map-range_with_len after_byte 0 256 byte byte [] below (omega arith)

sum_of_swap : (x y z : Bool) → sum_of x (sum_of y z) ≡ sum_of y (sum_of x z)
unfolding sum_of
sum_of_swap false y z = refl
sum_of_swap true false z = refl
sum_of_swap true true z = refl

added_swap : (xs ys zs : List Bool) → added xs (added ys zs) ≡ added ys (added xs zs)
unfolding added
added_swap [] ys zs = refl
added_swap (x ∷ xs) [] zs = refl
added_swap (x ∷ xs) (y ∷ ys) [] = refl
added_swap (x ∷ xs) (y ∷ ys) (z ∷ zs) = rw (sum_of_swap x y z, added_swap xs ys zs)

-- what is added after the coefficients that are divided is added to the rest
divided_added : (n : ℕ) (y p : List Bool) → divided n (added (raised n y) p) ≡ added y (divided n p)
unfolding divided added raised sum_of
divided_added zero y p = refl
divided_added (suc n) [] [] = refl
divided_added (suc n) (b ∷ y) [] = refl
divided_added (suc n) y (false ∷ p) = divided_added n y p
divided_added (suc n) y (true ∷ p) = ap (divided n) (added_swap generator (raised n y) p) ∙ divided_added n y (added generator p)

low_bits-mod : (k n : ℕ) → low_bits k (n % 2 ^ k) ≡ low_bits k n
unfolding low_bits is_odd
low_bits-mod zero n = refl
low_bits-mod (suc k) n =
    let e : n % 2 ^ suc k ≡ n / 2 % 2 ^ k * 2 + n % 2 = rw (← add-one k) (mod-pow-add n k 1) in
    let lowest : n % 2 ^ suc k % 2 ≡ n % 2 = omega (arith, e) in
    let others : n % 2 ^ suc k / 2 ≡ n / 2 % 2 ^ k = omega (arith, e) in
    rw (lowest, others, low_bits-mod k (n / 2))

pub low_bits-halves : (n : ℕ) → low_bits 16 n ≡ low_bits 8 n ++ low_bits 8 (n / 256)
unfolding low_bits
low_bits-halves n = let upper : n / 2 / 2 / 2 / 2 / 2 / 2 / 2 / 2 ≡ n / 256 = omega arith in rw upper

-- the upper half of the register moves down, and zeros come after it
low_bits-shifted : (n : ℕ) → n < 2 ^ 16 → low_bits 16 (n / 256) ≡ low_bits 8 (n / 256) ++ replicate 8 false
unfolding low_bits is_odd
low_bits-shifted n below = let none : n / 256 / 256 ≡ 0 = omega arith in low_bits-halves (n / 256) ∙ rw none

-- eight bits w are divided with the lower half u of the register, and the upper half v is added to the remainder
by_halves : (u v w : ℕ) → fold fed (low_bits 8 u ++ low_bits 8 v) (low_bits 8 w) ≡ added (low_bits 8 v ++ replicate 8 false) (fold fed sixteen_zeros (added (low_bits 8 u) (low_bits 8 w)))
unfolding low_bits added raised sum_of
by_halves u v w =
    let sum = added (low_bits 8 u) (low_bits 8 w) in
    let upper = low_bits 8 v ++ replicate 8 false in
    sym (register_divides (low_bits 8 w) (low_bits 8 u ++ low_bits 8 v) refl)
    ∙ divided_added 8 upper (sum ++ sixteen_zeros)
    ∙ ap (added upper) (register_divides sum sixteen_zeros refl)

-- one byte by the table
pub byte_by_table : (r byte entry : ℕ) → r < 2 ^ 16 → low_bits 16 entry ≡ fold fed sixteen_zeros (low_bits 8 (bit_xor (r % 256) byte)) → low_bits 16 (bit_xor (r / 256) entry) ≡ fold fed (low_bits 16 r) (low_bits 8 byte)
byte_by_table r byte entry below is =
    rw (low_bits-xor, low_bits-shifted r below, is, low_bits-xor, low_bits-mod 8 r, low_bits-halves r) (sym (by_halves r (r / 256) byte))

-- The division is linear: what is added to the register goes its own way.
added_append : (xs ys : List Bool) → length xs ≡ length ys → added xs ys ++ false ∷ [] ≡ added (xs ++ false ∷ []) (ys ++ false ∷ [])
unfolding added sum_of
added_append [] [] same = refl
added_append [] (y ∷ ys) same = absurd (omega arith)
added_append (x ∷ xs) [] same = absurd (omega arith)
added_append (x ∷ xs) (y ∷ ys) same = ap (λ zs. sum_of x y ∷ zs) (added_append xs ys (omega arith))

step_added : (p q : Bool) (xs ys : List Bool) → 16 ≤ length xs → cond (sum_of p q) (added generator (added xs ys)) (added xs ys) ≡ added (cond p (added generator xs) xs) (cond q (added generator ys) ys)
unfolding sum_of
step_added false false xs ys long = refl
step_added true false xs ys long = added-added generator xs ys long
step_added false true xs ys long = added_swap generator xs ys
step_added true true xs ys long =
    sym (added_twice generator (added xs ys)) ∙ ap (added generator) (added_swap generator xs ys) ∙ added-added generator xs (added generator ys) long

sum_of_parts : (x y bit : Bool) → sum_of (sum_of x y) bit ≡ sum_of (sum_of x bit) (sum_of y false)
unfolding sum_of
sum_of_parts false false bit = sum_end bit
  where
    sum_end : (bit : Bool) → bit ≡ sum_of bit false
    sum_end true = refl
    sum_end false = refl
sum_of_parts false true true = refl
sum_of_parts false true false = refl
sum_of_parts true false true = refl
sum_of_parts true false false = refl
sum_of_parts true true true = refl
sum_of_parts true true false = refl

fed_added : (xs ys : List Bool) (bit : Bool) → length xs ≡ 16 → length ys ≡ 16 → fed (added xs ys) bit ≡ added (fed xs bit) (fed ys false)
unfolding fed added
fed_added [] ys bit one two = absurd (omega arith)
fed_added (x ∷ xs) [] bit one two = absurd (omega arith)
fed_added (x ∷ xs) (y ∷ ys) bit one two =
    rw (added_append xs ys (omega arith), sum_of_parts x y bit) (step_added (sum_of x bit) (sum_of y false) (xs ++ false ∷ []) (ys ++ false ∷ []) (omega (arith, length-append xs (false ∷ []))))

fold_added : (bits xs ys : List Bool) → length xs ≡ 16 → length ys ≡ 16 → fold fed (added xs ys) bits ≡ added (fold fed xs bits) (fold fed ys (replicate (length bits) false))
fold_added [] xs ys one two = refl
fold_added (bit ∷ bits) xs ys one two =
    ap (λ r. fold fed r bits) (fed_added xs ys bit one two) ∙ fold_added bits (fed xs bit) (fed ys false) (length-fed xs bit ∙ one) (length-fed ys false ∙ two)

-- what the register holds after a byte and eight zeros
abbrev after_zeros : ℕ → List Bool
after_zeros byte = fold fed (fold fed sixteen_zeros (low_bits 8 byte)) (replicate 8 false)

later_entries : map (low_bits 16) LATER ≡ map after_zeros (range_with_len 0 256)
unfolding low_bits is_odd fed sum_of added
later_entries = refl

pub later_entry : (byte : ℕ) → byte < 256 → low_bits 16 (get_or LATER byte 0) ≡ fold fed (fold fed sixteen_zeros (low_bits 8 byte)) (replicate 8 false)
later_entry byte below =
    sym (get_or-map (low_bits 16) LATER byte 0 [] below) ∙ ap (λ r. get_or r byte []) later_entries ∙ get_or-map-range_with_len after_zeros 0 256 byte byte [] below (omega arith)

-- and sixteen zeros, and 24
abbrev by_two : ℕ → List Bool
by_two byte = fold fed (fold fed sixteen_zeros (low_bits 8 byte)) (replicate 16 false)

abbrev by_three : ℕ → List Bool
by_three byte = fold fed (fold fed sixteen_zeros (low_bits 8 byte)) (replicate 24 false)

by_two_entries : map (low_bits 16) LATER_BY_TWO ≡ map by_two (range_with_len 0 256)
unfolding low_bits is_odd fed sum_of added
by_two_entries = refl

by_three_entries : map (low_bits 16) LATER_BY_THREE ≡ map by_three (range_with_len 0 256)
unfolding low_bits is_odd fed sum_of added
by_three_entries = refl

pub later_by_two_entry : (byte : ℕ) → byte < 256 → low_bits 16 (get_or LATER_BY_TWO byte 0) ≡ fold fed (fold fed sixteen_zeros (low_bits 8 byte)) (replicate 16 false)
later_by_two_entry byte below =
    sym (get_or-map (low_bits 16) LATER_BY_TWO byte 0 [] below) ∙ ap (λ r. get_or r byte []) by_two_entries ∙ get_or-map-range_with_len by_two 0 256 byte byte [] below (omega arith)

pub later_by_three_entry : (byte : ℕ) → byte < 256 → low_bits 16 (get_or LATER_BY_THREE byte 0) ≡ fold fed (fold fed sixteen_zeros (low_bits 8 byte)) (replicate 24 false)
later_by_three_entry byte below =
    sym (get_or-map (low_bits 16) LATER_BY_THREE byte 0 [] below) ∙ ap (λ r. get_or r byte []) by_three_entries ∙ get_or-map-range_with_len by_three 0 256 byte byte [] below (omega arith)

zeros-bits : low_bits 16 0 ≡ replicate 16 false
unfolding low_bits is_odd
zeros-bits = refl

-- a byte by the table, where the register has eight bits
short_by_table : (r byte entry : ℕ) → r < 256 → low_bits 16 entry ≡ fold fed sixteen_zeros (low_bits 8 (bit_xor r byte)) → low_bits 16 entry ≡ fold fed (low_bits 16 r) (low_bits 8 byte)
short_by_table r byte entry below is =
    let lower : r % 256 ≡ r = omega arith in
    let upper : r / 256 ≡ 0 = omega arith in
    let whole : low_bits 16 (bit_xor (r / 256) entry) ≡ fold fed (low_bits 16 r) (low_bits 8 byte) = byte_by_table r byte entry (omega arith) (rw lower is) in
    let none : low_bits 16 (bit_xor (r / 256) entry) ≡ low_bits 16 entry = rw upper (low_bits-xor 16 0 entry ∙ ap (λ bits. added bits (low_bits 16 entry)) zeros-bits ∙ added-zeros 16 (low_bits 16 entry)) in
    sym none ∙ whole

-- two bytes by the tables
pub two_by_table : (r first second now later : ℕ) → r < 2 ^ 16 → bit_xor (r % 256) first < 256 → low_bits 16 now ≡ fold fed sixteen_zeros (low_bits 8 (bit_xor (r / 256) second))
    → low_bits 16 later ≡ fold fed (fold fed sixteen_zeros (low_bits 8 (bit_xor (r % 256) first))) (replicate 8 false)
    → low_bits 16 (bit_xor now later) ≡ fold fed (fold fed (low_bits 16 r) (low_bits 8 first)) (low_bits 8 second)
two_by_table r first second now later below fits now_is later_is =
    let one : ℕ = get_or REMAINDERS (bit_xor (r % 256) first) 0 in
    let one_is = entry (bit_xor (r % 256) first) fits in
    let upper : List Bool = low_bits 16 (r / 256) in
    let step : fold fed (low_bits 16 r) (low_bits 8 first) ≡ added upper (low_bits 16 one) = sym (byte_by_table r first one below one_is) ∙ low_bits-xor 16 (r / 256) one in
    let eight : length (low_bits 8 second) ≡ 8 = length-low_bits 8 second in
    let split : fold fed (added upper (low_bits 16 one)) (low_bits 8 second) ≡ added (fold fed upper (low_bits 8 second)) (fold fed (low_bits 16 one) (replicate (length (low_bits 8 second)) false)) =
    fold_added (low_bits 8 second) upper (low_bits 16 one) (length-low_bits 16 (r / 256)) (length-low_bits 16 one) in
    let zeros : fold fed (low_bits 16 one) (replicate (length (low_bits 8 second)) false) ≡ low_bits 16 later = ap (λ n. fold fed (low_bits 16 one) (replicate n false)) eight ∙ ap (λ r. fold fed r (replicate 8 false)) one_is ∙ sym later_is in
    let front : fold fed upper (low_bits 8 second) ≡ low_bits 16 now = sym (short_by_table (r / 256) second now (omega arith) now_is) in
    low_bits-xor 16 now later ∙ ap (λ bits. added bits (low_bits 16 later)) (sym front) ∙ ap (λ bits. added (fold fed upper (low_bits 8 second)) bits) (sym zeros) ∙ sym split
    ∙ ap (λ r. fold fed r (low_bits 8 second)) (sym step)

-- four bytes by the tables: the last two as from a register of zeros, and the first two with sixteen zeros after them
pub four_by_table : (r first second third fourth now later by_two by_three : ℕ) → r < 2 ^ 16 → bit_xor (r % 256) first < 256 → bit_xor (r / 256) second < 256 → third < 256
    → low_bits 16 now ≡ fold fed sixteen_zeros (low_bits 8 fourth)
    → low_bits 16 later ≡ fold fed (fold fed sixteen_zeros (low_bits 8 third)) (replicate 8 false)
    → low_bits 16 by_two ≡ fold fed (fold fed sixteen_zeros (low_bits 8 (bit_xor (r / 256) second))) (replicate 16 false)
    → low_bits 16 by_three ≡ fold fed (fold fed sixteen_zeros (low_bits 8 (bit_xor (r % 256) first))) (replicate 24 false)
    → low_bits 16 (bit_xor (bit_xor now later) (bit_xor by_two by_three)) ≡ fold fed (fold fed (fold fed (fold fed (low_bits 16 r) (low_bits 8 first)) (low_bits 8 second)) (low_bits 8 third)) (low_bits 8 fourth)
four_by_table r first second third fourth now later by_two by_three below one_fits two_fits three_fits now_is later_is two_is three_is =
    let a : ℕ = bit_xor (r % 256) first in
    let b : ℕ = bit_xor (r / 256) second in
    let high : ℕ = get_or REMAINDERS b 0 in
    let low : ℕ = get_or LATER a 0 in
    let both : ℕ = bit_xor high low in
    let high_is = entry b two_fits in
    let low_is = later_entry a one_fits in
    let two : low_bits 16 both ≡ fold fed (fold fed (low_bits 16 r) (low_bits 8 first)) (low_bits 8 second) = two_by_table r first second high low below one_fits high_is low_is in
    let bits : List Bool = low_bits 8 third ++ low_bits 8 fourth in
    let long : length bits ≡ 16 = omega (arith, length-append (low_bits 8 third) (low_bits 8 fourth), length-low_bits 8 third, length-low_bits 8 fourth) in
    let last : low_bits 16 (bit_xor now later) ≡ fold fed (low_bits 16 0) bits =
    two_by_table 0 third fourth now later (omega arith) (rw (xor_zero_l third) three_fits) (rw (xor_zero_l fourth) now_is) (rw (xor_zero_l third) later_is) ∙ sym (fold-append fed (low_bits 16 0) (low_bits 8 third) (low_bits 8 fourth)) in
    let zeros_high : fold fed (low_bits 16 high) (replicate 16 false) ≡ low_bits 16 by_two = ap (λ x. fold fed x (replicate 16 false)) high_is ∙ sym two_is in
    let zeros_low : fold fed (low_bits 16 low) (replicate 16 false) ≡ low_bits 16 by_three =
    ap (λ x. fold fed x (replicate 16 false)) low_is ∙ sym (fold-append fed (fold fed sixteen_zeros (low_bits 8 a)) (replicate 8 false) (replicate 16 false)) ∙ sym three_is in
    let front : fold fed (low_bits 16 both) (replicate 16 false) ≡ low_bits 16 (bit_xor by_two by_three) =
    ap (λ x. fold fed x (replicate 16 false)) (low_bits-xor 16 high low)
    ∙ fold_added (replicate 16 false) (low_bits 16 high) (low_bits 16 low) (length-low_bits 16 high) (length-low_bits 16 low)
    ∙ ap (λ x. added x (fold fed (low_bits 16 low) (replicate 16 false))) zeros_high ∙ ap (λ x. added (low_bits 16 by_two) x) zeros_low ∙ sym (low_bits-xor 16 by_two by_three) in
    let split : fold fed (low_bits 16 both) bits ≡ added (fold fed (low_bits 16 0) bits) (fold fed (low_bits 16 both) (replicate 16 false)) =
    ap (λ x. fold fed x bits) (sym (ap (λ z. added z (low_bits 16 both)) zeros-bits ∙ added-zeros 16 (low_bits 16 both)))
    ∙ fold_added bits (low_bits 16 0) (low_bits 16 both) (length-low_bits 16 0) (length-low_bits 16 both)
    ∙ ap (λ n. added (fold fed (low_bits 16 0) bits) (fold fed (low_bits 16 both) (replicate n false))) long in
    low_bits-xor 16 (bit_xor now later) (bit_xor by_two by_three) ∙ ap (λ x. added x (low_bits 16 (bit_xor by_two by_three))) last ∙ ap (λ x. added (fold fed (low_bits 16 0) bits) x) (sym front) ∙ sym split
    ∙ fold-append fed (low_bits 16 both) (low_bits 8 third) (low_bits 8 fourth) ∙ ap (λ x. fold fed (fold fed x (low_bits 8 third)) (low_bits 8 fourth)) two
