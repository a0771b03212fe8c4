-- Bits and the bytes that they are packed into.
use Rattle.std.proofs.Common.{◌≡◌, ℕ, zero, suc, ◌+◌, ◌-◌, ◌*◌, ◌/◌, ◌%◌, ◌<◌, ◌≤◌, Bool, false, List, [], ◌∷◌, ◌++◌, length, take, drop, get_or, replicate, refl, sym, ap, ◌∙◌, arith, append_assoc, append-nil, length-append}
use Rattle.std.proofs.Math.ListN.{set}
use Rattle.std.proofs.Math.Seq.{take-add, take-append-add, take-append_seam}
use Rattle.std.proofs.lemmas.List.{take_more_set, take_all, take-append-le, take-append-drop, length-take-le, length-replicate}
use Rattle.sercos_model.specs.Bits.{is_odd, low_bits, bits_of}
use Rattle.sercos_model.proofs.BitLemmas.{bits_of-append, length-bits_of, bits_of-next, length-low_bits}
use Rattle.sercos_c.specs.Frames.{bytes_for, padded}

-- the first of the lowest bits
pub take_low : (k r n : ℕ) → r ≤ k → take r (low_bits k n) ≡ low_bits r n
unfolding low_bits
take_low k zero n few = refl
take_low zero (suc r) n few = absurd (omega arith)
take_low (suc k) (suc r) n few = ap (λ (bits : List Bool). is_odd n ∷ bits) (take_low k r (n / 2) (omega arith))

pub zeros_low : (k : ℕ) → low_bits k 0 ≡ replicate k false
unfolding low_bits is_odd
zeros_low zero = refl
zeros_low (suc k) = ap (λ (bits : List Bool). false ∷ bits) (zeros_low k)

-- zeros up to a whole byte
pub padded_by : (bits out : List Bool) (k : ℕ) → k ≡ (8 - length bits % 8) % 8 → out ≡ bits ++ low_bits k 0 → out ≡ padded bits
padded_by bits out k many is =
    let same : k ≡ 8 * bytes_for (length bits) - length bits = omega arith in
    is ∙ ap (λ (zeros : List Bool). bits ++ zeros) (zeros_low k ∙ ap (λ (n : ℕ). replicate n false) same)

pub length-padded : (bits : List Bool) → length (padded bits) ≡ 8 * bytes_for (length bits)
length-padded bits = simp (length-append, length-replicate) (omega arith)

-- a byte more is eight bits more
pub filled_more : (out : List ℕ) (bits : List Bool) (i byte : ℕ) → i < length out → low_bits 8 byte ≡ take 8 (drop (8 * i) bits) → bits_of (take i out) ≡ take (8 * i) bits
    → bits_of (take (i + 1) (set out i byte)) ≡ take (8 * (i + 1)) bits
filled_more out bits i byte within is before =
    let place : 8 * (i + 1) ≡ 8 * i + 8 = omega arith in
    let one : bits_of (byte ∷ []) ≡ low_bits 8 byte = unfold bits_of in append-nil (low_bits 8 byte) in
    ap bits_of (take_more_set out i byte within) ∙ bits_of-append (take i out) (byte ∷ []) ∙ ap (λ (more : List Bool). bits_of (take i out) ++ more) (one ∙ is)
    ∙ ap (λ (first : List Bool). first ++ take 8 (drop (8 * i) bits)) before ∙ sym (take-add (8 * i) 8 bits) ∙ ap (λ (n : ℕ). take n bits) (sym place)

pub filled_all : (out : List ℕ) (bits : List Bool) (i : ℕ) → length out ≤ i → length bits ≡ 8 * length out → bits_of (take i out) ≡ take (8 * i) bits → bits_of out ≡ bits
filled_all out bits i past same before = ap bits_of (sym (take_all i out past)) ∙ before ∙ take_all (8 * i) bits (omega arith)

-- the bits of the first bytes
pub whole_bits : (bytes : List ℕ) (whole : ℕ) → whole ≤ length bytes → take (8 * whole) (bits_of bytes) ≡ bits_of (take whole bytes)
whole_bits bytes whole within =
    let parts : bits_of bytes ≡ bits_of (take whole bytes) ++ bits_of (drop whole bytes) = ap bits_of (sym (take-append-drop whole bytes)) ∙ bits_of-append (take whole bytes) (drop whole bytes) in
    let long : length (bits_of (take whole bytes)) ≡ 8 * whole = length-bits_of (take whole bytes) ∙ ap (λ (n : ℕ). 8 * n) (length-take-le whole bytes within) in
    ap (λ (bits : List Bool). take (8 * whole) bits) parts ∙ take-append-le (8 * whole) (bits_of (take whole bytes)) (bits_of (drop whole bytes)) (omega arith)
    ∙ take_all (8 * whole) (bits_of (take whole bytes)) (omega arith)

-- and some bits of the next one
pub ragged_bits : (bytes : List ℕ) (whole rest : ℕ) → whole < length bytes → rest ≤ 8 → take (8 * whole + rest) (bits_of bytes) ≡ bits_of (take whole bytes) ++ low_bits rest (get_or bytes whole 0)
ragged_bits bytes whole rest within few =
    let parts : bits_of bytes ≡ bits_of (take whole bytes) ++ bits_of (drop whole bytes) = ap bits_of (sym (take-append-drop whole bytes)) ∙ bits_of-append (take whole bytes) (drop whole bytes) in
    let long : length (bits_of (take whole bytes)) ≡ 8 * whole = length-bits_of (take whole bytes) ∙ ap (λ (n : ℕ). 8 * n) (length-take-le whole bytes (omega arith)) in
    let next : take rest (bits_of (drop whole bytes)) ≡ low_bits rest (get_or bytes whole 0) =
    ap (λ (bits : List Bool). take rest bits) (bits_of-next bytes whole within)
    ∙ take-append-le rest (low_bits 8 (get_or bytes whole 0)) (bits_of (drop (whole + 1) bytes)) (omega (arith, length-low_bits 8 (get_or bytes whole 0)))
    ∙ take_low 8 rest (get_or bytes whole 0) few in
    ap (λ (bits : List Bool). take (8 * whole + rest) bits) parts
    ∙ ap (λ (n : ℕ). take (n + rest) (bits_of (take whole bytes) ++ bits_of (drop whole bytes))) (sym long)
    ∙ take-append-add (bits_of (take whole bytes)) (bits_of (drop whole bytes)) rest
    ∙ ap (λ (more : List Bool). bits_of (take whole bytes) ++ more) next

-- what a reader was fed: whole bytes, and the bits of a last one
pub fed_rest : (bytes : List ℕ) (before : List Bool) (count : ℕ) → count ≤ 8 * length bytes → 0 < count % 8
    → (before ++ bits_of (take (count / 8) bytes)) ++ low_bits (count % 8) (get_or bytes (count / 8) 0) ≡ before ++ take count (bits_of bytes)
fed_rest bytes before count within some =
    let all : 8 * (count / 8) + count % 8 ≡ count = omega arith in
    append_assoc before (bits_of (take (count / 8) bytes)) (low_bits (count % 8) (get_or bytes (count / 8) 0))
    ∙ ap (λ (more : List Bool). before ++ more) (sym (ragged_bits bytes (count / 8) (count % 8) (omega arith) (omega arith)) ∙ ap (λ (n : ℕ). take n (bits_of bytes)) all)

pub fed_whole : (bytes : List ℕ) (before : List Bool) (count : ℕ) → count ≤ 8 * length bytes → count % 8 ≡ 0
    → before ++ bits_of (take (count / 8) bytes) ≡ before ++ take count (bits_of bytes)
fed_whole bytes before count within none =
    let all : 8 * (count / 8) ≡ count = omega arith in
    ap (λ (more : List Bool). before ++ more) (sym (whole_bits bytes (count / 8) (omega arith)) ∙ ap (λ (n : ℕ). take n (bits_of bytes)) all)

-- a frame at the front of a room
pub frame_there : (out rest : List ℕ) (frame : List Bool) → bits_of out ≡ padded frame → take (length frame) (bits_of (out ++ rest)) ≡ frame
frame_there out rest frame is =
    ap (λ (bits : List Bool). take (length frame) bits) (bits_of-append out rest ∙ ap (λ (bits : List Bool). bits ++ bits_of rest) is ∙ append_assoc frame (replicate (8 * bytes_for (length frame) - length frame) false) (bits_of rest))
    ∙ take-append_seam frame (replicate (8 * bytes_for (length frame) - length frame) false ++ bits_of rest)
