-- Bits that do not fill their last byte: zeros follow them exactly if the last byte is small.
use Rattle.std.proofs.Common.{◌≡◌, ℕ, zero, suc, ◌+◌, ◌-◌, ◌*◌, ◌/◌, ◌^◌, ◌<◌, ◌≤◌, Bool, false, List, [], ◌∷◌, ◌++◌, length, replicate, take, drop, get_or, refl, sym, ap, ◌∙◌, arith, append_assoc, append-nil, length-append, length-drop}
use Rattle.std.proofs.Math.Nat.{pow-suc}
use Rattle.std.proofs.lemmas.List.{length-take-le, take-append-drop, drop_at, drop-append-le}
use Rattle.sercos_model.specs.Bits.{is_odd, low_bits, number_of, bits_of}
use Rattle.sercos_model.proofs.BitLemmas.{length-low_bits, unit_of, number_of-cons, number_of-below, number_of-low_bits, bits_of-append, length-bits_of, bits_of-next, bits_of-none}

low_bits-zero : (k : ℕ) → low_bits k 0 ≡ replicate k false
unfolding low_bits is_odd
low_bits-zero zero = refl
low_bits-zero (suc k) = ap (λ bits. false ∷ bits) (low_bits-zero k)

-- the bits of a number below 2 ^ used are zeros from the used ones on
low_bits-small : (used spare n : ℕ) → n < 2 ^ used → low_bits (used + spare) n ≡ low_bits used n ++ replicate spare false
unfolding low_bits
low_bits-small zero spare n below =
    let none : n ≡ 0 = omega arith in
    let all : 0 + spare ≡ spare = omega arith in
    rw (none, all) (low_bits-zero spare)
low_bits-small (suc used) spare n below =
    let more : suc used + spare ≡ suc (used + spare) = omega arith in
    rw more (ap (λ bits. is_odd n ∷ bits) (low_bits-small used spare (n / 2) (omega (arith, pow-suc 2 used))))

number_of-replicate : (k : ℕ) → number_of (replicate k false) ≡ 0
unfolding number_of
number_of-replicate zero = refl
number_of-replicate (suc k) = omega (arith, number_of-replicate k)

number_of-zeros_behind : (bits : List Bool) (k : ℕ) → number_of (bits ++ replicate k false) ≡ number_of bits
number_of-zeros_behind [] k = unfold number_of in number_of-replicate k
number_of-zeros_behind (bit ∷ bits) k =
    number_of-cons bit (bits ++ replicate k false) ∙ ap (λ rest. unit_of bit + 2 * rest) (number_of-zeros_behind bits k) ∙ sym (number_of-cons bit bits)

-- the bits of bytes, those of the last byte apart
bits_of-last : (bytes : List ℕ) (before : ℕ) → length bytes ≡ before + 1 → bits_of bytes ≡ bits_of (take before bytes) ++ low_bits 8 (get_or bytes before 0)
bits_of-last bytes before last =
    let next = bits_of-next bytes before (omega arith) in
    let none = bits_of-none bytes (before + 1) (omega arith) in
    ap bits_of (sym (take-append-drop before bytes)) ∙ bits_of-append (take before bytes) (drop before bytes)
    ∙ ap (λ rest. bits_of (take before bytes) ++ rest) (next ∙ rw none (append-nil (low_bits 8 (get_or bytes before 0))))

length-before : (bytes : List ℕ) (before : ℕ) → length bytes ≡ before + 1 → length (bits_of (take before bytes)) ≡ 8 * before
length-before bytes before last = omega (arith, length-bits_of (take before bytes), length-take-le before bytes (omega arith))

-- after the bits that a small last byte uses there are zeros
pub spare_zeros : (bytes : List ℕ) (before used spare : ℕ) → length bytes ≡ before + 1 → used + spare ≡ 8 → get_or bytes before 0 < 2 ^ used
    → bits_of bytes ≡ take (8 * before + used) (bits_of bytes) ++ replicate spare false
spare_zeros bytes before used spare last eight below =
    let byte : ℕ = get_or bytes before 0 in
    let front : List Bool = bits_of (take before bytes) in
    let zeros : low_bits 8 byte ≡ low_bits used byte ++ replicate spare false = rw (← eight) (low_bits-small used spare byte below) in
    let whole : bits_of bytes ≡ (front ++ low_bits used byte) ++ replicate spare false =
    bits_of-last bytes before last ∙ ap (λ rest. front ++ rest) zeros ∙ sym (append_assoc front (low_bits used byte) (replicate spare false)) in
    let long : length (front ++ low_bits used byte) ≡ 8 * before + used = omega (arith, length-append front (low_bits used byte), length-before bytes before last, length-low_bits used byte) in
    let behind : drop (8 * before + used) (bits_of bytes) ≡ replicate spare false =
    ap (drop (8 * before + used)) whole ∙ drop_at (front ++ low_bits used byte) (replicate spare false) (8 * before + used) long in
    sym (take-append-drop (8 * before + used) (bits_of bytes)) ∙ ap (λ rest. take (8 * before + used) (bits_of bytes) ++ rest) behind

-- zeros after the bits keep the last byte small
pub last_below : (bytes : List ℕ) (bits : List Bool) (before spare : ℕ) → length bytes ≡ before + 1 → get_or bytes before 0 < 256 → 8 * before ≤ length bits
    → bits_of bytes ≡ bits ++ replicate spare false → get_or bytes before 0 < 2 ^ (length bits - 8 * before)
last_below bytes bits before spare last byte_fits inside filled =
    let byte : ℕ = get_or bytes before 0 in
    let behind : low_bits 8 byte ≡ drop (8 * before) bits ++ replicate spare false =
    sym (drop_at (bits_of (take before bytes)) (low_bits 8 byte) (8 * before) (length-before bytes before last))
    ∙ ap (drop (8 * before)) (sym (bits_of-last bytes before last) ∙ filled)
    ∙ drop-append-le (8 * before) bits (replicate spare false) inside in
    let value : byte ≡ number_of (drop (8 * before) bits) =
    sym (number_of-low_bits 8 byte byte_fits) ∙ ap number_of behind ∙ number_of-zeros_behind (drop (8 * before) bits) spare in
    rw (value, ← length-drop (8 * before) bits) (number_of-below (drop (8 * before) bits))
