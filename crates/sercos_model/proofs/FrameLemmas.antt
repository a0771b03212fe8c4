-- The bits between the flags of a frame: a content and its check sequence, and back.
use Rattle.std.proofs.Common.{◌≡◌, ℕ, zero, suc, ◌+◌, ◌-◌, ◌*◌, ◌^◌, ◌<◌, Bool, true, false, not, List, [], ◌∷◌, ◌++◌, length, take, drop, map, refl, ap, subst, ◌∙◌, arith}
use Rattle.std.proofs.lemmas.List.{take_at, drop_at, length-append, length-map}
use Rattle.sercos_model.specs.Bits.{low_bits, number_of, bits_of, bytes_of, AreBytes}
use Rattle.sercos_model.specs.CheckSequence.{added, generator, sixteen_zeros, sixteen_ones, divided, remainder, dividend, fcs_of}
use Rattle.sercos_model.specs.Frames.{plain_of}
use Rattle.sercos_model.proofs.BitLemmas.{bytes_of-bits_of, length-low_bits, length-bits_of, number_of-low_bits, number_of-below}

pub length-added : (xs ys : List Bool) → length (added xs ys) ≡ length ys
unfolding added
length-added [] ys = refl
length-added (x ∷ xs) [] = refl
length-added (x ∷ xs) (y ∷ ys) = ap suc (length-added xs ys)

-- sixteen coefficients are left of a division in as many steps as there are coefficients in front of them
length-divided : (steps : ℕ) (p : List Bool) → length p ≡ steps + 16 → length (divided steps p) ≡ 16
unfolding divided
length-divided zero p h = omega arith
length-divided (suc steps) [] h = absurd (omega arith)
length-divided (suc steps) (false ∷ p) h = length-divided steps p (omega arith)
length-divided (suc steps) (true ∷ p) h = length-divided steps (added generator p) (omega (arith, length-added generator p))

length-dividend : (bytes : List ℕ) → length (dividend bytes) ≡ length (bits_of bytes) + 16
length-dividend bytes =
    let whole = length-append (bits_of bytes) sixteen_zeros in
    omega (arith, length-added sixteen_ones (bits_of bytes ++ sixteen_zeros))

pub fcs_of-below : (bytes : List ℕ) → fcs_of bytes < 2 ^ 16
unfolding fcs_of
fcs_of-below bytes =
    let sixteen : length (map not (remainder (dividend bytes))) ≡ 16 = length-map (remainder (dividend bytes)) not ∙ length-divided (length (dividend bytes) - 16) (dividend bytes) (omega (arith, length-dividend bytes)) in
    subst (λ n. fcs_of bytes < 2 ^ n) sixteen (number_of-below (map not (remainder (dividend bytes))))

pub length-plain_of : (content : List ℕ) → length (plain_of content) ≡ 8 * length content + 16
length-plain_of content =
    omega (arith, length-append (bits_of content) (low_bits 16 (fcs_of content)), length-bits_of content, length-low_bits 16 (fcs_of content))

-- the content's bits stand in front of the last sixteen
plain_of-front : (content : List ℕ) → length (bits_of content) ≡ length (plain_of content) - 16
plain_of-front content = omega (arith, length-plain_of content, length-bits_of content)

pub content-plain_of : (content : List ℕ) → AreBytes content → bytes_of (take (length (plain_of content) - 16) (plain_of content)) ≡ content
content-plain_of content bytes =
    ap bytes_of (take_at (bits_of content) (low_bits 16 (fcs_of content)) (length (plain_of content) - 16) (plain_of-front content)) ∙ bytes_of-bits_of content bytes

pub check-plain_of : (content : List ℕ) → number_of (drop (length (plain_of content) - 16) (plain_of content)) ≡ fcs_of content
check-plain_of content =
    ap number_of (drop_at (bits_of content) (low_bits 16 (fcs_of content)) (length (plain_of content) - 16) (plain_of-front content)) ∙ number_of-low_bits 16 (fcs_of content) (fcs_of-below content)
