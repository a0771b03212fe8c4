-- What is sent for a content: a list with zeros inserted, the loops that make and count it, and the laws of frames.
use Rattle.std.proofs.Common.{◌≡◌, ℕ, zero, suc, ◌+◌, ◌*◌, ◌/◌, ◌%◌, ◌<◌, ◌≤◌, Bool, true, false, List, [], ◌∷◌, ◌++◌, length, drop, get_or, refl, sym, ap, ◌∙◌, arith, length-append, append_assoc}
use Rattle.std.specs.Prelude.{fold}
use Rattle.std.specs.Int.{w16, to_le_bytes}
use Rattle.std.proofs.lemmas.List.{append-nil}
use Rattle.std.proofs.lemmas.List.Sums.{fold-append}
use Rattle.sercos_model.specs.Bits.{is_odd, low_bits, bits_of, AreBytes}
use Rattle.sercos_model.specs.CheckSequence.{fcs_of}
use Rattle.sercos_model.specs.Frames.{flag, IsStuffed, IsFrame, plain_of, wire_bits}
use Rattle.sercos_model.specs.Frames.IsStuffed.{both_end, zero_kept, one_kept, zero_inserted}
use Rattle.sercos_model.proofs.BitLemmas.{bits_of-next, bits_of-none}
use Rattle.sercos_model.proofs.FrameLemmas.{length-plain_of}
use Rattle.sercos_bits.proofs.TableLemmas.{low_bits-halves}
use Rattle.sercos_hdlc.specs.Reason.{six_place, plain, content_of}
use Rattle.sercos_hdlc.specs.Stuffed.{sent_for, ones_behind, stuffed}
use Rattle.sercos_hdlc.proofs.StuffLemmas.{six_place-IsStuffed}
use Rattle.sercos_hdlc.proofs.ReasonLemmas.{reason_of-IsFrame}

-- a one after fewer than four, and the fifth one
IsStuffed-one_kept : (ones : ℕ) (bits : List Bool) → ones < 5 → (suc ones < 5 → IsStuffed (suc ones) bits (stuffed (suc ones) bits)) → IsStuffed 0 bits (stuffed 0 bits) → IsStuffed ones (true ∷ bits) (stuffed ones (true ∷ bits))
unfolding stuffed
IsStuffed-one_kept zero bits below more none = one_kept below (more (omega arith))
IsStuffed-one_kept (suc zero) bits below more none = one_kept below (more (omega arith))
IsStuffed-one_kept (suc (suc zero)) bits below more none = one_kept below (more (omega arith))
IsStuffed-one_kept (suc (suc (suc zero))) bits below more none = one_kept below (more (omega arith))
IsStuffed-one_kept (suc (suc (suc (suc zero)))) bits below more none = one_kept below (zero_inserted none)
IsStuffed-one_kept (suc (suc (suc (suc (suc ones))))) bits below more none = absurd (omega arith)

pub IsStuffed-stuffed : (ones : ℕ) (bits : List Bool) → ones < 5 → IsStuffed ones bits (stuffed ones bits)
unfolding stuffed
IsStuffed-stuffed ones [] below = both_end below
IsStuffed-stuffed ones (false ∷ bits) below = let none : 0 < 5 = omega arith in zero_kept below (IsStuffed-stuffed 0 bits none)
IsStuffed-stuffed ones (true ∷ bits) below =
    IsStuffed-one_kept ones bits below (λ more. IsStuffed-stuffed (suc ones) bits more) (IsStuffed-stuffed 0 bits (omega arith))

-- what is sent for plain bits is one list
same_stuffed : {ones : ℕ} {plain a b : List Bool} → IsStuffed ones plain a → IsStuffed ones plain b → a ≡ b
same_stuffed (both_end below) (both_end also) = refl
same_stuffed (zero_kept below a) (zero_kept also b) = ap (λ out. false ∷ out) (same_stuffed a b)
same_stuffed (one_kept below a) (one_kept also b) = ap (λ out. true ∷ out) (same_stuffed a b)
same_stuffed (zero_inserted a) (zero_inserted b) = ap (λ out. false ∷ out) (same_stuffed a b)
same_stuffed (both_end below) (zero_inserted b) = absurd (omega arith)
same_stuffed (zero_kept below a) (zero_inserted b) = absurd (omega arith)
same_stuffed (one_kept below a) (zero_inserted b) = absurd (omega arith)
same_stuffed (zero_inserted a) (both_end below) = absurd (omega arith)
same_stuffed (zero_inserted a) (zero_kept below b) = absurd (omega arith)
same_stuffed (zero_inserted a) (one_kept below b) = absurd (omega arith)

-- a zero is inserted for five bits at most
length-IsStuffed : {ones : ℕ} {plain out : List Bool} → IsStuffed ones plain out → 5 * length out ≤ 6 * length plain + ones
length-IsStuffed (both_end below) = omega arith
length-IsStuffed (zero_kept below rest) = omega (arith, length-IsStuffed rest)
length-IsStuffed (one_kept below rest) = omega (arith, length-IsStuffed rest)
length-IsStuffed (zero_inserted rest) = omega (arith, length-IsStuffed rest)

-- what is sent for a list and another one after it
pub stuffed-append : (ones : ℕ) (xs ys : List Bool) → stuffed ones (xs ++ ys) ≡ stuffed ones xs ++ stuffed (fold ones_behind ones xs) ys
unfolding stuffed
stuffed-append ones [] ys = refl
stuffed-append ones (x ∷ xs) ys =
    ap (λ out. sent_for ones x ++ out) (stuffed-append (ones_behind ones x) xs ys) ∙ sym (append_assoc (sent_for ones x) (stuffed (ones_behind ones x) xs) _)

-- a list between two flags is a frame where it is what is sent for a content
pub IsFrame-framed : (content : List ℕ) (out : List Bool) → AreBytes content → 0 < length content → length content ≤ 2048 → out ≡ flag ++ stuffed 0 (plain_of content) ++ flag → IsFrame content out
IsFrame-framed content out bytes some fits is = record {
  bytes = bytes;
  some = some;
  fits = fits;
  out = stuffed 0 (plain_of content);
  stuffed = IsStuffed-stuffed 0 (plain_of content) (omega arith);
  whole = is;
}

pub one_frame : (content : List ℕ) (a b : List Bool) → IsFrame content a → IsFrame content b → a ≡ b
one_frame content a b is also =
    is.whole ∙ ap (λ out. flag ++ out ++ flag) (same_stuffed is.stuffed also.stuffed) ∙ sym also.whole

pub length-IsFrame : (content : List ℕ) (bits : List Bool) → IsFrame content bits → length bits ≤ wire_bits (length content)
length-IsFrame content bits is =
    omega (arith, ap length is.whole, length-append is.out flag, length-IsStuffed is.stuffed, length-plain_of content)

no_bits : (bits : List Bool) → length bits ≡ 0 → bits ≡ []
no_bits [] none = refl
no_bits (bit ∷ bits) none = absurd (omega arith)

-- the closing flag has the first six ones after the opening flag, so a frame ends where any frame that it begins ends
pub no_longer_frame : (content other : List ℕ) (bits more : List Bool) → IsFrame content bits → IsFrame other (bits ++ more) → (more ≡ []) × (content ≡ other)
no_longer_frame content other bits more is also =
    let rest : is.out ++ (flag ++ more) ≡ also.out ++ flag = sym (append_assoc is.out flag more) ∙ ap (drop 8) (sym (ap (λ b. b ++ more) is.whole) ∙ also.whole) in
    let lengths = length-append is.out (flag ++ more) in
    let none : more ≡ [] = no_bits more (omega (arith, lengths, length-append also.out flag, ap length rest, ap six_place rest, six_place-IsStuffed more is.stuffed, six_place-IsStuffed [] also.stuffed)) in
    let same : bits ≡ bits ++ more = sym (append-nil bits) ∙ ap (λ b. bits ++ b) (sym none) in
    (none, sym (reason_of-IsFrame content bits is).1 ∙ ap (λ b. content_of (plain b)) same ∙ (reason_of-IsFrame other (bits ++ more) also).1)

-- One more bit or byte is sent: what is sent for it was appended or counted, and the rest is left.
pub sent_more : (out more now left all : List Bool) {whole : List Bool} → more ≡ out ++ now → whole ≡ now ++ left → out ++ whole ≡ all → more ++ left ≡ all
sent_more out more now left all grown is before = rw (grown, append_assoc, ← is) before

pub counted_more : (len more all : ℕ) (now left : List Bool) {whole : List Bool} → more ≡ len + length now → whole ≡ now ++ left → len + length whole ≡ all → more + length left ≡ all
counted_more len more all now left grown is before = omega (arith, ap length is, length-append now left)

-- the bytes that are left
pub stuffed_next_byte : (ones : ℕ) (bytes : List ℕ) (i : ℕ) → i < length bytes → stuffed ones (bits_of (drop i bytes)) ≡ stuffed ones (low_bits 8 (get_or bytes i 0)) ++ stuffed (fold ones_behind ones (low_bits 8 (get_or bytes i 0))) (bits_of (drop (i + 1) bytes))
stuffed_next_byte ones bytes i inside =
    ap (stuffed ones) (bits_of-next bytes i inside) ∙ stuffed-append ones (low_bits 8 (get_or bytes i 0)) (bits_of (drop (i + 1) bytes))

pub ones_next_byte : (ones : ℕ) (bytes : List ℕ) (i : ℕ) → i < length bytes → fold ones_behind ones (bits_of (drop i bytes)) ≡ fold ones_behind (fold ones_behind ones (low_bits 8 (get_or bytes i 0))) (bits_of (drop (i + 1) bytes))
ones_next_byte ones bytes i inside =
    ap (fold ones_behind ones) (bits_of-next bytes i inside) ∙ fold-append ones_behind ones (low_bits 8 (get_or bytes i 0)) (bits_of (drop (i + 1) bytes))

pub stuffed_no_byte : (ones : ℕ) (bytes : List ℕ) (i : ℕ) → length bytes ≤ i → stuffed ones (bits_of (drop i bytes)) ≡ []
unfolding stuffed
stuffed_no_byte ones bytes i past = ap (stuffed ones) (bits_of-none bytes i past)

pub ones_no_byte : (ones : ℕ) (bytes : List ℕ) (i : ℕ) → length bytes ≤ i → fold ones_behind ones (bits_of (drop i bytes)) ≡ ones
ones_no_byte ones bytes i past = ap (fold ones_behind ones) (bits_of-none bytes i past)

-- nothing is left
pub sent_all : (out all : List Bool) {whole : List Bool} → whole ≡ [] → out ++ whole ≡ all → out ≡ all
sent_all out all none before = rw (none, append-nil) at before

pub counted_all : (len all : ℕ) {whole : List Bool} → whole ≡ [] → len + length whole ≡ all → len ≡ all
counted_all len all none before = omega (arith, ap length none)

-- what is sent for the content is appended, and then what is sent for its check sequence
pub stuffed_then : (out more all : List Bool) (content : List ℕ) (ones : ℕ) → more ≡ out ++ stuffed 0 (bits_of content) → ones ≡ fold ones_behind 0 (bits_of content) → all ≡ more ++ stuffed ones (low_bits 16 (fcs_of content)) → all ≡ out ++ stuffed 0 (plain_of content)
stuffed_then out more all content ones first is second = rw (second, first, is, append_assoc, stuffed-append)

-- a number of two bytes, the low one first
pub low_bits_low_byte : (n : ℕ) → low_bits 8 (n % 256) ≡ low_bits 8 n
unfolding low_bits is_odd
low_bits_low_byte n =
    let a : n % 256 % 2 ≡ n % 2 = omega arith in
    let b : n % 256 / 2 % 2 ≡ n / 2 % 2 = omega arith in
    let c : n % 256 / 2 / 2 % 2 ≡ n / 2 / 2 % 2 = omega arith in
    let d : n % 256 / 2 / 2 / 2 % 2 ≡ n / 2 / 2 / 2 % 2 = omega arith in
    let e : n % 256 / 2 / 2 / 2 / 2 % 2 ≡ n / 2 / 2 / 2 / 2 % 2 = omega arith in
    let f : n % 256 / 2 / 2 / 2 / 2 / 2 % 2 ≡ n / 2 / 2 / 2 / 2 / 2 % 2 = omega arith in
    let g : n % 256 / 2 / 2 / 2 / 2 / 2 / 2 % 2 ≡ n / 2 / 2 / 2 / 2 / 2 / 2 % 2 = omega arith in
    let h : n % 256 / 2 / 2 / 2 / 2 / 2 / 2 / 2 % 2 ≡ n / 2 / 2 / 2 / 2 / 2 / 2 / 2 % 2 = omega arith in
    rw (a, b, c, d, e, f, g, h)

pub bits_of_two : (n : ℕ) → bits_of (to_le_bytes w16 n) ≡ low_bits 16 n
unfolding bits_of
bits_of_two n =
    rw (low_bits_low_byte n, low_bits_low_byte (n / 256), append-nil (low_bits 8 (n / 256))) (sym (low_bits-halves n))

-- the bits of a frame, counted flag by flag and byte by byte
pub length_framed : (content : List ℕ) → length (flag ++ stuffed 0 (plain_of content) ++ flag) ≡ 16 + length (stuffed 0 (bits_of content)) + length (stuffed (fold ones_behind 0 (bits_of content)) (low_bits 16 (fcs_of content)))
length_framed content =
    let parts = ap length (stuffed-append 0 (bits_of content) (low_bits 16 (fcs_of content))) in
    omega (arith, parts, length-append (stuffed 0 (plain_of content)) flag, length-append (stuffed 0 (bits_of content)) (stuffed (fold ones_behind 0 (bits_of content)) (low_bits 16 (fcs_of content))))
