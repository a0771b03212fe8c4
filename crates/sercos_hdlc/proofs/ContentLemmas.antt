-- The bytes between two flags: a content and its check sequence.
use Rattle.std.proofs.Common.{◌≡◌, ℕ, ◌+◌, ◌-◌, ◌*◌, ◌/◌, ◌%◌, ◌^◌, ◌<◌, ◌≤◌, Bool, false, List, [], ◌∷◌, ◌++◌, ◌⊎◌, inl, inr, length, take, drop, get_or, sym, ap, ◌∙◌, arith, length-append}
use Rattle.std.proofs.lemmas.List.{append-nil, take_at, drop_at, take-append-drop, drop_more, drop_all, length-take-le}
use Rattle.sercos_model.specs.Bits.{low_bits, number_of, bits_of, bytes_of, AreBytes}
use Rattle.sercos_model.proofs.BitLemmas.{bits_of-append, length-bits_of, length-low_bits, number_of-low_bits, bytes_of-bits_of, AreBytes-take, AreBytes-get_or}
use Rattle.sercos_bits.proofs.TableLemmas.{low_bits-halves}
use Rattle.sercos_hdlc.specs.Reason.{content_of, found_in, plain, check_differs, unreadable, after, reason_of}
use Rattle.std.specs.Option.{option_or}
use Rattle.sercos_model.specs.CheckSequence.{fcs_of}
use Rattle.sercos_hdlc.specs.Sought.{ones_then}
use Rattle.sercos_hdlc.specs.Enclosed.{IsEnclosed}
use Rattle.sercos_hdlc.specs.Held.{IsKept}
use Rattle.sercos_hdlc.specs.declared.kept.Kept.{Kept}
use Rattle.sercos_hdlc.proofs.FramingLemmas.{low_bits_low_byte}

-- the bits of two bytes, the low one first
two_bytes : (a b : ℕ) → a < 256 → b < 256 → number_of (bits_of (a ∷ b ∷ [])) ≡ a + 256 * b
unfolding bits_of
two_bytes a b low high =
    let n : ℕ = a + 256 * b in
    let upper : n / 256 ≡ b = omega arith in
    let lower : n % 256 ≡ a = omega arith in
    let halves : low_bits 16 n ≡ low_bits 8 a ++ low_bits 8 b = low_bits-halves n ∙ ap (λ k. low_bits 8 n ++ low_bits 8 k) upper ∙ ap (λ x. x ++ low_bits 8 b) (sym (low_bits_low_byte n) ∙ ap (low_bits 8) lower) in
    let below : n < 2 ^ 16 = omega arith in
    ap (λ x. number_of (low_bits 8 a ++ x)) (append-nil (low_bits 8 b)) ∙ ap number_of (sym halves) ∙ number_of-low_bits 16 n below

-- the last two bytes
last_two : (bytes : List ℕ) (split : ℕ) → length bytes ≡ split + 2 → drop split bytes ≡ get_or bytes split 0 ∷ get_or bytes (split + 1) 0 ∷ []
last_two bytes split long =
    drop_more bytes split 0 (omega arith) ∙ ap (λ x. get_or bytes split 0 ∷ x) (drop_more bytes (split + 1) 0 (omega arith) ∙ ap (λ x. get_or bytes (split + 1) 0 ∷ x) (drop_all (split + 1 + 1) bytes (omega arith)))

parted : (bytes : List ℕ) (split : ℕ) → bits_of bytes ≡ bits_of (take split bytes) ++ bits_of (drop split bytes)
parted bytes split = ap bits_of (sym (take-append-drop split bytes)) ∙ bits_of-append (take split bytes) (drop split bytes)

front_length : (bytes : List ℕ) (split : ℕ) → length bytes ≡ split + 2 → length (bits_of (take split bytes)) ≡ length (bits_of bytes) - 16
front_length bytes split long =
    omega (arith, length-bits_of (take split bytes), length-bits_of bytes, length-take-le split bytes (let e : split ≤ length bytes = omega arith in e))

pub found_in_bytes : (bytes : List ℕ) (split : ℕ) → AreBytes bytes → length bytes ≡ split + 2 → get_or bytes split 0 + 256 * get_or bytes (split + 1) 0 ≡ found_in (bits_of bytes)
found_in_bytes bytes split are long =
    sym (two_bytes (get_or bytes split 0) (get_or bytes (split + 1) 0) (AreBytes-get_or bytes split are) (AreBytes-get_or bytes (split + 1) are))
    ∙ ap (λ b. number_of (bits_of b)) (sym (last_two bytes split long))
    ∙ ap number_of (sym (ap (drop (length (bits_of bytes) - 16)) (parted bytes split) ∙ drop_at (bits_of (take split bytes)) (bits_of (drop split bytes)) (length (bits_of bytes) - 16) (front_length bytes split long)))

pub content_of_bytes : (bytes : List ℕ) (split : ℕ) → AreBytes bytes → length bytes ≡ split + 2 → content_of (bits_of bytes) ≡ take split bytes
content_of_bytes bytes split are long =
    ap bytes_of (ap (take (length (bits_of bytes) - 16)) (parted bytes split) ∙ take_at (bits_of (take split bytes)) (bits_of (drop split bytes)) (length (bits_of bytes) - 16) (front_length bytes split long))
    ∙ bytes_of-bits_of (take split bytes) (AreBytes-take split bytes are)

-- whole bytes before a closing flag are all that a reader holds, but for six bits
pub bytes_before : (bits given : List Bool) (kept : Kept) (closing len : ℕ) → IsEnclosed bits given closing len → IsKept given kept → len % 8 ≡ 0 → len ≤ 16400 → plain bits ≡ bits_of kept.bytes
bytes_before bits given kept closing len e (k) whole high = held k.all
  where
    six : length given ≡ len + 6
    six = omega (arith, e.all, ap length e.whole, length-append (plain bits) (false ∷ ones_then 5 []))

    held : (given ≡ bits_of kept.bytes ++ low_bits kept.rest_len kept.rest) ⊎ (16408 ≤ length given) → plain bits ≡ bits_of kept.bytes
    held (inr many) = absurd (omega (arith, six))
    held (inl all) =
        let long = length-append (bits_of kept.bytes) (low_bits kept.rest_len kept.rest) in
        let count : length (bits_of kept.bytes) ≡ len = omega (arith, six, ap length all, long, length-bits_of kept.bytes, length-low_bits kept.rest_len kept.rest, kept.few) in
        sym (take_at (plain bits) (false ∷ ones_then 5 []) len (sym e.all)) ∙ ap (take len) (sym e.whole ∙ all) ∙ take_at (bits_of kept.bytes) (low_bits kept.rest_len kept.rest) len count

-- What is left to test where whole bytes, as many as a frame has, come between the flags.
pub record IsWhole (bits : List Bool) (bytes : List ℕ) : Type 0 where
  pub two : 2 ≤ length bytes
  pub plain_is : plain bits ≡ bits_of bytes
  pub left : reason_of bits ≡ option_or (check_differs (bits_of bytes)) (after bits)

pub whole_bytes : (bits given : List Bool) (kept : Kept) (closing len : ℕ) → IsEnclosed bits given closing len → IsKept given kept → len % 8 ≡ 0 → 24 ≤ len → len ≤ 16400 → ((plain_bits : List Bool) → len ≡ length plain_bits → unreadable plain_bits ≡ check_differs plain_bits) → IsWhole bits kept.bytes
whole_bytes bits given kept closing len e k whole low high check =
    let same : plain bits ≡ bits_of kept.bytes = bytes_before bits given kept closing len e k whole high in
    record {
      two = omega (arith, e.all, ap length same, length-bits_of kept.bytes);
      plain_is = same;
      left = e.left ∙ ap (λ r. option_or r (after bits)) (check (plain bits) e.all ∙ ap check_differs same);
    }

-- the content and the check sequence that is wanted, by what the code took
pub wanted_in : (bytes content : List ℕ) (split wanted : ℕ) → AreBytes bytes → length bytes ≡ split + 2 → content ≡ take split bytes → wanted ≡ fcs_of content → wanted ≡ fcs_of (content_of (bits_of bytes))
wanted_in bytes content split wanted are long is check =
    check ∙ ap fcs_of (is ∙ sym (content_of_bytes bytes split are long))
