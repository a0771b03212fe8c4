-- What is sent for a byte, by the table, and the room that it takes.
use Rattle.std.proofs.Common.{◌≡◌, ℕ, zero, suc, ◌+◌, ◌*◌, ◌/◌, ◌%◌, ◌<◌, ◌≤◌, Bool, true, false, inl, inr, List, [], ◌∷◌, ◌++◌, length, map, get_or, refl, sym, ap, ◌∙◌, arith, length-append}
use Rattle.std.specs.Prelude.{fold}
use Rattle.std.specs.List.{range_with_len}
use Rattle.std.proofs.lemmas.List.{get_or-map}
use Rattle.std.proofs.lemmas.List.FromFn.{get_or-map-range_with_len}
use Rattle.std.proofs.lemmas.Bool.{cases_eq, ne_eqb}
use Rattle.sercos_model.specs.Bits.{is_odd, low_bits, number_of}
use Rattle.sercos_model.proofs.BitLemmas.{length-low_bits, low_bits-number_of}
use Rattle.sercos_hdlc.specs.Stuffed.{sent_for, ones_behind, stuffed}
use Rattle.sercos_hdlc.specs.declared.tables.TheConstants.{COUNTS, SENT, ENDS}

-- bits after `ones` ones in a row are sent as `len` bits, which end in `behind` ones
record IsCounted (ones : ℕ) (bits : List Bool) (len behind : ℕ) : Type 0 where
  few : behind < 5
  room : 5 * len + behind ≤ ones + 6 * length bits

bit_counted : (ones : ℕ) (bit : Bool) → ones < 5 → IsCounted ones (bit ∷ []) (length (sent_for ones bit)) (ones_behind ones bit)
bit_counted ones false below = record { few = omega arith; room = omega arith }
bit_counted ones true below =
    elim (cases_eq ones 4) [
      | inl four ↦ rw four (record { few = omega arith; room = omega arith })
      | inr other ↦ rw (ne_eqb ones 4 other) (record { few = omega arith; room = omega arith })
    ]

bits_counted : (ones : ℕ) (bits : List Bool) → ones < 5 → IsCounted ones bits (length (stuffed ones bits)) (fold ones_behind ones bits)
unfolding stuffed
bits_counted ones [] below = record { few = below; room = omega arith }
bits_counted ones (bit ∷ bits) below =
    let first = bit_counted ones bit below in
    let rest = bits_counted (ones_behind ones bit) bits first.few in
    record { few = rest.few; room = omega (arith, first.room, rest.room, length-append (sent_for ones bit) (stuffed (ones_behind ones bit) bits)) }

-- the tables have an entry for each number of ones in a row and each byte
abbrev stuffed_at : ℕ → List Bool
stuffed_at i = stuffed (i / 256) (low_bits 8 (i % 256))

abbrev counts_at : ℕ → ℕ × ℕ
counts_at i = (length (stuffed_at i), fold ones_behind (i / 256) (low_bits 8 (i % 256)))

abbrev parts : ℕ → ℕ × ℕ
parts entry = (entry / 16, entry % 16)

all_counts : map parts COUNTS ≡ map counts_at (range_with_len 0 1280)
unfolding stuffed low_bits is_odd
all_counts = refl

all_sent : SENT ≡ map (λ i. number_of (stuffed_at i)) (range_with_len 0 1280)
unfolding stuffed low_bits is_odd number_of
all_sent = refl

pub record IsEntry (entry ones byte : ℕ) : Type 0 where
  pub len : entry / 16 ≡ length (stuffed ones (low_bits 8 byte))
  pub behind : entry % 16 ≡ fold ones_behind ones (low_bits 8 byte)
  pub few : entry % 16 < 5
  pub room : 5 * (entry / 16) + entry % 16 ≤ ones + 48

pub counts_entry : (ones byte : ℕ) → ones < 5 → byte < 256 → IsEntry (get_or COUNTS (256 * ones + byte) 0) ones byte
counts_entry ones byte few below =
    let i : ℕ = 256 * ones + byte in
    let inside : i < 1280 = omega arith in
    let upper : i / 256 ≡ ones = omega arith in
    let lower : i % 256 ≡ byte = omega arith in
    let found = sym (get_or-map parts COUNTS i 0 (0, 0) inside) ∙ ap (λ xs. get_or xs i (0, 0)) all_counts ∙ get_or-map-range_with_len counts_at 0 1280 i i (0, 0) inside (omega arith) in
    let len : get_or COUNTS i 0 / 16 ≡ length (stuffed ones (low_bits 8 byte)) = rw (upper, lower) at (ap (λ p. p.0) found) in
    let behind : get_or COUNTS i 0 % 16 ≡ fold ones_behind ones (low_bits 8 byte) = rw (upper, lower) at (ap (λ p. p.1) found) in
    let counts = bits_counted ones (low_bits 8 byte) few in
    record { len = len; behind = behind; few = omega (arith, counts.few); room = omega (arith, counts.room, length-low_bits 8 byte) }

pub sent_entry : (ones byte : ℕ) → ones < 5 → byte < 256 → get_or SENT (256 * ones + byte) 0 ≡ number_of (stuffed ones (low_bits 8 byte))
sent_entry ones byte few below =
    let i : ℕ = 256 * ones + byte in
    let inside : i < 1280 = omega arith in
    let upper : i / 256 ≡ ones = omega arith in
    let lower : i % 256 ≡ byte = omega arith in
    ap (λ xs. get_or xs i 0) all_sent ∙ get_or-map-range_with_len (λ i. number_of (stuffed_at i)) 0 1280 i i 0 inside (omega arith) ∙ rw (upper, lower)

-- where a byte has a zero, how many ones end it doesn't depend on those before it
ends_after : (ones : ℕ) → ones < 5 → ENDS ≡ map (λ byte. fold ones_behind ones (low_bits 8 byte)) (range_with_len 0 255)
unfolding low_bits is_odd
ends_after zero few = refl
ends_after (suc zero) few = refl
ends_after (suc (suc zero)) few = refl
ends_after (suc (suc (suc zero))) few = refl
ends_after (suc (suc (suc (suc zero)))) few = refl
ends_after (suc (suc (suc (suc (suc ones))))) few = absurd (omega arith)

pub ends_entry : (ones byte : ℕ) → ones < 5 → byte < 255 → get_or ENDS byte 0 ≡ fold ones_behind ones (low_bits 8 byte)
ends_entry ones byte few below =
    ap (λ xs. get_or xs byte 0) (ends_after ones few) ∙ get_or-map-range_with_len (λ b. fold ones_behind ones (low_bits 8 b)) 0 255 byte byte 0 below (omega arith)

pub few_at_end : (byte : ℕ) → byte < 255 → get_or ENDS byte 0 < 5
few_at_end byte below = rw (ends_entry 0 byte (omega arith) below) (bits_counted 0 (low_bits 8 byte) (omega arith)).few

pub sent_by_entry : (out more bits : List Bool) (len number : ℕ) → more ≡ out ++ low_bits len number → number ≡ number_of bits → len ≡ length bits → more ≡ out ++ bits
sent_by_entry out more bits len number grown is long = rw (grown, is, long, low_bits-number_of)
