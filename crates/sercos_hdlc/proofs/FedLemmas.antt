-- Pieces that a reader takes.
use Rattle.std.proofs.Common.{◌≡◌, ℕ, zero, suc, ◌+◌, ◌*◌, ◌<◌, Bool, true, false, List, [], ◌∷◌, ◌++◌, length, take, drop, get_or, refl, sym, ap, subst, ◌∙◌, arith, append_assoc}
use mir.Val.{bool_byte}
use Rattle.std.proofs.lemmas.List.{append-nil, take_more}
use Rattle.sercos_model.specs.Bits.{is_odd, low_bits}
use Rattle.sercos_hdlc.specs.Fed.{IsFed}
use Rattle.sercos_hdlc.specs.declared.deframer.Deframer.{Deframer}

-- Some of these bits were taken since a reader was as at first, and the others are left.
pub record IsTaking (first now : Deframer) (all left : List Bool) : Type 0 where
  pub done : List Bool
  pub whole : done ++ left ≡ all
  pub fed : (bits : List Bool) → IsFed bits first → IsFed (bits ++ done) now

pub IsTaking-none : {first : Deframer} {all : List Bool} → IsTaking first first all all
IsTaking-none = record { done = []; whole = refl; fed = λ bits h. rw append-nil h }

pub IsTaking-next : {first now more : Deframer} {all left : List Bool} (others : List Bool) (bit : Bool) → IsTaking first now all left → left ≡ bit ∷ others → ((bits : List Bool) → IsFed bits now → IsFed (bits ++ bit ∷ []) more) → IsTaking first more all others
IsTaking-next others bit h is step = record {
  done = h.done ++ bit ∷ [];
  whole = append_assoc h.done (bit ∷ []) others ∙ ap (λ b. h.done ++ b) (sym is) ∙ h.whole;
  fed = λ bits fed. rw (← append_assoc bits h.done (bit ∷ [])) (step (bits ++ h.done) (h.fed bits fed));
}

pub IsTaking-end : {first now : Deframer} {all left : List Bool} → IsTaking first now all left → left ≡ [] → (bits : List Bool) → IsFed bits first → IsFed (bits ++ all) now
IsTaking-end {now = now} h is bits fed =
    subst (λ b. IsFed (bits ++ b) now) (sym (append-nil h.done) ∙ ap (λ b. h.done ++ b) (sym is) ∙ h.whole) (h.fed bits fed)

take-none : (m : ℕ) → ◌≡◌ {A = List Bool} [] (take m [])
take-none zero = refl
take-none (suc m) = refl

take-add : (n m : ℕ) (bits : List Bool) → take (n + m) bits ≡ take n bits ++ take m (drop n bits)
take-add zero m bits = let e : zero + m ≡ m = omega arith in rw e
take-add (suc n) m [] = let e : suc n + m ≡ suc (n + m) = omega arith in rw e (take-none m)
take-add (suc n) m (bit ∷ bits) = let e : suc n + m ≡ suc (n + m) = omega arith in rw e (ap (λ b. bit ∷ b) (take-add n m bits))

-- eight more bits of a piece
pub eight_more : (piece before : List Bool) (i : ℕ) (byte : ℕ) → low_bits 8 byte ≡ take 8 (drop (8 * i) piece) → before ++ take (8 * (i + 1)) piece ≡ (before ++ take (8 * i) piece) ++ low_bits 8 byte
eight_more piece before i byte is =
    let e : 8 * (i + 1) ≡ 8 * i + 8 = omega arith in
    rw (e, is) (ap (λ b. before ++ b) (take-add (8 * i) 8 piece) ∙ sym (append_assoc before (take (8 * i) piece) (take 8 (drop (8 * i) piece))))

-- one more bit of a piece
pub bit_more : (piece before : List Bool) (i : ℕ) (bit : Bool) → bit ≡ get_or piece i false → i < length piece → before ++ take (i + 1) piece ≡ (before ++ take i piece) ++ bit ∷ []
bit_more piece before i bit is inside =
    ap (λ b. before ++ b) (take_more piece i false inside ∙ ap (λ b. take i piece ++ b ∷ []) (sym is)) ∙ sym (append_assoc before (take i piece) (bit ∷ []))
