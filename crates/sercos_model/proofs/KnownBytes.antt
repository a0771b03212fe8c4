-- Lemmas on the bytes that a source has left and a sink holds, beside those of the standard library
-- (`Rattle.std.proofs.KnownBytes`), and on counts of faults.
use Rattle.std.proofs.Common.{◌≡◌, ℕ, ◌+◌, ◌-◌, ◌<◌, ◌≤◌, List, [], ◌++◌, length, take, drop, Option, None, Some, refl, sym, ap, ◌∙◌, subst, inl, inr, arith, append-nil}
use Rattle.std.proofs.Math.Seq.{take-add, take-append-add}
use Rattle.std.proofs.lemmas.List.{take_rest, take-append-le}
use Rattle.std.proofs.KnownBytes.{Appends-trans}
use Rattle.std.specs.Io.KnownBytes.{Keeps, Appends, Consumes, IsAtEnd}
use Rattle.sercos_model.specs.Streams.{last_count, Rose}

-- what stayed as it was before a read
pub Keeps-Consumes : (a b c : Option (List ℕ)) (bytes : List ℕ) → Keeps a b → Consumes b c bytes → Consumes a c bytes
Keeps-Consumes None b c bytes p q = tt
Keeps-Consumes (Some x) None c bytes p q = absurd p
Keeps-Consumes (Some x) (Some y) None bytes p q = absurd q
Keeps-Consumes (Some x) (Some y) (Some z) bytes p q = sym p ∙ q

-- what stayed as it was before a write
pub Keeps-Appends : (a b c : Option (List ℕ)) (bytes : List ℕ) → Keeps a b → Appends b c bytes → Appends a c bytes
Keeps-Appends None b c bytes p q = tt
Keeps-Appends (Some x) None c bytes p q = absurd p
Keeps-Appends (Some x) (Some y) None bytes p q = absurd q
Keeps-Appends (Some x) (Some y) (Some z) bytes p q = q ∙ ap (λ l. l ++ bytes) p

-- a write of the next bytes of a text, after a write of those before them
pub Appends-next : (a b c : Option (List ℕ)) (text : List ℕ) (place count : ℕ) → Appends a b (take place text)
    → Appends b c (take count (take (length text - place) (drop place text))) → Appends a c (take (place + count) text)
Appends-next a b c text place count p q =
    let joined : take (place + count) text ≡ take place text ++ take count (take (length text - place) (drop place text)) =
    take-add place count text ∙ ap (λ l. take place text ++ take count l) (sym (take_rest text place)) in
    subst (Appends a c) (sym joined) (Appends-trans a b c _ _ p q)

-- a source that tells its bytes and is read to its end gave all of them
pub Consumes-to_end : (all bytes : List ℕ) (new : Option (List ℕ)) → Consumes (Some all) new bytes → IsAtEnd new → bytes ≡ all
Consumes-to_end all bytes None p q = absurd p
Consumes-to_end all bytes (Some rest) p q = sym (p ∙ ap (λ l. bytes ++ l) q ∙ append-nil bytes)

-- a write that took nothing
pub Appends-none : (a b : Option (List ℕ)) → Appends a b [] → Keeps a b
Appends-none None b p = tt
Appends-none (Some x) None p = absurd p
Appends-none (Some x) (Some y) p = p ∙ append-nil x

-- a read that took nothing
pub Consumes-none : (a b : Option (List ℕ)) → Consumes a b [] → Keeps a b
Consumes-none None b p = tt
Consumes-none (Some x) None p = absurd p
Consumes-none (Some x) (Some y) p = sym p

-- a text, and then a prefix of the text behind it, is a prefix of both together
pub Appends-prefix : (a b c : Option (List ℕ)) (front rest : List ℕ) (count : ℕ) → Appends a b front → Appends b c (take count rest)
    → Appends a c (take (length front + count) (front ++ rest))
Appends-prefix a b c front rest count p q =
    subst (Appends a c) (sym (take-append-add front rest count)) (Appends-trans a b c _ _ p q)

-- a prefix of a text is a prefix of that text with more behind it
pub Appends-front : (a b : Option (List ℕ)) (front rest : List ℕ) (count : ℕ) → count ≤ length front → Appends a b (take count front)
    → Appends a b (take count (front ++ rest))
Appends-front a b front rest count within p = subst (Appends a b) (sym (take-append-le count front rest within)) p

-- a source that tells its bytes and was read goes on to tell them
pub Consumes-told : (all bytes : List ℕ) (new : Option (List ℕ)) → Consumes (Some all) new bytes → (rest : List ℕ) × (new ≡ Some rest) × (all ≡ bytes ++ rest)
Consumes-told all bytes None p = absurd p
Consumes-told all bytes (Some rest) p = (rest, refl, p)

-- a sink that tells its bytes and was written to goes on to tell them
pub Appends-told : (all bytes : List ℕ) (new : Option (List ℕ)) → Appends (Some all) new bytes → new ≡ Some (all ++ bytes)
Appends-told all bytes None p = absurd p
Appends-told all bytes (Some more) p = ap (λ l. Some l) p

-- a count below its last value that stayed as it was did not rise
pub no_rise : (count : ℕ) → count < last_count → Rose count count → ⊥
no_rise count below rose = elim rose [ inl more ↦ omega arith | inr last ↦ omega arith ]
