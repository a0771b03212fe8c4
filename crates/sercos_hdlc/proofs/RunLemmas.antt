-- Runs of ones: where six stand in a row, and what a list begins and ends with.
use Rattle.std.proofs.Common.{◌≡◌, ℕ, zero, suc, ◌+◌, ◌<◌, ◌≤◌, Bool, true, false, List, [], ◌∷◌, length, take, refl, sym, ap, ◌∙◌, arith, ⊎_elim}
use Rattle.std.proofs.lemmas.Bool.{cases_Bool, cond-true, cond-false}
use Rattle.sercos_hdlc.specs.Reason.{begins_with_six, is_five, ends_in_five, six_place}
use Rattle.sercos_hdlc.specs.Sought.{ones_then}

pub ones_then-true : (k : ℕ) (bits : List Bool) → ones_then k (true ∷ bits) ≡ ones_then (suc k) bits
ones_then-true zero bits = refl
ones_then-true (suc k) bits = ap (λ x. true ∷ x) (ones_then-true k bits)

-- fewer than six ones before a zero hide nothing behind it
pub six_place-ones_then_false : (k : ℕ) (bits : List Bool) → k ≤ 5 → six_place (ones_then k (false ∷ bits)) ≡ k + 1 + six_place bits
unfolding six_place begins_with_six
six_place-ones_then_false zero bits h = omega arith
six_place-ones_then_false (suc zero) bits h = omega arith
six_place-ones_then_false (suc (suc zero)) bits h = omega arith
six_place-ones_then_false (suc (suc (suc zero))) bits h = omega arith
six_place-ones_then_false (suc (suc (suc (suc zero)))) bits h = omega arith
six_place-ones_then_false (suc (suc (suc (suc (suc zero))))) bits h = omega arith
six_place-ones_then_false (suc (suc (suc (suc (suc (suc k)))))) bits h = absurd (omega arith)

pub six_place-ones_then_end : (k : ℕ) → k ≤ 5 → six_place (ones_then k []) ≡ k
unfolding six_place begins_with_six
six_place-ones_then_end zero h = refl
six_place-ones_then_end (suc zero) h = refl
six_place-ones_then_end (suc (suc zero)) h = refl
six_place-ones_then_end (suc (suc (suc zero))) h = refl
six_place-ones_then_end (suc (suc (suc (suc zero)))) h = refl
six_place-ones_then_end (suc (suc (suc (suc (suc zero))))) h = refl
six_place-ones_then_end (suc (suc (suc (suc (suc (suc k)))))) h = absurd (omega arith)

pub six_place-six : (bits : List Bool) → six_place (ones_then 6 bits) ≡ 0
unfolding six_place begins_with_six
six_place-six bits = refl

pub ends_in_five-ones_then_false : (k : ℕ) (bits : List Bool) → k ≤ 5 → ends_in_five (ones_then k (false ∷ bits)) ≡ ends_in_five bits
unfolding ends_in_five is_five
ends_in_five-ones_then_false zero bits h = refl
ends_in_five-ones_then_false (suc zero) bits h = refl
ends_in_five-ones_then_false (suc (suc zero)) bits h = refl
ends_in_five-ones_then_false (suc (suc (suc zero))) bits h = refl
ends_in_five-ones_then_false (suc (suc (suc (suc zero)))) bits h = refl
ends_in_five-ones_then_false (suc (suc (suc (suc (suc zero))))) bits h = refl
ends_in_five-ones_then_false (suc (suc (suc (suc (suc (suc k)))))) bits h = absurd (omega arith)

-- fewer than five ones are no end in five ones, and five are
pub ends_in_five-few : (k : ℕ) → k < 5 → ends_in_five (ones_then k []) ≡ false
unfolding ends_in_five is_five
ends_in_five-few zero h = refl
ends_in_five-few (suc zero) h = refl
ends_in_five-few (suc (suc zero)) h = refl
ends_in_five-few (suc (suc (suc zero))) h = refl
ends_in_five-few (suc (suc (suc (suc zero)))) h = refl
ends_in_five-few (suc (suc (suc (suc (suc k))))) h = absurd (omega arith)

pub ends_in_five-five : ends_in_five (ones_then 5 []) ≡ true
unfolding ends_in_five is_five
ends_in_five-five = refl

-- where six ones stand: at the front, or one place further back than in the rest
pub six_place-here : (bits : List Bool) → begins_with_six bits ≡ true → six_place bits ≡ 0
unfolding six_place
six_place-here [] h = refl
six_place-here (bit ∷ bits) h = cond-true _ 0 (suc (six_place bits)) h

pub six_place-next : (bit : Bool) (bits : List Bool) → begins_with_six (bit ∷ bits) ≡ false → six_place (bit ∷ bits) ≡ suc (six_place bits)
unfolding six_place
six_place-next bit bits h = cond-false _ 0 (suc (six_place bits)) h

pub six_place-none_before : (bits : List Bool) → 0 < length bits → six_place bits ≡ 0 → begins_with_six bits ≡ true
six_place-none_before [] some h = absurd (omega arith)
six_place-none_before (bit ∷ bits) some h =
    ⊎_elim (λ six. six) (λ none. absurd (omega (arith, six_place-next bit bits none))) (cases_Bool (begins_with_six (bit ∷ bits)))

pub six_place-le : (bits : List Bool) → six_place bits ≤ length bits
unfolding six_place
six_place-le [] = omega arith
six_place-le (bit ∷ bits) =
    let rest : six_place bits ≤ length bits = six_place-le bits in
    ⊎_elim (λ h. omega (arith, cond-true _ 0 (suc (six_place bits)) h)) (λ h. omega (arith, cond-false _ 0 (suc (six_place bits)) h)) (cases_Bool (begins_with_six (bit ∷ bits)))

-- the list begins with k ones
leads : ℕ → List Bool → Bool
leads zero bits = true
leads (suc k) (true ∷ bits) = leads k bits
leads (suc k) _ = false

six_lead : (bits : List Bool) → begins_with_six bits ≡ leads 6 bits
unfolding begins_with_six leads
six_lead (true ∷ true ∷ true ∷ true ∷ true ∷ true ∷ bits) = refl
six_lead _ = refl

leads-take : (k n : ℕ) (bits : List Bool) → leads k bits ≡ false → leads k (take n bits) ≡ false
unfolding leads
leads-take zero n bits h = cc
leads-take (suc k) zero bits h = refl
leads-take (suc k) (suc n) [] h = refl
leads-take (suc k) (suc n) (false ∷ bits) h = refl
leads-take (suc k) (suc n) (true ∷ bits) h = leads-take k n bits h

-- a list that is cut off before its first six ones has none
begins_with_six-take : (n : ℕ) (bits : List Bool) → begins_with_six bits ≡ false → begins_with_six (take n bits) ≡ false
begins_with_six-take n bits h = six_lead (take n bits) ∙ leads-take 6 n bits (sym (six_lead bits) ∙ h)

pub six_place-take : (n : ℕ) (bits : List Bool) → n ≤ six_place bits → six_place (take n bits) ≡ n
unfolding six_place
six_place-take zero bits h = refl
six_place-take (suc n) [] h = absurd (omega arith)
six_place-take (suc n) (bit ∷ bits) h =
    ⊎_elim
    (λ six. absurd (omega (arith, six_place-here (bit ∷ bits) six)))
    (λ none. six_place-next bit (take n bits) (begins_with_six-take (suc n) (bit ∷ bits) none) ∙ ap suc (six_place-take n bits (omega (arith, six_place-next bit bits none))))
    (cases_Bool (begins_with_six (bit ∷ bits)))
