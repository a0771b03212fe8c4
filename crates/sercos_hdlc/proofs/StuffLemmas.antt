-- Inserted zeros, and the runs of ones that they break.
use Rattle.std.proofs.Common.{◌≡◌, ◌≢◌, ℕ, suc, ◌+◌, ◌<◌, ◌≤◌, Bool, true, false, List, [], ◌∷◌, ◌++◌, length, refl, sym, ap, subst, ◌∙◌, arith, ⊎_elim}
use Rattle.std.proofs.lemmas.Bool.{cond-false, ne_eqb, cases_eq, true≢false}
use Rattle.sercos_model.specs.Frames.{flag, IsStuffed}
use Rattle.sercos_model.specs.Frames.IsStuffed.{both_end, zero_kept, one_kept, zero_inserted}
use Rattle.sercos_hdlc.specs.Reason.{begins_with_six, ends_in_five, six_place, unstuffed}
use Rattle.sercos_hdlc.specs.Sought.{ones_then}
use Rattle.sercos_hdlc.proofs.RunLemmas.{ones_then-true, six_place-ones_then_false, six_place-six, ends_in_five-ones_then_false, ends_in_five-few, ends_in_five-five}

-- a zero after k ones
unstuffed-kept : (k : ℕ) (bits : List Bool) → k ≢ 5 → unstuffed k (false ∷ bits) ≡ false ∷ unstuffed 0 bits
unfolding unstuffed
unstuffed-kept k bits h = cond-false _ (unstuffed 0 bits) (false ∷ unstuffed 0 bits) (ne_eqb k 5 h)

-- what was stuffed is found again
pub unstuffed-IsStuffed : {k : ℕ} {plain out : List Bool} → IsStuffed k plain out → unstuffed k out ≡ plain
unfolding unstuffed
unstuffed-IsStuffed (both_end below) = refl
unstuffed-IsStuffed {k = k} (zero_kept {plain = plain} {out = out} below rest) =
    let short : k ≢ 5 = omega arith in
    unstuffed-kept k out short ∙ ap (λ x. false ∷ x) (unstuffed-IsStuffed rest)
unstuffed-IsStuffed (one_kept below rest) = ap (λ x. true ∷ x) (unstuffed-IsStuffed rest)
unstuffed-IsStuffed (zero_inserted rest) = unstuffed-IsStuffed rest

-- the closing flag has the first six ones after a stuffed list, which doesn't end in five, whatever stands after it
pub six_place-IsStuffed : {k : ℕ} {plain out : List Bool} (more : List Bool) → IsStuffed k plain out → six_place (ones_then k (out ++ (flag ++ more))) ≡ k + length out + 1
unfolding six_place begins_with_six
six_place-IsStuffed {k = k} more (both_end below) =
    let few : k ≤ 5 = omega arith in
    omega (arith, six_place-ones_then_false k (true ∷ true ∷ true ∷ true ∷ true ∷ true ∷ false ∷ more) few)
six_place-IsStuffed {k = k} more (zero_kept {out = out} below rest) =
    let few : k ≤ 5 = omega arith in
    omega (arith, six_place-ones_then_false k (out ++ (flag ++ more)) few, six_place-IsStuffed more rest)
six_place-IsStuffed {k = k} more (one_kept {out = out} below rest) =
    omega (arith, ap six_place (ones_then-true k (out ++ (flag ++ more))), six_place-IsStuffed more rest)
six_place-IsStuffed more (zero_inserted {out = out} rest) =
    let few : 5 ≤ 5 = omega arith in
    omega (arith, six_place-ones_then_false 5 (out ++ (flag ++ more)) few, six_place-IsStuffed more rest)

pub ends_in_five-IsStuffed : {k : ℕ} {plain out : List Bool} → IsStuffed k plain out → ends_in_five (ones_then k out) ≡ false
ends_in_five-IsStuffed {k = k} (both_end below) = ends_in_five-few k below
ends_in_five-IsStuffed {k = k} (zero_kept {out = out} below rest) =
    ends_in_five-ones_then_false k out (omega arith) ∙ ends_in_five-IsStuffed rest
ends_in_five-IsStuffed {k = k} (one_kept {out = out} below rest) =
    ap ends_in_five (ones_then-true k out) ∙ ends_in_five-IsStuffed rest
ends_in_five-IsStuffed (zero_inserted {out = out} rest) =
    ends_in_five-ones_then_false 5 out (omega arith) ∙ ends_in_five-IsStuffed rest

-- a zero after at most five ones is inserted or sent
IsStuffed-zero : (k : ℕ) (bits : List Bool) → k ≤ 5 → IsStuffed 0 (unstuffed 0 bits) bits → IsStuffed k (unstuffed k (false ∷ bits)) (false ∷ bits)
unfolding unstuffed
IsStuffed-zero k bits few rest =
    ⊎_elim
    (λ five. subst (λ n. IsStuffed n (unstuffed n (false ∷ bits)) (false ∷ bits)) (sym five) (zero_inserted rest))
    (λ short. let below : k < 5 = omega arith in subst (λ plain. IsStuffed k plain (false ∷ bits)) (sym (unstuffed-kept k bits short)) (zero_kept below rest))
    (cases_eq k 5)

-- a list without six ones, which doesn't end in five, is stuffed
pub IsStuffed-unstuffed : (k : ℕ) (bits : List Bool) → k ≤ 5 → six_place (ones_then k bits) ≡ k + length bits → ends_in_five (ones_then k bits) ≡ false → IsStuffed k (unstuffed k bits) bits
unfolding unstuffed
IsStuffed-unstuffed k [] few none ends =
    ⊎_elim
    (λ five. absurd (true≢false (sym ends_in_five-five ∙ ap (λ n. ends_in_five (ones_then n [])) (sym five) ∙ ends)))
    (λ short. let below : k < 5 = omega arith in both_end below)
    (cases_eq k 5)
IsStuffed-unstuffed k (true ∷ bits) few none ends =
    let next = ones_then-true k bits in
    ⊎_elim
    (λ five. absurd (omega (arith, ap six_place next, ap (λ n. six_place (ones_then (suc n) bits)) five, six_place-six bits)))
    (λ short. let below : k < 5 = omega arith in one_kept below (IsStuffed-unstuffed (suc k) bits (omega arith) (omega (arith, ap six_place next)) (ap ends_in_five (sym next) ∙ ends)))
    (cases_eq k 5)
IsStuffed-unstuffed k (false ∷ bits) few none ends =
    let none_in_rest : six_place bits ≡ length bits = omega (arith, six_place-ones_then_false k bits few) in
    IsStuffed-zero k bits few (IsStuffed-unstuffed 0 bits (omega arith) (omega arith) (sym (ends_in_five-ones_then_false k bits few) ∙ ends))
