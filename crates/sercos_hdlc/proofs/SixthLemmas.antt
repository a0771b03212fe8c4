-- The sixth one in a row, and lists of bits one after the other.
use Rattle.std.proofs.Common.{◌≡◌, ◌≢◌, ℕ, suc, ◌+◌, ◌<◌, ◌≤◌, ◌==◌, ◌||◌, Bool, true, false, cond, List, [], ◌∷◌, ◌++◌, inl, inr, length, take, refl, sym, ap, subst, ◌∙◌, arith}
use Rattle.std.proofs.lemmas.Bool.{cases_eq, eq-eqb, ne_eqb, eqb-false, or_parts, cond-true, cond-false}
use Rattle.sercos_hdlc.specs.Reason.{unstuffed}
use Rattle.sercos_hdlc.specs.Sought.{ones_after, has_six, sixth_at, dropped_after}

-- bits after others
pub ones_after-append : (k : ℕ) (a b : List Bool) → ones_after k (a ++ b) ≡ ones_after (ones_after k a) b
unfolding ones_after
ones_after-append k [] b = refl
ones_after-append k (true ∷ a) b = ones_after-append (suc k) a b
ones_after-append k (false ∷ a) b = ones_after-append 0 a b

pub has_six-append : (k : ℕ) (a b : List Bool) → has_six k a ≡ false → has_six k (a ++ b) ≡ has_six (ones_after k a) b
unfolding ones_after has_six
has_six-append k [] b none = refl
has_six-append k (true ∷ a) b none =
    let parts = or_parts (k == 5) (has_six (suc k) a) none in
    ap (λ v. v || has_six (suc k) (a ++ b)) parts.0 ∙ has_six-append (suc k) a b parts.1
has_six-append k (false ∷ a) b none = has_six-append 0 a b none

pub dropped_after-append : (k : ℕ) (dropped : Bool) (a b : List Bool) → dropped_after k dropped (a ++ b) ≡ dropped_after (ones_after k a) (dropped_after k dropped a) b
unfolding ones_after dropped_after
dropped_after-append k dropped [] b = refl
dropped_after-append k dropped (true ∷ a) b = dropped_after-append (suc k) dropped a b
dropped_after-append k dropped (false ∷ a) b = dropped_after-append 0 (k == 5) a b

zero_then : (five : Bool) (all front rest : List Bool) → all ≡ front ++ rest → cond five all (false ∷ all) ≡ cond five front (false ∷ front) ++ rest
zero_then true all front rest is = is
zero_then false all front rest is = ap (λ b. false ∷ b) is

pub unstuffed-append : (k : ℕ) (a b : List Bool) → unstuffed k (a ++ b) ≡ unstuffed k a ++ unstuffed (ones_after k a) b
unfolding ones_after unstuffed
unstuffed-append k [] b = refl
unstuffed-append k (true ∷ a) b = ap (λ x. true ∷ x) (unstuffed-append (suc k) a b)
unstuffed-append k (false ∷ a) b = zero_then (k == 5) (unstuffed 0 (a ++ b)) (unstuffed 0 a) (unstuffed (ones_after 0 a) b) (unstuffed-append 0 a b)

-- with no sixth one no more than five come last
pub ones_after-few : (k : ℕ) (bits : List Bool) → k ≤ 5 → has_six k bits ≡ false → ones_after k bits ≤ 5
unfolding ones_after has_six
ones_after-few k [] few none = few
ones_after-few k (true ∷ bits) few none =
    let parts = or_parts (k == 5) (has_six (suc k) bits) none in
    let other : k ≢ 5 = eqb-false k 5 parts.0 in
    ones_after-few (suc k) bits (omega arith) parts.1
ones_after-few k (false ∷ bits) few none = ones_after-few 0 bits (omega arith) none

-- where ones alone come, the last zero is what it was
ones_after-most : (k : ℕ) (bits : List Bool) → ones_after k bits ≤ k + length bits
unfolding ones_after
ones_after-most k [] = omega arith
ones_after-most k (true ∷ bits) = omega (arith, ones_after-most (suc k) bits)
ones_after-most k (false ∷ bits) = omega (arith, ones_after-most 0 bits)

pub dropped_after-ones : (k : ℕ) (dropped : Bool) (bits : List Bool) → ones_after k bits ≡ k + length bits → dropped_after k dropped bits ≡ dropped
unfolding ones_after dropped_after
dropped_after-ones k dropped [] all = refl
dropped_after-ones k dropped (true ∷ bits) all = dropped_after-ones (suc k) dropped bits (omega (arith, all))
dropped_after-ones k dropped (false ∷ bits) all = absurd (omega (arith, all, ones_after-most 0 bits))

-- The sixth one comes after the bits `before`.
pub record IsSixth (k : ℕ) (bits before : List Bool) : Type 0 where
  pub rest : List Bool
  pub whole : bits ≡ before ++ (true ∷ rest)
  pub none : has_six k before ≡ false
  pub five : k ≤ 5 → ones_after k before ≡ 5

pub sixth : (k : ℕ) (bits : List Bool) → has_six k bits ≡ true → IsSixth k bits (take (sixth_at k bits) bits)
unfolding ones_after has_six sixth_at
sixth k [] six = cc
sixth k (true ∷ bits) six =
    elim (cases_eq k 5) [
      | inl five ↦
          let here : sixth_at k (true ∷ bits) ≡ 0 = cond-true (k == 5) 0 (suc (sixth_at (suc k) bits)) (eq-eqb k 5 five) in
          subst (λ n. IsSixth k (true ∷ bits) (take n (true ∷ bits))) (sym here)
          (record { rest = bits; whole = refl; none = refl; five = λ few. five })
      | inr other ↦
          let test : (k == 5) ≡ false = ne_eqb k 5 other in
          let later : sixth_at k (true ∷ bits) ≡ suc (sixth_at (suc k) bits) = cond-false (k == 5) 0 (suc (sixth_at (suc k) bits)) test in
          let h = sixth (suc k) bits (sym (ap (λ v. v || has_six (suc k) bits) test) ∙ six) in
          subst (λ n. IsSixth k (true ∷ bits) (take n (true ∷ bits))) (sym later)
          (record {
            rest = h.rest;
            whole = ap (λ b. true ∷ b) h.whole;
            none = ap (λ v. v || has_six (suc k) (take (sixth_at (suc k) bits) bits)) test ∙ h.none;
            five = λ few. h.five (omega arith);
          })
    ]
sixth k (false ∷ bits) six =
    let h = sixth 0 bits six in
    record { rest = h.rest; whole = ap (λ b. false ∷ b) h.whole; none = h.none; five = λ few. h.five (omega arith) }

pub sixth_at-inside : (k : ℕ) (bits : List Bool) → has_six k bits ≡ true → sixth_at k bits < length bits
unfolding has_six sixth_at
sixth_at-inside k [] six = cc
sixth_at-inside k (true ∷ bits) six =
    elim (cases_eq k 5) [
      | inl five ↦ omega (arith, cond-true (k == 5) 0 (suc (sixth_at (suc k) bits)) (eq-eqb k 5 five))
      | inr other ↦
          let test : (k == 5) ≡ false = ne_eqb k 5 other in
          omega (arith, cond-false (k == 5) 0 (suc (sixth_at (suc k) bits)) test, sixth_at-inside (suc k) bits (sym (ap (λ v. v || has_six (suc k) bits) test) ∙ six))
    ]
sixth_at-inside k (false ∷ bits) six = omega (arith, sixth_at-inside 0 bits six)
