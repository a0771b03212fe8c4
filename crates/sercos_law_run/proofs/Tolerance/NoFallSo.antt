-- Where none of the causes of a fall is there at the end of a cycle.
use Rattle.sercos_law_run.proofs.Words.{◌≡◌, ◌⊎◌, inl, inr, ℕ, ◌+◌, ◌≤◌, Bool, true, false, not, ◌&&◌, List, ◌∷◌, refl, ap, ◌∙◌, arith, if◌then◌else◌, ◌==◌, nat_le, nat_tests, is_place, Turn, count_addressed, has_lost_at, has_lost_mst}
use Rattle.std.proofs.lemmas.Bool.{and_right}
use Rattle.sercos_law_run.proofs.Undisturbed.NoFalls.{mst_kept}
use Rattle.sercos_law_run.proofs.Undisturbed.Arriving.Phases.{late_so}

-- THE OWN MST was whole in this cycle or in the one before, or phase 0 was commanded in that.
pub mst_second : (now before : Turn) (turns : List Turn) → (now.whole ≡ true) ⊎ ((before.whole ≡ true) ⊎ (before.phase ≡ 0))
    → has_lost_mst (now ∷ before ∷ turns) ≡ false
mst_second now before turns (inl whole) = mst_kept now (before ∷ turns) whole
mst_second now before turns (inr (inl whole)) = ap (λ (b : Bool). nat_le 1 before.phase && (not now.whole && not b)) whole
    ∙ and_right (nat_le 1 before.phase) (not now.whole && false) (and_right (not now.whole) false refl)
mst_second now before turns (inr (inr zero)) = ap (λ (n : ℕ). nat_le 1 n && (not now.whole && not before.whole)) zero

-- THE DRIVE was heard in this cycle or in the one before.
pub at_second : (k : ℕ) (now before : Turn) (turns : List Turn) → (3 ≤ before.phase → (now.heard k ≡ true) ⊎ (before.heard k ≡ true))
    → has_lost_at k (now ∷ before ∷ turns) ≡ false
at_second k now before turns heard = by (nat_le 3 before.phase) refl
  where
    by : (late : Bool) → nat_le 3 before.phase ≡ late → (nat_le 3 before.phase && (not (now.heard k) && not (before.heard k))) ≡ false
    by false late = ap (λ (b : Bool). b && (not (now.heard k) && not (before.heard k))) late
    by true late = elim (heard (late_so before.phase late)) [
      | inl is ↦ ap (λ (b : Bool). nat_le 3 before.phase && (not b && not (before.heard k))) is ∙ and_right (nat_le 3 before.phase) false refl
      | inr is ↦ ap (λ (b : Bool). nat_le 3 before.phase && (not (now.heard k) && not b)) is
          ∙ and_right (nat_le 3 before.phase) (not (now.heard k) && false) (and_right (not (now.heard k)) false refl)
    ]

-- in how many cycles in a row the drive was addressed
pub count_next : (k c : ℕ) (before : Turn) (turns : List Turn) → (before.phase ≡ 1 → is_place k before.addressed ≡ true
    → count_addressed k turns ≤ c) → count_addressed k (before ∷ turns) ≤ c + 1
count_next k c before turns few = by (before.phase == 1) (is_place k before.addressed) refl refl
  where
    by : (one here : Bool) → (before.phase == 1) ≡ one → is_place k before.addressed ≡ here
        → (if one && here then count_addressed k turns + 1 else 0) ≤ c + 1
    by true true one here = let most = few (grind (arith, nat_tests, one)) here in omega (arith, most)
    by true false one here = omega arith
    by false here one is = omega arith
