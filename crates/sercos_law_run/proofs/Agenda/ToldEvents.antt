-- The events of a cycle have what was reported of each drive in it.
use Rattle.sercos_law_run.proofs.Words.{◌≡◌, ◌⊎◌, inl, inr, ℕ, zero, suc, ◌<◌, Bool, true, false, List, [], ◌∷◌, length, subst, arith, if◌then◌else◌, nat_lt, Option, Some, None, is_some, cases_eq, Outcome, Report, fall_of, broken, with_report, with_reports, told_at_end, with_told, HasOutcome, HasReport, AreEquivalent, AreTold, AreToldAtRestart, cases_Bool}
use Rattle.sercos_master.specs.Reports.{inserted}

module _ (number : ℕ) (o : Outcome) where
  -- an outcome that is inserted
  inserted_to : (m : ℕ) (q : Outcome) (outcomes : List (ℕ × Outcome)) → HasOutcome (inserted m q outcomes) number o → HasOutcome outcomes number o ⊎ ((m ≡ number) × (q ≡ o))
  inserted_to m q [] (inl is) = inr is
  inserted_to m q [] (inr none) = absurd none
  inserted_to m q (x ∷ outcomes) has = elim (cases_Bool (nat_lt m x.0)) [
    | inl on ↦ elim (rw on at has) [ inl is ↦ inr is | inr has ↦ inl has ]
    | inr off ↦ elim (rw off at has) [
      | inl is ↦ inl (inl is)
      | inr has ↦ elim (inserted_to m q outcomes has) [ inl there ↦ inl (inr there) | inr is ↦ inr is ]
    ]
  ]

  inserted_from : (m : ℕ) (q : Outcome) (outcomes : List (ℕ × Outcome)) → HasOutcome outcomes number o ⊎ ((m ≡ number) × (q ≡ o)) → HasOutcome (inserted m q outcomes) number o
  inserted_from m q [] (inl none) = absurd none
  inserted_from m q [] (inr is) = inl is
  inserted_from m q (x ∷ outcomes) has = elim (cases_Bool (nat_lt m x.0)) [
    | inl on ↦ elim has [ inl has ↦ rw on (inr has) | inr is ↦ rw on (inl is) ]
    | inr off ↦ elim has [
      | inl (inl is) ↦ rw off (inl is)
      | inl (inr has) ↦ rw off (inr (inserted_from m q outcomes (inl has)))
      | inr is ↦ rw off (inr (inserted_from m q outcomes (inr is)))
    ]
  ]

  with_to : (r : Option Report) (outcomes : List (ℕ × Outcome)) → HasOutcome (with_report r outcomes) number o → HasOutcome outcomes number o ⊎ HasReport (with_told r []) number o
  with_to None outcomes has = inl has
  with_to (Some r) outcomes has = elim (inserted_to r.number r.outcome outcomes has) [ inl there ↦ inl there | inr is ↦ inr (inl is) ]

  with_from : (r : Option Report) (outcomes : List (ℕ × Outcome)) → HasOutcome outcomes number o ⊎ HasReport (with_told r []) number o → HasOutcome (with_report r outcomes) number o
  with_from None outcomes (inl has) = has
  with_from None outcomes (inr none) = absurd none
  with_from (Some r) outcomes (inl has) = inserted_from r.number r.outcome outcomes (inl has)
  with_from (Some r) outcomes (inr (inl is)) = inserted_from r.number r.outcome outcomes (inr is)
  with_from (Some r) outcomes (inr (inr none)) = absurd none

  -- those of all places
  abbrev AtPlaces : (ℕ → List Report) → ℕ → Type 0
  AtPlaces reports n = (k : ℕ) × (k < n) × HasReport (reports k) number o

  pub all_to : (report : ℕ → Option Report) (n : ℕ) (outcomes : List (ℕ × Outcome)) → HasOutcome (with_reports report n outcomes) number o → HasOutcome outcomes number o ⊎ AtPlaces (λ k. with_told (report k) []) n
  all_to report zero outcomes has = inl has
  all_to report (suc n) outcomes has = elim (with_to (report n) (with_reports report n outcomes) has) [
    | inr here ↦ inr (n, omega arith, here)
    | inl there ↦ elim (all_to report n outcomes there) [ inl before ↦ inl before | inr at ↦ inr (at.0, omega (arith, at.1), at.2) ]
  ]

  all_from : (report : ℕ → Option Report) (n : ℕ) (outcomes : List (ℕ × Outcome)) → HasOutcome outcomes number o ⊎ AtPlaces (λ k. with_told (report k) []) n → HasOutcome (with_reports report n outcomes) number o
  all_from report zero outcomes (inl has) = has
  all_from report zero outcomes (inr (k, less, has)) = absurd (omega (arith, less))
  all_from report (suc n) outcomes (inl has) = with_from (report n) (with_reports report n outcomes) (inl (all_from report n outcomes (inl has)))
  all_from report (suc n) outcomes (inr (k, less, has)) = elim (cases_eq k n) [
    | inl is ↦ with_from (report n) (with_reports report n outcomes) (inr (subst (λ (j : ℕ). HasReport (with_told (report j) []) number o) is has))
    | inr other ↦ with_from (report n) (with_reports report n outcomes) (inl (all_from report n outcomes (inr (k, omega (arith, less, other), has))))
  ]

  -- two reports of one drive
  both_to : (b e : Option Report) → HasReport (with_told b (with_told e [])) number o → HasReport (with_told e []) number o ⊎ HasReport (with_told b []) number o
  both_to None e has = inl has
  both_to (Some b) e (inl is) = inr (inl is)
  both_to (Some b) e (inr has) = inl has

  both_from : (b e : Option Report) → HasReport (with_told e []) number o ⊎ HasReport (with_told b []) number o → HasReport (with_told b (with_told e [])) number o
  both_from None e (inl has) = has
  both_from None e (inr none) = absurd none
  both_from (Some b) e (inl has) = inr has
  both_from (Some b) e (inr (inl is)) = inl is
  both_from (Some b) e (inr (inr none)) = absurd none

  -- the end of a cycle, with a fall and without
  ended : (falls : Bool) (now then_broken : ℕ → Option Report) (n : ℕ) (outcomes : List (ℕ × Outcome)) →
      AreEquivalent (HasOutcome (if falls then with_reports then_broken n (with_reports now n outcomes) else with_reports now n outcomes) number o)
      (HasOutcome outcomes number o ⊎ AtPlaces (λ k. told_at_end falls (now k) (then_broken k) []) n)
  ended false now then_broken n outcomes = (all_to now n outcomes, all_from now n outcomes)
  ended true now then_broken n outcomes = (
    (λ has. elim (all_to then_broken n (with_reports now n outcomes) has) [
      | inr at ↦ inr (at.0, at.1, both_from (then_broken at.0) (now at.0) (inr at.2))
      | inl before ↦ elim (all_to now n outcomes before)
          [ inl there ↦ inl there | inr at ↦ inr (at.0, at.1, both_from (then_broken at.0) (now at.0) (inl at.2)) ]
    ]),
    from,
  )
    where
      from : HasOutcome outcomes number o ⊎ AtPlaces (λ k. with_told (then_broken k) (with_told (now k) [])) n → HasOutcome (with_reports then_broken n (with_reports now n outcomes)) number o
      from (inl has) = all_from then_broken n (with_reports now n outcomes) (inl (all_from now n outcomes (inl has)))
      from (inr (k, less, has)) = elim (both_to (then_broken k) (now k) has) [
        | inl there ↦ all_from then_broken n (with_reports now n outcomes) (inl (all_from now n outcomes (inr (k, less, there))))
        | inr there ↦ all_from then_broken n (with_reports now n outcomes) (inr (k, less, there))
      ]

pub are_told : AreTold
are_told s p e number o = ended number o (is_some (fall_of s p)) p.now.report (broken p) (length s.drives) e.outcomes

pub are_told_at_restart : AreToldAtRestart
are_told_at_restart s p e number o = (all_to number o (broken p) (length s.drives) e.outcomes, all_from number o (broken p) (length s.drives) e.outcomes)
