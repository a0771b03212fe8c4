-- How long phases 0 and 1 last while disturbed cycles are sparse, however many they are.
use Rattle.sercos_law_run.proofs.Words.{◌≡◌, inl, inr, ℕ, suc, ◌+◌, ◌*◌, ◌≤◌, Bool, true, false, List, [], ◌∷◌, ◌++◌, length, refl, sym, ap, ◌∙◌, arith, if◌then◌else◌, ◌==◌, cases_eq, Job, RingView, CycleView, known_of, Past, has_identified, is_done, Carry, Restarts, is_disturbed_in, looks_back, master_calls, IsClear, IsDisturbed, IsRun, behind_mdt, behind_mst, IsOpened, StartsEpoch, IsUndisturbed, early_costs, own_costs, AreCalm, AreSparse}
use Rattle.sercos_law_run.proofs.Views.Members.{members_count}
use Rattle.sercos_law_run.proofs.Tolerance.Borne.{IsBorne, all_borne, calm_or_not}
use Rattle.sercos_law_run.proofs.Tolerance.EarlySparse.{count_all, count_most, known, known_after, one_more, rose, phase_is, phase_next, risen, zero_cost}
use Rattle.sercos_law_run.proofs.Undisturbed.PhaseZero.{stays_zero}

-- what a cycle costs by its phase
abbrev own_by : ℕ → Bool → ℕ
own_by n whole = if n == 0 then (if whole then 0 else 10) else 0

module _ (r : RingView) (jobs : List Job) (carry : Carry) (restarts : Restarts) (opened : IsOpened r jobs) where
  abbrev back : List CycleView → Past
  back j = looks_back r jobs (master_calls r carry restarts j)

  abbrev Borne : CycleView → List CycleView → Type 0
  Borne t j = IsBorne r jobs carry restarts opened t j

  abbrev done_in : CycleView → List CycleView → Bool
  done_in u j = is_done (known_of r) (behind_mdt r jobs carry restarts u.sent j)

  abbrev found : List CycleView → ℕ
  found j = known r jobs carry restarts opened (back j).turns

  -- in phase 0 the costs are those of the own MSTs
  zero_costs : (t : CycleView) (cycles before : List CycleView) → IsRun r jobs carry restarts (t ∷ (cycles ++ before))
      → IsClear (t ∷ (cycles ++ before)) → StartsEpoch r jobs carry restarts before → AreSparse r carry restarts (t ∷ cycles) before
      → t.phase ≡ 0 → early_costs r jobs carry restarts (t ∷ cycles) before ≡ own_costs r jobs carry restarts (t ∷ cycles) before
  zero_costs t [] before run clear starts sparse t_zero =
      let a = zero_cost t.phase (behind_mst r jobs carry restarts t.sent before).now.whole
      (is_disturbed_in r carry restarts (length before) t.sent) t_zero in
      let b = ap (λ (m : ℕ). own_by m (behind_mst r jobs carry restarts t.sent before).now.whole) t_zero in omega (arith, a, b)
  zero_costs t (u ∷ cycles) before run clear starts sparse t_zero =
      let is = all_borne r jobs carry restarts opened t (u ∷ cycles) before run clear starts sparse in
      let was = all_borne r jobs carry restarts opened u cycles before run.0 clear.0 starts sparse.0 in
      let a = zero_cost t.phase (behind_mst r jobs carry restarts t.sent (u ∷ (cycles ++ before))).now.whole
      (is_disturbed_in r carry restarts (length (u ∷ (cycles ++ before))) t.sent) t_zero in
      let b = ap (λ (m : ℕ). own_by m (behind_mst r jobs carry restarts t.sent (u ∷ (cycles ++ before))).now.whole) t_zero in omega (
        arith,
        zero_costs u cycles before run.0 clear.0 starts sparse.0
            ((stays_zero (done_in u (cycles ++ before)) u.phase
            (sym (phase_next r jobs carry restarts opened u (cycles ++ before) run.0 was)
            ∙ sym (phase_is r jobs carry restarts opened t (u ∷ (cycles ++ before)) run is) ∙ t_zero)).1),
        a,
        b,
      )

  -- PHASE 1: three cycles for each drive that is identified, and up to two since a disturbed one
  record IsInOne (t : CycleView) (j : List CycleView) (len own identified : ℕ) : Type 0 where
    any : len ≤ 13 + own + 3 * identified
    lost : IsDisturbed r carry restarts t j → len ≤ 12 + own + 3 * identified
    calm : IsUndisturbed r carry restarts t j → AreCalm r carry restarts 1 j → len ≤ 11 + own + 3 * identified

  in_one : (t : CycleView) (cycles before : List CycleView) → IsRun r jobs carry restarts (t ∷ (cycles ++ before))
      → IsClear (t ∷ (cycles ++ before)) → StartsEpoch r jobs carry restarts before → AreSparse r carry restarts (t ∷ cycles) before
      → t.phase ≡ 1 → IsInOne t (cycles ++ before) (suc (length cycles)) (own_costs r jobs carry restarts (t ∷ cycles) before) (found
      (t ∷ (cycles ++ before)))
  in_one t [] before run clear starts sparse one =
      let is = all_borne r jobs carry restarts opened t [] before run clear starts sparse in
      let none : t.phase ≡ 0 = phase_is r jobs carry restarts opened t before run is ∙ starts in
      absurd (omega (arith, none, one))
  in_one t (u ∷ cycles) before run clear starts sparse one =
      elim (rose r jobs carry restarts opened u (cycles ++ before) run.0 was 0
      (sym (phase_is r jobs carry restarts opened t (u ∷ (cycles ++ before)) run is) ∙ one)) [
        | inl first ↦ by_first first.1
        | inr later ↦ by_later later.0 later.1 (in_one u cycles before run.0 clear.0 starts sparse.0 later.1)
      ]
    where
      was : Borne u (cycles ++ before)
      was = all_borne r jobs carry restarts opened u cycles before run.0 clear.0 starts sparse.0

      is : Borne t (u ∷ (cycles ++ before))
      is = all_borne r jobs carry restarts opened t (u ∷ cycles) before run clear starts sparse

      by_first : u.phase ≡ 0 → IsInOne t (u ∷ (cycles ++ before)) (suc (suc (length cycles)))
          (own_costs r jobs carry restarts (t ∷ u ∷ cycles) before) (found (t ∷ u ∷ (cycles ++ before)))
      by_first u_zero =
          let le = risen r jobs carry restarts opened u cycles before run.0 clear.0 (inl starts) sparse.0 u_zero in
          let same = zero_costs u cycles before run.0 clear.0 starts sparse.0 u_zero in
          record {
            any = omega (arith, le, same);
            lost = λ disturbed. omega (arith, le, same);
            calm = λ calm before_it. omega (arith, le, same);
          }

      by_later : done_in u (cycles ++ before) ≡ false → u.phase ≡ 1
          → IsInOne u (cycles ++ before) (suc (length cycles)) (own_costs r jobs carry restarts (u ∷ cycles) before) (found
          (u ∷ (cycles ++ before)))
          → IsInOne t (u ∷ (cycles ++ before)) (suc (suc (length cycles))) (own_costs r jobs carry restarts (t ∷ u ∷ cycles) before)
          (found (t ∷ u ∷ (cycles ++ before)))
      by_later unfinished was_one earlier = record {
        any = elim (calm_or_not r carry restarts t (u ∷ (cycles ++ before))) [
          | inl disturbed ↦ (let le = lost_now disturbed in omega (arith, le))
          | inr calm ↦ elim (calm_or_not r carry restarts u (cycles ++ before)) [
            | inl before_it ↦ (let le = earlier.lost before_it in
                let grows = known_after r jobs carry restarts opened t (u ∷ (cycles ++ before)) run is in omega (arith, le, grows))
            | inr before_it ↦ (let le = calm_now calm before_it in omega (arith, le))
          ]
        ];
        lost = lost_now;
        calm = λ calm before_it. calm_now calm before_it.1;
      }
        where
          lost_now : IsDisturbed r carry restarts t (u ∷ (cycles ++ before))
              → suc (suc (length cycles)) ≤ 12 + own_costs r jobs carry restarts (t ∷ u ∷ cycles) before + 3 * found
              (t ∷ u ∷ (cycles ++ before))
          lost_now disturbed =
              let are = sparse.1.early disturbed (omega (arith, one)) (omega (arith, one)) in
              let le = earlier.calm are.1 are.0 in
              let grows = known_after r jobs carry restarts opened t (u ∷ (cycles ++ before)) run is in omega (arith, le, grows)

          calm_now : IsUndisturbed r carry restarts t (u ∷ (cycles ++ before)) → IsUndisturbed r carry restarts u (cycles ++ before)
              → suc (suc (length cycles)) ≤ 11 + own_costs r jobs carry restarts (t ∷ u ∷ cycles) before + 3 * found
              (t ∷ u ∷ (cycles ++ before))
          calm_now calm before_it =
              let grows = one_more r jobs carry restarts opened t u (cycles ++ before) run clear is was calm before_it one was_one
              unfinished in omega (arith, earlier.any, grows)

  -- BOTH PHASES
  pub early_many : (t : CycleView) (cycles before : List CycleView) → IsRun r jobs carry restarts (t ∷ (cycles ++ before))
      → IsClear (t ∷ (cycles ++ before)) → StartsEpoch r jobs carry restarts before → AreSparse r carry restarts (t ∷ cycles) before
      → t.phase ≤ 1 → suc (length cycles) ≤ 13 + 3 * length r.drives + own_costs r jobs carry restarts (t ∷ cycles) before
  early_many t cycles before run clear starts sparse low = elim (cases_eq t.phase 0) [
    | inl at_zero ↦ (
        let same = zero_costs t cycles before run clear starts sparse at_zero in
        omega (arith, risen r jobs carry restarts opened t cycles before run clear (inl starts) sparse at_zero, same))
    | inr later ↦ (
        let le = (in_one t cycles before run clear starts sparse (omega (arith, low, later))).any in
        let all = count_all (length (known_of r).drives) in
        let members = members_count r in omega (
          arith,
          le,
          count_most (length (known_of r).drives)
              (λ k. has_identified k (back (t ∷ (cycles ++ before))).turns) (λ k. true) (λ k on. refl),
          all,
          members,
        ))
  ]
