-- How long phase 3 lasts while disturbed cycles are sparse, however many they are.
use Rattle.sercos_law_run.proofs.Words.{◌≡◌, inl, inr, ℕ, suc, ◌+◌, ◌*◌, ◌<◌, ◌≤◌, List, [], ◌∷◌, ◌++◌, length, Option, None, sym, ap, ◌∙◌, arith, is_some, Job, times_le, DriveView, RingView, answers_in, open_in, CycleView, Fall, Past, Carry, Restarts, epoch_begun, epoch_log, View, in_step, sum_below, drive_at, looks_back, master_calls, IsClear, IsRun, behind_mdt, view_of, views_of, IsOpened, StartsEpoch, own_costs, AreSparse, IsViewRun}
use Rattle.sercos_law_run.proofs.Headline.HeadlineRuns.{all_stand}
use Rattle.sercos_law_run.proofs.Undisturbed.Stops.StopStays.{stop_after}
use Rattle.sercos_law_run.proofs.Undisturbed.Sections.{sum_most}
use Rattle.sercos_law_run.proofs.Tolerance.Borne.{IsBorne, all_borne, rests, zero_is}
use Rattle.sercos_law_run.proofs.Tolerance.EarlySparse.{phase_is, rose, none_earlier}
use Rattle.sercos_law_run.proofs.Tolerance.InARow.{IsPaced, NotTaken, NoneOpen, Counts, NotAnswered, paced_next, counts}
use Rattle.sercos_law_run.proofs.Tolerance.ManyTwo.{steps_in_two, two_spent, two_steps, weigh_at, weight_at, weight_grows}
use Rattle.sercos_law_run.proofs.Tolerance.Spared.{spared_in}
use Rattle.sercos_law_run.proofs.Tolerance.Steps.{never_some}
use Rattle.sercos_law_run.proofs.Tolerance.ThreeLasts.{is_unready, opens_in_three, sum_split, unready_start, without, without_mono}

-- the cycles of phase 2 that a drive may take, and one
abbrev pub two_cycles : DriveView → ℕ
two_cycles d = (d.busy + 3) * two_steps d + 1

more_steps : (busy n : ℕ) → (busy + 3) * n ≡ (busy + 2) * n + n
more_steps busy n = grind arith

wider : (busy spent base more_base : ℕ) (all : List View) → base ≤ more_base → IsPaced busy spent base all
    → IsPaced busy spent more_base all
wider busy spent base more_base all le is = record {
  total = let before = is.total in omega (arith, before, le);
  rests = λ none. let before = is.rests none in omega (arith, before, le);
  waits = λ e rest those a. let before = is.waits e rest those a in omega (arith, before, le);
}

-- a channel at rest
at_rest : (busy spent base : ℕ) (all : List View) → IsViewRun busy all → open_in (epoch_begun all) ≡ None
    → spent ≤ base + (busy + 2) * length (epoch_log all) → IsPaced busy spent base all
at_rest busy spent base all run none le = record {
  total = omega (arith, le);
  rests = λ off. le;
  waits = λ e rest those a. absurd (by a (counts (epoch_begun all) (epoch_log all) (in_step busy all run)));
}
  where
    by : suc (length (answers_in (epoch_begun all))) ≡ length (epoch_log all) → Counts (epoch_begun all) (epoch_log all) → ⊥
    by a (NoneOpen off s b) = omega (arith, a, b)
    by a (NotTaken on s b) = never_some (open_in (epoch_begun all)) none on
    by a (NotAnswered f older those_then on s b) = never_some (open_in (epoch_begun all)) none on

module _ (r : RingView) (jobs : List Job) (carry : Carry) (restarts : Restarts) (opened : IsOpened r jobs) where
  abbrev back : List CycleView → Past
  back j = looks_back r jobs (master_calls r carry restarts j)

  abbrev Borne : CycleView → List CycleView → Type 0
  Borne t j = IsBorne r jobs carry restarts opened t j

  abbrev Unready : ℕ → List CycleView → Type 0
  Unready k j = is_unready r jobs carry restarts opened k j

  -- the cycles that all drives but one may take in phase 2
  abbrev pub others_two : ℕ → ℕ
  others_two k = sum_below (length r.drives) (without k (λ j. two_cycles (drive_at r j)))

  -- THE CYCLES up to the last of phase 2
  pub at_rise : (u : CycleView) (cycles before : List CycleView) → IsRun r jobs carry restarts (u ∷ (cycles ++ before))
      → IsClear (u ∷ (cycles ++ before)) → StartsEpoch r jobs carry restarts before → AreSparse r carry restarts (u ∷ cycles) before
      → u.phase ≡ 2 → (behind_mdt r jobs carry restarts u.sent (cycles ++ before)).stop ≡ None
      → suc (length cycles) ≤ 15 + 2 * length r.drives + own_costs r jobs carry restarts
      (u ∷ cycles) before + weight_at r jobs carry restarts
      (u ∷ (cycles ++ before))
  at_rise u [] before run clear starts sparse u_two none =
      let zero = zero_is r jobs carry restarts opened u before run clear starts (sparse.1.goes_on 0 (omega arith)) in absurd (omega (arith, zero, u_two))
  at_rise u (v ∷ cycles) before run clear starts sparse u_two none =
      let is = all_borne r jobs carry restarts opened u (v ∷ cycles) before run clear starts sparse in
      let grows = weight_grows r jobs carry restarts opened u (v ∷ (cycles ++ before)) run clear is in
      omega (
        arith,
        two_spent r jobs carry restarts opened v cycles before run.0 clear.0 starts sparse.0
            (sym (phase_is r jobs carry restarts opened u (v ∷ (cycles ++ before)) run is) ∙ u_two)
            (none_earlier r jobs carry restarts opened u (v ∷ (cycles ++ before)) run is none),
        grows,
      )

  module _ (k : ℕ) (below : k < length r.drives) where
    -- at the end of phase 2, by the steps to one drive
    rise_base : (u : CycleView) (cycles before : List CycleView) → IsRun r jobs carry restarts (u ∷ (cycles ++ before))
        → IsClear (u ∷ (cycles ++ before)) → StartsEpoch r jobs carry restarts before → AreSparse r carry restarts (u ∷ cycles) before
        → u.phase ≡ 2 → (behind_mdt r jobs carry restarts u.sent (cycles ++ before)).stop ≡ None
        → suc (length cycles) ≤ 16 + 2 * length r.drives + own_costs r jobs carry restarts (u ∷ cycles) before + others_two k + two_steps
        (drive_at r k) + ((drive_at r k).busy + 2) * length (epoch_log (views_of r jobs carry restarts k (u ∷ (cycles ++ before))))
    rise_base u cycles before run clear starts sparse u_two none =
        let split = sum_split (length r.drives) k (weigh_at r jobs carry restarts (u ∷ (cycles ++ before))) below in
        let parts = more_steps (drive_at r k).busy (length (epoch_log (views_of r jobs carry restarts k (u ∷ (cycles ++ before))))) in
        omega (
          arith,
          at_rise u cycles before run clear starts sparse u_two none,
          split,
          sum_most (length r.drives)
              (without k (weigh_at r jobs carry restarts (u ∷ (cycles ++ before)))) (without k (λ j. two_cycles (drive_at r j)))
              (λ j low. without_mono k j (weigh_at r jobs carry restarts (u ∷ (cycles ++ before))) (λ i. two_cycles (drive_at r i))
              (each j low)),
          steps_so k below,
          parts,
        )
      where
        steps_so : (j : ℕ) → j < length r.drives
            → length (epoch_log (views_of r jobs carry restarts j (u ∷ (cycles ++ before)))) ≤ two_steps (drive_at r j)
        steps_so j low = steps_in_two r jobs carry restarts opened u (cycles ++ before) run clear
            (all_borne r jobs carry restarts opened u cycles before run clear starts sparse) (omega (arith, u_two)) j low

        each : (j : ℕ) → j < length r.drives → weigh_at r jobs carry restarts (u ∷ (cycles ++ before)) j ≤ two_cycles (drive_at r j)
        each j low =
            let product = times_le ((drive_at r j).busy + 3) (length (epoch_log (views_of r jobs carry restarts j
            (u ∷ (cycles ++ before))))) (two_steps (drive_at r j)) (steps_so j low) in omega (arith, product)

    abbrev base : List CycleView → List CycleView → ℕ
    base cycles before = 16 + 2 * length r.drives + own_costs r jobs carry restarts cycles before + others_two k + two_steps (drive_at r k)

    -- PHASE 3, as long as the drive isn't ready
    three_many : (t : CycleView) (cycles before : List CycleView) → IsRun r jobs carry restarts (t ∷ (cycles ++ before))
        → IsClear (t ∷ (cycles ++ before)) → StartsEpoch r jobs carry restarts before → AreSparse r carry restarts (t ∷ cycles) before
        → t.phase ≡ 3 → (back (t ∷ (cycles ++ before))).stop ≡ None → Unready k (t ∷ (cycles ++ before))
        → IsPaced (drive_at r k).busy (suc (length cycles)) (base (t ∷ cycles) before) (views_of r jobs carry restarts k
        (t ∷ (cycles ++ before)))
    three_many t [] before run clear starts sparse t_three none unready =
        let zero = zero_is r jobs carry restarts opened t before run clear starts (sparse.1.goes_on 0 (omega arith)) in absurd (omega (arith, zero, t_three))
    three_many t (u ∷ cycles) before run clear starts sparse t_three none unready =
        let was = all_borne r jobs carry restarts opened u cycles before run.0 clear.0 starts sparse.0 in
        let is = all_borne r jobs carry restarts opened t (u ∷ cycles) before run clear starts sparse in
        let stop_none : (behind_mdt r jobs carry restarts t.sent (u ∷ (cycles ++ before))).stop ≡ None =
        sym (stop_after r jobs carry restarts t (u ∷ (cycles ++ before)) is.stays) ∙ none in
        let none_then = none_earlier r jobs carry restarts opened t (u ∷ (cycles ++ before)) run is stop_none in
        paced_next (drive_at r k).busy (suc (length cycles))
        (base (t ∷ u ∷ cycles) before) (view_of r jobs carry restarts k t (u ∷ (cycles ++ before)))
        (views_of r jobs carry restarts k (u ∷ (cycles ++ before)))
        (all_stand r jobs carry restarts opened (t ∷ u ∷ (cycles ++ before)) run clear k below).sees.run (record {
          stays = ap (λ (o : Option Fall). is_some o) is.stays;
          goes_on = is.goes_on;
          opens = opens_in_three r jobs carry restarts opened t (u ∷ (cycles ++ before)) run clear is t_three stop_none k below unready;
          spared = spared_in r jobs carry restarts opened t (u ∷ cycles) before run clear starts sparse (omega (arith, t_three)) k
              below;
        })
        (elim (rose r jobs carry restarts opened u (cycles ++ before) run.0 was 2
        (sym (phase_is r jobs carry restarts opened t (u ∷ (cycles ++ before)) run is) ∙ t_three)) [
          | inl rise ↦ let le = rise_base u cycles before run.0 clear.0 starts sparse.0 rise.1
              (sym (stop_after r jobs carry restarts u (cycles ++ before) was.stays) ∙ none_then) in
              at_rest (drive_at r k).busy (suc (length cycles)) (base (t ∷ u ∷ cycles) before)
              (views_of r jobs carry restarts k (u ∷ (cycles ++ before)))
              (all_stand r jobs carry restarts opened (u ∷ (cycles ++ before)) run.0 clear.0 k below).sees.run
              (rests r jobs carry restarts opened t u (cycles ++ before) run clear was sparse.1 k below
              (omega (arith, rise.1, t_three))) (omega (arith, le))
          | inr later ↦ wider (drive_at r k).busy (suc (length cycles)) (base (u ∷ cycles) before) (base (t ∷ u ∷ cycles) before)
              (views_of r jobs carry restarts k (u ∷ (cycles ++ before))) (omega arith)
              (three_many u cycles before run.0 clear.0 starts sparse.0 later.1 none_then
              (unready_start r jobs carry restarts opened t (u ∷ (cycles ++ before)) is k unready run clear))
        ])

    pub three_spent : (t : CycleView) (cycles before : List CycleView) → IsRun r jobs carry restarts (t ∷ (cycles ++ before))
        → IsClear (t ∷ (cycles ++ before)) → StartsEpoch r jobs carry restarts before → AreSparse r carry restarts (t ∷ cycles) before
        → t.phase ≡ 3 → (back (t ∷ (cycles ++ before))).stop ≡ None → Unready k (t ∷ (cycles ++ before))
        → suc (length cycles) ≤ 17 + 2 * length r.drives + own_costs r jobs carry restarts (t ∷ cycles) before + others_two k + two_steps
        (drive_at r k) + ((drive_at r k).busy + 2) * length (epoch_log (views_of r jobs carry restarts k (t ∷ (cycles ++ before))))
    three_spent t cycles before run clear starts sparse t_three none unready =
        let le = (three_many t cycles before run clear starts sparse t_three none unready).total in omega (arith, le)
