-- How long phase 2 lasts while disturbed cycles are sparse.
use Rattle.sercos_law_run.proofs.Words.{◌≡◌, inl, inr, ℕ, zero, suc, ◌+◌, ◌<◌, ◌≤◌, List, [], ◌∷◌, ◌++◌, length, None, refl, sym, ◌∙◌, subst, arith, sum_by, Job, store_of, RingView, CycleView, known_of, Past, fall_of, is_done, Carry, Restarts, epoch_begun, cost_in, cost_of, open_since, sum_below, drive_at, looks_back, master_calls, IsClear, IsRun, behind_mdt, views_of, IsOpened, views_since, early_costs, disturbances, AreSparse, reads_cost, writes_cost}
use Rattle.sercos_law_run.proofs.Start.CheckPasses.{ring_drive}
use Rattle.sercos_law_run.proofs.Views.Members.{member_is}
use Rattle.sercos_law_run.proofs.Held.Runs.{drive_got}
use Rattle.sercos_law_run.proofs.Undisturbed.JobsBegun.{few_now, places_now, goes_in_two}
use Rattle.sercos_law_run.proofs.Undisturbed.JobsCost.{two_fits}
use Rattle.sercos_law_run.proofs.Undisturbed.PhaseTwo.{listed_all, section_two, sum_within}
use Rattle.sercos_law_run.proofs.Undisturbed.Sections.{one_works}
use Rattle.sercos_law_run.proofs.Undisturbed.Stops.StopStays.{stop_after}
use Rattle.sercos_law_run.proofs.Undisturbed.NoFalls.{was_low}
use Rattle.sercos_law_run.proofs.Tolerance.Borne.{IsBase, IsBorne, borne_on}
use Rattle.sercos_law_run.proofs.Tolerance.CostsShared.{costs_shared}
use Rattle.sercos_law_run.proofs.Tolerance.EarlySparse.{early_sparse, phase_is, phase_next, rose, none_earlier}
use Rattle.sercos_law_run.proofs.Undisturbed.ChannelsKept.{phase_now}

none_in : (n : ℕ) → sum_below n (λ k. 0) ≡ 0
none_in zero = refl
none_in (suc n) = let rest = none_in n in omega (arith, rest)

module _ (r : RingView) (jobs : List Job) (carry : Carry) (restarts : Restarts) (opened : IsOpened r jobs) where
  abbrev back : List CycleView → Past
  back j = looks_back r jobs (master_calls r carry restarts j)

  abbrev now : CycleView → List CycleView → Past
  now t j = behind_mdt r jobs carry restarts t.sent j

  abbrev Borne : CycleView → List CycleView → Type 0
  Borne t j = IsBorne r jobs carry restarts opened t j

  abbrev Base : List CycleView → Type 0
  Base before = IsBase r jobs carry restarts opened before

  abbrev opens_in : List CycleView → List CycleView → ℕ
  opens_in cycles before = sum_below (length r.drives) (λ k. open_since (views_since r jobs carry restarts k cycles before)
      (views_of r jobs carry restarts k before))

  -- each cycle of phase 2 has an open step
  pub two_counts : (cycles before : List CycleView) → IsRun r jobs carry restarts (cycles ++ before) → IsClear (cycles ++ before)
      → Base before → AreSparse r carry restarts cycles before
      → (back (cycles ++ before)).now.phase ≡ 2 → (back (cycles ++ before)).stop ≡ None
      → length cycles ≤ 11 + length r.drives + early_costs r jobs carry restarts cycles before + opens_in cycles before
  two_counts [] before run clear starts sparse is_two none = omega arith
  two_counts (t ∷ cycles) before run clear starts sparse is_two none =
      let is = borne_on r jobs carry restarts opened t cycles before run clear starts sparse in
      let stop_none : (behind_mdt r jobs carry restarts t.sent (cycles ++ before)).stop ≡ None =
      sym (stop_after r jobs carry restarts t (cycles ++ before) is.stays) ∙ none in
      elim (rose r jobs carry restarts opened t (cycles ++ before) run is 1 is_two) [
        | inl first ↦ (let le = early_sparse r jobs carry restarts opened t cycles before run clear starts sparse
            (let one = first.1 in omega (arith, one)) in omega (arith, le))
        | inr later ↦ let goes_on = goes_in_two r jobs carry restarts opened t (cycles ++ before) run clear later.1 stop_none later.0 in
            omega (
              arith,
              one_works r jobs carry restarts opened t cycles before run clear goes_on,
              (two_counts cycles before run.0 clear.0 starts sparse.0
                  (sym (phase_is r jobs carry restarts opened t (cycles ++ before) run is) ∙ later.1)
                  (none_earlier r jobs carry restarts opened t (cycles ++ before) run is stop_none)),
            )
      ]

  pub low_before : (t : CycleView) (j : List CycleView) → IsRun r jobs carry restarts (t ∷ j) → Borne t j → (back (t ∷ j)).now.phase ≤ 2
      → t.phase ≤ 2
  low_before t j run is low = was_low (is_done (known_of r) (now t j)) t.phase 2 (subst (λ (n : ℕ). n ≤ 2)
      (phase_next r jobs carry restarts opened t j run is) low)

  pub each_fits : (t : CycleView) (j : List CycleView)
      → IsRun r jobs carry restarts (t ∷ j) → IsClear (t ∷ j) → fall_of (known_of r) (now t j) ≡ None → t.phase ≤ 2 → (k : ℕ)
      → k < length r.drives
      → cost_in (cost_of (drive_at r k).busy (drive_at r k).command (λ raw. 512) (store_of (drive_at r k)))
      (epoch_begun (views_of r jobs carry restarts k (t ∷ j))) ≤ section_two (drive_at r k)
  each_fits t j run clear stays low k below =
      let rules = (ring_drive r k (drive_at r k) opened.valid (drive_got r k below)).blocks in
      let same = phase_now r jobs carry restarts t j run.1 in
      two_fits (λ raw. 512) (drive_at r k) rules (reads_cost (drive_at r k).busy) (writes_cost (drive_at r k).busy) (known_of r)
      (behind_mdt r jobs carry restarts t.sent j).plan k (epoch_begun (views_of r jobs carry restarts k (t ∷ j))) (member_is r k)
      (places_now r jobs carry restarts opened t j run clear stays k below (omega (arith, same, low)))
      (few_now r jobs carry restarts opened t j run clear stays k below (omega (arith, same, low)))

  two_fit : (cycles before : List CycleView) → IsRun r jobs carry restarts (cycles ++ before) → IsClear (cycles ++ before) → Base before
      → AreSparse r carry restarts cycles before → (back (cycles ++ before)).now.phase ≤ 2
      → opens_in cycles before ≤ sum_by section_two r.drives + disturbances r carry restarts cycles before
  two_fit [] before run clear starts sparse low = let none = none_in (length r.drives) in
      omega (arith, none)
  two_fit (t ∷ cycles) before run clear starts sparse low =
      let is = borne_on r jobs carry restarts opened t cycles before run clear starts sparse in
      let t_low = low_before t (cycles ++ before) run is low in
      let shared = costs_shared r jobs carry restarts opened t cycles before run clear starts sparse t_low (λ raw. 512)
      (λ k below. listed_all (views_of r jobs carry restarts k (t ∷ (cycles ++ before)))) in
      omega (
        arith,
        shared,
        sum_within (λ k. cost_in (cost_of (drive_at r k).busy (drive_at r k).command (λ raw. 512)
            (store_of (drive_at r k))) (epoch_begun (views_of r jobs carry restarts k (t ∷ (cycles ++ before))))) section_two r.drives
            (each_fits t (cycles ++ before) run clear is.stays t_low),
      )

  -- HOW LONG PHASE 2 LASTS
  pub two_sparse : (t : CycleView) (cycles before : List CycleView) → IsRun r jobs carry restarts (t ∷ (cycles ++ before))
      → IsClear (t ∷ (cycles ++ before))
      → Base before → AreSparse r carry restarts (t ∷ cycles) before → t.phase ≡ 2
      → (behind_mdt r jobs carry restarts t.sent (cycles ++ before)).stop ≡ None
      → length cycles ≤ 11 + length r.drives + sum_by section_two r.drives + early_costs r jobs carry restarts cycles before + disturbances
      r carry restarts cycles before
  two_sparse t cycles before run clear starts sparse t_two none =
      let is = borne_on r jobs carry restarts opened t cycles before run clear starts sparse in
      let phase = sym (phase_is r jobs carry restarts opened t (cycles ++ before) run is) ∙ t_two in
      let stop = none_earlier r jobs carry restarts opened t (cycles ++ before) run is none in
      let fits = two_fit cycles before run.0 clear.0 starts sparse.0 (omega (arith, phase)) in
      omega (arith, two_counts cycles before run.0 clear.0 starts sparse.0 phase stop, fits)
