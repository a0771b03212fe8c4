-- If no drive is in phase 0, phase 2 lasts no longer than the reads and the writes of all drives take.
use Rattle.sercos_law_run.proofs.Words.{◌≡◌, ℕ, ◌<◌, ◌≤◌, List, [], ◌∷◌, ◌++◌, length, None, sym, ◌∙◌, arith, sum_by, Job, RingView, CycleView, Carry, Restarts, open_since, drive_at, looks_back, master_calls, IsClear, IsRun, views_of, IsOpened, AreInTwo, views_since, IsDown, IsStretch, IsRing-is_ring}
use Rattle.sercos_law_run.proofs.Undisturbed.PhaseTwo.{listed_all, section_two, sum_within}
use Rattle.sercos_law_run.proofs.Undisturbed.Sections.{none_idle}
use Rattle.sercos_law_run.proofs.Undisturbed.Stops.StopStays.{stop_after}
use Rattle.sercos_law_run.proofs.Recovery.DownSince.{not_down, shorter, calm_quiet, in_two}
use Rattle.sercos_law_run.proofs.Recovery.InTwo.{are_in_two}
use Rattle.sercos_law_run.proofs.Tolerance.CostsSparse.{opens_if}
use Rattle.sercos_law_run.proofs.Recovery.UpSections.{goes_on_since, none_lost}
use Rattle.sercos_law_run.proofs.Tolerance.TwoLasts.{each_fits}

module _ (r : RingView) (jobs : List Job) (carry : Carry) (restarts : Restarts) (opened : IsOpened r jobs) where
  -- what a drive takes that isn't in phase 0
  both_sections : (cycles : List CycleView) (first : CycleView) (before : List CycleView) → IsRun r jobs carry restarts (cycles ++ first ∷ before) → IsClear (cycles ++ first ∷ before) → IsStretch r jobs carry restarts cycles first before
      → AreInTwo r jobs carry restarts cycles (first ∷ before) → (k : ℕ) → k < length r.drives → (IsDown r jobs carry restarts k (first ∷ before) → ⊥)
      → open_since (views_since r jobs carry restarts k cycles (first ∷ before)) (views_of r jobs carry restarts k (first ∷ before)) ≤ section_two (drive_at r k)
  both_sections [] first before run clear stretch two k below up = omega arith
  both_sections (t ∷ cycles) first before run clear stretch two k below up =
      let few = opens_if r jobs carry restarts opened (t ∷ cycles) (first ∷ before) run clear k (λ raw. 512) below
      (listed_all (views_of r jobs carry restarts k (t ∷ (cycles ++ first ∷ before)))) (goes_on_since r jobs carry restarts opened k
      (t ∷ cycles) (first ∷ before) stretch.stays (calm_quiet r carry restarts (t ∷ cycles) (first ∷ before) stretch.calm)) in
      let most = each_fits r jobs carry restarts opened t (cycles ++ first ∷ before) run clear stretch.stays.1
      (let is = in_two r jobs carry restarts opened t (cycles ++ first ∷ before) run two.1 in omega (arith, is)) k below in
      omega (
        arith,
        few,
        none_lost r jobs carry restarts opened (t ∷ cycles) first before run clear stretch k below
            (not_down r jobs carry restarts opened (t ∷ cycles) first before run clear stretch two k below up),
        most,
      )

  -- HOW LONG PHASE 2 LASTS
  pub up_in_two : (t : CycleView) (cycles : List CycleView) (first : CycleView) (before : List CycleView) → IsRun r jobs carry restarts (t ∷ (cycles ++ first ∷ before)) → IsClear (t ∷ (cycles ++ first ∷ before))
      → IsStretch r jobs carry restarts (t ∷ cycles) first before → 2 ≤ first.phase → t.phase ≡ 2 → (looks_back r jobs (master_calls r carry restarts (t ∷ (cycles ++ first ∷ before)))).stop ≡ None
      → ((k : ℕ) → k < length r.drives → IsDown r jobs carry restarts k (first ∷ before) → ⊥) → length cycles ≤ sum_by section_two r.drives
  up_in_two t cycles first before run clear stretch late phase none up =
      let some = (IsRing-is_ring r opened.valid).some in
      let earlier = shorter r jobs carry restarts opened t cycles first before stretch in
      let two : AreInTwo r jobs carry restarts cycles (first ∷ before) = are_in_two r jobs carry restarts opened t cycles first before run
      clear stretch late phase (sym (stop_after r jobs carry restarts t (cycles ++ first ∷ before) stretch.stays.1) ∙ none) 0
      (omega (arith, some)) in
      let fits = sum_within (λ k. open_since (views_since r jobs carry restarts k cycles (first ∷ before)) (views_of r jobs carry restarts k (first ∷ before))) section_two r.drives
      (λ k below. both_sections cycles first before run.0 clear.0 earlier two k below (up k below)) in
      omega (arith, none_idle r jobs carry restarts opened cycles (first ∷ before) run.0 clear.0 two, fits)
