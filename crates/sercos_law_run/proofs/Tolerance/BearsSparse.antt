-- What a ring bears while disturbed cycles are sparse.
use Rattle.sercos_law_run.proofs.Words.{◌≡◌, ◌⊎◌, inl, inr, ℕ, ◌+◌, ◌<◌, ◌≤◌, List, [], ◌∷◌, ◌++◌, length, ◌∙◌, ap, arith, cases_eq, Job, RingView, CycleView, known_of, tasks_for, Carry, Restarts, age_in, IsUp, nothing_old, drive_at, master_calls, IsClear, IsRun, view_of, views_of, IsOpened, StartsEpoch, Bears, IsBehind, AreSparse}
use Rattle.sercos_law_run.proofs.Typed.Mdts.{phase_low}
use Rattle.sercos_law_run.proofs.Undisturbed.Answered.{tells_going}
use Rattle.sercos_law_run.proofs.Undisturbed.NeverFalls.{begins_so}
use Rattle.sercos_law_run.proofs.Recovery.LateDown.{no_lower, phase_after}
use Rattle.sercos_law_run.proofs.Tolerance.Borne.{IsBorne, all_borne, calm_or_not, late_age, is_run, some_drive}
use Rattle.sercos_law_run.proofs.Tolerance.EarlySparse.{phase_is}
use Rattle.sercos_law_run.proofs.Tolerance.Ends.{ends_sparse}
use Rattle.sercos_law_run.proofs.Tolerance.Many.{ends_anyway, rises_anyway}
use Rattle.sercos_law_run.proofs.Tolerance.Reported.{reports_sparse}
use Rattle.sercos_law_run.proofs.Tolerance.Rises.{rises_sparse}
use Rattle.sercos_law_run.proofs.Tolerance.Standing.{zero_again}
use Rattle.sercos_law_run.proofs.Tolerance.Steps.{closed_age, oldest}

module _ (r : RingView) (jobs : List Job) (carry : Carry) (restarts : Restarts) (opened : IsOpened r jobs) where
  abbrev Borne : CycleView → List CycleView → Type 0
  Borne t j = IsBorne r jobs carry restarts opened t j

  -- how old a step is at the end of a cycle
  age_of : (t : CycleView) (j : List CycleView) → IsRun r jobs carry restarts (t ∷ j) → IsClear (t ∷ j) → Borne t j → (k : ℕ)
      → k < length r.drives → age_in (views_of r jobs carry restarts k (t ∷ j)) ≤ (drive_at r k).busy + 4
  age_of t j run clear is k below =
      let most = oldest (drive_at r k).busy 1 2 (views_of r jobs carry restarts k (t ∷ j)) (is_run r jobs carry restarts opened (t ∷ j) run clear k below) (omega arith)
      (is.aged k below).any in omega (arith, most)

  late_age_of : (t : CycleView) (j : List CycleView) → IsRun r jobs carry restarts (t ∷ j) → IsClear (t ∷ j) → Borne t j → 3 ≤ t.phase
      → (k : ℕ) → k < length r.drives
      → age_in (views_of r jobs carry restarts k (t ∷ j)) ≤ (drive_at r k).busy + 3
  late_age_of t j run clear is late k below = elim (calm_or_not r carry restarts t j) [
    | inl disturbed ↦ (let most = oldest (drive_at r k).busy 1 1 (views_of r jobs carry restarts k (t ∷ j))
        (is_run r jobs carry restarts opened (t ∷ j) run clear k below) (omega arith) ((is.aged k below).lost disturbed) in omega (arith, most))
    | inr calm ↦ (let most = oldest (drive_at r k).busy 0 0 (views_of r jobs carry restarts k (t ∷ j)) (is_run r jobs carry restarts opened (t ∷ j) run clear k below)
        (omega arith) ((is.aged k below).calm calm (inl late)) in omega (arith, most))
  ]

  -- and before the first of an epoch
  none_old : (before : List CycleView) → IsRun r jobs carry restarts before → IsClear before → StartsEpoch r jobs carry restarts before
      → (k : ℕ) → k < length r.drives → age_in (views_of r jobs carry restarts k before) ≡ 0
  none_old before run clear starts k below =
      let begins = begins_so r jobs carry restarts opened [] before run clear starts k below in
      nothing_old (drive_at r k).busy (views_of r jobs carry restarts k before) begins.0 begins.1

  module _ (t : CycleView) (before : List CycleView) (starts : StartsEpoch r jobs carry restarts before) where
    borne : (cycles : List CycleView) → IsRun r jobs carry restarts (t ∷ (cycles ++ before)) → IsClear (t ∷ (cycles ++ before))
        → AreSparse r carry restarts (t ∷ cycles) before → Borne t (cycles ++ before)
    borne cycles run clear sparse = all_borne r jobs carry restarts opened t cycles before run clear starts sparse

    stands : (cycles : List CycleView) → IsRun r jobs carry restarts (t ∷ (cycles ++ before)) → IsClear (t ∷ (cycles ++ before))
        → AreSparse r carry restarts (t ∷ cycles) before → 1 ≤ length cycles → (k : ℕ) → k < length r.drives
        → IsUp (view_of r jobs carry restarts k t (cycles ++ before)) (views_of r jobs carry restarts k (cycles ++ before))
        ⊎ IsBehind (view_of r jobs carry restarts k t (cycles ++ before)) (views_of r jobs carry restarts k (cycles ++ before))
    stands [] run clear sparse some k below = absurd (omega (arith, some))
    stands (u ∷ cycles) run clear sparse some k below = elim (cases_eq t.phase 0) [
      | inr later ↦ (borne (u ∷ cycles) run clear sparse).near (omega (arith, later)) k below
      | inl at_zero ↦ inl (zero_again (view_of r jobs carry restarts k t (u ∷ (cycles ++ before)))
          (view_of r jobs carry restarts k u (cycles ++ before)) (views_of r jobs carry restarts k (cycles ++ before)) at_zero
          (elim (phase_after r jobs carry restarts opened t u (cycles ++ before) run clear
          (all_borne r jobs carry restarts opened u cycles before run.0 clear.0 starts sparse.0).stays
          (sparse.1.goes_on 0 (omega arith))
          k below) [
            | inl same ↦ same ∙ at_zero
            | inr up ↦ absurd (omega (arith, up, at_zero))
          ]))
    ]

    ages_before : (cycles : List CycleView) → IsRun r jobs carry restarts (t ∷ (cycles ++ before)) → IsClear (t ∷ (cycles ++ before))
        → AreSparse r carry restarts (t ∷ cycles) before → (k : ℕ) → k < length r.drives
        → age_in (views_of r jobs carry restarts k (cycles ++ before)) ≤ (drive_at r k).busy + 4
    ages_before [] run clear sparse k below = let none = none_old before run.0 clear.0 starts k below in omega (arith, none)
    ages_before (u ∷ cycles) run clear sparse k below =
        age_of u (cycles ++ before) run.0 clear.0 (all_borne r jobs carry restarts opened u cycles before run.0 clear.0 starts
        sparse.0) k below

    late_before : (cycles : List CycleView) → IsRun r jobs carry restarts (t ∷ (cycles ++ before)) → IsClear (t ∷ (cycles ++ before))
        → AreSparse r carry restarts (t ∷ cycles) before → 3 ≤ t.phase → (k : ℕ) → k < length r.drives
        → age_in (views_of r jobs carry restarts k (cycles ++ before)) ≤ (drive_at r k).busy + 3
    late_before [] run clear sparse late k below = let none = none_old before run.0 clear.0 starts k below in omega (arith, none)
    late_before (u ∷ cycles) run clear sparse late k below =
        let is = all_borne r jobs carry restarts opened u cycles before run.0 clear.0 starts sparse.0 in
        elim (late_age r jobs carry restarts opened t u (cycles ++ before) run clear is
        sparse.1 late k below) [
          | inl same ↦ late_age_of u (cycles ++ before) run.0 clear.0 is same.1 k below
          | inr none ↦ (let zero = closed_age (views_of r jobs carry restarts k (u ∷ (cycles ++ before))) none in omega (arith, zero))
        ]

    -- phase 4 stays
    four_stays : (cycles : List CycleView) → IsRun r jobs carry restarts (t ∷ (cycles ++ before)) → IsClear (t ∷ (cycles ++ before))
        → AreSparse r carry restarts (t ∷ cycles) before → (u : CycleView) (older : List CycleView) → cycles ≡ u ∷ older → u.phase ≡ 4
        → t.phase ≡ 4
    four_stays [] run clear sparse u older is four = cc
    four_stays (v ∷ cycles) run clear sparse u older is four =
        let same : v ≡ u = cc in
        let at : v.phase ≡ 4 = ap (λ (x : CycleView). x.phase) same ∙ four in
        let most = phase_low (known_of r) (tasks_for (known_of r) jobs) (master_calls r carry restarts (v ∷ (cycles ++ before))) in
        let phase = phase_is r jobs carry restarts opened t (v ∷ (cycles ++ before)) run
        (borne (v ∷ cycles) run clear sparse) in omega (
          arith,
          at,
          no_lower r jobs carry restarts opened t v (cycles ++ before) run clear
              (all_borne r jobs carry restarts opened v cycles before run.0 clear.0 starts sparse.0).stays (sparse.1.goes_on 0 (omega arith))
              0 (some_drive r jobs carry restarts opened),
          most,
          phase,
        )

  pub bears_sparse : (t : CycleView) (cycles before : List CycleView) → IsRun r jobs carry restarts (t ∷ (cycles ++ before))
      → IsClear (t ∷ (cycles ++ before)) → StartsEpoch r jobs carry restarts before
      → AreSparse r carry restarts (t ∷ cycles) before → Bears r jobs carry restarts t cycles before
  bears_sparse t cycles before run clear starts sparse = record {
    tells = tells_going r jobs carry restarts opened t (cycles ++ before) run clear is.goes_on is.stays;
    stands = stands t before starts cycles run clear sparse;
    ages = age_of t (cycles ++ before) run clear is;
    late_ages = λ late k below. late_age_of t (cycles ++ before) run clear is late k below;
    answers = λ k a below hears fits. ages_before t before starts cycles run clear sparse k below;
    late_answers = λ late k a below hears fits. late_before t before starts cycles run clear sparse late k below;
    rises = λ right long. rises_sparse r jobs carry restarts opened t cycles before run clear (inl starts) sparse long right;
    stays = four_stays t before starts cycles run clear sparse;
    rises_anyway = rises_anyway r jobs carry restarts opened t cycles before run clear starts sparse;
    ends = ends_sparse r jobs carry restarts opened t cycles before run clear starts sparse;
    ends_anyway = ends_anyway r jobs carry restarts opened t cycles before run clear starts sparse;
    reports = reports_sparse r jobs carry restarts opened t cycles before run clear starts sparse;
  }
    where
      is : Borne t (cycles ++ before)
      is = borne t before starts cycles run clear sparse
