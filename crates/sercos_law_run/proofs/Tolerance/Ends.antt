-- How a start-up ends while disturbed cycles are sparse.
use Rattle.sercos_law_run.proofs.Words.{stop_cycles, cases_Option, ◌≡◌, inl, inr, ℕ, suc, ◌+◌, ◌*◌, ◌<◌, ◌≤◌, List, [], ◌∷◌, ◌++◌, length, None, refl, subst, arith, cases_lt, Job, startup_bound, store_of, RingView, CycleView, known_of, Carry, Restarts, epoch_begun, cost_in, cost_of, command_cycles, slowest, drive_at, looks_back, master_calls, IsClear, IsRun, behind_mdt, views_of, IsOpened, StartsEpoch, NoneFalls, IsRight, early_costs, IsUpOrStopped, disturbances, start_costs, AreSparse, list_read_costs}
use Rattle.sercos_law_run.proofs.Start.CheckPasses.{ring_drive}
use Rattle.sercos_law_run.proofs.Held.Runs.{drive_got}
use Rattle.sercos_law_run.proofs.Headline.HeadlineRuns.{first_store}
use Rattle.sercos_law_run.proofs.Undisturbed.InTime.{steps_fit, within_bound}
use Rattle.sercos_law_run.proofs.Undisturbed.JobsCost.{list_fits}
use Rattle.sercos_law_run.proofs.Undisturbed.NeverFalls.{busy_low}
use Rattle.sercos_law_run.proofs.Undisturbed.PhaseTwo.{section_two}
use Rattle.sercos_law_run.proofs.Undisturbed.Checks.ShortLists.{few_blocks, longest_list, lists_short}
use Rattle.sercos_law_run.proofs.Recovery.EpochStops.{told_since}
use Rattle.sercos_law_run.proofs.Recovery.CausedStops.{IsAtEnd, cause, caused, never_right, phase_most, right_in}
use Rattle.sercos_law_run.proofs.Tolerance.Borne.{IsBase, IsBorne, borne_on}
use Rattle.sercos_law_run.proofs.Tolerance.EarlySparse.{early_sparse}
use Rattle.sercos_law_run.proofs.Tolerance.NotYet.{AtRise, InEarly, InThree, InTwo, IsEpoch, IsUnready, NotYet, epoch_before, not_yet, same_costs}
use Rattle.sercos_law_run.proofs.Tolerance.ThreeLasts.{three_fit, three_sparse}
use Rattle.sercos_law_run.proofs.Tolerance.TwoLasts.{two_sparse}
use Rattle.sercos_law_run.proofs.Bounds.BoundSums.{is_below_greatest}

module _ (r : RingView) (jobs : List Job) (carry : Carry) (restarts : Restarts) (opened : IsOpened r jobs) where
  abbrev Borne : CycleView → List CycleView → Type 0
  Borne t j = IsBorne r jobs carry restarts opened t j

  abbrev Base : List CycleView → Type 0
  Base before = IsBase r jobs carry restarts opened before

  abbrev Epoch : List CycleView → List CycleView → Type 0
  Epoch cycles before = IsEpoch r jobs carry restarts opened cycles before

  -- the ring doesn't fall
  none_falls : (cycles before : List CycleView) → Epoch cycles before → Base before → NoneFalls r jobs carry restarts cycles before
  none_falls [] before e starts = tt
  none_falls (t ∷ cycles) before e starts = (
    none_falls cycles before (record { run = e.run.0; clear = e.clear.0; sparse = e.sparse.0 }) starts,
    (borne_on r jobs carry restarts opened t cycles before e.run e.clear starts e.sparse).stays,
  )

  -- WHAT THE REQUESTS of phases 2 and 3 to a drive cost, its list included
  pub all_fit : (t : CycleView) (j : List CycleView) → IsRun r jobs carry restarts (t ∷ j) → IsClear (t ∷ j) → Borne t j → t.phase ≡ 3
      → (k : ℕ) → k < length r.drives
      → cost_in (cost_of (drive_at r k).busy (drive_at r k).command longest_list (store_of (drive_at r k)))
      (epoch_begun (views_of r jobs carry restarts k (t ∷ j)))
      ≤ section_two (drive_at r k) + command_cycles (drive_at r k) + ((drive_at r k).busy + 1) * 42
  all_fit t j run clear is is_three k below = three_fit r jobs carry restarts opened longest_list (((drive_at r k).busy + 1) * 42) t j run
      clear is is_three k below (λ plan recent old split at long. list_fits longest_list (drive_at r k)
      (ring_drive r k (drive_at r k) opened.valid (drive_got r k below)).blocks (list_read_costs (drive_at r k).busy) (known_of r) plan k
      recent old at long)

  -- HOW IT ENDS: in phase 4, if the ring is right
  pub right_ends : (t : CycleView) (j : List CycleView) → IsAtEnd r jobs carry restarts t j → IsRight r → t.phase ≡ 4
  right_ends t j (inl up) right = up.0
  right_ends t j (inr (x, is, cause_is)) right = absurd (never_right r x (caused r jobs carry restarts t j x cause_is) right)

  -- if phases 0 to 3 are commanded only at a stop
  pub end_at : (t : CycleView) (j : List CycleView) → IsRun r jobs carry restarts (t ∷ j) → IsClear (t ∷ j)
      → (t.phase ≤ 3 → (behind_mdt r jobs carry restarts t.sent j).stop ≡ None → ⊥) → IsAtEnd r jobs carry restarts t j
  end_at t j run clear never_late = elim (cases_Option (behind_mdt r jobs carry restarts t.sent j).stop) [
    | inl none ↦ elim (cases_lt t.phase 4) [
      | inl low ↦ absurd (never_late (omega (arith, low)) none)
      | inr high ↦
          let four : t.phase ≡ 4 = let most = phase_most r jobs carry restarts opened t j run clear in omega (arith, high, most) in
          inl (four, none, right_in r jobs carry restarts opened t j run clear four)
    ]
    | inr is ↦ inr (is.0, is.1, cause r jobs carry restarts opened t j run clear is.0 is.1)
  ]

  -- A START-UP HAS HAD ITS TIME: its bound, `extra` cycles for phase 3 more, and what the cycles so far cost.
  module _ (extra : ℕ) (t : CycleView) (cycles before : List CycleView) (run : IsRun r jobs carry restarts (t ∷ (cycles ++ before)))
      (clear : IsClear (t ∷ (cycles ++ before))) (starts : Base before) (sparse : AreSparse r carry restarts (t ∷ cycles) before)
      (long : startup_bound r + extra + start_costs r jobs carry restarts cycles before ≤ length cycles) where
    abbrev pub IsLong : List CycleView → Type 0
    IsLong l = startup_bound r + extra + (early_costs r jobs carry restarts l before + disturbances r carry restarts l before) ≤ length l

    is_long : t.phase ≤ 3 → (l : List CycleView) → cycles ≡ l → IsLong l
    is_long low l is = subst IsLong is
        (let same = same_costs r jobs carry restarts opened t cycles before run clear starts sparse low in omega (arith, same, long))

    -- Then phases 0 to 2 are over, and 3, if `three` says so: but for a stop they aren't commanded.
    pub never_late : (C : Type 0)
        → (three : (u : CycleView) (rest : List CycleView) → cycles ≡ u ∷ rest → Epoch (u ∷ rest) before → u.phase ≡ 3
        → (looks_back r jobs (master_calls r carry restarts (u ∷ (rest ++ before)))).now.phase ≡ 3
        → (looks_back r jobs (master_calls r carry restarts (u ∷ (rest ++ before)))).stop ≡ None
        → IsUnready r jobs carry restarts opened u (rest ++ before) → IsLong (u ∷ rest) → C)
        → t.phase ≤ 3 → (behind_mdt r jobs carry restarts t.sent (cycles ++ before)).stop ≡ None → C
    never_late C three low none = by (not_yet r jobs carry restarts opened t cycles before run clear starts sparse
        (let bound = within_bound r in omega (arith, bound, long)) low (λ is_three. none))
      where
        epoch : (l : List CycleView) → cycles ≡ l → Epoch l before
        epoch l is = epoch_before r jobs carry restarts opened t cycles before run clear sparse l is

        two_long : (u : CycleView) (rest : List CycleView) → Epoch (u ∷ rest) before → u.phase ≡ 2
            → (behind_mdt r jobs carry restarts u.sent (rest ++ before)).stop ≡ None → IsLong (u ∷ rest) → ⊥
        two_long u rest e was_two none_then enough =
            let le = two_sparse r jobs carry restarts opened u rest before e.run e.clear starts e.sparse was_two none_then in
            let bound = within_bound r in omega (arith, le, bound, enough)

        by : NotYet r jobs carry restarts opened t cycles before → C
        by (InEarly early) =
            let le = early_sparse r jobs carry restarts opened t cycles before run clear starts sparse early in
            let enough = is_long low cycles refl in absurd (omega (arith, le, within_bound r, enough))
        by (InTwo is_two) =
            let le = two_sparse r jobs carry restarts opened t cycles before run clear starts sparse is_two none in
            let enough = is_long low cycles refl in absurd (omega (arith, le, within_bound r, enough))
        by (AtRise u rest is was_two none_then) =
            absurd (two_long u rest (epoch (u ∷ rest) is) was_two none_then (is_long low (u ∷ rest) is))
        by (InThree u rest is was_three then_three none_then last) =
            three u rest is (epoch (u ∷ rest) is) was_three then_three none_then last (is_long low (u ∷ rest) is)

  -- THE END
  pub ends_at : (t : CycleView) (cycles before : List CycleView) → IsRun r jobs carry restarts (t ∷ (cycles ++ before))
      → IsClear (t ∷ (cycles ++ before)) → Base before → AreSparse r carry restarts (t ∷ cycles) before
      → startup_bound r + stop_cycles r + start_costs r jobs carry restarts cycles before ≤ length cycles
      → IsAtEnd r jobs carry restarts t (cycles ++ before)
  ends_at t cycles before run clear starts sparse long = end_at t (cycles ++ before) run clear
      (never_late (stop_cycles r) t cycles before run clear starts sparse long ⊥ three_long)
    where
      three_long : (u : CycleView) (rest : List CycleView) → cycles ≡ u ∷ rest → Epoch (u ∷ rest) before → u.phase ≡ 3
          → (looks_back r jobs (master_calls r carry restarts (u ∷ (rest ++ before)))).now.phase ≡ 3
          → (looks_back r jobs (master_calls r carry restarts (u ∷ (rest ++ before)))).stop ≡ None
          → IsUnready r jobs carry restarts opened u (rest ++ before)
          → startup_bound r + stop_cycles r + (early_costs r jobs carry restarts (u ∷ rest) before + disturbances r carry
          restarts (u ∷ rest) before) ≤ suc (length rest) → ⊥
      three_long u rest is e was_three then_three none last enough =
          let most = is_below_greatest command_cycles r.drives last.place (drive_at r last.place) (command_cycles (drive_at r last.place))
          (drive_got r last.place last.there) (omega arith) in
          let slow = is_below_greatest (λ d. d.busy) r.drives last.place (drive_at r last.place) (drive_at r last.place).busy
          (drive_got r last.place last.there) (omega arith) in
          let bound = within_bound r in omega (
            arith,
            three_sparse r jobs carry restarts opened u rest before e.run e.clear starts e.sparse
                then_three none last.place last.there last.unready longest_list (((drive_at r last.place).busy + 1) * 42)
                (lists_short r jobs carry restarts last.place
                (ring_drive r last.place (drive_at r last.place) opened.valid (drive_got r last.place last.there)).blocks
                (few_blocks r last.place opened.valid last.there) (first_store r jobs carry restarts opened last.place last.there).ascending
                (u ∷ (rest ++ before))) (all_fit u (rest ++ before) e.run e.clear
                (borne_on r jobs carry restarts opened u rest before e.run e.clear starts e.sparse) was_three last.place last.there),
            most,
            steps_fit (drive_at r last.place).busy (slowest r.drives) (busy_low r last.place opened.valid last.there) slow,
            bound,
            enough,
          )

  -- What it ends with was told in the epoch.
  pub since_told : (t : CycleView) (cycles before : List CycleView) → IsRun r jobs carry restarts (t ∷ (cycles ++ before))
      → IsClear (t ∷ (cycles ++ before)) → StartsEpoch r jobs carry restarts before → AreSparse r carry restarts (t ∷ cycles) before
      → IsAtEnd r jobs carry restarts t (cycles ++ before) → IsUpOrStopped r t cycles
  since_told t cycles before run clear starts sparse (inl up) = inl (up.0, up.2)
  since_told t cycles before run clear starts sparse (inr (x, is, cause_is)) = inr (
    x,
    told_since r jobs carry restarts before starts t cycles x run (none_falls cycles before (record { run = run.0; clear = clear.0; sparse = sparse.0 }) (inl starts)) is,
    caused r jobs carry restarts t (cycles ++ before) x cause_is,
  )

  pub ends_sparse : (t : CycleView) (cycles before : List CycleView) → IsRun r jobs carry restarts (t ∷ (cycles ++ before))
      → IsClear (t ∷ (cycles ++ before)) → StartsEpoch r jobs carry restarts before → AreSparse r carry restarts (t ∷ cycles) before
      → startup_bound r + stop_cycles r + start_costs r jobs carry restarts cycles before ≤ length cycles
      → IsUpOrStopped r t cycles
  ends_sparse t cycles before run clear starts sparse long = since_told t cycles before run clear starts sparse
      (ends_at t cycles before run clear (inl starts) sparse long)
