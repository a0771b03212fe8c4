-- Phase 4 begins in time while disturbed cycles are sparse, however many they are, if the ring is right; else a stop is reported.
use Rattle.sercos_law_run.proofs.Words.{stop_cycles, ◌≡◌, inl, ℕ, suc, ◌+◌, ◌*◌, ◌<◌, ◌≤◌, List, [], ◌∷◌, ◌++◌, length, None, refl, sym, ◌∙◌, subst, arith, sum_by, Job, times_le, store_of, DriveView, RingView, CycleView, known_of, is_done, Carry, Restarts, epoch_begun, epoch_log, listed, drive_at, looks_back, master_calls, IsClear, IsRun, behind_mdt, views_of, IsOpened, StartsEpoch, IsRight, IsUpOrStopped, own_costs, slow_bound, slow_startup_of, AreSparse, in_cost, AreListed, cost_in, cost_of, command_cycles}
use Rattle.sercos_law_run.proofs.Start.CheckPasses.{ring_drive}
use Rattle.sercos_law_run.proofs.Held.Runs.{drive_got, small}
use Rattle.sercos_law_run.proofs.Headline.HeadlineRuns.{all_stand, first_store}
use Rattle.sercos_law_run.proofs.Undisturbed.PhaseTwo.{listed_all, sum_within, section_two}
use Rattle.sercos_law_run.proofs.Undisturbed.Checks.ShortLists.{few_blocks, longest_list, lists_short}
use Rattle.sercos_law_run.proofs.Undisturbed.Sections.{sum_most}
use Rattle.sercos_law_run.proofs.Undisturbed.NoFalls.{was_low}
use Rattle.sercos_law_run.proofs.Tolerance.Borne.{IsBorne, all_borne}
use Rattle.sercos_law_run.proofs.Tolerance.EarlySparse.{phase_is, phase_next, none_earlier}
use Rattle.sercos_law_run.proofs.Tolerance.Ends.{all_fit, end_at, right_ends, since_told}
use Rattle.sercos_law_run.proofs.Tolerance.ManyEarly.{early_many}
use Rattle.sercos_law_run.proofs.Tolerance.ManyThree.{at_rise, others_two, three_spent, two_cycles}
use Rattle.sercos_law_run.proofs.Tolerance.ManyTwo.{costs_in, few_steps, ones, steps_in_two, two_spent, two_steps, weigh_at, weight_at}
use Rattle.sercos_law_run.proofs.Tolerance.NotYet.{AtRise, InEarly, InThree, InTwo, IsEpoch, IsUnready, NotYet, epoch_before, not_yet}
use Rattle.sercos_law_run.proofs.Tolerance.Rises.{few_in}
use Rattle.sercos_law_run.proofs.Tolerance.ThreeLasts.{check_fit, sum_split, without, without_mono}
use Rattle.sercos_law_run.proofs.Bounds.BoundSums.{is_below_greatest}

-- NUMBERS: the cycles of phase 2, and of phase 3 with x steps more
three_fits : (busy l time x extra : ℕ) → (busy + 2) * x ≤ extra + busy + 2
    → 74 + 4 * l + time + (busy + 2) * (78 + 4 * l + 2 * time + x) ≤ (busy + 3) * (82 + 4 * l + 2 * time) + extra
three_fits busy l time x extra most = omega (arith, most)

-- the steps of phases 2 and 3 to a drive, without the read of its list
abbrev three_steps : DriveView → ℕ
three_steps d = 78 + 4 * listed d + 2 * d.command

module _ (r : RingView) (jobs : List Job) (carry : Carry) (restarts : Restarts) (opened : IsOpened r jobs) where
  abbrev Borne : CycleView → List CycleView → Type 0
  Borne t j = IsBorne r jobs carry restarts opened t j

  abbrev Epoch : List CycleView → List CycleView → Type 0
  Epoch cycles before = IsEpoch r jobs carry restarts opened cycles before

  abbrev Unready : CycleView → List CycleView → Type 0
  Unready u j = IsUnready r jobs carry restarts opened u j

  borne : (t : CycleView) (cycles before : List CycleView) → StartsEpoch r jobs carry restarts before → Epoch (t ∷ cycles) before
      → Borne t (cycles ++ before)
  borne t cycles before starts e = all_borne r jobs carry restarts opened t cycles before e.run e.clear starts e.sparse

  -- what the steps so far allow in phase 2
  weight_fits : (u : CycleView) (cycles before : List CycleView) → StartsEpoch r jobs carry restarts before → Epoch (u ∷ cycles) before
      → u.phase ≤ 2 → weight_at r jobs carry restarts (u ∷ (cycles ++ before)) ≤ sum_by slow_startup_of r.drives
  weight_fits u cycles before starts e low = sum_within (weigh_at r jobs carry restarts (u ∷
      (cycles ++ before))) slow_startup_of r.drives each
    where
      each : (k : ℕ) → k < length r.drives → weigh_at r jobs carry restarts (u ∷ (cycles ++ before)) k ≤ slow_startup_of (drive_at r k)
      each k below =
          let product = times_le ((drive_at r k).busy + 3)
          (length (epoch_log (views_of r jobs carry restarts k (u ∷ (cycles ++ before))))) (two_steps (drive_at r k))
          (steps_in_two r jobs carry restarts opened u (cycles ++ before) e.run e.clear (borne u cycles before starts e) low k below) in
          let fits : two_cycles (drive_at r k) ≤ slow_startup_of (drive_at r k) = omega arith in omega (arith, product, fits)

  some_slow : length r.drives ≤ sum_by slow_startup_of r.drives
  some_slow =
      omega (
        arith,
        ones (length r.drives),
        sum_within (λ k. 1) slow_startup_of r.drives
            (λ k low. let fits : two_cycles (drive_at r k) ≤ slow_startup_of (drive_at r k) = omega arith in omega (arith, fits)),
      )

  -- one drive, and the others
  with_one : (k : ℕ) → k < length r.drives → others_two r jobs carry restarts opened k + slow_startup_of (drive_at r k) ≤ sum_by slow_startup_of r.drives
  with_one k below =
      let split = sum_split (length r.drives) k (λ j. slow_startup_of (drive_at r j)) below in
      let most = sum_most (length r.drives) (without k (λ j. two_cycles (drive_at r j))) (without k (λ j. slow_startup_of (drive_at r j)))
      (λ j low. without_mono k j (λ i. two_cycles (drive_at r i)) (λ i. slow_startup_of (drive_at r i)) (omega arith)) in
      omega (arith, split, most, sum_within (λ j. slow_startup_of (drive_at r j)) slow_startup_of r.drives (λ j low. omega arith))

  -- THE STEPS ACCEPTED in phase 3, if the check for phase 4 hasn't ended; and in any case
  abbrev accepted : ℕ → List CycleView → ℕ
  accepted k j = length (epoch_log (views_of r jobs carry restarts k j))

  all_accepted : (longest : ℕ → ℕ) (x : ℕ) (u : CycleView) (j : List CycleView) → IsRun r jobs carry restarts (u ∷ j) → IsClear (u ∷ j)
      → (k : ℕ) → k < length r.drives → AreListed longest (views_of r jobs carry restarts k (u ∷ j))
      → cost_in (cost_of (drive_at r k).busy (drive_at r k).command longest (store_of (drive_at r k)))
      (epoch_begun (views_of r jobs carry restarts k (u ∷ j)))
      ≤ section_two (drive_at r k) + command_cycles (drive_at r k) + ((drive_at r k).busy + 1) * x
      → accepted k (u ∷ j) ≤ three_steps (drive_at r k) + x
  all_accepted longest x u j run clear k below are fits =
      let stands = all_stand r jobs carry restarts opened (u ∷ j) run clear k below in
      let steps = few_steps (drive_at r k).busy (accepted k (u ∷ j)) (78 + 4 * listed (drive_at r k) + x) (2 * (drive_at r k).command)
      (omega (
        arith,
        in_cost (drive_at r k).busy (drive_at r k).command longest (store_of (drive_at r k))
            (views_of r jobs carry restarts k (u ∷ j)) (small r jobs carry restarts opened (first_store r jobs carry restarts opened) k below)
            stands.sees.run stands.sound (costs_in r jobs carry restarts opened (u ∷ j) run clear k below) are,
        fits,
      )) in omega (arith, steps)

  -- NOT SO LATE, if a drive that isn't ready has at most x steps more in phase 3
  module _ (x extra : ℕ) (room : (k : ℕ) → k < length r.drives → ((drive_at r k).busy + 2) * x ≤ extra + (drive_at r k).busy + 2)
      (t : CycleView) (cycles before : List CycleView) (starts : StartsEpoch r jobs carry restarts before) (e : Epoch (t ∷ cycles) before)
      (steps : (u : CycleView) (rest : List CycleView) → Epoch (u ∷ rest) before → u.phase ≡ 3 → (n : Unready u (rest ++ before)) → accepted n.place (u ∷ (rest ++ before)) ≤ three_steps (drive_at r n.place) + x)
      (long : slow_bound r + extra + own_costs r jobs carry restarts cycles before ≤ length cycles) where
    split : (l : List CycleView) → cycles ≡ l → Epoch l before
    split l is = epoch_before r jobs carry restarts opened t cycles before e.run e.clear e.sparse l is

    enough : (l : List CycleView) → cycles ≡ l → slow_bound r + extra + own_costs r jobs carry restarts l before ≤ length l
    enough l is = subst (λ (m : List CycleView). slow_bound r + extra + own_costs r jobs carry restarts m before ≤ length m) is long

    early_long : t.phase ≤ 1 → ⊥
    early_long low = by cycles refl e
      where
        by : (l : List CycleView) → cycles ≡ l → Epoch (t ∷ l) before → ⊥
        by [] is all = let many = enough [] is in omega (arith, many)
        by (u ∷ rest) is all =
            let was = borne u rest before starts (split (u ∷ rest) is) in
            let u_low = was_low (is_done (known_of r) (behind_mdt r jobs carry restarts u.sent (rest ++ before))) u.phase 1
            (subst (λ (n : ℕ). n ≤ 1) (phase_is r jobs carry restarts opened t (u ∷ (rest ++ before)) all.run
            (borne t (u ∷ rest) before starts all)
            ∙ phase_next r jobs carry restarts opened u (rest ++ before) all.run.0 was) low) in
            let le = early_many r jobs carry restarts opened u rest before all.run.0 all.clear.0 starts all.sparse.0 u_low in
            let some = some_slow in
            let many = enough (u ∷ rest) is in omega (arith, le, some, many)

    two_long : t.phase ≡ 2 → (behind_mdt r jobs carry restarts t.sent (cycles ++ before)).stop ≡ None → ⊥
    two_long t_two none = by cycles refl e none
      where
        by : (l : List CycleView) → cycles ≡ l → Epoch (t ∷ l) before → (behind_mdt r jobs carry restarts t.sent
            (l ++ before)).stop ≡ None → ⊥
        by [] is all stop_none = let many = enough [] is in omega (arith, many)
        by (u ∷ rest) is all stop_none =
            let t_is = borne t (u ∷ rest) before starts all in
            let was = borne u rest before starts (split (u ∷ rest) is) in
            let back_two = sym (phase_is r jobs carry restarts opened t (u ∷ (rest ++ before)) all.run t_is) ∙ t_two in
            let u_low = was_low (is_done (known_of r) (behind_mdt r jobs carry restarts u.sent (rest ++ before))) u.phase 2
            (let same = sym (phase_next r jobs carry restarts opened u (rest ++ before) all.run.0 was)
            ∙ back_two in omega (arith, same)) in
            let le = two_spent r jobs carry restarts opened u rest before all.run.0 all.clear.0 starts all.sparse.0 back_two
            (none_earlier r jobs carry restarts opened t (u ∷ (rest ++ before)) all.run t_is stop_none) in
            let many = enough (u ∷ rest) is in omega (arith, le, weight_fits u rest before starts (split (u ∷ rest) is) u_low, many)

    rise_long : (u : CycleView) (rest : List CycleView) → Epoch (u ∷ rest) before → u.phase ≡ 2
        → (behind_mdt r jobs carry restarts u.sent (rest ++ before)).stop ≡ None
        → slow_bound r + extra + own_costs r jobs carry restarts (u ∷ rest) before ≤ suc (length rest) → ⊥
    rise_long u rest all u_two none many =
        let le = at_rise r jobs carry restarts opened u rest before all.run all.clear starts all.sparse u_two none in
        let weight = weight_fits u rest before starts all (omega (arith, u_two)) in omega (arith, le, weight, many)

    three_long : (u : CycleView) (rest : List CycleView) → Epoch (u ∷ rest) before → u.phase ≡ 3
        → (looks_back r jobs (master_calls r carry restarts (u ∷ (rest ++ before)))).stop ≡ None → Unready u (rest ++ before)
        → slow_bound r + extra + own_costs r jobs carry restarts (u ∷ rest) before ≤ suc (length rest) → ⊥
    three_long u rest all u_three none last many =
        let le = three_spent r jobs carry restarts opened last.place last.there u rest before all.run all.clear starts all.sparse u_three
        none last.unready in
        let few = steps u rest all u_three last in
        let product = times_le ((drive_at r last.place).busy + 2) (accepted last.place (u ∷ (rest ++ before)))
        (three_steps (drive_at r last.place) + x) few in
        let fits = three_fits (drive_at r last.place).busy (listed (drive_at r last.place)) (drive_at r last.place).command x extra
        (room last.place last.there) in
        let all_drives = with_one last.place last.there in omega (arith, le, product, fits, all_drives, many)

    pub never_so_late : (t.phase ≡ 2 → (behind_mdt r jobs carry restarts t.sent (cycles ++ before)).stop ≡ None)
        → NotYet r jobs carry restarts opened t cycles before → ⊥
    never_so_late none (InEarly early) = early_long early
    never_so_late none (InTwo is_two) = two_long is_two (none is_two)
    never_so_late none (AtRise u rest is u_two none_then) = rise_long u rest (split (u ∷ rest) is) u_two none_then (enough (u ∷ rest) is)
    never_so_late none (InThree u rest is u_three then_three none_then last) = three_long u rest (split
        (u ∷ rest) is) u_three none_then last
        (enough (u ∷ rest) is)

  -- PHASE 4 IN TIME, if the ring is right
  pub rises_anyway : (t : CycleView) (cycles before : List CycleView) → IsRun r jobs carry restarts (t ∷ (cycles ++ before))
      → IsClear (t ∷ (cycles ++ before)) → StartsEpoch r jobs carry restarts before → AreSparse r carry restarts (t ∷ cycles) before
      → IsRight r → slow_bound r + own_costs r jobs carry restarts cycles before ≤ length cycles → t.phase ≡ 4
  rises_anyway t cycles before run clear starts sparse right long =
      let epoch : Epoch (t ∷ cycles) before = record { run = run; clear = clear; sparse = sparse } in
      right_ends r jobs carry restarts opened t (cycles ++ before)
      (end_at r jobs carry restarts opened t (cycles ++ before) run clear
      (λ low none. never_so_late 0 0 (λ k below. omega arith) t cycles before starts epoch few (omega (arith, long)) (λ is_two. none)
      (not_yet r jobs carry restarts opened t cycles before run clear (inl starts) sparse (omega (arith, long)) low (λ is_three. none)))) right
    where
      few : (u : CycleView) (rest : List CycleView) → Epoch (u ∷ rest) before → u.phase ≡ 3
          → (n : Unready u (rest ++ before)) → accepted n.place (u ∷ (rest ++ before)) ≤ three_steps (drive_at r n.place) + 0
      few u rest all u_three n =
          let fits = check_fit r jobs carry restarts opened u (rest ++ before) all.run all.clear (borne u rest before starts all) u_three
          n.place n.there (few_in r jobs carry restarts opened u (rest ++ before) all.run all.clear (borne u rest before starts all) right
          n) in
          all_accepted (λ raw. 512) 0 u (rest ++ before) all.run all.clear n.place n.there
          (listed_all (views_of r jobs carry restarts n.place (u ∷ (rest ++ before)))) (omega (arith, fits))

  -- THE END in any case
  pub ends_anyway : (t : CycleView) (cycles before : List CycleView) → IsRun r jobs carry restarts (t ∷ (cycles ++ before))
      → IsClear (t ∷ (cycles ++ before)) → StartsEpoch r jobs carry restarts before → AreSparse r carry restarts (t ∷ cycles) before
      → slow_bound r + stop_cycles r + own_costs r jobs carry restarts cycles before ≤ length cycles
      → IsUpOrStopped r t cycles
  ends_anyway t cycles before run clear starts sparse long =
      let epoch : Epoch (t ∷ cycles) before = record { run = run; clear = clear; sparse = sparse } in
      since_told r jobs carry restarts opened t cycles before run clear starts sparse
      (end_at r jobs carry restarts opened t (cycles ++ before) run clear (λ low none. never_so_late 42 (stop_cycles r) room t cycles before starts epoch few long (λ is_two. none)
      (not_yet r jobs carry restarts opened t cycles before run clear (inl starts) sparse (omega (arith, long)) low (λ is_three. none))))
    where
      room : (k : ℕ) → k < length r.drives → ((drive_at r k).busy + 2) * 42 ≤ stop_cycles r + (drive_at r k).busy + 2
      room k below = omega (
        arith,
        (is_below_greatest (λ d. d.busy) r.drives k (drive_at r k)
            (drive_at r k).busy (drive_got r k below) (omega arith)),
      )

      few : (u : CycleView) (rest : List CycleView) → Epoch (u ∷ rest) before → u.phase ≡ 3
          → (n : Unready u (rest ++ before)) → accepted n.place (u ∷ (rest ++ before)) ≤ three_steps (drive_at r n.place) + 42
      few u rest all u_three n = all_accepted longest_list 42 u (rest ++ before) all.run all.clear n.place n.there
          (lists_short r jobs carry restarts n.place
          (ring_drive r n.place (drive_at r n.place) opened.valid (drive_got r n.place n.there)).blocks
          (few_blocks r n.place opened.valid n.there) (first_store r jobs carry restarts opened n.place n.there).ascending
          (u ∷ (rest ++ before)))
          (all_fit r jobs carry restarts opened u (rest ++ before) all.run all.clear (borne u rest before starts all) u_three n.place
          n.there)
