-- The cycles of phases 2 and 3 fit into the bound of a start-up; and what an undisturbed one comes to stays.
use Rattle.sercos_law_run.proofs.Words.{◌≡◌, ℕ, ◌+◌, ◌*◌, ◌≤◌, true, List, [], ◌∷◌, ◌++◌, length, Option, None, refl, ap, ◌∙◌, subst, arith, is_some, sum_by, sum_by-cons, Job, startup_bound, DriveView, RingView, CycleView, Stop, known_of, tasks_for, fall_of, is_done, Carry, Restarts, read_cycles, write_cycles, command_cycles, greatest, master_calls, IsRun, IsClear, behind_mdt, IsOpened, AreUndisturbed, StartsEpoch}
use Rattle.sercos_law_run.proofs.Undisturbed.Arriving.Comes.{calm_in}
use Rattle.sercos_law_run.proofs.Undisturbed.EpochCycles.{stays_four}
use Rattle.sercos_law_run.proofs.Undisturbed.Identified.{starts_so}
use Rattle.sercos_law_run.proofs.Typed.Mdts.{phase_low}
use Rattle.sercos_law_run.proofs.Undisturbed.PhaseRuns.{next_phase_is}
use Rattle.sercos_law_run.proofs.Undisturbed.PhasesRise.{phase_after}
use Rattle.sercos_law_run.proofs.Undisturbed.NeverFalls.{never_falls}
use Rattle.sercos_law_run.proofs.Undisturbed.Stops.StopStays.{stop_kept, stop_after}
use Rattle.sercos_law_run.proofs.Undisturbed.PhaseTwo.{section_two}
use Rattle.sercos_law_run.proofs.Bounds.BoundSums.{is_started}

-- the reads and the writes of all drives
both_sections : (drives : List DriveView) → sum_by section_two drives ≡ sum_by read_cycles drives + sum_by write_cycles drives
both_sections [] = refl
both_sections (d ∷ drives) = let more = both_sections drives in omega (arith, more, sum_by-cons section_two d drives, sum_by-cons read_cycles d drives, sum_by-cons write_cycles d drives)

-- phases 2 and 3 are over within the bound
pub within_bound : (r : RingView) → 20 + 2 * length r.drives + sum_by section_two r.drives + greatest command_cycles r.drives ≤ startup_bound r
within_bound r =
    let bound = is_started r (12 + 2 * length r.drives) (12 + 2 * length r.drives + sum_by read_cycles r.drives + sum_by write_cycles r.drives + 4)
    (12 + 2 * length r.drives + sum_by read_cycles r.drives + sum_by write_cycles r.drives + 4 + greatest command_cycles r.drives + 4) (omega arith) (omega arith) (omega arith) in
    let parts = both_sections r.drives in omega (arith, bound, parts)

-- 42 steps are no more than 41 with a cycle more each, since no drive is busy for more than 20 cycles
pub steps_fit : (busy most : ℕ) → busy ≤ 20 → busy ≤ most → (busy + 1) * 42 ≤ 41 * (most + 2)
steps_fit busy most low within = omega (arith, low, within)

module _ (r : RingView) (jobs : List Job) (carry : Carry) (restarts : Restarts) (opened : IsOpened r jobs) where
  -- BOTH STAY
  pub stays_at_end : (t u : CycleView) (cycles before : List CycleView) → IsRun r jobs carry restarts (t ∷ u ∷ (cycles ++ before)) → IsClear (t ∷ u ∷ (cycles ++ before)) → StartsEpoch r jobs carry restarts before → AreUndisturbed r carry restarts (t ∷ u ∷ cycles) before
      → (u.phase ≡ 4 → t.phase ≡ 4)
      × (is_some (behind_mdt r jobs carry restarts u.sent (cycles ++ before)).stop ≡ true → (behind_mdt r jobs carry restarts t.sent (u ∷ (cycles ++ before))).stop ≡ (behind_mdt r jobs carry restarts u.sent (cycles ++ before)).stop)
  stays_at_end t u cycles before run clear starts calm = (
    four,
    (λ stopped. stop_kept r jobs carry restarts t (u ∷ (cycles ++ before))
        (starts_so r jobs carry restarts opened t (u ∷ (cycles ++ before)) run.1
        (calm_in r carry restarts t (u ∷ (cycles ++ before)) calm.1))
        (ap (λ (o : Option Stop). is_some o) (stop_after r jobs carry restarts u (cycles ++ before) stays) ∙ stopped)
        ∙ stop_after r jobs carry restarts u (cycles ++ before) stays),
  )
    where
      stays : fall_of (known_of r) (behind_mdt r jobs carry restarts u.sent (cycles ++ before)) ≡ None
      stays = (never_falls r jobs carry restarts opened (u ∷ cycles) before run.0 clear.0 starts calm.0).stays.1

      four : u.phase ≡ 4 → t.phase ≡ 4
      four is =
          let low = phase_low (known_of r) (tasks_for (known_of r) jobs) (master_calls r carry restarts (u ∷ (cycles ++ before))) in
          let after = phase_after r jobs carry restarts opened u (cycles ++ before) run.0 stays in
          next_phase_is r jobs carry restarts opened t (u ∷ (cycles ++ before)) run calm.1 ∙ after
          ∙ stays_four (is_done (known_of r) (behind_mdt r jobs carry restarts u.sent (cycles ++ before))) u.phase is (subst (λ (n : ℕ). n ≤ 4) after low)
