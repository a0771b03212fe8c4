-- How long phase 3 lasts for a drive that isn't in phase 0.
use Rattle.sercos_law_run.proofs.Words.{stop_cycles, ◌≡◌, ℕ, suc, ◌+◌, ◌*◌, ◌<◌, ◌≤◌, true, List, [], ◌∷◌, ◌++◌, length, Option, Some, None, refl, sym, ap, ◌∙◌, subst, arith, is_some, slice_get, Job, Outcome, PlanView, blocks_fault, RingView, command_cycles, slowest, Begun, open_in, CycleView, is_checked, reads_count, known_of, member, tasks_for, ended_there, Past, outcomes, Carry, Restarts, epoch_begun, drive_at, looks_back, master_calls, middle, IsClear, IsRun, behind_mdt, views_of, IsOpened, jobs_of, AreAt, AreInThree, IsDown, IsStretch, list_read_costs}
use Rattle.sercos_law_run.proofs.Start.CheckPasses.{ring_drive}
use Rattle.sercos_law_run.proofs.Views.Members.{members_count}
use Rattle.sercos_law_run.proofs.Held.Runs.{drive_got}
use Rattle.sercos_law_run.proofs.Headline.HeadlineRuns.{first_store}
use Rattle.sercos_law_run.proofs.Undisturbed.Arriving.Comes.{calm_in}
use Rattle.sercos_law_run.proofs.Undisturbed.JobsBegun.{places_now}
use Rattle.sercos_law_run.proofs.Undisturbed.JobsCost.{list_fits}
use Rattle.sercos_law_run.proofs.Undisturbed.NeverFalls.{busy_low}
use Rattle.sercos_law_run.proofs.Undisturbed.PhaseCounts.{end_kept}
use Rattle.sercos_law_run.proofs.Undisturbed.Reached.{all_checked_in}
use Rattle.sercos_law_run.proofs.Undisturbed.Sections.{never_idle}
use Rattle.sercos_law_run.proofs.Undisturbed.Stops.StopOnce.{same_start}
use Rattle.sercos_law_run.proofs.Undisturbed.Checks.ShortLists.{few_blocks, lists_short, longest_list}
use Rattle.sercos_law_run.proofs.Recovery.DownSince.{shorter, up_all, calm_quiet}
use Rattle.sercos_law_run.proofs.Recovery.FallsSoon.{busy_slowest}
use Rattle.sercos_law_run.proofs.Recovery.Stretches.{rest_clear, rest_runs}
use Rattle.sercos_law_run.proofs.Recovery.UpSections.{ended_by, goes_on_since, none_lost}
use Rattle.sercos_law_run.proofs.Cited.{tasks_end}
use Rattle.sercos_law_run.proofs.Agenda.WritesDone.{some_at}
use Rattle.sercos_law_run.proofs.Tolerance.CostsSparse.{recent_if}
use Rattle.sercos_law_run.proofs.Undisturbed.ChannelsKept.{phase_now}

some_plan_is : (o : Option PlanView) → is_some o ≡ true → (p : PlanView) × (o ≡ Some p)
some_plan_is None some = cc
some_plan_is (Some p) some = (p, refl)

module _ (r : RingView) (jobs : List Job) (carry : Carry) (restarts : Restarts) (opened : IsOpened r jobs) (k : ℕ)
    (below : k < length r.drives) where
  -- the check for phase 3 has ended well in the first cycle
  checked_first : (t : CycleView) (cycles : List CycleView) (first : CycleView) (before : List CycleView) → IsRun r jobs carry restarts (t ∷ (cycles ++ first ∷ before)) → IsStretch r jobs carry restarts (t ∷ cycles) first before
      → AreInThree r jobs carry restarts k (t ∷ cycles) (first ∷ before) → is_checked (member (known_of r) k) (outcomes (behind_mdt r jobs carry restarts first.sent before) k) ≡ true
  checked_first t [] first before run stretch three =
      let start = same_start r jobs carry restarts (first ∷ before) ((calm_in r carry restarts t (first ∷ before) stretch.calm.1).stays 0 (omega arith)) in
      let phase : (looks_back r jobs (master_calls r carry restarts (first ∷ before))).now.phase ≡ 3 = sym (phase_now r jobs carry restarts t (first ∷ before) run.1 ∙ run.1.phase ∙ ap (λ (p : Past). p.now.phase) start) ∙ three.1.phase in
      let count = members_count r in
      ap (λ (p : Past). is_checked (member (known_of r) k) (outcomes p k)) (sym (end_kept (known_of r) (behind_mdt r jobs carry restarts first.sent before) stretch.first_stays))
      ∙ all_checked_in (known_of r) (tasks_for (known_of r) jobs) (master_calls r carry restarts (first ∷ before)) (omega (arith, phase)) k (omega (arith, count, below))
  checked_first t (u ∷ cycles) first before run stretch three = checked_first u cycles first before run.0 (shorter r jobs carry restarts opened t (u ∷ cycles) first before stretch) three.0

  module _ (t : CycleView) (cycles : List CycleView) (first : CycleView) (before : List CycleView)
      (run : IsRun r jobs carry restarts (t ∷ (cycles ++ first ∷ before))) (clear : IsClear (t ∷ (cycles ++ first ∷ before)))
      (stretch : IsStretch r jobs carry restarts (t ∷ cycles) first before)
      (three : AreInThree r jobs carry restarts k (t ∷ cycles) (first ∷ before)) (up : IsDown r jobs carry restarts k (first ∷ before) → ⊥)
    where
      low : k < length (known_of r).drives
      low = let count = members_count r in omega (arith, count, below)

      got : (o : Outcome) × (slice_get (outcomes (behind_mdt r jobs carry restarts first.sent before) k) (reads_count (member (known_of r) k) + 11) ≡ Some o)
      got = some_at (outcomes (behind_mdt r jobs carry restarts first.sent before) k) (reads_count (member (known_of r) k) + 11)
          (ended_there (outcomes (behind_mdt r jobs carry restarts first.sent before) k) (reads_count (member (known_of r) k) + 11) (checked_first t cycles first before run stretch three))

      plan : (p : PlanView) × ((behind_mdt r jobs carry restarts t.sent (cycles ++ first ∷ before)).plan ≡ Some p)
      plan = some_plan_is (behind_mdt r jobs carry restarts t.sent (cycles ++ first ∷ before)).plan three.1.planned

      never_down : IsDown r jobs carry restarts k (t ∷ (cycles ++ first ∷ before)) → ⊥
      never_down down =
          let zero_phase : t.phase ≡ 0 = sym (up_all r jobs carry restarts opened (t ∷ cycles) first before run clear stretch k below up).1 ∙ down in
          let is : t.phase ≡ 3 = sym (phase_now r jobs carry restarts t (cycles ++ first ∷ before) run.1) ∙ three.1.phase in absurd (omega (arith, zero_phase, is))

      places : AreAt (jobs_of (known_of r) (Some plan.0) k) (epoch_begun (views_of r jobs carry restarts k (t ∷ (cycles ++ first ∷ before))))
      places = subst (λ (o : Option PlanView). AreAt (jobs_of (known_of r) o k) (epoch_begun (views_of r jobs carry restarts k (t ∷ (cycles ++ first ∷ before))))) plan.1
          (places_now r jobs carry restarts opened t (cycles ++ first ∷ before) run clear stretch.stays.1 k below (let is = three.1.phase in omega (arith, is)))

      rules : blocks_fault [] (drive_at r k).blocks ≡ None
      rules = (ring_drive r k (drive_at r k) opened.valid (drive_got r k below)).blocks

      -- its check, and the read of its list
      pub with_list : suc (length cycles) ≤ command_cycles (drive_at r k) + ((drive_at r k).busy + 1) * 42
      with_list = by (ended_by r jobs carry restarts opened first before (rest_runs r jobs carry restarts (t ∷ cycles) (first ∷ before) run)
          (rest_clear (t ∷ cycles) (first ∷ before) clear)
          stretch.first_stays k below
          (reads_count (member (known_of r) k) + 11) (reads_count (member (known_of r) k) + 12) got.0 (omega arith)
          (tasks_end (known_of r) (tasks_for (known_of r) jobs) (middle r carry restarts first.sent before) k
          (reads_count (member (known_of r) k) + 11) got.0 low got.1))
        where
          by : (newer old : List Begun) × (epoch_begun (views_of r jobs carry restarts k (first ∷ before)) ≡ newer ++ old)
              × (length old ≡ reads_count (member (known_of r) k) + 12) × (open_in old ≡ None)
              → suc (length cycles) ≤ command_cycles (drive_at r k) + ((drive_at r k).busy + 1) * 42
          by (newer, old, is, long, rests) =
              let (recent, since, few) = recent_if r jobs carry restarts opened (t ∷ cycles) (first ∷ before) run clear k longest_list below
              (lists_short r jobs carry restarts k rules (few_blocks r k opened.valid below)
              (first_store r jobs carry restarts opened k below).ascending (t ∷ (cycles ++ first ∷ before)))
              (goes_on_since r jobs carry restarts opened k (t ∷ cycles) (first ∷ before) stretch.stays
              (calm_quiet r carry restarts (t ∷ cycles) (first ∷ before) stretch.calm)) newer old is rests in
              let none = none_lost r jobs carry restarts opened (t ∷ cycles) first before run clear stretch k below never_down in
              let all = never_idle r jobs carry restarts opened k below (t ∷ cycles) (first ∷ before) run clear three in
              omega (
                arith,
                all,
                few,
                none,
                list_fits longest_list (drive_at r k) rules (list_read_costs (drive_at r k).busy) (known_of r)
                    plan.0 k recent old (subst (AreAt (jobs_of (known_of r) (Some plan.0) k)) since places) long,
              )

-- Phase 3 lasts no longer than the check of a drive takes that isn't in phase 0, and a number of cycles more.
abbrev pub LastsInThree : RingView → List Job → Carry → Restarts → ℕ → Type 0
LastsInThree r jobs carry restarts tail = (k : ℕ) → k < length r.drives → (cycles : List CycleView) (first : CycleView)
    (before : List CycleView) → IsRun r jobs carry restarts (cycles ++ first ∷ before) → IsClear (cycles ++ first ∷ before)
    → IsStretch r jobs carry restarts cycles first before → AreInThree r jobs carry restarts k cycles (first ∷ before)
    → (IsDown r jobs carry restarts k (first ∷ before) → ⊥) → length cycles ≤ command_cycles (drive_at r k) + tail

module _ (r : RingView) (jobs : List Job) (carry : Carry) (restarts : Restarts) (opened : IsOpened r jobs) where
  -- these are 41 steps of the slowest drive, in which a check's list is read
  pub lasts_with_list : LastsInThree r jobs carry restarts (stop_cycles r)
  lasts_with_list k below [] first before run clear stretch three up = omega arith
  lasts_with_list k below (t ∷ cycles) first before run clear stretch three up =
      let lasts = with_list r jobs carry restarts opened k below t cycles first before run clear stretch three up in
      let slow = busy_slowest r k below in omega (arith, lasts, busy_low r k opened.valid below, slow)
