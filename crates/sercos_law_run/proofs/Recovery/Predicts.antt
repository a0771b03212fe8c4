-- What a cycle reports is the planner's answer to the ring's requirements, and each stop has its cause.
use Rattle.sercos_law_run.proofs.Words.{◌≡◌, inl, inr, ℕ, ◌<◌, Bool, true, false, List, ◌∷◌, length, Some, sym, ap, ◌∙◌, arith, if◌then◌else◌, option_or, cases_lt, Job, PlanView, planned, wishes_of, RingView, CycleView, EventsView, wishes_given, known_of, tasks_for, outcomes, plan_told, restart_told, Carry, Restarts, drive_at, looks_back, master_calls, middle, no_events, IsClear, IsRun, behind_mdt, view_of, views_of, IsOpened, IsPredicted, IsRing-is_ring, is_planned}
use Rattle.sercos_trace.specs.declared.events.Stop.TheVariants as stop
use Rattle.sercos_law_run.proofs.Settings.NoCheck127.{next_still, stays}
use Rattle.sercos_law_run.proofs.Held.Runs.{holding}
use Rattle.sercos_law_run.proofs.Headline.HeadlineRuns.{all_stand, first_store, spelled_in, stored_in}
use Rattle.sercos_law_run.proofs.Headline.StopRuns.{IsFollowed, no_plan_made}
use Rattle.sercos_law_run.proofs.Headline.WellRuns.{event_stop, told_once, or_none}
use Rattle.sercos_law_run.proofs.Undisturbed.JobsBegun.{asked_now, begun_then}
use Rattle.sercos_law_run.proofs.Recovery.CausedStops.{cause, caused, right_in}
use Rattle.sercos_law_run.proofs.Cited.{reads_well}
use Rattle.sercos_law_run.proofs.Undisturbed.Cited.{fits_in_three}
use Rattle.sercos_law_run.proofs.Undisturbed.ChannelsKept.{phase_now}

module _ (r : RingView) (jobs : List Job) (carry : Carry) (restarts : Restarts) (opened : IsOpened r jobs) (t : CycleView)
    (j : List CycleView) (run : IsRun r jobs carry restarts (t ∷ j)) (clear : IsClear (t ∷ j)) where
  -- THE PLAN of the master
  asked : (plan : PlanView) → (behind_mdt r jobs carry restarts t.sent j).plan ≡ Some plan → wishes_given (known_of r) (outcomes (behind_mdt r jobs carry restarts t.sent j)) ≡ wishes_of r
  asked plan has = elim (cases_lt t.phase 3) [
    | inl soon ↦ asked_now r jobs carry restarts opened t j run clear (let same = phase_now r jobs carry restarts t j run.1 in
        omega (arith, same, soon)) (reads_well (known_of r) (tasks_for (known_of r) jobs) (middle r carry restarts t.sent j) plan has)
    | inr late ↦ (holding r jobs carry restarts opened (first_store r jobs carry restarts opened) t j run.1 clear.1
        (spelled_in r jobs carry restarts opened t j run.1) (stored_in r jobs carry restarts opened t j)
        (all_stand r jobs carry restarts opened j run.0 clear.0) (let same = run.1.phase in omega (arith, same, late)) 0
        (let some = (IsRing-is_ring r opened.valid).some in omega (arith, some))).1.asked
  ]

  -- the plan of a cycle's events is that of the master when its MDT is sent
  event_plan : (p : PlanView) → t.events.plan ≡ Some p → (behind_mdt r jobs carry restarts t.sent j).plan ≡ Some p
  event_plan p is = by (restarts (length j) 0) (sym (ap (λ (e : EventsView). e.plan) run.1.events) ∙ is)
    where
      by : (b : Bool) → option_or (plan_told (behind_mdt r jobs carry restarts t.sent j)) (if b then restart_told (known_of r) (looks_back r jobs (master_calls r carry restarts j)) no_events else no_events).plan ≡ Some p
          → (behind_mdt r jobs carry restarts t.sent j).plan ≡ Some p
      by true is = told_once (behind_mdt r jobs carry restarts t.sent j).now.plans (behind_mdt r jobs carry restarts t.sent j).plan p (or_none (plan_told (behind_mdt r jobs carry restarts t.sent j)) p is)
      by false is = told_once (behind_mdt r jobs carry restarts t.sent j).now.plans (behind_mdt r jobs carry restarts t.sent j).plan p (or_none (plan_told (behind_mdt r jobs carry restarts t.sent j)) p is)

  -- THE CHAIN
  followed : (k : ℕ) → k < length r.drives → IsFollowed r jobs (middle r carry restarts t.sent j) (λ i. stays (view_of r jobs carry restarts i t j) ∷ views_of r jobs carry restarts i j) k
  followed k below =
      let stands = all_stand r jobs carry restarts opened (t ∷ j) run clear k below in
      record {
        run = (stands.sees.run.0, next_still (drive_at r k).busy (view_of r jobs carry restarts k t j) (views_of r jobs carry restarts k j) stands.sees.run.1);
        sound = stands.sound;
        stored = stands.stored;
        begun_are = begun_then r jobs carry restarts opened t j run clear k below;
      }

  pub is_predicted : IsPredicted r t
  is_predicted = record {
    plan = λ p is. sym (ap planned (asked p (event_plan p is)))
        ∙ (is_planned (known_of r) (tasks_for (known_of r) jobs) (middle r carry restarts t.sent j) p (event_plan p is)).planned_is;
    chain = λ c is. no_plan_made r jobs opened (first_store r jobs carry restarts opened) (middle r carry restarts t.sent j)
        (λ k. stays (view_of r jobs carry restarts k t j) ∷ views_of r jobs carry restarts k j) followed c
        (event_stop r jobs carry restarts t j (stop.NoFit c) run.1 is);
    fit = λ late. fits_in_three r jobs carry restarts t j opened run clear late;
    right = right_in r jobs carry restarts opened t j run clear;
    stops = λ x is. caused r jobs carry restarts t j x (cause r jobs carry restarts opened t j run clear x (event_stop r jobs carry restarts t j x run.1 is));
  }
