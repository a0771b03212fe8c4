-- In phase 2 the master stops because no plan fits, or since a plan fits, but not the cycle time.
use Rattle.sercos_law_run.proofs.Words.{◌≡◌, ◌⊎◌, inl, inr, ℕ, ◌+◌, ◌<◌, List, ◌∷◌, length, Some, refl, ap, ◌∙◌, arith, slice_get_within, Code, Idn, Job, Fits, PlanView, wishes_of, RingView, Begun, begun_by, CycleView, Stop, reads_count, known_of, member, tasks_for, Past, outcomes, Carry, Restarts, middle, IsRun, IsClear, HasFailedCheck, behind_mdt, IsOpened, RefusesCycleTime, StopsForThePlan, StopsForTheCycleTime, not_longer, is_planned, Outcome}
use Rattle.sercos_law_run.proofs.Views.Members.{members_count}
use Rattle.sercos_law_run.proofs.Held.Runs.{plan_is}
use Rattle.sercos_law_run.proofs.Headline.HeadlineRuns.{first_store}
use Rattle.sercos_law_run.proofs.Undisturbed.JobsBegun.{begun_then, few_then, asked_now}
use Rattle.sercos_law_run.proofs.Undisturbed.Stops.StopsTold.{stops_right}
use Rattle.sercos_law_run.proofs.Agenda.Requests.{are_requests}
use Rattle.sercos_law_run.proofs.Cited.{check128_has_cause, reads_well}
use Rattle.sercos_law_run.proofs.Undisturbed.ChannelsKept.{phase_now}

module _ (r : RingView) (jobs : List Job) (carry : Carry) (restarts : Restarts) (opened : IsOpened r jobs) (t : CycleView)
    (j : List CycleView) (run : IsRun r jobs carry restarts (t ∷ j)) (clear : IsClear (t ∷ j)) (two : t.phase ≡ 2)
    (refused : (address : ℕ) (i : Idn) (code : Code) → (behind_mdt r jobs carry restarts t.sent j).stop ≡ Some (Stop.Refused address i code) → RefusesCycleTime r address i code × (plan : PlanView) × ((behind_mdt r jobs carry restarts t.sent j).plan ≡ Some plan))
  where
    abbrev now : Past
    now = behind_mdt r jobs carry restarts t.sent j

    now_two : (behind_mdt r jobs carry restarts t.sent j).now.phase ≡ 2
    now_two = phase_now r jobs carry restarts t j run.1 ∙ two

    -- a plan that there is fits what the ring asks
    fits : (plan : PlanView) → (behind_mdt r jobs carry restarts t.sent j).plan ≡ Some plan → Fits (wishes_of r) plan
    fits plan has =
        let asks = asked_now r jobs carry restarts opened t j run clear (omega (arith, now_two)) (reads_well (known_of r) (tasks_for (known_of r) jobs) (middle r carry restarts t.sent j) plan has) in
        (plan_is r jobs carry restarts opened (first_store r jobs carry restarts opened) (behind_mdt r jobs carry restarts t.sent j) plan (is_planned (known_of r) (tasks_for (known_of r) jobs) (middle r carry restarts t.sent j)) has asks).least.fits

    -- no check for phase 4 has ended
    no_check : (address : ℕ) (list : List Idn) → HasFailedCheck (known_of r) (behind_mdt r jobs carry restarts t.sent j) 12 address list → ⊥
    no_check address list failed =
        let low : failed.place < length r.drives = omega (arith, members_count r, failed.there) in
        let few = few_then r jobs carry restarts opened t j run clear failed.place low (omega (arith, now_two)) in
        let begun = ap (λ (l : List Begun). length l) (begun_then r jobs carry restarts opened t j run clear failed.place low) in
        let ended = slice_get_within (outcomes (behind_mdt r jobs carry restarts t.sent j) failed.place) (reads_count (member (known_of r) failed.place) + 12) (Outcome.Complete failed.status) failed.complete in
        omega (arith, few, begun, not_longer (begun_by ((behind_mdt r jobs carry restarts t.sent j).calls failed.place)), ended)

    pub stop_in_two : (x : Stop) → (behind_mdt r jobs carry restarts t.sent j).stop ≡ Some x → StopsForThePlan r x ⊎ StopsForTheCycleTime r x
    stop_in_two (Stop.NoFit chain) is = inl (record { chain = chain; is = refl; none = (stops_right r jobs carry restarts opened t j (Stop.NoFit chain) run clear is).no_fit chain refl })
    stop_in_two (Stop.Refused address i code) is =
        let (refuses, plan, has) = refused address i code is in inr (record { address = address; idn = i; code = code; is = refl; refuses = refuses; plan = plan; fits = fits plan has })
    stop_in_two (Stop.BadConfig address i word) is = absurd ((stops_right r jobs carry restarts opened t j (Stop.BadConfig address i word) run clear is).no_bad_config address i word refl)
    stop_in_two (Stop.Check127 address list) is = absurd ((stops_right r jobs carry restarts opened t j (Stop.Check127 address list) run clear is).no_check127 address list.items refl)
    stop_in_two (Stop.Check128 address list) is =
        absurd (no_check address list.items (check128_has_cause (known_of r) (tasks_for (known_of r) jobs) (middle r carry restarts t.sent j) address list.items (λ i. (are_requests (known_of r) jobs i).1) is))
