-- In an undisturbed epoch in which phase 4 comes it is commanded from the bound of a start-up on; and in phase 4, disturbed or not, a step
-- to a drive is open in each cycle until the first i + 1 of its requests have ended.
use Rattle.sercos_law_run.proofs.Words.{◌≡◌, ◌⊎◌, inl, inr, ℕ, zero, suc, ◌+◌, ◌<◌, ◌≤◌, true, false, List, [], ◌∷◌, ◌++◌, drop, length, Option, None, sym, ap, ◌∙◌, subst, arith, is_none, is_some, false≢true, Job, Outcome, PlanView, startup_bound, RingView, Begun, open_in, begun_by, CycleView, Stop, reads_count, is_ready, count_requests, Task, known_of, member, tasks_for, Past, outcomes, is_idle, still_left, Carry, Restarts, begun_in, View, AreAtWork, mst_in, ats_in, at_calls, own_mst, begin_calls, master_calls, looks_back, middle, IsRun, IsClear, AreNumbered, AreBegunTasks, at_start, behind_mdt, view_of, views_of, IsOpened, StartsEpoch, HasBadCheck, AreUndisturbed, views_since, cases_Bool}
use Rattle.sercos_law_run.proofs.Agenda.ReportedRuns.{count_so}
use Rattle.sercos_law_run.proofs.Agenda.TaskRuns.{all_ended}
use Rattle.sercos_law_run.proofs.Held.Extended.{Extends}
use Rattle.sercos_law_run.proofs.Held.Runs.{holding}
use Rattle.sercos_law_run.proofs.Headline.HeadlineRuns.{all_stand, first_store, keeps_all, spelled_in, stored_in}
use Rattle.sercos_law_run.proofs.Undisturbed.GoingCycles.{AreGoing, HasEndedBadly, IsGoing, badly_along, badly_more, four_along, longer_so, none_since, outcomes_grow, outcomes_kept, phase_before, run_rest, waits_along, waits_now}
use Rattle.sercos_law_run.proofs.Undisturbed.Checks.PassedCycles.{views_split}
use Rattle.sercos_law_run.proofs.Undisturbed.Reached.{all_ready_in}
use Rattle.sercos_law_run.proofs.Undisturbed.Sections.{some_open}
use Rattle.sercos_law_run.proofs.Undisturbed.Arriving.Small.{never_both}
use Rattle.sercos_law_run.proofs.Undisturbed.Stops.StopStays.{none_before, stop_after}
use Rattle.sercos_law_run.proofs.Agenda.Requests.{are_requests, numbered_drop}
use Rattle.sercos_law_run.proofs.Cited.{begins_tasks, work_in_four}
use Rattle.sercos_law_run.proofs.Undisturbed.Cited.{never_stops_in_four}
use Rattle.sercos_law_run.proofs.Tolerance.Calm.{comes_to_phase_four}
use Rattle.sercos_law_run.proofs.Views.Members.{in_known}

-- nothing is left of a list of which no more items are dropped than it has
dropped_all : (xs : List Task) (n : ℕ) → drop n xs ≡ [] → length xs ≤ n
dropped_all [] n none = omega arith
dropped_all (x ∷ xs) zero none = absurd (cc)
dropped_all (x ∷ xs) (suc n) none = let less = dropped_all xs n none in omega (arith, less)

-- PHASE 4 IS COMMANDED from the bound of a start-up on, if it is in a later cycle of the epoch.
module _ (r : RingView) (jobs : List Job) (carry : Carry) (restarts : Restarts) (opened : IsOpened r jobs) (t : CycleView)
    (newer : List CycleView) (one : CycleView) (older before : List CycleView)
    (run : IsRun r jobs carry restarts (t ∷ (newer ++ one ∷ (older ++ before)))) (clear : IsClear (t ∷ (newer ++ one ∷ (older ++ before))))
    (on : AreGoing r jobs carry restarts (t ∷ newer) (one ∷ (older ++ before)))
    (first : IsGoing r jobs carry restarts one (older ++ before)) (starts : StartsEpoch r jobs carry restarts before)
    (calm : AreUndisturbed r carry restarts (one ∷ older) before) where
  rest_run : IsRun r jobs carry restarts (one ∷ (older ++ before)) × IsClear (one ∷ (older ++ before))
  rest_run = run_rest r jobs carry restarts (t ∷ newer) (one ∷ (older ++ before)) run clear

  never_bad : t.phase ≡ 4 → HasBadCheck r (looks_back r jobs (master_calls r carry restarts (older ++ before))) → ⊥
  never_bad four failed = never_both (is_ready (member (known_of r) failed.place) (outcomes (looks_back r jobs (master_calls r carry restarts (t ∷ (newer ++ one ∷ (older ++ before))))) failed.place)) ready badly.1
    where
      badly : HasEndedBadly (member (known_of r) failed.place) (outcomes (looks_back r jobs (master_calls r carry restarts (t ∷ (newer ++ one ∷ (older ++ before))))) failed.place)
      badly = badly_along r jobs carry restarts opened (t ∷ newer) (one ∷ (older ++ before)) run clear on failed.place failed.there
          (badly_more (member (known_of r) failed.place) _ _
          (subst (λ (l : List Outcome). Extends (outcomes (looks_back r jobs (master_calls r carry restarts
          (older ++ before))) failed.place) l) (sym (outcomes_kept r jobs carry restarts opened one (older ++ before) first failed.place))
          (outcomes_grow r jobs carry restarts opened one (older ++ before) rest_run.0 rest_run.1 first failed.place
          failed.there)) (failed.ended, failed.badly))

      ready : is_ready (member (known_of r) failed.place) (outcomes (looks_back r jobs (master_calls r carry restarts (t ∷ (newer ++ one ∷ (older ++ before))))) failed.place) ≡ true
      ready = ap (is_ready (member (known_of r) failed.place)) (outcomes_kept r jobs carry restarts opened t
          (newer ++ one ∷ (older ++ before)) on.1 failed.place)
          ∙ all_ready_in (known_of r) (tasks_for (known_of r) jobs) (middle r carry restarts t.sent (newer ++ one ∷ (older ++ before))) (let now = on.1.now in omega (arith, now, four)) failed.place (in_known r failed.place failed.there)

  pub four_since : startup_bound r ≤ length older → t.phase ≡ 4 → one.phase ≡ 4
  four_since long four = by (comes_to_phase_four r jobs carry restarts one older before opened rest_run.0 rest_run.1 starts calm long)
    where
      by : (one.phase ≡ 4) ⊎ ((is_some (behind_mdt r jobs carry restarts one.sent (older ++ before)).stop ≡ true) ⊎ HasBadCheck r (looks_back r jobs (master_calls r carry restarts (older ++ before)))) → one.phase ≡ 4
      by (inl is) = is
      by (inr (inl stopped)) = absurd (false≢true (sym
          (ap (λ (o : Option Stop). is_some o) (sym (stop_after r jobs carry restarts one (older ++ before) first.stays)
          ∙ none_since r jobs carry restarts (t ∷ newer) (one ∷ (older ++ before)) on
          (stop_after r jobs carry restarts t (newer ++ one ∷ (older ++ before)) on.1.stays
          ∙ never_stops_in_four r jobs carry restarts t (newer ++ one ∷ (older ++ before)) opened run clear four))) ∙ stopped))
      by (inr (inr failed)) = absurd (never_bad four failed)

module _ (r : RingView) (jobs : List Job) (carry : Carry) (restarts : Restarts) (opened : IsOpened r jobs) (k : ℕ)
    (below : k < length r.drives) where
  abbrev now_in : CycleView → List CycleView → Past
  now_in t j = behind_mdt r jobs carry restarts t.sent j

  -- A CYCLE of phase 4
  module _ (t : CycleView) (j : List CycleView) (run : IsRun r jobs carry restarts (t ∷ j)) (clear : IsClear (t ∷ j))
      (on : IsGoing r jobs carry restarts t j) (four : t.phase ≡ 4) where
    four_now : (behind_mdt r jobs carry restarts t.sent j).now.phase ≡ 4
    four_now = on.now ∙ four

    planned : is_some (behind_mdt r jobs carry restarts t.sent j).plan ≡ true
    planned =
        let late : (at_start r jobs carry restarts j).now.phase ≡ 4 = sym run.1.phase ∙ four in
        ap (λ (o : Option PlanView). is_some o) (holding r jobs carry restarts opened (first_store r jobs carry restarts opened) t j run.1
        clear.1 (spelled_in r jobs carry restarts opened t j run.1) (stored_in r jobs carry restarts opened t j)
        (all_stand r jobs carry restarts opened j run.0 clear.0) (omega (arith, late)) k below).1.now

    pub numbered : AreNumbered ((behind_mdt r jobs carry restarts t.sent j).waiting k)
    numbered =
        let left = still_left (known_of r) (tasks_for (known_of r) jobs) (middle r carry restarts t.sent j) k in
        subst AreNumbered (sym left.1) (numbered_drop left.0 (tasks_for (known_of r) jobs k) (are_requests (known_of r) jobs k).1)

    begun_tasks : AreBegunTasks (known_of r) k (now_in t j).plan ((now_in t j).waiting k) (now_in t j).now.phase (begun_by ((now_in t j).calls k)) ((now_in t j).tasks k)
    begun_tasks = begins_tasks (known_of r) (tasks_for (known_of r) jobs) (middle r carry restarts t.sent j) k (in_known r k below)

    pub ready_now : is_ready (member (known_of r) k) (outcomes (behind_mdt r jobs carry restarts t.sent j) k) ≡ true
    ready_now = all_ready_in (known_of r) (tasks_for (known_of r) jobs) (middle r carry restarts t.sent j) (let is = four_now in omega (arith, is)) k (in_known r k below)

    -- the requests begun come after the start-up's
    pub counted : count_requests ((behind_mdt r jobs carry restarts t.sent j).tasks k) + (reads_count (member (known_of r) k) + 13) ≡ length (begun_by ((behind_mdt r jobs carry restarts t.sent j).calls k))
    counted = count_so (known_of r) k (now_in t j).plan ((now_in t j).waiting k) numbered (now_in t j).now.phase (begun_by ((now_in t j).calls k)) ((now_in t j).tasks k) begun_tasks ready_now

    -- a channel is at work as long as one of the first i + 1 requests hasn't ended
    pub busy_now : (i : ℕ) → i < length ((behind_mdt r jobs carry restarts t.sent j).waiting k) → (behind_mdt r jobs carry restarts t.sent j).stop ≡ None → length (outcomes (behind_mdt r jobs carry restarts t.sent j) k) ≤ reads_count (member (known_of r) k) + (13 + i)
        → is_idle (behind_mdt r jobs carry restarts t.sent j) k ≡ false
    busy_now i low none few = elim (cases_Bool (is_idle (behind_mdt r jobs carry restarts t.sent j) k)) [
      | inl is ↦
          let empty = work_in_four (known_of r) (tasks_for (known_of r) jobs) (at_calls r carry (length j) (ats_in t.sent) (own_mst carry (length j) (mst_in t.sent) (begin_calls restarts (length j) (master_calls r carry restarts j)))) k
          (λ n. (are_requests (known_of r) jobs n).0) (λ n. (are_requests (known_of r) jobs n).1) (in_known r k below) four_now none planned is in
          let all = dropped_all ((behind_mdt r jobs carry restarts t.sent j).waiting k) (count_requests ((behind_mdt r jobs carry restarts t.sent j).tasks k)) empty in
          let ended = all_ended (known_of r) k (now_in t j).plan ((now_in t j).waiting k) (now_in t j).now.phase (begun_by ((now_in t j).calls k)) ((now_in t j).tasks k) begun_tasks is in
          absurd (omega (arith, all, ended, counted, low, few))
      | inr is ↦ is
    ]

  -- SO IT IS IN EACH CYCLE from one after which phase 4 is commanded.
  pub at_work : (i : ℕ) (cycles rest : List CycleView) → IsRun r jobs carry restarts (cycles ++ rest) → IsClear (cycles ++ rest)
      → AreGoing r jobs carry restarts cycles rest → (looks_back r jobs (master_calls r carry restarts rest)).now.phase ≡ 4
      → i < length ((looks_back r jobs (master_calls r carry restarts rest)).waiting k) → (looks_back r jobs (master_calls r carry restarts (cycles ++ rest))).stop ≡ None
      → length (outcomes (looks_back r jobs (master_calls r carry restarts (cycles ++ rest))) k) ≤ reads_count (member (known_of r) k) + (13 + i) → AreAtWork (views_since r jobs carry restarts k cycles rest) (views_of r jobs carry restarts k rest)
  at_work i [] rest run clear on four low none few = tt
  at_work i (t ∷ cycles) rest run clear on four low none few =
      let stop_now : (behind_mdt r jobs carry restarts t.sent (cycles ++ rest)).stop ≡ None =
      sym (stop_after r jobs carry restarts t (cycles ++ rest) on.1.stays) ∙ none in
      let few_now =
      subst (λ (l : List Outcome). length l ≤ reads_count (member (known_of r) k) + (13 + i))
      (outcomes_kept r jobs carry restarts opened t (cycles ++ rest) on.1 k) few in
      let works_now =
      busy_now t (cycles ++ rest) run clear on.1 (phase_before r jobs carry restarts opened t (cycles ++ rest) run on.1
      ∙ four_along r jobs carry restarts opened cycles rest run.0 on.0 four) i
      (subst (λ (l : List Task). i < length l) (sym (waits_now r jobs carry restarts t (cycles ++ rest) on.1 k
      ∙ waits_along r jobs carry restarts cycles rest on.0 k)) low) stop_now few_now in (
        at_work i cycles rest run.0 clear.0 on.0 four low (none_before r jobs carry restarts t (cycles ++ rest) on.1.starts stop_now)
            (let grows = longer_so _ _ (outcomes_grow r jobs carry restarts opened t (cycles ++ rest) run clear on.1 k below) in let now = few_now in omega (arith, grows, now)),
        subst (λ (l : List View). is_some (open_in (begun_in (view_of r jobs carry restarts k t (cycles ++ rest)) l)) ≡ true) (views_split r jobs carry restarts k cycles rest)
            (some_open _ (ap (λ (l : List Begun). is_none (open_in l)) ((keeps_all r jobs carry restarts opened t (cycles ++ rest) run clear).exact k below).begun_now ∙ works_now)),
      )
