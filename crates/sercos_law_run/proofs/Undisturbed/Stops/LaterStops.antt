-- In phase 3 the master stops for a check for phase 4 alone, and in phase 4 for nothing.
use Rattle.sercos_law_run.proofs.Words.{◌≡◌, ◌⊎◌, inl, inr, ℕ, suc, ◌+◌, ◌<◌, ◌≤◌, Bool, true, false, ◌&&◌, List, [], ◌∷◌, ◌++◌, length, Option, Some, None, refl, sym, ap, ap₂, ◌∙◌, subst, arith, if◌then◌else◌, append_assoc, length-append, map, slice_get, is_some, take, unwrap_or, option_map, cases_lt, and_parts, cases_eq, false≢true, same_Some, filter, list_any, Code, Idn, Job, Outcome, Request, next_step, outcome_of, PlanView, Block, find_block, store_of, with_own, DriveView, RingView, is_outside, write_cause_in, Begun, steps_begun, begun_by, CycleView, Stop, idn, idns_in, reads, reads_count, writes, is_checked, is_ready, ended_well, given, bytes_of, outcomes_in, with_outcome, Known, Task, known_of, member, tasks_for, ended_there, reads_length, before_end, Past, outcomes, Carry, Restarts, begun_in, log_in, AreInStep, IsTransfer, Allows, drive_at, middle, IsRun, IsClear, HasRefused, HasFailedCheck, HasEndedAt, AreBegunTasks, behind_mdt, view_of, views_of, IsOpened, jobs_of, AreAt, StopsForTheCheck, not_longer, in_step_in, attribute_of, cases_Option, cases_Bool}
use Rattle.sercos_law_run.proofs.Agenda.ReadWell.{last_is, startup_until}
use Rattle.sercos_law_run.proofs.Agenda.Requests.{are_requests, all_numbered}
use Rattle.sercos_law_run.proofs.Agenda.WritesDone.{some_at}
use Rattle.sercos_law_run.proofs.Views.Members.{members_count}
use Rattle.sercos_law_run.proofs.Held.Runs.{small, drive_rules}
use Rattle.sercos_law_run.proofs.Headline.HeadlineRuns.{all_stand, first_store}
use Rattle.sercos_law_run.proofs.Undisturbed.CycleHeld.{fits_in}
use Rattle.sercos_law_run.proofs.Undisturbed.JobPlaces.{at_most, later, some_plan}
use Rattle.sercos_law_run.proofs.Undisturbed.JobsBegun.{begun_then, few_then, place_of, places_then, tasks_then}
use Rattle.sercos_law_run.proofs.Undisturbed.Checks.WellGiven.{check_gives_3}
use Rattle.sercos_law_run.proofs.Undisturbed.Checks.ListedRuns.{list_is}
use Rattle.sercos_law_run.proofs.Undisturbed.Checks.OwnSorted.{list_back}
use Rattle.sercos_law_run.proofs.Undisturbed.Stops.LateSteps.{first_step, late_now, older_fewer}
use Rattle.sercos_law_run.proofs.Undisturbed.Reached.{all_checked_in, all_ready_in}
use Rattle.sercos_law_run.proofs.Undisturbed.Stops.RefusedCauses.{allows_4, check_4, check_free_4, found_4, found_list, list_4}
use Rattle.sercos_law_run.proofs.Undisturbed.Stops.RefusedRuns.{newest_refused}
use Rattle.sercos_law_run.proofs.Undisturbed.Stops.RefusedSteps.{command_well, data_reads_well}
use Rattle.sercos_law_run.proofs.Undisturbed.Stops.StopsTold.{stops_right}
use Rattle.sercos_law_run.proofs.Undisturbed.Arriving.Small.{first_is, never_both}
use Rattle.sercos_law_run.proofs.Undisturbed.Answered.{outcome_unbroken}
use Rattle.sercos_law_run.proofs.Cited.{check128_has_cause, refused_has_cause, tasks_end}
use Rattle.sercos_law_run.proofs.Agenda.AgendaTasks.{late_waits}
use Rattle.sercos_law_run.proofs.Undisturbed.ChannelsKept.{phase_now}

-- A request that was refused is no check that ended well.
refused_badly : (outs : List Outcome) (code : Code) (i : ℕ) → ended_well (given (outs ++ Outcome.Refused code ∷ []) i) ≡ true → i < length outs
refused_badly outs code i well = elim (cases_eq i (length outs)) [
  | inl same ↦ absurd (false≢true (sym (ap (λ (o : Option Outcome). ended_well (unwrap_or (option_map bytes_of o) [])) (last_is outs (Outcome.Refused code) i same)) ∙ well))
  | inr other ↦
      omega (arith, ended_there (outs ++ Outcome.Refused code ∷ []) i well, length-append outs (Outcome.Refused code ∷ []), other)
]

pub check_is_command : (d : DriveView) → (check_4 d).attribute.command ≡ true
unfolding attribute_of
check_is_command d = refl

-- two ends of a list that are as long are the same
same_end : (xs ys us vs : List Begun) → xs ++ us ≡ ys ++ vs → length us ≡ length vs → us ≡ vs
same_end [] [] us vs same long = same
same_end [] (y ∷ ys) us vs same long = let all : length us ≡ suc (length (ys ++ vs)) = ap (λ (l : List Begun). length l) same in absurd (omega (arith, all, length-append ys vs, long))
same_end (x ∷ xs) [] us vs same long = let all : suc (length (xs ++ us)) ≡ length vs = ap (λ (l : List Begun). length l) same in absurd (omega (arith, all, length-append xs us, long))
same_end (x ∷ xs) (y ∷ ys) us vs same long = same_end xs ys us vs (first_is x y (xs ++ us) (ys ++ vs) same).1 long

-- the task 12 places after the reads is complete if another one was begun after it
complete_before : (s : Known) (k : ℕ) (plan : Option PlanView) (waiting : List Task) (phase : ℕ) (x : Begun) (newer : List Begun) (one : Begun) (older : List Begun) (tasks : List Task) → AreBegunTasks s k plan waiting phase (x ∷ (newer ++ one ∷ older)) tasks
    → length older ≡ reads_count (member s k) + 12 → (bytes : List ℕ) × (outcome_of one.request one.answers ≡ Some (Outcome.Complete bytes))
complete_before s k plan waiting phase x newer one older [] are long = absurd are
complete_before s k plan waiting phase x [] one older (t ∷ []) are long = absurd are.0
complete_before s k plan waiting phase x [] one older (t ∷ u ∷ tasks) are long =
    are.1.well (startup_until s k are.0.1.by_then waiting (outcomes_in older) u (omega (arith, are.0.1.ended, long)) are.0.1.task)
complete_before s k plan waiting phase x (y ∷ newer) one older (t ∷ tasks) are long = complete_before s k plan waiting phase y newer one older tasks are.0 long

module _ (r : RingView) (jobs : List Job) (carry : Carry) (restarts : Restarts) (opened : IsOpened r jobs) (t : CycleView)
    (j : List CycleView) (run : IsRun r jobs carry restarts (t ∷ j)) (clear : IsClear (t ∷ j)) where
  abbrev now : Past
  now = behind_mdt r jobs carry restarts t.sent j

  phase_is : (behind_mdt r jobs carry restarts t.sent j).now.phase ≡ t.phase
  phase_is = phase_now r jobs carry restarts t j run.1

  -- a request of the start-up that was refused, the newest of its channel
  module _ (k : ℕ) (below : k < length r.drives) (there : k < length (known_of r).drives) (one : Begun) (older : List Begun) (code : Code)
      (begun : begun_by (now.calls k) ≡ one ∷ older) (task : Task) (tasks : List Task) (tasks_are : now.tasks k ≡ task ∷ tasks)
      (startup : task.number ≡ None) (ended : outcome_of one.request one.answers ≡ Some (Outcome.Refused code)) where
    split : begun_in (view_of r jobs carry restarts k t j) (views_of r jobs carry restarts k j) ≡ one ∷ older
    split = sym (begun_then r jobs carry restarts opened t j run clear k below) ∙ begun

    are : AreBegunTasks (known_of r) k now.plan (now.waiting k) now.now.phase (one ∷ older) (task ∷ tasks)
    are = subst (λ (l : List Begun). AreBegunTasks (known_of r) k now.plan (now.waiting k) now.now.phase l (task ∷ tasks)) split
        (subst (AreBegunTasks (known_of r) k now.plan (now.waiting k) now.now.phase (begun_in (view_of r jobs carry restarts k t j) (views_of r jobs carry restarts k j))) tasks_are (tasks_then r jobs carry restarts opened t j run clear k below))

    outs_are : outcomes now k ≡ outcomes_in older ++ Outcome.Refused code ∷ []
    outs_are = ap (λ (l : List Begun). outcomes_in l) begun ∙ ap (λ (o : Option Outcome). with_outcome o (outcomes_in older)) ended

    passed : (i : ℕ) → ended_well (given (outcomes now k) i) ≡ true → i < length older
    passed i well =
        omega (
          arith,
          refused_badly (outcomes_in older) code i
              (sym (ap (λ (l : List Outcome). ended_well (given l i)) outs_are) ∙ well),
          are.1.ended,
        )

    never_three : t.phase ≡ 3 → ⊥
    never_three three =
        let past_check = passed (reads_count (member (known_of r) k) + 11)
        (all_checked_in (known_of r) (tasks_for (known_of r) jobs) (middle r carry restarts t.sent j)
        (omega (arith, phase_is, three)) k there) in
        let places = subst (AreAt (jobs_of (known_of r) now.plan k)) split
        (places_then r jobs carry restarts opened t j run clear k below (omega (arith, phase_is, three))) in
        let made = some_plan (known_of r) k now.plan (one ∷ older) places (omega (arith, past_check)) in
        let placed = subst (λ (o : Option PlanView). AreAt (jobs_of (known_of r) o k) (one ∷ older)) made.1 places in
        let stands = all_stand r jobs carry restarts opened (t ∷ j) run clear k below in
        let (ref, log_is) = newest_refused (drive_at r k).busy (drive_at r k)
        (small r jobs carry restarts opened (first_store r jobs carry restarts opened) k below) (view_of r jobs carry restarts k t j)
        (views_of r jobs carry restarts k j) stands.sees.run stands.sound stands.stored one older code split ended in
        let rules = drive_rules r k opened.valid below in
        elim (cases_eq (length older) (reads_count (member (known_of r) k) + 12)) [
          -- the check is one of phase 3, and isn't refused in it
          | inl at ↦
              let asks = same_Some one.request _ (sym placed.1 ∙ later (known_of r) k made.0 (length older) 12 at) in
              let step = subst (λ (l : List Begun). AreInStep l (log_in (view_of r jobs carry restarts k t j) (views_of r jobs carry restarts k j)))
              split (in_step_in (drive_at r k).busy (view_of r jobs carry restarts k t j)
              (views_of r jobs carry restarts k j) stands.sees.run) in
              let no_step = ap (λ (o : Option Outcome). if is_some o then None else next_step one.request one.answers) ended in
              let begins = subst (λ (q : Request). 1 ≤ length (steps_begun q one.answers)) (sym asks) (first_step (idn 128) one.answers) in
              let fewer = older_fewer one older (log_in (view_of r jobs carry restarts k t j) (views_of r jobs carry restarts k j))
              (ref.entries ++ ref.log) ref.e step no_step begins log_is in
              let late = late_now r jobs carry restarts opened k below t j run clear one older ref.e (ref.entries ++ ref.log) split
              (omega (arith, at)) log_is fewer in
              let in_three : ref.e.processed.phase ≡ 3 = omega (arith, late, ref.between.0, three) in
              never_both ref.e.answer.error ref.error
              (command_well (idn 128) (check_4 (drive_at r k)) (store_of (drive_at r k)) (found_4 (drive_at r k) rules)
              (check_is_command (drive_at r k)) ref.e ref.entries ref.log
              (subst (λ (x : Request). IsTransfer x (store_of (drive_at r k)) ref.e ref.entries ref.log) asks ref.transfer)
              (subst (λ (n : ℕ). Allows (check_4 (drive_at r k)) n) (sym in_three) (allows_4 (drive_at r k)))
              (ap (λ (n : ℕ). write_cause_in (find_block 128 ref.e.processed.blocks) n true (3 ∷ [])) in_three
              ∙ check_free_4 (drive_at r k) rules ref.e ref.stored))
          -- a read isn't refused
          | inr other ↦
              let last = writes (known_of r) made.0 k ++ Request.Command (idn 127) ∷ Request.Command (idn 128) ∷ Request.Read (idn 22) 7 ∷ [] in
              let more_14 : length last ≡ 14 = refl in
              let few = at_most (jobs_of (known_of r) (Some made.0) k) (one ∷ older) placed in
              let parts = length-append (reads (member (known_of r) k)) last in
              let at : length older ≡ reads_count (member (known_of r) k) + 13 =
              omega (arith, past_check, few, parts, more_14, reads_length (member (known_of r) k), other) in
              let asks = same_Some one.request _ (sym placed.1 ∙ later (known_of r) k made.0 (length older) 13 at) in
              never_both ref.e.answer.error ref.error
              (data_reads_well (idn 22) (list_4 (drive_at r k)) (store_of (drive_at r k)) (found_list (drive_at r k) rules) ref.e ref.entries ref.log
              (subst (λ (x : Request). IsTransfer x (store_of (drive_at r k)) ref.e ref.entries ref.log) asks ref.transfer))
        ]

    never_four : t.phase ≡ 4 → ⊥
    never_four four =
        let both = and_parts (is_checked (member (known_of r) k) (outcomes now k)) _
        (all_ready_in (known_of r) (tasks_for (known_of r) jobs) (middle r carry restarts t.sent j) (omega (arith, phase_is, four)) k there) in
        let low = passed (reads_count (member (known_of r) k) + 12) both.1 in
        let past_check : reads_count (member (known_of r) k) + 12 < length (outcomes_in older) = omega (arith, low, are.1.ended) in
        let (i, got) = late_waits (known_of r) k are.1.by_then _ (outcomes_in older) task past_check
        (ap₂ (λ (a b : Bool). a && b) (well_before (reads_count (member (known_of r) k) + 11) (omega (arith, past_check)) both.0)
        (well_before (reads_count (member (known_of r) k) + 12) past_check both.1)) are.1.task in
        false≢true (sym (ap (λ (o : Option ℕ). is_some o) startup) ∙ all_numbered (known_of r) (tasks_for (known_of r) jobs)
        (middle r carry restarts t.sent j) (λ i. (are_requests (known_of r) jobs i).1) k i task got)
      where
        well_before : (i : ℕ) → i < length (outcomes_in older) → ended_well (given (outcomes (behind_mdt r jobs carry restarts t.sent j) k) i) ≡ true → ended_well (given (outcomes_in older) i) ≡ true
        well_before i low well =
            ap ended_well (sym (before_end (outcomes_in older) (Outcome.Refused code) i (λ e. omega (arith, e, low)))) ∙ sym (ap (λ (l : List Outcome). ended_well (given l i)) outs_are) ∙ well

  -- NO REFUSAL
  no_refusal : (t.phase ≡ 3) ⊎ (t.phase ≡ 4) → (address : ℕ) (i : Idn) (code : Code) → (behind_mdt r jobs carry restarts t.sent j).stop ≡ Some (Stop.Refused address i code) → ⊥
  no_refusal which address i code is = by which (refused_has_cause (known_of r) (tasks_for (known_of r) jobs) (middle r carry restarts t.sent j) address i code is)
    where
      low : (has : HasRefused (known_of r) (behind_mdt r jobs carry restarts t.sent j) address i code) → has.ended.place < length r.drives
      low has = omega (arith, members_count r, has.ended.there)

      by : (t.phase ≡ 3) ⊎ (t.phase ≡ 4) → HasRefused (known_of r) (behind_mdt r jobs carry restarts t.sent j) address i code → ⊥
      by (inl three) has = never_three has.ended.place (low has) has.ended.there has.ended.one has.ended.older code has.ended.begun has.ended.task has.ended.tasks has.ended.tasks_are has.ended.startup has.ended.ended three
      by (inr four) has = never_four has.ended.place (low has) has.ended.there has.ended.one has.ended.older code has.ended.begun has.ended.task has.ended.tasks has.ended.tasks_are has.ended.startup has.ended.ended four

  -- THE OUTCOME 12 places after the reads is that of the check, and the next one that of its list.
  abbrev EndedAt : ℕ → ℕ → Outcome → Type 0
  EndedAt k i o = HasEndedAt (known_of r) k now.plan (now.waiting k) now.now.phase (begun_by (now.calls k)) (reads_count (member (known_of r) k) + i) o

  split_at : (k : ℕ) → k < length r.drives → (i : ℕ) (o : Outcome) (at : EndedAt k i o) → begun_in (view_of r jobs carry restarts k t j) (views_of r jobs carry restarts k j) ≡ at.newer ++ at.one ∷ at.older
  split_at k below i o at = sym (begun_then r jobs carry restarts opened t j run clear k below) ∙ at.split

  asks_at : t.phase ≡ 3 → (k : ℕ) → k < length r.drives → (i : ℕ) (q : Request) → ((p : PlanView) → slice_get (writes (known_of r) p k ++ Request.Command (idn 127) ∷ Request.Command (idn 128) ∷ Request.Read (idn 22) 7 ∷ []) i ≡ Some q) → (o : Outcome) (at : EndedAt k i o)
      → at.one.request ≡ q
  asks_at three k below i q is o at =
      let places = subst (AreAt (jobs_of (known_of r) now.plan k)) (split_at k below i o at)
      (places_then r jobs carry restarts opened t j run clear k below (omega (arith, phase_is, three))) in
      let made = some_plan (known_of r) k now.plan (at.newer ++ at.one ∷ at.older) places
      (omega (arith, length-append at.newer (at.one ∷ at.older), at.place)) in
      same_Some at.one.request q
      (sym (place_of (jobs_of (known_of r) (Some made.0) k) at.newer at.older at.one (subst (λ (o : Option PlanView). AreAt (jobs_of (known_of r) o k) (at.newer ++ at.one ∷ at.older)) made.1 places))
      ∙ later (known_of r) k made.0 (length at.older) i at.place ∙ is made.0)

  -- A CHECK THAT HAS FAILED found an own block
  own_outside : t.phase ≡ 3 → (address : ℕ) (list : List Idn) (failed : HasFailedCheck (known_of r) (behind_mdt r jobs carry restarts t.sent j) 12 address list) → failed.place < length r.drives → list_any is_outside (drive_at r failed.place).blocks ≡ true
  own_outside three address list failed low = elim (cases_Bool (list_any is_outside (drive_at r failed.place).blocks)) [
    | inl is ↦ is
    | inr none ↦
        let at = tasks_end (known_of r) (tasks_for (known_of r) jobs) (middle r carry restarts t.sent j) failed.place
        (reads_count (member (known_of r) failed.place) + 12) (Outcome.Complete failed.status) failed.there failed.complete in
        let gives = check_gives_3 r jobs carry restarts opened failed.place low none t j run clear at.newer at.older at.one failed.status (split_at failed.place low 12 (Outcome.Complete failed.status) at) (asks_at three failed.place low 12 (Request.Command (idn 128)) (λ p. refl) (Outcome.Complete failed.status) at) at.ended in
        absurd (false≢true (sym failed.badly ∙ ap ended_well gives))
  ]

  -- THE LIST that the drive then gave has the numbers of these blocks.
  lists_own : t.phase ≡ 3 → (address : ℕ) (list : List Idn) (failed : HasFailedCheck (known_of r) (behind_mdt r jobs carry restarts t.sent j) 12 address list) → failed.place < length r.drives → list_any is_outside (drive_at r failed.place).blocks ≡ true
      → list ≡ map (λ (b : Block). b.idn) (filter is_outside (with_own [] (drive_at r failed.place).blocks))
  lists_own three address list failed low outside =
      let first = tasks_end (known_of r) (tasks_for (known_of r) jobs) (middle r carry restarts t.sent j) failed.place
      (reads_count (member (known_of r) failed.place) + 12) (Outcome.Complete failed.status) failed.there failed.complete in
      let second = tasks_end (known_of r) (tasks_for (known_of r) jobs) (middle r carry restarts t.sent j) failed.place
      (reads_count (member (known_of r) failed.place) + 13) (Outcome.Complete failed.bytes) failed.there failed.listed in
      let behind = same_end (second.newer ++ second.one ∷ []) first.newer second.older (first.one ∷ first.older)
      (append_assoc second.newer (second.one ∷ []) second.older ∙ sym second.split ∙ first.split) (let a = first.place in
      omega (arith, a, second.place)) in
      let bytes_are = list_is r jobs carry restarts opened failed.place low outside t j run clear second.newer first.older second.one
      first.one failed.bytes failed.status (split_at failed.place low 13 (Outcome.Complete failed.bytes) second
      ∙ ap (λ (l : List Begun). second.newer ++ second.one ∷ l) behind)
      (asks_at three failed.place low 13 (Request.Read (idn 22) 7) (λ p. refl) (Outcome.Complete failed.bytes) second) second.ended
      (asks_at three failed.place low 12 (Request.Command (idn 128)) (λ p. refl) (Outcome.Complete failed.status) first) first.ended in
      failed.list_is ∙ ap (λ (l : List ℕ). take 64 (idns_in l)) bytes_are
      ∙ list_back (drive_at r failed.place) (drive_rules r failed.place opened.valid low)
      (omega (arith, (first_store r jobs carry restarts opened failed.place low).few))

  -- A CHECK THAT HAS ENDED has ended well, if no own block was outside.
  never_refused : t.phase ≡ 3 → (k : ℕ) → k < length r.drives → k < length (known_of r).drives → (code : Code) (at : EndedAt k 12 (Outcome.Refused code)) → ⊥
  never_refused three k below there code at = by at.newer refl
    where
      all : AreBegunTasks (known_of r) k (behind_mdt r jobs carry restarts t.sent j).plan ((behind_mdt r jobs carry restarts t.sent j).waiting k) (behind_mdt r jobs carry restarts t.sent j).now.phase (at.newer ++ at.one ∷ at.older) ((behind_mdt r jobs carry restarts t.sent j).tasks k)
      all = subst (λ (l : List Begun). AreBegunTasks (known_of r) k (behind_mdt r jobs carry restarts t.sent j).plan ((behind_mdt r jobs carry restarts t.sent j).waiting k) (behind_mdt r jobs carry restarts t.sent j).now.phase l ((behind_mdt r jobs carry restarts t.sent j).tasks k))
          (split_at k below 12 (Outcome.Refused code) at) (tasks_then r jobs carry restarts opened t j run clear k below)

      newest : (tasks : List Task) → (behind_mdt r jobs carry restarts t.sent j).tasks k ≡ tasks → begun_by ((behind_mdt r jobs carry restarts t.sent j).calls k) ≡ at.one ∷ at.older
          → AreBegunTasks (known_of r) k (behind_mdt r jobs carry restarts t.sent j).plan ((behind_mdt r jobs carry restarts t.sent j).waiting k) (behind_mdt r jobs carry restarts t.sent j).now.phase (at.one ∷ at.older) tasks → ⊥
      newest [] same split are = are
      newest (u ∷ tasks) same split are =
          let ended = are.1.ended in
          let place = at.place in
          never_three k below there at.one at.older code split u tasks same (startup_until (known_of r) k are.1.by_then ((behind_mdt r jobs carry restarts t.sent j).waiting k) (outcomes_in at.older) u (omega (arith, ended, place)) are.1.task) at.ended three

      by : (newer : List Begun) → at.newer ≡ newer → ⊥
      by [] same = newest ((behind_mdt r jobs carry restarts t.sent j).tasks k) refl (at.split ∙ ap (λ (l : List Begun). l ++ at.one ∷ at.older) same)
          (subst (λ (n : List Begun). AreBegunTasks (known_of r) k (behind_mdt r jobs carry restarts t.sent j).plan ((behind_mdt r jobs carry restarts t.sent j).waiting k) (behind_mdt r jobs carry restarts t.sent j).now.phase (n ++ at.one ∷ at.older) ((behind_mdt r jobs carry restarts t.sent j).tasks k)) same all)
      by (x ∷ newer) same =
          let whole = complete_before (known_of r) k (behind_mdt r jobs carry restarts t.sent j).plan ((behind_mdt r jobs carry restarts t.sent j).waiting k) (behind_mdt r jobs carry restarts t.sent j).now.phase x newer at.one at.older ((behind_mdt r jobs carry restarts t.sent j).tasks k)
          (subst (λ (n : List Begun). AreBegunTasks (known_of r) k (behind_mdt r jobs carry restarts t.sent j).plan ((behind_mdt r jobs carry restarts t.sent j).waiting k) (behind_mdt r jobs carry restarts t.sent j).now.phase (n ++ at.one ∷ at.older) ((behind_mdt r jobs carry restarts t.sent j).tasks k)) same all) at.place in
          let both : Some (Outcome.Refused code) ≡ Some (Outcome.Complete whole.0) = sym at.ended ∙ whole.1 in cc

  well_at : t.phase ≡ 3 → (k : ℕ) → k < length r.drives → k < length (known_of r).drives → list_any is_outside (drive_at r k).blocks ≡ false → (o : Outcome) → slice_get (outcomes now k) (reads_count (member (known_of r) k) + 12) ≡ Some o → ended_well (bytes_of o) ≡ true
  well_at three k below there none o got = by o (tasks_end (known_of r) (tasks_for (known_of r) jobs) (middle r carry restarts t.sent j) k (reads_count (member (known_of r) k) + 12) o there got)
    where
      by : (o : Outcome) → EndedAt k 12 o → ended_well (bytes_of o) ≡ true
      by (Outcome.Complete bytes) at =
          ap ended_well (check_gives_3 r jobs carry restarts opened k below none t j run clear at.newer at.older at.one bytes (split_at k below 12 (Outcome.Complete bytes) at) (asks_at three k below 12 (Request.Command (idn 128)) (λ p. refl) (Outcome.Complete bytes) at) at.ended)
      by (Outcome.Refused code) at = absurd (never_refused three k below there code at)
      by Outcome.Broken at = absurd (outcome_unbroken at.one.request at.one.answers at.ended)

  pub ready_if_ended : (k : ℕ) → k < length r.drives → k < length (known_of r).drives → list_any is_outside (drive_at r k).blocks ≡ false → reads_count (member (known_of r) k) + 12 < length (outcomes now k)
      → is_ready (member (known_of r) k) (outcomes now k) ≡ true
  ready_if_ended k below there none ended = elim (cases_lt t.phase 3) [
    | inl early ↦
        let few = few_then r jobs carry restarts opened t j run clear k below (omega (arith, phase_is, early)) in
        let begun = ap (λ (l : List Begun). length l) (begun_then r jobs carry restarts opened t j run clear k below) in
        absurd (omega (arith, few, begun, not_longer (begun_by ((behind_mdt r jobs carry restarts t.sent j).calls k)), ended))
    | inr late ↦ elim (cases_eq t.phase 3) [
      | inl three ↦
          let same = phase_is in
          let got = some_at (outcomes (behind_mdt r jobs carry restarts t.sent j) k) (reads_count (member (known_of r) k) + 12) ended in
          ap₂ (λ (a b : Bool). a && b) (all_checked_in (known_of r) (tasks_for (known_of r) jobs) (middle r carry restarts t.sent j) (omega (arith, same, three)) k there)
          (ap (λ (o : Option Outcome). ended_well (unwrap_or (option_map bytes_of o) [])) got.1 ∙ well_at three k below there none got.0 got.1)
      | inr other ↦ all_ready_in (known_of r) (tasks_for (known_of r) jobs) (middle r carry restarts t.sent j) (omega (arith, phase_is, late, other)) k there
    ]
  ]

  -- THE STOP OF PHASE 3
  pub stop_in_three : t.phase ≡ 3 → (x : Stop) → (behind_mdt r jobs carry restarts t.sent j).stop ≡ Some x → StopsForTheCheck r (behind_mdt r jobs carry restarts t.sent j) x
  stop_in_three three (Stop.NoFit chain) is =
      let fit = fits_in r jobs carry restarts opened t j run clear (omega (arith, three)) in
      absurd ((stops_right r jobs carry restarts opened t j (Stop.NoFit chain) run clear is).no_fit chain refl fit.plan fit.fits)
  stop_in_three three (Stop.Refused address i code) is = absurd (no_refusal (inl three) address i code is)
  stop_in_three three (Stop.BadConfig address i word) is = absurd ((stops_right r jobs carry restarts opened t j (Stop.BadConfig address i word) run clear is).no_bad_config address i word refl)
  stop_in_three three (Stop.Check127 address list) is = absurd ((stops_right r jobs carry restarts opened t j (Stop.Check127 address list) run clear is).no_check127 address list.items refl)
  stop_in_three three (Stop.Check128 address list) is =
      let failed = check128_has_cause (known_of r) (tasks_for (known_of r) jobs) (middle r carry restarts t.sent j) address list.items (λ i. (are_requests (known_of r) jobs i).1) is in
      let low : failed.place < length r.drives = omega (arith, members_count r, failed.there) in
      record {
        address = address;
        list = list.items;
        is = refl;
        failed = failed;
        there = low;
        outside = own_outside three address list.items failed low;
        lists = lists_own three address list.items failed low (own_outside three address list.items failed low);
        fits = fits_in r jobs carry restarts opened t j run clear (omega (arith, three));
      }

  -- AND OF PHASE 4
  no_failed_check : t.phase ≡ 4 → (address : ℕ) (list : List Idn) → HasFailedCheck (known_of r) (behind_mdt r jobs carry restarts t.sent j) 12 address list → ⊥
  no_failed_check four address list failed =
      let same = phase_is in
      let ready = all_ready_in (known_of r) (tasks_for (known_of r) jobs) (middle r carry restarts t.sent j) (omega (arith, same, four)) failed.place failed.there in
      let both = and_parts (is_checked (member (known_of r) failed.place) (outcomes (behind_mdt r jobs carry restarts t.sent j) failed.place)) _ ready in
      false≢true (sym failed.badly ∙ sym (ap (λ (o : Option Outcome). ended_well (unwrap_or (option_map bytes_of o) [])) failed.complete) ∙ both.1)

  none_so : t.phase ≡ 4 → (x : Stop) → (behind_mdt r jobs carry restarts t.sent j).stop ≡ Some x → ⊥
  none_so four (Stop.NoFit chain) is =
      let fit = fits_in r jobs carry restarts opened t j run clear (omega (arith, four)) in
      (stops_right r jobs carry restarts opened t j (Stop.NoFit chain) run clear is).no_fit chain refl fit.plan fit.fits
  none_so four (Stop.Refused address i code) is = no_refusal (inr four) address i code is
  none_so four (Stop.BadConfig address i word) is = (stops_right r jobs carry restarts opened t j (Stop.BadConfig address i word) run clear is).no_bad_config address i word refl
  none_so four (Stop.Check127 address list) is = (stops_right r jobs carry restarts opened t j (Stop.Check127 address list) run clear is).no_check127 address list.items refl
  none_so four (Stop.Check128 address list) is =
      no_failed_check four address list.items (check128_has_cause (known_of r) (tasks_for (known_of r) jobs) (middle r carry restarts t.sent j) address list.items (λ i. (are_requests (known_of r) jobs i).1) is)

  pub no_stop_in_four : t.phase ≡ 4 → (behind_mdt r jobs carry restarts t.sent j).stop ≡ None
  no_stop_in_four four =
      elim (cases_Option (behind_mdt r jobs carry restarts t.sent j).stop) [ inl is ↦ is | inr (x, is) ↦ absurd (none_so four x is) ]
