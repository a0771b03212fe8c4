-- After any calls the requests that were reported, then those that are left, are the requests to the drive in their order.
use Rattle.sercos_law_run.proofs.Words.{◌≡◌, ◌⊎◌, inl, inr, ℕ, zero, suc, ◌+◌, ◌<◌, ◌≤◌, Bool, true, false, List, [], ◌∷◌, drop, length, refl, sym, ap, ◌∙◌, subst, arith, if◌then◌else◌, Option, Some, None, is_some, is_none, option_map, slice_get, option_or, and_parts, cases_eq, Status, Step, Answer, Outcome, outcome_of, next_step, PlanView, Begun, open_in, answers_it, answer_in, with_answer, outcome_with, ready_long, ready_stays, broken_number, numbered, Report, report_of, number_in, count_requests, outcomes_in, Known, Task, member, reads_count, is_ready, not_longer, end_keeps, Restart, Call, HearMst, HearAt, End, settled, begun, addressed_in, ready_to_send, fall_of, still_waiting, past, task_numbers, IsAtStart, RestartsAtStart, TellsInOrder, broken_in, AreNumbered, with_told, told, with_number, after_told, still_to_tell, Ends, Channel, channel_at, beginning, Steps, Stays, Identifies, Hears, Plans, Begins, Moves, Within, Falls, IsTask, OfReads, OfWrites, Checks3, Lists3, Checks4, Lists4, OfWaiting, AreBegunTasks, cases_Bool, has_next, cases_Option, MasterMdt}
use Rattle.sercos_law_run.specs.Agenda.Channels.{hearing}
use Rattle.sercos_law_run.proofs.Agenda.AgendaTasks.{is_task, late_waits}
use Rattle.sercos_law_run.proofs.Agenda.CallMoves.{at_moves, settled_moves, begun_moves, sent_same, always}
use Rattle.sercos_law_run.proofs.Agenda.TaskRuns.{tasks_step, all_ended}
use Rattle.sercos_law_run.proofs.Agenda.Requests.{numbered_drop}
use Rattle.sercos_law_run.proofs.Agenda.ReadWell.{startup_until}

drop_get : (tasks : List Task) (j : ℕ) (t : Task) → slice_get tasks j ≡ Some t → task_numbers (drop j tasks) ≡ t.number ∷ task_numbers (drop (suc j) tasks)
drop_get [] j t got = absurd (cc)
drop_get (x ∷ tasks) zero t got = let same : x ≡ t = cc in ap (λ (y : Task). y.number ∷ task_numbers tasks) same
drop_get (x ∷ tasks) (suc j) t got = drop_get tasks j t got

count_one : (o : Option ℕ) (n : ℕ) → is_some o ≡ true → (if is_some o then n + 1 else n) ≡ n + 1
count_one None n on = absurd (cc)
count_one (Some i) n on = refl

module _ (s : Known) (k : ℕ) (plan : Option PlanView) (waiting : List Task) (have : AreNumbered waiting) where
  early_count : (phase : ℕ) (begun : List Begun) (tasks : List Task) → AreBegunTasks s k plan waiting phase begun tasks → length begun ≤ reads_count (member s k) + 13 → count_requests tasks ≡ 0
  early_count phase [] [] are few = refl
  early_count phase [] (t ∷ tasks) are few = absurd are
  early_count phase (b ∷ older) [] are few = absurd are
  early_count phase (b ∷ older) (t ∷ tasks) are few =
      let ended = are.1.ended in
      (ap (λ (x : Option ℕ). if is_some x then (count_requests tasks) + 1 else (count_requests tasks))
      (startup_until s k are.1.by_then waiting (outcomes_in older) t (omega arith) are.1.task))
      ∙ early_count phase older tasks are.0 (omega arith)

  -- how many requests were begun, if the check for phase 4 has ended well
  pub count_so : (phase : ℕ) (begun : List Begun) (tasks : List Task) → AreBegunTasks s k plan waiting phase begun tasks → is_ready (member s k) (outcomes_in begun) ≡ true → count_requests tasks + (reads_count (member s k) + 13) ≡ length begun
  count_so phase [] [] are ready = let many = ready_long (member s k) [] ready in absurd (omega arith)
  count_so phase [] (t ∷ tasks) are ready = absurd are
  count_so phase (b ∷ older) [] are ready = absurd are
  count_so phase (b ∷ older) (t ∷ tasks) are ready = by (cases_eq (length older) (reads_count (member s k) + 12)) (count_so phase older tasks are.0)
    where
      by : (length older ≡ reads_count (member s k) + 12) ⊎ (length older ≡ reads_count (member s k) + 12 → ⊥) → (is_ready (member s k) (outcomes_in older) ≡ true → count_requests tasks + (reads_count (member s k) + 13) ≡ length older) →
          count_requests (t ∷ tasks) + (reads_count (member s k) + 13) ≡ suc (length older)
      by (inl at) more = let none = early_count phase (b ∷ older) (t ∷ tasks) are (omega arith) in omega arith
      by (inr other) more =
          let many = ready_long (member s k) (outcomes_in (b ∷ older)) ready in
          let few = not_longer (b ∷ older) in
          let ended = are.1.ended in
          let before : is_ready (member s k) (outcomes_in older) ≡ true = sym (elim (cases_Option (outcome_of b.request b.answers)) [
            | inl none ↦ rw none refl
            | inr some ↦ rw some.1 (ready_stays (member s k) (outcomes_in older) some.0 (omega (arith, many, few, ended, other)))
          ]) ∙ ready in
          let some : is_some t.number ≡ true = (let (j, got) = late_waits s k are.1.by_then waiting (outcomes_in older) t (omega arith)
          before are.1.task in have j t got) in
          let one = count_one t.number (count_requests tasks) some in
          let rest = more before in omega arith

  -- a task that begins is of the start-up, or is the first request that waits
  pub begins_first : (phase : ℕ) (begun : List Begun) (tasks : List Task) (t : Task) → AreBegunTasks s k plan waiting phase begun tasks → length (outcomes_in begun) ≡ length begun → IsTask s k plan waiting (outcomes_in begun) t →
      (t.number ≡ None) ⊎ ((is_some t.number ≡ true) × (slice_get waiting (count_requests tasks) ≡ Some t))
  begins_first phase begun tasks t are ended (OfReads r less got same) = inl (ap (λ (x : Task). x.number) same)
  begins_first phase begun tasks t are ended (OfWrites p i r planned less at got same) = inl (ap (λ (x : Task). x.number) same)
  begins_first phase begun tasks t are ended (Checks3 p planned at same) = inl (ap (λ (x : Task). x.number) same)
  begins_first phase begun tasks t are ended (Lists3 at failed same) = inl (ap (λ (x : Task). x.number) same)
  begins_first phase begun tasks t are ended (Checks4 at checked same) = inl (ap (λ (x : Task). x.number) same)
  begins_first phase begun tasks t are ended (Lists4 at failed same) = inl (ap (λ (x : Task). x.number) same)
  begins_first phase begun tasks t are ended (OfWaiting j at ready got) =
      let so = count_so phase begun tasks are ready in
      let same : count_requests tasks ≡ j = omega arith in inr (have j t got, ap (slice_get waiting) same ∙ got)

module _ (s : Known) (k : ℕ) where
  pub record IsTelling (c : Channel) : Type 0 where
    pub tasks : AreBegunTasks s k c.plan c.waiting c.phase c.begun c.tasks
    pub have : AreNumbered c.waiting
    pub quiet : c.heard ≡ false → c.report ≡ None

  some_then : (n : Option ℕ) (x : Option Step) → is_some x ≡ true → (if is_none x then None else broken_number n) ≡ broken_number n
  some_then n None on = absurd (cc)
  some_then n (Some y) on = refl

  -- what an answer ends is reported, and not broken any more
  answer_tells : (n : Option ℕ) (a : Answer) (begun : List Begun) (rest : List (Option ℕ)) → is_some (open_in begun) ≡ true →
      with_number (report_of (outcome_with a begun) n) (with_number (if is_none (open_in (with_answer a begun)) then None else broken_number n) rest) ≡ with_number (if is_none (open_in begun) then None else broken_number n) rest
  answer_tells n a [] rest on = absurd (cc)
  answer_tells n a (b ∷ older) rest on =
      let open_now = some_then n (open_in (b ∷ older)) on in
      elim (cases_Option (outcome_of b.request (a ∷ b.answers))) [
        | inl none ↦ rw none (
            ap (λ (x : Option Report). with_number x rest)
            (some_then n (next_step b.request (a ∷ b.answers)) (has_next b.request (a ∷ b.answers) (ap is_some none)) ∙ sym open_now))
        | inr (o, some) ↦ rw some (ends o n ∙ ap (λ (x : Option Report). with_number x rest) (sym open_now))
      ]
    where
      ends : (o : Outcome) (m : Option ℕ) → with_number (option_map (numbered o) m) rest ≡ with_number (broken_number m) rest
      ends o None = refl
      ends o (Some i) = refl

  hearing_tells : (status : Status) (word : ℕ) (c : Channel) → c.report ≡ None → still_to_tell (hearing status word c) ≡ still_to_tell c
  hearing_tells status word c none =
      let after = with_number (broken_in (hearing status word c)) (task_numbers (drop (count_requests c.tasks) c.waiting)) in
      ap (λ (r : Option Report). with_number (option_or (report_of (if answers_it c.begun status then outcome_with (answer_in status word) c.begun else None) (number_in c.tasks)) r) after) none
      ∙ (elim (cases_Bool (answers_it c.begun status)) [
        | inl on ↦
            rw on (ap (λ (r : Option Report). with_number r
            (with_number (if is_none (open_in (with_answer (answer_in status word) c.begun)) then None else broken_number
            (number_in c.tasks)) (task_numbers (drop (count_requests c.tasks) c.waiting))))
            (elim (cases_Option (report_of (outcome_with (answer_in status word) c.begun) (number_in c.tasks))) [
              | inl none ↦ rw none refl
              | inr some ↦ rw some.1 refl
            ])
            ∙ answer_tells (number_in c.tasks) (answer_in status word) c.begun (task_numbers (drop (count_requests c.tasks) c.waiting))
            (and_parts (is_some (open_in c.begun)) _ on).0)
        | inr off ↦ rw off
      ])
      ∙ sym (ap (λ (r : Option Report). with_number r (with_number (broken_in c) (task_numbers (drop (count_requests c.tasks) c.waiting))))
      none)

  begin_tells : (t : Task) (c : Channel) → is_none (open_in c.begun) ≡ true → (t.number ≡ None) ⊎ ((is_some t.number ≡ true) × (slice_get c.waiting (count_requests c.tasks) ≡ Some t)) → still_to_tell (beginning t c) ≡ still_to_tell c
  begin_tells t c idle which =
      ap (with_number c.report) ((ap (λ (r : Option Report). with_number r (task_numbers (drop (count_requests (t ∷ c.tasks)) c.waiting)))
      (some_then t.number (next_step t.request []) (has_next t.request [] refl))) ∙ (elim which [
        | inl none ↦ ap (λ (o : Option ℕ). with_number (broken_number o) (task_numbers (drop (if is_some o then count_requests c.tasks + 1 else count_requests c.tasks) c.waiting))) none
        | inr some ↦ some_number t.number (count_requests c.tasks) some.0 (drop_get c.waiting (count_requests c.tasks) t some.1)
      ]) ∙ sym (ap (λ (v : Bool). with_number (if v then None else broken_number (number_in c.tasks))
      (task_numbers (drop (count_requests c.tasks) c.waiting))) idle))
    where
      some_number : (o : Option ℕ) (j : ℕ) → is_some o ≡ true → task_numbers (drop j c.waiting) ≡ o ∷ task_numbers (drop (suc j) c.waiting) → with_number (broken_number o) (task_numbers (drop (if is_some o then j + 1 else j) c.waiting)) ≡ task_numbers (drop j c.waiting)
      some_number None j on is = absurd (cc)
      some_number (Some i) j on is = let next : j + 1 ≡ suc j = omega arith in ap (λ (n : ℕ). Some i ∷ task_numbers (drop n c.waiting)) next ∙ sym is

  -- within a cycle nothing is reported, and nothing gets lost
  step_tells : (c d : Channel) → Steps s k c d → IsTelling c → still_to_tell d ≡ still_to_tell c
  step_tells c d (Stays is) tells = ap still_to_tell is
  step_tells c d (Identifies is) tells = ap still_to_tell is
  step_tells c d (Hears status word free is) tells = ap still_to_tell is ∙ hearing_tells status word c (tells.quiet free)
  step_tells c d (Plans plan none two is) tells = ap still_to_tell is
  step_tells c d (Begins t next is) tells =
      ap still_to_tell is
      ∙ begin_tells t c next.idle (begins_first s k c.plan c.waiting tells.have c.phase c.begun c.tasks t tells.tasks (all_ended s k c.plan c.waiting c.phase c.begun c.tasks tells.tasks next.idle)
      (is_task s k c.plan c.waiting (outcomes_in c.begun) t next.next))

  telling_step : (c d : Channel) → Moves s k c d → IsTelling c → IsTelling d
  telling_step c d moves tells = record { tasks = tasks_step s k c d moves tells.tasks; have = have moves; quiet = quiet moves }
    where
      have : Moves s k c d → AreNumbered d.waiting
      have (Within (Stays is)) = subst (λ (x : Channel). AreNumbered x.waiting) (sym is) tells.have
      have (Within (Identifies is)) = subst (λ (x : Channel). AreNumbered x.waiting) (sym is) tells.have
      have (Within (Hears status word free is)) = subst (λ (x : Channel). AreNumbered x.waiting) (sym is) tells.have
      have (Within (Plans plan none two is)) = subst (λ (x : Channel). AreNumbered x.waiting) (sym is) tells.have
      have (Within (Begins t next is)) = subst (λ (x : Channel). AreNumbered x.waiting) (sym is) tells.have
      have (Ends rises done is) = subst (λ (x : Channel). AreNumbered x.waiting) (sym is) tells.have
      have (Falls is) = subst (λ (x : Channel). AreNumbered x.waiting) (sym is) (numbered_drop (count_requests c.tasks) c.waiting tells.have)

      quiet : Moves s k c d → d.heard ≡ false → d.report ≡ None
      quiet (Within (Stays is)) = subst (λ (x : Channel). x.heard ≡ false → x.report ≡ None) (sym is) tells.quiet
      quiet (Within (Identifies is)) = subst (λ (x : Channel). x.heard ≡ false → x.report ≡ None) (sym is) (λ off. absurd (cc))
      quiet (Within (Hears status word free is)) = subst (λ (x : Channel). x.heard ≡ false → x.report ≡ None) (sym is) (λ off. absurd (cc))
      quiet (Within (Plans plan none two is)) = subst (λ (x : Channel). x.heard ≡ false → x.report ≡ None) (sym is) tells.quiet
      quiet (Within (Begins t next is)) = subst (λ (x : Channel). x.heard ≡ false → x.report ≡ None) (sym is) tells.quiet
      quiet (Ends rises done is) = subst (λ (x : Channel). x.heard ≡ false → x.report ≡ None) (sym is) (λ off. refl)
      quiet (Falls is) = subst (λ (x : Channel). x.heard ≡ false → x.report ≡ None) (sym is) (λ off. refl)

  module _ (there : k < length s.drives) (requests : ℕ → List Task) (have : AreNumbered (requests k)) where
    pub telling : (h : List Call) → IsTelling (channel_at (past s requests h) k)
    telling h = always s k there IsTelling telling_step requests (record { tasks = tt; have = have; quiet = λ off. refl }) h

    at_tells : (content : List ℕ) (h : List Call) → still_to_tell (channel_at (past s requests (HearAt content ∷ h)) k) ≡ still_to_tell (channel_at (past s requests h) k)
    at_tells content h = step_tells (channel_at (past s requests h) k) (channel_at (past s requests (HearAt content ∷ h)) k) (at_moves s k content (past s requests h)) (telling h)

    mdt_tells : (h : List Call) → still_to_tell (channel_at (past s requests (MasterMdt ∷ h)) k) ≡ still_to_tell (channel_at (past s requests h) k)
    mdt_tells h =
        let p = past s requests h in
        let c1 = channel_at p k in
        let c2 = channel_at (settled s p) k in
        let m2 = settled_moves s k p in
        ap still_to_tell (sent_same s k there (addressed_in s (ready_to_send s p)) (ready_to_send s p))
        ∙ step_tells c2 (channel_at (begun s (settled s p)) k) (begun_moves s k there p) (telling_step c1 c2 (Within m2) (telling h))
        ∙ step_tells c1 c2 m2 (telling h)

    with_both : (r : Option Report) (reports : List Report) (rest : List (Option ℕ)) → after_told (with_told r reports) rest ≡ after_told reports (with_number r rest)
    with_both None reports rest = refl
    with_both (Some r) reports rest = refl

    -- nothing is to be reported at the start of a cycle
    fresh : (h : List Call) → IsAtStart h → (channel_at (past s requests h) k).report ≡ None
    fresh [] none = refl
    fresh (HearMst content ∷ h) none = fresh h none
    fresh (HearAt content ∷ h) none = absurd none
    fresh (MasterMdt ∷ h) none = absurd none
    fresh (End ∷ h) none = end_keeps (λ q. (channel_at q k).report ≡ None) s (past s requests h) refl (λ done is. refl)
    fresh (Restart ∷ h) none = refl

    pub tells : (h : List Call) → RestartsAtStart h → after_told (told s requests k h) (still_to_tell (channel_at (past s requests h) k)) ≡ task_numbers (requests k)
    tells [] order = refl
    tells (HearMst content ∷ h) order = tells h order
    tells (HearAt content ∷ h) order = ap (after_told (told s requests k h)) (at_tells content h) ∙ tells h order
    tells (MasterMdt ∷ h) order = ap (after_told (told s requests k h)) (mdt_tells h) ∙ tells h order
    tells (End ∷ h) order = let p = past s requests h in
        elim (cases_Bool (is_some (fall_of s (past s requests h)))) [
          | inl on ↦ rw on (
              with_both (broken_in (channel_at p k)) (with_told (channel_at p k).report (told s requests k h))
              (task_numbers (still_waiting p k))
              ∙ with_both (channel_at p k).report (told s requests k h)
              (with_number (broken_in (channel_at p k)) (task_numbers (still_waiting p k))))
          | inr off ↦ rw off (with_both (channel_at p k).report (told s requests k h)
              (with_number (broken_in (channel_at p k)) (task_numbers (still_waiting p k))))
        ] ∙ tells h order
    tells (Restart ∷ h) order = let p = past s requests h in
        with_both (broken_in (channel_at p k)) (told s requests k h) (task_numbers (still_waiting p k))
        ∙ sym (ap (λ (r : Option Report). after_told (told s requests k h)
        (with_number r (with_number (broken_in (channel_at p k)) (task_numbers (still_waiting p k))))) (fresh h order.1))
        ∙ tells h order.0

pub tells_in_order : TellsInOrder
tells_in_order s requests h k have there order = tells s k there requests have h order
