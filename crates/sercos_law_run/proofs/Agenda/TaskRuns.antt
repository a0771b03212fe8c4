-- After any calls the tasks of a channel are those of the agenda, each begun where all before it had ended, those of the start-up
-- without error.
use Rattle.sercos_law_run.proofs.Words.{◌≡◌, inl, inr, ℕ, suc, ◌+◌, ◌<◌, ◌≤◌, true, List, [], ◌∷◌, length, refl, sym, ap, ap₂, ◌∙◌, subst, arith, if◌then◌else◌, length-append, cond_both, Option, Some, None, is_some, is_none, Answer, Outcome, outcome_of, next_step, PlanView, Begun, open_in, answers_it, answer_in, with_answer, IsRefused, ends_so, Known, Task, member, with_outcome, outcomes_in, last_outcome, trouble_by, Call, past, never_both, Ends, Channel, channel_at, Stays, Identifies, Hears, Plans, Begins, Moves, Within, Falls, HasEndedWell, AreBegunTasks, cases_Bool, has_next, TransferEnds, TransferGoesOn, TransferWhole}
use Rattle.sercos_law_run.proofs.Agenda.CallMoves.{always}
use Rattle.sercos_law_run.proofs.Agenda.AgendaTasks.{is_task}

module _ (s : Known) (k : ℕ) where
  answered_tasks : (plan : Option PlanView) (waiting : List Task) (phase : ℕ) (a : Answer) (begun : List Begun) (tasks : List Task) → AreBegunTasks s k plan waiting phase begun tasks → AreBegunTasks s k plan waiting phase (with_answer a begun) tasks
  answered_tasks plan waiting phase a [] tasks are = are
  answered_tasks plan waiting phase a (b ∷ older) [] are = are
  answered_tasks plan waiting phase a (b ∷ older) (t ∷ tasks) are = (are.0, record { asks = are.1.asks; by_then = are.1.by_then; same = are.1.same; task = are.1.task; ended = are.1.ended; well = are.1.well; quiet = are.1.quiet; early = are.1.early })

  -- a plan that comes, and a phase that goes up
  planned_tasks : (plan : PlanView) (waiting : List Task) (phase : ℕ) (begun : List Begun) (tasks : List Task) → AreBegunTasks s k None waiting phase begun tasks → AreBegunTasks s k (Some plan) waiting phase begun tasks
  planned_tasks plan waiting phase [] [] are = are
  planned_tasks plan waiting phase [] (t ∷ tasks) are = absurd are
  planned_tasks plan waiting phase (b ∷ older) [] are = absurd are
  planned_tasks plan waiting phase (b ∷ older) (t ∷ tasks) are =
      (planned_tasks plan waiting phase older tasks are.0, record { asks = are.1.asks; by_then = are.1.by_then; same = inl (elim are.1.same [ inl e ↦ e | inr e ↦ e ]); task = are.1.task; ended = are.1.ended; well = are.1.well; quiet = are.1.quiet; early = are.1.early })

  later_tasks : (plan : Option PlanView) (waiting : List Task) (phase later : ℕ) → phase ≤ later → (begun : List Begun) (tasks : List Task) → AreBegunTasks s k plan waiting phase begun tasks → AreBegunTasks s k plan waiting later begun tasks
  later_tasks plan waiting phase later less [] [] are = are
  later_tasks plan waiting phase later less [] (t ∷ tasks) are = absurd are
  later_tasks plan waiting phase later less (b ∷ older) [] are = absurd are
  later_tasks plan waiting phase later less (b ∷ older) (t ∷ tasks) are =
      (later_tasks plan waiting phase later less older tasks are.0, record { asks = are.1.asks; by_then = are.1.by_then; same = are.1.same; task = are.1.task; ended = are.1.ended; well = are.1.well; quiet = are.1.quiet; early = omega (arith, are.1.early, less) })

  -- where no step is open all have ended
  pub all_ended : (plan : Option PlanView) (waiting : List Task) (phase : ℕ) (begun : List Begun) (tasks : List Task) → AreBegunTasks s k plan waiting phase begun tasks → is_none (open_in begun) ≡ true → length (outcomes_in begun) ≡ length begun
  all_ended plan waiting phase [] tasks are idle = refl
  all_ended plan waiting phase (b ∷ older) [] are idle = absurd are
  all_ended plan waiting phase (b ∷ older) (t ∷ tasks) are idle = by (outcome_of b.request b.answers) refl idle
    where
      by : (o : Option Outcome) → outcome_of b.request b.answers ≡ o → is_none (if is_some o then None else next_step b.request b.answers) ≡ true → length (with_outcome o (outcomes_in older)) ≡ suc (length older)
      by None none idle = absurd (never_both (next_step b.request b.answers) (has_next b.request b.answers (ap is_some none)) idle)
      by (Some o) some idle = let one = length-append (outcomes_in older) (o ∷ []) in let same = are.1.ended in omega arith

  -- and those of the start-up without error, where the newest brought no stop
  ended_well_now : (address : ℕ) (begun : List Begun) (tasks : List Task) → is_none (open_in begun) ≡ true → trouble_by address tasks (last_outcome begun) ≡ None → HasEndedWell begun tasks
  ended_well_now address [] tasks idle none = tt
  ended_well_now address (b ∷ older) [] idle none = tt
  ended_well_now address (b ∷ older) (t ∷ tasks) idle none = λ number. by number (ends_so b.request b.answers)
    where
      by : t.number ≡ None → TransferEnds b.request b.answers → (bytes : List ℕ) × (outcome_of b.request b.answers ≡ Some (Outcome.Complete bytes))
      by number (TransferWhole bytes is) = (bytes, is)
      by number (TransferGoesOn on) =
          let open_so : is_none (next_step b.request b.answers) ≡ true = subst (λ (o : Option Outcome). is_none (if is_some o then None else next_step b.request b.answers) ≡ true) on idle in
          absurd (never_both (next_step b.request b.answers) (has_next b.request b.answers (ap is_some on)) open_so)
      by number (IsRefused code refused) =
          let stopped = ap₂ (λ (o : Option Outcome) (n : Option ℕ). trouble_by address ((record t { number = n }) ∷ tasks) o) (sym refused) (sym number) ∙ none in absurd (cc)

  abbrev pub KeepsTasks : Channel → Type 0
  KeepsTasks c = AreBegunTasks s k c.plan c.waiting c.phase c.begun c.tasks

  pub tasks_step : (c d : Channel) → Moves s k c d → KeepsTasks c → KeepsTasks d
  tasks_step c d (Within (Stays is)) are = subst KeepsTasks (sym is) are
  tasks_step c d (Within (Identifies is)) are = subst KeepsTasks (sym is) are
  tasks_step c d (Within (Hears status word free is)) are = subst KeepsTasks (sym is) (cond_both (answers_it c.begun status)
      (with_answer (answer_in status word) c.begun) c.begun
      (λ v. AreBegunTasks s k c.plan c.waiting c.phase v c.tasks)
      (λ on. answered_tasks c.plan c.waiting c.phase (answer_in status word) c.begun c.tasks are) (λ off. are))
  tasks_step c d (Within (Plans plan none two is)) are = subst KeepsTasks (sym is) (planned_tasks plan c.waiting c.phase c.begun c.tasks (subst (λ (o : Option PlanView). AreBegunTasks s k o c.waiting c.phase c.begun c.tasks) none are))
  tasks_step c d (Within (Begins t next is)) are = subst KeepsTasks (sym is) (
    are,
    record {
      asks = refl;
      by_then = c.plan;
      same = inr refl;
      task = is_task s k c.plan c.waiting (outcomes_in c.begun) t next.next;
      ended = all_ended c.plan c.waiting c.phase c.begun c.tasks are next.idle;
      well = ended_well_now (member s k).address c.begun c.tasks next.idle next.well;
      quiet = next.well;
      early = let e = next.in_phase in omega arith;
    },
  )
  tasks_step c d (Ends rises done is) are = subst KeepsTasks (sym is) (elim (cases_Bool rises) [
    | inl on ↦ rw on (later_tasks c.plan c.waiting c.phase (c.phase + 1) (omega arith) c.begun c.tasks are)
    | inr off ↦ rw off are
  ])
  tasks_step c d (Falls is) are = subst KeepsTasks (sym is) tt

  pub begun_tasks : k < length s.drives → (requests : ℕ → List Task) (h : List Call) → KeepsTasks (channel_at (past s requests h) k)
  begun_tasks there requests h = always s k there KeepsTasks tasks_step requests tt h
