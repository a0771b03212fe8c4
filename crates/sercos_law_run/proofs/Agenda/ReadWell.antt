-- If there is a plan, all reads are complete.
use Rattle.sercos_law_run.proofs.Words.{◌≡◌, inl, inr, ℕ, ◌<◌, true, List, [], ◌∷◌, ◌++◌, length, refl, sym, ap, ap₂, ◌∙◌, arith, length-append, Option, Some, None, slice_get, same_Some, slice_get_within, leb-true, cases_eq, Outcome, outcome_of, PlanView, Begun, begun_by, IsRefused, ends_so, get_left, get_right, Known, Task, member, is_read, reads_count, with_outcome, outcomes_in, last_outcome, trouble_by, Adds, at_adds, none_troubled, each_passes, mdt_adds, leaves, past_keeps, settled_keeps, Call, Past, outcomes, after_taken, all_read, first_trouble, settled, after_mdt, past, HasBegunTasks, EndsTasks, HasEndedAt, IsTask, OfReads, OfWrites, Checks3, Lists3, Checks4, Lists4, OfWaiting, HasEndedWell, AreBegunTasks, AreReadWell, ◌+◌, cases_Option, ChannelCall, TransferEnds, TransferGoesOn, TransferWhole}
use Rattle.sercos_law_run.proofs.Agenda.WritesDone.{some_at}
use Rattle.sercos_law_run.proofs.Agenda.TaskRuns.{begun_tasks}

pub last_is : {A : Type 0} (xs : List A) (y : A) (j : ℕ) → j ≡ length xs → slice_get (xs ++ y ∷ []) j ≡ Some y
last_is xs y j is = get_right xs (y ∷ []) j 0 (omega (arith, is))

-- the tasks up to the check for phase 4 are of the start-up
pub startup_until : (s : Known) (k : ℕ) (plan : Option PlanView) (waiting : List Task) (all : List Outcome) (t : Task)
    → length all < reads_count (member s k) + 13 → IsTask s k plan waiting all t → t.number ≡ None
startup_until s k plan waiting all t few (OfReads r less got same) = ap (λ (x : Task). x.number) same
startup_until s k plan waiting all t few (OfWrites p i r has less at got same) = ap (λ (x : Task). x.number) same
startup_until s k plan waiting all t few (Checks3 p has at same) = ap (λ (x : Task). x.number) same
startup_until s k plan waiting all t few (Lists3 at failed same) = ap (λ (x : Task). x.number) same
startup_until s k plan waiting all t few (Checks4 at checked same) = ap (λ (x : Task). x.number) same
startup_until s k plan waiting all t few (Lists4 at failed same) = ap (λ (x : Task). x.number) same
startup_until s k plan waiting all t few (OfWaiting j at ready got) = absurd (omega (arith, few, at))

module _ (s : Known) (k : ℕ) (plan : Option PlanView) (waiting : List Task) (phase : ℕ) where
  pub ended_at : (begun : List Begun) (tasks : List Task) (j : ℕ) (o : Outcome) → AreBegunTasks s k plan waiting phase begun tasks → slice_get (outcomes_in begun) j ≡ Some o → HasEndedAt s k plan waiting phase begun j o
  ended_at [] tasks j o are got = absurd (cc)
  ended_at (b ∷ older) [] j o are got = absurd are
  ended_at (b ∷ older) (t ∷ tasks) j o are got = by (outcome_of b.request b.answers) refl got (ended_at older tasks j o are.0)
    where
      after : HasEndedAt s k plan waiting phase older j o → HasEndedAt s k plan waiting phase (b ∷ older) j o
      after is = record { newer = b ∷ is.newer; one = is.one; older = is.older; task = is.task; tasks = is.tasks; split = ap (λ (l : List Begun). b ∷ l) is.split; place = is.place; ended = is.ended; is = is.is }

      by : (x : Option Outcome) → outcome_of b.request b.answers ≡ x → slice_get (with_outcome x (outcomes_in older)) j ≡ Some o → (slice_get (outcomes_in older) j ≡ Some o → HasEndedAt s k plan waiting phase older j o) → HasEndedAt s k plan waiting phase (b ∷ older) j o
      by None none got more = after (more got)
      by (Some y) some got more = elim (cases_eq j (length (outcomes_in older))) [
        | inl at ↦
            let long = are.1.ended in
            let same : y ≡ o = same_Some y o (sym (last_is (outcomes_in older) y j at) ∙ got) in
            record { newer = []; one = b; older = older; task = t; tasks = tasks; split = refl; place = omega arith; ended = some ∙ ap (λ (z : Outcome). Some z) same; is = are.1 }
        | inr other ↦
            let less = slice_get_within (outcomes_in older ++ y ∷ []) j o got in
            let many = length-append (outcomes_in older) (y ∷ []) in
            after (more (sym (get_left (outcomes_in older) (y ∷ []) j (omega (arith, less, many, other))) ∙ got))
      ]

  -- The newest is complete, if it has ended and is of the start-up.
  abbrev pub IsWellIfEnded : List Begun → List Task → Type 0
  IsWellIfEnded (b ∷ older) (t ∷ tasks) = t.number ≡ None → (o : Outcome) → outcome_of b.request b.answers ≡ Some o → (bytes : List ℕ) × (o ≡ Outcome.Complete bytes)
  IsWellIfEnded _ _ = Unit {0}

  well_if : (begun : List Begun) (tasks : List Task) → HasEndedWell begun tasks → IsWellIfEnded begun tasks
  well_if [] tasks well = tt
  well_if (b ∷ older) [] well = tt
  well_if (b ∷ older) (t ∷ tasks) well = λ number o ended. let w = well number in
      (w.0, (let one = w.1 in let same : o ≡ Outcome.Complete w.0 = cc in same))

  pub no_trouble_well : (address : ℕ) (begun : List Begun) (tasks : List Task) → trouble_by address tasks (last_outcome begun) ≡ None → IsWellIfEnded begun tasks
  no_trouble_well address [] tasks none = tt
  no_trouble_well address (b ∷ older) [] none = tt
  no_trouble_well address (b ∷ older) (t ∷ tasks) none = λ number o ended. by number o ended (ends_so b.request b.answers)
    where
      by : t.number ≡ None → (o : Outcome) → outcome_of b.request b.answers ≡ Some o → TransferEnds b.request b.answers → (bytes : List ℕ) × (o ≡ Outcome.Complete bytes)
      by number o ended (TransferWhole bytes is) = (bytes, (let same : o ≡ Outcome.Complete bytes = cc in same))
      by number o ended (TransferGoesOn on) = absurd (cc)
      by number o ended (IsRefused code refused) =
          let stopped = ap₂ (λ (x : Option Outcome) (n : Option ℕ). trouble_by address ((record t { number = n }) ∷ tasks) x) (sym refused) (sym number) ∙ none in absurd (cc)

  -- so each read that has ended is complete
  pub reads_complete : (begun : List Begun) (tasks : List Task) (j : ℕ) (o : Outcome) → AreBegunTasks s k plan waiting phase begun tasks → IsWellIfEnded begun tasks → j < reads_count (member s k) → slice_get (outcomes_in begun) j ≡ Some o → (bytes : List ℕ) × (o ≡ Outcome.Complete bytes)
  reads_complete [] tasks j o are well early got = absurd (cc)
  reads_complete (b ∷ older) [] j o are well early got = absurd are
  reads_complete (b ∷ older) (t ∷ tasks) j o are well early got = by (outcome_of b.request b.answers) refl got (reads_complete older tasks j o are.0 (well_if older tasks are.1.well) early)
    where
      by : (x : Option Outcome) → outcome_of b.request b.answers ≡ x → slice_get (with_outcome x (outcomes_in older)) j ≡ Some o → (slice_get (outcomes_in older) j ≡ Some o → (bytes : List ℕ) × (o ≡ Outcome.Complete bytes)) → (bytes : List ℕ) × (o ≡ Outcome.Complete bytes)
      by None none got more = more got
      by (Some y) some got more = elim (cases_eq j (length (outcomes_in older))) [
        | inl at ↦
            let number = startup_until s k are.1.by_then waiting (outcomes_in older) t (omega arith) are.1.task in
            let w = well number y some in (w.0, one y o (sym (last_is (outcomes_in older) y j at) ∙ got) w.0 w.1)
        | inr other ↦
            let less = slice_get_within (outcomes_in older ++ y ∷ []) j o got in
            let many = length-append (outcomes_in older) (y ∷ []) in
            more (sym (get_left (outcomes_in older) (y ∷ []) j (omega (arith, less, many, other))) ∙ got)
      ]
        where
          one : (a c : Outcome) → Some a ≡ Some c → (bytes : List ℕ) → a ≡ Outcome.Complete bytes → c ≡ Outcome.Complete bytes
          one a c e bytes is = cc

module _ (s : Known) where
  abbrev pub AllComplete : Past → Type 0
  AllComplete p = (k : ℕ) → k < length s.drives → (j : ℕ) → j < reads_count (member s k) → (bytes : List ℕ) × (slice_get (outcomes p k) j ≡ Some (Outcome.Complete bytes))

  -- where outcomes come at the end alone, the first stay
  pub stay_complete : (p q : Past) → Adds p q → AllComplete p → AllComplete q
  stay_complete p q adds all k there j early =
      let before = all k there j early in (
        before.0,
        ap (λ (l : List Outcome). slice_get l j) (adds k).1 ∙ (elim (cases_Option (adds k).0) [
          | inl none ↦ rw none before.1
          | inr (y, some) ↦
              rw some (get_left (outcomes p k) (y ∷ []) j (slice_get_within (outcomes p k) j (Outcome.Complete before.0) before.1) ∙
              before.1)
        ]),
      )

  stays_well : (p q : Past) → Adds p q → q.plan ≡ p.plan → AreReadWell s p → AreReadWell s q
  stays_well p q adds same is plan has = stay_complete p q adds (is plan (sym same ∙ has))

  -- where no stop comes of the answers, they are complete
  pub complete : (p : Past) → ((k : ℕ) → k < length s.drives → HasBegunTasks s p k) → all_read s p ≡ true → first_trouble s p ≡ None
      → AllComplete p
  complete p are all none k there j early =
      let read = each_passes (length s.drives) 0 (λ i. is_read (member s i) (outcomes p i)) all k (omega arith) (omega (arith, there)) in
      (let (o, got) = some_at (outcomes p k) j (omega (arith, early, (leb-true (reads_count (member s k)) (length (outcomes p k)) read))) in
      let (bytes, is) = reads_complete s k p.plan (p.waiting k) p.now.phase (begun_by (p.calls k)) (p.tasks k) j o (are k there)
      (no_trouble_well s k p.plan (p.waiting k) p.now.phase (member s k).address (begun_by (p.calls k)) (p.tasks k)
      (none_troubled s p 0 (length s.drives) k none (omega arith) (omega (arith, there)))) early got in
      (bytes, got ∙ ap (λ (x : Outcome). Some x) is))

  pub are_read_well : (requests : ℕ → List Task) (h : List Call) → AreReadWell s (past s requests h)
  are_read_well requests = past_keeps (AreReadWell s) s requests (record {
    first = λ plan is. absurd (cc);
    mst = λ h whole is. is;
    taken = λ h k content inside taken is. stays_well (past s requests h) (after_taken k content (past s requests h))
        (at_adds k content (past s requests h)) refl is;
    mdt = λ h. λ is. stays_well (settled s (past s requests h)) (after_mdt s (past s requests h))
        (λ j. (
          None,
          (mdt_adds s (past s requests h) j ∙ sym
              (ap (λ (calls : ℕ → List ChannelCall). outcomes_in (begun_by (calls j))) (leaves s (past s requests h)).calls)),
        ))
        refl
        (settled_keeps (AreReadWell s) s (past s requests h) (λ rests. is) (λ x none brings. is)
        (λ plan makes other has. complete (past s requests h) (λ k there. begun_tasks s k there requests h) makes.by_reads.read
        makes.untroubled));
    on = λ h done at is. is;
    new = λ h cycle before plan is. absurd (cc);
  })

pub ends_tasks : EndsTasks
ends_tasks s requests h k j o there got =
    let p = past s requests h in
    ended_at s k p.plan (p.waiting k) p.now.phase (begun_by (p.calls k)) (p.tasks k) j o (begun_tasks s k there requests h) got
