-- Up to phase 3 each request that was begun is the one at its place of the start-up.
use Rattle.sercos_law_run.proofs.Words.{◌≡◌, ◌⊎◌, inl, inr, ℕ, ◌+◌, ◌<◌, ◌≤◌, true, List, [], ◌∷◌, ◌++◌, length, Option, Some, None, refl, sym, ap, ◌∙◌, subst, arith, slice_get, unwrap_or, option_map, false≢true, slice_get_within, same_Some, Request, Outcome, outcome_of, PlanView, Begun, Known, Task, member, idn, reads, reads_count, writes, is_checked, ended_well, given, bytes_of, outcomes_in, with_outcome, AreWaiting, reads_length, get_left, get_right, IsTask, OfReads, OfWrites, Checks3, Lists3, Checks4, Lists4, OfWaiting, AreBegunTasks, HasEndedWell, jobs_of, AreAt}
use Rattle.sercos_step.specs.declared.request.Request.TheVariants as request
use Rattle.sercos_step.specs.declared.request.Outcome.TheVariants as outcome
use Rattle.sercos_law_run.proofs.Agenda.ReadWell.{last_is, startup_until}

-- each complete check for phase 3 among these has ended well
abbrev pub Give3 : List Begun → Type 0
Give3 begun = (newer older : List Begun) (b : Begun) (bytes : List ℕ) → begun ≡ newer ++ b ∷ older → b.request ≡ request.Command (idn 127) → outcome_of b.request b.answers ≡ Some (outcome.Complete bytes) → bytes ≡ 3 ∷ 0 ∷ []

older_gives : (b : Begun) (older : List Begun) → Give3 (b ∷ older) → Give3 older
older_gives b older gives newer rest c bytes split asks complete = gives (b ∷ newer) rest c bytes (ap (λ (l : List Begun). b ∷ l) split) asks complete

pub at_most : (all : List Request) (begun : List Begun) → AreAt all begun → length begun ≤ length all
at_most all [] are = omega arith
at_most all (b ∷ older) (before, here) = let low = slice_get_within all (length older) b.request here in omega (arith, low)

module _ (s : Known) (k : ℕ) where
  -- THE LIST: what stands at its places
  pub reading : (plan : Option PlanView) (n : ℕ) → n < reads_count (member s k) → slice_get (jobs_of s plan k) n ≡ slice_get (reads (member s k)) n
  reading None n low = refl
  reading (Some p) n low = let long = reads_length (member s k) in get_left (reads (member s k)) (writes s p k ++ request.Command (idn 127) ∷ request.Command (idn 128) ∷ request.Read (idn 22) 7 ∷ []) n (omega (arith, low, long))

  pub later : (p : PlanView) (n i : ℕ) → n ≡ reads_count (member s k) + i → slice_get (jobs_of s (Some p) k) n ≡ slice_get (writes s p k ++ request.Command (idn 127) ∷ request.Command (idn 128) ∷ request.Read (idn 22) 7 ∷ []) i
  later p n i at = let long = reads_length (member s k) in get_right (reads (member s k)) (writes s p k ++ request.Command (idn 127) ∷ request.Command (idn 128) ∷ request.Read (idn 22) 7 ∷ []) n i (omega (arith, at, long))

  -- without a plan there are the reads alone
  none_later : (n i : ℕ) → n ≡ reads_count (member s k) + i → n ≤ length (jobs_of s None k) → 1 ≤ i → ⊥
  none_later n i at few some = let long = reads_length (member s k) in omega (arith, at, few, some, long)

  -- so there is a plan if something else was begun
  pub some_plan : (plan : Option PlanView) (begun : List Begun) → AreAt (jobs_of s plan k) begun → reads_count (member s k) < length begun → (p : PlanView) × (plan ≡ Some p)
  some_plan None begun are more = let most = at_most (jobs_of s None k) begun are in let long = reads_length (member s k) in absurd (omega (arith, most, long, more))
  some_plan (Some p) begun are more = (p, refl)

  -- A TASK, after n others that have ended
  task_at : (plan : Option PlanView) (waiting : List Task) (by_then : Option PlanView) (outs : List Outcome) (n : ℕ) (t : Task) → AreWaiting waiting → length outs ≡ n → t.phase ≤ 3 → (by_then ≡ None) ⊎ (by_then ≡ plan)
      → (n ≡ reads_count (member s k) + 12 → is_checked (member s k) outs ≡ true) → n ≤ length (jobs_of s plan k) → IsTask s k by_then waiting outs t → slice_get (jobs_of s plan k) n ≡ Some t.request
  task_at plan waiting by_then outs n t wait long early same checked few (OfReads r less got is) =
      reading plan n (omega (arith, long, less)) ∙ ap (slice_get (reads (member s k))) (sym long) ∙ got ∙ ap (λ (x : Task). Some x.request) (sym is)
  task_at plan waiting by_then outs n t wait long early same checked few (OfWrites p i r has less at got is) =
      subst (λ (o : Option PlanView). slice_get (jobs_of s o k) n ≡ Some t.request) (sym (planned same))
      (later p n i (sym long ∙ at) ∙ get_left (writes s p k) (request.Command (idn 127) ∷ request.Command (idn 128) ∷ request.Read (idn 22) 7 ∷ []) i less ∙ got ∙ ap (λ (x : Task). Some x.request) (sym is))
    where
      planned : (by_then ≡ None) ⊎ (by_then ≡ plan) → plan ≡ Some p
      planned (inl none) = absurd (cc)
      planned (inr e) = sym e ∙ has
  task_at plan waiting by_then outs n t wait long early same checked few (Checks3 p has at is) =
      subst (λ (o : Option PlanView). slice_get (jobs_of s o k) n ≡ Some t.request) (sym (planned same))
      (later p n 11 (sym long ∙ at) ∙ ap (λ (x : Task). Some x.request) (sym is))
    where
      planned : (by_then ≡ None) ⊎ (by_then ≡ plan) → plan ≡ Some p
      planned (inl none) = absurd (cc)
      planned (inr e) = sym e ∙ has
  task_at plan waiting by_then outs n t wait long early same checked few (Lists3 at failed is) = absurd (false≢true (sym failed ∙ checked (sym long ∙ at)))
  task_at None waiting by_then outs n t wait long early same checked few (Checks4 at well is) = absurd (none_later n 12 (sym long ∙ at) few (omega arith))
  task_at (Some p) waiting by_then outs n t wait long early same checked few (Checks4 at well is) = later p n 12 (sym long ∙ at) ∙ ap (λ (x : Task). Some x.request) (sym is)
  task_at None waiting by_then outs n t wait long early same checked few (Lists4 at failed is) = absurd (none_later n 13 (sym long ∙ at) few (omega arith))
  task_at (Some p) waiting by_then outs n t wait long early same checked few (Lists4 at failed is) = later p n 13 (sym long ∙ at) ∙ ap (λ (x : Task). Some x.request) (sym is)
  task_at plan waiting by_then outs n t wait long early same checked few (OfWaiting j at ready got) = let late = wait j t got in absurd (omega (arith, late, early))

  -- THE CHECK FOR PHASE 3 has ended well, if something comes after it.
  checked_before : (plan : Option PlanView) (waiting : List Task) (phase : ℕ) (older : List Begun) (tasks : List Task) → AreBegunTasks s k plan waiting phase older tasks → HasEndedWell older tasks → AreAt (jobs_of s plan k) older → Give3 older
      → length older ≡ reads_count (member s k) + 12 → is_checked (member s k) (outcomes_in older) ≡ true
  checked_before plan waiting phase [] tasks are well at gives long = absurd (omega (arith, long))
  checked_before plan waiting phase (c ∷ older) [] are well at gives long = absurd are
  checked_before None waiting phase (c ∷ older) (u ∷ tasks) are well at gives long = let most = at_most (jobs_of s None k) (c ∷ older) at in absurd (none_later (length (c ∷ older)) 12 long most (omega arith))
  checked_before (Some p) waiting phase (c ∷ older) (u ∷ tasks) are well at gives long =
      ap (λ (x : Option Outcome). ended_well (given (with_outcome x (outcomes_in older)) (reads_count (member s k) + 11))) whole.1
      ∙ ap (λ (x : Option Outcome). ended_well (unwrap_or (option_map bytes_of x) [])) (last_is (outcomes_in older) (outcome.Complete bytes) (reads_count (member s k) + 11) (sym ended))
      ∙ ap ended_well (gives [] older c bytes refl (same_Some c.request (request.Command (idn 127))
      (sym at.1 ∙ later p (length older) 11 (omega (arith, long)))) whole.1)
    where
      ended : length (outcomes_in older) ≡ reads_count (member s k) + 11
      ended = are.1.ended ∙ (omega (arith, long))

      whole : (bytes : List ℕ) × (outcome_of c.request c.answers ≡ Some (outcome.Complete bytes))
      whole = well (startup_until s k are.1.by_then waiting (outcomes_in older) u (let e = ended in omega (arith, e)) are.1.task)

      bytes : List ℕ
      bytes = whole.0

  -- SO EACH REQUEST THAT WAS BEGUN has its place.
  pub begun_at : (plan : Option PlanView) (waiting : List Task) (phase : ℕ) (begun : List Begun) (tasks : List Task) → AreWaiting waiting → phase ≤ 3 → AreBegunTasks s k plan waiting phase begun tasks → Give3 begun → AreAt (jobs_of s plan k) begun
  begun_at plan waiting phase [] tasks wait low are gives = tt
  begun_at plan waiting phase (b ∷ older) [] wait low are gives = absurd are
  begun_at plan waiting phase (b ∷ older) (t ∷ tasks) wait low are gives = let before = begun_at plan waiting phase older tasks wait low are.0 (older_gives b older gives) in (
    before,
    task_at plan waiting are.1.by_then (outcomes_in older) (length older) t wait are.1.ended (let early = are.1.early in omega (arith, early, low)) are.1.same
        (λ long. checked_before plan waiting phase older tasks are.0 are.1.well before (older_gives b older gives) long) (at_most (jobs_of s plan k) older before) are.1.task ∙ ap (λ (x : Request). Some x) (sym are.1.asks),
  )

  -- IN PHASE 2 there is nothing after the check for phase 3.
  early_task : (by_then : Option PlanView) (waiting : List Task) (outs : List Outcome) (t : Task) → AreWaiting waiting → t.phase ≤ 2 → (length outs ≡ reads_count (member s k) + 12 → is_checked (member s k) outs ≡ true) → IsTask s k by_then waiting outs t
      → length outs < reads_count (member s k) + 12
  early_task by_then waiting outs t wait early checked (OfReads r less got is) = omega (arith, less)
  early_task by_then waiting outs t wait early checked (OfWrites p i r has less at got is) = omega (arith, less, at)
  early_task by_then waiting outs t wait early checked (Checks3 p has at is) = omega (arith, at)
  early_task by_then waiting outs t wait early checked (Lists3 at failed is) = absurd (false≢true (sym failed ∙ checked at))
  early_task by_then waiting outs t wait early checked (Checks4 at well is) = let e = ap (λ (x : Task). x.phase) is in absurd (omega (arith, e, early))
  early_task by_then waiting outs t wait early checked (Lists4 at failed is) = let e = ap (λ (x : Task). x.phase) is in absurd (omega (arith, e, early))
  early_task by_then waiting outs t wait early checked (OfWaiting j at ready got) = let late = wait j t got in absurd (omega (arith, late, early))

  pub few_in_two : (plan : Option PlanView) (waiting : List Task) (phase : ℕ) (begun : List Begun) (tasks : List Task) → AreWaiting waiting → phase ≤ 2 → AreBegunTasks s k plan waiting phase begun tasks → Give3 begun → length begun ≤ reads_count (member s k) + 12
  few_in_two plan waiting phase [] tasks wait low are gives = omega arith
  few_in_two plan waiting phase (b ∷ older) [] wait low are gives = absurd are
  few_in_two plan waiting phase (b ∷ older) (t ∷ tasks) wait low are gives =
      let at = begun_at plan waiting phase older tasks wait (omega (arith, low)) are.0 (older_gives b older gives) in
      let early = are.1.early in
      let ended = are.1.ended in
      let less = early_task are.1.by_then waiting (outcomes_in older) t wait (omega (arith, early, low)) (λ long. checked_before plan waiting phase older tasks are.0 are.1.well at (older_gives b older gives) (sym ended ∙ long)) are.1.task in
      omega (arith, less, ended)
