-- In a run of a ring in which nothing is unseen the master stops with `NoFit` only if no plan fits, and never at what is configured.
use Rattle.sercos_law_run.proofs.Words.{◌≡◌, ℕ, zero, suc, ◌<◌, ◌≤◌, Bool, true, false, ◌||◌, List, [], ◌∷◌, ◌++◌, map, length, Option, Some, None, Result, Err, refl, sym, ap, ◌∙◌, subst, arith, if◌then◌else◌, ◌==◌, nat_le, slice_get, is_some, is_none, OnErr, list_any, eq-eqb, false≢true, le-leb, get_or_from_slice_get, slice_get_within, Idn, Request, Outcome, Job, outcome_of, record_bytes, IsValid, PlanView, WishesView, wishes_of, IsStore, store_of, DriveView, RingView, NoneFits, planned, ChainView, planned_none, Begun, begun_by, Stop, idn, declared_times, reads, reads_count, asked_by, stop_by, long_in, len_said, attribute_stop, wishes_given, with_outcome, outcomes_in, Task, MemberView, member, member_of, known_of, tasks_for, reads_length, IsAnswer, AreAnswers, Call, Past, outcomes, carried_clean, never_restarts, View, epoch_begun, AreSound, no_drive, drive_at, looks_back, IsTask, OfReads, OfWrites, Checks3, Lists3, Checks4, Lists4, OfWaiting, AreBegunTasks, IsOpened, AreStored, types, cases_Bool, inl, inr}
use Rattle.sercos_step.specs.declared.request.Request.TheVariants as request
use Rattle.sercos_step.specs.declared.request.Outcome.TheVariants as outcome
use Rattle.sercos_trace.specs.declared.events.Stop.TheVariants as stop
use Rattle.sercos_law_run.proofs.Start.CheckPasses.{ring_drive}
use Rattle.sercos_law_channel.specs.Handshake.Runs.{IsRun}
use Rattle.sercos_law_run.proofs.Agenda.AgendaTasks.{IsIn, First, After, is_in, mapped}
use Rattle.sercos_law_run.proofs.Agenda.ReadWell.{AllComplete, last_is}
use Rattle.sercos_law_run.proofs.Agenda.Requests.{are_requests, all_numbered}
use Rattle.sercos_law_run.proofs.Agenda.StopCauses.{element_asked, says_so}
use Rattle.sercos_law_run.proofs.Agenda.StopRuns.{StopsFor, OfTask, OfPlan, OfLength, stop_has_cause}
use Rattle.sercos_law_run.proofs.Agenda.WritesDone.{raw_of, IsDataWrite, DataWrite, all_data_writes}
use Rattle.sercos_law_run.proofs.Views.Members.{member_is, in_ring, in_known}
use Rattle.sercos_law_run.proofs.Held.AnsweredRuns.{answered_by, answer_of as answer_so}
use Rattle.sercos_law_run.proofs.Held.Runs.{drive_got, wishes_so}
use Rattle.sercos_law_run.proofs.Cited.{begins_tasks}
use Rattle.sercos_law_run.proofs.Start.AnswerLemmas.{no_attribute_stops, typed_have_factors}
use Rattle.sercos_law_run.proofs.Start.WellLemmas.{ring_is_valid}

any_at : (xs : List Idn) (n : ℕ) (i : Idn) (raw : ℕ) → slice_get xs n ≡ Some i → i.raw ≡ raw → list_any (λ (c : Idn). c.raw == raw) xs ≡ true
any_at [] n i raw got is = absurd (cc)
any_at (x ∷ xs) zero i raw got is =
    let same : x ≡ i = cc in
    ap (λ (b : Bool). b || list_any (λ (c : Idn). c.raw == raw) xs) (eq-eqb x.raw raw (ap (λ (c : Idn). c.raw) same ∙ is))
any_at (x ∷ xs) (suc n) i raw got is = elim (cases_Bool (x.raw == raw)) [ inl on ↦ rw on | inr off ↦ rw off (any_at xs n i raw got is) ]

-- an attribute that is read is that of a configured value
configured_read : (m : MemberView) (n : ℕ) (x : Request) (i : Idn) → slice_get (reads m) n ≡ Some x → x ≡ request.Read i 3 → list_any (λ (c : Idn). c.raw == i.raw) (m.at ++ m.mdt) ≡ true
configured_read m n x i got asks = by (is_in (map (λ raw. request.Read (idn raw) 7) declared_times) (map (λ c. request.Read c 3) (m.at ++ m.mdt)) n x got)
  where
    by : IsIn (map (λ raw. request.Read (idn raw) 7) declared_times) (map (λ c. request.Read c 3) (m.at ++ m.mdt)) n x → list_any (λ (c : Idn). c.raw == i.raw) (m.at ++ m.mdt) ≡ true
    by (First less is) =
        let f = mapped (λ raw. request.Read (idn raw) 7) declared_times n x is in
        let e : 7 ≡ 3 = sym (ap element_asked f.2) ∙ ap element_asked asks in absurd (omega (arith, e))
    by (After j at is) =
        let f = mapped (λ c. request.Read c 3) (m.at ++ m.mdt) j x is in
        any_at (m.at ++ m.mdt) j f.0 i.raw f.1 (sym (ap raw_of f.2) ∙ ap raw_of asks)

-- the stops that come of what is configured, or of the plan
abbrev is_of_plan : Stop → Bool
is_of_plan (stop.NoFit chain) = true
is_of_plan (stop.Refused address i code) = false
is_of_plan (stop.BadConfig address i word) = true
is_of_plan (stop.Check127 address list) = false
is_of_plan (stop.Check128 address list) = false

-- a drive and its channel, by these views, with what the master looks back on
pub record IsFollowed (r : RingView) (jobs : List Job) (h : List Call) (views : ℕ → List View) (k : ℕ) : Type 0 where
  pub run : IsRun (drive_at r k).busy (views k)
  pub sound : AreSound (store_of (drive_at r k)) (views k)
  pub stored : AreStored (drive_at r k) (views k)
  pub begun_are : begun_by ((looks_back r jobs h).calls k) ≡ epoch_begun (views k)

module _ (r : RingView) (jobs : List Job) (opened : IsOpened r jobs)
    (first : (k : ℕ) → k < length r.drives → IsStore (store_of (drive_at r k))) (h : List Call) (views : ℕ → List View)
    (all : (k : ℕ) → k < length r.drives → IsFollowed r jobs h views k) where
  abbrev now : Past
  now = looks_back r jobs h

  -- A COMPLETE READ gave the drive's element.
  answer_of : (k n : ℕ) (x : Request) (bytes : List ℕ) → k < length r.drives → n < reads_count (member (known_of r) k) → slice_get (reads (member (known_of r) k)) n ≡ Some x →
      slice_get (outcomes now k) n ≡ Some (outcome.Complete bytes) → IsAnswer (drive_at r k) x (outcome.Complete bytes)
  answer_of k n x bytes below early got complete =
      let stands = all k below in
      answer_so r jobs h k (views k) (store_of (drive_at r k)) (in_known r k below)
      (λ raw b found. (types (store_of (drive_at r k)) raw b (first k below) found).0)
      (ring_drive r k (drive_at r k) opened.valid (drive_got r k below)).blocks stands.run stands.sound stands.stored stands.begun_are n x
      bytes early got complete

  -- If all reads are complete, the master asks of the plan what the ring asks.
  answers : AllComplete (known_of r) now → (k : ℕ) → k < length r.drives → AreAnswers (drive_at r k) (reads (member_of (drive_at r k))) (outcomes now k)
  answers whole k below = subst (λ (m : MemberView). AreAnswers (drive_at r k) (reads m) (outcomes now k)) (member_is r k) (answered_by (drive_at r k) (reads (member (known_of r) k)) (outcomes now k) each)
    where
      each : (n : ℕ) (x : Request) → slice_get (reads (member (known_of r) k)) n ≡ Some x → (o : Outcome) × (slice_get (outcomes now k) n ≡ Some o) × IsAnswer (drive_at r k) x o
      each n x got =
          let less = slice_get_within (reads (member (known_of r) k)) n x got in
          let early : n < reads_count (member (known_of r) k) = omega (arith, less, reads_length (member (known_of r) k)) in
          let (bytes, complete) = whole k (in_known r k below) n early in
          (outcome.Complete bytes, complete, answer_of k n x bytes below early got complete)

  asked : AllComplete (known_of r) now → wishes_given (known_of r) (outcomes now) ≡ wishes_of r
  asked whole = wishes_so r jobs carried_clean never_restarts opened first (outcomes now) (answers whole)

  pub valid_wishes : IsValid (wishes_of r)
  valid_wishes = ring_is_valid r opened.valid (λ k d got.
      let low = slice_get_within r.drives k d got in
      subst (λ (x : DriveView). (length x.at ≤ 16) × (length x.mdt ≤ 16)) (get_or_from_slice_get r.drives k d no_drive got) ((opened.typed k low).at, (opened.typed k low).mdt))

  -- NO ATTRIBUTE THAT IS CONFIGURED STOPS.
  no_bad : (k : ℕ) (b : Begun) (older : List Begun) (t : Task) (tasks : List Task) (i : Idn) (bytes : List ℕ) → k < length r.drives → begun_by (now.calls k) ≡ b ∷ older → now.tasks k ≡ t ∷ tasks → t.number ≡ None →
      t.request ≡ request.Read i 3 → outcome_of b.request b.answers ≡ Some (outcome.Complete bytes) → len_said (long_in bytes) ≡ None → ⊥
  no_bad k b older t tasks i bytes below begun tasks_are number asks ended none = by are.1.by_then are.1.task
    where
      are : AreBegunTasks (known_of r) k now.plan (now.waiting k) now.now.phase (b ∷ older) (t ∷ tasks)
      are = subst (λ (l : List Begun). AreBegunTasks (known_of r) k now.plan (now.waiting k) now.now.phase l (t ∷ tasks)) begun
          (subst (AreBegunTasks (known_of r) k now.plan (now.waiting k) now.now.phase (begun_by (now.calls k))) tasks_are
          (begins_tasks (known_of r) (tasks_for (known_of r) jobs) h k (in_known r k below)))

      there : slice_get (outcomes now k) (length (outcomes_in older)) ≡ Some (outcome.Complete bytes)
      there =
          ap (λ (l : List Begun). slice_get (outcomes_in l) (length (outcomes_in older))) begun
          ∙ ap (λ (x : Option Outcome). slice_get (with_outcome x (outcomes_in older)) (length (outcomes_in older))) ended
          ∙ last_is (outcomes_in older) (outcome.Complete bytes) (length (outcomes_in older)) refl

      other : (e : ℕ) (i' : Idn) → (e ≡ 3 → ⊥) → t.request ≡ request.Read i' e → ⊥
      other e i' differs is = differs (sym (ap element_asked is) ∙ ap element_asked asks)

      by : (by_then : Option PlanView) → IsTask (known_of r) k by_then (now.waiting k) (outcomes_in older) t → ⊥
      by by_then (OfReads x less got same) =
          let reads_it : x ≡ request.Read i 3 = sym (ap (λ (u : Task). u.request) same) ∙ asks in
          let answer : IsAnswer (drive_at r k) (request.Read i 3) (outcome.Complete bytes) =
          subst (λ (y : Request). IsAnswer (drive_at r k) y (outcome.Complete bytes)) reads_it (answer_of k (length (outcomes_in older)) x bytes below less got there) in
          let listed : list_any (λ (c : Idn). c.raw == i.raw) ((drive_at r k).at ++ (drive_at r k).mdt) ≡ true =
          subst (λ (m : MemberView). list_any (λ (c : Idn). c.raw == i.raw) (m.at ++ m.mdt) ≡ true) (member_is r k) (configured_read (member (known_of r) k) (length (outcomes_in older)) x i got reads_it) in
          let quiet : attribute_stop 0 i (long_in bytes) ≡ None = no_attribute_stops r k (drive_at r k) 0 i (outcome.Complete bytes) opened.valid (drive_got r k below) (typed_have_factors (drive_at r k) (opened.typed k below).blocks) listed answer in
          let stopped : attribute_stop 0 i (long_in bytes) ≡ Some (stop.BadConfig 0 i (long_in bytes)) = ap (λ (o : Option ℕ). if is_none o then Some (stop.BadConfig 0 i (long_in bytes)) else None) none in
          let both : None ≡ Some (stop.BadConfig 0 i (long_in bytes)) = sym quiet ∙ stopped in cc
      by by_then (OfWrites p n x has less at got same) = written (all_data_writes (known_of r) p k n x got)
        where
          written : IsDataWrite x → ⊥
          written (DataWrite v values form) = let e : 0 ≡ 3 = sym (ap element_asked (ap (λ (u : Task). u.request) same ∙ form)) ∙ ap element_asked asks in omega (arith, e)
      by by_then (Checks3 p has at same) = let e : 0 ≡ 3 = sym (ap element_asked (ap (λ (u : Task). u.request) same)) ∙ ap element_asked asks in omega (arith, e)
      by by_then (Lists3 at failed same) = other 7 (idn 21) (λ e. omega (arith, e)) (ap (λ (u : Task). u.request) same)
      by by_then (Checks4 at checked same) = let e : 0 ≡ 3 = sym (ap element_asked (ap (λ (u : Task). u.request) same)) ∙ ap element_asked asks in omega (arith, e)
      by by_then (Lists4 at failed same) = other 7 (idn 22) (λ e. omega (arith, e)) (ap (λ (u : Task). u.request) same)
      by by_then (OfWaiting n at ready got) = false≢true
          (sym (ap (λ (o : Option ℕ). is_some o) number)
          ∙ all_numbered (known_of r) (tasks_for (known_of r) jobs) h (λ i. (are_requests (known_of r) jobs i).1) k n t got)

  -- So no outcome of the start-up brings such a stop.
  no_task : (x : Stop) → is_of_plan x ≡ true → (k : ℕ) (b : Begun) (older : List Begun) (t : Task) (tasks : List Task) (o : Outcome) → k < length r.drives → begun_by (now.calls k) ≡ b ∷ older → now.tasks k ≡ t ∷ tasks → t.number ≡ None →
      outcome_of b.request b.answers ≡ Some o → stop_by (member (known_of r) k).address (asked_by t.request) o ≡ Some x → ⊥
  no_task (stop.NoFit chain) of k b older t tasks o below begun tasks_are number ended is = says_so (member (known_of r) k).address
      t.request o (stop.NoFit chain) is
  no_task (stop.BadConfig address i word) of k b older t tasks o below begun tasks_are number ended is =
      let (places, bytes, asks, complete, words, none) = says_so (member (known_of r) k).address t.request o (stop.BadConfig address i word)
      is in
      no_bad k b older t tasks i bytes below begun tasks_are number asks (ended ∙ ap (λ (y : Outcome). Some y) complete) none
  no_task (stop.Refused address i code) of k b older t tasks o below begun tasks_are number ended is = false≢true of
  no_task (stop.Check127 address list) of k b older t tasks o below begun tasks_are number ended is = false≢true of
  no_task (stop.Check128 address list) of k b older t tasks o below begun tasks_are number ended is = false≢true of

  -- With `NoFit` the stop has the chain of what the ring asks.
  pub no_plan_made : (chain : ChainView) → now.stop ≡ Some (stop.NoFit chain) → planned (wishes_of r) ≡ Err chain
  no_plan_made chain is = by (stop_has_cause (known_of r) (tasks_for (known_of r) jobs) h (stop.NoFit chain) is)
    where
      by : StopsFor (known_of r) now (stop.NoFit chain) → planned (wishes_of r) ≡ Err chain
      by (OfTask k b older t tasks o there begun tasks_are number ended brought) = absurd (no_task (stop.NoFit chain) refl k b older t tasks o (in_ring r k there) begun tasks_are number ended brought)
      by (OfPlan other same whole read made) =
          let one : chain ≡ other = cc in
          sym (ap planned (asked whole)) ∙ made ∙ ap (λ (c : ChainView). Err c) (sym one)
      by (OfLength address i word same whole long) = absurd (cc)

  pub no_fit : (chain : ChainView) → now.stop ≡ Some (stop.NoFit chain) → NoneFits (wishes_of r)
  no_fit chain is = subst (λ (q : Result PlanView ChainView). OnErr q (NoneFits (wishes_of r))) (no_plan_made chain is) (planned_none (wishes_of r) valid_wishes (planned (wishes_of r)) refl)

  pub no_bad_config : (address : ℕ) (i : Idn) (word : ℕ) → now.stop ≡ Some (stop.BadConfig address i word) → ⊥
  no_bad_config address i word is = by (stop_has_cause (known_of r) (tasks_for (known_of r) jobs) h (stop.BadConfig address i word) is)
    where
      by : StopsFor (known_of r) now (stop.BadConfig address i word) → ⊥
      by (OfTask k b older t tasks o there begun tasks_are number ended brought) = no_task (stop.BadConfig address i word) refl k b older t tasks o (in_ring r k there) begun tasks_are number ended brought
      by (OfPlan other same whole read made) = cc
      by (OfLength place c v same whole long) =
          let asks = asked whole in
          let most : record_bytes (wishes_of r).drives ≤ 2047 = valid_wishes.drives.mdt_len in
          false≢true (sym long.1 ∙ ap (λ (w : WishesView). nat_le (record_bytes w.drives) 2047) asks ∙ le-leb (record_bytes (wishes_of r).drives) 2047 most)
