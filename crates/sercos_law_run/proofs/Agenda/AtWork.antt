-- In phases 2 to 4 a channel whose turn it is has an open transfer until its tasks are done.
use Rattle.sercos_law_run.proofs.Words.{◌≡◌, ◌⊎◌, inl, inr, ℕ, zero, suc, ◌+◌, ◌-◌, ◌<◌, ◌≤◌, Bool, true, false, not, List, [], ◌∷◌, min, drop, length, refl, sym, ap, ap₂, ◌∙◌, subst, arith, if◌then◌else◌, ◌==◌, nat_lt, Option, Some, None, is_some, is_none, option_map, slice_get, slice_index_or, All, cases_lt, false≢true, le-leb, cond-true, cond-false, not-true, nat_tests, Request, Outcome, outcome_of, next_step, PlanView, Begun, open_in, begun_by, planned, Stop, IsRefused, ends_so, Known, Task, HasLists, no_member, member, startup, idn, given, ended_well, reads, reads_count, writes, agenda, is_read, is_checked, is_ready, outcomes_in, last_outcome, trouble_by, of_phase, count_requests, AreWaiting, next_in_2, next_in_3, get_some, not_checked, reads_length, next_2, next_3, next_request, Call, Past, first_from, first_place, outcomes, is_idle, all_read, all_checked, settled, in_turn, has_turn, next_task, with_begin, with_task, is_sent_to, still_waiting, addressed_in, ready_to_send, after_mdt, past, leaves, mdt_adds, configured, ready, never_idle, none_troubled, no_stop_before, settles, all_waiting, waiting_settled, IsTask, OfReads, OfWrites, Checks3, Lists3, Checks4, Lists4, OfWaiting, AreBegunTasks, AreNumbered, cases_Bool, cases_Option, has_next, some_there, task_begun, ChannelCall, TransferGoesOn, TransferWhole}
use Rattle.sercos_law_run.proofs.Agenda.TaskRuns.{all_ended, begun_tasks}
use Rattle.sercos_law_run.proofs.Agenda.OneTurn.{from_same}
use Rattle.sercos_law_run.proofs.Agenda.ReportedRuns.{count_so}
use Rattle.sercos_law_run.proofs.Agenda.Requests.{all_numbered}
use Rattle.sercos_law_run.proofs.Views.MasterSame.{send_same}

-- THE FIRST PLACE that passes, if not each one fails.
pub record IsFound (k n : ℕ) (test : ℕ → Bool) : Type 0 where
  pub place : ℕ
  pub found : first_from k n test ≡ Some place
  pub below : place < k + n
  pub passes : test place ≡ true

pub found_some : (k n : ℕ) (test : ℕ → Bool) → is_none (first_from k n test) ≡ false → IsFound k n test
found_some k zero test some = absurd (cc)
found_some k (suc n) test some = by (test k) refl some (λ more. found_some (k + 1) n test more)
  where
    by : (b : Bool) → test k ≡ b → is_none (if b then Some k else first_from (k + 1) n test) ≡ false → (is_none (first_from (k + 1) n test) ≡ false → IsFound (k + 1) n test) → IsFound k (suc n) test
    by true passes some next = record { place = k; found = cond-true (test k) _ _ passes; below = omega arith; passes = passes }
    by false fails some next = let f = next some in record { place = f.place; found = cond-false (test k) _ _ fails ∙ f.found; below = omega (arith, f.below); passes = f.passes }

none_or_some : (o : Option ℕ) → (o ≡ None) ⊎ (is_none o ≡ false)
none_or_some None = inl refl
none_or_some (Some x) = inr refl

-- A REQUEST that has just begun is open.
fresh : (r : Request) (older : List Begun) → is_none (open_in ((record { request = r; answers = [] }) ∷ older)) ≡ false
fresh r older =
    elim (cases_Option (next_step r [])) [ inl none ↦ absurd (false≢true (rw none at (has_next r [] refl))) | inr (y, is) ↦ rw is ]

-- AN OUTCOME of a request that is complete or refused, where nothing else can be.
has_outcome : (b : Begun) (older : List Begun) → is_none (open_in (b ∷ older)) ≡ true → (o : Outcome) × (outcome_of b.request b.answers ≡ Some o) × (((bytes : List ℕ) × (o ≡ Outcome.Complete bytes)) ⊎ ((t : Task) (tasks : List Task) (address : ℕ) → t.number ≡ None → is_none (trouble_by address (t ∷ tasks) (Some o)) ≡ false))
has_outcome b older idle = elim (ends_so b.request b.answers) [
  | TransferWhole bytes is ↦ (Outcome.Complete bytes, is, inl (bytes, refl))
  | IsRefused code is ↦ (Outcome.Refused code, is, inr (λ t tasks address number. rw number refl))
  | TransferGoesOn on ↦ absurd (never_idle has_next b older idle on)
]

-- a list for a failed check brings a stop, whatever its outcome is
list_stops : (raw phase : ℕ) (tasks : List Task) (address : ℕ) (o : Outcome) → (raw ≡ 21) ⊎ (raw ≡ 22) →
    ((bytes : List ℕ) × (o ≡ Outcome.Complete bytes)) ⊎ ((t : Task) (tasks : List Task) (address : ℕ) → t.number ≡ None → is_none (trouble_by address (t ∷ tasks) (Some o)) ≡ false) →
    is_none (trouble_by address (startup phase (Request.Read (idn raw) 7) ∷ tasks) (Some o)) ≡ false
list_stops raw phase tasks address o which (inr refused) = refused (startup phase (Request.Read (idn raw) 7)) tasks address refl
list_stops raw phase tasks address o (inl one) (inl (bytes, is)) = rw (is, one) refl
list_stops raw phase tasks address o (inr two) (inl (bytes, is)) = rw (is, two) refl

module _ (s : Known) (k : ℕ) where
  -- IN PHASE 2 a drive has at most the outcome of the check for phase 3, and in phase 3 that of the check for phase 4.
  not_far : (n : ℕ) → 2 ≤ n → n ≤ 3 → (plan : Option PlanView) (waiting : List Task) (begun : List Begun) (tasks : List Task)
      → AreWaiting waiting
      → AreBegunTasks s k plan waiting n begun tasks → is_none (open_in begun) ≡ true
      → trouble_by (member s k).address tasks (last_outcome begun) ≡ None
      → length (outcomes_in begun) ≤ reads_count (member s k) + (10 + n)
  not_far n two three plan waiting [] tasks wait are idle quiet = omega arith
  not_far n two three plan waiting (b ∷ older) [] wait are idle quiet = absurd are
  not_far n two three plan waiting (b ∷ older) (t ∷ tasks) wait are idle quiet =
      elim (cases_lt (reads_count (member s k) + (10 + n)) (length (outcomes_in (b ∷ older)))) [
        | inl more ↦
            let whole = all_ended s k plan waiting n (b ∷ older) (t ∷ tasks) are idle in
            absurd (by are.1.by_then (omega (arith, more, whole, are.1.ended)) are.1.early are.1.task)
        | inr few ↦ few
      ]
    where
      -- a list has stopped the master
      stopped : (raw phase : ℕ) → (raw ≡ 21) ⊎ (raw ≡ 22) → t ≡ startup phase (Request.Read (idn raw) 7) → ⊥
      stopped raw phase which same =
          let (o, is, how) = has_outcome b older idle in
          let stops : is_none (trouble_by (member s k).address (t ∷ tasks) (last_outcome (b ∷ older))) ≡ false =
          ap₂ (λ (x : Task) (y : Option Outcome). is_none (trouble_by (member s k).address (x ∷ tasks) y)) same is
          ∙ list_stops raw phase tasks (member s k).address o which how in
          false≢true (sym stops ∙ ap (λ (x : Option Stop). is_none x) quiet)

      by : (then_ : Option PlanView) → reads_count (member s k) + (10 + n) ≤ length (outcomes_in older) → t.phase ≤ n
          → IsTask s k then_ waiting (outcomes_in older) t → ⊥
      by then_ far early (OfReads r less got same) = omega (arith, far, less)
      by then_ far early (OfWrites p i r has less at got same) = omega (arith, far, less, at, two)
      by then_ far early (Checks3 p has at same) = omega (arith, far, at, two)
      by then_ far early (Lists3 at failed same) = stopped 21 2 (inl refl) same
      by then_ far early (Checks4 at checked same) = omega (arith, ap (λ (x : Task). x.phase) same, early, far, at)
      by then_ far early (Lists4 at failed same) = stopped 22 3 (inr refl) same
      by then_ far early (OfWaiting j at ready got) = omega (arith, wait j t got, early, three)

  -- so there is a next task of phase 2
  two_more : (plan : Option PlanView) (outcomes : List Outcome) → reads_count (member s k) ≤ 38 → (reads_count (member s k) ≤ length outcomes → is_some plan ≡ true) → length outcomes ≤ reads_count (member s k) + 12 →
      is_checked (member s k) outcomes ≡ false → (r : Request) × (next_in_2 s plan k (min (length outcomes) 100) (is_checked (member s k) outcomes) ≡ Some r)
  two_more plan outcomes few planned most fails = by (nat_lt (length outcomes) (reads_count (member s k))) refl
    where
      n : ℕ
      n = length outcomes

      done : min n 100 ≡ n
      done = omega (arith, few, most)

      by : (reading : Bool) → nat_lt n (reads_count (member s k)) ≡ reading → (r : Request) × (next_in_2 s plan k (min n 100) (is_checked (member s k) outcomes) ≡ Some r)
      by true e =
          let below : n < reads_count (member s k) = grind (arith, nat_tests, e) in
          let some = get_some (reads (member s k)) n (Request.Command (idn 0)) (omega (arith, below, reads_length (member s k))) in
          (slice_index_or (reads (member s k)) n (Request.Command (idn 0)), rw (done, e) some)
      by false e = with_plan plan refl (planned (grind (arith, nat_tests, e)))
        where
          past_reads : reads_count (member s k) ≤ n
          past_reads = grind (arith, nat_tests, e)

          with_plan : (o : Option PlanView) → plan ≡ o → is_some plan ≡ true → (r : Request) × (next_in_2 s plan k (min n 100) (is_checked (member s k) outcomes) ≡ Some r)
          with_plan None none some = absurd (false≢true (sym (ap is_some none) ∙ some))
          with_plan (Some p) has some = here (nat_lt (n - reads_count (member s k)) 11) (n - reads_count (member s k) == 11) refl refl
            where
              here : (writing checking : Bool) → nat_lt (n - reads_count (member s k)) 11 ≡ writing → (n - reads_count (member s k) == 11) ≡ checking → (r : Request) × (next_in_2 s plan k (min n 100) (is_checked (member s k) outcomes) ≡ Some r)
              here true checking f g =
                  let low : n - reads_count (member s k) < 11 = grind (arith, nat_tests, f) in
                  let other : (n == reads_count (member s k) + 12) ≡ false = grind (arith, nat_tests, low, past_reads) in
                  let got = get_some (writes s p k) (n - reads_count (member s k)) (Request.Command (idn 0)) low in
                  (slice_index_or (writes s p k) (n - reads_count (member s k)) (Request.Command (idn 0)), rw (has, done, e, other, f) got)
              here false true f g =
                  let at : n - reads_count (member s k) ≡ 11 = grind (arith, nat_tests, g) in
                  let other : (n == reads_count (member s k) + 12) ≡ false = grind (arith, nat_tests, at, past_reads) in
                  (Request.Command (idn 127), rw (has, done, e, other, f, g) refl)
              here false false f g =
                  let there : (n == reads_count (member s k) + 12) ≡ true = grind (arith, nat_tests, f, g, most, past_reads) in
                  (Request.Read (idn 21) 7, rw (has, done, e, there, fails) refl)

three_more : (n : ℕ) (outcomes : List Outcome) (planned checked ready : Bool) → n ≤ 38 → planned ≡ true → checked ≡ true → ready ≡ false → n + 12 ≤ length outcomes → length outcomes ≤ n + 13 →
    (r : Request) × (next_in_3 n planned (min (length outcomes) 100) checked ready ≡ Some r)
three_more n outcomes planned checked ready few has on off least most =
    let done : min (length outcomes) 100 ≡ length outcomes = omega (arith, few, most) in
    elim (cases_Bool (length outcomes == n + 12)) [
      | inl e ↦ (Request.Command (idn 128), rw (has, on, done, e) refl)
      | inr e ↦ let last : (length outcomes == n + 13) ≡ true = grind (arith, nat_tests, e, least, most) in (Request.Read (idn 22) 7, rw (has, on, off, done, e, last) refl)
    ]

long_enough : (outcomes : List Outcome) (n : ℕ) → ended_well (given outcomes (n + 11)) ≡ true → n + 12 ≤ length outcomes
long_enough outcomes n well = elim (cases_lt (n + 11) (length outcomes)) [
  | inl more ↦ omega (arith, more)
  | inr few ↦ absurd (false≢true (sym (not_checked outcomes (n + 11) few) ∙ well))
]

-- nothing is left of a list that ends before a place
all_dropped : (xs : List Task) (n : ℕ) → slice_get xs n ≡ None → drop n xs ≡ []
all_dropped [] zero none = refl
all_dropped [] (suc n) none = refl
all_dropped (x ∷ xs) zero none = absurd (cc)
all_dropped (x ∷ xs) (suc n) none = all_dropped xs n none

-- WHAT THE MDT'S TURN LEAVES of a channel
module _ (s : Known) (p : Past) (k : ℕ) where
  abbrev q : Past
  q = settled s p

  idle_is : is_idle (after_mdt s p) k ≡ is_none (open_in (begun_by (with_begin (task_begun s q k) (q.calls k))))
  idle_is = ap (λ (l : List Begun). is_none (open_in l))
      (send_same (is_sent_to (ready_to_send s p) (addressed_in s (ready_to_send s p)) k) (with_begin (task_begun s q k) (q.calls k)))

  -- an open one stays open, and one that begins is open
  still_open : is_idle q k ≡ false → is_idle (after_mdt s p) k ≡ false
  still_open busy = idle_is ∙ (elim (cases_Option (task_begun s q k)) [
    | inl is ↦ rw is busy
    | inr (t, is) ↦ rw is (fresh t.request (begun_by (q.calls k)))
  ])

  pub opens : (t : Task) → task_begun s q k ≡ Some t → is_idle (after_mdt s p) k ≡ false
  opens t is = idle_is ∙ ap (λ (o : Option Task). is_none (open_in (begun_by (with_begin o (q.calls k))))) is ∙ fresh t.request (begun_by (q.calls k))

  pub begins_so : (phase : ℕ) (r : Request) → q.stop ≡ None → is_idle q k ≡ true → has_turn s q k ≡ true → q.now.phase ≡ phase → of_phase phase (next_task s q k) ≡ Some (startup phase r) → task_begun s q k ≡ Some (startup phase r)
  begins_so phase r free idle turn is next = rw (free, idle, turn, is) next

few_reads : (s : Known) (k : ℕ) → k < length s.drives → All HasLists s.drives → reads_count (member s k) ≤ 38
few_reads s k below all = let (at, mdt) = all k no_member below in omega (arith, at, mdt)

module _ (s : Known) (requests : ℕ → List Task) (h : List Call) (wait : (j : ℕ) → AreWaiting (requests j)) where
  abbrev pub p0 : Past
  p0 = past s requests h

  abbrev settled_p : Past
  settled_p = settled s p0

  same_outcomes : (k : ℕ) → outcomes settled_p k ≡ outcomes p0 k
  same_outcomes k = ap (λ (calls : ℕ → List ChannelCall). outcomes_in (begun_by (calls k))) (leaves s p0).calls

  settled_waits : (k : ℕ) → AreWaiting (settled_p.waiting k)
  settled_waits k = subst AreWaiting (ap (λ (w : ℕ → List Task). w k) (sym (waiting_settled s p0))) (all_waiting s requests h wait k)

  idle_before : (k : ℕ) → is_idle settled_p k ≡ true → is_none (open_in (begun_by (p0.calls k))) ≡ true
  idle_before k idle = ap (λ (calls : ℕ → List ChannelCall). is_none (open_in (begun_by (calls k)))) (sym (leaves s p0).calls) ∙ idle

  -- PHASE 4
  pub works_in_four : ((j : ℕ) → AreNumbered (requests j)) → (k : ℕ) → k < length s.drives → (after_mdt s p0).now.phase ≡ 4 → (after_mdt s p0).stop ≡ None → is_some (after_mdt s p0).plan ≡ true → is_idle (after_mdt s p0) k ≡ true →
      still_waiting (after_mdt s p0) k ≡ []
  works_in_four have k there four free planned idle = elim (cases_Option (task_begun s settled_p k)) [
    | inl is ↦
        let rests : is_idle settled_p k ≡ true = sym (idle_is s p0 k ∙ ap (λ (o : Option Task). is_none (open_in (begun_by (with_begin o (settled_p.calls k))))) is) ∙ idle in
        let no_stop : is_none settled_p.stop ≡ true = rw free refl in
        let turn : has_turn s settled_p k ≡ true = rw four refl in
        ap (λ (o : Option Task). drop (count_requests (with_task o (settled_p.tasks k))) (settled_p.waiting k)) is
        ∙ all_dropped (settled_p.waiting k) (count_requests (settled_p.tasks k))
        (none_left rests (ap (λ (n : ℕ). of_phase n (next_task s settled_p k)) (sym four) ∙ (sym (rw (no_stop, rests, turn) refl) ∙ is)))
    | inr (t, is) ↦ absurd (false≢true (sym (opens s p0 k t is) ∙ idle))
  ]
    where
      ready_so : is_ready (member s k) (outcomes settled_p k) ≡ true
      ready_so = ap (λ (l : List Outcome). is_ready (member s k) l) (same_outcomes k)
          ∙ ready s requests h k there (rw (sym (leaves s p0).phase ∙ four) refl)

      none_left : is_idle settled_p k ≡ true → of_phase 4 (next_task s settled_p k) ≡ None → slice_get (settled_p.waiting k) (count_requests (settled_p.tasks k)) ≡ None
      none_left rests none =
          let ended : length (outcomes p0 k) ≡ length (begun_by (p0.calls k)) =
          all_ended s k p0.plan (p0.waiting k) p0.now.phase (begun_by (p0.calls k)) (p0.tasks k) (begun_tasks s k there requests h)
          (idle_before k rests) in
          let count = count_so s k p0.plan (p0.waiting k) (all_numbered s requests h have k) p0.now.phase (begun_by (p0.calls k))
          (p0.tasks k) (begun_tasks s k there requests h) (ready s requests h k there (rw (sym (leaves s p0).phase ∙ four) refl)) in
          let tasks = ap (λ (ts : ℕ → List Task). count_requests (ts k)) (settles s p0).tasks in
          let (plan, is) = some_there settled_p.plan planned in
          empty (slice_get (settled_p.waiting k) (count_requests (settled_p.tasks k))) refl
          (ap (of_phase 4) (sym (next_request s plan (settled_p.waiting k) k (outcomes settled_p k) (count_requests (settled_p.tasks k))
          ready_so (omega (arith, ap (λ (l : List Outcome). length l) (same_outcomes k), ended, count, tasks)))
          ∙ ap (λ (o : Option PlanView). slice_get (agenda s o (settled_p.waiting k) k (outcomes settled_p k)) (length (outcomes settled_p k))) (sym is)) ∙ none)
        where
          empty : (o : Option Task) → slice_get (settled_p.waiting k) (count_requests (settled_p.tasks k)) ≡ o → of_phase 4 o ≡ None → slice_get (settled_p.waiting k) (count_requests (settled_p.tasks k)) ≡ None
          empty None got nothing = got
          empty (Some t) got nothing = absurd (cc (kept t (settled_waits k (count_requests (settled_p.tasks k)) t got), nothing))
            where
              kept : (t : Task) → t.phase ≡ 4 → of_phase 4 (Some t) ≡ Some t
              kept t in_phase = let same : (t.phase == 4) ≡ true = grind (arith, nat_tests, in_phase) in rw same refl

  module _ (lists : All HasLists s.drives) where
    few_ended : (n k : ℕ) → 2 ≤ n → n ≤ 3 → p0.now.phase ≡ n → (after_mdt s p0).stop ≡ None → k < length s.drives
        → is_idle settled_p k ≡ true → length (outcomes settled_p k) ≤ reads_count (member s k) + (10 + n)
    few_ended n k two three is free there idle =
        subst (λ (l : List Outcome). length l ≤ reads_count (member s k) + (10 + n)) (sym (same_outcomes k))
        (not_far s k n two three p0.plan (p0.waiting k) (begun_by (p0.calls k)) (p0.tasks k) (all_waiting s requests h wait k)
        (subst (λ (m : ℕ). AreBegunTasks s k p0.plan (p0.waiting k) m (begun_by (p0.calls k)) (p0.tasks k)) is
        (begun_tasks s k there requests h))
        (idle_before k idle) (none_troubled s p0 0 (length s.drives) k (no_stop_before s p0 free) (omega arith) (omega (arith, there))))

    -- PHASE 2
    turn_works : settled_p.now.phase ≡ 2 → settled_p.stop ≡ None → (k : ℕ) → k < length s.drives → in_turn s settled_p ≡ Some k → is_checked (member s k) (outcomes settled_p k) ≡ false →
        (reads_count (member s k) ≤ length (outcomes settled_p k) → is_some settled_p.plan ≡ true) → is_idle (after_mdt s p0) k ≡ false
    turn_works two free k there turn fails planned = elim (cases_Bool (is_idle settled_p k)) [
      | inl idle ↦
          let more = two_more s k settled_p.plan (outcomes settled_p k) (few_reads s k there lists) planned
          (few_ended 2 k (omega arith) (omega arith) (sym (leaves s p0).phase ∙ two) free there idle) fails in
          let next = next_2 s settled_p.plan (settled_p.waiting k) k (outcomes settled_p k) (min (length (outcomes settled_p k)) 100)
          (is_checked (member s k) (outcomes settled_p k)) (few_reads s k there lists) (settled_waits k) refl refl
          ∙ ap (option_map (startup 2)) more.1 in
          let here : (k == k) ≡ true = grind (arith, nat_tests) in
          let has_turn_so : has_turn s settled_p k ≡ true = rw (two, turn, here) refl in
          opens s p0 k (startup 2 more.0) (begins_so s p0 k 2 more.0 free idle has_turn_so two next)
      | inr busy ↦ still_open s p0 k busy
    ]

    pub works_in_two : (after_mdt s p0).now.phase ≡ 2 → (after_mdt s p0).stop ≡ None → (all_read s (after_mdt s p0) ≡ true → is_some (after_mdt s p0).plan ≡ true) → all_checked s (after_mdt s p0) ≡ false →
        (k : ℕ) × (k < length s.drives) × (is_idle (after_mdt s p0) k ≡ false)
    works_in_two two free planned fails = first (none_or_some (first_place s (λ k. not (is_read (member s k) (outcomes settled_p k)))))
      where
        after_same : (k : ℕ) → outcomes (after_mdt s p0) k ≡ outcomes settled_p k
        after_same k = mdt_adds s p0 k ∙ sym (same_outcomes k)

        first : (first_place s (λ k. not (is_read (member s k) (outcomes settled_p k))) ≡ None) ⊎ (is_none (first_place s (λ k. not (is_read (member s k) (outcomes settled_p k)))) ≡ false) → (k : ℕ) × (k < length s.drives) × (is_idle (after_mdt s p0) k ≡ false)
        first (inr some) =
            let f = found_some 0 (length s.drives) (λ k. not (is_read (member s k) (outcomes settled_p k))) some in
            let there : f.place < length s.drives = omega (arith, f.below) in
            let unread = not-true _ f.passes in
            (f.place, there, turn_works two free f.place there (rw f.found refl) (not_checked (outcomes settled_p f.place) ((reads_count (member s f.place)) + 11) (grind (arith, nat_tests, unread))) (λ many. absurd (false≢true (sym unread ∙ le-leb _ _ many))))
        first (inl none) = elim (none_or_some (first_place s (λ k. not (is_checked (member s k) (outcomes settled_p k))))) [
          | inl all ↦ absurd (false≢true (sym fails ∙ ap (λ (o : Option ℕ). is_none o) (from_same (length s.drives) 0 (λ k. not (is_checked (member s k) (outcomes (after_mdt s p0) k))) (λ k. not (is_checked (member s k) (outcomes settled_p k))) (λ k. ap (λ (l : List Outcome). not (is_checked (member s k) l)) (after_same k)) ∙ all)))
          | inr some ↦
              let f = found_some 0 (length s.drives) (λ k. not (is_checked (member s k) (outcomes settled_p k))) some in
              let there : f.place < length s.drives = omega (arith, f.below) in
              (f.place, there, turn_works two free f.place there (rw (none, f.found) refl) (not-true _ f.passes) (λ many. planned read))
        ]
          where
            read : all_read s (after_mdt s p0) ≡ true
            read = ap (λ (o : Option ℕ). is_none o) (from_same (length s.drives) 0 (λ k. not (is_read (member s k) (outcomes (after_mdt s p0) k))) (λ k. not (is_read (member s k) (outcomes settled_p k))) (λ k. ap (λ (l : List Outcome). not (is_read (member s k) l)) (after_same k)) ∙ none)

    -- PHASE 3
    pub works_in_three : (k : ℕ) → k < length s.drives → (after_mdt s p0).now.phase ≡ 3 → (after_mdt s p0).stop ≡ None → is_some (after_mdt s p0).plan ≡ true → is_ready (member s k) (outcomes (after_mdt s p0) k) ≡ false →
        is_idle (after_mdt s p0) k ≡ false
    works_in_three k there three free planned fails =
        let checked = ap (λ (l : List Outcome). is_checked (member s k) l) (same_outcomes k) ∙ configured s requests h k there
        (rw (sym (leaves s p0).phase ∙ three) refl) in
        let unready = ap (λ (l : List Outcome). is_ready (member s k) l) (same_outcomes k ∙ sym (mdt_adds s p0 k)) ∙ fails in
        elim (cases_Bool (is_idle settled_p k)) [
          | inl idle ↦
              let more = three_more (reads_count (member s k)) (outcomes settled_p k) (is_some settled_p.plan) _ _
              (few_reads s k there lists) planned checked unready (long_enough (outcomes settled_p k) (reads_count (member s k)) checked)
              (few_ended 3 k (omega arith) (omega arith) (sym (leaves s p0).phase ∙ three) free there idle) in
              let next = next_3 s settled_p.plan (settled_p.waiting k) k (outcomes settled_p k) (min (length (outcomes settled_p k)) 100)
              (is_checked (member s k) (outcomes settled_p k)) (is_ready (member s k) (outcomes settled_p k)) (few_reads s k there lists)
              (settled_waits k) refl refl refl ∙ ap (option_map (startup 3)) more.1 in
              opens s p0 k (startup 3 more.0) (begins_so s p0 k 3 more.0 free idle (rw three refl) three next)
          | inr busy ↦ still_open s p0 k busy
        ]
