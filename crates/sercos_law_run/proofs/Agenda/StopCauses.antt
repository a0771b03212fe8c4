-- The cause of each kind of stop.
use Rattle.sercos_law_run.proofs.Words.{same_Some, ◌≡◌, ◌⊎◌, inl, inr, ℕ, suc, ◌+◌, ◌<◌, Bool, true, false, not, ◌&&◌, List, [], ◌∷◌, ◌++◌, map, take, length, refl, sym, ap, ap₂, ◌∙◌, subst, arith, if◌then◌else◌, ◌==◌, Option, Some, None, Err, is_some, option_map, slice_get, unwrap_or, list_all, eqb-true, eq-eqb, not-true, Code, Idn, Request, Outcome, outcome_of, PlanView, ChainView, planned, Begun, begun_by, Stop, stop_by, asked_by, len_said, long_in, idns_in, attribute_stop, list_stop, reads, declared_times, idn, reads_count, is_checked, is_ready, given, bytes_of, ended_well, wishes_given, Known, Task, MemberView, member, startup, outcomes_in, with_outcome, last_outcome, trouble_by, get_left, before_end, Call, past, outcomes, all_read, IsTask, OfReads, OfWrites, Checks3, Lists3, Checks4, Lists4, OfWaiting, HasEndedWell, IsBegunTask, AreBegunTasks, HasRefused, IsBadAttribute, AreTooLong, HasFailedCheck, AreNumbered, cases_Option, each_at}
use Rattle.sercos_law_run.specs.Agenda.Stops.{HasEnded}
use Rattle.sercos_law_run.proofs.Agenda.AgendaTasks.{First, After, is_in, mapped}
use Rattle.sercos_law_run.proofs.Agenda.TaskRuns.{begun_tasks}
use Rattle.sercos_law_run.proofs.Agenda.WritesDone.{raw_of, DataWrite, all_data_writes}
use Rattle.sercos_law_run.proofs.Agenda.ReadWell.{last_is, startup_until}
use Rattle.sercos_law_run.proofs.Agenda.StopRuns.{StopsFor, OfTask, OfPlan, OfLength, stop_has_cause}
use Rattle.sercos_law_run.proofs.Agenda.Requests.{all_numbered}

-- WHAT AN OUTCOME SAYS, by what is asked: the list of a check,
abbrev IsListed : ℕ → Request → Outcome → ℕ → ℕ → List Idn → Type 0
IsListed address r o raw place list = (place ≡ address) × (i : Idn) × (bytes : List ℕ) × (r ≡ Request.Read i 7) × (i.raw ≡ raw) ×
    (o ≡ Outcome.Complete bytes) × (list ≡ take 64 (idns_in bytes))

-- a refusal, or an attribute that is bad.
abbrev pub Says : ℕ → Request → Outcome → Stop → Type 0
Says address r o (Stop.NoFit chain) = ⊥
Says address r o (Stop.Refused place i code) = (place ≡ address) × (i ≡ (asked_by r).idn) × (o ≡ Outcome.Refused code)
Says address r o (Stop.BadConfig place i word) = (place ≡ address) × (bytes : List ℕ) × (r ≡ Request.Read i 3) ×
    (o ≡ Outcome.Complete bytes) × (word ≡ long_in bytes) × (len_said (long_in bytes) ≡ None)
Says address r o (Stop.Check127 place list) = IsListed address r o 21 place list.items
Says address r o (Stop.Check128 place list) = IsListed address r o 22 place list.items

pub says_so : (address : ℕ) (r : Request) (o : Outcome) (x : Stop) → stop_by address (asked_by r) o ≡ Some x → Says address r o x
says_so address r (Outcome.Refused code) x is = subst (Says address r (Outcome.Refused code)) (same_Some _ _ is) (refl, refl, refl)
says_so address r Outcome.Broken x is = absurd (cc)
says_so address (Request.Write i e bytes) (Outcome.Complete given_bytes) x is = absurd (cc)
says_so address (Request.Command i) (Outcome.Complete given_bytes) x is = absurd (cc)
says_so address (Request.Read i e) (Outcome.Complete bytes) x is = by (e == 3) (e == 7) refl refl is
  where
    lists : (a b : Bool) → (i.raw == 21) ≡ a → (i.raw == 22) ≡ b → e ≡ 7 → (if a then Some (Stop.Check127 address (record { items = take 64 (idns_in bytes) })) else (if b then Some (Stop.Check128 address (record { items = take 64 (idns_in bytes) })) else None)) ≡ Some x →
        Says address (Request.Read i e) (Outcome.Complete bytes) x
    lists true b one two seven is = subst (Says address (Request.Read i e) (Outcome.Complete bytes)) (same_Some _ _ is)
        (refl, i, bytes, ap (Request.Read i) seven, eqb-true i.raw 21 one, refl, refl)
    lists false true one two seven is = subst (Says address (Request.Read i e) (Outcome.Complete bytes)) (same_Some _ _ is)
        (refl, i, bytes, ap (Request.Read i) seven, eqb-true i.raw 22 two, refl, refl)
    lists false false one two seven is = absurd (cc)

    by : (a b : Bool) → (e == 3) ≡ a → (e == 7) ≡ b → (if a then attribute_stop address i (long_in bytes) else (if b then list_stop address i.raw bytes else None)) ≡ Some x → Says address (Request.Read i e) (Outcome.Complete bytes) x
    by true b three seven is = elim (cases_Option (len_said (long_in bytes))) [
      | inl none ↦ subst (Says address (Request.Read i e) (Outcome.Complete bytes)) (same_Some _ _ (rw none at is))
          (refl, bytes, ap (Request.Read i) (eqb-true e 3 three), refl, refl, none)
      | inr (n, some) ↦ let three = eqb-true e 3 three in let is = rw some at is in absurd (cc)
    ]
    by false true three seven is = lists (i.raw == 21) (i.raw == 22) refl refl (eqb-true e 7 seven) is
    by false false three seven is = absurd (cc)

-- THE LISTS. No time that a drive declares is one of them.
abbrev pub element_asked : Request → ℕ
element_asked (Request.Read i e) = e
element_asked (Request.Write i e bytes) = 0
element_asked (Request.Command i) = 0

not_in : (n : ℕ) (xs : List ℕ) (j x : ℕ) → list_all (λ (m : ℕ). not (m == n)) xs ≡ true → slice_get xs j ≡ Some x → x ≡ n → ⊥
not_in n xs j x all got is =
    let off = not-true (x == n) (each_at (λ (m : ℕ). not (m == n)) xs j x all got) in
    let on = eq-eqb x n is in absurd (cc)

no_read : (d : MemberView) (j : ℕ) (r : Request) (i : Idn) → list_all (λ (m : ℕ). not (m == i.raw)) declared_times ≡ true → slice_get (reads d) j ≡ Some r → r ≡ Request.Read i 7 → ⊥
no_read d j r i none got form = elim (is_in (map (λ raw. Request.Read (idn raw) 7) declared_times) (map (λ i. Request.Read i 3) (d.at ++ d.mdt)) j r got) [
  | First less is ↦ let m = mapped (λ raw. Request.Read (idn raw) 7) declared_times j r is in not_in i.raw declared_times j m.0 none m.1 (sym (ap raw_of m.2) ∙ ap raw_of form)
  | After n at is ↦
      let e : 3 ≡ 7 = sym (ap element_asked (mapped (λ i. Request.Read i 3) (d.at ++ d.mdt) n r is).2) ∙ ap element_asked form in
      omega (arith, e)
]

-- a task of the start-up that reads one of them comes after its check, which hasn't ended well
data IsList (s : Known) (k raw : ℕ) (all : List Outcome) : Type 0 where
  List3 : raw ≡ 21 → length all ≡ reads_count (member s k) + 12 → is_checked (member s k) all ≡ false → IsList s k raw all
  List4 : raw ≡ 22 → length all ≡ reads_count (member s k) + 13 → is_ready (member s k) all ≡ false → IsList s k raw all

list_task : (s : Known) (k : ℕ) (plan : Option PlanView) (waiting : List Task) (all : List Outcome) (t : Task) (i : Idn) → AreNumbered waiting → list_all (λ (m : ℕ). not (m == i.raw)) declared_times ≡ true →
    t.number ≡ None → t.request ≡ Request.Read i 7 → IsTask s k plan waiting all t → IsList s k i.raw all
list_task s k plan waiting all t i have none number asks (OfReads r less got same) = absurd (no_read (member s k) (length all) r i none got (sym (ap (λ (x : Task). x.request) same) ∙ asks))
list_task s k plan waiting all t i have none number asks (OfWrites p j r has less at got same) = elim (all_data_writes s p k j r got) [
  | DataWrite v bytes form ↦ let e = sym asks ∙ ap (λ (x : Task). x.request) same ∙ form in absurd (cc)
]
list_task s k plan waiting all t i have none number asks (Checks3 p has at same) = let e = sym asks ∙ ap (λ (x : Task). x.request) same in absurd (cc)
list_task s k plan waiting all t i have none number asks (Lists3 at failed same) = List3 (ap raw_of (sym asks ∙ ap (λ (x : Task). x.request) same)) at failed
list_task s k plan waiting all t i have none number asks (Checks4 at checked same) = let e = sym asks ∙ ap (λ (x : Task). x.request) same in absurd (cc)
list_task s k plan waiting all t i have none number asks (Lists4 at failed same) = List4 (ap raw_of (sym asks ∙ ap (λ (x : Task). x.request) same)) at failed
list_task s k plan waiting all t i have none number asks (OfWaiting j at ready got) = let some = have j t got in let off : is_some t.number ≡ false = ap is_some number in absurd (cc)

-- THE TASK BEFORE the newest one.
record HasBefore (s : Known) (k : ℕ) (plan : Option PlanView) (waiting : List Task) (phase : ℕ) (older : List Begun) (tasks : List Task) (n : ℕ) : Type 0 where
  one : Begun
  rest : List Begun
  task : Task
  others : List Task
  older_is : older ≡ one ∷ rest
  tasks_are : tasks ≡ task ∷ others
  is : IsBegunTask s k plan waiting phase one task rest others
  at : length (outcomes_in rest) ≡ n

before : (s : Known) (k : ℕ) (plan : Option PlanView) (waiting : List Task) (phase : ℕ) (older : List Begun) (tasks : List Task) (n : ℕ) → AreBegunTasks s k plan waiting phase older tasks → length (outcomes_in older) ≡ length older →
    length (outcomes_in older) ≡ suc n → HasBefore s k plan waiting phase older tasks n
before s k plan waiting phase [] tasks n are ended at = absurd (omega (arith, at))
before s k plan waiting phase (c ∷ rest) [] n are ended at = absurd are
before s k plan waiting phase (c ∷ rest) (u ∷ others) n are ended at =
    let inner = are.1.ended in
    record { one = c; rest = rest; task = u; others = others; older_is = refl; tasks_are = refl; is = are.1; at = omega (arith, inner, ended, at) }

module _ (s : Known) (requests : ℕ → List Task) (h : List Call) where
  -- what was begun last on a channel, and its task
  newest_so : (k : ℕ) → k < length s.drives → (b : Begun) (older : List Begun) (t : Task) (tasks : List Task) → begun_by ((past s requests h).calls k) ≡ b ∷ older → (past s requests h).tasks k ≡ t ∷ tasks →
      AreBegunTasks s k (past s requests h).plan ((past s requests h).waiting k) (past s requests h).now.phase (b ∷ older) (t ∷ tasks)
  newest_so k there b older t tasks begun tasks_are =
      let p = past s requests h in
      subst (λ (l : List Begun). AreBegunTasks s k p.plan (p.waiting k) p.now.phase l (t ∷ tasks)) begun
      (subst (AreBegunTasks s k p.plan (p.waiting k) p.now.phase (begun_by (p.calls k))) tasks_are (begun_tasks s k there requests h))

  of_task : (k : ℕ) (b : Begun) (older : List Begun) (t : Task) (tasks : List Task) (r : Request) (o z : Outcome) → k < length s.drives → begun_by ((past s requests h).calls k) ≡ b ∷ older → (past s requests h).tasks k ≡ t ∷ tasks → t.number ≡ None →
      t.request ≡ r → outcome_of b.request b.answers ≡ Some z → z ≡ o → HasEnded s (past s requests h) (member s k).address r o
  of_task k b older t tasks r o z there begun tasks_are number asks ended same =
      let are = newest_so k there b older t tasks begun tasks_are in
      record { place = k; there = there; address_is = refl; one = b; older = older; begun = begun; task = t; tasks = tasks; tasks_are = tasks_are; startup = number; asks = are.1.asks ∙ asks; ended = ended ∙ ap (λ (x : Outcome). Some x) same }

  -- NO PLAN FITS.
  pub no_fit_cause : (chain : ChainView) → (past s requests h).stop ≡ Some (Stop.NoFit chain) → (all_read s (past s requests h) ≡ true) × (planned (wishes_given s (outcomes (past s requests h))) ≡ Err chain)
  no_fit_cause chain is = elim (stop_has_cause s requests h (Stop.NoFit chain) is) [
    | OfPlan other same whole all made ↦ let one : chain ≡ other = cc in (all, made ∙ ap (λ (x : ChainView). Err x) (sym one))
    | OfLength address i word other whole long ↦ absurd (cc)
    | OfTask k b older t tasks o there begun tasks_are number ended says ↦
        absurd (says_so (member s k).address t.request o (Stop.NoFit chain) says)
  ]

  -- A REQUEST IS REFUSED.
  pub refused_cause : (address : ℕ) (i : Idn) (code : Code) → (past s requests h).stop ≡ Some (Stop.Refused address i code) → HasRefused s (past s requests h) address i code
  refused_cause address i code is = elim (stop_has_cause s requests h (Stop.Refused address i code) is) [
    | OfPlan other same whole all made ↦ absurd (cc)
    | OfLength place j word other whole long ↦ absurd (cc)
    | OfTask k b older t tasks o there begun tasks_are number ended says ↦
        let (places, names, refused) = says_so (member s k).address t.request o (Stop.Refused address i code) says in record {
          asked = t.request;
          names = sym names;
          ended = subst (λ (a : ℕ). HasEnded s (past s requests h) a t.request (Outcome.Refused code)) (sym places)
              (of_task k b older t tasks t.request (Outcome.Refused code) o there begun tasks_are number refl ended refused);
        }
  ]

  -- AN ATTRIBUTE IS BAD, OR THE RECORDS ARE TOO LONG.
  pub bad_config_cause : (address : ℕ) (i : Idn) (word : ℕ) → (past s requests h).stop ≡ Some (Stop.BadConfig address i word) → IsBadAttribute s (past s requests h) address i word ⊎ AreTooLong s (past s requests h) (Stop.BadConfig address i word)
  bad_config_cause address i word is = elim (stop_has_cause s requests h (Stop.BadConfig address i word) is) [
    | OfPlan other same whole all made ↦ absurd (cc)
    | OfLength place j other_word same whole long ↦ inr long
    | OfTask k b older t tasks o there begun tasks_are number ended says ↦
        let (places, bytes, asks, complete, words, none) = says_so (member s k).address t.request o (Stop.BadConfig address i word) says
        in
        inl (record {
          bytes = bytes;
          word_is = words;
          no_length = ap len_said words ∙ none;
          ended = subst (λ (a : ℕ). HasEnded s (past s requests h) a (Request.Read i 3) (Outcome.Complete bytes)) (sym places)
              (of_task k b older t tasks (Request.Read i 3) (Outcome.Complete bytes) o there begun tasks_are number asks ended complete);
        })
  ]

  -- A CHECK HAS FAILED. The task before the list is the check.
  failed_so : (k after : ℕ) (b : Begun) (older : List Begun) (t : Task) (tasks : List Task) (z : Outcome) (bytes : List ℕ) → k < length s.drives → begun_by ((past s requests h).calls k) ≡ b ∷ older →
      outcome_of b.request b.answers ≡ Some z → z ≡ Outcome.Complete bytes → length (outcomes_in older) ≡ reads_count (member s k) + (after + 1) →
      (status : List ℕ) → slice_get (outcomes_in older) (reads_count (member s k) + after) ≡ Some (Outcome.Complete status) → ended_well (given (outcomes_in older) (reads_count (member s k) + after)) ≡ false →
      HasFailedCheck s (past s requests h) after (member s k).address (take 64 (idns_in bytes))
  failed_so k after b older t tasks z bytes there begun ended complete at status checked badly = record {
    place = k;
    there = there;
    address_is = refl;
    status = status;
    complete = all (reads_count (member s k) + after) ∙ get_left (outcomes_in older) (Outcome.Complete bytes ∷ []) (reads_count (member s k) + after) (omega (arith, at)) ∙ checked;
    badly = sym (ap ended_well (ap (λ (x : Option Outcome). unwrap_or (option_map bytes_of x) []) checked)) ∙ badly;
    bytes = bytes;
    listed = all (reads_count (member s k) + (after + 1)) ∙ last_is (outcomes_in older) (Outcome.Complete bytes) (reads_count (member s k) + (after + 1)) (sym at);
    list_is = refl;
  }
    where
      all : (n : ℕ) → slice_get (outcomes (past s requests h) k) n ≡ slice_get (outcomes_in older ++ Outcome.Complete bytes ∷ []) n
      all n = ap (λ (l : List Begun). slice_get (outcomes_in l) n) begun ∙ ap (λ (x : Option Outcome). slice_get (with_outcome x (outcomes_in older)) n) (ended ∙ ap (λ (x : Outcome). Some x) complete)

  module _ (have : (j : ℕ) → AreNumbered (requests j)) where
    -- what the task before gave
    given_before : (k n : ℕ) (older : List Begun) (tasks : List Task) → (bytes : List ℕ) → (f : HasBefore s k (past s requests h).plan ((past s requests h).waiting k) (past s requests h).now.phase older tasks n) →
        outcome_of f.one.request f.one.answers ≡ Some (Outcome.Complete bytes) → slice_get (outcomes_in older) n ≡ Some (Outcome.Complete bytes)
    given_before k n older tasks bytes f complete =
        ap (λ (l : List Begun). slice_get (outcomes_in l) n) f.older_is
        ∙ ap (λ (x : Option Outcome). slice_get (with_outcome x (outcomes_in f.rest)) n) complete
        ∙ last_is (outcomes_in f.rest) (Outcome.Complete bytes) n (sym f.at)

    well_before : (k n : ℕ) (b : Begun) (older : List Begun) (t : Task) (tasks : List Task) → (f : HasBefore s k (past s requests h).plan ((past s requests h).waiting k) (past s requests h).now.phase older tasks n) → n < reads_count (member s k) + 13 →
        HasEndedWell older tasks → (bytes : List ℕ) × (outcome_of f.one.request f.one.answers ≡ Some (Outcome.Complete bytes))
    well_before k n b older t tasks f few well =
        let at = f.at in
        let number : f.task.number ≡ None = startup_until s k f.is.by_then ((past s requests h).waiting k) (outcomes_in f.rest) f.task (omega (arith, at, few)) f.is.task in
        subst (λ (l : List Task). HasEndedWell (f.one ∷ f.rest) l) f.tasks_are (subst (λ (l : List Begun). HasEndedWell l tasks) f.older_is well) number

    pub check127_cause : (address : ℕ) (list : List Idn) → (past s requests h).stop ≡ Some (Stop.Check127 address (record { items = list })) → HasFailedCheck s (past s requests h) 11 address list
    check127_cause address list is = elim (stop_has_cause s requests h (Stop.Check127 address (record { items = list })) is) [
      | OfPlan chain other whole all made ↦ absurd (cc)
      | OfLength place i word other whole long ↦ absurd (cc)
      | OfTask k b older t tasks o there begun tasks_are number ended says ↦
          let are = newest_so k there b older t tasks begun tasks_are in
          let (places, i, bytes, asks, raw, complete, lists) = says_so (member s k).address t.request o
          (Stop.Check127 address (record { items = list })) says in
          let found = list_task s k are.1.by_then ((past s requests h).waiting k) (outcomes_in older) t i
          (all_numbered s requests h have k) (ap (λ (n : ℕ). list_all (λ (m : ℕ). not (m == n)) declared_times) raw) number asks
          are.1.task in
          subst (λ (a : ℕ). HasFailedCheck s (past s requests h) 11 a list) (sym places) (subst (λ (l : List Idn). HasFailedCheck s (past s requests h) 11 (member s k).address l) (sym lists) (elim found [
            | List4 other at failed ↦ let e : 21 ≡ 22 = sym raw ∙ other in absurd (omega (arith, e))
            | List3 same at failed ↦
                let f = before s k (past s requests h).plan ((past s requests h).waiting k) (past s requests h).now.phase older tasks (reads_count (member s k) + 11) are.0 are.1.ended (omega (arith, at)) in
                let well = well_before k (reads_count (member s k) + 11) b older t tasks f (omega arith) are.1.well in
                failed_so k 11 b older t tasks o bytes there begun ended complete at well.0 (given_before k (reads_count (member s k) + 11) older tasks well.0 f well.1) failed
          ]))
    ]

    pub check128_cause : (address : ℕ) (list : List Idn) → (past s requests h).stop ≡ Some (Stop.Check128 address (record { items = list })) → HasFailedCheck s (past s requests h) 12 address list
    check128_cause address list is = by (stop_has_cause s requests h (Stop.Check128 address (record { items = list })) is)
      where
        by : StopsFor s (past s requests h) (Stop.Check128 address (record { items = list })) → HasFailedCheck s (past s requests h) 12 address list
        by (OfPlan chain other whole all made) = absurd (cc)
        by (OfLength place i word other whole long) = absurd (cc)
        by (OfTask k b older t tasks o there begun tasks_are number ended says) =
            let (places, i, bytes, asks, raw, complete, lists) = says_so (member s k).address t.request o
            (Stop.Check128 address (record { items = list })) says in
            let found = list_task s k are.1.by_then ((past s requests h).waiting k) (outcomes_in older) t i
            (all_numbered s requests h have k) (ap (λ (n : ℕ). list_all (λ (m : ℕ). not (m == n)) declared_times) raw) number asks
            are.1.task in
            subst (λ (a : ℕ). HasFailedCheck s (past s requests h) 12 a list) (sym places) (subst (λ (l : List Idn). HasFailedCheck s (past s requests h) 12 (member s k).address l) (sym lists) (elim found [
              | List3 other at failed ↦ let e : 22 ≡ 21 = sym raw ∙ other in absurd (omega (arith, e))
              | List4 same at failed ↦
                  let f = before s k (past s requests h).plan ((past s requests h).waiting k) (past s requests h).now.phase older tasks (reads_count (member s k) + 12) are.0 are.1.ended (omega (arith, at)) in
                  let well = well_before k (reads_count (member s k) + 12) b older t tasks f (omega arith) are.1.well in
                  let checked = stays f (checked_before f well.0 well.1 f.is.task) in
                  failed_so k 12 b older t tasks o bytes there begun ended complete at well.0 (given_before k (reads_count (member s k) + 12) older tasks well.0 f well.1)
                  (sym (ap (λ (v : Bool). v && ended_well (given (outcomes_in older) (reads_count (member s k) + 12))) checked) ∙ failed)
            ]))
          where
            are : AreBegunTasks s k (past s requests h).plan ((past s requests h).waiting k) (past s requests h).now.phase (b ∷ older) (t ∷ tasks)
            are = newest_so k there b older t tasks begun tasks_are

            -- the task before is the check for phase 4, since after the list for phase 3 nothing begins
            checked_before : (f : HasBefore s k (past s requests h).plan ((past s requests h).waiting k) (past s requests h).now.phase older tasks (reads_count (member s k) + 12)) (bytes : List ℕ) →
                outcome_of f.one.request f.one.answers ≡ Some (Outcome.Complete bytes) → IsTask s k f.is.by_then ((past s requests h).waiting k) (outcomes_in f.rest) f.task → is_checked (member s k) (outcomes_in f.rest) ≡ true
            checked_before f bytes complete (OfReads r less got same) = absurd (omega (arith, f.at, less))
            checked_before f bytes complete (OfWrites p i r has less at_i got same) = absurd (omega (arith, f.at, less, at_i))
            checked_before f bytes complete (Checks3 p has at_i same) = absurd (omega (arith, f.at, at_i))
            checked_before f bytes complete (Checks4 at_i checked same) = checked
            checked_before f bytes complete (Lists4 at_i failed same) = absurd (omega (arith, f.at, at_i))
            checked_before f bytes complete (OfWaiting j at_i ready got) = absurd (omega (arith, f.at, at_i))
            checked_before f bytes complete (Lists3 at_i failed same) =
                let quiet : trouble_by (member s k).address (f.task ∷ f.others) (last_outcome (f.one ∷ f.rest)) ≡ None = subst (λ (l : List Begun). trouble_by (member s k).address (f.task ∷ f.others) (last_outcome l) ≡ None) f.older_is
                (subst (λ (l : List Task). trouble_by (member s k).address l (last_outcome older) ≡ None) f.tasks_are are.1.quiet) in
                let stopped : trouble_by (member s k).address (startup 2 (Request.Read (idn 21) 7) ∷ f.others) (Some (Outcome.Complete bytes)) ≡ None =
                ap₂ (λ (u : Task) (x : Option Outcome). trouble_by (member s k).address (u ∷ f.others) x) (sym same) (sym complete) ∙ quiet in
                absurd (cc)

            stays : (f : HasBefore s k (past s requests h).plan ((past s requests h).waiting k) (past s requests h).now.phase older tasks (reads_count (member s k) + 12)) → is_checked (member s k) (outcomes_in f.rest) ≡ true → is_checked (member s k) (outcomes_in older) ≡ true
            stays f checked =
                ap (λ (l : List Begun). is_checked (member s k) (outcomes_in l)) f.older_is
                ∙ elim (cases_Option (outcome_of f.one.request f.one.answers)) [
                  | inl none ↦ rw none checked
                  | inr (x, some) ↦
                      rw some (ap ended_well
                      (before_end (outcomes_in f.rest) x (reads_count (member s k) + 11) (λ e. omega (arith, f.at, e))) ∙ checked)
                ]
