-- From what is told of a request to the request that was begun.
use Rattle.sercos_law_trace.proofs.Words.{cases_Bool, ◌≡◌, ◌⊎◌, inl, inr, ℕ, zero, suc, ◌+◌, ◌≤◌, ◌==◌, Bool, true, false, if◌then◌else◌, List, [], ◌∷◌, ◌++◌, length, reverse, Option, Some, None, option_map, refl, sym, ap, ◌∙◌, arith, append-nil, none-some, slice_get, find, flat_map, option_or, nat_tests, flat_map-append, reverse-append, find-append, Job, Outcome, PlanView, CycleView, Known, Task, tasks_from, request_task, Report, broken_number, told_at_end, with_told, HasOutcome, HasReport, IsTask, told_of, map_or, reads_count, member, is_ready, Call, get_dropped, left_of, past, tasks_for}
use Rattle.sercos_step.specs.declared.request.Outcome.TheVariants as outcome
use Rattle.sercos_law_run.specs.Agenda.Tasks.IsTask.{OfReads, OfWrites, Checks3, Lists3, Checks4, Lists4, OfWaiting}
use Rattle.sercos_law_trace.specs.Told.Told.{told_in}

-- An outcome that is told stands in the events of a cycle.
found_in : (xs : List (ℕ × Outcome)) (n : ℕ) (o : Outcome) → told_of xs n ≡ Some o → HasOutcome xs n o
found_in [] n o e = absurd (none-some _ e)
found_in (x ∷ xs) n o e = elim (cases_Bool (x.0 == n)) [
  | inl is ↦ let same : x.1 ≡ o = cc in inl (grind (arith, nat_tests), same)
  | inr is ↦ let e = rw is at e in inr (found_in xs n o e)
]

pub told_more : (m : CycleView) (j : List CycleView) → told_in (m ∷ j) ≡ told_in j ++ m.events.outcomes
told_more m j =
    let outcomes : CycleView → List (ℕ × Outcome) = λ t. t.events.outcomes in
    ap (flat_map outcomes) (reverse-append (m ∷ []) j) ∙ flat_map-append outcomes (reverse j) (m ∷ []) ∙ ap (λ t. told_in j ++ t) (append-nil m.events.outcomes)

pub record IsToldIn (run : List CycleView) (n : ℕ) (o : Outcome) : Type 0 where
  pub later : List CycleView
  pub one : CycleView
  pub before : List CycleView
  pub cut : run ≡ later ++ one ∷ before
  pub told : HasOutcome one.events.outcomes n o

pub told_cut : (run : List CycleView) (n : ℕ) (o : Outcome) → told_of (told_in run) n ≡ Some o → IsToldIn run n o
told_cut [] n o e = absurd (none-some _ e)
told_cut (m ∷ j) n o e = by (told_of (told_in j) n) refl
    (sym (ap (λ t. told_of t n) (told_more m j) ∙ (ap (option_map (λ (x : ℕ × Outcome). x.1))
    (find-append (λ (x : ℕ × Outcome). x.0 == n) (told_in j) m.events.outcomes)
    ∙ map_or (λ (x : ℕ × Outcome). x.1) (find (λ (x : ℕ × Outcome). x.0 == n) (told_in j))
    (find (λ (x : ℕ × Outcome). x.0 == n) m.events.outcomes))) ∙ e) (told_cut j n o)
  where
    by : (x : Option Outcome) → told_of (told_in j) n ≡ x → option_or x (told_of m.events.outcomes n) ≡ Some o → (told_of (told_in j) n ≡ Some o → IsToldIn j n o) → IsToldIn (m ∷ j) n o
    by (Some y) is e earlier = let t = earlier (is ∙ ap Some cc) in
        record { later = m ∷ t.later; one = t.one; before = t.before; cut = ap (λ l. m ∷ l) t.cut; told = t.told }
    by None is e earlier = record { later = []; one = m; before = j; cut = refl; told = found_in m.events.outcomes n o e }

-- A complete outcome is not told of a request that was broken: so the channel reported it.
pub not_broken : (idle : Bool) (number : Option ℕ) (n : ℕ) (bytes : List ℕ) → HasReport (with_told (if idle then None else broken_number number) []) n (outcome.Complete bytes) → ⊥
not_broken true number n bytes told = told
not_broken false None n bytes told = told
not_broken false (Some i) n bytes (inl is) = let e = is.1 in cc
not_broken false (Some i) n bytes (inr told) = told

pub record HasReported (ended : Option Report) (n : ℕ) (o : Outcome) : Type 0 where
  pub report : Report
  pub is : ended ≡ Some report
  pub number : report.number ≡ n
  pub outcome : report.outcome ≡ o

reported_one : (ended : Option Report) (n : ℕ) (o : Outcome) → HasReport (with_told ended []) n o → HasReported ended n o
reported_one None n o told = absurd told
reported_one (Some x) n o (inl is) = record { report = x; is = refl; number = is.0; outcome = is.1 }
reported_one (Some x) n o (inr told) = absurd told

pub reported_at_end : (falls : Bool) (ended : Option Report) (idle : Bool) (number : Option ℕ) (n : ℕ) (bytes : List ℕ)
    → HasReport (told_at_end falls ended (if idle then None else broken_number number) []) n (outcome.Complete bytes) → HasReported ended n (outcome.Complete bytes)
reported_at_end false ended idle number n bytes told = reported_one ended n (outcome.Complete bytes) told
reported_at_end true ended true number n bytes told = reported_one ended n (outcome.Complete bytes) told
reported_at_end true ended false None n bytes told = reported_one ended n (outcome.Complete bytes) told
reported_at_end true ended false (Some i) n bytes (inl is) = let e = is.1 in absurd (cc)
reported_at_end true ended false (Some i) n bytes (inr told) = reported_one ended n (outcome.Complete bytes) told

-- A task with a number waited, and comes after the tasks of the start-up.
pub record HasWaited (s : Known) (k : ℕ) (waiting : List Task) (outcomes : List Outcome) (t : Task) : Type 0 where
  pub place : ℕ
  pub got : slice_get waiting place ≡ Some t
  pub at : length outcomes ≡ reads_count (member s k) + (13 + place)
  pub ready : is_ready (member s k) outcomes ≡ true

-- the others have none, and are among the first
pub early_or_waited : (s : Known) (k : ℕ) (plan : Option PlanView) (waiting : List Task) (outcomes : List Outcome) (t : Task) → IsTask s k plan waiting outcomes t
    → ((t.number ≡ None) × (length outcomes ≤ reads_count (member s k) + 13)) ⊎ HasWaited s k waiting outcomes t
early_or_waited s k plan waiting outcomes t (OfReads r less got same) = inl (ap (λ (x : Task). x.number) same, omega (arith, less))
early_or_waited s k plan waiting outcomes t (OfWrites p i r planned less at got same) = inl (ap (λ (x : Task). x.number) same, omega (arith, less, at))
early_or_waited s k plan waiting outcomes t (Checks3 p planned at same) = inl (ap (λ (x : Task). x.number) same, omega (arith, at))
early_or_waited s k plan waiting outcomes t (Lists3 at checked same) = inl (ap (λ (x : Task). x.number) same, omega (arith, at))
early_or_waited s k plan waiting outcomes t (Checks4 at checked same) = inl (ap (λ (x : Task). x.number) same, omega (arith, at))
early_or_waited s k plan waiting outcomes t (Lists4 at ready same) = inl (ap (λ (x : Task). x.number) same, omega (arith, at))
early_or_waited s k plan waiting outcomes t (OfWaiting j at ready got) = inr (record { place = j; got = got; at = at; ready = ready })

pub has_waited : (s : Known) (k : ℕ) (plan : Option PlanView) (waiting : List Task) (outcomes : List Outcome) (t : Task) (n : ℕ) → IsTask s k plan waiting outcomes t → t.number ≡ Some n → HasWaited s k waiting outcomes t
has_waited s k plan waiting outcomes t n is number = elim (early_or_waited s k plan waiting outcomes t is) [
  | inl early ↦ absurd (none-some _ (sym early.0 ∙ number))
  | inr waited ↦ waited
]

-- The task with a number is the request with that number.
pub record IsRequestOf (address i : ℕ) (jobs : List Job) (t : Task) (n : ℕ) : Type 0 where
  pub place : ℕ
  pub at : n ≡ i + place
  pub job : Job
  pub there : slice_get jobs place ≡ Some job
  pub drive : job.drive ≡ address
  pub same : t.request ≡ job.request

one_later : {address i : ℕ} {first : Job} {jobs : List Job} {t : Task} {n : ℕ} → IsRequestOf address (i + 1) jobs t n → IsRequestOf address i (first ∷ jobs) t n
one_later is = let at = is.at in record { place = suc is.place; at = omega (arith, at); job = is.job; there = is.there; drive = is.drive; same = is.same }

pub request_of : (address i : ℕ) (jobs : List Job) (j : ℕ) (t : Task) (n : ℕ) → slice_get (tasks_from address i jobs) j ≡ Some t → t.number ≡ Some n → IsRequestOf address i jobs t n
request_of address i [] j t n there number = absurd (none-some _ there)
request_of address i (job ∷ jobs) j t n there number = by (job.drive == address) refl j there (λ k later. request_of address (i + 1) jobs k t n later number)
  where
    here : (j : ℕ) → job.drive ≡ address → slice_get (request_task i job.request ∷ tasks_from address (i + 1) jobs) j ≡ Some t
        → ((k : ℕ) → slice_get (tasks_from address (i + 1) jobs) k ≡ Some t → IsRequestOf address (i + 1) jobs t n) → IsRequestOf address i (job ∷ jobs) t n
    here zero same there rest =
        let one : request_task i job.request ≡ t = cc in
        let two : Some i ≡ Some n = ap (λ (x : Task). x.number) one ∙ number in
        let three : i ≡ n = cc in
        record { place = 0; at = omega (arith, three); job = job; there = refl; drive = same; same = ap (λ (u : Task). u.request) (sym one) }
    here (suc j) same there rest = one_later (rest j there)

    by : (b : Bool) → (job.drive == address) ≡ b → (j : ℕ) → slice_get (if b then request_task i job.request ∷ tasks_from address (i + 1) jobs else tasks_from address (i + 1) jobs) j ≡ Some t
        → ((k : ℕ) → slice_get (tasks_from address (i + 1) jobs) k ≡ Some t → IsRequestOf address (i + 1) jobs t n) → IsRequestOf address i (job ∷ jobs) t n
    by true e j there rest = here j (grind (arith, nat_tests)) there rest
    by false e j there rest = one_later (rest j there)

-- A task that waits is one of those of its drive.
pub in_all : (s : Known) (jobs : List Job) (h : List Call) (k : ℕ)
    → (c : ℕ) × ((i : ℕ) (t : Task) → slice_get ((past s (tasks_for s jobs) h).waiting k) i ≡ Some t
    → slice_get (tasks_for s jobs k) (c + i) ≡ Some t)
in_all s jobs h k =
    let (c, is) = left_of s jobs h k in
    (c, λ i t got. sym (get_dropped c (tasks_for s jobs k) i) ∙ sym (ap (λ w. slice_get w i) is) ∙ got)
