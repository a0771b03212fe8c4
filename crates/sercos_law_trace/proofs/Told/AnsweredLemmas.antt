-- What is told of each request of a run that is undisturbed and long enough: an outcome, and not a broken one.
use Rattle.sercos_law_trace.proofs.Words.{◌≡◌, inl, inr, ℕ, zero, suc, ◌+◌, ◌*◌, ◌<◌, ◌≤◌, ◌==◌, Bool, true, false, if◌then◌else◌, List, [], ◌∷◌, ◌++◌, length, Some, option_map, refl, sym, ap, ◌∙◌, subst, arith, none-some, same_Some, slice_get, filter, find, mul-le-mul_right, nat_tests, Job, Outcome, startup_bound, RingView, CycleView, MemberView, Task, known_of, request_task, tasks_for, tasks_from, Carry, Restarts, drive_at, HasOutcome, HaveTold, request_cycles, IsRight, NeverDisturbed, StartsUp, member_is, told_of}
use Rattle.sercos_step.specs.declared.request.Outcome.TheVariants as outcome
use Rattle.sercos_law_trace.specs.Told.Told.{told_in}
use Rattle.sercos_law_trace.proofs.Told.ToldLemmas.{told_cut, told_more}

-- the requests to the drive with an address
abbrev are_to : ℕ → List Job → List Job
are_to address jobs = filter (λ (job : Job). job.drive == address) jobs

-- The request at a place is a task of its drive. Before it the drive has fewer tasks than there are requests to it.
record IsTaskOf (address number : ℕ) (jobs : List Job) (n : ℕ) : Type 0 where
  place : ℕ
  task : Task
  there : slice_get (tasks_from address number jobs) place ≡ Some task
  is : task.number ≡ Some (number + n)
  few : place < length (are_to address jobs)

task_at : (address number n : ℕ) (jobs : List Job) (job : Job) → slice_get jobs n ≡ Some job → job.drive ≡ address → IsTaskOf address number jobs n
task_at address number n [] job there to = absurd (none-some _ there)
task_at address number zero (x ∷ jobs) job there to =
    let same : x ≡ job = cc in
    let test : (x.drive == address) ≡ true = grind (arith, nat_tests, ap (λ (y : Job). y.drive) same ∙ to) in
    record {
      place = 0;
      task = request_task number x.request;
      there = subst (λ (b : Bool). slice_get (if b then request_task number x.request ∷ tasks_from address (number + 1) jobs else tasks_from address (number + 1) jobs) 0 ≡ Some (request_task number x.request)) (sym test) refl;
      is = ap Some (omega arith);
      few = subst (λ (b : Bool). 0 < length (if b then x ∷ are_to address jobs else are_to address jobs)) (sym test) (omega arith);
    }
task_at address number (suc n) (x ∷ jobs) job there to = by (x.drive == address) refl (task_at address (number + 1) n jobs job there to)
  where
    by : (b : Bool) → (x.drive == address) ≡ b → IsTaskOf address (number + 1) jobs n → IsTaskOf address number (x ∷ jobs) (suc n)
    by true test rest =
        let few = rest.few in
        record {
          place = suc rest.place;
          task = rest.task;
          there = subst (λ (b : Bool). slice_get (if b then request_task number x.request ∷ tasks_from address (number + 1) jobs else tasks_from address (number + 1) jobs) (suc rest.place) ≡ Some rest.task) (sym test) rest.there;
          is = rest.is ∙ ap Some (omega arith);
          few = subst (λ (b : Bool). suc rest.place < length (if b then x ∷ are_to address jobs else are_to address jobs)) (sym test) (omega (arith, few));
        }
    by false test rest = record {
      place = rest.place;
      task = rest.task;
      there = subst (λ (b : Bool). slice_get (if b then request_task number x.request ∷ tasks_from address (number + 1) jobs else tasks_from address (number + 1) jobs) rest.place ≡ Some rest.task) (sym test) rest.there;
      is = rest.is ∙ ap Some (omega arith);
      few = subst (λ (b : Bool). rest.place < length (if b then x ∷ are_to address jobs else are_to address jobs)) (sym test) rest.few;
    }

-- What is told of a request is found.
found : (xs : List (ℕ × Outcome)) (n : ℕ) (o : Outcome) → HasOutcome xs n o → (q : Outcome) × (told_of xs n ≡ Some q)
found [] n o has = absurd has
found (x ∷ xs) n o has = by (x.0 == n) refl has (found xs n o)
  where
    by : (b : Bool) → (x.0 == n) ≡ b → HasOutcome (x ∷ xs) n o → (HasOutcome xs n o → (q : Outcome) × (told_of xs n ≡ Some q))
        → (q : Outcome) × (option_map (λ (y : ℕ × Outcome). y.1) (if b then Some x else find (λ (y : ℕ × Outcome). y.0 == n) xs) ≡ Some q)
    by true is has rest = (x.1, refl)
    by false is (inl here) rest = let same = here.0 in absurd (grind (arith, nat_tests, same, is))
    by false is (inr later) rest = rest later

has_left : (xs ys : List (ℕ × Outcome)) (n : ℕ) (o : Outcome) → HasOutcome xs n o → HasOutcome (xs ++ ys) n o
has_left [] ys n o has = absurd has
has_left (x ∷ xs) ys n o (inl here) = inl here
has_left (x ∷ xs) ys n o (inr later) = inr (has_left xs ys n o later)

has_right : (xs ys : List (ℕ × Outcome)) (n : ℕ) (o : Outcome) → HasOutcome ys n o → HasOutcome (xs ++ ys) n o
has_right [] ys n o has = has
has_right (x ∷ xs) ys n o has = inr (has_right xs ys n o has)

has_told : (j : List CycleView) (n : ℕ) → HaveTold j n → (o : Outcome) × HasOutcome (told_in j) n o
has_told [] n told = absurd told
has_told (t ∷ j) n (inl (o, has)) = (o, subst (λ (l : List (ℕ × Outcome)). HasOutcome l n o) (sym (told_more t j)) (has_right (told_in j) t.events.outcomes n o has))
has_told (t ∷ j) n (inr told) =
    let (o, has) = has_told j n told in
    (o, subst (λ (l : List (ℕ × Outcome)). HasOutcome l n o) (sym (told_more t j)) (has_left (told_in j) t.events.outcomes n o has))

-- the cycles up to one of an undisturbed run are undisturbed
calm_before : (r : RingView) (carry : Carry) (restarts : Restarts) (later : List CycleView) (j : List CycleView) → NeverDisturbed r carry restarts (later ++ j) → NeverDisturbed r carry restarts j
calm_before r carry restarts [] j calm = calm
calm_before r carry restarts (t ∷ later) j calm = calm_before r carry restarts later j calm.0

-- the newest cycle of a run, and those before it
record IsMade (run : List CycleView) : Type 0 where
  one : CycleView
  before : List CycleView
  is : run ≡ one ∷ before
  count : length before + 1 ≡ length run

is_made : (run : List CycleView) → 0 < length run → IsMade run
is_made [] some = absurd (omega (arith, some))
is_made (t ∷ j) some = record { one = t; before = j; is = refl; count = omega arith }

-- the cycles that its bound gives to the task at a place have passed
enough : (bound place requests cost cycles made : ℕ) → place < requests → bound + requests * cost < cycles → made + 1 ≡ cycles → bound + (place + 1) * cost ≤ made
enough bound place requests cost cycles made below long count =
    let low : place + 1 ≤ requests = omega (arith, below) in
    let more : (place + 1) * cost ≤ requests * cost = mul-le-mul_right cost low in
    omega (arith, more, long, count)

-- of the request with this number an outcome was told, and not a broken one
pub record IsToldWhole (told : List (ℕ × Outcome)) (number : ℕ) : Type 0 where
  pub told_so : Outcome
  pub is : told_of told number ≡ Some told_so
  pub unbroken : told_so ≡ outcome.Broken → ⊥

-- in each cycle of these up to the first that is disturbed the start-up goes as it should
abbrev pub StartsIn : RingView → List Job → Carry → Restarts → List CycleView → Type 0
StartsIn r jobs carry restarts run = (later : List CycleView) (t : CycleView) (j : List CycleView) → run ≡ later ++ t ∷ j → NeverDisturbed r carry restarts (t ∷ j) → StartsUp r jobs carry restarts t j

pub told_whole : (r : RingView) (jobs : List Job) (carry : Carry) (restarts : Restarts) (run : List CycleView) (n k : ℕ) (job : Job) → StartsIn r jobs carry restarts run → IsRight r
    → startup_bound r + length (filter (λ (x : Job). x.drive == (drive_at r k).address) jobs) * request_cycles r k < length run → NeverDisturbed r carry restarts run → slice_get jobs n ≡ Some job → k < length r.drives
    → job.drive ≡ (drive_at r k).address → IsToldWhole (told_in run) (1 + n)
told_whole r jobs carry restarts run n k job starts right long calm there below to =
    let task = task_at (drive_at r k).address 1 n jobs job there to in
    let made = is_made run (omega (arith, long)) in
    let up = starts [] made.one made.before made.is (subst (NeverDisturbed r carry restarts) made.is calm) in
    let four = up.rises (let count = made.count in omega (arith, long, count)) right in
    let mine : slice_get (tasks_for (known_of r) jobs k) task.place ≡ Some task.task = subst (λ (a : ℕ). slice_get (tasks_from a 1 jobs) task.place ≡ Some task.task) (sym (ap (λ (m : MemberView). m.address) (member_is r k))) task.there in
    let told = up.reports four k task.place task.task below mine (enough _ _ _ _ _ _ task.few long made.count) in
    let number : told.0 ≡ 1 + n = same_Some _ _ (sym told.1 ∙ task.is) in
    let have : HaveTold run (1 + n) = subst (λ (j : List CycleView). HaveTold j (1 + n)) (sym made.is) (subst (HaveTold (made.one ∷ made.before)) number told.2) in
    let has = has_told run (1 + n) have in
    let got = found (told_in run) (1 + n) has.0 has.1 in
    record { told_so = got.0; is = got.1; unbroken = λ broken. never (got.1 ∙ ap Some broken) }
  where
    never : told_of (told_in run) (1 + n) ≡ Some outcome.Broken → ⊥
    never e =
        let cut = told_cut run (1 + n) outcome.Broken e in
        (starts cut.later cut.one cut.before cut.cut (calm_before r carry restarts cut.later (cut.one ∷ cut.before) (subst (NeverDisturbed r carry restarts) cut.cut calm))).tells.unbroken (1 + n) cut.told
