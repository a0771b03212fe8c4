-- Each request that ends is told in the record of its cycle. So in an undisturbed epoch the requests to a drive are reported in time.
use Rattle.sercos_law_run.proofs.Words.{◌≡◌, inl, inr, ℕ, zero, suc, ◌+◌, ◌*◌, ◌<◌, ◌≤◌, Bool, true, false, if◌then◌else◌, List, [], ◌∷◌, ◌++◌, drop, length, Option, Some, None, refl, sym, ap, ◌∙◌, subst, arith, length-append, append_assoc, is_none, is_some, option_map, slice_get, slice_index, cases_lt, false≢true, slice_get_within, Job, Outcome, next_step, outcome_of, PlanView, startup_bound, RingView, Begun, open_in, begun_by, CycleView, reads_count, is_ready, Report, broken_number, count_requests, number_in, outcomes_in, with_outcome, Known, Task, known_of, member, tasks_for, get_left, get_map, ready_long, Past, Call, Restart, outcomes, is_idle, fall_of, broken, Carry, Restarts, heard, passage, mst_in, ats_in, drive_at, station_of, with_at, at_calls, own_mst, begins, master_calls, looks_back, middle, IsRun, IsClear, channel_at, HasReport, AreNumbered, told, told_at_end, with_number, after_told, still_to_tell, task_numbers, IsTask, OfReads, OfWrites, Checks3, Lists3, Checks4, Lists4, OfWaiting, AreBegunTasks, behind_mdt, IsOpened, StartsEpoch, HaveTold, left_after, request_cycles, waiting_after, AreUndisturbed, recovers_in_time, times_suc, cases_Bool}
use Rattle.sercos_telegram.specs.declared.layout.Kind.TheVariants as kinds
use Rattle.sercos_law_run.proofs.Agenda.TaskRuns.{all_ended}
use Rattle.sercos_law_run.proofs.Headline.HeadlineRuns.{keeps_all}
use Rattle.sercos_law_run.proofs.Headline.OnceRuns.{restarts_so}
use Rattle.sercos_law_run.proofs.Undisturbed.EpochCycles.{AreOn, IsCut, IsOn, are_on, cut, going, goings}
use Rattle.sercos_law_run.proofs.Undisturbed.GoingCycles.{AreAll, AreGoing, IsGoing, all_so, run_rest, waits_along, waits_now}
use Rattle.sercos_law_run.proofs.Undisturbed.Arriving.Comes.{calm_in}
use Rattle.sercos_law_run.proofs.Undisturbed.EndedInTime.{LastsShort, have_ended, lasts_undisturbed}
use Rattle.sercos_law_run.proofs.Undisturbed.InFour.{counted, four_since, numbered, ready_now}
use Rattle.sercos_law_run.proofs.Undisturbed.OneRequest.{room}
use Rattle.sercos_law_run.proofs.Undisturbed.PhaseCounts.{end_kept}
use Rattle.sercos_law_run.proofs.Undisturbed.PhaseZero.{in_zero}
use Rattle.sercos_law_run.proofs.Undisturbed.Arriving.Small.{first_is, never_both}
use Rattle.sercos_law_run.proofs.Agenda.Requests.{are_requests}
use Rattle.sercos_law_run.proofs.Cited.{begins_tasks, told_in_order}
use Rattle.sercos_law_run.proofs.Views.Members.{in_known}

-- NUMBERS that were told
abbrev pub AllTold : List CycleView → List (Option ℕ) → Type 0
AllTold cycles [] = Unit {0}
AllTold cycles (o ∷ numbers) = ((number : ℕ) × (o ≡ Some number) × HaveTold cycles number) × AllTold cycles numbers

told_later : (t : CycleView) (cycles : List CycleView) (numbers : List (Option ℕ)) → AllTold cycles numbers → AllTold (t ∷ cycles) numbers
told_later t cycles [] all = tt
told_later t cycles (o ∷ numbers) all = ((all.0.0, all.0.1, inr all.0.2), told_later t cycles numbers all.1)

told_both : (cycles : List CycleView) (xs ys : List (Option ℕ)) → AllTold cycles xs → AllTold cycles ys → AllTold cycles (xs ++ ys)
told_both cycles [] ys all more = more
told_both cycles (o ∷ xs) ys all more = (all.0, told_both cycles xs ys all.1 more)

pub told_there : (cycles : List CycleView) (numbers : List (Option ℕ)) (i : ℕ) (o : Option ℕ) → AllTold cycles numbers → slice_get numbers i ≡ Some o → (number : ℕ) × (o ≡ Some number) × HaveTold cycles number
told_there cycles [] i o all got = absurd (cc)
told_there cycles (a ∷ numbers) zero o all got = let same : a ≡ o = cc in subst (λ (x : Option ℕ). (number : ℕ) × (x ≡ Some number) × HaveTold cycles number) same all.0
told_there cycles (a ∷ numbers) (suc i) o all got = told_there cycles numbers i o all.1 got

-- the numbers that the end of a cycle tells: of the request that an AT ended in it, and at a fall of the broken one
abbrev numbers_told : Bool → Option Report → Option Report → List (Option ℕ)
numbers_told falls ended broken = with_number ended (if falls then with_number broken [] else [])

-- they come after those that were told before
after_end : (falls : Bool) (ended broken : Option Report) (reports : List Report) (numbers : List (Option ℕ)) → after_told (told_at_end falls ended broken reports) numbers ≡ after_told reports (numbers_told falls ended broken ++ numbers)
after_end false None broken reports numbers = refl
after_end false (Some x) broken reports numbers = refl
after_end true None None reports numbers = refl
after_end true None (Some y) reports numbers = refl
after_end true (Some x) None reports numbers = refl
after_end true (Some x) (Some y) reports numbers = refl

all_told : (cycles : List CycleView) (falls : Bool) (ended broken : Option Report) → ((x : Report) → HasReport (told_at_end falls ended broken []) x.number x.outcome → HaveTold cycles x.number) → AllTold cycles (numbers_told falls ended broken)
all_told cycles false None broken has = tt
all_told cycles false (Some x) broken has = ((x.number, refl, has x (inl (refl, refl))), tt)
all_told cycles true None None has = tt
all_told cycles true None (Some y) has = ((y.number, refl, has y (inl (refl, refl))), tt)
all_told cycles true (Some x) None has = ((x.number, refl, has x (inl (refl, refl))), tt)
all_told cycles true (Some x) (Some y) has = ((x.number, refl, has x (inr (inl (refl, refl)))), ((y.number, refl, has y (inl (refl, refl))), tt))

same_after : (reports : List Report) (xs ys : List (Option ℕ)) → after_told reports xs ≡ after_told reports ys → xs ≡ ys
same_after [] xs ys same = same
same_after (r ∷ reports) xs ys same = (first_is (Some r.number) (Some r.number) xs ys (same_after reports (Some r.number ∷ xs) (Some r.number ∷ ys) same)).1

-- how many wait after n
dropped : (xs : List Task) (m n : ℕ) → m ≤ n → m ≤ length xs → length (drop n xs) + m ≤ length xs
dropped [] m zero le few = omega (arith, few)
dropped [] m (suc n) le few = omega (arith, few)
dropped (x ∷ xs) m zero le few = omega (arith, le)
dropped (x ∷ xs) zero (suc n) le few = let rest = dropped xs zero n (omega arith) (omega arith) in omega (arith, rest)
dropped (x ∷ xs) (suc m) (suc n) le few = let rest = dropped xs m n (omega (arith, le)) (omega (arith, few)) in omega (arith, rest)

kept_most : (n : ℕ) (xs : List Task) → length xs ≤ length (drop n xs) + n
kept_most zero xs = omega arith
kept_most (suc n) [] = omega arith
kept_most (suc n) (x ∷ xs) = let rest = kept_most n xs in omega (arith, rest)

pub numbers_long : (tasks : List Task) → length (task_numbers tasks) ≡ length tasks
numbers_long [] = refl
numbers_long (t ∷ tasks) = ap suc (numbers_long tasks)

-- where no task was begun, no request was, and none is told
none_of : (s : Known) (k : ℕ) (plan : Option PlanView) (waiting : List Task) (phase : ℕ) (begun : List Begun) (tasks : List Task) → tasks ≡ [] → AreBegunTasks s k plan waiting phase begun tasks → begun ≡ []
none_of s k plan waiting phase [] tasks none are = refl
none_of s k plan waiting phase (b ∷ older) [] none are = absurd are
none_of s k plan waiting phase (b ∷ older) (t ∷ tasks) none are = absurd (cc)

-- The request at work after the start-up is one of those that wait, so it has a number.
newest_waits : (s : Known) (k : ℕ) (plan : Option PlanView) (waiting : List Task) → AreNumbered waiting → (phase : ℕ) (begun : List Begun) (tasks : List Task) → AreBegunTasks s k plan waiting phase begun tasks → is_none (open_in begun) ≡ false → is_ready (member s k) (outcomes_in begun) ≡ true
    → reads_count (member s k) + 13 ≤ length (outcomes_in begun) → (length begun ≡ suc (length (outcomes_in begun))) × ((j : ℕ) × (length (outcomes_in begun) ≡ reads_count (member s k) + (13 + j)) × (j < length waiting)) × (is_some (number_in tasks) ≡ true)
newest_waits s k plan waiting numbered phase [] tasks are works ready many = absurd (false≢true (sym works))
newest_waits s k plan waiting numbered phase (b ∷ older) [] are works ready many = absurd are
newest_waits s k plan waiting numbered phase (b ∷ older) (t ∷ tasks) are works ready many = by (outcome_of b.request b.answers) works ready many are.1.task
  where
    by : (o : Option Outcome) → is_none (if is_some o then None else next_step b.request b.answers) ≡ false → is_ready (member s k) (with_outcome o (outcomes_in older)) ≡ true → reads_count (member s k) + 13 ≤ length (with_outcome o (outcomes_in older))
        → IsTask s k are.1.by_then waiting (outcomes_in older) t
        → (suc (length older) ≡ suc (length (with_outcome o (outcomes_in older)))) × ((j : ℕ) × (length (with_outcome o (outcomes_in older)) ≡ reads_count (member s k) + (13 + j)) × (j < length waiting)) × (is_some t.number ≡ true)
    by (Some o) off ready many task = absurd (false≢true (sym off))
    by None on ready many (OfReads r less got is) = absurd (omega (arith, less, many))
    by None on ready many (OfWrites p i r has less at got is) = absurd (omega (arith, less, at, many))
    by None on ready many (Checks3 p has at is) = absurd (omega (arith, at, many))
    by None on ready many (Lists3 at failed is) = absurd (omega (arith, at, many))
    by None on ready many (Checks4 at well is) = absurd (omega (arith, at, many))
    by None on ready many (Lists4 at failed is) = absurd (never_both (is_ready (member s k) (outcomes_in older)) ready failed)
    by None on ready many (OfWaiting j at is got) = (ap suc (sym are.1.ended), (j, at, slice_get_within waiting j t got), numbered j t got)

pub beyond : (a b : ℕ) → a ≤ b → (d : ℕ) × (b ≡ a + d)
beyond zero b le = (b, omega arith)
beyond (suc a) zero le = absurd (omega (arith, le))
beyond (suc a) (suc b) le = let d = beyond a b (omega (arith, le)) in (d.0, let is = d.1 in omega (arith, is))

-- the master doesn't restart in a cycle, as in an undisturbed one
abbrev pub IsQuiet : Restarts → CycleView → List CycleView → Type 0
IsQuiet restarts t j = restarts (length j) 0 ≡ false

quiet_since : (r : RingView) (carry : Carry) (restarts : Restarts) (cycles before : List CycleView)
    → AreUndisturbed r carry restarts cycles before → AreAll (IsQuiet restarts) cycles before
quiet_since r carry restarts [] before calm = tt
quiet_since r carry restarts (t ∷ cycles) before calm = (
  quiet_since r carry restarts cycles before calm.0,
  (calm_in r carry restarts t
      (cycles ++ before) calm.1).stays 0 (omega arith),
)

module _ (r : RingView) (jobs : List Job) (carry : Carry) (restarts : Restarts) (opened : IsOpened r jobs) (k : ℕ)
    (below : k < length r.drives) where
  abbrev told_by : List CycleView → List Report
  told_by j = told (known_of r) (tasks_for (known_of r) jobs) k (master_calls r carry restarts j)

  -- the numbers of the requests that aren't told yet
  abbrev pub left : List CycleView → List (Option ℕ)
  left j = left_after r jobs carry restarts j k

  -- A CYCLE tells what an AT ended in it.
  told_ats : (cycle : ℕ) (ats : List (List ℕ)) (h : List Call) → told (known_of r) (tasks_for (known_of r) jobs) k (at_calls r carry cycle ats h) ≡ told (known_of r) (tasks_for (known_of r) jobs) k h
  told_ats cycle [] h = refl
  told_ats cycle (at ∷ ats) h = told_ats cycle ats _ ∙ by (heard carry (passage cycle kinds.At (station_of r (slice_index at 0)) 0) at)
    where
      by : (o : Option (List ℕ)) → told (known_of r) (tasks_for (known_of r) jobs) k (with_at o h) ≡ told (known_of r) (tasks_for (known_of r) jobs) k h
      by None = refl
      by (Some content) = refl

  abbrev now_in : CycleView → List CycleView → Past
  now_in t j = behind_mdt r jobs carry restarts t.sent j

  abbrev falls_in : CycleView → List CycleView → Bool
  falls_in t j = is_some (fall_of (known_of r) (now_in t j))

  told_next : (t : CycleView) (j : List CycleView) → restarts (length j) 0 ≡ false → told_by (t ∷ j) ≡ told_at_end (falls_in t j) ((now_in t j).now.report k) (broken (now_in t j) k) (told_by j)
  told_next t j quiet =
      ap (λ (l : List Report). told_at_end (falls_in t j) ((now_in t j).now.report k) (broken (now_in t j) k) l) (told_ats (length j) (ats_in t.sent) (own_mst carry (length j) (mst_in t.sent) (begins r carry restarts j))
      ∙ ap (λ (b : Bool). told (known_of r) (tasks_for (known_of r) jobs) k (if b then Restart ∷ master_calls r carry restarts j else master_calls r carry restarts j)) quiet)

  in_order : (j : List CycleView) → after_told (told_by j) (left j) ≡ task_numbers (tasks_for (known_of r) jobs k)
  in_order j = told_in_order (known_of r) (tasks_for (known_of r) jobs) (master_calls r carry restarts j) k (are_requests (known_of r) jobs k).1 (in_known r k below) (restarts_so r carry restarts j)

  left_next : (t : CycleView) (j : List CycleView) → restarts (length j) 0 ≡ false → numbers_told (falls_in t j) ((now_in t j).now.report k) (broken (now_in t j) k) ++ left (t ∷ j) ≡ left j
  left_next t j quiet = same_after (told_by j) _ _
      (sym (after_end (falls_in t j) ((now_in t j).now.report k) (broken (now_in t j) k) (told_by j) (left (t ∷ j))) ∙ ap (λ (l : List Report). after_told l (left (t ∷ j))) (sym (told_next t j quiet)) ∙ in_order (t ∷ j) ∙ sym (in_order j))

  -- in phase 0 of an epoch all that wait are left
  none_reported : (before : List CycleView) → (looks_back r jobs (master_calls r carry restarts before)).now.report k ≡ None
  none_reported [] = refl
  none_reported (t ∷ j) = elim (cases_Bool (is_some (fall_of (known_of r) (behind_mdt r jobs carry restarts t.sent j)))) [
    | inl on ↦ rw on
    | inr off ↦ rw off
  ]

  pub left_first : (before : List CycleView) → StartsEpoch r jobs carry restarts before → left before ≡ task_numbers (waiting_after r jobs carry restarts before k)
  left_first before starts =
      let tasks : (looks_back r jobs (master_calls r carry restarts before)).tasks k ≡ [] = (in_zero r jobs carry restarts before starts).tasks k in
      let begun : begun_by ((looks_back r jobs (master_calls r carry restarts before)).calls k) ≡ [] =
      none_of (known_of r) k _ _ _ (begun_by ((looks_back r jobs (master_calls r carry restarts before)).calls k)) ((looks_back r jobs (master_calls r carry restarts before)).tasks k) tasks
      (begins_tasks (known_of r) (tasks_for (known_of r) jobs) (master_calls r carry restarts before) k (in_known r k below)) in
      (rw ((none_reported before), (ap open_in begun), tasks) refl)

  -- THE REQUESTS THAT WERE LEFT: those that were told in these cycles, and then those that are left still; regardless of falls, if the
  -- master doesn't restart.
  pub record IsTold (cycles before : List CycleView) : Type 0 where
    pub numbers : List (Option ℕ)
    pub all : AllTold cycles numbers
    pub is : numbers ++ left (cycles ++ before) ≡ left before

  pub told_along : (cycles before : List CycleView) → IsRun r jobs carry restarts (cycles ++ before) → IsClear (cycles ++ before)
      → AreAll (IsQuiet restarts) cycles before → IsTold cycles before
  told_along [] before run clear quiet = record { numbers = []; all = tt; is = refl }
  told_along (t ∷ cycles) before run clear quiet =
      let earlier = told_along cycles before run.0 clear.0 quiet.0 in
      let now = numbers_told (falls_in t (cycles ++ before)) ((now_in t (cycles ++ before)).now.report k) (broken (now_in t (cycles ++ before)) k) in
      record {
        numbers = earlier.numbers ++ now;
        all = told_both (t ∷ cycles) earlier.numbers now (told_later t cycles earlier.numbers earlier.all)
            (all_told (t ∷ cycles) (falls_in t (cycles ++ before)) ((now_in t (cycles ++ before)).now.report k)
            (broken (now_in t (cycles ++ before)) k) (λ x has. inl (
              x.outcome,
              (((keeps_all r jobs carry restarts opened t (cycles ++ before) run clear).reported.events x.number x.outcome).1
                  (inr (k, in_known r k below, has))),
            )));
        is = append_assoc earlier.numbers now (left (t ∷ (cycles ++ before)))
            ∙ ap (λ (l : List (Option ℕ)). earlier.numbers ++ l) (left_next t (cycles ++ before) quiet.1) ∙ earlier.is;
      }

  pub told_since : (cycles before : List CycleView) → IsRun r jobs carry restarts (cycles ++ before) → IsClear (cycles ++ before)
      → AreUndisturbed r carry restarts cycles before → IsTold cycles before
  told_since cycles before run clear calm = told_along cycles before run clear (quiet_since r carry restarts cycles before calm)

  -- A REQUEST IS REPORTED if it was left and isn't any more,
  pub told_if_left : (cycles before : List CycleView) → IsTold cycles before → (i : ℕ) (x : Option ℕ)
      → slice_get (left before) i ≡ Some x
      → ((n : ℕ) → length (left before) ≤ n + suc i → length (left (cycles ++ before)) ≤ n)
      → (number : ℕ) × (x ≡ Some number) × HaveTold cycles number
  told_if_left cycles before is_told i x got few =
      let rest = beyond (suc i) (length (left before)) (let low = slice_get_within (left before) i x got in omega (arith, low)) in
      let early : i < length is_told.numbers =
      let all = ap (λ (l : List (Option ℕ)). length l) is_told.is in
      let parts = length-append is_told.numbers (left (cycles ++ before)) in
      let count = rest.1 in
      let least = few rest.0 (omega (arith, count)) in omega (arith, least, count, all, parts) in
      told_there cycles is_told.numbers i x is_told.all (sym (get_left is_told.numbers (left (cycles ++ before)) i early)
      ∙ ap (λ (l : List (Option ℕ)). slice_get l i) is_told.is ∙ got)

  -- or if it waited when the epoch began.
  pub told_if_few : (cycles before : List CycleView) → IsTold cycles before → StartsEpoch r jobs carry restarts before
      → (i : ℕ) (x : Task) → slice_get (waiting_after r jobs carry restarts before k) i ≡ Some x
      → ((n : ℕ) → length (waiting_after r jobs carry restarts before k) ≤ n + suc i → length (left (cycles ++ before)) ≤ n)
      → (number : ℕ) × (x.number ≡ Some number) × HaveTold cycles number
  told_if_few cycles before is_told starts i x got few = told_if_left cycles before is_told i x.number
      (ap (λ (l : List (Option ℕ)). slice_get l i) (left_first before starts)
      ∙ get_map (λ (y : Task). y.number) (waiting_after r jobs carry restarts before k) i
      ∙ ap (option_map (λ (y : Task). y.number)) got)
      (λ n most. few n (let same = ap length (left_first before starts) in
      let numbers = numbers_long (waiting_after r jobs carry restarts before k) in omega (arith, same, numbers, most)))

  -- HOW MANY ARE LEFT after a cycle of phase 4
  module _ (t : CycleView) (j : List CycleView) (run : IsRun r jobs carry restarts (t ∷ j)) (clear : IsClear (t ∷ j))
      (on : IsGoing r jobs carry restarts t j) (four : t.phase ≡ 4) where
    abbrev now : Past
    now = behind_mdt r jobs carry restarts t.sent j

    begun_tasks : AreBegunTasks (known_of r) k now.plan (now.waiting k) now.now.phase (begun_by (now.calls k)) (now.tasks k)
    begun_tasks = begins_tasks (known_of r) (tasks_for (known_of r) jobs) (middle r carry restarts t.sent j) k (in_known r k below)

    waits_numbered : AreNumbered (now.waiting k)
    waits_numbered = numbered r jobs carry restarts opened k below t j run clear on four

    with_few : (o : Option Report) (numbers : List (Option ℕ)) → length (with_number o numbers) ≤ suc (length numbers)
    with_few None numbers = omega arith
    with_few (Some x) numbers = omega arith

    -- at most those that wait but the first n, if these have ended
    few_left : (n : ℕ) → reads_count (member (known_of r) k) + (13 + n) ≤ length (outcomes now k) → n ≤ length (now.waiting k)
        → length (with_number (if is_idle now k then None else broken_number (number_in (now.tasks k))) (task_numbers (drop (count_requests (now.tasks k)) (now.waiting k)))) + n ≤ length (now.waiting k)
    few_left n ended low = by (is_idle (behind_mdt r jobs carry restarts t.sent j) k) refl
      where
        by : (idle : Bool) → is_idle (behind_mdt r jobs carry restarts t.sent j) k ≡ idle
            → length (with_number (if idle then None else broken_number (number_in (now.tasks k))) (task_numbers (drop (count_requests (now.tasks k)) (now.waiting k)))) + n ≤ length (now.waiting k)
        by true is =
            let same = all_ended (known_of r) k now.plan (now.waiting k) now.now.phase (begun_by (now.calls k)) (now.tasks k) begun_tasks is in
            let count = counted r jobs carry restarts opened k below t j run clear on four in
            let long = numbers_long (drop (count_requests (now.tasks k)) (now.waiting k)) in
            omega (arith, dropped (now.waiting k) n (count_requests (now.tasks k)) (omega (arith, same, count, ended)) low, long)
        by false is =
            let newest = newest_waits (known_of r) k now.plan (now.waiting k) waits_numbered now.now.phase (begun_by (now.calls k)) (now.tasks k) begun_tasks is
            (ready_now r jobs carry restarts opened k below t j run clear on four) (omega (arith, ended)) in
            let one = newest.0 in let at = newest.1.1 in let there = newest.1.2 in
            let count = counted r jobs carry restarts opened k below t j run clear on four in
            let rest = dropped (now.waiting k) (suc n) (count_requests (now.tasks k)) (omega (arith, one, at, count, ended)) (omega (arith, at, there, ended)) in
            let most = with_few (broken_number (number_in (now.tasks k))) (task_numbers (drop (count_requests (now.tasks k)) (now.waiting k))) in
            omega (arith, rest, numbers_long (drop (count_requests (now.tasks k)) (now.waiting k)), most)

    pub ended_now : reads_count (member (known_of r) k) + 13 ≤ length (outcomes now k)
    ended_now = let many = ready_long (member (known_of r) k) (outcomes now k) (ready_now r jobs carry restarts opened k below t j run clear on four) in omega (arith, many)

    pub left_few : (n : ℕ) → reads_count (member (known_of r) k) + (13 + n) ≤ length (outcomes now k) → n ≤ length (now.waiting k) → length (left (t ∷ j)) + n ≤ length (now.waiting k)
    left_few n ended low = subst (λ (p : Past). length (still_to_tell (channel_at p k)) + n ≤ length (now.waiting k)) (sym (end_kept (known_of r) now on.stays)) (few_left n ended low)

    -- and at least those that haven't ended
    with_one : (o : Option ℕ) (numbers : List (Option ℕ)) → is_some o ≡ true → length (with_number (broken_number o) numbers) ≡ suc (length numbers)
    with_one None numbers on = absurd (false≢true on)
    with_one (Some n) numbers on = refl

    many_left : length (now.waiting k) + (reads_count (member (known_of r) k) + 13)
        ≤ length (with_number (if is_idle now k then None else broken_number (number_in (now.tasks k))) (task_numbers (drop (count_requests (now.tasks k)) (now.waiting k)))) + length (outcomes now k)
    many_left = elim (cases_Bool (is_idle (behind_mdt r jobs carry restarts t.sent j) k)) [
      | inl is ↦ rw is (let same = all_ended (known_of r) k now.plan (now.waiting k) now.now.phase (begun_by (now.calls k)) (now.tasks k)
          begun_tasks is in
          let rest = kept_most (count_requests (now.tasks k)) (now.waiting k) in
          let long = numbers_long (drop (count_requests (now.tasks k)) (now.waiting k)) in
          omega (arith, same, counted r jobs carry restarts opened k below t j run clear on four, rest, long))
      | inr is ↦ rw is (let newest = newest_waits (known_of r) k now.plan (now.waiting k) waits_numbered now.now.phase
          (begun_by (now.calls k)) (now.tasks k) begun_tasks is
          (ready_now r jobs carry restarts opened k below t j run clear on four) ended_now in
          let count = counted r jobs carry restarts opened k below t j run clear on four in
          let long = numbers_long (drop (count_requests (now.tasks k)) (now.waiting k)) in
          let all = with_one (number_in (now.tasks k)) (task_numbers (drop (count_requests (now.tasks k)) (now.waiting k))) newest.2 in
          omega (arith, newest.0, count, kept_most (count_requests (now.tasks k)) (now.waiting k), long, all))
    ]

    pub left_many : length (now.waiting k) + (reads_count (member (known_of r) k) + 13) ≤ length (left (t ∷ j)) + length (outcomes now k)
    left_many = subst (λ (p : Past). length (now.waiting k) + (reads_count (member (known_of r) k) + 13) ≤ length (still_to_tell (channel_at p k)) + length (outcomes now k)) (sym (end_kept (known_of r) now on.stays)) many_left

-- HOW MANY ARE LEFT so late: i + 1 fewer than after a cycle of phase 4, or none, if no request lasts longer.
module _ (r : RingView) (jobs : List Job) (carry : Carry) (restarts : Restarts) (opened : IsOpened r jobs) (k : ℕ)
    (below : k < length r.drives) (P : CycleView → List CycleView → Type 0)
    (goes : (t : CycleView) (j : List CycleView) → P t j → IsGoing r jobs carry restarts t j) (lasts : LastsShort r jobs carry restarts k P)
    (t : CycleView) (cycles : List CycleView) (one : CycleView) (old : List CycleView)
    (run : IsRun r jobs carry restarts (t ∷ (cycles ++ one ∷ old))) (clear : IsClear (t ∷ (cycles ++ one ∷ old)))
    (those : AreAll P (t ∷ cycles) (one ∷ old)) (one_is : P one old) (one_four : one.phase ≡ 4) (four : t.phase ≡ 4) (i : ℕ)
    (long : suc i * request_cycles r k ≤ suc (length cycles)) where
  rest_run : IsRun r jobs carry restarts (one ∷ old) × IsClear (one ∷ old)
  rest_run = run_rest r jobs carry restarts (t ∷ cycles) (one ∷ old) run clear

  on : AreGoing r jobs carry restarts (t ∷ cycles) (one ∷ old)
  on = all_so P (IsGoing r jobs carry restarts) goes (t ∷ cycles) (one ∷ old) those

  first : IsGoing r jobs carry restarts one old
  first = goes one old one_is

  -- what has ended in the first cycle
  m : (d : ℕ) × (length (outcomes (behind_mdt r jobs carry restarts one.sent old) k) ≡ reads_count (member (known_of r) k) + 13 + d)
  m = beyond (reads_count (member (known_of r) k) + 13) (length (outcomes (behind_mdt r jobs carry restarts one.sent old) k)) (ended_now r jobs carry restarts opened k below one old rest_run.0 rest_run.1 first one_four)

  abbrev waits : ℕ
  waits = length ((looks_back r jobs (master_calls r carry restarts old)).waiting k)

  many : waits ≤ length (left_after r jobs carry restarts (one ∷ old) k) + m.0
  many = let least = left_many r jobs carry restarts opened k below one old rest_run.0 rest_run.1 first one_four in
      let same = ap (λ (l : List Task). length l) (waits_now r jobs carry restarts one old first k) in let is = m.1 in
      omega (arith, least, same, is)

  few : (x : ℕ) → x ≤ m.0 + suc i → x ≤ waits → length (left_after r jobs carry restarts (t ∷ (cycles ++ one ∷ old)) k) + x ≤ waits
  few x most low =
      let ended = have_ended r jobs carry restarts opened k below P goes lasts one old one_is one_four m.0
      (let is = m.1 in omega (arith, is)) (suc i) t cycles run clear those long x most low in
      let same = ap (λ (l : List Task). length l) (waits_now r jobs carry restarts t (cycles ++ one ∷ old) on.1 k
      ∙ waits_along r jobs carry restarts cycles (one ∷ old) on.0 k ∙ waits_along r jobs carry restarts (one ∷ []) old (tt, first) k) in
      let left_is = left_few r jobs carry restarts opened k below t (cycles ++ one ∷ old) run clear on.1 four x ended (omega (arith, same, low)) in
      omega (arith, left_is, same)

  pub left_later : (n : ℕ) → length (left_after r jobs carry restarts (one ∷ old) k) ≤ n + suc i
      → length (left_after r jobs carry restarts (t ∷ (cycles ++ one ∷ old)) k) ≤ n
  left_later n enough = elim (cases_lt waits (m.0 + suc i)) [
    | inl less ↦ let none = few waits (omega (arith, less)) (omega arith) in omega (arith, none)
    | inr more_wait ↦ let some = few (m.0 + suc i) (omega arith) (omega (arith, more_wait)) in let least = many in omega (arith, some, least, enough)
  ]

  -- and i + 1 fewer than wait
  pub left_waiting : (n : ℕ) → length ((looks_back r jobs (master_calls r carry restarts old)).waiting k) ≤ n + suc i
      → length (left_after r jobs carry restarts (t ∷ (cycles ++ one ∷ old)) k) ≤ n
  left_waiting n enough = elim (cases_lt waits (suc i)) [
    | inl less ↦ let none = few waits (omega (arith, less)) (omega arith) in omega (arith, none)
    | inr most ↦ let some = few (suc i) (omega arith) (omega (arith, most)) in omega (arith, some, enough)
  ]

-- So it is in undisturbed cycles.
module _ (r : RingView) (jobs : List Job) (carry : Carry) (restarts : Restarts) (opened : IsOpened r jobs) (k : ℕ)
    (below : k < length r.drives) (t : CycleView) (cycles : List CycleView) (one : CycleView) (old : List CycleView)
    (run : IsRun r jobs carry restarts (t ∷ (cycles ++ one ∷ old))) (clear : IsClear (t ∷ (cycles ++ one ∷ old)))
    (on : AreOn r jobs carry restarts (t ∷ cycles) (one ∷ old)) (calm : AreUndisturbed r carry restarts cycles (one ∷ old))
    (first : IsOn r jobs carry restarts one old) (one_four : one.phase ≡ 4) (four : t.phase ≡ 4) (n i : ℕ)
    (long : suc i * request_cycles r k ≤ suc (length cycles)) where
  pub left_in_time : length (left_after r jobs carry restarts (one ∷ old) k) ≤ n + suc i → length (left_after r jobs carry restarts (t ∷
      (cycles ++ one ∷ old)) k) ≤ n
  left_in_time enough = left_later r jobs carry restarts opened k below (IsOn r jobs carry restarts) (going r jobs carry restarts)
      (lasts_undisturbed recovers_in_time r jobs carry restarts opened k below) t cycles one old run clear on first one_four four i long n
      enough

pub one_more_time : (i c : ℕ) → (i + 1) * c ≡ suc i * c
one_more_time i c = grind arith

-- THE REQUESTS ARE REPORTED IN TIME.
module _ (r : RingView) (jobs : List Job) (carry : Carry) (restarts : Restarts) (opened : IsOpened r jobs) where
  -- HOW MANY ARE LEFT in phase 4 of an undisturbed epoch: i + 1 fewer than waited when it began, or none, from that long after the bound of
  -- a start-up on.
  module _ (t : CycleView) (cycles before : List CycleView) (run : IsRun r jobs carry restarts (t ∷ (cycles ++ before)))
      (clear : IsClear (t ∷ (cycles ++ before))) (starts : StartsEpoch r jobs carry restarts before)
      (calm : AreUndisturbed r carry restarts (t ∷ cycles) before) (four : t.phase ≡ 4) (k : ℕ) (below : k < length r.drives) (n i : ℕ)
      (long : startup_bound r + suc i * request_cycles r k ≤ length cycles) where
    on_epoch : AreOn r jobs carry restarts (t ∷ cycles) before
    on_epoch = are_on r jobs carry restarts opened (t ∷ cycles) before run clear starts calm

    some : 1 ≤ suc i * request_cycles r k
    some = let all = room (drive_at r k).busy (drive_at r k).command in let parts = times_suc i (request_cycles r k) in omega (arith, all, parts)

    -- the cycle at the bound of a start-up is commanded phase 4
    later : (d : ℕ) × (length cycles ≡ suc (startup_bound r) + d)
    later = beyond (suc (startup_bound r)) (length cycles) (let one = some in omega (arith, one, long))

    c : IsCut r jobs carry restarts later.0 cycles before
    c = cut r jobs carry restarts cycles before later.0 (let is = later.1 in omega (arith, is)) on_epoch.0 calm.0

    on_cut : AreOn r jobs carry restarts (t ∷ c.newer) (c.one ∷ (c.older ++ before))
    on_cut = (c.on, subst (λ (l : List CycleView). IsOn r jobs carry restarts t l) c.is on_epoch.1)

    one_four : c.one.phase ≡ 4
    one_four = four_since r jobs carry restarts opened t c.newer c.one c.older before
        (subst (λ (l : List CycleView). IsRun r jobs carry restarts (t ∷ l)) c.is run)
        (subst (λ (l : List CycleView). IsClear (t ∷ l)) c.is clear)
        (goings r jobs carry restarts (t ∷ c.newer) (c.one ∷ (c.older ++ before)) on_cut)
        (going r jobs carry restarts c.one (c.older ++ before) c.on_older.1) starts c.calm
        (let is = later.1 in let rest = c.rest in omega (arith, is, rest)) four

    pub left_in_epoch : length (waiting_after r jobs carry restarts before k) ≤ n + suc i → length (left_after r jobs carry restarts (t ∷ (cycles ++ before)) k) ≤ n
    left_in_epoch enough = subst (λ (l : List CycleView). length (left_after r jobs carry restarts (t ∷ l) k) ≤ n) (sym c.is)
        (left_waiting r jobs carry restarts opened k below (IsOn r jobs carry restarts)
        (going r jobs carry restarts)
        (lasts_undisturbed recovers_in_time r jobs carry restarts opened k below) t c.newer c.one
        (c.older ++ before) (subst (λ (l : List CycleView). IsRun r jobs carry restarts (t ∷ l)) c.is run)
        (subst (λ (l : List CycleView). IsClear (t ∷ l)) c.is clear) on_cut c.on_older.1 one_four four i
        (let is = later.1 in let count = c.long in omega (arith, is, count, long)) n
        (subst (λ (l : List Task). length l ≤ n + suc i) (sym (waits_along r jobs carry restarts c.older before
        (goings r jobs carry restarts c.older before c.on_older.0) k)) enough))

  pub reports_in_time : (t : CycleView) (cycles before : List CycleView) → IsRun r jobs carry restarts (t ∷ (cycles ++ before)) → IsClear (t ∷ (cycles ++ before)) → StartsEpoch r jobs carry restarts before → AreUndisturbed r carry restarts (t ∷ cycles) before
      → t.phase ≡ 4 → (k i : ℕ) (x : Task) → k < length r.drives → slice_get (waiting_after r jobs carry restarts before k) i ≡ Some x → startup_bound r + (i + 1) * request_cycles r k ≤ length cycles
      → (number : ℕ) × (x.number ≡ Some number) × HaveTold (t ∷ cycles) number
  reports_in_time t cycles before run clear starts calm four k i x below got long = told_if_few r jobs carry restarts opened k
      below (t ∷ cycles) before
      (told_since r jobs carry restarts opened k below (t ∷ cycles) before run clear calm) starts i x got
      (λ n enough. left_in_epoch t cycles before run clear starts calm four k below n i (let same = one_more_time i
      (request_cycles r k) in omega (arith, same, long)) enough)
