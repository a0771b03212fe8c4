-- In the records of a run each request ends once.
use Rattle.sercos_law_run.proofs.Words.{cases_Bool, ◌≡◌, ◌⊎◌, inl, inr, ℕ, zero, suc, ◌+◌, ◌<◌, ◌≤◌, Bool, true, false, List, [], ◌∷◌, length, Option, Some, None, refl, sym, ◌∙◌, ap, subst, arith, if◌then◌else◌, nat_lt, ◌==◌, is_some, nat_tests, Job, Outcome, is_ring, RingView, Report, MemberView, Task, member, known_of, tasks_for, tasks_from, request_task, Call, Past, Restart, fall_of, broken, restart_told, with_report, with_reports, Carry, Restarts, EventsView, CycleView, mst_in, ats_in, IsNext, IsRun, begin_calls, drive_at, looks_back, master_calls, middle, no_events, own_mst, restart_events, channel_at, HasOutcome, HasReport, Ascend, Descend, IsAtStart, RestartsAtStart, after_told, still_to_tell, task_numbers, told, told_at_end, with_told, AreOnce, HasEnded, NumbersAscend}
use Rattle.sercos_master.specs.Reports.{inserted}
use Rattle.sercos_law_run.proofs.Agenda.Requests.{ascend_from}
use Rattle.sercos_law_run.proofs.Agenda.ToldEvents.{all_to}
use Rattle.sercos_law_run.proofs.Views.Members.{member_is, members_count, same_drive}
use Rattle.sercos_law_run.proofs.Agenda.Requests.{are_requests}
use Rattle.sercos_law_run.proofs.Cited.{told_in_order, told_once}
use Rattle.sercos_law_run.proofs.Undisturbed.Arriving.AfterAt.{ats_keep}

-- ---- the requests to two drives have no number in common

abbrev HasNumber : List (Option ℕ) → ℕ → Type 0
HasNumber [] m = ⊥
HasNumber (o ∷ numbers) m = (o ≡ Some m) ⊎ HasNumber numbers m

number_is : (o : Option ℕ) (n m : ℕ) → o ≡ Some n → o ≡ Some m → n ≡ m
number_is o n m e f = let same : Some n ≡ Some m = sym e ∙ f in cc

low_of : (i m : ℕ) (tasks : List Task) → Ascend i tasks → HasNumber (task_numbers tasks) m → i ≤ m
low_of i m [] up none = absurd none
low_of i m (t ∷ tasks) (n, is, low, up) (inl here) = let same = number_is t.number n m is here in omega (arith, low, same)
low_of i m (t ∷ tasks) (n, is, low, up) (inr later) = let high = low_of (n + 1) m tasks up later in omega (arith, low, high)

one_drive : (a b n m : ℕ) (jobs : List Job) → HasNumber (task_numbers (tasks_from a n jobs)) m → HasNumber (task_numbers (tasks_from b n jobs)) m → a ≡ b
one_drive a b n m [] none other = absurd none
one_drive a b n m (job ∷ jobs) one other = by (job.drive == a) refl (job.drive == b) refl one other (one_drive a b (n + 1) m jobs)
  where
    first : (x : ℕ) → n ≡ m → HasNumber (task_numbers (tasks_from x (n + 1) jobs)) m → ⊥
    first x same later = let high = low_of (n + 1) m (tasks_from x (n + 1) jobs) (ascend_from x (n + 1) jobs) later in omega (arith, same, high)

    by : (u : Bool) → (job.drive == a) ≡ u → (v : Bool) → (job.drive == b) ≡ v
        → HasNumber (task_numbers (if u then request_task n job.request ∷ tasks_from a (n + 1) jobs else tasks_from a (n + 1) jobs)) m
        → HasNumber (task_numbers (if v then request_task n job.request ∷ tasks_from b (n + 1) jobs else tasks_from b (n + 1) jobs)) m
        → (HasNumber (task_numbers (tasks_from a (n + 1) jobs)) m → HasNumber (task_numbers (tasks_from b (n + 1) jobs)) m → a ≡ b) → a ≡ b
    by true e true f one other rest = grind (arith, nat_tests, e, f)
    by true e false f (inl is) other rest = absurd (first b (number_is (Some n) n m refl is) other)
    by true e false f (inr one) other rest = rest one other
    by false e true f one (inl is) rest = absurd (first a (number_is (Some n) n m refl is) one)
    by false e true f one (inr other) rest = rest one other
    by false e false f one other rest = rest one other

-- ---- reports and outcomes

-- a request of this number is reported
abbrev Reported : List Report → ℕ → Type 0
Reported reports m = (o : Outcome) × HasReport reports m o

older_too : (r : Option Report) (reports : List Report) (m : ℕ) → Reported reports m → Reported (with_told r reports) m
older_too None reports m has = has
older_too (Some x) reports m (o, has) = (o, inr has)

newer_too : (r : Option Report) (reports : List Report) (m : ℕ) → Reported (with_told r []) m → Reported (with_told r reports) m
newer_too None reports m (o, none) = absurd none
newer_too (Some x) reports m (o, inl is) = (o, inl is)
newer_too (Some x) reports m (o, inr none) = absurd none

below_newest : (x : Report) (reports : List Report) (m : ℕ) (o : Outcome) → Descend (x ∷ reports) → HasReport reports m o → m < x.number
below_newest x [] m o down none = absurd none
below_newest x (q ∷ reports) m o (less, down) (inl (is, same)) = omega (arith, less, is)
below_newest x (q ∷ reports) m o (less, down) (inr has) = let lower = below_newest q reports m o down has in omega (arith, less, lower)

-- no request is reported twice
not_again : (r : Option Report) (reports : List Report) (m : ℕ) → Descend (with_told r reports) → Reported (with_told r []) m → Reported reports m → ⊥
not_again None reports m down (o, none) old = none
not_again (Some x) reports m down (o, inl (is, same)) (p, old) = let less = below_newest x reports m p down old in omega (arith, is, less)
not_again (Some x) reports m down (o, inr none) old = none

older_down : (r : Option Report) (reports : List Report) → Descend (with_told r reports) → Descend reports
older_down None reports down = down
older_down (Some x) [] down = tt
older_down (Some x) (q ∷ reports) down = down.1

insert_ascends : (i m : ℕ) (q : Outcome) (outcomes : List (ℕ × Outcome)) → i ≤ m → NumbersAscend i outcomes → ((o : Outcome) → HasOutcome outcomes m o → ⊥) → NumbersAscend i (inserted m q outcomes)
insert_ascends i m q [] low up none = (low, tt)
insert_ascends i m q (x ∷ outcomes) low (first, up) none = by (nat_lt m x.0) refl (λ high. insert_ascends (x.0 + 1) m q outcomes high up (λ o has. none o (inr has)))
  where
    by : (v : Bool) → nat_lt m x.0 ≡ v → (x.0 + 1 ≤ m → NumbersAscend (x.0 + 1) (inserted m q outcomes)) → NumbersAscend i (if v then (m, q) ∷ x ∷ outcomes else x ∷ inserted m q outcomes)
    by true is rest = (low, ((let less : m + 1 ≤ x.0 = grind (arith, nat_tests, is) in less), up))
    by false is rest =
        let not_below : x.0 ≤ m = grind (arith, nat_tests, is) in
        let other : x.0 ≡ m → ⊥ = λ same. none x.1 (inl (same, refl)) in
        (first, rest (omega (arith, not_below, other)))

-- ---- reports of n drives, of which these were there before a cycle, and its outcomes so far

record AreRight (n : ℕ) (reports : ℕ → List Report) : Type 0 where
  some : (k m : ℕ) → k < n → Reported (reports k) m → 1 ≤ m
  down : (k : ℕ) → k < n → Descend (reports k)
  one : (i k m : ℕ) → i < n → k < n → Reported (reports i) m → Reported (reports k) m → i ≡ k

record AreThere (n : ℕ) (older reports : ℕ → List Report) (outcomes : List (ℕ × Outcome)) : Type 0 where
  ascend : NumbersAscend 1 outcomes
  from : (m : ℕ) (o : Outcome) → HasOutcome outcomes m o → (k : ℕ) × (k < n) × Reported (reports k) m × ((i : ℕ) → i < n → Reported (older i) m → ⊥)
  keeps : (k m : ℕ) → Reported (older k) m → Reported (reports k) m

right_before : (n : ℕ) (report : ℕ → Option Report) (reports : ℕ → List Report) → AreRight n (λ k. with_told (report k) (reports k)) → AreRight n reports
right_before n report reports right = record {
  some = λ k m below has. right.some k m below (older_too (report k) (reports k) m has);
  down = λ k below. older_down (report k) (reports k) (right.down k below);
  one = λ i k m low high a b. right.one i k m low high (older_too (report i) (reports i) m a) (older_too (report k) (reports k) m b);
}

there_same : (n : ℕ) (older reports others : ℕ → List Report) (outcomes : List (ℕ × Outcome)) → ((k : ℕ) → reports k ≡ others k) → AreThere n older reports outcomes → AreThere n older others outcomes
there_same n older reports others outcomes same there = record {
  ascend = there.ascend;
  from = λ m o has. let (k, below, reported, new) = there.from m o has in (k, below, subst (λ (l : List Report). Reported l m) (same k) reported, new);
  keeps = λ k m has. subst (λ (l : List Report). Reported l m) (same k) (there.keeps k m has);
}

-- with a report of each drive
module _ (n : ℕ) (older reports : ℕ → List Report) (report : ℕ → Option Report) (outcomes : List (ℕ × Outcome))
    (right : AreRight n (λ k. with_told (report k) (reports k))) (there : AreThere n older reports outcomes) where
  reported_one : (i k m : ℕ) → i < n → k < n → Reported (with_told (report i) []) m → Reported (reports k) m → ⊥
  reported_one i k m low high now before =
      let same = right.one k i m high low (older_too (report k) (reports k) m before) (newer_too (report i) (reports i) m now) in
      not_again (report i) (reports i) m (right.down i low) now (subst (λ (l : ℕ). Reported (reports l) m) same before)

  ascends : (i : ℕ) → i ≤ n → NumbersAscend 1 (with_reports report i outcomes)
  ascends zero below = there.ascend
  ascends (suc i) below = by (report i) refl (ascends i (omega (arith, below)))
    where
      low : i < n
      low = omega (arith, below)

      by : (r : Option Report) → report i ≡ r → NumbersAscend 1 (with_reports report i outcomes) → NumbersAscend 1 (with_report r (with_reports report i outcomes))
      by None is up = up
      by (Some x) is up = insert_ascends 1 x.number x.outcome (with_reports report i outcomes) (right.some i x.number low (newer_too (report i) (reports i) x.number now)) up
          (λ o has. elim (all_to x.number o report i outcomes has) [
            | inl before ↦ let (k, high, reported, new) = there.from x.number o before in reported_one i k x.number low high now reported
            | inr (k, less, also) ↦ let same = right.one k i x.number (omega (arith, low, less)) low (newer_too (report k) (reports k) x.number (o, also)) (newer_too (report i) (reports i) x.number now) in omega (arith, less, same)
          ])
        where
          now : Reported (with_told (report i) []) x.number
          now = subst (λ (r : Option Report). Reported (with_told r []) x.number) (sym is) (x.outcome, inl (refl, refl))

  there_after : AreThere n older (λ k. with_told (report k) (reports k)) (with_reports report n outcomes)
  there_after = record {
    ascend = ascends n (omega arith);
    from = λ m o has. elim (all_to m o report n outcomes has) [
      | inl before ↦ let (k, below, reported, new) = there.from m o before in (k, below, older_too (report k) (reports k) m reported, new)
      | inr (k, below, now) ↦ (k, below, newer_too (report k) (reports k) m (o, now), λ i low old. reported_one k i m below low (o, now) (there.keeps i m old))
    ];
    keeps = λ k m has. older_too (report k) (reports k) m (there.keeps k m has);
  }

-- ---- the reports and the outcomes of a cycle

waits : (reports : List Report) (numbers : List (Option ℕ)) (m : ℕ) → HasNumber numbers m → HasNumber (after_told reports numbers) m
waits [] numbers m has = has
waits (x ∷ reports) numbers m has = waits reports (Some x.number ∷ numbers) m (inr has)

number_of : (reports : List Report) (numbers : List (Option ℕ)) (m : ℕ) (o : Outcome) → HasReport reports m o → HasNumber (after_told reports numbers) m
number_of [] numbers m o none = absurd none
number_of (x ∷ reports) numbers m o (inl (is, same)) = waits reports (Some x.number ∷ numbers) m (inl (ap Some is))
number_of (x ∷ reports) numbers m o (inr has) = number_of reports (Some x.number ∷ numbers) m o has

-- the master is restarted at the start of a cycle alone
pub starts : (r : RingView) (carry : Carry) (restarts : Restarts) (j : List CycleView) → IsAtStart (master_calls r carry restarts j)
starts r carry restarts [] = tt
starts r carry restarts (t ∷ j) = tt

pub restarts_so : (r : RingView) (carry : Carry) (restarts : Restarts) (j : List CycleView) → RestartsAtStart (master_calls r carry restarts j)
restarts_so r carry restarts [] = tt
restarts_so r carry restarts (t ∷ j) = ats_keep RestartsAtStart r carry (length j) (ats_in t.sent)
    (own_mst carry (length j) (mst_in t.sent) (begin_calls restarts (length j) (master_calls r carry restarts j)))
    (elim (cases_Bool (restarts (length j) 0)) [
      | inl on ↦ rw on ((restarts_so r carry restarts j), (starts r carry restarts j))
      | inr off ↦ rw off (restarts_so r carry restarts j)
    ]) (λ content g are. are)

module _ (r : RingView) (jobs : List Job) (carry : Carry) (restarts : Restarts) (valid : is_ring r ≡ true) where
  abbrev n : ℕ
  n = length (known_of r).drives

  abbrev reports_at : List Call → ℕ → List Report
  reports_at h k = told (known_of r) (tasks_for (known_of r) jobs) k h

  is_right : (h : List Call) → RestartsAtStart h → AreRight n (reports_at h)
  is_right h order = record {
    some = λ k m below has. low_of 1 m (tasks_for (known_of r) jobs k) (are_requests (known_of r) jobs k).2 (number k m below has);
    down = λ k below. told_once (known_of r) jobs h k below order;
    one = λ i k m low high a b.
        let count = members_count r in
        let same : (drive_at r i).address ≡ (drive_at r k).address =
        sym (ap (λ (x : MemberView). x.address) (member_is r i)) ∙ one_drive (member (known_of r) i).address (member (known_of r) k).address 1 m jobs (number i m low a) (number k m high b) ∙ ap (λ (x : MemberView). x.address) (member_is r k) in
        same_drive r i k valid (omega (arith, low, count)) (omega (arith, high, count)) same;
  }
    where
      number : (k m : ℕ) → k < n → Reported (reports_at h k) m → HasNumber (task_numbers (tasks_for (known_of r) jobs k)) m
      number k m below (o, has) =
          subst (λ (l : List (Option ℕ)). HasNumber l m) (told_in_order (known_of r) (tasks_for (known_of r) jobs) h k (are_requests (known_of r) jobs k).1 below order)
          (number_of (reports_at h k) (still_to_tell (channel_at (looks_back r jobs h) k)) m o has)

  there_in : (t : CycleView) (j : List CycleView) → IsNext r jobs carry restarts t j → AreThere n (reports_at (master_calls r carry restarts j)) (reports_at (master_calls r carry restarts (t ∷ j))) t.events.outcomes
  there_in t j next =
      subst (λ (l : List (ℕ × Outcome)). AreThere n older (reports_at (master_calls r carry restarts (t ∷ j))) l) (sym (ap (λ (e : EventsView). e.outcomes) next.events))
      (at_end (is_some (fall_of (known_of r) p)) (is_right (master_calls r carry restarts (t ∷ j)) (restarts_so r carry restarts (t ∷ j))))
    where
      h : List Call
      h = master_calls r carry restarts j

      older : ℕ → List Report
      older = reports_at h

      p : Past
      p = looks_back r jobs (middle r carry restarts t.sent j)

      first : AreThere n older older []
      first = record { ascend = tt; from = λ m o none. absurd none; keeps = λ k m has. has }

      at_begin : (b : Bool) → AreThere n older (reports_at (if b then Restart ∷ h else h)) (if b then restart_told (known_of r) (looks_back r jobs h) no_events else no_events).outcomes
      at_begin false = first
      at_begin true = there_after n older older (broken (looks_back r jobs h)) [] (is_right (Restart ∷ h) (restarts_so r carry restarts j, starts r carry restarts j)) first

      in_middle : AreThere n older (reports_at (middle r carry restarts t.sent j)) (restart_events r jobs restarts (length j) h).outcomes
      in_middle = there_same n older (reports_at (begin_calls restarts (length j) h)) (reports_at (middle r carry restarts t.sent j)) (restart_events r jobs restarts (length j) h).outcomes
          (λ k. ats_keep (λ g. reports_at (own_mst carry (length j) (mst_in t.sent) (begin_calls restarts (length j) h)) k ≡ reports_at g k)
          r carry (length j) (ats_in t.sent) (own_mst carry (length j) (mst_in t.sent) (begin_calls restarts (length j) h)) refl
          (λ content g so. so)) (at_begin (restarts (length j) 0))

      at_end : (falls : Bool) → AreRight n (λ k. told_at_end falls (p.now.report k) (broken p k) (reports_at (middle r carry restarts t.sent j) k))
          → AreThere n older (λ k. told_at_end falls (p.now.report k) (broken p k) (reports_at (middle r carry restarts t.sent j) k))
          (if falls then with_reports (broken p) n (with_reports p.now.report n (restart_events r jobs restarts (length j) h).outcomes) else with_reports p.now.report n (restart_events r jobs restarts (length j) h).outcomes)
      at_end false right = there_after n older (reports_at (middle r carry restarts t.sent j)) p.now.report (restart_events r jobs restarts (length j) h).outcomes right in_middle
      at_end true right =
          there_after n older (λ k. with_told (p.now.report k) (reports_at (middle r carry restarts t.sent j) k)) (broken p) (with_reports p.now.report n (restart_events r jobs restarts (length j) h).outcomes) right
          (there_after n older (reports_at (middle r carry restarts t.sent j)) p.now.report (restart_events r jobs restarts (length j) h).outcomes
          (right_before n (broken p) (λ k. with_told (p.now.report k) (reports_at (middle r carry restarts t.sent j) k)) right) in_middle)

  has_ended : (j : List CycleView) (m : ℕ) → IsRun r jobs carry restarts j → HasEnded m j → (k : ℕ) × (k < n) × Reported (reports_at (master_calls r carry restarts j) k) m
  has_ended [] m run none = absurd none
  has_ended (t ∷ j) m (run, next) (inl (o, has)) = let (k, below, reported, new) = (there_in t j next).from m o has in (k, below, reported)
  has_ended (t ∷ j) m (run, next) (inr before) = let (k, below, reported) = has_ended j m run before in (k, below, (there_in t j next).keeps k m reported)

  pub are_once : (t : CycleView) (j : List CycleView) → IsRun r jobs carry restarts (t ∷ j) → AreOnce t j
  are_once t j (run, next) = record {
    ascend = (there_in t j next).ascend;
    new = λ m ended before. let (k, below, reported, new) = (there_in t j next).from m ended.0 ended.1 in let (i, low, old) = has_ended j m run before in new i low old;
  }
