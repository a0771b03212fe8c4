-- What is small in a cycle: the number of unseen arrivals, and the lists of its plan.
use Rattle.sercos_law_run.proofs.Words.{inr, inl, cases_Option, cases_Bool, ◌≡◌, ℕ, zero, suc, ◌+◌, ◌≤◌, Bool, true, false, if◌then◌else◌, List, [], ◌∷◌, length, slice_index, Option, Some, None, IfSome, Ok, Err, refl, sym, ap, subst, ◌∙◌, arith, cond_both, option_or, length-map, length-map-range_with_len, Job, WishesView, PlanView, Wish, positions, is_roomy, least_t1, sent, planned, chain_of, RingView, wish_of, SentView, EventsView, CycleView, Known, Task, known_of, member_of, tasks_for, wishes_given, Past, Call, past, outcomes, IsPlanned, plan_told, restart_told, Carry, Restarts, passage, sum_below, unseen_at, is_at, ats_in, mst_in, mdt_in, IsNext, unseen_ats, unseen_mst, unseen_mdt, station_of, looks_back, middle, restart_events, no_events, master_calls, wishes_length, least_plan, wishes_of, Kind}

-- Unseen arrivals: one at most for each passage.
at_most_one : (b : Bool) → (if b then 1 else 0) ≤ 1
at_most_one true = omega arith
at_most_one false = omega arith

sum_few : (n : ℕ) (f : ℕ → ℕ) → ((k : ℕ) → f k ≤ 1) → sum_below n f ≤ n
sum_few zero f each = omega arith
sum_few (suc n) f each = omega (arith, sum_few n f each, each n)

mdt_one : (carry : Carry) (cycle : ℕ) (mdt : Option (List ℕ)) (k : ℕ) → unseen_mdt carry cycle mdt k ≤ 1
mdt_one carry cycle None k = omega arith
mdt_one carry cycle (Some mdt) k = at_most_one _

ats_few : (r : RingView) (carry : Carry) (cycle : ℕ) (ats : List (List ℕ)) → unseen_ats r carry cycle ats ≤ length ats
ats_few r carry cycle [] = omega arith
ats_few r carry cycle (at ∷ ats) = let one : unseen_at carry (passage cycle Kind.At (station_of r (slice_index at 0)) 0) at ≤ 1 = at_most_one _ in omega (arith, ats_few r carry cycle ats, one)

ats_in_few : (sent : List SentView) → length (ats_in sent) ≤ length sent
ats_in_few [] = omega arith
ats_in_few (s ∷ sent) = elim (cases_Bool (is_at s.kind)) [
  | inl on ↦ rw on (omega (arith, (ats_in_few sent)))
  | inr off ↦ rw off (omega (arith, (ats_in_few sent)))
]

pub unseen_few : (r : RingView) (jobs : List Job) (carry : Carry) (restarts : Restarts) (t : CycleView) (j : List CycleView)
    → IsNext r jobs carry restarts t j → length r.drives ≤ 64 → length t.sent ≤ 66 → t.unseen ≤ 195
unseen_few r jobs carry restarts t j next few sent =
    let n : ℕ = length r.drives in
    let cycle : ℕ = length j in
    let msts : sum_below n (unseen_mst carry cycle (mst_in t.sent)) ≤ n = sum_few n (unseen_mst carry cycle (mst_in t.sent)) (λ k. at_most_one _) in
    let own : unseen_at carry (passage cycle Kind.Mst 0 0) (mst_in t.sent) ≤ 1 = at_most_one _ in
    let ats : unseen_ats r carry cycle (ats_in t.sent) ≤ length (ats_in t.sent) = ats_few r carry cycle (ats_in t.sent) in
    let mdts : sum_below n (unseen_mdt carry cycle (mdt_in t.sent)) ≤ n = sum_few n (unseen_mdt carry cycle (mdt_in t.sent)) (mdt_one carry cycle (mdt_in t.sent)) in
    omega (arith, next.unseen, few, sent, msts, own, ats, mdts, ats_in_few t.sent)

-- A plan has a time and a position for each drive.
positions_count : (next : ℕ) (drives : List Wish) → length (positions next drives) ≡ length drives
positions_count next [] = refl
positions_count next (d ∷ drives) = ap suc (positions_count (next + d.record_len) drives)

abbrev Counts : WishesView → PlanView → Type 0
Counts w p = (length p.t1 ≡ length w.drives) × (length p.position ≡ length w.drives)

least_counts : (w : WishesView) → Counts w (least_plan w)
unfolding least_plan
least_counts w = (length-map-range_with_len (least_t1 w (sent w)) 0 (length w.drives), positions_count 1 w.drives)

if_counts : {E : Type 0} (w : WishesView) (e : E) (b : Bool) (p : PlanView) → (if b then Ok (least_plan w) else Err e) ≡ Ok p → Counts w p
if_counts w e true p is = let same : least_plan w ≡ p = cc in subst (Counts w) same (least_counts w)
if_counts w e false p is = absurd (cc)

-- what a plan has of a ring
abbrev pub HasEach : RingView → Option PlanView → Type 0
HasEach r plan = IfSome plan (λ p. (length p.t1 ≡ length r.drives) × (length p.position ≡ length r.drives))

pub due_each : (r : RingView) (p : Past) (b : Bool) → IsPlanned (known_of r) p → HasEach r (if b then p.plan else None)
due_each r p true planned = elim (cases_Option p.plan) [
  | inl is ↦ rw is tt
  | inr is ↦ rw is.1 (let w : WishesView = wishes_given (known_of r) (outcomes p) in
      let counts : Counts w is.0 = if_counts w (chain_of w) (is_roomy w) is.0 (planned is.0 is.1).planned_is in
      let drives : length w.drives ≡ length r.drives = wishes_length (known_of r).drives 0 (outcomes p) ∙ length-map r.drives member_of in
      (counts.0 ∙ drives, counts.1 ∙ drives))
]
due_each r p false planned = tt

pub or_each : (r : RingView) (plan other : Option PlanView) → HasEach r plan → other ≡ None → HasEach r (option_or plan other)
or_each r None other each none = subst (HasEach r) (sym none) tt
or_each r (Some plan) other each none = each

plan_each : (r : RingView) (jobs : List Job) (carry : Carry) (restarts : Restarts) (t : CycleView) (j : List CycleView)
    → ((s : Known) (requests : ℕ → List Task) (h : List Call) → IsPlanned s (past s requests h)) → IsNext r jobs carry restarts t j → HasEach r t.events.plan
plan_each r jobs carry restarts t j law next =
    let calls : List Call = middle r carry restarts t.sent j in
    let p : Past = looks_back r jobs calls in
    let e : EventsView = restart_events r jobs restarts (length j) (master_calls r carry restarts j) in
    let each : HasEach r (option_or (plan_told p) e.plan) = or_each r (plan_told p) e.plan
    (due_each r p p.now.plans (law (known_of r) (tasks_for (known_of r) jobs) calls))
    (cond_both (restarts (length j) 0) (restart_told (known_of r) (looks_back r jobs (master_calls r carry restarts j)) no_events)
    no_events (λ v. v.plan ≡ None) (λ on. refl) (λ off. refl)) in
    subst (HasEach r) (sym (ap (λ v. v.plan) next.events)) each

pub starts_of : (n : ℕ) (r : RingView) (plan : Option PlanView) → n ≡ length r.drives → HasEach r plan → IfSome plan (λ p. length p.t1 ≡ n)
starts_of n r None is each = tt
starts_of n r (Some p) is each = each.0 ∙ sym is

pub positions_of : (n : ℕ) (r : RingView) (plan : Option PlanView) → n ≡ length r.drives → HasEach r plan → IfSome plan (λ p. length p.position ≡ n)
positions_of n r None is each = tt
positions_of n r (Some p) is each = each.1 ∙ sym is

pub wished : (w : WishesView) (r : RingView) → w ≡ wishes_of r → length w.drives ≡ length r.drives
unfolding wishes_of
wished w r is = ap (λ v. length v.drives) is ∙ length-map r.drives wish_of

pub plan_starts : (r : RingView) (jobs : List Job) (carry : Carry) (restarts : Restarts) (w : WishesView) (t : CycleView) (j : List CycleView)
    → ((s : Known) (requests : ℕ → List Task) (h : List Call) → IsPlanned s (past s requests h)) → IsNext r jobs carry restarts t j → w ≡ wishes_of r
    → IfSome t.events.plan (λ p. length p.t1 ≡ length w.drives)
plan_starts r jobs carry restarts w t j law next is = starts_of (length w.drives) r t.events.plan (wished w r is) (plan_each r jobs carry restarts t j law next)

pub plan_positions : (r : RingView) (jobs : List Job) (carry : Carry) (restarts : Restarts) (w : WishesView) (t : CycleView) (j : List CycleView)
    → ((s : Known) (requests : ℕ → List Task) (h : List Call) → IsPlanned s (past s requests h)) → IsNext r jobs carry restarts t j → w ≡ wishes_of r
    → IfSome t.events.plan (λ p. length p.position ≡ length w.drives)
plan_positions r jobs carry restarts w t j law next is = positions_of (length w.drives) r t.events.plan (wished w r is) (plan_each r jobs carry restarts t j law next)
