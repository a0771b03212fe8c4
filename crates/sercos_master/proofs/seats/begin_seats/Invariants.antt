use Rattle.sercos_master.proofs.Words.{◌≡◌, ℕ, Option, List, length, if◌then◌else◌, nat_lt, is_some, PlanView, Known, Task, Seen, AreWaiting, with_begun, begun_task, SeatsStandFor}
use Rattle.sercos_master.proofs.seats.begin_seats.Given as goal

-- the seats so far have begun their tasks, and the others not yet
abbrev pub invariant-loop-place : goal.invariant-loop-place
invariant-loop-place l = record {
  count : length l.seats.items ≡ length l.initial.seats.items;
  stand : (s : Known) (seen : ℕ → Seen) (plan : Option PlanView) (waiting : ℕ → List Task) → ((k : ℕ) → AreWaiting (waiting k)) → is_some plan ≡ l.planned →
      SeatsStandFor l.initial.seats.items s seen → SeatsStandFor l.seats.items s (λ k. if nat_lt k l.place then with_begun (begun_task 3 s plan (waiting k) k (seen k)) (seen k) else seen k);
}
