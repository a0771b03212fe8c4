use Rattle.sercos_master.proofs.Words.{◌≡◌, ◌≤◌, ◌+◌, ℕ, length, if◌then◌else◌, nat_lt, with_reports, Known, Seen, ended_in, SeatsStandFor}
use Rattle.sercos_master.proofs.seats.end_seats.Given as goal

-- the seats so far stand for the end of the cycle, and the others not yet
abbrev pub invariant-loop-place : goal.invariant-loop-place
invariant-loop-place l = record {
  count : length l.seats.items ≡ length l.initial.seats.items;
  stand : (s : Known) (seen : ℕ → Seen) → SeatsStandFor l.initial.seats.items s seen → SeatsStandFor l.seats.items s (λ k. if nat_lt k l.place then ended_in l.phase (seen k) else seen k);
  told : (s : Known) (seen : ℕ → Seen) → SeatsStandFor l.initial.seats.items s seen → length l.initial.reports.items + length l.initial.seats.items ≤ 128 →
      l.reports.items ≡ with_reports (λ k. (seen k).report) l.place l.initial.reports.items;
}
