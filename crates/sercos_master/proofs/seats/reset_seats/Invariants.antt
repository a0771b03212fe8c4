use Rattle.sercos_master.proofs.Words.{◌≡◌, ◌≤◌, ◌+◌, ℕ, length, if◌then◌else◌, nat_lt, with_reports, Known, Seen, forgotten, broken_in, SeatsStandFor}
use Rattle.sercos_master.proofs.seats.reset_seats.Given as goal

-- of the seats so far nothing was seen, and the others are as before
abbrev pub invariant-loop-place : goal.invariant-loop-place
invariant-loop-place l = record {
  count : length l.seats.items ≡ length l.initial.seats.items;
  stand : (s : Known) (seen : ℕ → Seen) → SeatsStandFor l.initial.seats.items s seen → SeatsStandFor l.seats.items s (λ k. if nat_lt k l.place then forgotten (seen k) else seen k);
  told : (s : Known) (seen : ℕ → Seen) → SeatsStandFor l.initial.seats.items s seen → length l.initial.reports.items + length l.initial.seats.items ≤ 128 →
      l.reports.items ≡ with_reports (λ k. broken_in (seen k)) l.place l.initial.reports.items;
}
