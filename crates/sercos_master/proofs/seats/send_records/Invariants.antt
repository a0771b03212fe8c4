use Rattle.sercos_master.proofs.Words.{◌<◌, ◌≡◌, ◌≤◌, ◌++◌, ℕ, length, if◌then◌else◌, nat_lt, Known, Seen, sent_in, SeatsStandFor, records_upto}
use Rattle.sercos_master.proofs.seats.send_records.Given as goal

-- the seats so far have sent their records, and the others not yet
abbrev pub invariant-loop-place : goal.invariant-loop-place
invariant-loop-place l = record {
  count : length l.seats.items ≡ length l.initial.seats.items;
  stand : (s : Known) (seen : ℕ → Seen) → SeatsStandFor l.initial.seats.items s seen → SeatsStandFor l.seats.items s (λ k. if nat_lt k l.place then sent_in (seen k) else seen k);
  bytes : (s : Known) (seen : ℕ → Seen) → SeatsStandFor l.initial.seats.items s seen → length (l.initial.out ++ records_upto s seen l.count (length l.initial.seats.items)) ≤ 2048 →
      l.out ≡ l.initial.out ++ records_upto s seen l.count l.place;
  some : 0 < length l.fn.out → 0 < length l.out;
}
