use Rattle.sercos_master.proofs.Words.{◌≡◌, ◌≤◌, ℕ, length, min, take, Known, wishes_from, Seen, outcomes_seen, SeatsStandFor}
use Rattle.sercos_master.proofs.seats.wish_list.Given as goal

-- the wishes of the drives so far
abbrev pub invariant-loop-place : goal.invariant-loop-place
invariant-loop-place l = record {
  count : length l.wishes.items ≡ min l.place 64;
  all : (s : Known) (seen : ℕ → Seen) → length l.seats ≡ length s.drives → length s.drives ≤ 64 → SeatsStandFor l.seats s seen →
      l.wishes.items ≡ wishes_from (take l.place s.drives) 0 (λ k. outcomes_seen (seen k));
}
