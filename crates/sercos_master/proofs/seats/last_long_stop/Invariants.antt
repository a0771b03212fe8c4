use Rattle.sercos_master.proofs.Words.{◌≡◌, ℕ, length, None, ◌-◌, drop, Known, last_long_from, Seen, outcomes_seen, SeatsStandFor}
use Rattle.sercos_master.proofs.seats.last_long_stop.Given as goal

-- none of the drives after it has a long value
abbrev pub invariant-loop-i : goal.invariant-loop-i
invariant-loop-i l = record {
  none : (s : Known) (seen : ℕ → Seen) → length l.seats ≡ length s.drives → SeatsStandFor l.seats s seen →
      last_long_from (drop (l.count - l.i) s.drives) (l.count - l.i) (λ k. outcomes_seen (seen k)) ≡ None;
}
