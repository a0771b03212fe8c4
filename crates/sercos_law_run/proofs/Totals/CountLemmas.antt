-- Counts, cycle by cycle.
use Rattle.sercos_law_run.proofs.Words.{◌≡◌, ℕ, ◌+◌, ◌<◌, ◌≤◌, [], is_some, refl, arith, cond_both, CycleView, Totals, falls_in, AreFew, HasRoom, IsFew, none_made, with_cycle, totals_of}

-- nothing was made yet
pub none_counted : none_made ≡ totals_of []
unfolding totals_of
none_counted = refl

pub none_few : AreFew none_made 0
none_few = record {
  cycles = omega arith;
  complete = omega arith;
  refused = omega arith;
  broken = omega arith;
  falls = omega arith;
  unseen = omega arith;
}

pub fell_once : (m : CycleView) → falls_in m ≤ 1
fell_once m = cond_both (is_some m.events.fall) 1 0 (λ (v : ℕ). v ≤ 1) (λ on. omega arith) (λ off. omega arith)

pub few_more : (t : Totals) (m : CycleView) (n : ℕ) → AreFew t n → IsFew m → AreFew (with_cycle t m) (n + 1)
few_more t m n f g = record {
  cycles = omega (arith, f.cycles);
  complete = omega (arith, f.complete, g.complete);
  refused = omega (arith, f.refused, g.refused);
  broken = omega (arith, f.broken, g.broken);
  falls = omega (arith, f.falls, (fell_once m));
  unseen = omega (arith, f.unseen, g.unseen);
}

-- up to 50,000 cycles, there is room for a cycle more
pub room_for : (t : Totals) (k : ℕ) → k < 50000 → AreFew t k → HasRoom t
room_for t k below f = record {
  cycles = omega (arith, f.cycles, below);
  complete = omega (arith, f.complete, below);
  refused = omega (arith, f.refused, below);
  broken = omega (arith, f.broken, below);
  falls = omega (arith, f.falls, below);
  unseen = omega (arith, f.unseen, below);
}
