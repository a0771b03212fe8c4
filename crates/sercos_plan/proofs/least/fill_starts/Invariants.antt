use Rattle.std.proofs.Common.{◌≡◌, ℕ, ◌*◌, ◌≤◌, get_or}
use Rattle.sercos_timing.specs.Order.{first_sent}
use Rattle.sercos_plan.specs.LeastTimes.{least_t1}
use Rattle.sercos_plan.proofs.least.fill_starts.Given as goal

abbrev pub invariant-loop-at : goal.invariant-loop-at
invariant-loop-at l = record {
  value : (j : ℕ) → get_or l.t1 j 0 ≡ least_t1 l.w (first_sent l.w.order l.at) j;
  limit : (j : ℕ) → get_or l.t1 j 0 ≤ 66300 * l.at;
}
