use Rattle.std.proofs.Common.{◌≡◌, ◌+◌, ◌*◌, ◌≤◌}
use Rattle.sercos_timing.specs.Order.{times, first_sent, sent, at_bits}
use Rattle.sercos_timing.specs.Inequalities.{greatest}
use Rattle.sercos_plan.specs.LeastTimes.{least_bits}
use Rattle.sercos_plan.proofs.least.least_t2.Given as goal

abbrev pub invariant-loop-at : goal.invariant-loop-at
invariant-loop-at l = record {
  value : l.most ≡ greatest (λ k. least_bits l.w (sent l.w) k + (at_bits l.w k + l.w.rate * (times l.w k).tatmt)) (first_sent l.w.order l.at);
  limit : l.most ≤ l.w.rate * (66300 * 65);
}
