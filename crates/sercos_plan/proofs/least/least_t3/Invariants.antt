use Rattle.std.proofs.Common.{◌≡◌, ◌+◌, ◌*◌, ◌≤◌}
use Rattle.sercos_timing.specs.Order.{times, first_sent, mdt_bits}
use Rattle.sercos_timing.specs.Inequalities.{greatest}
use Rattle.sercos_plan.proofs.least.least_t3.Given as goal

abbrev pub invariant-loop-at : goal.invariant-loop-at
invariant-loop-at l = record {
  value : l.most ≡ greatest (λ k. l.w.rate * l.t2 + (mdt_bits l.w + l.w.rate * (times l.w k).tmtsg)) (first_sent l.w.order l.at);
  limit : l.most ≤ l.w.rate * (l.t2 + 75535);
}
