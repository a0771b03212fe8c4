use Rattle.std.proofs.Common.{◌≡◌, ◌<◌}
use Rattle.sercos_timing.specs.Order.{times, first_sent}
use Rattle.sercos_timing.specs.Inequalities.{greatest}
use Rattle.sercos_plan.proofs.least.greatest_t4min.Given as goal

abbrev pub invariant-loop-place : goal.invariant-loop-place
invariant-loop-place l = record {
  value : l.most ≡ greatest (λ k. (times l.w k).t4min) (first_sent l.w.order l.place-index);
  limit : l.most < 65536;
}
