use Rattle.std.proofs.Common.{◌≡◌, ◌<◌}
use Rattle.sercos_timing.specs.Order.{times, first_sent}
use Rattle.sercos_timing.specs.Inequalities.{greatest}
use Rattle.sercos_timing.proofs.wishes.Wishes.greatest_tmtsy.Given as goal

abbrev pub invariant-loop-place : goal.invariant-loop-place
invariant-loop-place l = record {
  value : l.most ≡ greatest (λ k. (times l.self k).tmtsy) (first_sent l.self.order l.place-index);
  limit : l.most < 65536;
}
