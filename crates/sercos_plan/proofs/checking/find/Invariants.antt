use Rattle.std.proofs.Common.{◌≡◌, ◌<◌, length}
use Rattle.std.specs.Prelude.{IfSome}
use Rattle.sercos_timing.specs.Order.{first_sent}
use Rattle.sercos_plan.specs.Chains.{up_to, ats_at}
use Rattle.sercos_plan.proofs.checking.find.Given as goal

abbrev pub invariant-loop-at : goal.invariant-loop-at
invariant-loop-at l = record {
  within : IfSome l.found (λ i. i < length l.w.order);
  value : up_to l.w l.address (first_sent l.w.order l.at) ≡ ats_at l.w.order l.found;
}
