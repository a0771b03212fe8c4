use Rattle.std.proofs.Common.{◌≡◌, drop}
use Rattle.std.specs.Prelude.{None}
use Rattle.sercos_plan.specs.Chains.{are_linked}
use Rattle.sercos_plan.proofs.checking.are_linked.Given as goal

abbrev pub invariant-loop-link : goal.invariant-loop-link
invariant-loop-link l = are_linked l.w l.from (drop l.link-index l.links) ≡ are_linked l.w None l.links
