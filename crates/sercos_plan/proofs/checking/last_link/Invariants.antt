use Rattle.std.proofs.Common.{◌≡◌, drop}
use Rattle.std.specs.Prelude.{None}
use Rattle.sercos_plan.specs.Chains.{last_link}
use Rattle.sercos_plan.proofs.checking.last_link.Given as goal

abbrev pub invariant-loop-link : goal.invariant-loop-link
invariant-loop-link l = last_link l.last (drop l.link-index l.links) ≡ last_link None l.links
