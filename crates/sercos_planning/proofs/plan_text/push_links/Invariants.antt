use Rattle.std.proofs.Common.{◌≡◌, ◌++◌, take}
use Rattle.std.specs.List.{flat_map}
use Rattle.sercos_planning.specs.Planning.{link_line}
use Rattle.sercos_planning.proofs.plan_text.push_links.Given as goal

abbrev pub invariant-loop-link : goal.invariant-loop-link
invariant-loop-link l = l.out.items ≡ l.initial.out.items ++ flat_map link_line (take l.link-index l.links)
