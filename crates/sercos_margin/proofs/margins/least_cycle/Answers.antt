use Rattle.std.specs.Prelude.{Some}
use Rattle.sercos_margin.proofs.MarginLemmas.{shortest_cycle, no_cycle}
use Rattle.sercos_margin.proofs.FoundLemmas.{cycle_is}
use Rattle.sercos_margin.proofs.margins.least_cycle.Goals as goal

pub returns-then-has_with_cycle : goal.returns-then-has_with_cycle
returns-then-has_with_cycle c =
    let least = shortest_cycle c.args.w.now (c.has_with_cycle.ensures.has c.if-has_with_cycle.true) in
    record { cycle = least; value = cycle_is _ _ c.requires least }

pub returns-else-has_with_cycle-2 : goal.returns-else-has_with_cycle-2
returns-else-has_with_cycle-2 c =
    let none = no_cycle c.args.w.now (c.has_with_cycle-2.ensures.none c.if-has_with_cycle-2.false) in
    record { cycle = none; value = cycle_is _ _ c.requires none }

pub returns-then-has_with_cycle-2-clause-value : goal.returns-then-has_with_cycle-2-clause-value
returns-then-has_with_cycle-2-clause-value c = cycle_is _ (Some _) c.requires c.least_multiple.ensures
