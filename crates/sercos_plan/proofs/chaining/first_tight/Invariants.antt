use Rattle.std.proofs.Common.{◌≡◌}
use Rattle.std.specs.Prelude.{None}
use Rattle.sercos_timing.specs.Order.{first_sent}
use Rattle.sercos_plan.specs.ChainOf.{first_tight, bits_of_starts}
use Rattle.sercos_plan.proofs.chaining.first_tight.Given as goal

abbrev pub invariant-loop-at : goal.invariant-loop-at
invariant-loop-at l = first_tight l.w (bits_of_starts l.w) l.t2 (first_sent l.w.order l.at) ≡ None
