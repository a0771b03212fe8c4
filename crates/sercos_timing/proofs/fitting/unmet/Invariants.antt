use Rattle.std.proofs.Common.{◌≡◌}
use Rattle.std.specs.Prelude.{None}
use Rattle.sercos_timing.specs.Order.{first_sent}
use Rattle.sercos_timing.specs.FirstBroken.{first_unmet, asked_by, has_by}
use Rattle.sercos_timing.proofs.fitting.unmet.Given as goal

abbrev pub invariant-loop-at : goal.invariant-loop-at
invariant-loop-at l = first_unmet (asked_by l.w l.p l.rule) (has_by l.w l.p l.rule) (first_sent l.w.order l.at) ≡ None
