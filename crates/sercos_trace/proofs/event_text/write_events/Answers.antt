use Rattle.std.proofs.Common.{ap, subst}
use Rattle.sercos_trace.specs.Texts.{events_text}
use Rattle.sercos_trace.specs.MarkedWritten.{HasFailed, Writes}
use Rattle.sercos_trace.proofs.MarkedLemmas.{failed_is, failed_early, failed_later, writes_then}
use Rattle.sercos_trace.proofs.event_text.write_events.Goals as goal

pub returns-in_err-write_outcomes : goal.returns-in_err-write_outcomes
returns-in_err-write_outcomes g c = failed_is _ _ c.from_residual.result _ c.from_residual.ensures.0 (subst (HasFailed _ _) (ap (events_text c.args.wishes.now c.args.cycle) c.events.view_is) (failed_early _ _ _ _ (rw c.as_slice.ensures.value at c.in_err-write_outcomes.ensures)))

pub returns-in_err-write_plan : goal.returns-in_err-write_plan
returns-in_err-write_plan g c = failed_is _ _ c.from_residual-in_err-write_plan.result _ c.from_residual-in_err-write_plan.ensures.0 (subst (HasFailed _ _) (ap (events_text c.args.wishes.now c.args.cycle) c.events.view_is) (failed_later _ _ _ _ _ (rw c.as_slice.ensures.value at c.in_ok-write_outcomes.ensures) (failed_early _ _ _ _ c.in_err-write_plan.ensures)))

pub returns-in_err-write_stop : goal.returns-in_err-write_stop
returns-in_err-write_stop g c = failed_is _ _ c.from_residual-in_err-write_stop.result _ c.from_residual-in_err-write_stop.ensures.0 (subst (HasFailed _ _) (ap (events_text c.args.wishes.now c.args.cycle) c.events.view_is) (failed_later _ _ _ _ _ (rw c.as_slice.ensures.value at c.in_ok-write_outcomes.ensures) (failed_later _ _ _ _ _ c.in_ok-write_plan.ensures (failed_early _ _ _ _ c.in_err-write_stop.ensures))))

pub returns : goal.returns
returns g c = subst (Writes _ _ c.write_fall.result) (ap (events_text c.args.wishes.now c.args.cycle) c.events.view_is) (writes_then _ _ _ _ _ _ (rw c.as_slice.ensures.value at c.in_ok-write_outcomes.ensures) (writes_then _ _ _ _ _ _ c.in_ok-write_plan.ensures (writes_then _ _ _ _ _ _ c.in_ok-write_stop.ensures c.write_fall.ensures)))
