use Rattle.sercos_trace.proofs.MarkedLemmas.{failed_is, failed_early, writes_then}
use Rattle.sercos_trace.proofs.event_text.write_whole_plan.Goals as goal

pub returns-in_err-write_plan_line : goal.returns-in_err-write_plan_line
returns-in_err-write_plan_line g c = failed_is _ _ c.from_residual.result _ c.from_residual.ensures.0 (failed_early _ _ _ _ c.in_err-write_plan_line.ensures)

pub returns : goal.returns
returns g c = (writes_then _ _ _ _ _ _ c.in_ok-write_plan_line.ensures c.write_slots.ensures)
