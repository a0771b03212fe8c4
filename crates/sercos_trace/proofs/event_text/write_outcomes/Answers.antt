use Rattle.std.proofs.Common.{◌++◌, [], refl, arith}
use Rattle.sercos_trace.specs.Texts.{outcome_text}
use Rattle.sercos_trace.proofs.MarkedLemmas.{loop_next, loop_failed, loop_end, failed_is, taken_none, taken_then}
use Rattle.sercos_trace.proofs.event_text.write_outcomes.Goals as goal

pub loop-outcome-init : goal.loop-outcome-init
loop-outcome-init g c = record { front = []; whole = refl; taken = taken_none _ }

pub returns-in_err-write_ended : goal.returns-in_err-write_ended
returns-in_err-write_ended g c =
    failed_is _ _ c.from_residual.result _ c.from_residual.ensures.0
    (loop_failed _ _ _ (outcome_text c.args.cycle) c.args.outcomes.now c.loop-outcome.outcome-index c.outcome-item.result c.loop-outcome.invariant.front _ (omega arith) c.outcome-item.is c.loop-outcome.invariant.whole c.loop-outcome.invariant.taken c.in_err-write_ended.ensures)

pub loop-outcome-preserved : goal.loop-outcome-preserved
loop-outcome-preserved g c = record {
  front = c.loop-outcome.invariant.front ++ (outcome_text c.args.cycle) c.outcome-item.result;
  whole = loop_next (outcome_text c.args.cycle) c.args.outcomes.now c.loop-outcome.outcome-index c.outcome-item.result _ _ (omega arith) c.outcome-item.is c.loop-outcome.invariant.whole;
  taken = taken_then _ _ _ _ _ c.loop-outcome.invariant.taken c.in_ok-write_ended.ensures;
}

pub returns : goal.returns
returns g c = loop_end _ _ (outcome_text c.args.cycle) c.args.outcomes.now c.loop-outcome.outcome-index _ _ (omega arith) c.loop-outcome.invariant.whole c.loop-outcome.invariant.taken
