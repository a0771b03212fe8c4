use Rattle.std.proofs.Common.{◌++◌, [], refl, arith}
use Rattle.sercos_trace.specs.Texts.{sent_text}
use Rattle.sercos_trace.proofs.MarkedLemmas.{loop_next, loop_failed, loop_end, failed_is, taken_none, taken_then}
use Rattle.sercos_trace.proofs.cycle_text.write_all_sent.Goals as goal

pub loop-telegram-init : goal.loop-telegram-init
loop-telegram-init g c = record { front = []; whole = refl; taken = taken_none _ }

pub returns-in_err-write_sent : goal.returns-in_err-write_sent
returns-in_err-write_sent g c =
    failed_is _ _ c.from_residual.result _ c.from_residual.ensures.0
    (loop_failed _ _ _ (sent_text c.args.cycle) c.args.sent.now c.loop-telegram.telegram-index c.telegram-item.result c.loop-telegram.invariant.front _ (omega arith) c.telegram-item.is c.loop-telegram.invariant.whole c.loop-telegram.invariant.taken c.in_err-write_sent.ensures)

pub loop-telegram-preserved : goal.loop-telegram-preserved
loop-telegram-preserved g c = record {
  front = c.loop-telegram.invariant.front ++ (sent_text c.args.cycle) c.telegram-item.result;
  whole = loop_next (sent_text c.args.cycle) c.args.sent.now c.loop-telegram.telegram-index c.telegram-item.result _ _ (omega arith) c.telegram-item.is c.loop-telegram.invariant.whole;
  taken = taken_then _ _ _ _ _ c.loop-telegram.invariant.taken c.in_ok-write_sent.ensures;
}

pub returns : goal.returns
returns g c = loop_end _ _ (sent_text c.args.cycle) c.args.sent.now c.loop-telegram.telegram-index _ _ (omega arith) c.loop-telegram.invariant.whole c.loop-telegram.invariant.taken
