use Rattle.std.proofs.Common.{◌++◌, [], get_or, refl, arith}
use Rattle.sercos_trace.specs.Texts.{link_text}
use Rattle.sercos_trace.proofs.MarkedLemmas.{loop_next, loop_failed, loop_end, failed_is, taken_none, taken_then, same_item}
use Rattle.sercos_trace.proofs.event_text.write_links.Goals as goal

pub loop-link-init : goal.loop-link-init
loop-link-init g c = record { front = []; whole = refl; taken = taken_none _ }

pub returns-in_err-write_link : goal.returns-in_err-write_link
returns-in_err-write_link g c =
    failed_is _ _ c.from_residual.result _ c.from_residual.ensures.0
    (loop_failed _ _ _ (link_text c.args.cycle) c.args.links.now c.loop-link.link-index (get_or c.args.links.now c.loop-link.link-index (record { rule = 0; drive = 0; at = 0 })) c.loop-link.invariant.front _ (omega arith) (same_item c.args.links.now c.loop-link.link-index (record { rule = 0; drive = 0; at = 0 }) (get_or c.args.links.now c.loop-link.link-index (record { rule = 0; drive = 0; at = 0 })) (omega arith)) c.loop-link.invariant.whole c.loop-link.invariant.taken c.in_err-write_link.ensures)

pub loop-link-preserved : goal.loop-link-preserved
loop-link-preserved g c = record {
  front = c.loop-link.invariant.front ++ (link_text c.args.cycle) (get_or c.args.links.now c.loop-link.link-index (record { rule = 0; drive = 0; at = 0 }));
  whole = loop_next (link_text c.args.cycle) c.args.links.now c.loop-link.link-index (get_or c.args.links.now c.loop-link.link-index (record { rule = 0; drive = 0; at = 0 })) _ _ (omega arith) (same_item c.args.links.now c.loop-link.link-index (record { rule = 0; drive = 0; at = 0 }) (get_or c.args.links.now c.loop-link.link-index (record { rule = 0; drive = 0; at = 0 })) (omega arith)) c.loop-link.invariant.whole;
  taken = taken_then _ _ _ _ _ c.loop-link.invariant.taken c.in_ok-write_link.ensures;
}

pub returns : goal.returns
returns g c = loop_end _ _ (link_text c.args.cycle) c.args.links.now c.loop-link.link-index _ _ (omega arith) c.loop-link.invariant.whole c.loop-link.invariant.taken
