use Rattle.sercos_trace.proofs.FeedLemmas.{filled_no_feed}
use Rattle.sercos_trace.proofs.line.write_line.Goals as goal

pub end_line-requires-clause-one : goal.end_line-requires-clause-one
end_line-requires-clause-one g c = filled_no_feed c.args.kind _ _ _ _ c.template_for.ensures.value c.clear.ensures c.push_line.ensures.value
