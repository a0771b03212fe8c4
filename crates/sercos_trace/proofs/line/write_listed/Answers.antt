use Rattle.std.proofs.Common.{subst, sym}
use Rattle.sercos_trace.specs.Marked.{NoFeed}
use Rattle.sercos_trace.proofs.FeedLemmas.{NoFeed-append, filled_no_feed, idents_no_feed}
use Rattle.sercos_trace.proofs.line.write_listed.Goals as goal

pub end_line-requires-clause-one : goal.end_line-requires-clause-one
end_line-requires-clause-one g c = subst NoFeed (sym c.push_idents.ensures.value) (NoFeed-append _ _ (filled_no_feed c.args.kind _ _ _ _ c.template_for.ensures.value c.clear.ensures c.push_line.ensures.value) (idents_no_feed _))
