use Rattle.std.proofs.Common.{subst, sym}
use Rattle.sercos_text.specs.declared.list.Item.TheVariants.{Address}
use Rattle.sercos_trace.specs.declared.kind.LineKind.TheVariants as kind
use Rattle.sercos_trace.specs.Marked.{NoFeed}
use Rattle.sercos_trace.proofs.FeedLemmas.{NoFeed-append, filled_no_feed, list_no_feed}
use Rattle.sercos_trace.proofs.line.write_order.Goals as goal

pub end_line-requires-clause-one : goal.end_line-requires-clause-one
end_line-requires-clause-one g c = subst NoFeed (sym c.push_addresses.ensures.value) (NoFeed-append _ _ (filled_no_feed kind.Order _ _ _ _ c.template_for.ensures.value c.clear.ensures c.push_line.ensures.value) (list_no_feed Address _))
