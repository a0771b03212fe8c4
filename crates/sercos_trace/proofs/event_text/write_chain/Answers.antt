use Rattle.std.proofs.Common.{ap, subst}
use Rattle.std.specs.List.{flat_map}
use Rattle.sercos_plan.specs.Views.{ChainView}
use Rattle.sercos_trace.specs.Texts.{link_text}
use Rattle.sercos_trace.specs.MarkedWritten.{HasTaken, HasFailed}
use Rattle.sercos_trace.proofs.MarkedLemmas.{failed_is, failed_early, failed_later, writes_then}
use Rattle.sercos_trace.proofs.event_text.write_chain.Goals as goal

pub returns-in_err-write_line : goal.returns-in_err-write_line
returns-in_err-write_line g c = failed_is _ _ c.from_residual.result _ c.from_residual.ensures.0 (failed_early _ _ _ _ c.in_err-write_line.ensures)

pub returns-in_err-write_links : goal.returns-in_err-write_links
returns-in_err-write_links g c = failed_is _ _ c.from_residual-in_err-write_links.result _ c.from_residual-in_err-write_links.ensures.0 (failed_later _ _ _ _ _ c.in_ok-write_line.ensures (failed_early _ _ _ _ (subst (HasFailed _ _) (ap (λ (v : ChainView). flat_map (link_text c.args.cycle) v.links) c.chain.view_is) (rw c.as_slice.ensures.value at c.in_err-write_links.ensures))))

pub returns : goal.returns
returns g c = (writes_then _ _ _ _ _ _ c.in_ok-write_line.ensures (writes_then _ _ _ _ _ _ (subst (HasTaken _ _) (ap (λ (v : ChainView). flat_map (link_text c.args.cycle) v.links) c.chain.view_is) (rw c.as_slice.ensures.value at c.in_ok-write_links.ensures)) c.write_bound.ensures))
