use Rattle.std.proofs.Common.{◌≡◌, ◌++◌, ◌∷◌, [], length, slice_index, sym, ap, ◌∙◌, arith}
use Rattle.sercos_timing.specs.Order.{sent}
use Rattle.sercos_plan.specs.ChainOf.{trail, trail_to, starts}
use Rattle.sercos_plan.proofs.TrailLemmas.{trail_stays}
use Rattle.sercos_plan.proofs.chaining.links_through.Goals as goal

pub returns-clause-links : goal.returns-clause-links
returns-clause-links c =
    let w = c.args.w.now in
    let k = slice_index w.order c.args.at in
    let built : c.push_trail.new.links.items ≡ trail w (starts w) (sent w) k =
    c.push_trail.ensures.links ∙ ap (λ ls. ls ++ trail_to w c.args.at) c.new-links.ensures ∙ sym (trail_stays w c.requires.valid (starts w) (length w.order) c.args.at c.requires.within (omega arith)) in
    c.push.ensures.items ∙ ap (λ ls. ls ++ c.t2_link-link.result ∷ []) built ∙ ap (λ l. trail w (starts w) (sent w) k ++ l ∷ []) c.t2_link-link.ensures
