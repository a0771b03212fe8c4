use Rattle.std.proofs.Common.{◌≡◌, ◌++◌, ◌∷◌, [], ◌-◌, length, slice_index, sym, ap, ◌∙◌}
use Rattle.std.specs.Prelude.{Some, None}
use Rattle.sercos_timing.specs.Order.{sent}
use Rattle.sercos_plan.specs.Chains.{last_place}
use Rattle.sercos_plan.specs.ChainOf.{trail, starts, link_of}
use Rattle.sercos_plan.proofs.TrailLemmas.{t2_last, t2_master}
use Rattle.sercos_plan.proofs.chaining.t2_links.Goals as goal

pub returns-then-is_last_tight-clause-links : goal.returns-then-is_last_tight-clause-links
returns-then-is_last_tight-clause-links c =
    let w = c.args.w.now in
    let last : slice_index w.order (length c.order.result.now - 1) ≡ last_place w = ap (λ xs. slice_index w.order (length xs - 1)) c.order.ensures.value in
    c.links_through.ensures.links ∙ ap (λ k. trail w (starts w) (sent w) k ++ link_of w 5 k c.args.t2 ∷ []) last
    ∙ t2_last w c.args.t2 c.requires.t2 (sym c.is_last_tight.ensures ∙ c.if-is_last_tight.true)

pub returns-in-Some-clause-links : goal.returns-in-Some-clause-links
returns-in-Some-clause-links c =
    let w = c.args.w.now in
    let k = slice_index w.order c.in-Some.at in
    t2_master w c.args.t2 (Some k) c.links_through-in-Some.result.items c.requires.t2 (sym c.is_last_tight.ensures ∙ c.if-is_last_tight.false) c.in-Some.ensures.value
    (c.links_through-in-Some.ensures.links ∙ ap (λ t. trail w (starts w) (sent w) k ++ link_of w 6 k t ∷ []) c.requires.t2)

pub returns-in-None-clause-links : goal.returns-in-None-clause-links
returns-in-None-clause-links c =
    t2_master c.args.w.now c.args.t2 None c.new.result.items c.requires.t2 (sym c.is_last_tight.ensures ∙ c.if-is_last_tight.false) c.in-None.ensures.value c.new.ensures
