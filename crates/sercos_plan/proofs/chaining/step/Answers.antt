use Rattle.std.proofs.Common.{◌≡◌, true, false, ◌++◌, ◌∷◌, [], slice_index, sym, ap, ◌∙◌}
use Rattle.sercos_timing.specs.Inequalities.{asked_1, asked_2, asked_3}
use Rattle.sercos_plan.specs.ChainOf.{link_of, starts, is_tight_at, trail_to_some}
use Rattle.sercos_plan.proofs.TrailLemmas.{step_own, step_gap, step_neighbor, step_slave}
use Rattle.sercos_plan.proofs.chaining.step.Goals as goal

pub returns-then-own-clause-value : goal.returns-then-own-clause-value
returns-then-own-clause-value c =
    let w = c.args.w.now in
    let one : is_tight_at w (asked_1 w) c.args.at ≡ true = sym c.is_start_tight-own.ensures ∙ c.if-own.true in
    let last : link_of w 1 (slice_index w.order c.args.at) (starts w (slice_index w.order c.args.at)) ≡ c.start_link.result = sym c.start_link.ensures in
    step_own w c.args.at one ∙ ap (λ l. l ∷ []) last

pub returns-then-gap-clause-value : goal.returns-then-gap-clause-value
returns-then-gap-clause-value c =
    let w = c.args.w.now in
    let one : is_tight_at w (asked_1 w) c.args.at ≡ false = sym c.is_start_tight-own.ensures ∙ c.if-own.false in
    let two : is_tight_at w (asked_2 w) c.args.at ≡ true = sym c.is_start_tight-gap.ensures ∙ c.if-gap.true in
    let last : link_of w 2 (slice_index w.order c.args.at) (starts w (slice_index w.order c.args.at)) ≡ c.start_link-then-gap.result = sym c.start_link-then-gap.ensures in
    step_gap w c.args.at one two ∙ ap (λ l. l ∷ []) last

pub returns-then-neighbor-clause-value : goal.returns-then-neighbor-clause-value
returns-then-neighbor-clause-value c =
    let w = c.args.w.now in
    let one : is_tight_at w (asked_1 w) c.args.at ≡ false = sym c.is_start_tight-own.ensures ∙ c.if-own.false in
    let two : is_tight_at w (asked_2 w) c.args.at ≡ false = sym c.is_start_tight-gap.ensures ∙ c.if-gap.false in
    let three : is_tight_at w (asked_3 w) c.args.at ≡ true = sym c.is_start_tight-neighbor.ensures ∙ c.if-neighbor.true in
    let last : link_of w 3 (slice_index w.order c.args.at) (starts w (slice_index w.order c.args.at)) ≡ c.start_link-then-neighbor.result = sym c.start_link-then-neighbor.ensures in
    step_neighbor w c.requires.valid c.args.at c.requires.within c.neighbor_at.result c.neighbor_at.ensures.before c.neighbor_at.ensures.value one two three ∙ ap (λ l. trail_to_some w c.neighbor_at.result ++ l ∷ []) last

pub returns-clause-value : goal.returns-clause-value
returns-clause-value c =
    let w = c.args.w.now in
    let one : is_tight_at w (asked_1 w) c.args.at ≡ false = sym c.is_start_tight-own.ensures ∙ c.if-own.false in
    let two : is_tight_at w (asked_2 w) c.args.at ≡ false = sym c.is_start_tight-gap.ensures ∙ c.if-gap.false in
    let three : is_tight_at w (asked_3 w) c.args.at ≡ false = sym c.is_start_tight-neighbor.ensures ∙ c.if-neighbor.false in
    let last : link_of w 4 (slice_index w.order c.args.at) (starts w (slice_index w.order c.args.at)) ≡ c.start_link-2.result = sym c.start_link-2.ensures in
    step_slave w c.requires.valid c.args.at c.requires.within c.previous_at.result c.previous_at.ensures.before c.previous_at.ensures.value one two three ∙ ap (λ l. trail_to_some w c.previous_at.result ++ l ∷ []) last
