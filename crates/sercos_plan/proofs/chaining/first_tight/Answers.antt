use Rattle.std.proofs.Common.{rules, ◌≡◌, ◌<◌, true, length, slice_index, sym, ◌∙◌}
use Rattle.sercos_timing.specs.Order.{first_sent}
use Rattle.sercos_timing.specs.Inequalities.{asked_6}
use Rattle.sercos_plan.specs.ChainOf.{is_tight, bits_of_starts}
use Rattle.sercos_plan.proofs.TrailLemmas.{tight_at}
use Rattle.sercos_plan.proofs.chaining.first_tight.Goals as goal

pub returns-then-is_master_tight-clause-value : goal.returns-then-is_master_tight-clause-value
returns-then-is_master_tight-clause-value c =
    let w = c.args.w.now in
    let below : c.loop-at.at < length w.order = search rules in
    let tight : is_tight w (asked_6 w (bits_of_starts w) (slice_index w.order c.loop-at.at) (first_sent w.order c.loop-at.at)) c.args.t2 ≡ true = sym c.is_master_tight.ensures ∙ c.if-is_master_tight.true in
    sym (tight_at w (bits_of_starts w) c.args.t2 c.loop-at.at (length w.order) c.loop-at.invariant tight below)
