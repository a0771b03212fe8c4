use Rattle.std.proofs.Common.{rules, ◌≡◌, ◌<◌, false, length, slice_index, sym, ap, ◌∙◌}
use Rattle.std.specs.Prelude.{Some}
use Rattle.sercos_timing.specs.Order.{first_sent}
use Rattle.sercos_timing.specs.FirstBroken.{asked_by, has_by, is_met}
use Rattle.sercos_timing.proofs.BreakLemmas.{unmet_at}
use Rattle.sercos_timing.proofs.fitting.unmet.Goals as goal

pub returns-then-not-is_met-clause-value : goal.returns-then-not-is_met-clause-value
returns-then-not-is_met-clause-value c =
    let w = c.args.w.now in
    let place : c.from.result ≡ slice_index w.order c.loop-at.at = search rules in
    let below : c.loop-at.at < length w.order = search rules in
    let fails : is_met (asked_by w c.args.p.now c.args.rule (slice_index w.order c.loop-at.at) (first_sent w.order c.loop-at.at)) (has_by w c.args.p.now c.args.rule (slice_index w.order c.loop-at.at)) ≡ false =
    rw (← c.asked.ensures, ← c.has.ensures, ← c.is_met.ensures) c.if-not-is_met.true in
    ap Some place ∙ sym (unmet_at (asked_by w c.args.p.now c.args.rule) (has_by w c.args.p.now c.args.rule) w.order c.loop-at.at (length w.order) c.loop-at.invariant fails below)
