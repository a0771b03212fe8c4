use Rattle.std.proofs.Common.{rules, ◌≡◌, ◌+◌, ◌*◌, ◌-◌, ◌<◌, length, slice_index, sym, ap, ◌∙◌}
use Rattle.std.specs.Prelude.{Some}
use Rattle.sercos_timing.specs.Order.{at_bits}
use Rattle.sercos_plan.specs.ChainOf.{is_tight, bits_of_starts}
use Rattle.sercos_plan.proofs.T2Lemmas.{five_some}
use Rattle.sercos_plan.proofs.chaining.is_last_tight.Goals as goal

pub returns : goal.returns
returns c =
    let w = c.args.w.now in
    let some : 0 < length w.order = search rules in
    let last : c.from-last.result ≡ slice_index w.order (length w.order - 1) = search rules in
    let gap : c.gap.result ≡ w.gap = search rules in
    let after : c.after_start.result ≡ bits_of_starts w (slice_index w.order (length w.order - 1)) + (at_bits w (slice_index w.order (length w.order - 1)) + w.rate * w.gap) =
    c.after_start.ensures.value ∙ ap (λ k. bits_of_starts w k + (at_bits w k + w.rate * c.gap.result)) last ∙ ap (λ g. bits_of_starts w (slice_index w.order (length w.order - 1)) + (at_bits w (slice_index w.order (length w.order - 1)) + w.rate * g)) gap in
    c.is_tight.ensures ∙ ap (λ o. is_tight w o c.args.t2) (ap Some after ∙ sym (five_some w (bits_of_starts w) w.order (length w.order) some))
