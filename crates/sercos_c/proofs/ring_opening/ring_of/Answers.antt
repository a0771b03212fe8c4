use Rattle.std.proofs.Common.{rules, ◌≡◌, true}
use Rattle.sercos_block.specs.Rings.{is_ring}
use Rattle.sercos_app.proofs.JournalLemmas.{order_within}
use Rattle.sercos_c.proofs.ring_opening.ring_of.Goals as goal

pub invariant_of-result-clause-order : goal.invariant_of-result-clause-order
invariant_of-result-clause-order c =
    let setup = c.document.inside.setup in
    let valid : is_ring setup ≡ true = search rules in
    order_within c.wishes.result setup c.wishes.ensures.value (c.ring_law.ensures setup valid).order
