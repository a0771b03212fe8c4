use Rattle.sercos_master.proofs.Words.{rules, ◌≡◌, false, sym, ◌∙◌, ap, Some, None, not, ◌&&◌, position, CoreStandsFor}
use Rattle.sercos_trace.specs.declared.events.Fall.TheVariants as fall
use Rattle.sercos_master.specs.contracts.ring.Ring.{the_view}
use Rattle.sercos_master.proofs.Rings.{lost, fall_2, fall_3, no_fall}
use Rattle.sercos_master.proofs.ring.Ring.fall.Goals as goal

pub returns-in-Some : goal.returns-in-Some
returns-in-Some c = λ s p stands.
    let t : CoreStandsFor (the_view c.self.inside) s p = rw c.self.view_is stands in
    let whole : c.is_mst_lost.result ≡ false = search rules in
    let first : position (λ seat. seat.missed && not seat.heard) (the_view c.self.inside).seats ≡ Some c.in-Some.place = rw (← c.as_slice.ensures.value) (sym c.first_lost.ensures.value ∙ c.in-Some.is) in
    let e = fall_2 s p c.in-Some.place (sym (c.is_mst_lost.ensures s p stands) ∙ whole) (sym (lost (the_view c.self.inside) s p t) ∙ first) in
    ap (λ a. Some (fall.AtLost a)) (c.address_at.ensures s p stands) ∙ sym e

pub returns-in-Some-first_at_limit : goal.returns-in-Some-first_at_limit
returns-in-Some-first_at_limit c = λ s p stands.
    let t : CoreStandsFor (the_view c.self.inside) s p = rw c.self.view_is stands in
    let whole : c.is_mst_lost.result ≡ false = search rules in
    let first : position (λ seat. seat.missed && not seat.heard) (the_view c.self.inside).seats ≡ None = rw (← c.as_slice.ensures.value) (sym c.first_lost.ensures.value ∙ c.in_default.is) in
    let e = fall_3 s p c.in-Some-first_at_limit.place (sym (c.is_mst_lost.ensures s p stands) ∙ whole) (sym (lost (the_view c.self.inside) s p t) ∙ first) (sym (c.first_at_limit.ensures.value s p stands) ∙ c.in-Some-first_at_limit.is) in
    ap (λ a. Some (fall.StepLimit a)) (c.address_at-in-Some-first_at_limit.ensures s p stands) ∙ sym e

pub returns-in-None : goal.returns-in-None
returns-in-None c = λ s p stands.
    let t : CoreStandsFor (the_view c.self.inside) s p = rw c.self.view_is stands in
    let whole : c.is_mst_lost.result ≡ false = search rules in
    let first : position (λ seat. seat.missed && not seat.heard) (the_view c.self.inside).seats ≡ None = rw (← c.as_slice.ensures.value) (sym c.first_lost.ensures.value ∙ c.in_default.is) in
    sym (no_fall s p (sym (c.is_mst_lost.ensures s p stands) ∙ whole) (sym (lost (the_view c.self.inside) s p t) ∙ first) (sym (c.first_at_limit.ensures.value s p stands) ∙ c.in-None.is))
