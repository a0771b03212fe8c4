use Rattle.sercos_master.proofs.Words.{rules, ◌≡◌, ◌≤◌, length, sym, ◌∙◌, arith, Some, place_of, CoreStandsFor}
use Rattle.sercos_master.specs.contracts.ring.Ring.{the_view}
use Rattle.sercos_master.proofs.Places.{place_inside}
use Rattle.sercos_master.proofs.ring.Ring.place_of.Goals as goal

pub returns-then-place-len-clause-value : goal.returns-then-place-len-clause-value
returns-then-place-len-clause-value c = λ s p stands.
    let t : CoreStandsFor (the_view c.self.inside) s p = rw c.self.view_is stands in
    let beyond : length (the_view c.self.inside).seats ≤ c.in-Some.place = search rules in
    let found : place_of s c.args.address ≡ Some c.in-Some.place = sym (t.places_are c.args.address c.of.ensures.byte) ∙ (sym c.of.ensures.value ∙ c.in-Some.is) in
    absurd (omega (arith, place_inside (the_view c.self.inside) s p c.args.address c.in-Some.place t found, beyond))
