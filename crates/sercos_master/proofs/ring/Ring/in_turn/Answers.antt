use Rattle.sercos_master.proofs.Words.{◌≡◌, sym, ◌∙◌, Some, None, not, position, CoreStandsFor, has_read}
use Rattle.sercos_master.specs.contracts.ring.Ring.{the_view}
use Rattle.sercos_master.proofs.Rings.{unread, unchecked, turn, no_turn}
use Rattle.sercos_master.proofs.ring.Ring.in_turn.Goals as goal

pub returns-in-Some-clause-value : goal.returns-in-Some-clause-value
returns-in-Some-clause-value c = λ s p stands.
    let found : position (λ seat. not (has_read seat)) (the_view c.self.inside).seats ≡ Some c.in-Some.place = rw (← c.as_slice.ensures.value) (sym c.first_unread.ensures.value ∙ c.in-Some.is) in
    sym (turn _ _ c.in-Some.place (sym (unread (the_view c.self.inside) s p (rw c.self.view_is stands)) ∙ found))

pub returns-in-None-clause-value : goal.returns-in-None-clause-value
returns-in-None-clause-value c = λ s p stands.
    let t : CoreStandsFor (the_view c.self.inside) s p = rw c.self.view_is stands in
    let none : position (λ seat. not (has_read seat)) (the_view c.self.inside).seats ≡ None = rw (← c.as_slice.ensures.value) (sym c.first_unread.ensures.value ∙ c.in-None.is) in
    let second : position (λ seat. not seat.checked) (the_view c.self.inside).seats ≡ c.first_unchecked.result = rw (← c.as_slice-in-None.ensures.value) (sym c.first_unchecked.ensures.value) in
    sym (no_turn _ _ (sym (unread (the_view c.self.inside) s p t) ∙ none) ∙ (sym (unchecked (the_view c.self.inside) s p t) ∙ second))
