use Rattle.sercos_master.proofs.Words.{is_place, rules, ◌≡◌, true, false, sym, ◌∙◌, CoreStandsFor}
use Rattle.sercos_master.specs.contracts.ring.Ring.{the_view}
use Rattle.sercos_master.proofs.Rings.{waited_long, waited_short, waited_new, waits_for_none, waits_beyond}
use Rattle.sercos_master.proofs.ring.Ring.waited_too_long.Goals as goal

pub returns-in_default-clause-value : goal.returns-in_default-clause-value
returns-in_default-clause-value c = λ s p stands one.
    let t : CoreStandsFor (the_view c.self.inside) s p = rw c.self.view_is stands in
    sym (waits_for_none s p one (sym t.addressed_is ∙ c.in_default.is))

pub returns-then-place-len-clause-value : goal.returns-then-place-len-clause-value
returns-then-place-len-clause-value c = λ s p stands one.
    let t : CoreStandsFor (the_view c.self.inside) s p = rw c.self.view_is stands in
    sym (waits_beyond s p c.in-Some.place one (sym t.addressed_is ∙ c.in-Some.is) (rw (← t.seats_count) (search rules)))

pub returns-then-self-lt64-clause-value : goal.returns-then-self-lt64-clause-value
returns-then-self-lt64-clause-value c = λ s p stands one.
    let t : CoreStandsFor (the_view c.self.inside) s p = rw c.self.view_is stands in
    let known : c.is_place.result ≡ true = search rules in
    let last : is_place c.in-Some.place (the_view c.self.inside).before ≡ true = sym c.is_place.ensures ∙ known in
    sym (waited_short (the_view c.self.inside) s p c.in-Some.place t one c.in-Some.is (search rules) last c.if-self-lt64.true)

pub returns-clause-value : goal.returns-clause-value
returns-clause-value c = λ s p stands one.
    let t : CoreStandsFor (the_view c.self.inside) s p = rw c.self.view_is stands in
    let known : c.is_place.result ≡ true = search rules in
    let last : is_place c.in-Some.place (the_view c.self.inside).before ≡ true = sym c.is_place.ensures ∙ known in
    sym (waited_long (the_view c.self.inside) s p c.in-Some.place t one c.in-Some.is (search rules) last c.if-self-lt64.false)

pub returns-then-not-is_place-clause-value : goal.returns-then-not-is_place-clause-value
returns-then-not-is_place-clause-value c = λ s p stands one.
    let t : CoreStandsFor (the_view c.self.inside) s p = rw c.self.view_is stands in
    let known : c.is_place.result ≡ false = search rules in
    sym (waited_new (the_view c.self.inside) s p c.in-Some.place t one c.in-Some.is (search rules) (sym c.is_place.ensures ∙ known))
