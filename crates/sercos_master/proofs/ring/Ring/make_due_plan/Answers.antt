use Rattle.sercos_master.proofs.Words.{rules, ◌≡◌, ◌==◌, true, false, sym, ◌∙◌, ap, subst, not, is_some, position, CoreStandsFor, has_read}
use Rattle.sercos_master.specs.contracts.ring.Ring.{the_view}
use Rattle.sercos_master.proofs.Rings.{due_unread, due, not_stopped}
use Rattle.sercos_master.proofs.ring.Ring.make_due_plan.Goals as goal

pub returns-then-is_some-2 : goal.returns-then-is_some-2
returns-then-is_some-2 c = λ s p known stands.
    let t : CoreStandsFor (the_view c.self.inside) s p = rw c.self.view_is stands in
    let some : is_some c.first_unread.result ≡ true = search rules in
    let e : is_some (position (λ seat. not (has_read seat)) (the_view c.self.inside).seats) ≡ true = ap (λ o. is_some o) (sym (c.first_unread.ensures.value ∙ ap (position (λ seat. not (has_read seat))) c.as_slice.ensures.value)) ∙ some in
    rw (due_unread (the_view c.self.inside) s p t e) stands

pub returns : goal.returns
returns c = λ s p known stands.
    let t : CoreStandsFor (the_view c.self.inside) s p = rw c.self.view_is stands in
    let none : is_some c.first_unread.result ≡ false = search rules in
    let e : is_some (position (λ seat. not (has_read seat)) (the_view c.self.inside).seats) ≡ false = ap (λ o. is_some o) (sym (c.first_unread.ensures.value ∙ ap (position (λ seat. not (has_read seat))) c.as_slice.ensures.value)) ∙ none in
    let no_plan : is_some (the_view c.self.inside).plan ≡ false = search rules in
    let two : (p.now.phase == 2) ≡ true = subst (λ n. (n == 2) ≡ true) t.phase_is (search rules) in
    let no_stop = not_stopped (the_view c.self.inside) s p t (search rules) in
    rw (due (the_view c.self.inside) s p t two no_stop (ap is_some (sym t.plan_is) ∙ no_plan) e) (c.make_plan.ensures s p known no_stop stands)
