use Rattle.sercos_master.proofs.Words.{rules, ◌≡◌, false, sym, ◌∙◌, ap, ◌==◌, nat_le, position, CoreStandsFor, cycles_kept}
use Rattle.sercos_master.specs.contracts.ring.Ring.{the_view}
use Rattle.sercos_master.proofs.Rings.{stuck}
use Rattle.sercos_master.proofs.ring.Ring.first_at_limit.Goals as goal

pub returns-clause-value : goal.returns-clause-value
returns-clause-value c = λ s p stands.
    let t : CoreStandsFor (the_view c.self.inside) s p = rw c.self.view_is stands in
    let other : (c.self.inside.phase == 1) ≡ false = search rules in
    let first : position (λ seat. nat_le 64 (cycles_kept seat)) (the_view c.self.inside).seats ≡ c.first_stuck.result = rw (← c.as_slice.ensures.value) (sym c.first_stuck.ensures.value) in
    sym first ∙ stuck (the_view c.self.inside) s p t (ap (λ n. n == 1) (sym t.phase_is) ∙ other)
