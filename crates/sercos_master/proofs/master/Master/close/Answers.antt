use Rattle.sercos_master.proofs.Words.{rules, ◌≡◌, ◌≤◌, ◌+◌, None, length, sym, subst, ◌∙◌, ap, if◌then◌else◌, option_or, goes_on, CoreStandsFor}
use Rattle.sercos_trace.specs.contracts.events.Events.{the_view}
use Rattle.sercos_master.proofs.Closing.{brings}
use Rattle.sercos_master.proofs.master.Master.close.Goals as goal

pub returns : goal.returns
returns g c = λ s p stands.
    let same : c.deref_mut.result.now ≡ c.args.self = c.deref_mut.ensures.value ∙ c.self.view_is in
    let after : c.in_state.result ≡ c.close.new.self = search rules in
    let t : CoreStandsFor (record c.deref_mut.result.now { phase = c.args.phase }) s p =
    subst (λ v. CoreStandsFor (record v { phase = c.args.phase }) s p) (sym same) stands in (
      rw after (subst (λ v. CoreStandsFor c.close.new.self s (goes_on v.phase p)) same (c.close.ensures.stands s p t)),
      λ room.
          rw (← c.events.view_is) (brings s p (the_view c.events.inside) c.args.self stands
          (c.close.ensures.told s p t (subst (λ e. length e.outcomes + length s.drives ≤ 128) (sym c.events.view_is) room))
          (c.tell_plan.ensures ∙ ap (λ v. option_or (if v.plans then v.plan else None) (the_view c.events.inside).plan)
          (c.deref.ensures ∙ c.self.view_is)) (c.close.ensures.stop ∙ ap (λ v. option_or v.stop (the_view c.events.inside).stop) same)),
    )
