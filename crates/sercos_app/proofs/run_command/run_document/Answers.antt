use Rattle.std.proofs.Common.{refl, ap, sym, ◌∙◌}
use Rattle.sercos_script.specs.Scripts.{carried, restarts_at}
use Rattle.sercos_script.specs.declared.script.Scripted.{Scripted}
use Rattle.sercos_call.specs.Outcome.Replies.{none_found, replied}
use Rattle.sercos_app.specs.Running.{run_traced}
use Rattle.sercos_app.proofs.RunLemmas.{run_under}
use Rattle.sercos_app.proofs.run_command.run_document.Goals as goal

pub returns-in-Ok : goal.returns-in-Ok
returns-in-Ok g c =
    let pair = c.new.ensures in
    run_under run_traced c.args.document c.document.inside.setup c.document.inside.jobs.items c.document.inside.faults.items
    (carried c.new.result.first.stations c.new.result.first.faults) (g.L.BitLink.carry c.new.result.second) (g.L.BitLink.carry c.args.link)
    (restarts_at c.new.result.first.faults) (g.L.BitLink.restart c.new.result.second) (g.L.BitLink.restart c.args.link) _ _ _
    (sym c.document.view_is)
    (ap (λ (s : Scripted). carried s.stations s.faults) pair.first ∙ c.new-script.ensures.carry ∙ ap (λ n. carried n c.document.inside.faults.items) c.drives_of.ensures)
    (ap g.L.BitLink.carry pair.second)
    (ap (λ (s : Scripted). restarts_at s.faults) pair.first ∙ c.new-script.ensures.restart)
    (ap g.L.BitLink.restart pair.second)
    (replied _ tt (rw (← c.wishes.ensures.value, ← c.cycles_of.ensures.value) (c.give_run.ensures _ _ _ _ c.in-Ok.ensures.stands)))

pub returns : goal.returns
returns g c = none_found refl
