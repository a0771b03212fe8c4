use Rattle.std.proofs.Common.{◌≡◌, ap, ◌∙◌}
use Rattle.sercos_trace.specs.Views.{CycleView, EventsView}
use Rattle.sercos_master.specs.Annals.{past}
use Rattle.sercos_master.specs.Reports.{restart_told}
use Rattle.sercos_seat.specs.Ring.{tasks_for}
use Rattle.sercos_c.specs.Records.{no_events, of_nothing}
use Rattle.sercos_c.proofs.MasterLemmas.{none_few}
use Rattle.sercos_c.proofs.master_station.MasterStation.restarted.Goals as goal

pub returns-clause-told : goal.returns-clause-told
returns-clause-told c s jobs h is =
    let cleared = c.kept.view_is ∙ c.reuse.ensures in
    let events : c.kept.inside.events ≡ no_events = ap (λ (v : CycleView). v.events) cleared in
    let told = c.restart.ensures.told s jobs h is (none_few _ (ap (λ (e : EventsView). e.outcomes) events)) in
    ap (λ (v : CycleView). record v { events = c.restart.new.events }) cleared
    ∙ ap (λ (e : EventsView). record (of_nothing c.args.cycle c.args.kept.now.sent) { events = e }) (told ∙ ap (restart_told s (past s (tasks_for s jobs) h)) events)
