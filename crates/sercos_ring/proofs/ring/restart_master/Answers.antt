use Rattle.std.proofs.Common.{◌≤◌, length, arith, ap, ◌∙◌, subst, sym, Bool, ◌∷◌, if◌then◌else◌}
use Rattle.sercos_seat.specs.Ring.{tasks_for}
use Rattle.sercos_master.specs.Annals.{Restart, past}
use Rattle.sercos_master.specs.Any.{AnyStandsFor}
use Rattle.sercos_master.specs.Reports.{restart_told}
use Rattle.sercos_ring.proofs.ring.restart_master.Goals as goal

pub returns-then-restarts-clause-goes : goal.returns-then-restarts-clause-goes
returns-then-restarts-clause-goes c = λ s jobs h stands.
    subst (λ (b : Bool). AnyStandsFor c.restart.result s jobs (if b then Restart ∷ h else h)) (sym c.if-restarts.true) (c.restart.ensures.stands s jobs h stands)

pub returns-then-restarts-clause-told : goal.returns-then-restarts-clause-told
returns-then-restarts-clause-told c = λ s jobs h stands none.
    let few : length c.args.events.now.outcomes ≤ 64 = rw none (omega arith) in
    c.restart.ensures.told s jobs h stands few
    ∙ ap (λ (b : Bool). if b then restart_told s (past s (tasks_for s jobs) h) c.args.events.now else c.args.events.now) (sym c.if-restarts.true)
