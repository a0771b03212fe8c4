use Rattle.std.proofs.Common.{◌∷◌, subst, sym}
use Rattle.sercos_seat.specs.Ring.{request_task}
use Rattle.sercos_seat.specs.Seats.{SeatStandsFor, nothing_seen}
use Rattle.sercos_seat.specs.contracts.seat.Seat.{the_view}
use Rattle.sercos_seat.proofs.Queues.{waits}
use Rattle.sercos_seat.proofs.seat.Seat.wait.Goals as goal

pub returns-clause-ok : goal.returns-clause-ok
returns-clause-ok c = λ d waiting stands.
    let t : SeatStandsFor (the_view c.self.inside) d (nothing_seen waiting) = rw c.self.view_is stands in
    subst (λ items. SeatStandsFor (record (the_view c.self.inside) { waiting = items }) d (nothing_seen (request_task c.args.number c.args.request ∷ waiting))) (sym c.in_ok-push.ensures.items)
    (waits (the_view c.self.inside) d waiting _ t)
