use Rattle.sercos_master.proofs.Words.{subst, sym, CoreStandsFor, seen_at}
use Rattle.sercos_master.specs.contracts.ring.Ring.{the_view}
use Rattle.sercos_master.proofs.Rings.{went_on}
use Rattle.sercos_master.proofs.ring.Ring.close.Goals as goal

pub returns-clause-stands : goal.returns-clause-stands
returns-clause-stands c = λ s p stands.
    let t : CoreStandsFor (record (the_view c.self.inside) { phase = c.args.closed }) s p =
    subst (λ v. CoreStandsFor (record v { phase = c.args.closed }) s p) (sym c.self.view_is) stands in
    rw (← c.self.view_is, c.tell_stop.ensures.none)
    (went_on (record (the_view c.self.inside) { phase = c.args.closed }) c.end_seats.new.seats.items c.row_with-self-inside.result c.waited_with-self-inside.result c.lost_with-self-inside.result s p (the_view c.self.inside).phase t
    c.end_seats.ensures.count (c.end_seats.ensures.stand s (seen_at p) t.seats) c.row_with-self-inside.ensures c.lost_with-self-inside.ensures c.waited_with-self-inside.ensures)

pub returns-clause-told : goal.returns-clause-told
returns-clause-told c = λ s p stands room.
    let t : CoreStandsFor (record (the_view c.self.inside) { phase = c.args.closed }) s p =
    subst (λ v. CoreStandsFor (record v { phase = c.args.closed }) s p) (sym c.self.view_is) stands in
    rw (← t.seats_count) (c.end_seats.ensures.told s (seen_at p) t.seats (rw t.seats_count room))
