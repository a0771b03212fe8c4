use Rattle.sercos_master.proofs.Words.{rules, ◌≡◌, ◌<◌, length, sym, ◌∙◌, Some, None, if◌then◌else◌, member, in_turn, is_idle, next_task, of_phase, SeatStandsFor, with_begun, CoreStandsFor, seen_at}
use Rattle.sercos_master.specs.contracts.ring.Ring.{the_view}
use Rattle.sercos_master.proofs.Rings.{begun_at}
use Rattle.sercos_master.proofs.ring.Ring.begin_in_2.Goals as goal

pub returns-in-Some : goal.returns-in-Some
returns-in-Some c = λ s p waiting two no_stop stands.
    let t : CoreStandsFor (the_view c.self.inside) s p = rw c.self.view_is stands in
    let within : c.in-Some.place < length (the_view c.self.inside).seats = search rules in
    let e : in_turn s p ≡ Some c.in-Some.place = sym (c.in_turn.ensures.value s p stands) ∙ c.in-Some.is in
    let before : SeatStandsFor c.index_mut-seat.result.now (member s c.in-Some.place) (seen_at p c.in-Some.place) =
    rw c.index_mut-seat.ensures.value (t.seats c.in-Some.place c.index_mut-seat.result.now within) in
    let after : SeatStandsFor c.begin_in_2.new.self (member s c.in-Some.place) (with_begun (if is_idle p c.in-Some.place then of_phase 2 (next_task s p c.in-Some.place) else None) (seen_at p c.in-Some.place)) =
    rw (← t.plan_is) (c.begin_in_2.ensures s (seen_at p c.in-Some.place) (p.waiting c.in-Some.place) (sym before.member_is) (sym t.control_is) (sym t.cycle_is) (waiting c.in-Some.place) before) in
    begun_at (the_view c.self.inside) s p c.in-Some.place c.begin_in_2.new.self t within two no_stop e after
