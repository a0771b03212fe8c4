use Rattle.std.proofs.Common.{rules, ◌≡◌, true, [], ◌∷◌, ◌++◌, sym, refl, ◌∙◌}
use Rattle.sercos_seat.specs.Ring.{member}
use Rattle.sercos_seat.specs.Agenda.{is_ready}
use Rattle.sercos_seat.specs.Seats.{SeatStandsFor, is_idle_in, outcomes_seen, waiting_task}
use Rattle.sercos_seat.specs.contracts.seat.Seat.{the_view}
use Rattle.sercos_seat.proofs.Seats.{idle_same}
use Rattle.sercos_seat.proofs.Queues.{queue_next, with_next_4, with_none_4, unplanned_4, not_ready_4}
use Rattle.sercos_seat.proofs.seat.Seat.begin_in_4.Goals as goal

pub returns-then-not-planned : goal.returns-then-not-planned
returns-then-not-planned c = λ s k x plan four planned stands.
    rw (unplanned_4 s k x plan (planned ∙ c.if-not-planned.true)) stands

pub returns-then-not-self : goal.returns-then-not-self
returns-then-not-self c = λ s k x plan four planned stands.
    let t : SeatStandsFor (the_view c.self.inside) (member s k) x = rw c.self.view_is stands in
    rw (not_ready_4 s k x plan (sym t.ready_is ∙ c.if-not-self.true)) stands

pub returns-in-Some : goal.returns-in-Some
returns-in-Some c = λ s k x plan four planned stands.
    let t : SeatStandsFor (the_view c.self.inside) (member s k) x = rw c.self.view_is stands in
    let known : c.is_idle.result ≡ true = search rules in
    let idle : is_idle_in x ≡ true = sym (idle_same c.args.self.now (member s k) x stands) ∙ (sym c.is_idle.ensures ∙ known) in
    let ready : is_ready (member s k) (outcomes_seen x) ≡ true = sym t.ready_is ∙ c.if-not-self.false in
    let w = c.in-Some.next in
    let is : (the_view c.self.inside).waiting ≡ c.pop.new.self.items ++ w ∷ [] = c.in-Some.ensures.items in
    let next = queue_next (the_view c.self.inside).waiting c.pop.new.self.items w (member s k) x t.queue is ready idle in
    rw (with_next_4 s k x plan (the_view c.self.inside).waiting c.pop.new.self.items w t.queue is (planned ∙ c.if-not-planned.false) idle ready)
    (c.begin.ensures (member s k) x (waiting_task w) (the_view c.self.inside).waiting refl refl next.0 t)

pub returns-in_default : goal.returns-in_default
returns-in_default c = λ s k x plan four planned stands.
    let t : SeatStandsFor (the_view c.self.inside) (member s k) x = rw c.self.view_is stands in
    let known : c.is_idle.result ≡ true = search rules in
    let idle : is_idle_in x ≡ true = sym (idle_same c.args.self.now (member s k) x stands) ∙ (sym c.is_idle.ensures ∙ known) in
    let ready : is_ready (member s k) (outcomes_seen x) ≡ true = sym t.ready_is ∙ c.if-not-self.false in
    let none : (the_view c.self.inside).waiting ≡ [] = search rules in
    let left : c.pop.new.self.items ≡ (the_view c.self.inside).waiting = search rules in
    rw (with_none_4 s k x plan (the_view c.self.inside).waiting t.queue none (planned ∙ c.if-not-planned.false) idle ready, left) t
