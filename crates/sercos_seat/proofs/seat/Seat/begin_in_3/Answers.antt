use Rattle.std.proofs.Common.{rules, ◌≡◌, true, sym, refl, ◌∙◌, ap}
use Rattle.std.specs.Prelude.{is_some, option_map}
use Rattle.sercos_seat.specs.Ring.{member, startup}
use Rattle.sercos_seat.specs.Agenda.{reads_count}
use Rattle.sercos_seat.specs.Seats.{is_idle_in, next_in_3}
use Rattle.sercos_seat.proofs.Seats.{idle_same}
use Rattle.sercos_seat.proofs.Queues.{queue_startup, unready_3}
use Rattle.sercos_seat.proofs.Agendas.{begins_3}
use Rattle.sercos_seat.proofs.seat.Seat.begin_in_3.Goals as goal

pub returns-in-Some : goal.returns-in-Some
returns-in-Some c = λ s k x plan waiting all planned stands.
    let known : c.is_idle.result ≡ true = search rules in
    let idle : is_idle_in x ≡ true = sym (idle_same c.args.self.now (member s k) x stands) ∙ (sym c.is_idle.ensures ∙ known) in
    let same : next_in_3 (reads_count c.args.self.now.member) (is_some plan) c.args.self.now.done c.args.self.now.checked c.args.self.now.ready ≡ c.next_in_3.result = rw planned (sym c.next_in_3.ensures.value) in
    let e = begins_3 c.args.self.now x s plan waiting k all stands idle ∙ ap (option_map (startup 3)) (same ∙ c.in-Some.is) in
    let not_ready = unready_3 c.args.self.now x s k (is_some plan) c.in-Some.request stands (same ∙ c.in-Some.is) in
    let queue = queue_startup c.args.self.now.waiting (member s k) x (startup 3 c.in-Some.request) stands.queue not_ready refl in
    rw e (c.begin.ensures (member s k) x (startup 3 c.in-Some.request) c.args.self.now.waiting refl refl queue stands)

pub returns-in_default : goal.returns-in_default
returns-in_default c = λ s k x plan waiting all planned stands.
    let known : c.is_idle.result ≡ true = search rules in
    let idle : is_idle_in x ≡ true = sym (idle_same c.args.self.now (member s k) x stands) ∙ (sym c.is_idle.ensures ∙ known) in
    let same : next_in_3 (reads_count c.args.self.now.member) (is_some plan) c.args.self.now.done c.args.self.now.checked c.args.self.now.ready ≡ c.next_in_3.result = rw planned (sym c.next_in_3.ensures.value) in
    let e = begins_3 c.args.self.now x s plan waiting k all stands idle ∙ ap (option_map (startup 3)) (same ∙ c.in_default.is) in
    rw e stands
