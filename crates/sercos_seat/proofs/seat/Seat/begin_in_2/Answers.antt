use Rattle.std.proofs.Common.{rules, ◌≡◌, ◌≤◌, true, sym, refl, ◌∙◌, ap}
use Rattle.std.specs.Prelude.{option_map}
use Rattle.sercos_seat.specs.Ring.{member, startup}
use Rattle.sercos_seat.specs.Agenda.{reads_count}
use Rattle.sercos_seat.specs.Seats.{is_idle_in}
use Rattle.sercos_seat.proofs.Seats.{idle_same}
use Rattle.sercos_seat.proofs.Queues.{queue_startup, unready_2}
use Rattle.sercos_seat.proofs.Agendas.{begins_2}
use Rattle.sercos_seat.proofs.seat.Seat.begin_in_2.Goals as goal

pub returns-in-Some : goal.returns-in-Some
returns-in-Some c = λ s x waiting is control cycle all stands.
    let known : c.is_idle.result ≡ true = search rules in
    let idle : is_idle_in x ≡ true = sym (idle_same c.args.self.now (member s c.args.place) x stands) ∙ (sym c.is_idle.ensures ∙ known) in
    let few : reads_count (member s c.args.place) ≤ 38 = rw is c.next_in_2.ensures.few in
    let e = begins_2 c.args.self.now x s c.args.plan.now waiting c.args.place few all stands idle ∙ (ap (option_map (startup 2)) (sym (c.next_in_2.ensures.value s is control cycle)) ∙ ap (option_map (startup 2)) c.in-Some.is) in
    let not_ready = unready_2 c.args.self.now x s c.args.plan.now c.args.place c.in-Some.request stands (sym (c.next_in_2.ensures.value s is control cycle) ∙ c.in-Some.is) in
    let queue = queue_startup c.args.self.now.waiting (member s c.args.place) x (startup 2 c.in-Some.request) stands.queue not_ready refl in
    rw e (c.begin.ensures (member s c.args.place) x (startup 2 c.in-Some.request) c.args.self.now.waiting refl refl queue stands)

pub returns-in_default : goal.returns-in_default
returns-in_default c = λ s x waiting is control cycle all stands.
    let known : c.is_idle.result ≡ true = search rules in
    let idle : is_idle_in x ≡ true = sym (idle_same c.args.self.now (member s c.args.place) x stands) ∙ (sym c.is_idle.ensures ∙ known) in
    let few : reads_count (member s c.args.place) ≤ 38 = rw is c.next_in_2.ensures.few in
    let e = begins_2 c.args.self.now x s c.args.plan.now waiting c.args.place few all stands idle ∙ (ap (option_map (startup 2)) (sym (c.next_in_2.ensures.value s is control cycle)) ∙ ap (option_map (startup 2)) c.in_default.is) in
    rw e stands
