use Rattle.sercos_master.proofs.Words.{rules, ◌≡◌, ◌<◌, true, sym, ◌∙◌, ap, subst, length, ◌==◌, member, is_awaited, wanted_len, SeatStandsFor, at_in, CoreStandsFor, seen_at}
use Rattle.sercos_master.specs.contracts.ring.Ring.{the_view}
use Rattle.sercos_master.proofs.Places.{hears_from, wanted_same, awaited_same}
use Rattle.sercos_master.proofs.ring.Ring.hear_from.Goals as goal

pub returns : goal.returns
returns c = λ s p stands.
    let t : CoreStandsFor (the_view c.self.inside) s p = rw c.self.view_is stands in
    let within : c.args.place < length (the_view c.self.inside).seats = search rules in
    let known : c.is_awaited.result ≡ true = search rules in
    let awaited : is_awaited p c.args.place ≡ true = sym (awaited_same c.args.self.now s p c.args.place stands) ∙ (sym c.is_awaited.ensures ∙ known) in
    let wanted : c.wanted_len-wanted.result ≡ wanted_len s p c.args.place =
    c.wanted_len-wanted.ensures.value c.take_at.new.self ∙ wanted_same c.args.self.now s p c.args.place c.take_at.new.self stands c.requires in
    let before : SeatStandsFor c.index_mut-seat.result.now (member s c.args.place) (seen_at p c.args.place) = rw c.index_mut-seat.ensures.value (t.seats c.args.place c.index_mut-seat.result.now within) in
    let after : SeatStandsFor c.take_at.new.self (member s c.args.place) (at_in (p.now.phase == 1) (member s c.args.place).address c.wanted_len-wanted.result c.args.content.now (seen_at p c.args.place)) =
    subst (λ one. SeatStandsFor c.take_at.new.self (member s c.args.place) (at_in one (member s c.args.place).address c.wanted_len-wanted.result c.args.content.now (seen_at p c.args.place)))
    (ap (λ n. n == 1) t.phase_is) (c.take_at.ensures (member s c.args.place) (seen_at p c.args.place) before) in
    hears_from (the_view c.self.inside) s p c.args.place c.wanted_len-wanted.result c.args.content.now c.take_at.new.self t within awaited wanted after
