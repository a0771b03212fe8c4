use Rattle.sercos_master.proofs.Words.{rules, ◌<◌, ◌∙◌, ap, length, member, SeatStandsFor, CoreStandsFor, seen_at}
use Rattle.sercos_master.specs.contracts.ring.Ring.{the_view}
use Rattle.sercos_master.proofs.ring.Ring.address_at.Goals as goal

pub returns : goal.returns
returns c = λ s p stands.
    let t : CoreStandsFor (the_view c.self.inside) s p = rw c.self.view_is stands in
    let within : c.args.place < length (the_view c.self.inside).seats = search rules in
    let at : SeatStandsFor c.index.result.now (member s c.args.place) (seen_at p c.args.place) = rw c.index.ensures (t.seats c.args.place c.index.result.now within) in
    c.address.ensures ∙ (ap (λ m. m.address) c.member.ensures ∙ ap (λ d. d.address) at.member_is)
