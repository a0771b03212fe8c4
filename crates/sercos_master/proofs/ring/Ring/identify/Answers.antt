use Rattle.sercos_master.proofs.Words.{rules, ◌≡◌, ◌<◌, length, refl, sym, ◌∙◌, Some, None, not, position, member, sent_now, CoreStandsFor, seen_at, SeatStandsFor}
use Rattle.sercos_master.specs.contracts.ring.Ring.{the_view}
use Rattle.sercos_master.proofs.Sent.{sent_1, said_none_1, said_one_1, start_none, content_none}
use Rattle.sercos_master.proofs.ring.Ring.identify.Goals as goal

pub returns-clause-stands : goal.returns-clause-stands
returns-clause-stands c = λ s p one stands.
    let kept : c.first_unidentified-found.result ≡ position (λ seat. not seat.identified) (the_view c.self.inside).seats = rw (← c.as_slice.ensures.value) c.first_unidentified-found.ensures.value in
    rw kept (sent_1 (the_view c.self.inside) s p (rw c.self.view_is stands) one)

pub returns-clause-start : goal.returns-clause-start
returns-clause-start c = λ s p one stands.
    let t : CoreStandsFor (the_view c.self.inside) s p = rw c.self.view_is stands in
    let found : position (λ seat. not seat.identified) (the_view c.self.inside).seats ≡ Some c.in-Some.place = rw (← c.as_slice.ensures.value) (sym c.first_unidentified-found.ensures.value ∙ c.in-Some.is) in
    rw (said_one_1 (the_view c.self.inside) s p c.in-Some.place t one found) refl

pub returns-clause-content : goal.returns-clause-content
returns-clause-content c = λ s p one stands.
    let t : CoreStandsFor (the_view c.self.inside) s p = rw c.self.view_is stands in
    let found : position (λ seat. not seat.identified) (the_view c.self.inside).seats ≡ Some c.in-Some.place = rw (← c.as_slice.ensures.value) (sym c.first_unidentified-found.ensures.value ∙ c.in-Some.is) in
    let within : c.in-Some.place < length (the_view c.self.inside).seats = search rules in
    let here : SeatStandsFor c.index.result.now (member s c.in-Some.place) (seen_at p c.in-Some.place) = rw c.index.ensures (t.seats c.in-Some.place c.index.result.now within) in
    rw (said_one_1 (the_view c.self.inside) s p c.in-Some.place t one found) (c.write_single.ensures.content ∙ rw (c.idle_control.ensures, c.address-address.ensures, c.member.ensures, here.member_is) refl)

pub returns-in_default-clause-stands : goal.returns-in_default-clause-stands
returns-in_default-clause-stands c = λ s p one stands.
    let kept : c.first_unidentified-found.result ≡ position (λ seat. not seat.identified) (the_view c.self.inside).seats = rw (← c.as_slice.ensures.value) c.first_unidentified-found.ensures.value in
    rw kept (sent_1 (the_view c.self.inside) s p (rw c.self.view_is stands) one)

pub returns-in_default-clause-start : goal.returns-in_default-clause-start
returns-in_default-clause-start c = λ s p one stands.
    let found : position (λ seat. not seat.identified) (the_view c.self.inside).seats ≡ None = rw (← c.as_slice.ensures.value) (sym c.first_unidentified-found.ensures.value ∙ c.in_default.is) in
    start_none s (sent_now s p) (said_none_1 (the_view c.self.inside) s p (rw c.self.view_is stands) one found)

pub returns-in_default-clause-content : goal.returns-in_default-clause-content
returns-in_default-clause-content c = λ s p one stands.
    let found : position (λ seat. not seat.identified) (the_view c.self.inside).seats ≡ None = rw (← c.as_slice.ensures.value) (sym c.first_unidentified-found.ensures.value ∙ c.in_default.is) in
    content_none s (sent_now s p) c.args.out.now (said_none_1 (the_view c.self.inside) s p (rw c.self.view_is stands) one found)
