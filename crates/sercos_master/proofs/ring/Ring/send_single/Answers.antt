use Rattle.sercos_master.proofs.Words.{rules, ◌≡◌, ◌<◌, length, refl, sym, ◌∙◌, Some, None, not, is_none, position, member, sent_now, CoreStandsFor, seen_at, SeatStandsFor}
use Rattle.sercos_master.specs.contracts.ring.Ring.{the_view}
use Rattle.sercos_master.proofs.Sent.{sent_one_2, sent_none_2, said_one_2, said_none_2, start_none, content_none}
use Rattle.sercos_master.proofs.ring.Ring.send_single.Goals as goal

pub returns-clause-stands : goal.returns-clause-stands
returns-clause-stands c = λ s p two stands.
    let t : CoreStandsFor (the_view c.self.inside) s p = rw c.self.view_is stands in
    let found : position (λ seat. not (is_none seat.channel.transfer)) (the_view c.self.inside).seats ≡ Some c.in-Some.place = rw (← c.as_slice.ensures.value) (sym c.first_working-found.ensures.value ∙ c.in-Some.is) in
    let within : c.in-Some.place < length (the_view c.self.inside).seats = search rules in
    let here : SeatStandsFor c.index_mut-seat.result.now (member s c.in-Some.place) (seen_at p c.in-Some.place) = rw c.index_mut-seat.ensures.value (t.seats c.in-Some.place c.index_mut-seat.result.now within) in
    rw c.in-Some.is (sent_one_2 (the_view c.self.inside) s p c.in-Some.place c.send_single.new.self t two within found (c.send_single.ensures.stands (member s c.in-Some.place) (seen_at p c.in-Some.place) here))

pub returns-clause-start : goal.returns-clause-start
returns-clause-start c = λ s p two stands.
    let t : CoreStandsFor (the_view c.self.inside) s p = rw c.self.view_is stands in
    let found : position (λ seat. not (is_none seat.channel.transfer)) (the_view c.self.inside).seats ≡ Some c.in-Some.place = rw (← c.as_slice.ensures.value) (sym c.first_working-found.ensures.value ∙ c.in-Some.is) in
    rw (said_one_2 (the_view c.self.inside) s p c.in-Some.place t two found) refl

pub returns-clause-content : goal.returns-clause-content
returns-clause-content c = λ s p two stands.
    let t : CoreStandsFor (the_view c.self.inside) s p = rw c.self.view_is stands in
    let found : position (λ seat. not (is_none seat.channel.transfer)) (the_view c.self.inside).seats ≡ Some c.in-Some.place = rw (← c.as_slice.ensures.value) (sym c.first_working-found.ensures.value ∙ c.in-Some.is) in
    let within : c.in-Some.place < length (the_view c.self.inside).seats = search rules in
    let here : SeatStandsFor c.index_mut-seat.result.now (member s c.in-Some.place) (seen_at p c.in-Some.place) = rw c.index_mut-seat.ensures.value (t.seats c.in-Some.place c.index_mut-seat.result.now within) in
    rw (said_one_2 (the_view c.self.inside) s p c.in-Some.place t two found) (c.send_single.ensures.bytes (member s c.in-Some.place) (seen_at p c.in-Some.place) here)

pub returns-in_default-clause-stands : goal.returns-in_default-clause-stands
returns-in_default-clause-stands c = λ s p two stands.
    let found : position (λ seat. not (is_none seat.channel.transfer)) (the_view c.self.inside).seats ≡ None = rw (← c.as_slice.ensures.value) (sym c.first_working-found.ensures.value ∙ c.in_default.is) in
    rw c.in_default.is (sent_none_2 (the_view c.self.inside) s p (rw c.self.view_is stands) two found)

pub returns-in_default-clause-start : goal.returns-in_default-clause-start
returns-in_default-clause-start c = λ s p two stands.
    let found : position (λ seat. not (is_none seat.channel.transfer)) (the_view c.self.inside).seats ≡ None = rw (← c.as_slice.ensures.value) (sym c.first_working-found.ensures.value ∙ c.in_default.is) in
    start_none s (sent_now s p) (said_none_2 (the_view c.self.inside) s p (rw c.self.view_is stands) two found)

pub returns-in_default-clause-content : goal.returns-in_default-clause-content
returns-in_default-clause-content c = λ s p two stands.
    let found : position (λ seat. not (is_none seat.channel.transfer)) (the_view c.self.inside).seats ≡ None = rw (← c.as_slice.ensures.value) (sym c.first_working-found.ensures.value ∙ c.in_default.is) in
    content_none s (sent_now s p) c.args.out.now (said_none_2 (the_view c.self.inside) s p (rw c.self.view_is stands) two found)
