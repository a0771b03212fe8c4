use Rattle.std.proofs.Common.{◌≡◌, refl}
use Rattle.sercos_seat.specs.Agenda.{mdt_attributes}
use Rattle.sercos_seat.specs.Seats.{SeatStandsFor, last_long, outcomes_seen}
use Rattle.sercos_seat.specs.contracts.seat.Seat.{the_view}
use Rattle.sercos_seat.proofs.Lengths.{attributes_same}
use Rattle.sercos_seat.proofs.seat.Seat.last_long.Goals as goal

pub returns : goal.returns
returns c = λ d x stands.
    let t : SeatStandsFor (the_view c.self.inside) d x = rw c.self.view_is stands in
    let same : c.last_long.result ≡ last_long d.mdt (mdt_attributes d (outcomes_seen x)) =
    rw (c.last_long.ensures, c.mdt_words_of-words.ensures.value, c.as_slice.ensures.value, c.mdt.ensures.value, attributes_same (the_view c.self.inside) d x t, t.member_is) refl in
    rw (← same, c.in-Some.is, c.address.ensures, t.member_is) refl

pub returns-in_default : goal.returns-in_default
returns-in_default c = λ d x stands.
    let t : SeatStandsFor (the_view c.self.inside) d x = rw c.self.view_is stands in
    let same : c.last_long.result ≡ last_long d.mdt (mdt_attributes d (outcomes_seen x)) =
    rw (c.last_long.ensures, c.mdt_words_of-words.ensures.value, c.as_slice.ensures.value, c.mdt.ensures.value, attributes_same (the_view c.self.inside) d x t, t.member_is) refl in
    rw (← same, c.in_default.is) refl
