use Rattle.sercos_master.proofs.Words.{◌<◌, ◌∙◌, ap, sym, length, ◌==◌, position, member, SeatView, SeatStandsFor, nothing_seen}
use Rattle.sercos_master.proofs.Openings.{given_one, given_none}
use Rattle.sercos_master.proofs.opening.give.Goals as goal

pub returns-in_default-clause-stand : goal.returns-in_default-clause-stand
returns-in_default-clause-stand c = λ s tasks apart count stands.
    given_none c.args.seats.now.items s tasks c.args.job c.args.number count
    (ap (position (λ (v : SeatView). v.member.address == c.args.job.drive)) (sym c.as_slice.ensures.value) ∙ (sym c.place_of.ensures.value ∙ c.in_default.is)) stands

pub returns-clause-stand : goal.returns-clause-stand
returns-clause-stand c = λ s tasks apart count stands.
    let found = ap (position (λ (v : SeatView). v.member.address == c.args.job.drive)) (sym c.as_slice.ensures.value) ∙ (sym c.place_of.ensures.value ∙ c.in-Some.is) in
    let within : c.in-Some.place < length c.args.seats.now.items = rw c.as_slice.ensures.value at c.in-Some.ensures.bound in
    let before : SeatStandsFor c.index_mut-seat.result.now (member s c.in-Some.place) (nothing_seen (tasks c.in-Some.place)) =
    rw c.index_mut-seat.ensures.value (stands c.in-Some.place c.index_mut-seat.result.now within) in
    given_one c.args.seats.now.items s tasks c.args.job c.args.number c.in-Some.place c.wait.new.self apart count found stands
    (c.in_ok-wait.ensures.ok (member s c.in-Some.place) (tasks c.in-Some.place) before)
