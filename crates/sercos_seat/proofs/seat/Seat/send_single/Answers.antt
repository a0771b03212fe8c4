use Rattle.std.proofs.Common.{◌≡◌, [], refl, ◌∙◌}
use Rattle.sercos_service_master.specs.Begun.{said_by, master_says}
use Rattle.sercos_service_master.specs.Calls.{begun_by}
use Rattle.sercos_seat.specs.Seats.{SeatStandsFor}
use Rattle.sercos_seat.specs.contracts.seat.Seat.{the_view}
use Rattle.sercos_seat.proofs.Sends.{same_record}
use Rattle.sercos_seat.proofs.seat.Seat.send_single.Goals as goal

pub returns-clause-bytes : goal.returns-clause-bytes
returns-clause-bytes c = λ d x stands.
    let t : SeatStandsFor (the_view c.self.inside) d x = rw c.self.view_is stands in
    let said : said_by c.send-info.result.0 c.send-info.result.1 ≡ master_says (begun_by x.calls) = c.send-info.ensures.says x.calls t.channel_is in
    let record_is = same_record c.send-info.result.0 c.send-info.result.1 (master_says (begun_by x.calls)) [] c.send-info.ensures.cyclic said in
    c.write_single.ensures.content ∙ rw (c.address-address.ensures, t.member_is, record_is) refl
