use Rattle.std.proofs.Common.{◌≡◌, length, refl, ◌∙◌, ap, arith}
use Rattle.sercos_service_master.specs.Begun.{said_by, master_says}
use Rattle.sercos_service_master.specs.Calls.{begun_by}
use Rattle.sercos_seat.specs.Agenda.{mdt_attributes}
use Rattle.sercos_seat.specs.Records.{values_said}
use Rattle.sercos_seat.specs.Seats.{SeatStandsFor, mdt_words_kept, outcomes_seen}
use Rattle.sercos_seat.specs.contracts.seat.Seat.{the_view}
use Rattle.sercos_seat.proofs.Lengths.{attributes_same}
use Rattle.sercos_seat.proofs.Sends.{same_record, record_length, when_ok}
use Rattle.sercos_seat.proofs.seat.Seat.send_record.Goals as goal

pub returns-clause-bytes : goal.returns-clause-bytes
returns-clause-bytes c = λ d x stands room.
    let t : SeatStandsFor (the_view c.self.inside) d x = rw c.self.view_is stands in
    let v : c.as_slice-2.result.now ≡ values_said c.args.count (mdt_attributes d (outcomes_seen x)) =
    c.as_slice-2.ensures.value ∙ c.put_command_values.ensures (mdt_words_kept (the_view c.self.inside)) (c.as_slice.ensures.value ∙ c.self.invariant.3)
    ∙ ap (values_said c.args.count) (attributes_same (the_view c.self.inside) d x t) in
    let said : said_by c.send-info.result.0 c.send-info.result.1 ≡ master_says (begun_by x.calls) = c.send-info.ensures.says x.calls t.channel_is in
    let record_is = same_record c.send-info.result.0 c.send-info.result.1 (master_says (begun_by x.calls)) (values_said c.args.count (mdt_attributes d (outcomes_seen x))) c.send-info.ensures.cyclic said in
    let long = record_length c.send-info.result.0 c.send-info.result.1 (master_says (begun_by x.calls)) (values_said c.args.count (mdt_attributes d (outcomes_seen x))) c.send-info.ensures.cyclic said in
    let same : length c.as_slice-2.result.now ≡ length (values_said c.args.count (mdt_attributes d (outcomes_seen x))) = ap (λ xs. length xs) v in
    let ok = when_ok c.joint_record-full.result (λ e. absurd (let h = c.joint_record-full.ensures.full.0 e in omega (arith, h, long, same, room))) c.joint_record-full.ensures.ok in
    ok ∙ rw (v, record_is) refl
