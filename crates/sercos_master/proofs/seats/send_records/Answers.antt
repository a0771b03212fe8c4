use Rattle.sercos_master.proofs.Words.{rules, ◌<◌, ◌≤◌, length, refl, sym, ◌∙◌, length-set, member, SeatStandsFor, sent_in, append-nil}
use Rattle.sercos_master.proofs.Rings.{one_changed, all_changed, none_changed}
use Rattle.sercos_master.proofs.Sent.{fits_next, out_next}
use Rattle.sercos_master.proofs.Told.{not_yet}
use Rattle.sercos_master.proofs.seats.send_records.Goals as goal

pub loop-place-init : goal.loop-place-init
loop-place-init c = record {
  count = refl;
  stand = λ s seen all. none_changed (λ k x. sent_in x) c.args.seats.now.items s seen all;
  bytes = λ s seen all fits. sym (append-nil c.args.out.now);
  some = λ h. h;
}

pub loop-place-preserved : goal.loop-place-preserved
loop-place-preserved c =
    let within : c.loop-place.place < length c.loop-place.seats.items = search rules in
    let below : c.loop-place.place < length c.args.seats.now.items = rw (← c.loop-place.invariant.count) within in
    record {
      count = length-set c.loop-place.seats.items c.loop-place.place c.send_record.new.self ∙ c.loop-place.invariant.count;
      stand = λ s seen all. one_changed (λ k x. sent_in x) c.loop-place.seats.items s seen c.loop-place.place c.index_mut-seat.result.now c.send_record.new.self within c.index_mut-seat.ensures.value
          (c.send_record.ensures.stands (member s c.loop-place.place) (seen c.loop-place.place)) (c.loop-place.invariant.stand s seen all);
      bytes = λ s seen all fits.
          let so = c.loop-place.invariant.bytes s seen all fits in
          let here : SeatStandsFor c.index_mut-seat.result.now (member s c.loop-place.place) (seen c.loop-place.place) = not_yet (λ k x. sent_in x) c.loop-place.seats.items s seen c.loop-place.place c.index_mut-seat.result.now within c.index_mut-seat.ensures.value (c.loop-place.invariant.stand s seen all) in
          out_next s seen c.args.count c.loop-place.place c.args.out.now c.loop-place.out c.send_record.new.out so
          (c.send_record.ensures.bytes (member s c.loop-place.place) (seen c.loop-place.place) here (fits_next s seen c.args.count c.loop-place.place (length c.args.seats.now.items) c.args.out.now c.loop-place.out below fits so));
      some = λ h. c.send_record.ensures.some (c.loop-place.invariant.some h);
    }

pub returns-clause-stand : goal.returns-clause-stand
returns-clause-stand c = λ s seen all.
    let over : length c.loop-place.seats.items ≤ c.loop-place.place = search rules in
    all_changed (λ k x. sent_in x) c.loop-place.seats.items s seen c.loop-place.place over (c.loop-place.invariant.stand s seen all)

pub returns-clause-some : goal.returns-clause-some
returns-clause-some c = c.loop-place.invariant.some
