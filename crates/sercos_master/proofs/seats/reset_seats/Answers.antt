use Rattle.sercos_master.proofs.Words.{rules, ◌≡◌, ◌<◌, ◌≤◌, length, refl, ◌∙◌, length-set, member, SeatStandsFor, forgotten, broken_in}
use Rattle.sercos_master.proofs.Rings.{one_changed, all_changed, none_changed}
use Rattle.sercos_master.proofs.Told.{told_next, told_room, not_yet}
use Rattle.sercos_master.proofs.seats.reset_seats.Goals as goal

pub loop-place-init : goal.loop-place-init
loop-place-init c = record { count = refl; stand = λ s seen all. none_changed (λ k x. forgotten x) c.args.seats.now.items s seen all; told = λ s seen all room. refl }

pub loop-place-preserved : goal.loop-place-preserved
loop-place-preserved c =
    let within : c.loop-place.place < length c.loop-place.seats.items = search rules in
    let below : c.loop-place.place < length c.args.seats.now.items = rw (← c.loop-place.invariant.count) within in
    record {
      count = length-set c.loop-place.seats.items c.loop-place.place c.reset.new.self ∙ c.loop-place.invariant.count;
      stand = λ s seen all. one_changed (λ k x. forgotten x) c.loop-place.seats.items s seen c.loop-place.place c.index_mut-seat.result.now c.reset.new.self within c.index_mut-seat.ensures.value
          (c.reset.ensures.fresh (member s c.loop-place.place) (seen c.loop-place.place)) (c.loop-place.invariant.stand s seen all);
      told = λ s seen all room.
          let so = c.loop-place.invariant.told s seen all room in
          let here : SeatStandsFor c.index_mut-seat.result.now (member s c.loop-place.place) (seen c.loop-place.place) = not_yet (λ k x. forgotten x) c.loop-place.seats.items s seen c.loop-place.place c.index_mut-seat.result.now within c.index_mut-seat.ensures.value (c.loop-place.invariant.stand s seen all) in
          told_next (λ k. broken_in (seen k)) c.loop-place.place c.args.reports.now.items c.loop-place.reports.items c.add.new.reports.items c.reset.result so
          (c.reset.ensures.broken (member s c.loop-place.place) (seen c.loop-place.place) here)
          (c.add.ensures (told_room (λ k. broken_in (seen k)) c.loop-place.place (length c.args.seats.now.items) c.args.reports.now.items c.loop-place.reports.items so below room));
    }

pub returns-clause-stand : goal.returns-clause-stand
returns-clause-stand c = λ s seen all.
    let over : length c.loop-place.seats.items ≤ c.loop-place.place = search rules in
    all_changed (λ k x. forgotten x) c.loop-place.seats.items s seen c.loop-place.place over (c.loop-place.invariant.stand s seen all)

pub returns-clause-told : goal.returns-clause-told
returns-clause-told c = λ s seen all room.
    let same : c.loop-place.place ≡ length c.args.seats.now.items = search rules in
    rw (← same) (c.loop-place.invariant.told s seen all room)
