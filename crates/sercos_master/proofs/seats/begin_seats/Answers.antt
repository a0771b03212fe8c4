use Rattle.sercos_master.proofs.Words.{rules, ◌<◌, ◌≤◌, length, refl, ◌∙◌, length-set, with_begun, begun_task}
use Rattle.sercos_master.proofs.Rings.{one_changed, all_changed, none_changed}
use Rattle.sercos_master.proofs.seats.begin_seats.Goals as goal

pub loop-place-init : goal.loop-place-init
loop-place-init c = record {
  count = refl;
  stand = λ s seen plan waiting wait planned all. none_changed (λ k x. with_begun (begun_task 3 s plan (waiting k) k x) x) c.args.seats.now.items s seen all;
}

pub loop-place-preserved : goal.loop-place-preserved
loop-place-preserved c =
    let within : c.loop-place.place < length c.loop-place.seats.items = search rules in
    record {
      count = length-set c.loop-place.seats.items c.loop-place.place c.begin_in_3.new.self ∙ c.loop-place.invariant.count;
      stand = λ s seen plan waiting wait planned all. one_changed (λ k x. with_begun (begun_task 3 s plan (waiting k) k x) x) c.loop-place.seats.items s seen c.loop-place.place c.index_mut-seat.result.now c.begin_in_3.new.self within c.index_mut-seat.ensures.value
          (c.begin_in_3.ensures s c.loop-place.place (seen c.loop-place.place) plan (waiting c.loop-place.place) (wait c.loop-place.place) planned)
          (c.loop-place.invariant.stand s seen plan waiting wait planned all);
    }

pub returns-clause-stand : goal.returns-clause-stand
returns-clause-stand c = λ s seen plan waiting wait planned all.
    let over : length c.loop-place.seats.items ≤ c.loop-place.place = search rules in
    all_changed (λ k x. with_begun (begun_task 3 s plan (waiting k) k x) x) c.loop-place.seats.items s seen c.loop-place.place over (c.loop-place.invariant.stand s seen plan waiting wait planned all)
