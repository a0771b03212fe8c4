use Rattle.sercos_master.proofs.Words.{rules, ◌<◌, ◌≤◌, length, arith, member, SeatStandsFor}
use Rattle.sercos_master.proofs.Wishes.{list_more, list_whole, push_room, push_count}
use Rattle.sercos_master.proofs.seats.wish_list.Goals as goal

pub loop-place-preserved : goal.loop-place-preserved
loop-place-preserved c =
    let below : c.loop-place.place < length c.args.seats.now = search rules in
    record {
      count = rw c.push_wish.ensures (push_count c.loop-place.wishes.items c.loop-place.place c.wish.result c.loop-place.invariant.count);
      all = λ s seen count few all.
          let here : SeatStandsFor c.index-seats-place.result (member s c.loop-place.place) (seen c.loop-place.place) = rw c.index-seats-place.is (all c.loop-place.place c.index-seats-place.result below) in
          let is = c.wish.ensures (member s c.loop-place.place) (seen c.loop-place.place) here in
          rw (c.push_wish.ensures, push_room c.loop-place.wishes.items c.loop-place.place c.wish.result c.loop-place.invariant.count (omega (arith, below, count, few)))
          (list_more s seen c.loop-place.place c.loop-place.wishes.items c.wish.result (omega (arith, below, count)) is (c.loop-place.invariant.all s seen count few all));
    }

pub returns : goal.returns
returns c = λ s seen count few all.
    let over : length c.args.seats.now ≤ c.loop-place.place = search rules in
    list_whole s seen c.loop-place.place c.loop-place.wishes.items (omega (arith, over, count)) (c.loop-place.invariant.all s seen count few all)
