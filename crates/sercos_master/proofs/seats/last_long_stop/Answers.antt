use Rattle.sercos_master.proofs.Words.{rules, ◌≡◌, ◌<◌, ◌≤◌, ◌-◌, ◌+◌, true, false, length, sym, ◌∙◌, arith, is_some, member, SeatStandsFor, outcomes_seen}
use Rattle.sercos_seat.proofs.Longs.{last_long_stop-from}
use Rattle.sercos_master.proofs.Wishes.{stop_more, stop_none, stop_there, none_is, some_is}
use Rattle.sercos_master.proofs.seats.last_long_stop.Goals as goal

pub loop-i-init : goal.loop-i-init
loop-i-init c = record { none = λ s seen count all. stop_none s (λ k. outcomes_seen (seen k)) (length c.args.seats.now - 0) (omega (arith, count)) }

pub returns-then-is_some : goal.returns-then-is_some
returns-then-is_some c = λ s seen count all.
    let below : c.loop-i.i < length c.args.seats.now = search rules in
    let here : SeatStandsFor c.index-seats-count.result (member s (length c.args.seats.now - 1 - c.loop-i.i)) (seen (length c.args.seats.now - 1 - c.loop-i.i)) = rw c.index-seats-count.is (all (length c.args.seats.now - 1 - c.loop-i.i) c.index-seats-count.result (omega (arith, below))) in
    let is = c.last_long-stop.ensures (member s (length c.args.seats.now - 1 - c.loop-i.i)) (seen (length c.args.seats.now - 1 - c.loop-i.i)) here in
    let known : is_some c.last_long-stop.result ≡ true = search rules in
    some_is c.last_long-stop.result known (λ x e. e ∙ sym (last_long_stop-from s.drives 0 (λ k. outcomes_seen (seen k)) ∙ stop_there s
    (λ k. outcomes_seen (seen k)) (length c.args.seats.now - 1 - c.loop-i.i) (length c.args.seats.now - c.loop-i.i) x
    (omega (arith, below, count)) (omega (arith, below)) (sym is ∙ e) (c.loop-i.invariant.none s seen count all)))

pub loop-i-preserved : goal.loop-i-preserved
loop-i-preserved c = record {
  none = λ s seen count all.
      let below : c.loop-i.i < length c.args.seats.now = search rules in
      let here : SeatStandsFor c.index-seats-count.result (member s (length c.args.seats.now - 1 - c.loop-i.i)) (seen (length c.args.seats.now - 1 - c.loop-i.i)) = rw c.index-seats-count.is (all (length c.args.seats.now - 1 - c.loop-i.i) c.index-seats-count.result (omega (arith, below))) in
      let is = c.last_long-stop.ensures (member s (length c.args.seats.now - 1 - c.loop-i.i)) (seen (length c.args.seats.now - 1 - c.loop-i.i)) here in
      let known : is_some c.last_long-stop.result ≡ false = search rules in
      let same : length c.args.seats.now - (c.loop-i.i + 1) ≡ length c.args.seats.now - 1 - c.loop-i.i = omega arith in
      rw same (stop_more s (λ k. outcomes_seen (seen k)) (length c.args.seats.now - 1 - c.loop-i.i) (length c.args.seats.now - c.loop-i.i) (omega (arith, below, count)) (omega (arith, below)) (sym is ∙ none_is c.last_long-stop.result known) (c.loop-i.invariant.none s seen count all));
}

pub returns : goal.returns
returns c = λ s seen count all.
    let over : length c.args.seats.now ≤ c.loop-i.i = search rules in
    let zero_is : length c.args.seats.now - c.loop-i.i ≡ 0 = omega (arith, over) in
    sym (last_long_stop-from s.drives 0 (λ k. outcomes_seen (seen k)) ∙ rw zero_is at (c.loop-i.invariant.none s seen count all))
