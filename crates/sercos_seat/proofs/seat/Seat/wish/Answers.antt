use Rattle.std.proofs.Common.{◌≡◌, ◌<◌, ℕ, refl, arith}
use Rattle.sercos_seat.specs.Agenda.{short_in, given}
use Rattle.sercos_seat.specs.Seats.{low_at, SeatStandsFor, outcomes_seen}
use Rattle.sercos_seat.specs.contracts.seat.Seat.{the_view}
use Rattle.sercos_seat.proofs.Lengths.{at_len_same, record_len_same}
use Rattle.sercos_seat.proofs.Lengths.{lows}
use Rattle.sercos_seat.proofs.seat.Seat.wish.Goals as goal

pub returns : goal.returns
returns c = λ d x stands.
    let t : SeatStandsFor (the_view c.self.inside) d x = rw c.self.view_is stands in
    let a : (i : ℕ) → i < 6 → low_at c.as_slice-words.result.now i ≡ short_in (given (outcomes_seen x) i) = λ i h. rw c.as_slice-words.ensures.value (lows (the_view c.self.inside) d x i t h) in
    rw (
      c.address.ensures,
      c.slave.ensures,
      c.low_at.ensures,
      c.low_at-2.ensures,
      c.low_at-3.ensures,
      c.low_at-4.ensures,
      c.low_at-5.ensures,
      c.low_at-6.ensures,
      a 0 (omega arith),
      a 1 (omega arith),
      a 2 (omega arith),
      a 3 (omega arith),
      a 4 (omega arith),
      a 5 (omega arith),
      c.at_len.ensures.value,
      c.listed_len.ensures.value,
      c.mdt_words_of.ensures.value,
      c.as_slice-words.ensures.value,
      at_len_same c.args.self.now d x stands,
      record_len_same (the_view c.self.inside) d x t,
      t.member_is,
    ) refl
