use Rattle.std.proofs.Common.{◌≡◌, ◌<◌}
use Rattle.std.specs.Prelude.{slice_index, IfSome}
use Rattle.sercos_timing.specs.Order.{previous, first_sent, place_at}
use Rattle.sercos_timing.proofs.wishes.Wishes.previous_at.Given as goal

abbrev pub invariant-loop-earlier : goal.invariant-loop-earlier
invariant-loop-earlier l = record {
  value : place_at l.self l.found ≡ previous l.self (slice_index l.self.order l.at) (first_sent l.self.order l.earlier);
  before : IfSome l.found (λ k. k < l.at);
}
