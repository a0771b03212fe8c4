use Rattle.std.proofs.Common.{◌≡◌, length}
use Rattle.sercos_show.proofs.DigitLemmas.{IsSet}
use Rattle.sercos_show.proofs.digits.set_pairs.Given as goal

abbrev pub invariant-loop-place : goal.invariant-loop-place
invariant-loop-place l = record {
  len : length l.bytes ≡ length l.fn.bytes;
  set : IsSet l.digits l.bytes l.place l.seen;
}
