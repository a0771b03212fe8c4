use Rattle.std.proofs.Common.{◌≡◌, ◌*◌, ◌++◌, length, drop}
use Rattle.sercos_command.specs.Checks.{idns_in}
use Rattle.sercos_command.proofs.carried.idns_in.Given as goal

abbrev pub invariant-loop-place : goal.invariant-loop-place
invariant-loop-place l = record {
  whole : l.idns.items ++ idns_in (drop (2 * l.place) l.bytes) ≡ idns_in l.bytes;
  many : length l.idns.items ≡ l.place;
}
