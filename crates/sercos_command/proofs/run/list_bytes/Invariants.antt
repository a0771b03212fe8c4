use Rattle.std.proofs.Common.{◌≡◌, ◌*◌, ◌++◌, length, drop}
use Rattle.sercos_command.specs.Checks.{list_bytes}
use Rattle.sercos_command.proofs.run.list_bytes.Given as goal

abbrev pub invariant-loop-idn : goal.invariant-loop-idn
invariant-loop-idn l = record {
  whole : l.bytes ++ list_bytes (drop l.idn-index l.idns) ≡ list_bytes l.idns;
  many : length l.bytes ≡ 2 * l.idn-index;
}
