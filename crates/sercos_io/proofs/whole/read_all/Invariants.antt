use Rattle.std.proofs.Common.{◌≡◌, ◌-◌, ◌≤◌, length, vec_len}
use Rattle.std.specs.Io.KnownBytes.{Consumes}
use Rattle.sercos_io.proofs.whole.read_all.Given as goal

-- the bytes so far were taken from the source, without a fault
abbrev pub invariant-pieces : goal.invariant-pieces
invariant-pieces g l = record {
  within : vec_len l.bytes ≤ 1048576;
  taken : Consumes (g.S.Source.left l.initial.source) (g.S.Source.left l.source) l.bytes.items;
  faultless : g.S.Source.faults l.source ≡ g.S.Source.faults l.initial.source;
  whole_piece : length l.piece ≡ 8192;
}

abbrev pub decreases-pieces : goal.decreases-pieces
decreases-pieces g l = 1048577 - vec_len l.bytes
