use Rattle.std.specs.Io.KnownBytes.{Keeps}
use Rattle.sercos_io.proofs.adapters.write_again.Given as goal

-- no call so far wrote anything
abbrev pub invariant-tries : goal.invariant-tries
invariant-tries g l = Keeps (g.W.Write.contents l.initial.writer) (g.W.Write.contents l.writer)
