use Rattle.std.specs.Io.KnownBytes.{Keeps}
use Rattle.sercos_io.proofs.adapters.read_again.Given as goal

-- no call so far read anything
abbrev pub invariant-tries : goal.invariant-tries
invariant-tries g l = Keeps (g.R.Read.remaining l.initial.reader) (g.R.Read.remaining l.reader)
