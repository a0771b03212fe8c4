use Rattle.sercos_law_channel.proofs.Handshake.HandshakeMoves.{hears, begins, takes, ahs-log, log-taken}
use Rattle.sercos_law_channel.proofs.handshake_laws.handshake_law.Goals as goal

pub returns : goal.returns
returns c = record {
  hears = hears;
  begins = begins;
  takes = takes;
  bits = ahs-log;
  joins = log-taken;
}
