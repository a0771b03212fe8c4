use Rattle.sercos_law_channel.proofs.Cited.{written_stays}
use Rattle.sercos_law_channel.proofs.Handshake.ProtectedWrites.{stays_protected, stays_quiet, stays_fixed}
use Rattle.sercos_law_channel.proofs.Handshake.StoredValues.{holds_newest}
use Rattle.sercos_law_channel.proofs.handshake_laws.values_law.Goals as goal

pub returns : goal.returns
returns c = record {
  newest = holds_newest;
  protected = stays_protected;
  quiet = stays_quiet;
  written = written_stays;
  fixed = stays_fixed;
}
