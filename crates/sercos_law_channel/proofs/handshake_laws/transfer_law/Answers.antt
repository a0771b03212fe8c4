use Rattle.sercos_law_channel.proofs.Handshake.Once.{reads_once, writes_once}
use Rattle.sercos_law_channel.proofs.Handshake.QuietSteps.{writes_nothing}
use Rattle.sercos_law_channel.proofs.Handshake.UnknownBlocks.{refuses_unknown, writes_nowhere}
use Rattle.sercos_law_channel.proofs.Handshake.CommandEnds.{ends_with_status}
use Rattle.sercos_law_channel.proofs.Handshake.CommandStages.{sets_and_cancels}
use Rattle.sercos_law_channel.proofs.Handshake.CommandRefusals.{refused_adds_nothing}
use Rattle.sercos_law_channel.proofs.handshake_laws.transfer_law.Goals as goal

pub returns : goal.returns
returns c = record {
  writes_once = writes_once;
  writes_nothing = writes_nothing;
  writes_nowhere = writes_nowhere;
  refuses_unknown = refuses_unknown;
  ends_with_status = ends_with_status;
  sets_and_cancels = sets_and_cancels;
  refused_adds_nothing = refused_adds_nothing;
  reads_once = reads_once;
}
