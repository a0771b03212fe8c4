use Rattle.sercos_law_channel.proofs.Handshake.LogParts.{come_in_turn, fall_into_parts, have_replies, make_transfers}
use Rattle.sercos_law_channel.proofs.handshake_laws.parts_law.Goals as goal

pub returns : goal.returns
returns c = record {
  turn = come_in_turn;
  parts = fall_into_parts;
  replies = have_replies;
  transfers = make_transfers;
}
