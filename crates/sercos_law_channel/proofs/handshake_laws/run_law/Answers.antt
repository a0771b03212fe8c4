use Rattle.sercos_law_channel.proofs.Handshake.EpochRuns.{quiet, in_step, in_step_in, same_log}
use Rattle.sercos_law_channel.proofs.Handshake.RunFacts.{stands_no_later, stands_as_commanded, stays_down, comes_up, keeps_up, accepts_in_order, processes_in_phase, comes_to_zero, handshake}
use Rattle.sercos_law_channel.proofs.Handshake.RunsMade.{is_run, is_sound}
use Rattle.sercos_law_channel.proofs.handshake_laws.run_law.Goals as goal

pub returns : goal.returns
returns c = record {
  no_later = stands_no_later;
  in_phase = processes_in_phase;
  zero = comes_to_zero;
  empty = quiet;
  epoch = in_step;
  cycle = in_step_in;
  of_epoch = same_log;
  handshake = handshake;
  made = is_run;
  commanded = stands_as_commanded;
  down = stays_down;
  up = comes_up;
  keeps_up = keeps_up;
  order = accepts_in_order;
  sound = is_sound;
}
