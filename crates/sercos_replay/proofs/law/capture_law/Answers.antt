use Rattle.sercos_replay.proofs.CleanLemmas.{clean_goes_on, of_telegrams}
use Rattle.sercos_replay.proofs.GivenLemmas.{drive_given, master_given}
use Rattle.sercos_replay.proofs.law.capture_law.Goals as goal

pub returns : goal.returns
returns c = record { clean = clean_goes_on; drive_tells = drive_given; master_tells = master_given; telegrams = of_telegrams }
