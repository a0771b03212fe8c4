use Rattle.std.proofs.Common.{rules, ◌≡◌, Some}
use Rattle.sercos_seat.specs.Ring.{known_of}
use Rattle.sercos_c.proofs.MasterLemmas.{stands_so}
use Rattle.sercos_c.proofs.master_station.MasterStation.restart.Goals as goal

pub returns : goal.returns
returns c d h is =
    let there : c.args.self.now.master ≡ Some c.unwrap-master.result = search rules in
    let stands = stands_so _ _ d h there is.stands in
    let told = c.restarted.ensures.told (known_of d.setup) d.jobs h stands in
    record {
      stands = c.restarted.ensures.stands (known_of d.setup) d.jobs h stands;
      wishes_is = is.wishes_is;
      record_is = search rules;
      ended_is = is.ended_is;
    }
