use Rattle.std.proofs.Common.{rules}
use Rattle.sercos_c.proofs.MasterLemmas.{slots_reported}
use Rattle.sercos_c.proofs.master_station.MasterStation.events.Goals as goal

pub returns-then-not-has_slots-clause-written : goal.returns-then-not-has_slots-clause-written
returns-then-not-has_slots-clause-written c d h is =
    let all = slots_reported c.master_law.ensures.planned d h _ _ is.wishes_is is.record_is in
    absurd (search rules)
