-- Worked values: a read of the data status, from its begin to its end.
use Rattle.std.proofs.Common.{◌≡◌, true, false, List, [], ◌∷◌, refl}
use Rattle.std.specs.Prelude.{Some}
use Rattle.sercos_telegram.specs.Words.{status_of}
use Rattle.sercos_step.specs.declared.request.Request.{Request}
use Rattle.sercos_step.specs.declared.request.Request.TheVariants as request
use Rattle.sercos_step.specs.declared.request.Outcome.TheVariants as outcome
use Rattle.sercos_step.specs.Steps.{a_step, opening}
use Rattle.sercos_service_master.specs.Begun.{master_says, no_step}
use Rattle.sercos_service_master.specs.Calls.{Call, Begin, Send, Hear, EndCycle, begun_by, outcome_at, cycles_open}

abbrev status_read : Request
status_read = request.Read (record { raw = 17 }) 1

-- the first step is sent while the drive is busy
abbrev sent : List Call
sent = EndCycle ∷ Hear (status_of 3) 0 ∷ Send ∷ EndCycle ∷ Begin status_read ∷ []

-- it is answered, and so the second is open
abbrev opened : List Call
opened = Hear (status_of 1) 0 ∷ sent

-- the second is sent, and the answer to the first is heard once more
abbrev sent_again : List Call
sent_again = EndCycle ∷ EndCycle ∷ Hear (status_of 1) 0 ∷ Send ∷ opened

-- it is answered too
abbrev ended : List Call
ended = Hear (status_of 0) 5 ∷ sent_again

begun-says : master_says (begun_by (Begin status_read ∷ [])) ≡ record { mhs = true; step = opening (record { raw = 17 }) }
begun-says = refl

sent-says : master_says (begun_by sent) ≡ record { mhs = true; step = opening (record { raw = 17 }) }
unfolding status_of
sent-says = refl

sent-cycles : cycles_open sent ≡ 1
unfolding status_of
sent-cycles = refl

opened-says : master_says (begun_by opened) ≡ record { mhs = false; step = a_step false true 1 0 }
unfolding status_of
opened-says = refl

opened-cycles : cycles_open opened ≡ 0
unfolding status_of
opened-cycles = refl

again-says : master_says (begun_by sent_again) ≡ record { mhs = false; step = a_step false true 1 0 }
unfolding status_of
again-says = refl

again-cycles : cycles_open sent_again ≡ 2
unfolding status_of
again-cycles = refl

ended-outcome : outcome_at sent_again (status_of 0) 5 ≡ Some (outcome.Complete (5 ∷ 0 ∷ []))
unfolding status_of
ended-outcome = refl

ended-says : master_says (begun_by ended) ≡ record { mhs = false; step = no_step }
unfolding status_of
ended-says = refl

refused-outcome : outcome_at sent (status_of 5) 4097 ≡ Some (outcome.Refused (record { raw = 4097 }))
unfolding status_of
refused-outcome = refl
