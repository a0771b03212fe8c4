use Rattle.sercos_call.proofs.Outcomes as outcomes
use Rattle.sercos_app.proofs.Outcomes.{at_chain, at_clean, at_least_plan, at_margins, at_no_of, at_none_fits, at_summed, at_traced, at_violation, law_of}
use Rattle.sercos_app.proofs.Replayed.{at_differs, at_agrees, at_replays, at_calm, at_no_earlier}
use Rattle.sercos_app.proofs.SavedTold.{at_saved, at_unsaved, at_restored, at_unrestored}
use Rattle.sercos_app.proofs.top_call.sercos.Goals as goal

pub returns-clause-done : goal.returns-clause-done
returns-clause-done g c = outcomes.at_done (law_of c.respond.ensures) c.respond.ensures.how

pub returns-clause-no : goal.returns-clause-no
returns-clause-no g c = outcomes.at_no (law_of c.respond.ensures) c.respond.ensures.how

pub returns-clause-summed : goal.returns-clause-summed
returns-clause-summed g c = at_summed c.respond.ensures

pub returns-clause-differs : goal.returns-clause-differs
returns-clause-differs g c = at_differs c.respond.ensures

pub returns-clause-agrees : goal.returns-clause-agrees
returns-clause-agrees g c = at_agrees c.respond.ensures

pub returns-clause-replays : goal.returns-clause-replays
returns-clause-replays g c = at_replays c.respond.ensures

pub returns-clause-calm : goal.returns-clause-calm
returns-clause-calm g c = at_calm c.respond.ensures

pub returns-clause-no_earlier : goal.returns-clause-no_earlier
returns-clause-no_earlier g c = at_no_earlier c.respond.ensures

pub returns-clause-saved : goal.returns-clause-saved
returns-clause-saved g c = at_saved c.respond.ensures

pub returns-clause-unsaved : goal.returns-clause-unsaved
returns-clause-unsaved g c = at_unsaved c.respond.ensures

pub returns-clause-restored : goal.returns-clause-restored
returns-clause-restored g c = at_restored c.respond.ensures

pub returns-clause-unrestored : goal.returns-clause-unrestored
returns-clause-unrestored g c = at_unrestored c.respond.ensures

pub returns-clause-refused : goal.returns-clause-refused
returns-clause-refused g c = outcomes.at_refused (law_of c.respond.ensures) c.respond.ensures.how

pub returns-clause-write_fault : goal.returns-clause-write_fault
returns-clause-write_fault g c = outcomes.at_write_fault (law_of c.respond.ensures) c.respond.ensures.how

pub returns-clause-answers : goal.returns-clause-answers
returns-clause-answers g c = outcomes.at_answers (law_of c.respond.ensures) c.respond.ensures.how

pub returns-clause-bad_words : goal.returns-clause-bad_words
returns-clause-bad_words g c = outcomes.at_bad_words (law_of c.respond.ensures) c.respond.ensures.how

pub returns-clause-no_form : goal.returns-clause-no_form
returns-clause-no_form g c = outcomes.at_no_form (law_of c.respond.ensures) c.respond.ensures.how

pub returns-clause-unread : goal.returns-clause-unread
returns-clause-unread g c = outcomes.at_unread (law_of c.respond.ensures) c.respond.ensures.how

pub returns-clause-taken : goal.returns-clause-taken
returns-clause-taken g c = outcomes.at_taken (law_of c.respond.ensures) c.respond.ensures.how

pub returns-clause-taken_few : goal.returns-clause-taken_few
returns-clause-taken_few g c = outcomes.at_taken_few (law_of c.respond.ensures) c.respond.ensures.how

pub returns-clause-unwritten : goal.returns-clause-unwritten
returns-clause-unwritten g c = outcomes.at_unwritten (law_of c.respond.ensures) c.respond.ensures.how

pub returns-clause-read_fault : goal.returns-clause-read_fault
returns-clause-read_fault g c = outcomes.at_read_fault (law_of c.respond.ensures) c.respond.ensures.how

pub returns-clause-read_count : goal.returns-clause-read_count
returns-clause-read_count g c = outcomes.at_read_count (law_of c.respond.ensures) c.respond.ensures.how

pub returns-clause-read_well : goal.returns-clause-read_well
returns-clause-read_well g c = outcomes.at_read_well (law_of c.respond.ensures) c.respond.ensures.how

pub returns-clause-too_long : goal.returns-clause-too_long
returns-clause-too_long g c = outcomes.at_too_long (law_of c.respond.ensures) c.respond.ensures.how

pub returns-clause-write_count : goal.returns-clause-write_count
returns-clause-write_count g c = outcomes.at_write_count (law_of c.respond.ensures) c.respond.ensures.how

pub returns-clause-write_well : goal.returns-clause-write_well
returns-clause-write_well g c = outcomes.at_write_well (law_of c.respond.ensures) c.respond.ensures.how

pub returns-clause-refuses : goal.returns-clause-refuses
returns-clause-refuses g c = outcomes.at_refuses (law_of c.respond.ensures) c.respond.ensures.how

pub returns-clause-exceeds : goal.returns-clause-exceeds
returns-clause-exceeds g c = outcomes.at_exceeds (law_of c.respond.ensures) c.respond.ensures.how

pub returns-clause-room : goal.returns-clause-room
returns-clause-room g c = outcomes.at_room (law_of c.respond.ensures) c.respond.ensures.how

pub returns-clause-no_of : goal.returns-clause-no_of
returns-clause-no_of g c = at_no_of c.respond.ensures

pub returns-clause-none_fits : goal.returns-clause-none_fits
returns-clause-none_fits g c = at_none_fits c.respond.ensures

pub returns-clause-least : goal.returns-clause-least
returns-clause-least g c = at_least_plan c.respond.ensures

pub returns-clause-margins : goal.returns-clause-margins
returns-clause-margins g c = at_margins c.respond.ensures

pub returns-clause-chain : goal.returns-clause-chain
returns-clause-chain g c = at_chain c.respond.ensures

pub returns-clause-violation : goal.returns-clause-violation
returns-clause-violation g c = at_violation c.respond.ensures

pub returns-clause-clean : goal.returns-clause-clean
returns-clause-clean g c = at_clean c.respond.ensures

pub returns-clause-traced : goal.returns-clause-traced
returns-clause-traced g c = at_traced c.respond.ensures
