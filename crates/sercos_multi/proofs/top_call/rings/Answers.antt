use Rattle.sercos_multi.specs.Words.{form_of}
use Rattle.sercos_call.proofs.Outcomes as outcomes
use Rattle.sercos_multi.proofs.TopLemmas.{at_merged, command, never}
use Rattle.sercos_multi.proofs.top_call.rings.Goals as goal

pub returns-clause-bad_words : goal.returns-clause-bad_words
returns-clause-bad_words g c = outcomes.at_bad_words (command (form_of c.args.words.now)) c.respond.ensures.how

pub returns-clause-no_form : goal.returns-clause-no_form
returns-clause-no_form g c = c.respond.ensures.words

pub returns-clause-unread : goal.returns-clause-unread
returns-clause-unread g c = outcomes.at_unread (command (form_of c.args.words.now)) c.respond.ensures.how

pub returns-clause-taken : goal.returns-clause-taken
returns-clause-taken g c = outcomes.at_taken (command (form_of c.args.words.now)) c.respond.ensures.how

pub returns-clause-taken_few : goal.returns-clause-taken_few
returns-clause-taken_few g c = outcomes.at_taken_few (command (form_of c.args.words.now)) c.respond.ensures.how

pub returns-clause-unwritten : goal.returns-clause-unwritten
returns-clause-unwritten g c = outcomes.at_unwritten (command (form_of c.args.words.now)) c.respond.ensures.how

pub returns-clause-read_fault : goal.returns-clause-read_fault
returns-clause-read_fault g c = outcomes.at_read_fault (command (form_of c.args.words.now)) c.respond.ensures.how

pub returns-clause-read_count : goal.returns-clause-read_count
returns-clause-read_count g c = outcomes.at_read_count (command (form_of c.args.words.now)) c.respond.ensures.how

pub returns-clause-read_well : goal.returns-clause-read_well
returns-clause-read_well g c = outcomes.at_read_well (command (form_of c.args.words.now)) c.respond.ensures.how

pub returns-clause-too_long : goal.returns-clause-too_long
returns-clause-too_long g c = outcomes.at_too_long (command (form_of c.args.words.now)) c.respond.ensures.how

pub returns-clause-done : goal.returns-clause-done
returns-clause-done g c = outcomes.at_done (command (form_of c.args.words.now)) c.respond.ensures.how

pub returns-clause-refused : goal.returns-clause-refused
returns-clause-refused g c = outcomes.at_refused (command (form_of c.args.words.now)) c.respond.ensures.how

pub returns-clause-write_fault : goal.returns-clause-write_fault
returns-clause-write_fault g c = outcomes.at_write_fault (command (form_of c.args.words.now)) c.respond.ensures.how

pub returns-clause-write_count : goal.returns-clause-write_count
returns-clause-write_count g c = outcomes.at_write_count (command (form_of c.args.words.now)) c.respond.ensures.how

pub returns-clause-write_well : goal.returns-clause-write_well
returns-clause-write_well g c = outcomes.at_write_well (command (form_of c.args.words.now)) c.respond.ensures.how

pub returns-clause-answers : goal.returns-clause-answers
returns-clause-answers g c = outcomes.at_answers (command (form_of c.args.words.now)) c.respond.ensures.how

pub returns-clause-refuses : goal.returns-clause-refuses
returns-clause-refuses g c = outcomes.at_refuses (command (form_of c.args.words.now)) c.respond.ensures.how

pub returns-clause-exceeds : goal.returns-clause-exceeds
returns-clause-exceeds g c = outcomes.at_exceeds (command (form_of c.args.words.now)) c.respond.ensures.how

pub returns-clause-room : goal.returns-clause-room
returns-clause-room g c = outcomes.at_room (command (form_of c.args.words.now)) c.respond.ensures.how

pub returns-clause-never_no : goal.returns-clause-never_no
returns-clause-never_no g c = never (command (form_of c.args.words.now)) c.respond.ensures.how

pub returns-clause-merged : goal.returns-clause-merged
returns-clause-merged g c = at_merged (command (form_of c.args.words.now)) c.respond.ensures.how
