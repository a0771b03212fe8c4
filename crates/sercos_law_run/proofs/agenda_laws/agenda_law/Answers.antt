use Rattle.sercos_law_run.proofs.Agenda.WritesDone.{writes_data}
use Rattle.sercos_law_run.proofs.Cited.{begins_none, begins_tasks, configures_check, configures_rise, reads_well, tasks_end, work_in_four, work_in_three, work_in_turn, work_in_two}
use Rattle.sercos_law_run.proofs.agenda_laws.agenda_law.Goals as goal

pub returns-clause-tasks : goal.returns-clause-tasks
returns-clause-tasks c = begins_tasks

pub returns-clause-ended : goal.returns-clause-ended
returns-clause-ended c = tasks_end

pub returns-clause-none : goal.returns-clause-none
returns-clause-none c = begins_none

pub returns-clause-turn : goal.returns-clause-turn
returns-clause-turn c = work_in_turn

pub returns-clause-reads : goal.returns-clause-reads
returns-clause-reads c = reads_well

pub returns-clause-data : goal.returns-clause-data
returns-clause-data c = writes_data

pub returns-clause-check : goal.returns-clause-check
returns-clause-check c = configures_check

pub returns-clause-rise : goal.returns-clause-rise
returns-clause-rise c = configures_rise

pub returns-clause-two : goal.returns-clause-two
returns-clause-two c = work_in_two

pub returns-clause-three : goal.returns-clause-three
returns-clause-three c = work_in_three

pub returns-clause-four : goal.returns-clause-four
returns-clause-four c = work_in_four
