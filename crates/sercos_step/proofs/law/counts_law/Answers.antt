use Rattle.sercos_step.proofs.AnswerCounts.{counts_answers, has_at_most, attribute_takes, value_takes, list_takes, value_write_takes, list_write_takes, command_takes, command_takes_steps, request_takes}
use Rattle.sercos_step.proofs.law.counts_law.Goals as goal

pub returns-clause-complete : goal.returns-clause-complete
returns-clause-complete c = counts_answers

pub returns-clause-most : goal.returns-clause-most
returns-clause-most c = has_at_most

pub returns-clause-attribute : goal.returns-clause-attribute
returns-clause-attribute c = attribute_takes

pub returns-clause-value : goal.returns-clause-value
returns-clause-value c = value_takes

pub returns-clause-list : goal.returns-clause-list
returns-clause-list c = list_takes

pub returns-clause-value_write : goal.returns-clause-value_write
returns-clause-value_write c = value_write_takes

pub returns-clause-list_write : goal.returns-clause-list_write
returns-clause-list_write c = list_write_takes

pub returns-clause-command : goal.returns-clause-command
returns-clause-command c = command_takes

pub returns-clause-command_steps : goal.returns-clause-command_steps
returns-clause-command_steps c = command_takes_steps

pub returns-clause-request : goal.returns-clause-request
returns-clause-request c = request_takes
