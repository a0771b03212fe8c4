use Rattle.std.proofs.Common.{sym, subst}
use Rattle.std.specs.List.{All}
use Rattle.sercos_step.specs.declared.request.Job.{Job}
use Rattle.sercos_step.specs.Steps.{IsRequest}
use Rattle.sercos_backup.proofs.ListLemmas.{data_requests}
use Rattle.sercos_backup.proofs.jobs.all_listed.Goals as goal

pub returns-clause-requests : goal.returns-clause-requests
returns-clause-requests c = subst (All (λ (job : Job). IsRequest job.request)) (sym c.loop-list.invariant.0) (data_requests _)
