use Rattle.std.proofs.Common.{arith}
use Rattle.std.proofs.lemmas.Grind.{common_steps}
use Rattle.std.proofs.lemmas.List.Elements.{All-push}
use Rattle.sercos_block.specs.Rings.{has_address, has_other_data}
use Rattle.sercos_step.specs.Jobs.{IsJob}
use Rattle.sercos_step.specs.Steps.{IsTypedRequest}
use Rattle.sercos_config.specs.Request.{requests_onto}
use Rattle.sercos_config.proofs.request.read_requests.Goals as goal

pub loop-table-preserved : goal.loop-table-preserved
unfolding requests_onto
loop-table-preserved c =
    let good = IsJob (λ address. has_address address c.args.drives.now) (λ address raw. has_other_data address raw c.args.drives.now) in (
      rw c.in_ok-push.ensures.items (All-push good c.loop-table.jobs.items c.in_ok-job.job c.loop-table.invariant.0 c.in_ok-job.ensures.valid),
      rw c.in_ok-push.ensures.items (All-push (λ job. IsTypedRequest job.request) c.loop-table.jobs.items c.in_ok-job.job c.loop-table.invariant.1 c.in_ok-job.ensures.typed),
      grind (arith, common_steps),
      grind (arith, common_steps),
    )
