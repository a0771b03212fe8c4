use Rattle.sercos_trace.proofs.WriteLemmas.{failed_early}
use Rattle.sercos_multi.specs.Going.{here_text}
use Rattle.sercos_multi.proofs.PassLemmas.{pass_failed, moment_then}
use Rattle.sercos_multi.proofs.moments.write_moment.Goals as goal

pub returns-in_err-write_number : goal.returns-in_err-write_number
unfolding here_text
returns-in_err-write_number g c = λ voices all from.
    pass_failed g.L.BitLink.carry g.L.BitLink.restart c.args.time c.args.moment _ _ _ c.from_residual.result voices _ c.from_residual.ensures.0 (failed_early _ _ _ _ c.in_err-write_number.ensures)

pub returns : goal.returns
unfolding here_text
returns g c = λ voices all from.
    moment_then g.L.BitLink.carry g.L.BitLink.restart c.args.time c.args.moment _ _ _ _ c.pass_all.result voices _ _ c.in_ok-write_number.ensures (c.pass_all.ensures voices all from)
