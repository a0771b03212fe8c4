use Rattle.sercos_trace.proofs.WriteLemmas.{failed_is, failed_early, writes_then}
use Rattle.sercos_trace.proofs.line.write_both.Goals as goal

pub returns-in_err-write_bytes : goal.returns-in_err-write_bytes
returns-in_err-write_bytes g c = failed_is _ _ c.from_residual.result _ c.from_residual.ensures.0 (failed_early _ _ _ _ c.in_err-write_bytes.ensures)

pub returns : goal.returns
returns g c = writes_then _ _ _ _ _ _ c.in_ok-write_bytes.ensures c.write_bytes-2.ensures
