use Rattle.sercos_trace.proofs.WriteLemmas.{failed_is, failed_early, writes_then}
use Rattle.sercos_multi.proofs.moments.write_merged.Goals as goal

pub returns-in_err-write_heads : goal.returns-in_err-write_heads
returns-in_err-write_heads g c = λ voices all some.
    let head = rw (c.as_slice.ensures.value) at c.in_err-write_heads.ensures in
    failed_is _ _ c.from_residual.result _ c.from_residual.ensures.0 (failed_early _ _ _ _ (head voices all))

pub returns : goal.returns
returns g c = λ voices all some.
    let head = rw (c.as_slice.ensures.value) at c.in_ok-write_heads.ensures in
    writes_then _ _ _ _ _ _ (head voices all) (c.write_moments.ensures voices all some)
