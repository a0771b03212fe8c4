use Rattle.sercos_trace.proofs.MarkedLemmas.{failed_is, failed_early, failed_later, writes_then}
use Rattle.sercos_trace.proofs.writing.write_marked_header.Goals as goal

pub returns-in_err-write_line : goal.returns-in_err-write_line
returns-in_err-write_line g c = failed_is _ _ c.from_residual.result _ c.from_residual.ensures.0 (failed_early _ _ _ _ c.in_err-write_line.ensures)

pub returns-in_err-write_ring : goal.returns-in_err-write_ring
returns-in_err-write_ring g c = failed_is _ _ c.from_residual-in_err-write_ring.result _ c.from_residual-in_err-write_ring.ensures.0 (failed_later _ _ _ _ _ c.in_ok-write_line.ensures (failed_early _ _ _ _ c.in_err-write_ring.ensures))

pub returns-in_err-write_drives : goal.returns-in_err-write_drives
returns-in_err-write_drives g c = failed_is _ _ c.from_residual-in_err-write_drives.result _ c.from_residual-in_err-write_drives.ensures.0 (failed_later _ _ _ _ _ c.in_ok-write_line.ensures (failed_later _ _ _ _ _ c.in_ok-write_ring.ensures (failed_early _ _ _ _ (rw c.drives.ensures.value at c.in_err-write_drives.ensures))))

pub returns : goal.returns
returns g c = (writes_then _ _ _ _ _ _ c.in_ok-write_line.ensures (writes_then _ _ _ _ _ _ c.in_ok-write_ring.ensures (writes_then _ _ _ _ _ _ (rw c.drives.ensures.value at c.in_ok-write_drives.ensures) c.write_ordered.ensures)))
