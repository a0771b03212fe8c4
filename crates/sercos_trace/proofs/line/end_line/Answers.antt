use Rattle.std.proofs.Common.{refl}
use Rattle.sercos_trace.proofs.MarkedLemmas.{line_written}
use Rattle.sercos_trace.proofs.line.end_line.Goals as goal

pub returns : goal.returns
returns g c = line_written _ _ c.write_both.result c.args.line.now c.requires.one refl (rw (c.as_slice.ensures.value, c.push_within.ensures) at c.write_both.ensures)
