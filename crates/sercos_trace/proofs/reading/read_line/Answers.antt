use Rattle.std.proofs.Common.{sym, ap, option_map}
use Rattle.sercos_trace.specs.declared.kind.LineKind.{LineKind}
use Rattle.sercos_trace.specs.Kinds.{template_of, all_kinds}
use Rattle.sercos_trace.specs.Lines.{line_as}
use Rattle.sercos_trace.proofs.KindLemmas.{no_kind}
use Rattle.sercos_trace.proofs.NumberLemmas.{within}
use Rattle.sercos_trace.proofs.reading.read_line.Goals as goal

pub line_of-requires : goal.line_of-requires
line_of-requires c = rw c.in-Ok.ensures.numbers (within (template_of c.in-Ok.kind) _ c.in-Ok.ensures.fields)

pub returns-in-Err-clause-ok : goal.returns-in-Err-clause-ok
returns-in-Err-clause-ok c =
    sym (ap (option_map (λ (kind : LineKind). line_as kind c.args.line.now)) (no_kind all_kinds c.args.line.now c.in-Err.place c.in-Err.ensures.fault))
