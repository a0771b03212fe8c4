use Rattle.sercos_trace.specs.Kinds.{template_of}
use Rattle.sercos_trace.proofs.NumberLemmas.{within}
use Rattle.sercos_trace.proofs.reader.Reader.read.Goals as goal

pub keep-self-inside-requires : goal.keep-self-inside-requires
keep-self-inside-requires c = rw c.in-Ok.ensures.numbers (within (template_of c.in-Ok.kind) _ c.in-Ok.ensures.fields)
