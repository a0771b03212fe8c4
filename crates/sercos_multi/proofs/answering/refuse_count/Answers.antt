use Rattle.sercos_io.specs.declared.status.Status.TheVariants.{Refused}
use Rattle.sercos_multi.proofs.AnswerLemmas.{ends}
use Rattle.sercos_multi.proofs.answering.refuse_count.Goals as goal

pub returns : goal.returns
returns g c = rw c.ended.ensures (ends _ _ c.write_text.result Refused _ (rw (c.push_within.ensures, c.push_line.ensures.value, c.new-line.ensures) at c.write_text.ensures))
