use Rattle.sercos_io.specs.declared.status.Status.TheVariants.{Done}
use Rattle.sercos_multi.proofs.AnswerLemmas.{ends}
use Rattle.sercos_multi.proofs.answering.give_merged.Goals as goal

pub returns : goal.returns
returns g c = λ voices all some. rw c.ended.ensures (ends _ _ c.write_merged.result Done _ (c.write_merged.ensures voices all some))
