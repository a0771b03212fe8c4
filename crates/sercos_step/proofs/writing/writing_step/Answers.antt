use Rattle.sercos_step.specs.Words.{words_told}
use Rattle.sercos_step.proofs.WrittenWords.{writing_at}
use Rattle.sercos_step.proofs.writing.writing_step.Goals as goal

pub returns-clause-next : goal.returns-clause-next
returns-clause-next c = λ h. writing_at (words_told c.args.shape c.args.bytes.now) c.args.element c.args.place c.told_count.result c.told_at.result c.told_count.ensures c.told_at.ensures h
