use Rattle.sercos_step.proofs.ReadWords.{reading_at}
use Rattle.sercos_step.proofs.reading.reading_step.Goals as goal

pub returns-clause-next : goal.returns-clause-next
returns-clause-next c = λ words p f h. rw c.is_last_read.ensures (reading_at c.args.shape c.args.element c.args.place c.args.first words p f h)
