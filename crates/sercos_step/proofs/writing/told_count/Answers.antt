use Rattle.sercos_step.proofs.WrittenWords.{length-told_list, length-told_value}
use Rattle.sercos_step.proofs.writing.told_count.Goals as goal

pub returns-in-List : goal.returns-in-List
returns-in-List c = rw c.in-List.is (length-told_list c.args.bytes.now)

pub returns-in_default : goal.returns-in_default
returns-in_default c = rw c.max.ensures (length-told_value c.args.shape c.args.bytes.now c.in_default.not-List)
