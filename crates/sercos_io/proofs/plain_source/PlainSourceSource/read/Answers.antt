use Rattle.sercos_io.proofs.Copies.{reads_front}
use Rattle.sercos_io.proofs.plain_source.PlainSourceSource.read.Goals as goal

pub returns-clause-bytes : goal.returns-clause-bytes
returns-clause-bytes c =
    let copy = rw c.deref.ensures.value at c.copy_front-count.ensures in
    rw (← c.self.view_is) (reads_front c.self.inside.bytes.items _ _ _ _ _ (λ some. some) copy.count copy.copied)
