use Rattle.std.proofs.Common.{arith}
use Rattle.sercos_io.proofs.Copies.{reads_front}
use Rattle.sercos_io.proofs.memory_source.MemorySourceSource.read.Goals as goal

pub returns-clause-bytes : goal.returns-clause-bytes
returns-clause-bytes c =
    let copy = rw c.deref-2.ensures.value at c.copy_front-count.ensures in
    rw (← c.self.view_is) (reads_front c.self.inside.bytes.items _ _ _ _ _ (λ _. omega arith) copy.count copy.copied)
