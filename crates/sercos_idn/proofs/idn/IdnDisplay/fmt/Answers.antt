use Rattle.std.proofs.Output.{has_written_of_eq}
use Rattle.sercos_idn.proofs.PrintLemmas.{printed}
use Rattle.sercos_idn.proofs.idn.IdnDisplay.fmt.Goals as goal

pub returns-clause-writes : goal.returns-clause-writes
returns-clause-writes g c = λ plain ok. has_written_of_eq _ _ _ _ _ (simp (c.letter_of-letter.ensures, c.laid_out.ensures) (printed c.args.self.now.raw)) (c.write.ensures.writes plain ok)
