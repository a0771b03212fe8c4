use Rattle.sercos_c.proofs.deframer.finish.Goals as goal

pub returns-clause-read : goal.returns-clause-read
returns-clause-read c = λ bits fed room. c.read_frame.ensures.read bits fed
