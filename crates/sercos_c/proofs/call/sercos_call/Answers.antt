use Rattle.std.proofs.Common.{rules, refl}
use Rattle.sercos_c.specs.Answers.IsCallOf.{called, no_texts}
use Rattle.sercos_c.proofs.AnswerLemmas.{no_memory}
use Rattle.sercos_c.proofs.call.sercos_call.Goals as goal

pub returns-in-Err-clause-called : goal.returns-in-Err-clause-called
returns-in-Err-clause-called c = called c.code-in-Err.ensures (no_memory _ _ _)

pub returns-in-Ok-None-clause-called : goal.returns-in-Ok-None-clause-called
returns-in-Ok-None-clause-called c = no_texts (search rules) c.code.ensures refl

pub returns-clause-called : goal.returns-clause-called
returns-clause-called c = called c.code-2.ensures (search rules)
