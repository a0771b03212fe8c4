use Rattle.sercos_idn.proofs.AttributeLemmas.{attribute_word-below, attribute_fault-attribute_word, attribute_of-attribute_word}
use Rattle.sercos_idn.proofs.law.attribute_law.Goals as goal

pub returns-clause-small : goal.returns-clause-small
returns-clause-small c = attribute_word-below

pub returns-clause-sound : goal.returns-clause-sound
returns-clause-sound c = attribute_fault-attribute_word

pub returns-clause-back : goal.returns-clause-back
returns-clause-back c = attribute_of-attribute_word
