use Rattle.std.proofs.Common.{◌≡◌, None, Ok, sym, ◌∙◌, ap}
use Rattle.sercos_idn.specs.Codes.{attribute_fault}
use Rattle.sercos_idn.proofs.AttributeLemmas.{attribute_fault-attribute_word, attribute_word-injective}
use Rattle.sercos_idn.proofs.attribute.Attribute.read.Goals as goal

pub returns-in-Some-clause-only : goal.returns-in-Some-clause-only
returns-in-Some-clause-only c = λ attribute fits is.
    let none : attribute_fault c.args.word ≡ None = sym (ap attribute_fault is) ∙ attribute_fault-attribute_word attribute fits in
    cc

pub returns-in-None-clause-only : goal.returns-in-None-clause-only
returns-in-None-clause-only c = λ attribute fits is.
    ap (λ a. Ok a) (attribute_word-injective c.of_word.result attribute c.of_word.ensures.factor fits (c.of_word.ensures.word ∙ sym is))
