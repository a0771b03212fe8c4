use Rattle.std.proofs.Common.{sym, ◌∙◌, arith}
use Rattle.sercos_idn.proofs.AttributeLemmas.{IsSound-attribute_fault, two_by_code, word_again, attribute_word-attribute_of, attribute_of-factor, attribute_word-injective}
use Rattle.sercos_idn.proofs.attribute.Attribute.of_word.Goals as goal

pub length_of-requires : goal.length_of-requires
length_of-requires c = (IsSound-attribute_fault c.args.word c.requires).length

pub form_of-requires : goal.form_of-requires
form_of-requires c = (IsSound-attribute_fault c.args.word c.requires).form

pub invariant_of-result : goal.invariant_of-result
invariant_of-result c = record {
  decimals_in_range = omega arith;
  command_is_two = λ on. two_by_code c.length_of.result (c.length_of.ensures ∙ (IsSound-attribute_fault c.args.word c.requires).command (sym c.has.ensures ∙ on));
}

pub returns-clause-word : goal.returns-clause-word
returns-clause-word c =
    simp (c.has.ensures, c.has-2.ensures, c.has-3.ensures, c.has-4.ensures) (word_again c.args.word _ _ c.ranges.word.fits (IsSound-attribute_fault c.args.word c.requires) c.length_of.ensures c.form_of.ensures)

pub returns-clause-value : goal.returns-clause-value
returns-clause-value c =
    let sound = IsSound-attribute_fault c.args.word c.requires in
    attribute_word-injective _ _ (omega arith) (attribute_of-factor c.args.word)
    (simp (c.has.ensures, c.has-2.ensures, c.has-3.ensures, c.has-4.ensures) (word_again c.args.word _ _ c.ranges.word.fits sound c.length_of.ensures c.form_of.ensures)
    ∙ sym (attribute_word-attribute_of c.args.word c.ranges.word.fits sound))
