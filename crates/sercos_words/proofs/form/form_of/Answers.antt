use Rattle.std.proofs.Common.{◌∙◌, ap, arith}
use Rattle.std.proofs.lemmas.Result.{IfOk-weaker}
use Rattle.sercos_words.specs.Form.{form_of}
use Rattle.sercos_words.proofs.FormLemmas.{words_one, words_two, words_three, form_of-other}
use Rattle.sercos_words.proofs.form.form_of.Goals as goal

pub returns-in-1-clause-value : goal.returns-in-1-clause-value
returns-in-1-clause-value c =
    IfOk-weaker c.read_form.result _ _ (λ form is. is ∙ ap form_of (words_one _ _ (omega arith) c.get.ensures)) c.read_form.ensures.value

pub returns-in-2-clause-value : goal.returns-in-2-clause-value
returns-in-2-clause-value c =
    IfOk-weaker c.read_form-in-2.result _ _ (λ form is. is ∙ ap form_of (words_two _ _ _ (omega arith) c.get-in-2.ensures c.get-in-2-2.ensures))
    c.read_form-in-2.ensures.value

pub returns-in-3-clause-value : goal.returns-in-3-clause-value
returns-in-3-clause-value c =
    IfOk-weaker c.read_form-in-3.result _ _
    (λ form is. is ∙ ap form_of (words_three _ _ _ _ (omega arith) c.get-in-3.ensures c.get-in-3-2.ensures c.get-in-3-3.ensures)) c.read_form-in-3.ensures.value

pub returns-in_default-clause-value : goal.returns-in_default-clause-value
returns-in_default-clause-value c = form_of-other _ (omega arith) (omega arith) (omega arith)
