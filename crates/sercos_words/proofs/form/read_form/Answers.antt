use Rattle.std.proofs.Common.{◌∙◌}
use Rattle.sercos_words.proofs.FormLemmas.{form_of-taken, form_of-refused}
use Rattle.sercos_words.proofs.form.read_form.Goals as goal

pub returns-in-Ok-clause-value : goal.returns-in-Ok-clause-value
returns-in-Ok-clause-value c =
    let form = c.matched_form.ensures in
    form_of-taken _ _ c.in-Ok.matches _ _ _ c.in_ok-command_line.ensures c.in-Ok.ensures.kinds c.in-Ok.ensures.matches
    c.get_str.ensures c.get_str-in-Ok.ensures form.none form.word form.number

pub returns : goal.returns
returns c = record {
  value = form_of-refused _ _ c.in-Err.error c.in_ok-command_line.ensures c.in-Err.ensures.kinds (λ memory. c.in_default.not-OutOfMemory (c.kind.ensures ∙ memory));
  range = tt;
}
