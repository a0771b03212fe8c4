use Rattle.std.proofs.Common.{◌∙◌, ap, sym, arith}
use Rattle.std.specs.Result.{result_err}
use Rattle.sercos_words.proofs.FormLemmas.{number_read, none_named_at_fault, none_named_before_rest, none_named_before_first}
use Rattle.sercos_words.proofs.form.number_named.Goals as goal

pub returns-in-Ok-clause-value : goal.returns-in-Ok-clause-value
returns-in-Ok-clause-value c = rw (← c.as_bytes.ensures.value) (number_read _ _ _ _ _ (omega arith) c.in-Ok.ensures.fault c.in-Ok.ensures.len c.in-Ok.ensures.value (omega (arith, c.as_bytes.ensures.len)) (omega arith))

pub returns-in_default-clause-value : goal.returns-in_default-clause-value
returns-in_default-clause-value c = rw (← c.as_bytes.ensures.value) (none_named_before_first _ _ _ _ (omega arith) c.in-Ok.ensures.value (λ some. omega arith))

pub returns-in_default-2-clause-value : goal.returns-in_default-2-clause-value
returns-in_default-2-clause-value c = rw (← c.as_bytes.ensures.value) (none_named_before_rest _ _ _ _ (omega arith) c.in-Ok.ensures.len (λ whole. omega (arith, c.as_bytes.ensures.len)))

pub returns-in_default-3-clause-value : goal.returns-in_default-3-clause-value
returns-in_default-3-clause-value c = rw (← c.as_bytes.ensures.value) (none_named_at_fault _ _ _ _ (omega arith) (ap result_err (sym c.in_default.is) ∙ c.read_number.ensures.fault))
