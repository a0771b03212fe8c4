use Rattle.sercos_text.proofs.ValueLaws.{fewer_digits}
use Rattle.sercos_text.proofs.template.take_digits.Goals as goal

pub set_pairs-requires-clause-digits : goal.set_pairs-requires-clause-digits
set_pairs-requires-clause-digits c = fewer_digits c.in-Ok.len c.args.text.now c.in-Ok.ensures.digits
