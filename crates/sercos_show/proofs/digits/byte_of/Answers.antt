use Rattle.std.proofs.Common.{◌∙◌}
use Rattle.sercos_show.proofs.DigitLemmas.{below_by, byte_is}
use Rattle.sercos_show.proofs.digits.byte_of.Goals as goal

pub returns : goal.returns
returns c =
    let high = c.value_or.ensures.digit (below_by c.value_or.result (c.value_or.ensures.test ∙ c.requires.high)) in
    let low = c.value_or-2.ensures.digit (below_by c.value_or-2.result (c.value_or-2.ensures.test ∙ c.requires.low)) in
    byte_is c.args.high c.args.low _ _ high low
