use Rattle.std.proofs.Common.{◌≡◌, ◌==◌, false, if◌then◌else◌, [], ap, arith}
use Rattle.std.proofs.lemmas.Bool.Decides.{nat_tests}
use Rattle.sercos_trace.specs.Texts.{end_text}
use Rattle.sercos_trace.proofs.MarkedLemmas.{taken_nothing}
use Rattle.sercos_multi.proofs.part.write_last.Goals as goal

pub returns : goal.returns
returns g c =
    let other : (c.args.left == 0) ≡ false = grind (arith, nat_tests) in
    taken_nothing _ _ (ap (λ b. if b then end_text c.args.totals.now else []) other)
