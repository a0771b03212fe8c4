use Rattle.std.proofs.Common.{rules, ◌≡◌, ◌<◌, true, false, length, refl, sym, ap, ◌∙◌, arith}
use Rattle.std.specs.Str.{bytes_eq}
use Rattle.std.specs.Prelude.{codes}
use Rattle.std.proofs.lemmas.Bool.Decides.{nat_tests}
use Rattle.sercos_replay.proofs.DividedLemmas.{sought-more, sought-found, sought-none}
use Rattle.sercos_replay.proofs.divided.capture_place.Goals as goal

pub returns-then-eq-clause-value : goal.returns-then-eq-clause-value
returns-then-eq-clause-value c =
    let some : 0 < length c.loop-rest.rest.now = grind (arith, nat_tests) in
    let same : bytes_eq c.cut_line.result.0.now (codes "capture") ≡ true = search rules in
    sought-found _ _ _ c.loop-rest.invariant some (ap (λ t. bytes_eq t (codes "capture")) (sym c.cut_line.ensures.line) ∙ same) refl

pub loop-rest-preserved : goal.loop-rest-preserved
loop-rest-preserved c =
    let some : 0 < length c.loop-rest.rest.now = grind (arith, nat_tests) in
    let other : bytes_eq c.cut_line.result.0.now (codes "capture") ≡ false = search rules in
    sought-more _ _ _ c.loop-rest.invariant some c.cut_line.ensures.rest (ap (λ t. bytes_eq t (codes "capture")) (sym c.cut_line.ensures.line) ∙ other)

pub returns-clause-value : goal.returns-clause-value
returns-clause-value c =
    let none : length c.loop-rest.rest.now ≡ 0 = grind (arith, nat_tests) in
    sought-none _ _ c.loop-rest.invariant none
