use Rattle.std.proofs.Common.{◌≡◌, ◌<◌, ◌⊎◌, inl, inr, refl, arith}
use Rattle.std.proofs.lemmas.Bool.Decides.{nat_tests}
use Rattle.sercos_multi.proofs.PartLemmas.{is_idle, passes_idle, passes_here}
use Rattle.sercos_multi.proofs.part.pass.Goals as goal
use Rattle.sercos_multi.proofs.part.pass.Goals.{then-part-eq0-via-then-part-eq0, then-part-eq0-via-else-part-eq0+then-part-moment}

pub returns-then-part-eq0 : goal.returns-then-part-eq0
returns-then-part-eq0 g c = λ v is from.
    let why : (c.args.part.now.left ≡ 0) ⊎ (c.args.part.now.at ≡ c.args.moment → ⊥) = elim c.then-part-eq0.branch [
      | then-part-eq0-via-then-part-eq0 w ↦ inl (grind (arith, nat_tests))
      | then-part-eq0-via-else-part-eq0+then-part-moment w ↦ inr (λ same. grind (arith, nat_tests))
    ] in
    passes_idle _ _ _ _ _ _ v is (is_idle _ _ _ _ _ v is from why)

pub returns : goal.returns
returns g c = λ v is from.
    let some : 0 < c.args.part.now.left = grind (arith, nat_tests) in
    let here : c.args.part.now.at ≡ c.args.moment = grind (arith, nat_tests) in
    passes_here _ _ _ _ c.args.part.now _ _ _ c.go_on.result v is some here refl (c.go_on.ensures v is)
