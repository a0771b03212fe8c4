use Rattle.std.proofs.Common.{rules, ◌≡◌, true, false, sym, ◌∙◌}
use Rattle.std.specs.Prelude.{codes}
use Rattle.std.specs.Str.{bytes_eq}
use Rattle.sercos_multi.proofs.WordLemmas.{pair_first, pair_second, pair_other}
use Rattle.sercos_multi.proofs.words.pair_form.Goals as goal

pub returns-then-eq : goal.returns-then-eq
returns-then-eq c = let test : bytes_eq c.args.first.now (codes "--") ≡ true = search rules in c.one_form.ensures ∙ sym (pair_first c.args.first.now c.args.second.now test)

pub returns-then-eq-2 : goal.returns-then-eq-2
returns-then-eq-2 c =
    let test : bytes_eq c.args.first.now (codes "--") ≡ false = search rules in
    let next : bytes_eq c.args.second.now (codes "--") ≡ true = search rules in
    c.one_form-then-eq-2.ensures ∙ sym (pair_second c.args.first.now c.args.second.now test next)

pub returns : goal.returns
returns c =
    let test : bytes_eq c.args.first.now (codes "--") ≡ false = search rules in
    let next : bytes_eq c.args.second.now (codes "--") ≡ false = search rules in
    sym (pair_other c.args.first.now c.args.second.now test next)
