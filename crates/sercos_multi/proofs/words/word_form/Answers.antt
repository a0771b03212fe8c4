use Rattle.std.proofs.Common.{rules, ◌≡◌, true, false, sym, ◌∙◌}
use Rattle.std.specs.Prelude.{codes}
use Rattle.std.specs.Str.{bytes_eq}
use Rattle.sercos_multi.proofs.WordLemmas.{word_dashes, word_other}
use Rattle.sercos_multi.proofs.words.word_form.Goals as goal

pub returns-then-eq : goal.returns-then-eq
returns-then-eq c = let test : bytes_eq c.args.word.now (codes "--") ≡ true = search rules in sym (word_dashes c.args.word.now test)

pub returns : goal.returns
returns c = let test : bytes_eq c.args.word.now (codes "--") ≡ false = search rules in c.one_form.ensures ∙ sym (word_other c.args.word.now test)
