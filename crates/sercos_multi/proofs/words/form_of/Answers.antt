use Rattle.std.proofs.Common.{◌≡◌, length, sym, ap, ◌∙◌, arith}
use Rattle.std.proofs.lemmas.Bool.Decides.{nat_tests}
use Rattle.sercos_multi.specs.Words.{form_of}
use Rattle.sercos_multi.proofs.WordLemmas.{one_word, two_words, other_words}
use Rattle.sercos_multi.proofs.words.form_of.Goals as goal

pub returns-then-len-eq1 : goal.returns-then-len-eq1
returns-then-len-eq1 c =
    let one : length c.args.words.now ≡ 1 = grind (arith, nat_tests) in
    c.word_form.ensures ∙ sym (ap form_of (one_word c.args.words.now c.get.result.now one c.get.ensures))

pub returns-then-len-eq2 : goal.returns-then-len-eq2
returns-then-len-eq2 c =
    let two : length c.args.words.now ≡ 2 = grind (arith, nat_tests) in
    c.pair_form.ensures ∙ sym (ap form_of (two_words c.args.words.now c.get-then-len-eq2.result.now c.get-then-len-eq2-2.result.now two c.get-then-len-eq2.ensures c.get-then-len-eq2-2.ensures))

pub returns : goal.returns
returns c =
    sym (other_words c.args.words.now (λ one. grind (arith, nat_tests)) (λ two. grind (arith, nat_tests)))
