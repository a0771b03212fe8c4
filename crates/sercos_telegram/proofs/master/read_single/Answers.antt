use Rattle.std.proofs.Common.{◌≡◌, [], ap, sym, ◌∙◌, get_or, length, drop}
use Rattle.std.proofs.lemmas.List.{take_rest}
use Rattle.sercos_telegram.specs.Spells.{fields, word_bytes}
use Rattle.sercos_telegram.specs.Words.{control_word, control_of}
use Rattle.sercos_telegram.proofs.Spellings.{no_fault, word_at-first, word_at-second, fields-same, single-whole}
use Rattle.sercos_telegram.proofs.master.read_single.Goals as goal

pub returns-in_err-test_head-clause-only : goal.returns-in_err-test_head-clause-only
unfolding fields word_bytes
returns-in_err-test_head-clause-only c = λ control info w f spells.
    absurd (no_fault _ _ _ _ c.in_err-test_head.ensures.fault (ap length spells) (ap (λ xs. get_or xs 0 0) spells))

pub returns-clause-spells : goal.returns-clause-spells
returns-clause-spells c =
    let got = rw take_rest at c.read_fields-fields.ensures.spells in
    single-whole _ _ _ _ _ c.in_ok-test_head.ensures.length c.in_ok-test_head.ensures.address (got ∙ ap (λ w. fields w c.read_fields-fields.result.info c.read_fields-fields.result.values.now) (sym c.read.ensures.word))

pub returns-clause-only : goal.returns-clause-only
returns-clause-only c = λ control info w f spells.
    let got = rw take_rest at c.read_fields-fields.ensures.spells in
    let wanted : drop 1 c.args.content.now ≡ fields (control_word control) info [] = ap (drop 1) spells in
    let same = fields-same _ _ _ _ _ _ w f c.read_fields-fields.ensures.words.0 c.read_fields-fields.ensures.words.1 (sym wanted ∙ got) in
    (c.read.ensures.only control same.words, sym same.infos)

pub returns-clause-control : goal.returns-clause-control
returns-clause-control c =
    let word = rw take_rest at c.read_fields-fields.ensures.word in
    c.read.ensures.value ∙ ap control_of (word ∙ word_at-first _)

pub returns-clause-info : goal.returns-clause-info
returns-clause-info c =
    let info = rw take_rest at c.read_fields-fields.ensures.info in
    info ∙ word_at-second _
