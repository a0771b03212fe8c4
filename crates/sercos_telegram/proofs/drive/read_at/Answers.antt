use Rattle.std.proofs.Common.{◌≡◌, ◌+◌, ap, sym, ◌∙◌, get_or, drop}
use Rattle.std.proofs.lemmas.List.{take_rest}
use Rattle.sercos_telegram.specs.Spells.{fields}
use Rattle.sercos_telegram.specs.Words.{status_word, status_of}
use Rattle.sercos_telegram.proofs.Spellings.{no_fault, word_at-first, word_at-second, fields-same}
use Rattle.sercos_telegram.proofs.drive.read_at.Goals as goal

pub returns-in_err-test_head-clause-only : goal.returns-in_err-test_head-clause-only
returns-in_err-test_head-clause-only c = λ status info values w f spells.
    absurd (no_fault _ _ _ _ c.in_err-test_head.ensures.fault (spells.long ∙ ap (λ n. 1 + n) (sym c.from.ensures)) (ap (λ xs. get_or xs 0 0) spells.whole))

pub returns-clause-only : goal.returns-clause-only
returns-clause-only c = λ status info values w f spells.
    let got = rw take_rest at c.read_fields-fields.ensures.spells in
    let wanted : drop 1 c.args.content.now ≡ fields (status_word status) info values = ap (drop 1) spells.whole in
    let same = fields-same _ _ _ _ _ _ w f c.read_fields-fields.ensures.words.0 c.read_fields-fields.ensures.words.1 (sym wanted ∙ got) in
    (c.read.ensures.only status same.words, sym same.infos, sym same.rests)

pub returns-clause-status : goal.returns-clause-status
returns-clause-status c =
    let word = rw take_rest at c.read_fields-fields.ensures.word in
    c.read.ensures.value ∙ ap status_of (word ∙ word_at-first _)

pub returns-clause-info : goal.returns-clause-info
returns-clause-info c =
    let info = rw take_rest at c.read_fields-fields.ensures.info in
    info ∙ word_at-second _
