use Rattle.std.proofs.Common.{◌≡◌, ◌+◌, ◌-◌, ap, sym, refl, ◌∙◌, arith}
use Rattle.sercos_telegram.specs.Words.{control_of}
use Rattle.sercos_telegram.specs.Spells.{fields}
use Rattle.sercos_telegram.proofs.Spellings.{no_fault, fields-same, word_at-part, part-part, record-size}
use Rattle.sercos_telegram.proofs.master.read_joint.Goals as goal

pub returns-in_err-test_head-clause-only : goal.returns-in_err-test_head-clause-only
returns-in_err-test_head-clause-only c = λ control info values w f spells.
    absurd (no_fault _ _ _ _ c.in_err-test_head.ensures.fault (spells.long ∙ ap (λ n. 1 + n) (sym c.from.ensures)) spells.address)

pub returns-clause-spells : goal.returns-clause-spells
returns-clause-spells c =
    let end : c.from-begin.result + c.from-2.result - c.from-begin.result ≡ c.args.len = omega arith in
    let got = rw (end, c.from-begin.ensures) at c.read_fields-fields.ensures.spells in
    record {
      long = c.in_ok-test_head.ensures.length ∙ ap (λ n. 1 + n) c.from.ensures;
      address = c.in_ok-test_head.ensures.address;
      behind_address = c.requires.behind_address;
      size = record-size c.args.position c.args.len _ _ _ c.args.content.now (omega (arith, c.in_ok-test_head.ensures.length)) got;
      there = got ∙ ap (λ w. fields w c.read_fields-fields.result.info c.read_fields-fields.result.values.now) (sym c.read.ensures.word);
    }

pub returns-clause-only : goal.returns-clause-only
returns-clause-only c = λ control info values w f spells.
    let end : c.from-begin.result + c.from-2.result - c.from-begin.result ≡ c.args.len = omega arith in
    let got = rw (end, c.from-begin.ensures) at c.read_fields-fields.ensures.spells in
    let same = fields-same _ _ _ _ _ _ w f c.read_fields-fields.ensures.words.0 c.read_fields-fields.ensures.words.1 (sym spells.there ∙ got) in
    (c.read.ensures.only control same.words, sym same.infos, sym same.rests)

pub returns-clause-control : goal.returns-clause-control
returns-clause-control c =
    let end : c.from-begin.result + c.from-2.result - c.from-begin.result ≡ c.args.len = omega arith in
    let word = rw (end, c.from-begin.ensures) at c.read_fields-fields.ensures.word in
    c.read.ensures.value ∙ ap control_of (word ∙ word_at-part c.args.content.now c.args.position c.args.len 0 c.args.position (omega arith) (omega arith))

pub returns-clause-info : goal.returns-clause-info
returns-clause-info c =
    let end : c.from-begin.result + c.from-2.result - c.from-begin.result ≡ c.args.len = omega arith in
    let info = rw (end, c.from-begin.ensures) at c.read_fields-fields.ensures.info in
    info ∙ word_at-part c.args.content.now c.args.position c.args.len 2 (c.args.position + 2) (omega arith) refl

pub returns-clause-values : goal.returns-clause-values
returns-clause-values c =
    let end : c.from-begin.result + c.from-2.result - c.from-begin.result ≡ c.args.len = omega arith in
    let values = rw (end, c.from-begin.ensures) at c.read_fields-fields.ensures.values in
    values ∙ part-part c.args.content.now c.args.position c.args.len 4 c.requires.words
