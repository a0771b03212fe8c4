use Rattle.std.proofs.Common.{arith}
use Rattle.sercos_idn.proofs.IdnLemmas.{IsSpelled-idn_fault, spelled_raw-below}
use Rattle.sercos_idn.proofs.idn.spelled_raw.Goals as goal

pub bounds-text-0 : goal.bounds-text-0
bounds-text-0 c = let is = IsSpelled-idn_fault c.args.text.now c.requires in omega (arith, is.form.all)

pub digit_at-requires : goal.digit_at-requires
digit_at-requires c = let is = IsSpelled-idn_fault c.args.text.now c.requires in omega (arith, is.form.all)

pub overflow_mul-result : goal.overflow_mul-result
overflow_mul-result c = let is = IsSpelled-idn_fault c.args.text.now c.requires in omega (arith, is.form.set_high, c.digit_at.ensures.value)

pub overflow_add-result : goal.overflow_add-result
overflow_add-result c =
    let fits = spelled_raw-below c.args.text.now (IsSpelled-idn_fault c.args.text.now c.requires) in
    omega (arith, fits, c.letter_value.ensures, c.digit_at.ensures.value)

pub spelled_number-requires : goal.spelled_number-requires
spelled_number-requires c = let is = IsSpelled-idn_fault c.args.text.now c.requires in omega (arith, is.form.all)

pub overflow_cast-result : goal.overflow_cast-result
overflow_cast-result c = let is = IsSpelled-idn_fault c.args.text.now c.requires in omega (arith, is.small, c.spelled_number.ensures)

pub overflow_add-result-2 : goal.overflow_add-result-2
overflow_add-result-2 c =
    let fits = spelled_raw-below c.args.text.now (IsSpelled-idn_fault c.args.text.now c.requires) in
    omega (arith, fits, c.letter_value.ensures, c.digit_at.ensures.value, c.spelled_number.ensures)
