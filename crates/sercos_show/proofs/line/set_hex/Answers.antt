use Rattle.std.proofs.Common.{◌≡◌, ◌-◌, not, get_or, length-take-le, ap, sym, ◌∙◌, arith}
use Rattle.std.proofs.lemmas.List.{take_at}
use Rattle.std.proofs.lemmas.Bool.{not-true}
use Rattle.sercos_text.specs.Fields.{pairs_of}
use Rattle.sercos_show.specs.Line.{wanted_digits, has_spare}
use Rattle.sercos_show.proofs.HexLines.{bytes_before, length-hex_fault}
use Rattle.sercos_show.proofs.SetHex.{hex_fault-set, IsWhole-hex_fault, last_of}
use Rattle.sercos_show.proofs.line.set_hex.Goals as goal

pub returns-then-text-wanted_digits-clause-none : goal.returns-then-text-wanted_digits-clause-none
unfolding wanted_digits
returns-then-text-wanted_digits-clause-none c = λ some none. absurd (omega (arith, length-hex_fault c.args.count c.args.text.now some none, c.if-text-wanted_digits.true, c.wanted_digits.ensures.value))

pub set_pairs-requires : goal.set_pairs-requires
unfolding wanted_digits
set_pairs-requires c = omega (arith, c.if-text-wanted_digits.false, c.wanted_digits.ensures.value, c.byte_len-len.ensures.value, c.byte_len-len.ensures.most, c.told-room, length-take-le c.byte_len-len.result c.args.room.now)

-- what `has_spare` was asked
asked : (c : goal.After-has_spare) → has_spare c.args.count (get_or (pairs_of c.args.text.now) (bytes_before c.args.count) 0) ≡ c.has_spare.result
asked c =
    let place : c.byte_len-len.result - 1 ≡ bytes_before c.args.count = omega (arith, c.byte_len-len.ensures.value) in
    let byte = last_of c.args.room.now c.set_pairs.new.bytes _ (pairs_of c.args.text.now) c.byte_len-len.result (c.byte_len-len.result - 1) c.set_pairs.auto.bytes (omega (arith, c.told-room, c.byte_len-len.ensures.most)) (c.set_pairs.ensures.bytes c.if-set_pairs.true) (omega (arith, c.byte_len-len.ensures.value, c.if-count-eq0.false)) in
    ap (λ n. has_spare c.args.count (get_or (pairs_of c.args.text.now) n 0)) (sym place) ∙ ap (has_spare c.args.count) (sym byte) ∙ sym c.has_spare.ensures

pub returns-then-set_pairs-clause-good : goal.returns-then-set_pairs-clause-good
returns-then-set_pairs-clause-good c = λ test.
    hex_fault-set c.args.count c.args.text.now (omega (arith, c.if-count-eq0.false)) (omega (arith, c.if-text-wanted_digits.false, c.wanted_digits.ensures.value)) (c.set_pairs.ensures.pairs c.if-set_pairs.true) (asked c ∙ not-true c.has_spare.result test)

pub returns-then-set_pairs-clause-bytes : goal.returns-then-set_pairs-clause-bytes
returns-then-set_pairs-clause-bytes c = λ test.
    rw (← c.byte_len-len.ensures.value) (take_at c.set_pairs.new.bytes _ c.byte_len-len.result (c.set_pairs.auto.bytes ∙ length-take-le c.byte_len-len.result c.args.room.now (omega (arith, c.told-room, c.byte_len-len.ensures.most))) ∙ c.set_pairs.ensures.bytes c.if-set_pairs.true)

pub returns-then-set_pairs-clause-none : goal.returns-then-set_pairs-clause-none
returns-then-set_pairs-clause-none c = λ some none.
    ap not (sym (asked c) ∙ (IsWhole-hex_fault c.args.count c.args.text.now some none).last)

pub returns-else-set_pairs-clause-none : goal.returns-else-set_pairs-clause-none
returns-else-set_pairs-clause-none c = λ some none. c.set_pairs.ensures.all (IsWhole-hex_fault c.args.count c.args.text.now some none).pairs
