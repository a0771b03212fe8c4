use Rattle.std.proofs.Common.{[], sym}
use Rattle.sercos_show.proofs.HexLines.{length-hex_fault, hex_bits-all}
use Rattle.sercos_show.proofs.SetHex.{none_set}
use Rattle.sercos_show.proofs.line.read_hex.Goals as goal

pub returns-then-set_hex-clause-bits : goal.returns-then-set_hex-clause-bits
returns-then-set_hex-clause-bits c = λ h.
    let some = c.set_hex.ensures.some c.if-set_hex.true in
    let none = c.set_hex.ensures.good c.if-set_hex.true in
    let all = hex_bits-all c.args.count c.args.text.now (length-hex_fault c.args.count c.args.text.now some none) in
    let bytes = c.set_hex.ensures.bytes c.if-set_hex.true in
    rw (← all, ← bytes, ← c.byte_len.ensures.value) (c.feed_first.ensures.fed [] h)

pub returns-in-None-clause-bits : goal.returns-in-None-clause-bits
returns-in-None-clause-bits c = λ h.
    none_set c.args.count c.args.text.now c.set_hex.result _ (sym c.in-None.ensures.value) c.set_hex.ensures.none c.if-set_hex.false h
