use Rattle.std.proofs.Common.{◌≡◌, arith}
use Rattle.std.proofs.lemmas.List.{append-nil}
use Rattle.sercos_model.specs.Bits.{low_bits}
use Rattle.sercos_hdlc.proofs.deframer.Deframer.feed_low.Goals as goal

pub returns-else-len-gt0-clause-fed : goal.returns-else-len-gt0-clause-fed
unfolding low_bits
returns-else-len-gt0-clause-fed c = λ bits h.
    let none : c.args.len ≡ 0 = omega arith in
    rw (none, append-nil) h
