use Rattle.std.proofs.Common.{◌≤◌, take-take, length-take-le, arith}
use Rattle.sercos_model.specs.Bits.{is_odd}
use Rattle.sercos_hdlc.proofs.EndLemmas.{one_byte, first_bit, others_of, length-others_of}
use Rattle.sercos_hdlc.proofs.deframer.Deframer.take_some.Goals as goal

pub returns-then-self-lt-OPENING-clause-fed : goal.returns-then-self-lt-OPENING-clause-fed
returns-then-self-lt-OPENING-clause-fed c = λ bits h. rw (one_byte c.args.bytes.now c.requires.some) (c.take_low.ensures.fed bits h)

pub returns-then-self-gt-FIVE-clause-fed : goal.returns-then-self-gt-FIVE-clause-fed
unfolding is_odd
returns-then-self-gt-FIVE-clause-fed c = λ bits h.
    rw (first_bit c.args.bytes.now c.requires.some) (c.take_later.ensures.fed bits (others_of c.args.bytes.now) (omega (arith, length-others_of c.args.bytes.now c.requires.some)) h)

pub returns-clause-fed : goal.returns-clause-fed
returns-clause-fed c = λ bits h.
    let few : c.take_group-2.result ≤ 7 = omega (arith, c.take_group-2.ensures.within, length-take-le 7 c.args.bytes.now) in
    rw (take-take c.take_group-2.result 7 c.args.bytes.now few) at (c.take_group-2.ensures.fed bits h)
