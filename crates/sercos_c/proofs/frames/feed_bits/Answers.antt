use Rattle.std.proofs.Common.{Bool, List, subst, arith}
use Rattle.sercos_hdlc.specs.Fed.{IsFed}
use Rattle.sercos_c.proofs.FrameLemmas.{fed_rest, fed_whole}
use Rattle.sercos_c.proofs.frames.feed_bits.Goals as goal

pub returns-then-rest-gt0-clause-fed : goal.returns-then-rest-gt0-clause-fed
returns-then-rest-gt0-clause-fed c = λ before fed.
    subst (λ (bits : List Bool). IsFed bits c.feed_low.new.self) (fed_rest c.args.bits.now before c.args.count (omega arith) (omega arith))
    (c.feed_low.ensures.fed _ (c.feed_bytes.ensures.fed before fed))

pub returns-else-rest-gt0-clause-fed : goal.returns-else-rest-gt0-clause-fed
returns-else-rest-gt0-clause-fed c = λ before fed.
    subst (λ (bits : List Bool). IsFed bits c.feed_bytes.new.self) (fed_whole c.args.bits.now before c.args.count (omega arith) (omega arith))
    (c.feed_bytes.ensures.fed before fed)
