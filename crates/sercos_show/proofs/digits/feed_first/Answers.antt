use Rattle.std.proofs.Common.{◌≡◌, ◌+◌, ◌*◌, ◌/◌, ◌%◌, ◌++◌, take, subst, arith}
use Rattle.sercos_model.specs.Bits.{bits_of}
use Rattle.sercos_hdlc.specs.Fed.{IsFed}
use Rattle.sercos_show.proofs.DigitLemmas.{bits_of-first, first_fed}
use Rattle.sercos_show.proofs.digits.feed_first.Goals as goal

pub returns-then-rest-gt0-clause-fed : goal.returns-then-rest-gt0-clause-fed
returns-then-rest-gt0-clause-fed c = λ bits h.
    let all : 8 * (c.args.count / 8) + c.args.count % 8 ≡ c.args.count = omega arith in
    subst (λ n. IsFed (bits ++ take n (bits_of c.args.bytes.now)) c.feed_low.new.self) all
    (rw (first_fed c.args.bytes.now bits (c.args.count / 8) (c.args.count % 8) (omega arith) (omega arith)) (c.feed_low.ensures.fed _ (c.feed_bytes.ensures.fed bits h)))

pub returns-else-rest-gt0-clause-fed : goal.returns-else-rest-gt0-clause-fed
returns-else-rest-gt0-clause-fed c = λ bits h.
    let all : 8 * (c.args.count / 8) ≡ c.args.count = omega arith in
    subst (λ n. IsFed (bits ++ take n (bits_of c.args.bytes.now)) c.feed_bytes.new.self) all
    (rw (← bits_of-first c.args.bytes.now (c.args.count / 8) (omega arith)) (c.feed_bytes.ensures.fed bits h))
