use Rattle.std.proofs.Common.{◌≡◌, ◌-◌, ◌++◌, ◌/◌, ap, sym, ◌∙◌, arith}
use Rattle.sercos_model.specs.Bits.{is_odd, low_bits}
use Rattle.sercos_model.proofs.BitLemmas.{low_bits-next, length-low_bits}
use Rattle.sercos_hdlc.specs.Reason.{unstuffed}
use Rattle.sercos_hdlc.proofs.deframer.Deframer.take_low.Goals as goal

pub returns-then-self-gt-FIVE-clause-fed : goal.returns-then-self-gt-FIVE-clause-fed
unfolding is_odd
returns-then-self-gt-FIVE-clause-fed c = λ bits h.
    let all : c.args.len - 0 ≡ c.args.len = omega arith in
    rw (sym (ap (λ n. low_bits n c.args.byte) all) ∙ low_bits-next c.args.len 0 c.args.byte c.requires.some) (c.take_later.ensures.fed bits (low_bits (c.args.len - 1) (c.args.byte / 2)) (omega (arith, c.from.ensures, c.requires.some, length-low_bits (c.args.len - 1) (c.args.byte / 2))) h)

pub returns-clause-fed : goal.returns-clause-fed
returns-clause-fed c = λ bits h.
    let given = c.given_by-given.ensures.given (omega arith) in
    let eight : c.args.len ≡ 8 = omega arith in
    rw eight (record {
      plain = h.plain ++ unstuffed c.args.self.now.scan.ones (low_bits 8 c.args.byte);
      scan = c.take_clear.ensures.scan bits h.plain (low_bits 8 c.args.byte) h.scan (omega arith) (length-low_bits 8 c.args.byte) given.no_six given.behind (given.last_zero c.args.self.now.scan.dropped) given.all;
      kept = rw (c.from-2.ensures, given.plain) at (c.push.ensures h.plain h.kept);
    })
