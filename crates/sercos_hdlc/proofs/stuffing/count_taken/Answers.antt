use Rattle.std.proofs.Common.{ℕ, ◌+◌, ◌*◌, ◌/◌, arith, length, sym, ◌∙◌}
use Rattle.sercos_hdlc.proofs.FramingLemmas.{counted_more, counted_all, stuffed_next_byte, stuffed_no_byte, ones_next_byte, ones_no_byte}
use Rattle.sercos_bits.proofs.Division.{fed_bytes_step, fed_bytes_end}
use Rattle.sercos_hdlc.proofs.stuffing.count_taken.Goals as goal

pub returns-then-bytes-eq0-clause-len : goal.returns-then-bytes-eq0-clause-len
returns-then-bytes-eq0-clause-len c =
    counted_all _ _ (stuffed_no_byte c.count_pairs-ones.result c.args.bytes.now (2 * (length c.args.bytes.now / 2)) (omega arith)) c.count_pairs-ones.ensures.len

pub returns-then-bytes-eq0-clause-ones : goal.returns-then-bytes-eq0-clause-ones
returns-then-bytes-eq0-clause-ones c =
    sym (ones_no_byte c.count_pairs-ones.result c.args.bytes.now (2 * (length c.args.bytes.now / 2)) (omega arith)) ∙ c.count_pairs-ones.ensures.ones

pub returns-then-bytes-eq0-clause-register : goal.returns-then-bytes-eq0-clause-register
returns-then-bytes-eq0-clause-register c =
    sym (fed_bytes_end _ c.args.bytes.now (2 * (length c.args.bytes.now / 2)) (omega arith)) ∙ c.count_pairs-ones.ensures.register

pub returns-clause-len : goal.returns-clause-len
returns-clause-len c =
    let last : ℕ = 2 * (length c.args.bytes.now / 2) in
    let more = counted_more _ _ _ _ _ c.count_byte.ensures.len (stuffed_next_byte c.count_pairs-ones.result c.args.bytes.now last (omega arith)) c.count_pairs-ones.ensures.len in
    counted_all _ _ (stuffed_no_byte _ c.args.bytes.now (last + 1) (omega arith)) more

pub returns-clause-ones : goal.returns-clause-ones
returns-clause-ones c =
    let last : ℕ = 2 * (length c.args.bytes.now / 2) in
    c.count_byte.ensures.ones ∙ sym (ones_no_byte _ c.args.bytes.now (last + 1) (omega arith)) ∙ sym (ones_next_byte c.count_pairs-ones.result c.args.bytes.now last (omega arith)) ∙ c.count_pairs-ones.ensures.ones

pub returns-clause-register : goal.returns-clause-register
returns-clause-register c =
    let last : ℕ = 2 * (length c.args.bytes.now / 2) in
    c.take.ensures ∙ sym (fed_bytes_end _ c.args.bytes.now (last + 1) (omega arith)) ∙ sym (fed_bytes_step _ c.args.bytes.now last (omega arith)) ∙ c.count_pairs-ones.ensures.register
