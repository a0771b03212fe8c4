use Rattle.std.proofs.Common.{◌≡◌, ℕ, ◌+◌, ◌-◌, ◌*◌, ◌/◌, ◌%◌, ◌++◌, arith}
use Rattle.sercos_model.specs.Bits.{low_bits}
use Rattle.sercos_hdlc.proofs.KeptLemmas.{rest_more, bytes_more}
use Rattle.sercos_hdlc.proofs.kept.Kept.push.Goals as goal

pub returns : goal.returns
returns c = λ plain h.
    let len : ℕ = c.args.self.now.rest_len + c.args.count in
    let rest : len % 8 ≡ len - 8 * (len / 8) = omega arith in
    record { all = rw rest (bytes_more (plain ++ low_bits c.args.count c.args.bits) c.args.self.now.bytes c.append_lowest.new.self c.joined-sum.result (c.args.self.now.rest_len + c.args.count) ((c.args.self.now.rest_len + c.args.count) / 8) c.bits_after-self.result (rw c.from.ensures at c.append_lowest.ensures.bits) (omega arith) c.bits_after-self.ensures.bits (rest_more plain (low_bits c.args.count c.args.bits) c.args.self.now.bytes c.args.self.now.rest c.args.self.now.rest_len c.joined-sum.result (c.args.self.now.rest_len + c.args.count) c.joined-sum.ensures.bits h.all)) }
