use Rattle.std.proofs.Common.{arith}
use Rattle.sercos_hdlc.proofs.KeptLemmas.{bits_of-appended, length-appended}
use Rattle.sercos_hdlc.proofs.plain_bytes.PlainBytes.append_lowest.Goals as goal

pub returns-clause-bits : goal.returns-clause-bits
returns-clause-bits c =
    bits_of-appended c.args.self.now c.self.inside.room c.put_word.new.room c.self.inside.len c.args.count c.min-self-inside.result c.args.word c.self.view_is c.put_word.ensures.written (omega (arith, c.self.told, c.self.invariant)) c.requires c.min-self-inside.ensures

pub returns-clause-len : goal.returns-clause-len
returns-clause-len c =
    length-appended c.args.self.now c.self.inside.room c.put_word.new.room c.self.inside.len c.args.count c.min-self-inside.result
    c.self.view_is (omega (arith, c.self.told)) (omega (arith, c.self.invariant)) c.put_word.ensures.len c.min-self-inside.ensures
