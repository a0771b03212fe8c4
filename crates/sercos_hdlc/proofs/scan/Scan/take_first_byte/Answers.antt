use Rattle.std.proofs.Common.{◌≡◌, length, arith, length-append}
use Rattle.sercos_model.specs.Bits.{low_bits}
use Rattle.sercos_model.proofs.BitLemmas.{length-low_bits}
use Rattle.sercos_hdlc.proofs.ScanLemmas.{byte_agrees, first_byte_way}
use Rattle.sercos_hdlc.proofs.scan.Scan.take_first_byte.Goals as goal

pub returns-clause-scan : goal.returns-clause-scan
returns-clause-scan c = λ bits plain h.
    let none : length bits ≡ 0 = omega (arith, h.taken_all) in
    record {
      taken_all = omega (arith, h.taken_all, length-append bits (low_bits 8 c.args.byte), length-low_bits 8 c.args.byte);
      flag_first = byte_agrees bits c.args.byte none (omega arith);
      plain_all = h.plain_all;
      way = first_byte_way bits c.args.byte h.way none;
    }
