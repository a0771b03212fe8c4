use Rattle.std.proofs.Common.{◌≡◌, ◌+◌, ◌-◌, ◌++◌, ap, length, take, arith, ◌∙◌}
use Rattle.std.proofs.lemmas.Slice.{take-put_mid}
use Rattle.sercos_hdlc.proofs.plain_bytes.put_word.Goals as goal

pub returns-clause-written : goal.returns-clause-written
returns-clause-written c =
    let is = c.copy_from_slice.ensures.after ∙ c.to_le_bytes.ensures in
    let eight : length c.copy_from_slice.new.self ≡ 8 = ap length is in
    take-put_mid c.args.place (c.args.place + 8 - c.args.place) c.args.room.now c.copy_from_slice.new.self (c.args.place + 8) (omega arith) (omega (arith, c.requires))
    ∙ ap (λ b. take c.args.place c.args.room.now ++ b) is
