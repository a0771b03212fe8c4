use Rattle.std.proofs.Common.{◌≡◌, ℕ, ◌++◌, ◌/◌, take, drop, rules, ap, ◌∙◌}
use Rattle.sercos_model.specs.Bits.{bits_of}
use Rattle.sercos_hdlc.specs.Stuffed.{frame_of}
use Rattle.sercos_c.proofs.FrameLemmas.{frame_there}
use Rattle.sercos_c.proofs.frames.sercos_frame.Goals as goal

pub returns-clause-frame : goal.returns-clause-frame
returns-clause-frame c = λ _.
    let is : c.frame.new.out ≡ frame_of c.args.content.now = search rules in
    ap (λ (n : ℕ). take n (bits_of (c.fill.new.out ++ drop (c.len-count.result / 8) c.args.out.now))) c.len-len.ensures.value
    ∙ frame_there c.fill.new.out (drop (c.len-count.result / 8) c.args.out.now) c.frame.new.out (c.fill.ensures ∙ c.pad.ensures) ∙ is
