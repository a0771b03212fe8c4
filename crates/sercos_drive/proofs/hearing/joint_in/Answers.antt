use Rattle.std.proofs.Common.{ap, ◌∙◌}
use Rattle.sercos_drive.specs.Heard.{joint_in, record_in}
use Rattle.sercos_drive.specs.declared.slot.Slot.{Slot}
use Rattle.sercos_drive.proofs.hearing.joint_in.Goals as goal

pub returns : goal.returns
unfolding joint_in
returns c = λ blocks is. c.record_in.ensures ∙ ap (λ (s : Slot). record_in s.mdt_len s.position s.record_len c.args.content.now) is
