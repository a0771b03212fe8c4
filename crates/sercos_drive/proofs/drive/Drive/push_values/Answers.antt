use Rattle.std.proofs.Common.{◌≡◌, ℕ, List, ◌++◌, ◌∙◌, ap, subst}
use Rattle.sercos_drive.specs.Says.{values_in}
use Rattle.sercos_drive.specs.Kept.{DriveState, IsSlot}
use Rattle.sercos_drive.proofs.FeedbackLemmas.{values_kept}
use Rattle.sercos_drive.proofs.drive.Drive.push_values.Goals as goal

pub returns-then-self-ge3-clause-value : goal.returns-then-self-ge3-clause-value
returns-then-self-ge3-clause-value c =
    subst (λ (v : DriveState). IsSlot v.slot v.blocks → c.push_feedback.new.out ≡ c.args.out.now ++ values_in v.cycle v.phase v.blocks) c.self.view_is
    (λ is. c.push_feedback.ensures.value ∙ ap (λ (bytes : List ℕ). c.args.out.now ++ bytes)
    (rw c.as_slice.ensures.value (values_kept c.self.inside.slot c.self.inside.cycle c.self.inside.phase c.self.inside.store c.if-self-ge3.true is)))
