use Rattle.sercos_master.proofs.Words.{◌∙◌, ap, is_done_in}
use Rattle.sercos_master.proofs.master.Master.is_done.Goals as goal

pub returns : goal.returns
returns g c = λ n s p stands.
    c.is_done.ensures s p (rw c.deref.ensures (rw c.self.view_is stands.stands)) ∙ ap (λ k. is_done_in k s p) stands.phase_is
