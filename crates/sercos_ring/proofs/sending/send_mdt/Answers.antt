use Rattle.std.proofs.Common.{ℕ, ◌+◌, ◌∷◌, Option, Some, sym, subst, length}
use Rattle.sercos_drive.specs.Heard.{Mdt}
use Rattle.sercos_master.specs.Says.{sent_as}
use Rattle.sercos_script.specs.Links.{Carry}
use Rattle.sercos_law_run.specs.Journal.Runs.{content_of, mdt_heard}
use Rattle.sercos_ring.specs.Stations.{AllStand}
use Rattle.sercos_ring.proofs.SendLemmas.{no_unseen}
use Rattle.sercos_ring.proofs.sending.send_mdt.Goals as goal

pub returns-in-None-clause-unseen : goal.returns-in-None-clause-unseen
returns-in-None-clause-unseen g c = rw c.in-None.is (no_unseen (length c.args.drives.now.items) (g.L.BitLink.carry c.args.link.now) c.args.cycle)

pub returns-in-None-clause-stand : goal.returns-in-None-clause-stand
returns-in-None-clause-stand g c = λ d speed h all.
    subst (λ (start : Option ℕ). AllStand c.hear_no_mdts.new.drives.items d speed (λ k. Mdt (mdt_heard (g.L.BitLink.carry c.args.link.now) c.args.cycle (k + 1) (content_of (sent_as start c.args.buffers.now.said))) ∷ h k))
    (sym c.in-None.is) (c.hear_no_mdts.ensures.stand d speed h all)

pub returns-in-Some-clause-stand : goal.returns-in-Some-clause-stand
returns-in-Some-clause-stand g c = λ d speed h all.
    subst (λ (start : Option ℕ). AllStand c.hear_mdts.new.drives.items d speed (λ k. Mdt (mdt_heard (g.L.BitLink.carry c.args.link.now) c.args.cycle (k + 1) (content_of (sent_as start c.args.buffers.now.said))) ∷ h k))
    (sym c.in-Some.is)
    (subst (λ (f : Carry). AllStand c.hear_mdts.new.drives.items d speed (λ k. Mdt (mdt_heard f c.args.cycle (k + 1) (Some c.args.buffers.now.said)) ∷ h k)) c.frame_said.ensures.carry
    (c.hear_mdts.ensures.stand d speed h all))
