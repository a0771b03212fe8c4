use Rattle.sercos_master.proofs.Words.{◌≤◌, ℕ, sym, subst, after_mdt, begun, settled, mdt_said, AreWaiting}
use Rattle.sercos_master.proofs.Planned.{sent_planned}
use Rattle.sercos_master.proofs.Sent.{fits_planned, said_both}
use Rattle.sercos_master.proofs.Laws.{waiting_settled}
use Rattle.sercos_master.proofs.Configured.{leaves}
use Rattle.sercos_master.proofs.ring.Ring.mdt.Goals as goal

pub returns-clause-stands : goal.returns-clause-stands
returns-clause-stands c = λ s p known waiting low stands.
    let again : (k : ℕ) → AreWaiting ((settled s p).waiting k) = subst (λ w. (k : ℕ) → AreWaiting (w k)) (sym (waiting_settled s p)) waiting in
    let low_2 : (settled s p).now.phase ≤ 4 = rw (leaves s p).phase low in
    c.send.ensures.stands s (begun s (settled s p)) low_2 (c.begin.ensures s (settled s p) again low_2 (c.settle.ensures s p known stands))

pub returns-clause-said : goal.returns-clause-said
returns-clause-said c = λ s p known waiting low planned stands.
    let again : (k : ℕ) → AreWaiting ((settled s p).waiting k) = subst (λ w. (k : ℕ) → AreWaiting (w k)) (sym (waiting_settled s p)) waiting in
    let low_2 : (settled s p).now.phase ≤ 4 = rw (leaves s p).phase low in
    let ready = c.begin.ensures s (settled s p) again low_2 (c.settle.ensures s p known stands) in
    said_both c.send.result c.send.new.out (mdt_said s (after_mdt s p)) (c.send.ensures.start s (begun s (settled s p)) low_2 ready)
    (c.send.ensures.content s (begun s (settled s p)) low_2 (fits_planned s (begun s (settled s p)) (sent_planned s p planned)) ready)
