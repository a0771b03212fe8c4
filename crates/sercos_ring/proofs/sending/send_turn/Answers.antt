use Rattle.std.proofs.Common.{◌≡◌, ℕ, ◌+◌, [], ◌∷◌, sym, ap, ◌∙◌, slice_index_or, subst}
use Rattle.std.specs.Prelude.{take, slice_index}
use Rattle.sercos_drive.specs.Kept.{DriveState, DriveStandsFor}
use Rattle.sercos_drive.specs.Says.{Said}
use Rattle.sercos_law_run.specs.Journal.Runs.{station_of}
use Rattle.sercos_ring.specs.Sendings.{AreSent}
use Rattle.sercos_ring.proofs.SendLemmas.{said_at, never_said}
use Rattle.sercos_ring.proofs.sending.send_turn.Goals as goal

pub returns-in-None-clause-sent : goal.returns-in-None-clause-sent
returns-in-None-clause-sent g c = λ d speed h s r all inside says station.
    let at : c.index-drives-place.result ≡ slice_index_or c.args.drives.now c.args.turn.place c.index-drives-place.result =
    c.index-drives-place.is ∙ ap (λ (n : ℕ). slice_index_or c.args.drives.now n c.index-drives-place.result) c.from-place.ensures in
    let stood : DriveStandsFor c.index-drives-place.result (d c.args.turn.place) speed (h c.args.turn.place) =
    subst (λ (v : DriveState). DriveStandsFor v (d c.args.turn.place) speed (h c.args.turn.place)) (sym at) (all c.args.turn.place c.index-drives-place.result inside) in
    absurd (never_said _ s (c.in-None.ensures.said (d c.args.turn.place) speed (h c.args.turn.place) stood) says)

pub returns-in-Some-clause-sent : goal.returns-in-Some-clause-sent
returns-in-Some-clause-sent g c = λ d speed h s r all inside says station.
    let at : c.index-drives-place.result ≡ slice_index_or c.args.drives.now c.args.turn.place c.index-drives-place.result =
    c.index-drives-place.is ∙ ap (λ (n : ℕ). slice_index_or c.args.drives.now n c.index-drives-place.result) c.from-place.ensures in
    let stood : DriveStandsFor c.index-drives-place.result (d c.args.turn.place) speed (h c.args.turn.place) =
    subst (λ (v : DriveState). DriveStandsFor v (d c.args.turn.place) speed (h c.args.turn.place)) (sym at) (all c.args.turn.place c.index-drives-place.result inside) in
    let is = said_at _ _ s (c.in-Some.ensures.said (d c.args.turn.place) speed (h c.args.turn.place) stood) says in
    subst (λ (t : Said). AreSent r (g.L.BitLink.carry c.args.link.now) c.args.cycle c.args.rate (t ∷ []) (take c.args.count.now c.args.list.now.items) (take c.send_content.new.count c.send_content.new.list.items) c.args.master.now c.send_content.new.master c.send_content.result) is
    (c.send_content.ensures.sent r (subst (λ (t : Said). station_of r (slice_index t.content 0) ≡ c.args.turn.place + 1) (sym is) station))
