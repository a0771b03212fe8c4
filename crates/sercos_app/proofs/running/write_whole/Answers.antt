use Rattle.sercos_ring.specs.Kept.{RingStandsFor}
use Rattle.sercos_app.proofs.JournalLemmas.{lawful, run_failed, fails_early, fails_within, fails_late, ends_whole}
use Rattle.sercos_app.proofs.running.write_whole.Goals as goal

pub returns-in_err-write_head : goal.returns-in_err-write_head
returns-in_err-write_head g c =
    run_failed _ _ _ _ _ _ _ c.from_residual.result c.from_residual.ensures.0
    (λ e. fails_early (RingStandsFor g.L.BitLink.carry g.L.BitLink.restart) (lawful (RingStandsFor g.L.BitLink.carry g.L.BitLink.restart) c.standing_law.ensures.run c.run_law.ensures.one) c.args.w.now c.args.ring.now c.args.cycles _ _ e c.in_err-write_head.ensures)

pub returns-in_err-totals : goal.returns-in_err-totals
returns-in_err-totals g c =
    run_failed _ _ _ _ _ _ _ c.from_residual-in_err-totals.result c.from_residual-in_err-totals.ensures.0
    (λ e. fails_within (RingStandsFor g.L.BitLink.carry g.L.BitLink.restart) (lawful (RingStandsFor g.L.BitLink.carry g.L.BitLink.restart) c.standing_law.ensures.run c.run_law.ensures.one) c.args.w.now c.args.ring.now _ c.args.cycles _ _ _ e c.in_ok-write_head.ensures c.in_err-totals.ensures)

pub returns-in_err-write_totals : goal.returns-in_err-write_totals
returns-in_err-write_totals g c =
    run_failed _ _ _ _ _ _ _ c.from_residual-in_err-write_totals.result c.from_residual-in_err-write_totals.ensures.0
    (λ e. fails_late (RingStandsFor g.L.BitLink.carry g.L.BitLink.restart) (lawful (RingStandsFor g.L.BitLink.carry g.L.BitLink.restart) c.standing_law.ensures.run c.run_law.ensures.one) c.args.w.now c.args.ring.now _ c.args.cycles _ _ _ _ c.in_ok-totals.totals e c.in_ok-write_head.ensures c.in_ok-totals.ensures c.in_err-write_totals.ensures)

pub returns : goal.returns
returns g c = ends_whole (RingStandsFor g.L.BitLink.carry g.L.BitLink.restart) (lawful (RingStandsFor g.L.BitLink.carry g.L.BitLink.restart) c.standing_law.ensures.run c.run_law.ensures.one) c.args.w.now c.args.ring.now _ c.args.cycles _ _ _ _ c.in_ok-totals.totals c.in_ok-write_head.ensures c.in_ok-totals.ensures c.in_ok-write_totals.ensures
