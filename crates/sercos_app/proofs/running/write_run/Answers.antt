use Rattle.sercos_ring.specs.Kept.{RingStandsFor}
use Rattle.sercos_app.proofs.JournalLemmas.{run_totals, run_ok, run_err, run_cause, run_room, order_within}
use Rattle.sercos_app.proofs.running.write_run.Goals as goal

pub write_whole-requires-clause-made : goal.write_whole-requires-clause-made
write_whole-requires-clause-made g c =
    let is = c.requires.ring in
    c.standing_law.ensures.count c.args.ring.now is.setup is.jobs is.carry is.restarts _ is.stands_for

pub write_whole-requires-clause-order : goal.write_whole-requires-clause-order
write_whole-requires-clause-order g c =
    let is = c.requires.ring in
    order_within c.args.w.now is.setup is.wishes (c.ring_law.ensures is.setup is.valid).order

pub returns-clause-made : goal.returns-clause-made
returns-clause-made g c = c.write_whole.ensures.made

pub returns-clause-totals : goal.returns-clause-totals
returns-clause-totals g c = run_totals (RingStandsFor g.L.BitLink.carry g.L.BitLink.restart) _ _ _ _ _ _ c.write_whole.result c.write_whole.ensures

pub returns-clause-ok : goal.returns-clause-ok
returns-clause-ok g c = run_ok (RingStandsFor g.L.BitLink.carry g.L.BitLink.restart) _ _ _ _ _ _ c.write_whole.result c.write_whole.ensures

pub returns-clause-err : goal.returns-clause-err
returns-clause-err g c = run_err (RingStandsFor g.L.BitLink.carry g.L.BitLink.restart) _ _ _ _ _ _ c.write_whole.result c.write_whole.ensures

pub returns-clause-cause : goal.returns-clause-cause
returns-clause-cause g c = run_cause (RingStandsFor g.L.BitLink.carry g.L.BitLink.restart) _ _ _ _ _ _ c.write_whole.result c.write_whole.ensures c.requires.ring

pub returns-clause-kept : goal.returns-clause-kept
returns-clause-kept g c = λ r jobs carry restarts stands opened. c.kept_law.ensures.kept r jobs carry restarts _ opened

pub returns-clause-room : goal.returns-clause-room
returns-clause-room g c = run_room (RingStandsFor g.L.BitLink.carry g.L.BitLink.restart) _ _ _ _ _ _ c.write_whole.result c.write_whole.ensures
