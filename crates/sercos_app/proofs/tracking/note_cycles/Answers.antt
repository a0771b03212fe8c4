use Rattle.std.proofs.Common.{arith}
use Rattle.sercos_ring.specs.Kept.{RingStandsFor, newest}
use Rattle.sercos_app.proofs.JournalLemmas.{lawful}
use Rattle.sercos_app.proofs.TrackingLemmas.{noted_none, noted_next, noted_run, noted_made}
use Rattle.sercos_app.proofs.tracking.note_cycles.Goals as goal

pub loop-k-init : goal.loop-k-init
loop-k-init g c = record {
  noted = noted_none (RingStandsFor g.L.BitLink.carry g.L.BitLink.restart) c.args.ring.now c.args.list.now;
  made = let none = c.requires.made in omega (arith, none);
}

pub loop-k-preserved : goal.loop-k-preserved
loop-k-preserved g c = record {
  noted = noted_next (RingStandsFor g.L.BitLink.carry g.L.BitLink.restart) c.args.ring.now c.loop-k.ring c.note_next.new.ring c.loop-k._k c.args.list.now c.loop-k.list c.note_next.new.list (newest c.note_next.new.ring)
      c.loop-k.invariant.noted c.note_next.ensures.after.stands_for c.note_next.ensures.noted;
  made = let before = c.loop-k.invariant.made in let more = c.note_next.ensures.after.count in omega (arith, before, more);
}

pub returns : goal.returns
returns g c = record {
  noted = noted_run (RingStandsFor g.L.BitLink.carry g.L.BitLink.restart)
      (lawful (RingStandsFor g.L.BitLink.carry g.L.BitLink.restart) c.standing_law.ensures.run c.run_law.ensures.one)
      c.args.ring.now c.loop-k.ring c.loop-k._k c.args.cycles c.args.list.now c.loop-k.list (let ended = c.loop-k-test.false in let within = c.loop-k.auto._k-end in omega (arith, ended, within)) c.loop-k.invariant.noted;
  made = noted_made (RingStandsFor g.L.BitLink.carry g.L.BitLink.restart)
      (lawful (RingStandsFor g.L.BitLink.carry g.L.BitLink.restart) c.standing_law.ensures.run c.run_law.ensures.one)
      c.args.ring.now c.loop-k.ring c.loop-k._k c.args.cycles c.args.list.now c.loop-k.list (let ended = c.loop-k-test.false in let within = c.loop-k.auto._k-end in omega (arith, ended, within)) c.loop-k.invariant.noted;
}
