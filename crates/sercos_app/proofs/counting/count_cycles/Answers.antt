use Rattle.std.proofs.Common.{arith}
use Rattle.sercos_ring.specs.Kept.{RingStandsFor, newest}
use Rattle.sercos_law_run.proofs.Theorems.{room_for, none_counted, none_few}
use Rattle.sercos_app.proofs.JournalLemmas.{counted_none, counted_next, counts_run, lawful, ring_more}
use Rattle.sercos_app.proofs.counting.count_cycles.Goals as goal

pub loop-k-init : goal.loop-k-init
loop-k-init g c = record {
  counted = rw c.no_totals-totals.ensures (counted_none (RingStandsFor g.L.BitLink.carry g.L.BitLink.restart) c.args.ring.now _ none_counted none_few);
  made =
      let (w, is) = c.requires.ring in
      let none = c.standing_law.ensures.count c.args.ring.now is.setup is.jobs is.carry is.restarts _ is.stands_for in
      omega (arith, none);
}

pub count_next-requires-clause-ring : goal.count_next-requires-clause-ring
count_next-requires-clause-ring g c =
    let (w, is) = c.requires.ring in
    let journal = c.loop-k.invariant.counted.journal in
    (w, journal.cycles, ring_more (RingStandsFor g.L.BitLink.carry g.L.BitLink.restart) c.args.ring.now c.loop-k.ring w c.loop-k._k journal is)

pub count_next-requires-clause-made : goal.count_next-requires-clause-made
count_next-requires-clause-made g c = let made = c.loop-k.invariant.made in let few = c.requires.few in omega (arith, made, few, c.loop-k-test.true)

pub count_next-requires-clause-room : goal.count_next-requires-clause-room
count_next-requires-clause-room g c = let few = c.requires.few in room_for _ c.loop-k._k (omega (arith, few, c.loop-k-test.true)) c.loop-k.invariant.counted.few

pub loop-k-preserved : goal.loop-k-preserved
loop-k-preserved g c = record {
  counted = counted_next (RingStandsFor g.L.BitLink.carry g.L.BitLink.restart) c.args.ring.now c.loop-k.ring c.count_next.new.ring c.loop-k._k _ _ (newest c.count_next.new.ring)
      c.loop-k.invariant.counted c.count_next.ensures.after.stands_for c.count_next.ensures.counted c.count_next.ensures.few;
  made = let before = c.loop-k.invariant.made in let more = c.count_next.ensures.after.count in omega (arith, before, more);
}

pub returns : goal.returns
returns g c =
    counts_run (RingStandsFor g.L.BitLink.carry g.L.BitLink.restart)
    (lawful (RingStandsFor g.L.BitLink.carry g.L.BitLink.restart) c.standing_law.ensures.run c.run_law.ensures.one)
    c.args.ring.now _ c.loop-k._k c.args.cycles _ (let ended = c.loop-k-test.false in let within = c.loop-k.auto._k-end in omega (arith, ended, within)) c.loop-k.invariant.counted
