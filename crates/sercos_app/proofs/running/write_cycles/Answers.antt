use Rattle.std.proofs.Common.{arith}
use Rattle.sercos_ring.specs.Kept.{RingStandsFor, newest}
use Rattle.sercos_law_run.proofs.Theorems.{room_for, none_counted, none_few}
use Rattle.sercos_app.proofs.JournalLemmas.{written_none, written_next, written_at, stopped_next, stopped_is, ring_more}
use Rattle.sercos_app.proofs.running.write_cycles.Goals as goal

pub loop-k-init : goal.loop-k-init
loop-k-init g c = record {
  written = rw c.no_totals-totals.ensures (written_none (RingStandsFor g.L.BitLink.carry g.L.BitLink.restart) c.args.w.now c.args.ring.now _ _ none_counted none_few);
  made = let none = c.requires.made in omega (arith, none);
}

pub write_next-requires-clause-ring : goal.write_next-requires-clause-ring
write_next-requires-clause-ring g c =
    let journal = c.loop-k.invariant.written.made.journal in
    (journal.cycles, ring_more (RingStandsFor g.L.BitLink.carry g.L.BitLink.restart) c.args.ring.now c.loop-k.ring c.args.w.now c.loop-k._k journal c.requires.ring)

pub write_next-requires-clause-made : goal.write_next-requires-clause-made
write_next-requires-clause-made g c = let made = c.loop-k.invariant.made in let few = c.requires.few in omega (arith, made, few, c.loop-k-test.true)

pub write_next-requires-clause-room : goal.write_next-requires-clause-room
write_next-requires-clause-room g c = let few = c.requires.few in room_for _ c.loop-k._k (omega (arith, few, c.loop-k-test.true)) c.loop-k.invariant.written.made.few

pub returns-in_err-write_next : goal.returns-in_err-write_next
returns-in_err-write_next g c =
    stopped_is (RingStandsFor g.L.BitLink.carry g.L.BitLink.restart) _ _ _ _ _ _ c.from_residual.result c.from_residual.ensures.0
    (stopped_next (RingStandsFor g.L.BitLink.carry g.L.BitLink.restart) c.args.w.now c.args.ring.now c.loop-k.ring c.write_next.new.ring c.loop-k._k c.args.cycles _ _ _ _ (newest c.write_next.new.ring)
    c.loop-k-test.true c.loop-k.invariant.written c.write_next.ensures.after.stands_for c.in_err-write_next.ensures.written)

pub loop-k-preserved : goal.loop-k-preserved
loop-k-preserved g c = record {
  written = written_next (RingStandsFor g.L.BitLink.carry g.L.BitLink.restart) c.args.w.now c.args.ring.now c.loop-k.ring c.write_next.new.ring c.loop-k._k _ _ _ _ _ (newest c.write_next.new.ring)
      c.loop-k.invariant.written c.write_next.ensures.after.stands_for c.write_next.ensures.counted c.write_next.ensures.few c.in_ok-write_next.ensures.written;
  made = let before = c.loop-k.invariant.made in let more = c.write_next.ensures.after.count in omega (arith, before, more);
}

pub returns : goal.returns
returns g c = written_at (RingStandsFor g.L.BitLink.carry g.L.BitLink.restart) _ _ _ c.loop-k._k c.args.cycles _ _ _ (let ended = c.loop-k-test.false in let within = c.loop-k.auto._k-end in omega (arith, ended, within)) c.loop-k.invariant.written
