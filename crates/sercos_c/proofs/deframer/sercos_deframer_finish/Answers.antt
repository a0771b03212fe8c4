use Rattle.std.proofs.Common.{rules, ◌≡◌, Some, subst}
use Rattle.sercos_c.specs.declared.station.Station.{Station}
use Rattle.sercos_c.specs.Deframers.{HoldsFed}
use Rattle.sercos_c.proofs.deframer.sercos_deframer_finish.Goals as goal
use Rattle.sercos_c.proofs.deframer.sercos_deframer_finish.Goals.{in-Deframer, in_default-deref_mut}

pub returns-clause-read : goal.returns-clause-read
returns-clause-read c = λ bits holds room.
    let was : c.args.deframer.now.held.value ≡ Some c.deref_mut.result.now = search rules in
    let held = subst (HoldsFed bits) was holds in
    elim c.match-deref_mut.branch [
      | in-Deframer w ↦
          rw (w.out-is, w.written-is, w.why-is, w.status-is)
          (w.finish-status.ensures.read bits (subst (λ (s : Station). HoldsFed bits (Some s)) w.in-Deframer.is held) room)
      | in_default-deref_mut w ↦ search rules
    ]
