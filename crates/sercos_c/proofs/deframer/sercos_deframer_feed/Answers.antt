use Rattle.std.proofs.Common.{rules, ◌≡◌, ◌++◌, Some, sym, subst, take}
use Rattle.sercos_model.specs.Bits.{bits_of}
use Rattle.sercos_c.specs.declared.station.Station.{Station}
use Rattle.sercos_c.specs.declared.station.Station.TheVariants as station
use Rattle.sercos_c.specs.Deframers.{HoldsFed}
use Rattle.sercos_c.proofs.deframer.sercos_deframer_feed.Goals as goal
use Rattle.sercos_c.proofs.deframer.sercos_deframer_feed.Goals.{in-Deframer, in_default-deref_mut}

pub returns-clause-fed : goal.returns-clause-fed
returns-clause-fed c before holds is_done =
    let was : c.args.deframer.now.held.value ≡ Some c.deref_mut.result.now = search rules in
    let held = subst (HoldsFed before) was holds in
    elim c.match-deref_mut.branch [
      | in-Deframer w ↦
          let is : c.put_back.new.handle.held.value ≡ Some (station.Deframer w.feed-status.new.deframer) = search rules in
          subst (HoldsFed (before ++ take c.args.count (bits_of c.args.bits.now))) (sym is)
          (w.feed-status.ensures.fed (rw (← w.status-is) is_done) before (subst (λ (s : Station). HoldsFed before (Some s)) w.in-Deframer.is held))
      | in_default-deref_mut w ↦ search rules
    ]
