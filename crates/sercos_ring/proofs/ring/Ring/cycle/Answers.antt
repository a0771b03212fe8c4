use Rattle.std.proofs.Common.{refl}
use Rattle.sercos_ring.specs.Kept.{IsNextOf, newest}
use Rattle.sercos_ring.proofs.LentRecords.{next_lent, keeps_lent, predicts_lent, once_lent, starts_lent, recovers_lent, bears_lent, returns_lent, stations_lent}
use Rattle.sercos_ring.proofs.ring.Ring.cycle.Goals as goal

pub returns : goal.returns
returns g c =
    let next : IsNextOf g.L.BitLink.carry g.L.BitLink.restart c.args.self.now c.deref.result.now =
    next_lent g.L.BitLink.carry g.L.BitLink.restart c.args.self.now c.deref.result.now (newest c.make_cycle.new.self) c.deref.ensures c.make_cycle.ensures.next in (
      (refl, λ other. tt, (c.make_cycle.ensures.after, c.deref.ensures)),
      record {
        after = tt;
        next = next;
        headline = keeps_lent g.L.BitLink.carry g.L.BitLink.restart c.args.self.now c.deref.result.now c.headline_law.ensures next;
        predicts = predicts_lent g.L.BitLink.carry g.L.BitLink.restart c.args.self.now c.deref.result.now c.recovery_law.ensures.predicts next;
        once = once_lent g.L.BitLink.carry g.L.BitLink.restart c.args.self.now c.deref.result.now c.once_law.ensures next;
        undisturbed = starts_lent g.L.BitLink.carry g.L.BitLink.restart c.args.self.now c.deref.result.now c.undisturbed_law.ensures.starts next;
        recovers = recovers_lent g.L.BitLink.carry g.L.BitLink.restart c.args.self.now c.deref.result.now c.recovery_law.ensures.recovers next;
        bears = bears_lent g.L.BitLink.carry g.L.BitLink.restart c.args.self.now c.deref.result.now c.tolerance_law.ensures.tolerates next;
        returns = returns_lent g.L.BitLink.carry g.L.BitLink.restart c.args.self.now c.deref.result.now c.tolerance_law.ensures.returns next;
        stations = stations_lent g.L.BitLink.carry g.L.BitLink.restart c.args.self.now c.deref.result.now c.station_law.ensures.plain c.fall_law.ensures.causes c.station_law.ensures.alone next;
      },
    )
