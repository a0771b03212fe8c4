-- What the laws on runs say of the record that a cycle lends.
use Rattle.std.proofs.Common.{◌≡◌, sym, subst}
use Rattle.sercos_trace.specs.Views.{CycleView}
use Rattle.sercos_script.specs.Links.{Carry, Restarts}
use Rattle.sercos_law_run.specs.Headline.Headline.{Headline}
use Rattle.sercos_law_run.specs.Headline.Once.{OnceAlways}
use Rattle.sercos_law_run.specs.Recovery.Predicts.{Predicts}
use Rattle.sercos_law_run.specs.Undisturbed.WholeRuns.{StartsUndisturbed}
use Rattle.sercos_law_run.specs.Recovery.Recovers.{Recovers}
use Rattle.sercos_law_run.specs.Tolerance.Bears.{Tolerates}
use Rattle.sercos_law_run.specs.Tolerance.Returns.{ReturnsWhileSparse}
use Rattle.sercos_law_run.specs.Stations.Cycles.{AlwaysPlain}
use Rattle.sercos_law_run.specs.Stations.Senders.{SendsAlone}
use Rattle.sercos_law_run.specs.Stations.Falls.{FallsHaveCause}
use Rattle.sercos_ring.specs.Kept.{BearsOf, IsNextOf, KeepsAllOf, OnceOf, PredictsOf, RecoversOf, ReturnsOf, StartsUpOf, StationsOf}
use Rattle.sercos_ring.specs.declared.ring.Ring.{Ring}

-- what is lent is what the ring keeps
pub next_lent : {L : Type 0} (carry_of : L → Carry) (restart_of : L → Restarts) (ring : Ring L) (lent kept : CycleView) → lent ≡ kept → IsNextOf carry_of restart_of ring kept → IsNextOf carry_of restart_of ring lent
next_lent carry_of restart_of ring lent kept is next = subst (λ (t : CycleView). IsNextOf carry_of restart_of ring t) (sym is) next

pub keeps_lent : {L : Type 0} (carry_of : L → Carry) (restart_of : L → Restarts) (ring : Ring L) (lent : CycleView) → Headline → IsNextOf carry_of restart_of ring lent → KeepsAllOf carry_of restart_of ring lent
keeps_lent carry_of restart_of ring lent law next = record {
  keeps = λ r jobs carry restarts j stands opened clear. law r jobs carry restarts lent j opened (stands.run, next.next r jobs carry restarts j stands) clear;
}

pub predicts_lent : {L : Type 0} (carry_of : L → Carry) (restart_of : L → Restarts) (ring : Ring L) (lent : CycleView) → Predicts → IsNextOf carry_of restart_of ring lent → PredictsOf carry_of restart_of ring lent
predicts_lent carry_of restart_of ring lent law next = record {
  predicts = λ r jobs carry restarts j stands opened clear. law r jobs carry restarts lent j opened (stands.run, next.next r jobs carry restarts j stands) clear;
}

pub once_lent : {L : Type 0} (carry_of : L → Carry) (restart_of : L → Restarts) (ring : Ring L) (lent : CycleView) → OnceAlways → IsNextOf carry_of restart_of ring lent → OnceOf carry_of restart_of ring lent
once_lent carry_of restart_of ring lent law next = record {
  once = λ r jobs carry restarts j stands. law r jobs carry restarts lent j stands.valid (stands.run, next.next r jobs carry restarts j stands);
}

pub starts_lent : {L : Type 0} (carry_of : L → Carry) (restart_of : L → Restarts) (ring : Ring L) (lent : CycleView) → StartsUndisturbed → IsNextOf carry_of restart_of ring lent → StartsUpOf carry_of restart_of ring lent
starts_lent carry_of restart_of ring lent law next = record {
  starts = λ r jobs carry restarts j stands opened calm. law r jobs carry restarts lent j opened (stands.run, next.next r jobs carry restarts j stands) calm;
}

pub recovers_lent : {L : Type 0} (carry_of : L → Carry) (restart_of : L → Restarts) (ring : Ring L) (lent : CycleView) → Recovers → IsNextOf carry_of restart_of ring lent → RecoversOf carry_of restart_of ring lent
recovers_lent carry_of restart_of ring lent law next = record {
  recovers = λ r jobs carry restarts j stands opened clear. law r jobs carry restarts lent j opened (stands.run, next.next r jobs carry restarts j stands) clear;
}

pub stations_lent : {L : Type 0} (carry_of : L → Carry) (restart_of : L → Restarts) (ring : Ring L) (lent : CycleView) → AlwaysPlain → FallsHaveCause → SendsAlone → IsNextOf carry_of restart_of ring lent
    → StationsOf carry_of restart_of ring lent
stations_lent carry_of restart_of ring lent law causes alone next = record {
  drives = λ r jobs carry restarts j stands opened. law r jobs carry restarts lent j opened;
  falls = λ r jobs carry restarts j stands opened. causes r jobs carry restarts lent j opened (stands.run, next.next r jobs carry restarts j stands);
  alone = λ r jobs carry restarts j stands opened clear. alone r jobs carry restarts lent j opened (stands.run, next.next r jobs carry restarts j stands) clear;
}

pub bears_lent : {L : Type 0} (carry_of : L → Carry) (restart_of : L → Restarts) (ring : Ring L) (lent : CycleView) → Tolerates
    → IsNextOf carry_of restart_of ring lent → BearsOf carry_of restart_of ring lent
bears_lent carry_of restart_of ring lent law next = record {
  bears = λ r jobs carry restarts j stands opened clear.
      law r jobs carry restarts lent j opened (stands.run, next.next r jobs carry restarts j stands) clear;
}

pub returns_lent : {L : Type 0} (carry_of : L → Carry) (restart_of : L → Restarts) (ring : Ring L) (lent : CycleView) → ReturnsWhileSparse
    → IsNextOf carry_of restart_of ring lent → ReturnsOf carry_of restart_of ring lent
returns_lent carry_of restart_of ring lent law next = record {
  returns = λ r jobs carry restarts j stands opened clear.
      law r jobs carry restarts lent j opened (stands.run, next.next r jobs carry restarts j stands) clear;
}
