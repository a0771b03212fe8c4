use Rattle.std.proofs.Common.{rules, ◌≡◌, Option, Some, sym, subst}
use Rattle.sercos_c.specs.declared.station.Station.{Station}
use Rattle.sercos_c.specs.declared.station.Station.TheVariants as station
use Rattle.sercos_c.specs.Links.{HoldsLinks}
use Rattle.sercos_c.proofs.links.sercos_links_restart.Goals as goal
use Rattle.sercos_c.proofs.links.sercos_links_restart.Goals.{in-Links, in_default-deref_mut}

pub returns-clause-kept : goal.returns-clause-kept
returns-clause-kept c = λ d holds.
    let was : c.args.links.now.held.value ≡ Some c.deref_mut.result.now = search rules in
    let held = subst (λ (h : Option Station). HoldsLinks h d) was holds in
    elim c.match-deref_mut.branch [
      | in-Links w ↦
          let is : c.put_back.new.handle.held.value ≡ Some (station.Links w.tell_restart-status.new.links) = search rules in
          subst (λ (h : Option Station). HoldsLinks h d) (sym is)
          (w.tell_restart-status.ensures.kept d (subst (λ (s : Station). HoldsLinks (Some s) d) w.in-Links.is held))
      | in_default-deref_mut w ↦ search rules
    ]
