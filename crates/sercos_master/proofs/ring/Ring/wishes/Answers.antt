use Rattle.sercos_master.proofs.Words.{refl, ◌∙◌, CoreStandsFor, seen_at}
use Rattle.sercos_master.specs.contracts.ring.Ring.{the_view}
use Rattle.sercos_master.proofs.ring.Ring.wishes.Goals as goal

pub returns : goal.returns
returns c = λ s p known stands.
    let t : CoreStandsFor (the_view c.self.inside) s p = rw c.self.view_is stands in
    rw (
      c.wish_list.ensures s (seen_at p) (rw c.as_slice-2.ensures.value t.seats_count) known.few (rw c.as_slice-2.ensures.value t.seats),
      c.copied.ensures ∙ (c.as_slice.ensures.value ∙ t.order_is),
      t.rate_is,
      t.cycle_is,
      t.control_is,
      t.gap_is,
    ) refl
