use Rattle.sercos_multi.proofs.OpenLemmas.{opened_at}
use Rattle.sercos_multi.proofs.opening.open_ring.Goals as goal

pub returns : goal.returns
returns g c = opened_at g.L.BitLink.carry g.L.BitLink.restart c.args.number c.args.setup.now c.args.jobs.items (g.L.BitLink.carry c.args.link) (g.L.BitLink.restart c.args.link) c.in_ok-ring.ring _ _ _ _
    c.requires.ring c.in_ok-ring.ensures.stands c.wishes.ensures.value c.no_totals.ensures c.totals_law.ensures.none c.totals_law.ensures.few_none c.cycles_of.ensures.value c.cycles_of.ensures.few c.mark_of.ensures
