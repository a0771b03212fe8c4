use Rattle.std.proofs.Common.{◌≡◌, length, sym, subst}
use Rattle.std.specs.Prelude.{IfSome}
use Rattle.sercos_timing.specs.Views.{WishesView}
use Rattle.sercos_app.proofs.running.write_next.Goals as goal

pub count_made-requires-clause-made : goal.count_made-requires-clause-made
count_made-requires-clause-made g c =
    let (j, is) = c.requires.ring in
    record {
      setup = is.setup;
      jobs = is.jobs;
      carry = is.carry;
      restarts = is.restarts;
      before = j;
      valid = is.valid;
      next = c.cycle-made.ensures.next.next is.setup is.jobs is.carry is.restarts j is.stands_for;
    }

pub write_made-requires-clause-starts : goal.write_made-requires-clause-starts
write_made-requires-clause-starts g c =
    let (j, is) = c.requires.ring in
    subst (λ (w : WishesView). IfSome c.cycle-made.result.now.events.plan (λ p. length p.t1 ≡ length w.drives)) (sym is.wishes)
    (c.plan_law.ensures.starts is.setup is.jobs is.carry is.restarts c.cycle-made.result.now j (c.cycle-made.ensures.next.next is.setup is.jobs is.carry is.restarts j is.stands_for))

pub write_made-requires-clause-positions : goal.write_made-requires-clause-positions
write_made-requires-clause-positions g c =
    let (j, is) = c.requires.ring in
    subst (λ (w : WishesView). IfSome c.cycle-made.result.now.events.plan (λ p. length p.position ≡ length w.drives)) (sym is.wishes)
    (c.plan_law.ensures.positions is.setup is.jobs is.carry is.restarts c.cycle-made.result.now j (c.cycle-made.ensures.next.next is.setup is.jobs is.carry is.restarts j is.stands_for))
