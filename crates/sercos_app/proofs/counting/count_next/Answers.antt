use Rattle.sercos_app.proofs.counting.count_next.Goals as goal

pub count_made-requires-clause-made : goal.count_made-requires-clause-made
count_made-requires-clause-made g c =
    let (w, j, is) = c.requires.ring in
    record {
      setup = is.setup;
      jobs = is.jobs;
      carry = is.carry;
      restarts = is.restarts;
      before = j;
      valid = is.valid;
      next = c.cycle-made.ensures.next.next is.setup is.jobs is.carry is.restarts j is.stands_for;
    }
