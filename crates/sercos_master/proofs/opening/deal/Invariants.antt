use Rattle.sercos_master.proofs.Openings.{AreDealt}
use Rattle.sercos_master.proofs.opening.deal.Given as goal

abbrev pub invariant-loop-done : goal.invariant-loop-done
invariant-loop-done l = AreDealt l.fn.jobs.items l.fn.seats.items l.jobs.items l.seats.items l.done
