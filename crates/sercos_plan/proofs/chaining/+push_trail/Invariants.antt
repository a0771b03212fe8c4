use Rattle.sercos_plan.proofs.chaining.+push_trail.Given as goal

abbrev pub decreases-push_trail : goal.decreases-push_trail
decreases-push_trail l = l.at
