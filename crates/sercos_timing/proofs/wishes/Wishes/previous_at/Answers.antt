use Rattle.std.proofs.Common.{rules, ◌≡◌, slice_index, sym, ◌∙◌, arith, add-one}
use Rattle.sercos_timing.specs.Order.{wish}
use Rattle.sercos_timing.proofs.OrderLemmas.{one_previous, other_previous}
use Rattle.sercos_timing.proofs.wishes.Wishes.previous_at.Goals as goal
use Rattle.sercos_timing.proofs.wishes.Wishes.previous_at.Goals.{then-wish-slave, else-wish-slave}

pub loop-earlier-preserved : goal.loop-earlier-preserved
loop-earlier-preserved c =
    let v = c.args.self.now in
    let own : c.wish-slave.result.slave ≡ (wish v (slice_index v.order c.args.at)).slave = search rules in
    let theirs : c.wish.result.slave ≡ (wish v (slice_index v.order c.loop-earlier.earlier)).slave = search rules in
    elim c.if-wish-slave.branch [
      | then-wish-slave w ↦ rw (add-one, w.found-is) (record { value = one_previous v (slice_index v.order c.args.at) c.loop-earlier.earlier c.loop-earlier.found c.loop-earlier.invariant.value (sym theirs ∙ w.if-wish-slave.true ∙ own); before = omega arith })
      | else-wish-slave w ↦ rw (add-one, w.found-is) (record { value = other_previous v (slice_index v.order c.args.at) c.loop-earlier.earlier c.loop-earlier.found c.loop-earlier.invariant.value (λ e. w.if-wish-slave.false (theirs ∙ e ∙ sym own)); before = c.loop-earlier.invariant.before })
    ]
