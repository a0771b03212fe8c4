use Rattle.std.proofs.Common.{arith, length, ap}
use Rattle.sercos_trace.proofs.MarkedLemmas.{failed_is, slot_failed, taken_none, slots_more}
use Rattle.sercos_trace.proofs.event_text.write_slots.Goals as goal

pub returns-in_err-write_slot : goal.returns-in_err-write_slot
returns-in_err-write_slot g c =
    failed_is _ _ c.from_residual.result _ c.from_residual.ensures.0
    (slot_failed _ _ _ c.args.cycle c.args.wishes.now c.args.plan.now c.loop-place.place (length c.args.wishes.now.drives) (omega (arith, ap length c.drives-place-end.ensures.value)) c.loop-place.invariant c.in_err-write_slot.ensures)

pub loop-place-init : goal.loop-place-init
loop-place-init g c = taken_none _

pub loop-place-preserved : goal.loop-place-preserved
loop-place-preserved g c = slots_more _ _ _ c.args.cycle c.args.wishes.now c.args.plan.now c.loop-place.place c.loop-place.invariant c.in_ok-write_slot.ensures
