use Rattle.std.proofs.Common.{false, true, ap, subst}
use Rattle.sercos_trace.specs.Views.{CycleView}
use Rattle.sercos_trace.specs.Texts.{moves_text, events_text}
use Rattle.sercos_trace.specs.MarkedWritten.{HasTaken, HasFailed, Writes}
use Rattle.sercos_trace.proofs.MarkedLemmas.{failed_is, failed_early, failed_later, writes_then}
use Rattle.sercos_trace.proofs.writing.write_marked_cycle.Goals as goal

pub returns-in_err-write_first : goal.returns-in_err-write_first
returns-in_err-write_first g c = failed_is _ _ c.from_residual.result _ c.from_residual.ensures.0 (failed_early _ _ _ _ c.in_err-write_first.ensures)

pub returns-in_err-write_moves : goal.returns-in_err-write_moves
returns-in_err-write_moves g c = failed_is _ _ c.from_residual-in_err-write_moves.result _ c.from_residual-in_err-write_moves.ensures.0 (failed_later _ _ _ _ _ c.in_ok-write_first.ensures (failed_early _ _ _ _ (subst (HasFailed _ _) (ap (λ (v : CycleView). moves_text v.cycle false v.moves) c.cycle.view_is) (rw c.as_slice.ensures.value at c.in_err-write_moves.ensures))))

pub returns-in_err-write_rest : goal.returns-in_err-write_rest
returns-in_err-write_rest g c = failed_is _ _ c.from_residual-in_err-write_rest.result _ c.from_residual-in_err-write_rest.ensures.0 (failed_later _ _ _ _ _ c.in_ok-write_first.ensures (failed_later _ _ _ _ _ (subst (HasTaken _ _) (ap (λ (v : CycleView). moves_text v.cycle false v.moves) c.cycle.view_is) (rw c.as_slice.ensures.value at c.in_ok-write_moves.ensures)) (failed_early _ _ _ _ c.in_err-write_rest.ensures)))

pub returns-in_err-write_moves-2 : goal.returns-in_err-write_moves-2
returns-in_err-write_moves-2 g c = failed_is _ _ c.from_residual-in_err-write_moves-2.result _ c.from_residual-in_err-write_moves-2.ensures.0 (failed_later _ _ _ _ _ c.in_ok-write_first.ensures (failed_later _ _ _ _ _ (subst (HasTaken _ _) (ap (λ (v : CycleView). moves_text v.cycle false v.moves) c.cycle.view_is) (rw c.as_slice.ensures.value at c.in_ok-write_moves.ensures)) (failed_later _ _ _ _ _ c.in_ok-write_rest.ensures (failed_early _ _ _ _ (subst (HasFailed _ _) (ap (λ (v : CycleView). moves_text v.cycle true v.moves) c.cycle.view_is) (rw c.as_slice-2.ensures.value at c.in_err-write_moves-2.ensures))))))

pub returns : goal.returns
returns g c = (writes_then _ _ _ _ _ _ c.in_ok-write_first.ensures (writes_then _ _ _ _ _ _ (subst (HasTaken _ _) (ap (λ (v : CycleView). moves_text v.cycle false v.moves) c.cycle.view_is) (rw c.as_slice.ensures.value at c.in_ok-write_moves.ensures)) (writes_then _ _ _ _ _ _ c.in_ok-write_rest.ensures (writes_then _ _ _ _ _ _ (subst (HasTaken _ _) (ap (λ (v : CycleView). moves_text v.cycle true v.moves) c.cycle.view_is) (rw c.as_slice-2.ensures.value at c.in_ok-write_moves-2.ensures)) (subst (Writes _ _ c.write_events.result) (ap (λ (v : CycleView). events_text c.args.wishes.now v.cycle v.events) c.cycle.view_is) c.write_events.ensures)))))
