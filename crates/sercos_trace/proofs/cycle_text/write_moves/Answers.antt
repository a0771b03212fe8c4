use Rattle.std.proofs.Common.{◌++◌, [], false, get_or, refl, arith, if◌then◌else◌}
use mathlib.Core.Bool.{beq}
use Rattle.sercos_trace.specs.Texts.{move_text}
use Rattle.sercos_trace.specs.declared.record.Move.{Move}
use Rattle.sercos_trace.proofs.MarkedLemmas.{loop_next, loop_failed, loop_end, failed_is, taken_none, taken_then, same_item}
use Rattle.sercos_trace.proofs.cycle_text.write_moves.Goals as goal

pub loop-moved-init : goal.loop-moved-init
loop-moved-init g c = record { front = []; whole = refl; taken = taken_none _ }

pub returns-in_err-write_move : goal.returns-in_err-write_move
returns-in_err-write_move g c =
    failed_is _ _ c.from_residual.result _ c.from_residual.ensures.0
    (loop_failed _ _ _ (λ (m : Move). if beq m.late c.args.late then move_text c.args.cycle m else []) c.args.moves.now c.loop-moved.moved-index (get_or c.args.moves.now c.loop-moved.moved-index (record { drive = 0; phase = 0; late = false })) c.loop-moved.invariant.front _ (omega arith) (same_item c.args.moves.now c.loop-moved.moved-index (record { drive = 0; phase = 0; late = false }) (get_or c.args.moves.now c.loop-moved.moved-index (record { drive = 0; phase = 0; late = false })) (omega arith)) c.loop-moved.invariant.whole c.loop-moved.invariant.taken c.in_err-write_move.ensures)

pub loop-moved-preserved : goal.loop-moved-preserved
loop-moved-preserved g c = record {
  front = c.loop-moved.invariant.front ++ (λ (m : Move). if beq m.late c.args.late then move_text c.args.cycle m else []) (get_or c.args.moves.now c.loop-moved.moved-index (record { drive = 0; phase = 0; late = false }));
  whole = loop_next (λ (m : Move). if beq m.late c.args.late then move_text c.args.cycle m else []) c.args.moves.now c.loop-moved.moved-index (get_or c.args.moves.now c.loop-moved.moved-index (record { drive = 0; phase = 0; late = false })) _ _ (omega arith) (same_item c.args.moves.now c.loop-moved.moved-index (record { drive = 0; phase = 0; late = false }) (get_or c.args.moves.now c.loop-moved.moved-index (record { drive = 0; phase = 0; late = false })) (omega arith)) c.loop-moved.invariant.whole;
  taken = taken_then _ _ _ _ _ c.loop-moved.invariant.taken c.in_ok-write_move.ensures;
}

pub returns : goal.returns
returns g c = loop_end _ _ (λ (m : Move). if beq m.late c.args.late then move_text c.args.cycle m else []) c.args.moves.now c.loop-moved.moved-index _ _ (omega arith) c.loop-moved.invariant.whole c.loop-moved.invariant.taken
