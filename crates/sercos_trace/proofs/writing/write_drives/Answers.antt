use Rattle.std.proofs.Common.{◌++◌, [], get_or, refl, arith}
use Rattle.sercos_trace.specs.Texts.{drive_text}
use Rattle.sercos_trace.proofs.MarkedLemmas.{loop_next, loop_failed, loop_end, failed_is, taken_none, taken_then, same_item}
use Rattle.sercos_trace.proofs.writing.write_drives.Goals as goal

pub loop-wish-init : goal.loop-wish-init
loop-wish-init g c = record { front = []; whole = refl; taken = taken_none _ }

pub returns-in_err-write_drive : goal.returns-in_err-write_drive
returns-in_err-write_drive g c =
    failed_is _ _ c.from_residual.result _ c.from_residual.ensures.0
    (loop_failed _ _ _ (drive_text) c.args.drives.now c.loop-wish.wish-index (get_or c.args.drives.now c.loop-wish.wish-index (record { address = 0; slave = 0; times = record { t1min = 0; tatmt = 0; t4min = 0; tatat = 0; tmtsy = 0; tmtsg = 0 }; at_len = 0; record_len = 0 })) c.loop-wish.invariant.front _ (omega arith) (same_item c.args.drives.now c.loop-wish.wish-index (record { address = 0; slave = 0; times = record { t1min = 0; tatmt = 0; t4min = 0; tatat = 0; tmtsy = 0; tmtsg = 0 }; at_len = 0; record_len = 0 }) (get_or c.args.drives.now c.loop-wish.wish-index (record { address = 0; slave = 0; times = record { t1min = 0; tatmt = 0; t4min = 0; tatat = 0; tmtsy = 0; tmtsg = 0 }; at_len = 0; record_len = 0 })) (omega arith)) c.loop-wish.invariant.whole c.loop-wish.invariant.taken c.in_err-write_drive.ensures)

pub loop-wish-preserved : goal.loop-wish-preserved
loop-wish-preserved g c = record {
  front = c.loop-wish.invariant.front ++ (drive_text) (get_or c.args.drives.now c.loop-wish.wish-index (record { address = 0; slave = 0; times = record { t1min = 0; tatmt = 0; t4min = 0; tatat = 0; tmtsy = 0; tmtsg = 0 }; at_len = 0; record_len = 0 }));
  whole = loop_next (drive_text) c.args.drives.now c.loop-wish.wish-index (get_or c.args.drives.now c.loop-wish.wish-index (record { address = 0; slave = 0; times = record { t1min = 0; tatmt = 0; t4min = 0; tatat = 0; tmtsy = 0; tmtsg = 0 }; at_len = 0; record_len = 0 })) _ _ (omega arith) (same_item c.args.drives.now c.loop-wish.wish-index (record { address = 0; slave = 0; times = record { t1min = 0; tatmt = 0; t4min = 0; tatat = 0; tmtsy = 0; tmtsg = 0 }; at_len = 0; record_len = 0 }) (get_or c.args.drives.now c.loop-wish.wish-index (record { address = 0; slave = 0; times = record { t1min = 0; tatmt = 0; t4min = 0; tatat = 0; tmtsy = 0; tmtsg = 0 }; at_len = 0; record_len = 0 })) (omega arith)) c.loop-wish.invariant.whole;
  taken = taken_then _ _ _ _ _ c.loop-wish.invariant.taken c.in_ok-write_drive.ensures;
}

pub returns : goal.returns
returns g c = loop_end _ _ (drive_text) c.args.drives.now c.loop-wish.wish-index _ _ (omega arith) c.loop-wish.invariant.whole c.loop-wish.invariant.taken
