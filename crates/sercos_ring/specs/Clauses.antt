-- The words that the contracts of this crate use, each from where it is defined.
pub use Rattle.sercos_block.specs.Rings.{is_ring}
pub use Rattle.sercos_block.specs.Views.{DriveView, RingView}
pub use Rattle.sercos_drive.specs.Annals.{phase_at}
pub use Rattle.sercos_drive.specs.Heard.{DriveCall, Mdt, Mst}
pub use Rattle.sercos_drive.specs.Kept.{DriveStandsFor}
pub use Rattle.sercos_drive.specs.Says.{Said, drive_says}
pub use Rattle.sercos_hdlc.specs.Stuffed.{frame_of}
pub use Rattle.sercos_law_run.specs.Journal.Arrivals.{are_same, arrival, content_in, heard, is_unseen, passage, sum_below, unseen_at}
pub use Rattle.sercos_law_run.specs.Journal.Runs.{IsRun, content_of, drive_at, given_before, mdt_heard, move_of, moves_below, own_mst, sent_mdt, sent_mst, start_before, station_of, unseen_mdt, with_at, with_restart}
pub use Rattle.sercos_law_run.specs.Totals.Counting.{HasRoom, IsFew, IsMade, none_made, with_cycle}
pub use Rattle.sercos_law_run.specs.Totals.Totals.{ended, is_broken, is_complete, is_refused}
pub use Rattle.sercos_master.specs.Annals.{Call}
pub use Rattle.sercos_master.specs.Any.{AnyStandsFor}
pub use Rattle.sercos_master.specs.Says.{sent_as}
pub use Rattle.sercos_ring.specs.Frames.{IsSent}
pub use Rattle.sercos_ring.specs.Kept.{RingStandsFor, cycles_made}
pub use Rattle.sercos_ring.specs.Sendings.{AreSent, AreTurns, said_by}
pub use Rattle.sercos_ring.specs.Stations.{AllStand, AreBefore, AreUpTo, addresses_below, phases_below, turn_inserted, turns_below, with_start}
pub use Rattle.sercos_ring.specs.declared.ring.Ring.{Ring}
pub use Rattle.sercos_script.specs.Links.{Carry, Restarts}
pub use Rattle.sercos_seat.specs.Ring.{Known}
pub use Rattle.sercos_step.specs.Steps.{IsRequest}
pub use Rattle.sercos_step.specs.declared.request.Job.{Job}
pub use Rattle.sercos_trace.specs.Views.{CycleView}
pub use Rattle.std.specs.List.{All, position, position_or_len}
pub use Rattle.std.specs.Option.{option_copied, option_or}
