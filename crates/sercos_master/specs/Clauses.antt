-- The words that the contracts of this crate use, each from where it is defined.
pub use Rattle.sercos_block.specs.Rings.{is_ring}
pub use Rattle.sercos_master.specs.Annals.{Call, End, HearAt, HearMst, IsPlanned, Mdt, Past, Restart, after_at, after_at_of, after_mdt, after_mst, all_checked, all_identified, all_ready, begins, begun, fall_of, first_place, first_trouble, goes_on, has_lost_mst, in_turn, is_at_limit, is_awaited, is_closed, is_done, is_done_in, is_mst, new_epoch, outcomes, past, place_of, planned_by, settled, still_waiting, wanted_len, with_due_plan, with_plan, with_stop}
pub use Rattle.sercos_master.specs.Kept.{AreFresh, CoreStandsFor, Fits, IsIn, SeatsStandFor, is_same, place_in, records_upto, sent_now, waited_with, with_pair}
pub use Rattle.sercos_master.specs.Reports.{AreOpen, events_told, inserted, restart_told, with_broken, with_reports}
pub use Rattle.sercos_master.specs.Says.{mdt_said, mst_said, sent_as}
pub use Rattle.sercos_master.specs.Written.{AreWritten, HoldsPlan}
pub use Rattle.sercos_seat.specs.Agenda.{last_long_stop, wishes_from, wishes_given}
pub use Rattle.sercos_seat.specs.Channel.{is_place}
pub use Rattle.sercos_seat.specs.Ring.{HasLists, IsKnown, Known, MemberView, Task, known_of, member, member_of, tasks_for, with_job}
pub use Rattle.sercos_seat.specs.Seats.{AreWaiting, SeatStandsFor, SeatView, Seen, at_len_kept, begun_task, broken_in, cycles_kept, ended_in, forgotten, has_read, nothing_seen, outcomes_seen, sent_in, with_begun}
pub use Rattle.sercos_step.specs.Steps.{IsRequest}
pub use Rattle.sercos_step.specs.declared.request.Job.{Job}
pub use Rattle.sercos_telegram.specs.Words.{control_word}
pub use Rattle.sercos_timing.specs.Valid.{AreDistinct}
pub use Rattle.sercos_timing.specs.Views.{PlanView}
pub use Rattle.std.specs.List.{All, position}
pub use Rattle.std.specs.Option.{option_or}
