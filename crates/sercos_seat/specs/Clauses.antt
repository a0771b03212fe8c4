-- The words that the contracts of this crate use, each from where it is defined.
pub use Rattle.sercos_seat.specs.Agenda.{agenda, asked_by, attribute_stop, bytes_of, ended_well, idns_in, is_checked, is_ready, len_said, list_stop, mdt_attributes, reads, reads_count, stop_by, stop_by_bytes, stop_of_task, wish_given, writes_list, writes_word}
pub use Rattle.sercos_seat.specs.Channel.{of_phase}
pub use Rattle.sercos_seat.specs.Records.{record_said, value_said, values_said}
pub use Rattle.sercos_seat.specs.Ring.{Known, MemberView, Task, member, request_task}
pub use Rattle.sercos_seat.specs.Seats.{AreWaiting, IsQueue, SeatStandsFor, Seen, after_outcome, at_in, at_len_kept, begun_in, broken_in, cycles_kept, ended_in, forgotten, has_read, heard_in, is_idle_in, kept_checked, kept_given, kept_ready, last_long, len_of_words, listed_len, long_of, long_stop, low_and_high, low_at, next_in_2, next_in_3, next_write, nothing_seen, outcomes_seen, pair_of, record_seen, seen_with_status, sent_in, with_begun}
pub use Rattle.sercos_seat.specs.declared.queue.Waiting.{Waiting}
pub use Rattle.sercos_service_master.specs.Begun.{master_says}
pub use Rattle.sercos_service_master.specs.Calls.{Call, begun_by, cycles_open}
pub use Rattle.sercos_service_master.specs.Kept.{MasterStandsFor}
pub use Rattle.sercos_step.specs.Steps.{IsRequest}
pub use Rattle.sercos_step.specs.Words.{bytes_in}
pub use Rattle.sercos_step.specs.declared.request.Outcome.{Outcome}
pub use Rattle.sercos_telegram.specs.declared.words.Status.{Status}
pub use Rattle.sercos_timing.specs.Views.{PlanView}
