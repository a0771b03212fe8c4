-- The words that the proofs speak in, of std, of the crates below and of this crate's specs, each under one name.
pub use Rattle.std.proofs.Common.{Bool, Err, IfErr, IfOk, IfSome, List, None, Ok, Option, Result, Some, [], ap, ap₂, arith, cond, drop, false, if◌then◌else◌, inl, inr, is_none, is_ok, is_some, length, length-append, map, min, nat_le, nat_lt, not, option_map, refl, replicate, rules, slice_get, slice_index, slice_index_or, subst, suc, sym, take, true, unwrap_or, zero, ℕ, ◌%◌, ◌&&◌, ◌++◌, ◌+◌, ◌-◌, ◌/◌, ◌<◌, ◌==◌, ◌^◌, ◌||◌, ◌∙◌, ◌∷◌, ◌≡◌, ◌≤◌, ◌⊎◌}
pub use Rattle.std.proofs.Math.ListN.{length-set, set}
pub use Rattle.std.proofs.lemmas.Bool.{and_parts, cases_Bool, cases_eq, cond-true, cond_both, eq-eqb, eqb-true, false≢true, le-leb, leb-true, or_cases}
pub use Rattle.std.proofs.lemmas.Bool.Decides.{nat_tests}
pub use Rattle.std.proofs.lemmas.Grind.{get_or-set_at}
pub use Rattle.std.proofs.lemmas.Iterator.Adapters.{position_from-zero}
pub use Rattle.std.proofs.lemmas.List.{append-nil, append_assoc, drop-append-le, drop-drop, get_or-set_other, get_or_append_left, get_or_push, length-drop, length_push, nil_from_length, take-append-le, take_all}
pub use Rattle.std.proofs.lemmas.List.Quantifiers.{position-Some}
pub use Rattle.std.proofs.lemmas.Option.{get_or_from_slice_get, none-some, same_Some, slice_get_within}
pub use Rattle.std.proofs.Math.Bool.{and-false}
pub use Rattle.std.specs.List.{All, insert, position, position_from, range_with_len}
pub use Rattle.std.specs.Option.{option_or}
pub use Rattle.sercos_telegram.specs.Faults.{at_fault}
pub use Rattle.sercos_telegram.specs.Spells.{all_drives, mst_content, word_at, word_bytes}
pub use Rattle.sercos_telegram.specs.Words.{status_of}
pub use Rattle.sercos_timing.specs.Order.{no_wish, record_bytes}
pub use Rattle.sercos_timing.specs.Valid.{AreDistinct, IsValid}
pub use Rattle.sercos_timing.specs.Views.{PlanView, WishesView}
pub use Rattle.sercos_timing.specs.declared.wishes.Wish.{Wish}
pub use Rattle.sercos_block.specs.Rings.{is_ring}
unfoldable pub use Rattle.sercos_block.specs.Rings.{wishes_of}
pub use Rattle.sercos_block.specs.Views.{DriveView, RingView}
pub use Rattle.sercos_plan.specs.ChainOf.{planned}
pub use Rattle.sercos_step.specs.Steps.{IsRequest, answer_words, is_whole, next_step, outcome_of, result_of}
pub use Rattle.sercos_step.specs.declared.request.Job.{Job}
pub use Rattle.sercos_step.specs.declared.request.Outcome.{Outcome}
pub use Rattle.sercos_step.specs.declared.request.Request.{Request}
pub use Rattle.sercos_step.specs.declared.step.Answer.{Answer}
pub use Rattle.sercos_service_master.specs.Begun.{Begun, answer_in, answers_it, master_says, mhs_in, open_in, with_answer}
pub use Rattle.sercos_service_master.specs.Calls.{EndCycle, Hear, age_of, begun_by, cycles_open, outcome_at}
pub use Rattle.sercos_trace.specs.Views.{EventsView}
pub use Rattle.sercos_trace.specs.declared.events.Stop.{Stop}
pub use Rattle.sercos_seat.proofs.Agendas.{ended_there, reads_length}
pub use Rattle.sercos_seat.proofs.Gets.{get_left, get_map, get_none, get_right, length_append, length_map}
pub use Rattle.sercos_seat.proofs.Lengths.{at_len_same, drop_all, drop_at, get_there, lens}
pub use Rattle.sercos_seat.proofs.Queues.{next_request, none_4, queue_same, ready_long, ready_stays}
pub use Rattle.sercos_seat.proofs.Seats.{behind_end, idle_same}
pub use Rattle.sercos_seat.specs.Agenda.{agenda, asked_by, at_attributes, at_len, bytes_of, checking, ended_well, given, is_checked, is_read, is_ready, last_long_stop, len_or_none, long_in, mdt_attributes, reads, reads_count, record_len, short_in, stop_of_task, times_given, wish_given, wishes_from, wishes_given, words_given, writes}
pub use Rattle.sercos_seat.specs.Channel.{Report, count_requests, is_place, last_outcome, of_phase, outcomes_in, trouble_by, with_outcome}
pub use Rattle.sercos_seat.specs.Ring.{HasLists, IsKnown, Known, MemberView, Task, known_of, member, member_of, no_member, request_task, startup, tasks_for, tasks_from, with_job}
pub use Rattle.sercos_seat.specs.Seats.{AreWaiting, SeatStandsFor, SeatView, Seen, at_in, at_len_kept, begun_task, broken_in, cycles_kept, ended_in, forgotten, has_read, last_long, last_long_from, long_stop, nothing_seen, outcomes_seen, pair_of, record_seen, seen_with_status, sent_in, with_begun}
pub use Rattle.sercos_master.specs.Annals.{Call, End, HearAt, HearMst, IsPlanned, IsPlannedBy, Mdt, Past, Restart, Turn, addressed_before, addressed_in, after_at, after_at_of, after_end, after_mdt, after_mst, after_restart, after_taken, all_checked, all_read, all_ready, begins, begun, count_addressed, fall_of, first_from, first_place, first_trouble, first_trouble_from, goes_on, has_lost_at, has_lost_mst, has_turn, hearing, in_turn, is_at_limit, is_awaited, is_done, is_done_in, is_identified, is_idle, is_mst, is_plan_due, is_sent_to, is_taken, new_epoch, next_phase, next_task, outcomes, past, place_of, planned_by, ready_to_send, sent_to, settled, still_waiting, trouble, wanted_len, whole_row, with_begin, with_due_plan, with_plan, with_stop, with_task}
pub use Rattle.sercos_master.specs.Any.{AnyStandsFor, Closes}
pub use Rattle.sercos_master.specs.Kept.{AreFresh, CoreStandsFor, CoreView, Fits, IsIn, SeatsStandFor, has_missed, place_in, records_upto, seen_at, sent_now, waited_for, waited_row, waited_with, with_pair}
pub use Rattle.sercos_master.specs.Reports.{AreOpen, HasRestarted, closing_told, events_told, inserted, restart_told, stop_told, with_broken, with_report, with_reports}
pub use Rattle.sercos_master.specs.Says.{Sent, idle, joint, mdt_said, record_to, records_from, sent_as, single}
pub use Rattle.sercos_step.proofs.Flags.{and_left}
