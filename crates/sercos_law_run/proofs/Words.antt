-- The words that the proofs speak in, of std, of the crates below and of this crate's specs, each under one name.
pub use Rattle.sercos_law_channel.proofs.Options.{all_at as each_at, cases_Option, some_there}
pub use Rattle.std.proofs.Common.{Bool, Err, List, None, Ok, Option, Result, Some, [], ap, append-nil, append_assoc, ap₂, arith, cond, drop, false, get_or, if◌then◌else◌, inl, inr, length, length-append, map, max, not, refl, replicate, subst, suc, sym, take, true, zero, ℕ, ◌%◌, ◌&&◌, ◌*◌, ◌++◌, ◌+◌, ◌-◌, ◌/◌, ◌<◌, ◌^◌, ◌||◌, ◌↔◌, ◌∙◌, ◌∷◌, ◌≡◌, ◌≢◌, ◌≤◌, ◌⊎◌}
pub use Rattle.std.proofs.Math.Nat.{le_of_mul-le-mul_left, mul-le-mul_left}
pub use Rattle.std.proofs.Math.Seq.{drop-append-add, drop-append_seam, take-append_seam}
pub use Rattle.std.proofs.lemmas.Bool.{and_from, and_parts, both_ways, cases_Bool, cases_eq, cases_lt, cases_order, cond-false, cond-true, cond_both, eq-eqb, eqb-false, eqb-true, false_from_ne_true, false≢true, le-leb, le-ltb, leb-true, lt-leb, ltb-true, ne_eqb, not-false, not-true, or_cases, or_from, or_parts, or_right, true≢false}
pub use Rattle.std.proofs.lemmas.Bool.Decides.{nat_tests}
pub use Rattle.std.proofs.lemmas.List.{get_or_past, length-map, map-append, take_all}
pub use Rattle.std.proofs.lemmas.List.Concat.{flat_map-cons}
pub use Rattle.std.proofs.lemmas.List.Elements.{All-cons, All-from_get_or, All-from_recursion, All-head, All-map, All-nil, All-push, All-tail}
pub use Rattle.std.proofs.lemmas.List.Filters.{length-filter_both}
pub use Rattle.std.proofs.lemmas.List.Folds.{find-append, list_any-append}
pub use Rattle.std.proofs.lemmas.List.FromFn.{length-map-range_with_len}
pub use Rattle.std.proofs.lemmas.List.Kept.{AllPairs-cons}
pub use Rattle.std.proofs.lemmas.List.Sorted.{list_any-IsPermutation}
pub use Rattle.std.proofs.lemmas.List.Sums.{fold-append, sum_by-append, sum_by-cons, sum_by-take-drop, sum_by_push}
pub use Rattle.std.proofs.lemmas.Option.{get_or_from_slice_get, none-some, same_Some, slice_get-get_or, slice_get_within}
pub use Rattle.std.proofs.Math.Bool.{or_self_left}
pub use Rattle.std.specs.Bool.{then_some}
pub use Rattle.std.specs.Int.{from_le_bytes, to_le_bytes, w16, w32}
pub use Rattle.std.specs.List.{All, AllByRecursion, AllPairs, concat, filter, find, flat_map, fold, last_or, list_all, list_any, position, position_or_len, sum, sum_by}
pub use Rattle.std.specs.Option.{option_or}
pub use Rattle.std.specs.Prelude.{IfOk, IfSome, IsSome, OnErr, is_none, is_some, min, nat_le, nat_lt, negsuc, option_and_then, option_map, pos, slice_get, slice_index, slice_index_or, unwrap_or, ◌+ℤ◌, ◌==◌}
pub use mathlib.Core.Bool.{beq}
pub use Rattle.sercos_model.proofs.BitLemmas.{AreBytes-append, AreBytes-by_index, AreBytes-bytes_of, AreBytes-get_or, AreBytes-take}
pub use Rattle.sercos_model.proofs.FaultLemmas.{none_of-or, none_of-then}
unfoldable pub use Rattle.sercos_model.specs.Bits.{AreBytes}
pub use Rattle.sercos_model.specs.Frames.{IsFrame, wire_bits}
pub use Rattle.sercos_hdlc.proofs.FramingLemmas.{IsFrame-framed, length-IsFrame, no_longer_frame}
pub use Rattle.sercos_hdlc.proofs.ReasonLemmas.{IsFrame-reason_none, reason_of-IsFrame}
pub use Rattle.sercos_hdlc.specs.Reason.{content_of as content_read, plain, reason_of}
unfoldable pub use Rattle.sercos_hdlc.specs.Stuffed.{frame_of}
pub use Rattle.sercos_hdlc.specs.declared.bad_frame.BadFrame.{BadFrame}
pub use Rattle.sercos_telegram.proofs.Spellings.{head_fault-none}
pub use Rattle.sercos_telegram.specs.Faults.{at_fault, joint_fault, single_fault}
unfoldable pub use Rattle.sercos_telegram.specs.Faults.{head_fault, mst_fault}
pub use Rattle.sercos_telegram.specs.Kinds.{is_at, is_mdt}
pub use Rattle.sercos_telegram.specs.Spells.{all_drives, mst_content}
unfoldable pub use Rattle.sercos_telegram.specs.Spells.{fields, word_at, word_bytes}
pub use Rattle.sercos_telegram.specs.Words.{control_element, has}
unfoldable pub use Rattle.sercos_telegram.specs.Words.{control_of, status_of}
pub use Rattle.sercos_telegram.specs.declared.layout.Kind.{Kind}
pub use Rattle.sercos_telegram.specs.declared.layout.Layout.{Layout}
pub use Rattle.sercos_telegram.specs.declared.layout.Layout.TheVariants.{Address, Length as LengthFault}
pub use Rattle.sercos_telegram.specs.declared.words.Status.{Status}
pub use Rattle.sercos_idn.proofs.AttributeLemmas.{attribute_fault-attribute_word, attribute_of-attribute_word, attribute_word-below}
pub use Rattle.sercos_idn.specs.Attributes.{attribute_word}
unfoldable pub use Rattle.sercos_idn.specs.Attributes.{attribute_of}
pub use Rattle.sercos_idn.specs.Codes.{is_list, item_len}
unfoldable pub use Rattle.sercos_idn.specs.Codes.{attribute_fault}
pub use Rattle.sercos_idn.specs.Commands.{to_cancel}
pub use Rattle.sercos_idn.specs.declared.attribute.Attribute.{Attribute}
pub use Rattle.sercos_idn.specs.declared.code.Code.{Code}
pub use Rattle.sercos_idn.specs.declared.idn.Idn.{Idn}
pub use Rattle.sercos_idn.specs.declared.kinds.Length.{Length}
pub use Rattle.sercos_idn.specs.declared.kinds.Length.TheVariants.{Four, List1, List2, List4, Two}
pub use Rattle.sercos_timing.proofs.BreakLemmas.{fits_from}
pub use Rattle.sercos_timing.specs.Examples.{two_drives}
pub use Rattle.sercos_timing.specs.Inequalities.{Fits, Meets, asked_2, asked_3, asked_4, asked_5, greatest_tmtsy, positions}
pub use Rattle.sercos_timing.specs.Limits.{most_cycle}
pub use Rattle.sercos_timing.specs.Order.{at_bits, bits_of, mdt_bits, no_wish, previous, record_bytes, same_slave, sent, times, wish}
pub use Rattle.sercos_timing.specs.Valid.{AreDistinct, IsValid, addresses, is_address}
unfoldable pub use Rattle.sercos_timing.specs.Valid.{is_control, is_cycle, is_rate}
pub use Rattle.sercos_timing.specs.Views.{PlanView, WishesView}
pub use Rattle.sercos_timing.specs.declared.wishes.Times.{Times}
pub use Rattle.sercos_timing.specs.declared.wishes.Wish.{Wish}
pub use Rattle.sercos_block.proofs.OpenLemmas.{IsNew, IsNew-block_fault, IsStore-store_of, all_inserted, store_of-permutes}
pub use Rattle.sercos_block.proofs.PutLemmas.{IsWritten-at, find_block-at, find_block-nowhere, fits-given, fits-is_len, fits-put_fault, with_data-nowhere}
pub use Rattle.sercos_block.proofs.RingLemmas.{IsRing-is_ring}
pub use Rattle.sercos_block.proofs.SoundLemmas.{SoundParts, SoundParts-is_sound, found-carried, found_sound, max_len_bound}
pub use Rattle.sercos_block.proofs.TypeLemmas.{bytes_from, types}
pub use Rattle.sercos_block.proofs.WishLemmas.{IsValid-wishes_of, length_wishes}
pub use Rattle.sercos_block.specs.Blocks.{bits_in, bytes_for, is_fixed, is_number, is_protected, number_end, width_of}
unfoldable pub use Rattle.sercos_block.specs.Blocks.{element_of}
pub use Rattle.sercos_block.specs.BuiltIns.{built_in_block, built_ins, is_built_in, opening_limit, row}
unfoldable pub use Rattle.sercos_block.specs.BuiltIns.{built_in}
pub use Rattle.sercos_block.specs.Rings.{HasLens, has_drive_numbers, has_ring_numbers, is_no_command, number_len, record_len, value_len, wish_of}
unfoldable pub use Rattle.sercos_block.specs.Rings.{are_cyclic, are_drive_numbers, are_drives, are_ring_numbers, are_times, are_turns, attribute_in, block_attribute, built_in_attribute, cyclic_len, has_address, has_blocks, has_drives, has_other_data, is_drive, is_order, is_ring, is_turn, listed_len, mdt_len, own_attribute, row_in, wishes_of}
pub use Rattle.sercos_block.specs.Rules.{has_block, is_printable, is_text}
unfoldable pub use Rattle.sercos_block.specs.Rules.{block_fault, blocks_fault}
pub use Rattle.sercos_block.specs.Startup.{startup_bound, startup_of}
pub use Rattle.sercos_block.specs.Stores.{IsStore, IsTyped, find_block, is_above, is_below, is_invalid, is_len, is_long, is_short, is_sound, put_fault, read_fault, with_data, with_value, write_fault}
unfoldable pub use Rattle.sercos_block.specs.Stores.{are_ascending, data_fault, inserted, is_typed, store_of, with_own}
pub use Rattle.sercos_block.specs.ValidRings.{IsRing}
pub use Rattle.sercos_block.specs.Views.{DriveView, RingView}
pub use Rattle.sercos_block.specs.declared.block.Block.{Block}
pub use Rattle.sercos_block.specs.declared.built_in.BuiltIn.{BuiltIn}
pub use Rattle.sercos_block.specs.declared.built_in.Opening.{Opening}
pub use Rattle.sercos_block.specs.declared.built_in.Opening.TheVariants.{CycleTime, Empty, T1min, T4min, Tatat, Tatmt, Tmtsg, Tmtsy, Zero}
pub use Rattle.sercos_block.specs.declared.check.BadBlock.{BadBlock}
pub use Rattle.sercos_block.specs.declared.check.Field.{Field}
pub use Rattle.sercos_plan.proofs.AnswerLemmas.{is_of_least, planned_least, planned_none, roomy_test}
pub use Rattle.sercos_plan.proofs.LeastLemmas.{Among}
pub use Rattle.sercos_plan.proofs.PlanLemmas.{among_greatest, least_fits, rate_some}
pub use Rattle.sercos_plan.proofs.ReachLemmas.{one_of}
pub use Rattle.sercos_plan.specs.ChainOf.{chain_of, planned}
pub use Rattle.sercos_plan.specs.Least.{IsLeast, NoneFits}
pub use Rattle.sercos_plan.specs.LeastTimes.{is_roomy, least_t1}
unfoldable pub use Rattle.sercos_plan.specs.LeastTimes.{least_plan}
pub use Rattle.sercos_plan.specs.Views.{ChainView}
pub use Rattle.sercos_step.proofs.AnswerCounts.{times_le}
pub use Rattle.sercos_step.proofs.Ends.{has_next, read_ends, write_ends}
pub use Rattle.sercos_step.proofs.Flags.{and_left, and_right}
pub use Rattle.sercos_step.proofs.WrittenWords.{length-at_least_one, length-words_of}
pub use Rattle.sercos_step.specs.Jobs.{AreJobs, IsJob}
pub use Rattle.sercos_step.specs.Steps.{AreAnswers as AreStepAnswers, AreTypedJobs, IsTypedRequest, a_step, answer_words, asks_attribute, attribute_then, is_whole, next_step, opening, outcome_of, polling, reading, result_of, run, steps_before, steps_of, writing}
pub use Rattle.sercos_step.specs.Words.{at_least_one, bytes_in, shape_by, shape_of, words_in_list, words_of, words_told}
pub use Rattle.sercos_step.specs.declared.request.Job.{Job}
pub use Rattle.sercos_step.specs.declared.request.Outcome.{Outcome}
pub use Rattle.sercos_step.specs.declared.request.Request.{Request}
pub use Rattle.sercos_step.specs.declared.shape.Shape.{Shape}
pub use Rattle.sercos_step.specs.declared.step.Answer.{Answer}
pub use Rattle.sercos_step.specs.declared.step.Step.{Step}
pub use Rattle.sercos_command.proofs.CallLemmas.{passes_by_first}
pub use Rattle.sercos_command.proofs.History.{find-settings, is_none-settings, is_passed-kept}
pub use Rattle.sercos_command.specs.Calls.{CommandCall, CommandHistory, Other, Reset, Wrote, change_in, is_passed, is_set, setting_of, status_in, with_call}
unfoldable pub use Rattle.sercos_command.specs.Calls.{with_check_list}
pub use Rattle.sercos_command.specs.Checks.{data_at, idns_in as idns_listed, is_cyclic, is_outside, list_bytes, listed_if}
unfoldable pub use Rattle.sercos_command.specs.Checks.{breaks_1, breaks_10, breaks_15, breaks_2, breaks_6, breaks_7, breaks_8, breaks_89, breaks_9, breaks_list, carried_len, idns_at, number_at, unfit_for_phase_3, unfit_for_phase_4}
pub use Rattle.sercos_command.specs.Kept.{AreInOrder, find_set, first_passed_in, is_from, newest_cycle, passed_so_far, set_in, settings, with_set, without}
pub use Rattle.sercos_command.specs.Settings.{ends_well, has_ended, is_command, status_by}
pub use Rattle.sercos_command.specs.declared.commands.SetCommand.{SetCommand}
pub use Rattle.sercos_service_drive.proofs.AllowedWrites.{alike, allowed, those_moved}
pub use Rattle.sercos_service_drive.proofs.WordLemmas.{length-bytes_in}
pub use Rattle.sercos_service_drive.proofs.WriteAnswers.{in_order-append, length-in_order}
pub use Rattle.sercos_service_drive.specs.Log.{Entry, Processed, accepted, ahs, in_order, open_idn, opens, processed_record, run_before, selection}
pub use Rattle.sercos_service_drive.specs.Replies.{answer_by, answered, copy, ends_early, good, is_first_word, is_no_command_value, is_over, is_uneven, list_words, log_of, missing, read_cause, refused, reply_at, reply_of, reply_on, write_cause_in}
unfoldable pub use Rattle.sercos_service_drive.specs.Replies.{bytes_written, data_in, element_words, write_cause}
pub use Rattle.sercos_service_drive.specs.Says.{Shown, channel_says, shown, shown_by}
pub use Rattle.sercos_service_drive.specs.Writes.{AreAlike, AreThose, Write, added_by, added_on, adds, blocks_with, calls_with, command_value, commands_with, takes_effect, with_added, without_data, writes_of, written_by}
pub use Rattle.sercos_service_master.specs.Begun.{Begun, Said as StepSaid, answer_in, answers_in, answers_it, master_says, mhs_in, open_in, outcome_with, said_by, step_at, step_or_none, steps_begun, steps_in, with_answer, with_step}
pub use Rattle.sercos_service_master.specs.Calls.{Begin, Call as ChannelCall, EndCycle, Hear, Send, age_of, begun_by, cycles_open}
pub use Rattle.sercos_trace.specs.Views.{CycleView, EventsView, SentView}
pub use Rattle.sercos_trace.specs.declared.events.Fall.{Fall}
pub use Rattle.sercos_trace.specs.declared.events.Fall.TheVariants.{AtLost, MstLost, StepLimit}
pub use Rattle.sercos_trace.specs.declared.events.Stop.{Stop}
pub use Rattle.sercos_trace.specs.declared.record.Move.{Move}
pub use Rattle.sercos_trace.specs.declared.record.Totals.{Totals}
pub use Rattle.sercos_drive.proofs.DriveLemmas.{those_at}
pub use Rattle.sercos_drive.proofs.RecordLemmas.{mst_below, phase_below}
pub use Rattle.sercos_drive.proofs.Worked.{drive}
pub use Rattle.sercos_drive.specs.Annals.{accepted_at, annals, ends_in, may_rise, mdt_moment, phase_at, processed_in as processed_at, stands_in, store_at, takes}
pub use Rattle.sercos_drive.specs.Heard.{DriveCall, Mdt, Mst, Restart as DriveRestart, lies_within, mdt_got, mst_got, told_at}
unfoldable pub use Rattle.sercos_drive.specs.Heard.{joint_in, single_in}
pub use Rattle.sercos_drive.specs.Laws.{HandedThose}
pub use Rattle.sercos_drive.specs.Moments.{AtMst, Moment, blocks_after, blocks_in, calls_after, calls_in as command_calls, commands_in, cycle_in, has_missed, has_mst, has_taken, phase_in, records_in, unless_phase_0, with_reset, write_in, writes_in}
pub use Rattle.sercos_drive.specs.Says.{Said, bytes_in_cycle, drive_says, said, said_in, sends, shown_word, start_in, values_in}
unfoldable pub use Rattle.sercos_drive.specs.Says.{value_in}
pub use Rattle.sercos_drive.specs.Steps.{commands_after, reset_in}
pub use Rattle.sercos_drive.specs.declared.hearing.Told.{Told}
pub use Rattle.sercos_seat.proofs.Agendas.{ended_there, next_2, next_3, not_checked, reads_length}
pub use Rattle.sercos_seat.proofs.Channels.{going_on}
pub use Rattle.sercos_seat.proofs.Gets.{get_left, get_map, get_right, get_some, length_map}
pub use Rattle.sercos_seat.proofs.Queues.{next_request, ready_long, ready_stays}
pub use Rattle.sercos_seat.proofs.Seats.{before_end, behind_end}
pub use Rattle.sercos_seat.proofs.Sends.{fields_length, seen_length}
pub use Rattle.sercos_seat.specs.Agenda.{RecordEntry, after_reads, agenda, asked_by, at_len, attribute_stop, bytes_of, checking, declared_times, ended_well, entries_from, given, has_four_bytes, idn, idns_in, is_checked, is_read, is_ready, last_long_stop, len_or_none, len_said, list_stop, long_in, mdt_attributes, reads, reads_count, record_entries, short_in, stop_by, stop_of_entry, wish_given, wishes_from, wishes_given, words_given, writes, writes_list, writes_word}
pub use Rattle.sercos_seat.specs.Channel.{Report, broken_number, count_requests, is_place, last_outcome, number_in, numbered, of_phase, outcomes_in, report_of, trouble_by, with_outcome}
pub use Rattle.sercos_seat.specs.Records.{record_said, value_said, values_said, word_said}
pub use Rattle.sercos_seat.specs.Ring.{HasLists, IsKnown, Known, MemberView, Task, known_of, member, member_of, no_member, request_task, startup, tasks_for, tasks_from}
pub use Rattle.sercos_seat.specs.Seats.{AreWaiting, next_in_2, next_in_3}
pub use Rattle.sercos_master.proofs.Configured.{configured, each_passes, leaves, mdt_adds, ready, stays_ready}
pub use Rattle.sercos_master.proofs.Followed.{HasNext, never_idle, no_stop_before, none_troubled, not_longer, settles}
pub use Rattle.sercos_master.proofs.InOrder.{still_left, tasks_numbered}
pub use Rattle.sercos_master.proofs.Keeping.{Brings, OfChain, OfRecords, OfTrouble, at_keeps, begins_next, channel_keeps, end_keeps, first_found, going, made, never_both, none_of, past_keeps, settled_keeps, stopped}
pub use Rattle.sercos_master.proofs.Laws.{all_waiting, jobs_waiting, tasks_wait, waiting_at, waiting_settled}
pub use Rattle.sercos_master.proofs.Openings.{known_of-IsRing, mapped_length}
pub use Rattle.sercos_master.proofs.Places.{other_place, same_place}
pub use Rattle.sercos_master.proofs.Planned.{Adds, asks_same, at_adds, is_planned, part_before, read_stays}
pub use Rattle.sercos_master.proofs.Rings.{due_stopped, none_of_some, stop_stays}
pub use Rattle.sercos_master.proofs.Sent.{fits_planned}
pub use Rattle.sercos_master.proofs.Wishes.{is_valid, wish_there, wishes_length}
pub use Rattle.sercos_master.specs.Annals.{Call, End, HearAt, HearMst, IsPlanned, Mdt as MasterMdt, Past, Restart, Turn, addressed_before, addressed_in, after_at, after_at_of, after_end, after_mdt, after_restart, after_taken, all_checked, all_identified, all_read, all_ready, begins as task_begun, begun, count_addressed, fall_at, fall_of, first_from, first_place, first_trouble, first_trouble_from, goes_on, has_identified, has_lost_at, has_lost_mst, has_turn, hearing, in_turn, is_at_limit, is_awaited, is_done, is_done_in, is_identified, is_idle, is_mst, is_plan_due, is_sent_to, is_taken, new_epoch, next_phase, next_task, outcomes, past, place_of, planned_by, ready_to_send, sent_to, settled, still_waiting, trouble, wanted_len, whole_row, with_begin, with_due_plan, with_stop, with_task}
pub use Rattle.sercos_master.specs.Kept.{records_upto, seen_at}
pub use Rattle.sercos_master.specs.Reports.{broken, events_told, plan_told, restart_told, stop_told, with_report, with_reports}
pub use Rattle.sercos_master.specs.Says.{Sent, idle, joint, mdt_said, mst_said, record_to, records_from, said_to, single}
pub use Rattle.sercos_script.proofs.CutLemmas.{unflipped_only_cuts}
pub use Rattle.sercos_script.specs.Cuts.{IsCut, OnlyCuts}
pub use Rattle.sercos_script.specs.Links.{Carry, IsQuiet, Restarts, carried_clean, never_restarts}
unfoldable pub use Rattle.sercos_script.specs.Scripts.{acts, carried, restarts_at}
pub use Rattle.sercos_script.specs.declared.fault.Damage.{Damage}
pub use Rattle.sercos_script.specs.declared.fault.Damage.TheVariants.{Cut, Deaf, Flip, Lose}
pub use Rattle.sercos_script.specs.declared.fault.Fault.{Fault}
pub use Rattle.sercos_script.specs.declared.link.Passage.{Passage}
pub use Rattle.sercos_law_channel.proofs.Cited.{always_opens, begins_empty, in_cost, make_transfers, rest_in_cost, rest_since, runs_exact, start_in_cost, written_stays}
pub use Rattle.sercos_law_channel.proofs.Handshake.Once.{reads_once, says_shape}
pub use Rattle.sercos_law_channel.proofs.Handshake.CommandEnds.{ends_with_status}
pub use Rattle.sercos_law_channel.proofs.Handshake.CommandStages.{sets_and_cancels}
pub use Rattle.sercos_law_channel.proofs.Handshake.EpochRuns.{begun_of, heard_of, in_step_in, joined, restarted, shown_of, start, start_begun, whole_row-le}
pub use Rattle.sercos_law_channel.proofs.Handshake.HandshakeMoves.{log-taken}
pub use Rattle.sercos_law_channel.proofs.Handshake.LogParts.{have_replies}
pub use Rattle.sercos_law_channel.proofs.Handshake.ProtectedWrites.{stays_protected}
pub use Rattle.sercos_law_channel.proofs.Handshake.ReadRows.{some_same}
pub use Rattle.sercos_law_channel.proofs.Handshake.RunFacts.{comes_to_zero, comes_up, handshake, moved_same, processes_in_phase, stands_as_commanded, stands_no_later}
pub use Rattle.sercos_law_channel.proofs.Handshake.StoredValues.{holds_newest}
pub use Rattle.sercos_law_channel.proofs.Pace.AgeRuns.{ages_in_time, ages_where_dead, log_grows}
pub use Rattle.sercos_law_channel.proofs.Pace.CallAges.{ages_before_end, none_late, stays_a_run}
pub use Rattle.sercos_law_channel.proofs.Pace.CostRuns.{stays_in_cost_since}
pub use Rattle.sercos_law_channel.proofs.Pace.ExactAges.{answers_at_age}
pub use Rattle.sercos_law_channel.proofs.Pace.JobCosts.{list_read_costs, reads_cost, writes_cost}
pub use Rattle.sercos_law_channel.proofs.Pace.LateMoves.{BusyLate, FreeLate, NewLate, WorksLate, heard_late}
pub use Rattle.sercos_law_channel.proofs.Pace.LateRuns.{head_before, taken_before}
pub use Rattle.sercos_law_channel.proofs.Pace.OnTime.{joins}
pub use Rattle.sercos_law_channel.proofs.Pace.TimedCommands.{comes_timed}
pub use Rattle.sercos_law_channel.proofs.Pace.WholeCycles.{got_some, hears_throughout, is_clean_or_down, moved_next, recovers_in_time, stands_throughout, stays_clean, stays_dead}
pub use Rattle.sercos_law_channel.proofs.Theorems.{Allows, Cancels, Down, Ends as TransferEnds, GoesOn as TransferGoesOn, HasReplies, IsEpoch, IsRead-alike, IsRefused, IsWhole as TransferWhole, Nothing, Poll, Processes, Reads, Record, Stands, accepts_in_order, answered_replies, cancels_well, comes_to, commanded, cycle_exact, ends, ends_so, entries_ago, entries_in_epochs, epoch, fall_into_parts, few_steps, find-alike, four_bytes, goes_on-outcome_of, heard_none, high_of, in_step, is_nil, kept_same, length-replies_of, length-steps_begun, length-steps_of, list_shape, long_words, low_of, newest_step, next_poll, next_setting, nothing_old, only_opening, open_late, passes_by_setting, passes_last, printable_bytes, processed_phase, processed_some, processes, reply-read, reply_high, reply_low, said_of, same_log, split_blocks, split_replies, stands, stays_passed, stays_passed_last, those_kept, those_since, times_suc, told as told_of, two_bytes, up_by, without_newest, written}
pub use Rattle.sercos_law_channel.specs.Handshake.CommandTransfers.{GivesStatus, added_by_setting, cancelled_by, second_of, setting}
pub use Rattle.sercos_law_channel.specs.Handshake.Epochs.{begun_in, command, command_in, epoch_begun, epoch_log, epoch_records, log_in, records_in_views, unless_restart, with_begun, with_heard}
pub use Rattle.sercos_law_channel.specs.Handshake.Exact.{AreExact, AreWrites, Broken, Complete, Given, Refused, given_by, given_of, gives, written_to}
pub use Rattle.sercos_law_channel.specs.Handshake.InStep.{AreInStep, Idle, Kept, log_steps, replies_of}
pub use Rattle.sercos_law_channel.specs.Handshake.Moves.{with_processed, with_status}
pub use Rattle.sercos_law_channel.specs.Handshake.Parts.{AreInTurn, AreParts, Heard as HeardPart, IsPart, IsRow, Unheard, Unsent}
pub use Rattle.sercos_law_channel.specs.Handshake.ReadTransfers.{IsReadAt, element_in, entry_behind}
pub use Rattle.sercos_law_channel.specs.Handshake.RunLaws.{AreBefore, BeginsEmpty, phase_commanded}
pub use Rattle.sercos_law_channel.specs.Handshake.Runs.{IsNext as IsNextView, IsRun as IsViewRun, IsShown}
pub use Rattle.sercos_law_channel.specs.Handshake.Transfers.{AreReplies, HaveBlocks, IsTransfer, is_complete, stored}
pub use Rattle.sercos_law_channel.specs.Handshake.Values.{GiveElsewhere, StaysWritten, is_plain, newest_to, store_in}
pub use Rattle.sercos_law_channel.specs.Handshake.Views.{Heard, Standing, View, afresh, before_mst, got_in, kept_in, kept_in_phase, kept_unless, moved, processed_in, processed_of, record_in, since_reset, standing, standing_after, stood_from, stood_in, takes_in, with_record}
pub use Rattle.sercos_law_channel.specs.Handshake.WholeRun.{AreSmall, AreSound, IsSound, accepted_of, all_begun, all_entries, all_writes, begun_ago, write_of}
pub use Rattle.sercos_law_channel.specs.Pace.Ages.{AreAtWork, age_by, age_in}
pub use Rattle.sercos_law_channel.specs.Pace.Carried.{AreCarried, set_after}
pub use Rattle.sercos_law_channel.specs.Pace.ChannelCalls.{age_if_open, calls_begun, calls_heard, calls_in, calls_sent, channel_calls, staying}
pub use Rattle.sercos_law_channel.specs.Pace.Costs.{AreListed, AreTimed, cost_in, cost_of}
pub use Rattle.sercos_law_channel.specs.Pace.Jobs.{AreWordWrites, AreWords, IsListBlock, IsWord, IsWordWrite, ListReadCosts, ReadsCost, WritesCost}
pub use Rattle.sercos_law_channel.specs.Pace.Passages.{ArePassed, AreWhole, BeginsEpoch, IsDead, IsPassed, IsUp, IsWhole, RecoversInTime, was_addressed}
pub use Rattle.sercos_law_channel.specs.Pace.Passes.{sets_to}
pub use Rattle.sercos_law_channel.specs.Pace.StartCosts.{RecoversSince}
pub use Rattle.sercos_law_channel.specs.Pace.Stretches.{AreClean, open_since}
pub use Rattle.sercos_law_channel.specs.Pace.Times.{one_more}
pub use Rattle.sercos_law_run.specs.Agenda.Channels.{AreMoves, Begins, CallsAreMoves, Channel, Ends, Falls, GoesByMoves, Hears, Identifies, IsDoneWith, IsNextTask, Moves, Plans, Stays, Steps, Within, beginning, channel_at, new_channel, newest, outcome_in}
pub use Rattle.sercos_law_run.specs.Agenda.Events.{AreEquivalent, AreTold, AreToldAtRestart, HasOutcome, HasReport}
pub use Rattle.sercos_law_run.specs.Agenda.Reads.{AreReadWell, ReadsWell}
pub use Rattle.sercos_law_run.specs.Agenda.Reported.{AreNumbered, AreRequests, Ascend, Descend, IsAtStart, IsReportOf, RestartsAtStart, TellsInOrder, TellsOnce, TellsRight, after_told, broken_in, still_to_tell, task_numbers, told, told_at_end, with_number, with_told}
pub use Rattle.sercos_law_run.specs.Agenda.Stops.{AreTooLong, Check127HasCause, Check128HasCause, HasFailedCheck, HasRefused, IsBadAttribute, NoFitHasCause, RefusedHasCause}
pub use Rattle.sercos_law_run.specs.Agenda.Tasks.{AreBegunTasks, BeginsNoneEarly, BeginsTasks, Checks3, Checks4, EndsTasks, HasBegunTasks, HasEndedAt, HasEndedWell, IsBegunTask, IsTask, Lists3, Lists4, OfReads, OfWaiting, OfWrites}
pub use Rattle.sercos_law_run.specs.Agenda.Turns.{HasTurn, WorkInTurn, WorksInFour, WorksInThree, WorksInTwo}
pub use Rattle.sercos_law_run.specs.Agenda.Writes.{ConfiguresAtRise, ConfiguresFromCheck, IsConfigured, IsWrittenLast, WritesData, start_numbers}
pub use Rattle.sercos_law_run.specs.Bounds.Bounds.{AreSections, AreShort, FewStatuses, FewWrites, IsBackAtOnce, IsBackLater, IsBelowGreatest, IsRefusedEarly, IsRefusedLate, IsReported, IsStarted, command_cycles, fall_cycles, greatest, least, listed, read_cycles, recovery_bound, refusal_cycles, return_cycles, section_cycles, slowest, spared_cycles, write_cycles, stop_cycles}
pub use Rattle.sercos_law_run.specs.Headline.Cycles.{AreApartIn, AreOnPlanIn, HaveRealBits, IsOnPlan, StandsNoLater, StartOnPlan, phase_before, store_in_cycle, takes_part}
pub use Rattle.sercos_law_run.specs.Headline.Headline.{KeepsAll}
pub use Rattle.sercos_law_run.specs.Headline.Records.{AreOnce, HasEnded, NumbersAscend}
pub use Rattle.sercos_law_run.specs.Headline.Stops.{StopsRight}
pub use Rattle.sercos_law_run.specs.Headline.Transfers.{AreInStepAt, AreReportedIn, IsExactAt, IsToldAt, OnStores}
pub use Rattle.sercos_law_run.specs.Held.Held.{AreHeld, AreProtected, HoldsThePlan, IsHeld}
pub use Rattle.sercos_law_run.specs.Held.Opened.{IsOpened}
pub use Rattle.sercos_law_run.specs.Held.Stored.{AreStored, IsStored}
pub use Rattle.sercos_law_run.specs.Journal.Arrivals.{any_below, are_same, arrival, disturbed_at, heard, is_disturbed, passage, sum_below, unseen_at}
unfoldable pub use Rattle.sercos_law_run.specs.Journal.Arrivals.{content_in, is_unseen}
pub use Rattle.sercos_law_run.specs.Journal.Harmless.{BothAreHarmless, CutsAreHarmless, IsHarmless, IsHarmlessAfterCuts, QuietIsHarmless}
pub use Rattle.sercos_law_run.specs.Journal.Records.{ats_in, mdt_in, mst_in}
pub use Rattle.sercos_law_run.specs.Journal.Runs.{IsClear, IsDisturbed, IsNext, IsRun, at_calls, at_mdt, at_mst, ats_next, ats_said, begin_calls, begins, content_of, contents, disturbs_ats, disturbs_mdt, disturbs_mst, drive_at, drive_calls, given_before, given_mdt, given_mst, is_disturbed_in, looks_back, master_calls, mdt_heard, mdt_next, mid_calls, middle, moves_below, mst_next, next_record, no_drive, no_events, own_mst, restart_events, run_of, said_below, sent_at, sent_mdt, sent_mst, start_before, station_from, station_of, unseen_ats, unseen_in, unseen_mdt, unseen_mst, with_at, with_restart, with_said}
pub use Rattle.sercos_law_run.specs.Recovery.AfterFalls.{AfterFall, StartsAgain}
pub use Rattle.sercos_law_run.specs.Recovery.FallsInTime.{IsSpared}
pub use Rattle.sercos_law_run.specs.Recovery.Predicts.{IsPredicted}
pub use Rattle.sercos_law_run.specs.Recovery.Recovers.{IsBack, RecoversIn, ReturnsIn, StandsAt}
pub use Rattle.sercos_law_run.specs.Recovery.Stretches.{IsDown, IsStretch, IsUpNow}
pub use Rattle.sercos_law_run.specs.Recovery.UpOrDown.{KeepsUp}
pub use Rattle.sercos_law_run.specs.Settings.SetByWrites.{AreSetBy, IsCommandAt, IsSetByWrites, SetByKept, SettingsFollow, commands_left, settings_left}
pub use Rattle.sercos_law_run.specs.Settings.WellSet.{AreSetWell, HaveStores, KeepsSettings, SetsWell, StandWell, are_well_set, is_well_set}
pub use Rattle.sercos_law_run.specs.Slots.OnPlan.{AreOnPlan, IsSentBefore, PlanKeepsApart, held_of}
pub use Rattle.sercos_law_run.specs.Slots.Sending.{AreAtsOf, IsApart, IsAtOf, IsInCycle, IsInCycleBy, IsSending, SendsSlots, at_slot, bit_time, mdt_slot}
pub use Rattle.sercos_law_run.specs.Slots.Slots.{AreApart, AreSeparate, AtSlot, HasPause, HasRecovered, Held, IsAtItsTime, IsServed, MdtSlot, end_of, mdt_content, record_start, slot_record}
pub use Rattle.sercos_law_run.specs.Start.Answers.{AreAnswers, AsksAsRing, HaveFactors, IsAnswer, NoAttributeStops, SaysLength, TypedHaveFactors, element_read}
pub use Rattle.sercos_law_run.specs.Start.Causes.{CausesAlike, ChecksEndWell, CycleCause, ListHasNoCause, NumberHasNoCause, RingIsValid, StopsWithList, is_start_number}
pub use Rattle.sercos_law_run.specs.Start.Held.{HoldsPlan, WritesStartUp, held_in}
pub use Rattle.sercos_law_run.specs.Start.Kept.{BlocksKeep, BuiltInIsSteady, NamesOwn, PassesForPhase4, RefuseAlike, RefusesCycle, TakesStartUp, WritesHold, WritesKeep, is_own_outside}
pub use Rattle.sercos_law_run.specs.Start.Later.{AreProtectedLater, AreStoredWhole, ChecksAreProtected, HoldsNext, IsProtectedLater, ListsStay, NoneOf, StartUpIsProtected, StayHeld, StoresStartUpWhole}
pub use Rattle.sercos_law_run.specs.Start.Own.{OwnAtOpening, OwnStay}
pub use Rattle.sercos_law_run.specs.Start.RingSlots.{AllHold, AreSent, RingKeepsApart, RingSendsApart, held_by}
pub use Rattle.sercos_law_run.specs.Start.StartUp.{AreAsLong, CarryAlike, Holds, IsStoreOf, PlanPassesCheck, is_given, kept, start_up}
pub use Rattle.sercos_law_run.specs.Stations.Cycles.{AlwaysPlain, ArePlain, given_start}
pub use Rattle.sercos_law_run.specs.Stations.Falls.{AreTo, FallsHaveCause, HasCause, Identification, IsLate, IsOpenFor, MissesAt, MissesMst, MstComesFirst, NoneReads, NoneReadsIn, comes_back, was_sent}
pub use Rattle.sercos_law_run.specs.Stations.Fit.{AlwaysLies, EmptyKeepsTimes, FitInFour, FitInThree}
pub use Rattle.sercos_law_run.specs.Stations.Lists.{ListsAreFound, found_for_3, found_for_4}
pub use Rattle.sercos_law_run.specs.Stations.Phases.{ByMdt, ByMst, ByPhase, ByRestart, Drops, DropsByCause, HasPassed, IsByMst, Rises, RisesByOne, StandsByMst, missed_before, misses, newest_got}
pub use Rattle.sercos_law_run.specs.Stations.Senders.{SendsAlone}
pub use Rattle.sercos_law_run.specs.Tolerance.Bears.{Bears, BearsSparse, BeginsAnew, IsBehind, IsFirst, Tolerates}
pub use Rattle.sercos_law_run.specs.Tolerance.Early.{early_cost, early_costs}
pub use Rattle.sercos_law_run.specs.Tolerance.Ends.{EndsSparse, IsUpOrStopped}
pub use Rattle.sercos_law_run.specs.Tolerance.Losses.{GoesOn, TakesTimeAndLosses, cycles_for, disturbances, loses_step, lost_since}
pub use Rattle.sercos_law_run.specs.Tolerance.Many.{EndsAnyway, RisesAnyway, own_costs, slow_bound, slow_startup_of}
pub use Rattle.sercos_law_run.specs.Tolerance.Reports.{ReportsSparse, cycles_commanded}
pub use Rattle.sercos_law_run.specs.Tolerance.Returns.{HasFallen, ReturnsSparse}
pub use Rattle.sercos_law_run.specs.Tolerance.Rises.{RisesSparse, start_cost, start_costs}
pub use Rattle.sercos_law_run.specs.Tolerance.Sparse.{AreCalm, AreSparse, CalmIsSparse, IsSparse, OneOfThreeIsSparse}
pub use Rattle.sercos_law_run.specs.Totals.Counting.{AreFew, HasRoom, IsFew, none_made, with_cycle}
pub use Rattle.sercos_law_run.specs.Totals.Totals.{ended_in, falls_in, is_broken, is_refused}
unfoldable pub use Rattle.sercos_law_run.specs.Totals.Totals.{totals_of}
pub use Rattle.sercos_law_run.specs.Typed.Clear.{HarmlessIsClear}
pub use Rattle.sercos_law_run.specs.Typed.Keeps.{AreRecords, IsRecord, Keeps, KeepsAlways, KeepsWithin}
pub use Rattle.sercos_law_run.specs.Typed.Spelled.{SpelledNext}
pub use Rattle.sercos_law_run.specs.Typed.Typed.{AreTyped}
pub use Rattle.sercos_law_run.specs.Undisturbed.CommandsFollow.{CommandsFollow, LogLeaves, commands_before, commands_ended}
pub use Rattle.sercos_law_run.specs.Undisturbed.Ends.{ComesToAnEnd, ComesToPhaseFour, HasBadCheck, StaysAtItsEnd}
pub use Rattle.sercos_law_run.specs.Undisturbed.EpochStarts.{StartsAtFall, StartsAtOpening, StartsAtRestart, StartsEpoch, came_back}
pub use Rattle.sercos_law_run.specs.Undisturbed.Fit.{FitsInThree, IsFit, OwnFitsInFour}
pub use Rattle.sercos_law_run.specs.Undisturbed.Jobs.{AreAt, jobs_of}
pub use Rattle.sercos_law_run.specs.Undisturbed.Reports.{HaveTold, ReportsInTime, left_after, request_cycles, waiting_after}
pub use Rattle.sercos_law_run.specs.Undisturbed.Sections.{AreInThree, AreInTwo, GoesOnInThree, GoesOnInTwo}
pub use Rattle.sercos_law_run.specs.Undisturbed.StartUps.{AgesUndisturbed, AnswersUndisturbed, CostsUndisturbed, NoneFalls, StaysUp, StaysUpUndisturbed, TellsNoFall, TellsNoFallUndisturbed}
pub use Rattle.sercos_law_run.specs.Undisturbed.StopsInTwo.{IsWithin, RefusesCycleTime, StopsForTheCycleTime, StopsForThePlan, StopsInTwo}
pub use Rattle.sercos_law_run.specs.Undisturbed.StopsLater.{EndsStartUp, IsRight, NoStopInFour, RisesIfRight, StopsForTheCheck, StopsInThree}
pub use Rattle.sercos_law_run.specs.Undisturbed.Undisturbed.{AreUndisturbed, IsUndisturbed, StaysClear}
pub use Rattle.sercos_law_run.specs.Undisturbed.ViewsSince.{views_since}
pub use Rattle.sercos_law_run.specs.Undisturbed.WholeRuns.{HasTold, NeverDisturbed, StartsUndisturbed, StartsUp, StopsForCause}
pub use Rattle.sercos_law_run.specs.Views.RingViews.{after_mst, at_start, behind_ats, behind_mdt, behind_mst, gets_record, heard_last, is_told, phase_got, request_of, told_to, view_of, views_of}
pub use Rattle.sercos_law_run.specs.Views.Spelled.{IsSaid, IsSayable, IsSpelled}
pub use Rattle.sercos_plan.proofs.ListedLemmas.{listed as plan_listed}
