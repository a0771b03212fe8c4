-- The words that the proofs speak in, of std, of the crates below and of this crate's specs, each under one name.
pub use Rattle.sercos_law_channel.proofs.Options.{cases_Option}
pub use Rattle.std.proofs.Common.{Bool, Err, List, None, Ok, Option, Some, [], ap, append-nil, append_assoc, ap₂, arith, codes, cond, drop, false, if◌then◌else◌, inl, inr, is_none, length, length-append, map, max, min, nat_le, nat_lt, not, option_map, pos, refl, reverse, slice_index_or, subst, suc, sym, take, true, unwrap_or, zero, ℕ, ℤ, ◌&&◌, ◌*◌, ◌++◌, ◌+ℤ◌, ◌+◌, ◌-◌, ◌<◌, ◌==◌, ◌||◌, ◌∙◌, ◌∷◌, ◌≡◌, ◌≤◌, ◌⊎◌}
pub use Rattle.std.proofs.Math.Nat.{mul-le-mul_left, mul-le-mul_right}
pub use Rattle.std.proofs.lemmas.Bool.{and_from, and_parts, cases_Bool, cases_eq, cases_lt, cond-false, cond-true, cond_both, eq-eqb, eqb-true, false≢true, le-leb, ne_eqb, not_from_false, or_left, or_parts, or_right}
pub use Rattle.std.proofs.lemmas.Bool.Decides.{Decides-int_eq, nat_tests}
pub use Rattle.std.proofs.lemmas.Grind.{flat_map-append, reverse_onto}
pub use Rattle.std.proofs.lemmas.List.{drop-drop, length-drop, length-map, length-take, reverse-append}
pub use Rattle.std.proofs.lemmas.List.Elements.{All-append, All-cons, All-drop, All-head, All-nil, All-tail, All-take}
pub use Rattle.std.proofs.lemmas.List.Folds.{find-append}
pub use Rattle.std.proofs.lemmas.List.Sums.{count_by-le-length, length-filter, sum_by-cons}
pub use Rattle.std.proofs.lemmas.Option.{none-some, same_Some, slice_get_within}
pub use Rattle.std.proofs.Math.Bool.{and-false, or-true}
pub use Rattle.std.specs.Int.Signed.{le_z}
pub use Rattle.std.specs.List.{All, AllPairs, concat, filter, find, flat_map, list_all, list_any, position_or_len}
pub use Rattle.std.specs.Option.{option_or}
pub use Rattle.std.specs.Ordering.{int_eq}
pub use Rattle.std.specs.Prelude.{IfSome, is_some, option_and_then, slice_get, slice_index}
pub use mathlib.Core.Bool.{beq}
pub use Rattle.sercos_model.proofs.BitLemmas.{AreBytes-bytes_of, AreBytes-get_or, AreBytes-take}
unfoldable pub use Rattle.sercos_model.specs.Bits.{AreBytes}
pub use Rattle.sercos_model.specs.Frames.{wire_bits}
pub use Rattle.sercos_hdlc.proofs.FramingLemmas.{length-IsFrame}
pub use Rattle.sercos_hdlc.specs.Reason.{content_of, plain, reason_of}
pub use Rattle.sercos_hdlc.specs.Stuffed.{frame_of}
pub use Rattle.sercos_telegram.specs.Faults.{joint_fault}
unfoldable pub use Rattle.sercos_telegram.specs.Faults.{head_fault, mst_fault}
pub use Rattle.sercos_telegram.specs.Spells.{all_drives, fields, mst_content}
pub use Rattle.sercos_telegram.specs.declared.layout.Kind.{Kind}
pub use Rattle.sercos_idn.specs.Elements.{data_element}
pub use Rattle.sercos_idn.specs.declared.code.Code.{Code}
pub use Rattle.sercos_idn.specs.declared.idn.Idn.{Idn}
pub use Rattle.sercos_timing.specs.Inequalities.{asked_1, asked_2, asked_3, asked_5, asked_6, asked_7, bound_9, greatest, greatest_tmtsy, sum_9}
pub use Rattle.sercos_timing.specs.Limits.{early_at, early_mdt, most_cycle, most_gap}
pub use Rattle.sercos_timing.specs.Order.{at_bits, first_sent, mdt_bits, neighbor, no_wish, previous, record_bytes, sent, times, wish}
pub use Rattle.sercos_timing.specs.Valid.{AreBelow, AreDistinct, IsCycle, IsValid, IsWish, addresses, is_address, is_control, is_cycle, is_rate}
pub use Rattle.sercos_timing.specs.Views.{PlanView, WishesView}
pub use Rattle.sercos_timing.specs.declared.wishes.Wish.{Wish}
pub use Rattle.sercos_block.proofs.RingLemmas.{IsRing-is_ring}
pub use Rattle.sercos_block.proofs.TypeLemmas.{types}
pub use Rattle.sercos_block.specs.Blocks.{is_fixed, is_protected}
pub use Rattle.sercos_block.specs.BuiltIns.{built_in, built_in_block, built_ins}
pub use Rattle.sercos_block.specs.Limits.{most_cycles}
pub use Rattle.sercos_block.specs.Rings.{at_len, has_address, has_drive_numbers, has_ring_numbers, wish_of}
unfoldable pub use Rattle.sercos_block.specs.Rings.{are_drive_numbers, are_drives, are_ring_numbers, is_ring, row_in, wishes_of}
pub use Rattle.sercos_block.specs.Rules.{blocks_fault}
pub use Rattle.sercos_block.specs.Startup.{startup_bound}
pub use Rattle.sercos_block.specs.Stores.{IsStore, find_block, store_of}
pub use Rattle.sercos_block.specs.ValidRings.{AreWithinLimits}
pub use Rattle.sercos_block.specs.Views.{DriveView, RingView}
pub use Rattle.sercos_block.specs.declared.block.Block.{Block}
pub use Rattle.sercos_block.specs.declared.built_in.BuiltIn.{BuiltIn}
pub use Rattle.sercos_plan.specs.ChainOf.{back_of, bits_of_starts, capture_chain, cycle_chain, first_greatest, first_tight, first_with, greatest_of, is_tight, link_of, mst_chain, planned, starts, trail_by_master}
unfoldable pub use Rattle.sercos_plan.specs.ChainOf.{chain_of}
pub use Rattle.sercos_plan.specs.Chains.{last_place}
pub use Rattle.sercos_plan.specs.LeastTimes.{greatest_t4min, is_roomy, least_bits, least_plan, least_t1, needed, round_up}
pub use Rattle.sercos_plan.specs.Views.{ChainView}
pub use Rattle.sercos_plan.specs.declared.chain.Link.{Link}
pub use Rattle.sercos_plan.proofs.PlanLemmas.{length_first}
pub use Rattle.sercos_step.proofs.Ends.{has_next, length-answer_words}
pub use Rattle.sercos_step.proofs.Flags.{and_left}
pub use Rattle.sercos_step.specs.Counts.{CountsAnswers, count_of}
pub use Rattle.sercos_step.specs.Steps.{AreAnswers, IsTypedRequest, answer_words, attribute_read, is_whole, opening, outcome_of, result_of, steps_before}
pub use Rattle.sercos_step.specs.Words.{bytes_in, bytes_read, shape_of, words_in}
pub use Rattle.sercos_step.specs.declared.request.Job.{Job}
pub use Rattle.sercos_step.specs.declared.request.Outcome.{Outcome}
pub use Rattle.sercos_step.specs.declared.request.Request.{Request}
pub use Rattle.sercos_step.specs.declared.shape.Shape.{Shape}
pub use Rattle.sercos_step.specs.declared.step.Answer.{Answer}
pub use Rattle.sercos_step.specs.declared.step.Step.{Step}
pub use Rattle.sercos_command.specs.Checks.{carried_len, data_at}
pub use Rattle.sercos_service_drive.specs.Log.{Entry, Processed, ahs}
pub use Rattle.sercos_service_drive.specs.Replies.{log_of, reply_of}
pub use Rattle.sercos_service_drive.specs.Writes.{AreAlike, Write, added_on, with_added, without_data, writes_of}
pub use Rattle.sercos_service_drive.proofs.WordLemmas.{length-bytes_in}
pub use Rattle.sercos_service_master.specs.Begun.{Begun, answer_in, answers_it, open_in, step_at, steps_begun, with_answer, with_step}
pub use Rattle.sercos_service_master.specs.Calls.{Begin, EndCycle, Hear, Send, begun_by}
unfoldable pub use Rattle.sercos_text.specs.Lists.{AreItems, IsItem, item_fault, item_len, item_of, item_text, kept_of, list_fault, list_len, list_of, list_text, listed_fault}
unfoldable pub use Rattle.sercos_text.specs.Tails.{IsTail, addresses_in, end_fault, idents_text, list_end_fault, tail_fault, tail_of, tail_text}
pub use Rattle.sercos_text.specs.Templates.{Value}
unfoldable pub use Rattle.sercos_text.specs.Templates.{AreOf, IsOf, IsSmall, byte_fault, bytes_by, field_fault, field_len, field_of, field_value, hex_text, is_template, items_of, line_fault, line_text, numbers_in, part_fault, part_left, part_len, part_text, part_values, signed_by, value_text, values_of}
pub use Rattle.sercos_text.specs.Templates.Value.{bytes, number, signed}
pub use Rattle.sercos_text.specs.declared.list.Item.TheVariants.{Address, Ident}
pub use Rattle.sercos_trace.specs.Kinds.{all_kinds, line_of, line_with}
unfoldable pub use Rattle.sercos_trace.specs.Kinds.{first_kind, kinds_fault, later, tail_for, template_of}
pub use Rattle.sercos_trace.specs.Lines.{ReadsBack, line_as, line_in}
unfoldable pub use Rattle.sercos_trace.specs.Lines.{line_by, telegram_kind}
pub use Rattle.sercos_trace.specs.Texts.{address_at, bound_text, chain_text, cycle_text, drive_text, drive_values, end_text, ended_text, events_text, header_text, link_text, move_text, moves_text, order_text, outcome_text, plan_line, raws, ring_text, sent_kind, sent_text, slot_text, slots_text, trace_of}
unfoldable pub use Rattle.sercos_trace.specs.Texts.{fall_text, plan_text, stop_text}
pub use Rattle.sercos_trace.specs.Views.{CycleView, EventsView, SentView}
pub use Rattle.sercos_trace.specs.declared.events.Fall.{Fall}
pub use Rattle.sercos_trace.specs.declared.events.Stop.{Stop}
pub use Rattle.sercos_trace.specs.declared.kind.LineKind.{LineKind}
pub use Rattle.sercos_trace.specs.declared.reading.Line.{Line}
pub use Rattle.sercos_trace.specs.declared.record.Move.{Move}
pub use Rattle.sercos_trace.specs.declared.record.Totals.{Totals}
pub use Rattle.sercos_check.specs.Names.{rule_number}
unfoldable pub use Rattle.sercos_check.specs.Rules.{first_broken}
pub use Rattle.sercos_check.specs.Rules.{broken_rule, goes_on, has_room, is_after_gap, is_after_mark, is_after_transition, is_cyclic, is_cyclic_at, is_cyclic_mdt, is_next_cycle, is_next_phase, keeps_frame, layout_of, start_of, starts_later}
pub use Rattle.sercos_check.specs.Seen.{Told, command_before, in_cycle, is_at_from, is_at_of, is_drive, is_mdt, is_mst, mark_of, newest_of, note_of, phase_of, slave_of, wish_for}
pub use Rattle.sercos_check.specs.Shape.{CanFollow, awaited_after, drive_or_order, drives_left, has_head, places, wishes_by}
pub use Rattle.sercos_check.specs.Tests.{TellsFollowing}
pub use Rattle.sercos_check.specs.Verdicts.{rule_broken, told}
pub use Rattle.sercos_check.specs.declared.marks.Command.{Command}
pub use Rattle.sercos_check.specs.declared.marks.Note.{Note}
pub use Rattle.sercos_check.specs.declared.rule.Rule.{Rule}
pub use Rattle.sercos_drive.proofs.RecordLemmas.{phase_below}
pub use Rattle.sercos_drive.proofs.Worked.{drive}
pub use Rattle.sercos_drive.specs.Annals.{annals, phase_at, store_at}
pub use Rattle.sercos_drive.specs.Heard.{DriveCall}
pub use Rattle.sercos_drive.specs.Moments.{Moment, blocks_in, cycle_in, phase_in}
pub use Rattle.sercos_drive.specs.Says.{Said, drive_says, said, start_in, values_in}
pub use Rattle.sercos_seat.proofs.Lengths.{lens}
pub use Rattle.sercos_seat.proofs.Queues.{ready_stays}
pub use Rattle.sercos_seat.proofs.Sends.{fields_length}
pub use Rattle.sercos_seat.proofs.Gets.{length_map}
pub use Rattle.sercos_seat.specs.Agenda.{asked_by, declared_times, idns_in, is_ready, reads, reads_count, writes}
pub use Rattle.sercos_seat.specs.Channel.{Report, broken_number, count_requests, number_in, outcomes_in, with_outcome}
pub use Rattle.sercos_seat.specs.Records.{word_said}
pub use Rattle.sercos_seat.specs.Ring.{HasLists, IsKnown, Known, MemberView, Task, known_of, member, member_of, no_member, request_task, tasks_for, tasks_from}
pub use Rattle.sercos_seat.specs.Seats.{AreWaiting}
pub use Rattle.sercos_master.proofs.Configured.{each_passes}
pub use Rattle.sercos_master.proofs.Followed.{not_longer, settles}
pub use Rattle.sercos_master.proofs.InOrder.{first_waiting, still_left}
pub use Rattle.sercos_master.proofs.Keeping.{at_keeps, channel_keeps, end_keeps, first_found}
pub use Rattle.sercos_master.proofs.Laws.{get_dropped, jobs_waiting}
pub use Rattle.sercos_master.proofs.Planned.{is_planned}
pub use Rattle.sercos_master.specs.Annals.{Call, End, HearAt, HearMst, IsPlanned, Mdt, Past, Restart, addressed_in, after_end, after_mdt, after_taken, fall_at, fall_of, first_place, has_lost_at, has_lost_mst, is_at_limit, is_done, is_done_in, is_identified, is_idle, is_sent_to, new_epoch, next_phase, outcomes, past, ready_to_send, settled, still_waiting, with_begin, with_task}
pub use Rattle.sercos_master.specs.Reports.{broken, inserted, outcomes_told, plan_told, restart_told, with_broken, with_report, with_reports}
pub use Rattle.sercos_master.specs.Says.{Sent, idle, joint, mdt_said, mst_said, said_to, single}
pub use Rattle.sercos_script.specs.Links.{Carry, Restarts}
pub use Rattle.sercos_script.specs.declared.fault.Damage.TheVariants.{Deaf}
pub use Rattle.sercos_script.specs.declared.fault.Fault.{Fault}
pub use Rattle.sercos_script.specs.declared.link.Passage.{Passage}
pub use Rattle.sercos_law_channel.proofs.Theorems.{Nothing, Processes, Record, added_bare, complete-outcome_of, cycle_exact, find-alike, flipped, goes_on-outcome_of, goes_on_at, holds_newest, length-replies_of, length-steps_begun, length-steps_of, processed_phase, processes, refused_opening, stays_fixed, written}
pub use Rattle.sercos_law_channel.specs.Handshake.CommandTransfers.{idn_of}
pub use Rattle.sercos_law_channel.specs.Handshake.Epochs.{begun_in, command, epoch_begun, epoch_log, epoch_records, log_in, records_in_views, unless_restart, with_begun, with_heard}
pub use Rattle.sercos_law_channel.specs.Handshake.Exact.{AreExact, AreWrites, Broken, Complete, Given, IsExact, Refused, given_by, given_of, written_to}
pub use Rattle.sercos_law_channel.specs.Handshake.InStep.{log_steps, replies_of}
pub use Rattle.sercos_law_channel.specs.Handshake.Parts.{AreParts, IsRow, Unheard, Unsent}
pub use Rattle.sercos_law_channel.specs.Handshake.ReadTransfers.{element_in, entry_behind}
pub use Rattle.sercos_law_channel.specs.Handshake.Transfers.{stored}
pub use Rattle.sercos_law_channel.specs.Handshake.Values.{GiveElsewhere, HoldsNewest, StaysFixed, is_plain, newest_to, store_in}
pub use Rattle.sercos_law_channel.specs.Handshake.Views.{Heard, View, got_in, kept_in, processed_in, processed_of, record_in, standing, stood_in, with_record}
pub use Rattle.sercos_law_channel.specs.Handshake.WholeRun.{AreSmall, AreSound, accepted_of, all_begun, all_entries, all_writes, begun_ago, leaving}
pub use Rattle.sercos_law_run.proofs.Agenda.Requests.{all_numbered, are_requests}
pub use Rattle.sercos_law_run.proofs.Agenda.WritesDone.{writes_data}
pub use Rattle.sercos_law_run.proofs.Cited.{begins_tasks, check128_has_cause, is_framed, left_of, no_fit_has_cause, refused_has_cause, told_right}
pub use Rattle.sercos_law_run.proofs.Start.Lengths.{are_as_long}
pub use Rattle.sercos_law_run.proofs.Start.WellLemmas.{ring_is_valid}
pub use Rattle.sercos_law_run.proofs.Theorems.{AllStand, AreBegun, AreWords, IsContent, IsPlannedIn, IsTypedPast, Sends, address_of, alike_so, all_ended, all_members, all_stand, are_requests, at_content, bytes_of_words, calls_are_moves, carried_length, command_below, count_so, drive_got, drives_so, ends_at_0, fell_once, find_built_in, find_store_of, first_store, got_inside, holding, keeps_all, length-run_of, length_records, mdt_whole, member_is, members_count, mst_whole, or_none, phase_low, phase_same, place_by, plan_words, rate_is, read_word, rest_clear, rest_runs, rests_so, ring_drive, ring_timed, rules, s_known, same_drive, sender_phase, sent_by, small, spelled_in, store_of_so, stored_in, tasks_so, typed_past, views_count, wish_is, wishes_count, word_of, words_append, words_drop, writes_data}
pub use Rattle.sercos_law_run.proofs.Typed.Spelled.{keeps_within}
pub use Rattle.sercos_law_run.specs.Agenda.Channels.{AreMoves, Begins, CallsAreMoves, Channel, Ends, Falls, Hears, Identifies, Moves, Plans, Stays, Steps, Within, beginning, channel_at, newest}
pub use Rattle.sercos_law_run.specs.Agenda.Events.{HasOutcome, HasReport}
pub use Rattle.sercos_law_run.specs.Agenda.Reported.{AreNumbered, AreRequests, Ascend, IsReportOf, told_at_end, with_told}
pub use Rattle.sercos_law_run.specs.Agenda.Tasks.{AreBegunTasks, Checks3, Checks4, HasBegunTasks, IsTask, Lists3, Lists4, OfReads, OfWaiting, OfWrites}
pub use Rattle.sercos_law_run.specs.Agenda.Writes.{IsWrittenLast, WritesData, start_numbers}
pub use Rattle.sercos_law_run.specs.Headline.Cycles.{store_in_cycle, takes_part}
pub use Rattle.sercos_law_run.specs.Headline.Headline.{Headline, KeepsAll}
pub use Rattle.sercos_law_run.specs.Headline.Transfers.{AreReportedIn, IsExactAt, OnStores}
pub use Rattle.sercos_law_run.specs.Held.Opened.{IsOpened}
pub use Rattle.sercos_law_run.specs.Journal.Arrivals.{arrival, heard, passage}
pub use Rattle.sercos_law_run.specs.Journal.Records.{ats_in, mst_in}
pub use Rattle.sercos_law_run.specs.Journal.Runs.{IsClear, IsNext, IsRun, at_calls, ats_next, ats_said, begin_calls, begins, drive_at, given_before, given_mdt, given_mst, looks_back, master_calls, mdt_next, middle, move_of, moves_below, no_drive, no_events, own_mst, restart_events, run_of, said_below, sent_at, sent_mdt, sent_mst, start_before, station_of, with_at, with_said}
pub use Rattle.sercos_law_run.specs.Slots.Sending.{IsApart, at_slot, mdt_slot, place_of}
pub use Rattle.sercos_law_run.specs.Slots.Slots.{AreApart, AtSlot, HasPause, HasRecovered, Held, MdtSlot, end_of, mdt_content}
pub use Rattle.sercos_law_run.specs.Start.RingSlots.{held_by}
pub use Rattle.sercos_law_run.specs.Start.StartUp.{Holds, start_up}
pub use Rattle.sercos_law_run.specs.Totals.Counting.{with_cycle}
pub use Rattle.sercos_law_run.specs.Totals.Totals.{ended, is_broken, is_complete, is_refused}
unfoldable pub use Rattle.sercos_law_run.specs.Totals.Totals.{totals_of}
pub use Rattle.sercos_law_run.specs.Undisturbed.Reports.{HaveTold, request_cycles}
pub use Rattle.sercos_law_run.specs.Undisturbed.StopsLater.{IsRight}
pub use Rattle.sercos_law_run.specs.Undisturbed.WholeRuns.{NeverDisturbed, StartsUp}
pub use Rattle.sercos_law_run.specs.Views.RingViews.{after_mst, at_start, behind_ats, behind_mdt, view_of, views_of}
pub use Rattle.sercos_backup.proofs.TrackLemmas.{map_or}
pub use Rattle.sercos_backup.specs.Tracking.{told_of}
pub use Rattle.sercos_checking.proofs.CheckingLemmas.{column-none, read_good}
unfoldable pub use Rattle.sercos_checking.specs.Checking.{capture_fault, column_of, first_violation, grammar_fault, read_as, shape_fault, verdict_by, verdict_of}
pub use Rattle.sercos_checking.specs.declared.verdict.Verdict.TheVariants.{Clean, Violation}
pub use Rattle.sercos_trace.proofs.FeedLemmas.{NoFeed-append, line_no_feed, lines_of-line, tail_no_feed, template_no_feed}
pub use Rattle.sercos_trace.specs.Marked.{NoFeed}
pub use Rattle.sercos_replay.proofs.OptionLemmas.{or-none}
pub use Rattle.sercos_replay.proofs.TracedLemmas.{reads_traces}
pub use Rattle.sercos_replay.specs.Captured.{lines_of, lines_with}
unfoldable pub use Rattle.sercos_replay.specs.Replaying.{first_cycle, late, late_start}
unfoldable pub use Rattle.sercos_replay.specs.Stations.{kind_cycle, lines_after, lines_read, mst_cycle}
pub use Rattle.sercos_replay.specs.Traced.{FitLines, FitsLine, ReadsTraces}
pub use Rattle.sercos_law_trace.specs.Clean.Fields.{Fit, FitOthers, FitReports, FitTotals, FitsChain, FitsCycle, FitsEnded, FitsEvents, FitsFall, FitsLink, FitsMove, FitsPlan, FitsReports, FitsSlot, FitsStop}
pub use Rattle.sercos_law_trace.specs.Clean.Ruled.{KeepRules, RunsFitLines, RunsKeepRules, told_after, told_in}
pub use Rattle.sercos_law_trace.specs.Clean.Traces.{IsCleanIfClear, IsCleanTrace, RunsAreClean, RunsFitOthers, RunsFitReports, TracesAreClean}
pub use Rattle.sercos_law_trace.specs.Told.Reads.{IsReadFrom, ReadsAreExact}
pub use Rattle.sercos_law_trace.specs.Told.Writes.{IsLastTo, WritesAreKept, writes_to}
