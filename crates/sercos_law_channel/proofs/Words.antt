-- The words that the proofs speak in, of std, of the crates below and of this crate's specs, each under one name.
pub use Rattle.sercos_law_channel.proofs.Options.{cases_Option}
pub use Rattle.std.proofs.Common.{Bool, List, [], ap, append_assoc, ap₂, arith, cond, drop, false, if◌then◌else◌, inl, inr, length, length-append, map, not, refl, replicate, subst, suc, sym, take, take-append-drop, true, zero, ℕ, ⊎_elim, ◌%◌, ◌&&◌, ◌*◌, ◌++◌, ◌+◌, ◌-◌, ◌/◌, ◌<◌, ◌^◌, ◌||◌, ◌∙◌, ◌∷◌, ◌≡◌, ◌≤◌, ◌⊎◌, append-nil}
pub use Rattle.std.proofs.lemmas.Bool.{and_from, and_parts, and_right, both_ways, cases_Bool, cases_eq, cond-false, cond-true, cond_both, eq-eqb, eqb-true, le-leb, leb-true, ltb-true, ne_eqb, not-true, not_from_true}
pub use Rattle.std.proofs.lemmas.Bool.Decides.{nat_tests}
pub use Rattle.std.proofs.lemmas.List.{length-replicate}
pub use Rattle.std.proofs.lemmas.List.Sums.{sum_by-append, sum_by-cons}
pub use Rattle.std.proofs.Math.Bool.{and-false}
pub use Rattle.std.proofs.Math.Seq.{drop-length}
pub use Rattle.std.proofs.lemmas.Option.{slice_get_within}
pub use Rattle.std.specs.Bool.{then_some}
pub use Rattle.std.specs.Int.{to_le_bytes, w16, w32}
pub use Rattle.std.specs.List.{list_all, sum_by}
pub use Rattle.std.specs.Option.{option_or}
pub use Rattle.std.specs.Prelude.{IfSome, IsSome, None, Option, Some, int_lt, is_none, is_some, max, min, nat_le, nat_lt, option_and_then, option_map, slice_get, slice_index, unwrap_or, ◌==◌}
pub use mathlib.Core.Bool.{beq}
pub use Rattle.sercos_model.proofs.FaultLemmas.{none_of-or, none_of-then}
unfoldable pub use Rattle.sercos_model.specs.Bits.{AreBytes}
pub use Rattle.sercos_telegram.specs.declared.words.Status.{Status}
pub use Rattle.sercos_telegram.specs.Words.{status_rest}
pub use Rattle.sercos_idn.proofs.AttributeLemmas.{attribute_fault-attribute_word, attribute_of-attribute_word, attribute_word-below}
pub use Rattle.sercos_idn.specs.Attributes.{attribute_word}
unfoldable pub use Rattle.sercos_idn.specs.Attributes.{attribute_of}
pub use Rattle.sercos_idn.specs.Codes.{is_list, item_len}
unfoldable pub use Rattle.sercos_idn.specs.Codes.{attribute_fault}
pub use Rattle.sercos_idn.specs.declared.attribute.Attribute.{Attribute}
pub use Rattle.sercos_idn.specs.declared.code.Code.{Code}
pub use Rattle.sercos_idn.specs.declared.idn.Idn.{Idn}
pub use Rattle.sercos_idn.specs.declared.kinds.Length.{Length}
pub use Rattle.sercos_idn.specs.declared.kinds.Length.TheVariants.{Four, Two}
pub use Rattle.sercos_block.proofs.SoundLemmas.{found_sound, SoundParts, SoundParts-is_sound, limit_of_number}
pub use Rattle.sercos_block.proofs.TypeLemmas.{types}
pub use Rattle.sercos_block.specs.Blocks.{bits_in, bytes_for, is_fixed, is_number, is_protected, meant, number_end, width_of}
unfoldable pub use Rattle.sercos_block.specs.Blocks.{element_of}
pub use Rattle.sercos_block.specs.Rules.{is_limit, is_max_len, is_printable, is_step, is_text}
pub use Rattle.sercos_block.specs.Stores.{IsStore, data_fault, find_block, is_above, is_below, is_len, put_fault, read_fault, with_data, with_value, write_fault}
pub use Rattle.sercos_block.specs.declared.block.Block.{Block}
pub use Rattle.sercos_step.proofs.AnswerCounts.{get_below, polls_by, steps_most, times_le, times_more}
pub use Rattle.sercos_step.proofs.Ends.{has_next, length-answer_words, read_ends}
pub use Rattle.sercos_step.proofs.ReadBack.{bytes_back, high_back, low_back}
pub use Rattle.sercos_step.proofs.Runs.{length-run}
pub use Rattle.sercos_step.proofs.WrittenWords.{few_told, length-at_least_one, length-words_of}
pub use Rattle.sercos_step.proofs.Flags.{and_left}
pub use Rattle.sercos_step.specs.Counts.{count_of, polls}
pub use Rattle.sercos_step.specs.Steps.{AreAnswers, a_step, answer_words, asks_attribute, attribute_then, is_whole, next_step, opening, outcome_of, polling, reading, result_of, run, steps_before, steps_of, writing}
pub use Rattle.sercos_step.specs.Words.{as_value, at_least_one, bytes_in, bytes_read, shape_by, shape_of, words_in, words_in_list, words_of, words_told}
pub use Rattle.sercos_step.specs.declared.request.Outcome.{Outcome}
pub use Rattle.sercos_step.specs.declared.request.Request.{Request}
pub use Rattle.sercos_step.specs.declared.shape.Shape.{Shape}
pub use Rattle.sercos_step.specs.declared.step.Answer.{Answer}
pub use Rattle.sercos_step.specs.declared.step.Step.{Step}
pub use Rattle.sercos_command.proofs.History.{find-settings}
pub use Rattle.sercos_command.specs.Calls.{CommandHistory, Other, Wrote, change_in, is_set, setting_of, status_in, with_call}
pub use Rattle.sercos_command.specs.Checks.{list_bytes, unfit_for_phase_3, unfit_for_phase_4}
pub use Rattle.sercos_command.specs.Kept.{find_set, first_passed_in, from_cancel, from_setting, set_in, with_set, without}
pub use Rattle.sercos_command.specs.Settings.{ends_well, has_ended, is_command, status_by}
pub use Rattle.sercos_command.specs.declared.commands.SetCommand.{SetCommand}
pub use Rattle.sercos_service_drive.proofs.AllowedWrites.{allowed, no_cause, those_moved, grows}
pub use Rattle.sercos_service_drive.proofs.WordLemmas.{length-drop_two}
pub use Rattle.sercos_service_drive.proofs.WriteAnswers.{length-in_order}
pub use Rattle.sercos_service_drive.specs.Log.{Entry, Processed, accepted, ahs, in_order, open_idn, opens, run_before, selection}
pub use Rattle.sercos_service_drive.specs.Replies.{answer_by, answered, copy, ends_early, good, is_first_word, is_no_command_value, is_over, is_uneven, list_words, log_of, missing, read_cause, refused, reply_at, reply_of, reply_on, words_at, write_cause_in}
unfoldable pub use Rattle.sercos_service_drive.specs.Replies.{bytes_written, data_in, element_words, write_cause}
pub use Rattle.sercos_service_drive.specs.Says.{Shown, channel_says, shown, shown_by}
pub use Rattle.sercos_service_drive.specs.Writes.{AreAlike, AreThose, Write, added_on, adds, blocks_with, command_value, commands_with, takes_effect, with_added, without_data, writes_of, written_by}
pub use Rattle.sercos_service_master.specs.Begun.{Begun, Said, answer_in, answers_in, answers_it, is_odd, master_says, mhs_in, open_in, step_at, step_or_none, steps_begun, steps_in, with_answer, with_step}
pub use Rattle.sercos_service_master.specs.Calls.{AreCalls, Begin, Call, EndCycle, Hear, Send, age_of, begun_by}
pub use Rattle.sercos_law_channel.specs.Handshake.Choices.{AreSoundChoices, Choice, begun_at, begun_before, has_ten, heard_at, rises_at, run_by, shown_at, silent_by, view_by}
pub use Rattle.sercos_law_channel.specs.Handshake.CommandTransfers.{AreProtected, EndsWithStatus, GivesStatus, RefusedAddsNothing, RefusesUnknown, SetsAndCancels, WritesNowhere, added_by_setting, cancelled_by, idn_of, second_of, setting}
pub use Rattle.sercos_law_channel.specs.Handshake.Epochs.{begun_in, command, command_in, epoch_begun, epoch_log, epoch_records, log_in, records_in_views, unless_restart, whole_row, with_begun, with_heard}
pub use Rattle.sercos_law_channel.specs.Handshake.Exact.{AreExact, AreInPhase, AreWrites, Broken, Complete, EndsExactly, Given, HasBlock, IsExact, ReadsExactly, Refused, RunsAreExact, given_by, given_of, gives, written_to}
pub use Rattle.sercos_law_channel.specs.Handshake.InStep.{AreInStep, Idle, InStep, Kept, Sent, log_steps, replies_of}
pub use Rattle.sercos_law_channel.specs.Handshake.Moves.{Begins, Hears, Takes, said_in, with_processed, with_status}
pub use Rattle.sercos_law_channel.specs.Handshake.Parts.{AreInTurn, AreParts, ComeInTurn, FallIntoParts, HaveReplies, IsPart, IsRow, MakeTransfers, Unheard, Unsent}
pub use Rattle.sercos_law_channel.specs.Handshake.ReadTransfers.{IsReadAt, ReadsOnce, bytes_at, element_in, entry_behind}
pub use Rattle.sercos_law_channel.specs.Handshake.RunLaws.{AcceptsInOrder, AreBefore, BeginsEmpty, ComesToZero, ComesUp, Handshake, KeepsUp, ProcessesInPhase, StandsAsCommanded, StandsNoLater, StaysDown, phase_commanded, zero_run}
pub use Rattle.sercos_law_channel.specs.Handshake.Runs.{IsNext, IsRun, IsShown}
pub use Rattle.sercos_law_channel.specs.Handshake.Transfers.{AreReplies, HaveBlocks, IsTransfer, WritesNothing, WritesOnce, is_complete, is_silent, stored}
pub use Rattle.sercos_law_channel.specs.Handshake.Values.{GiveElsewhere, HoldsNewest, StaysFixed, StaysProtected, StaysQuiet, StaysWritten, is_plain, newest_to, store_in}
pub use Rattle.sercos_law_channel.specs.Handshake.Views.{Heard, Standing, View, afresh, before_mst, got_in, kept_in, kept_in_phase, kept_unless, moved, processed_in, processed_of, record_in, since_reset, standing, stood_in, takes_in, with_record}
pub use Rattle.sercos_law_channel.specs.Handshake.WholeRun.{AreSmall, AreSound, IsSound, accepted_of, all_begun, all_entries, all_writes, begun_ago, leaving, write_of}
pub use Rattle.sercos_law_channel.specs.Pace.Ages.{AgesInTime, AgesWhereDead, AnswersAtAge, KeepsTime, OpensAlways, age_by, age_in}
pub use Rattle.sercos_law_channel.specs.Pace.Carried.{AreCarried, ComesTimed, IsCarried, set_after}
pub use Rattle.sercos_law_channel.specs.Pace.ChannelCalls.{AgesAreThose, AgesBeforeEnd, AreSent, CallsBegin, IsSent, NoneLate, StaysARun, age_if_open, calls_begun, calls_heard, calls_in, calls_sent, channel_calls, staying}
pub use Rattle.sercos_law_channel.specs.Pace.Costs.{AreListed, AreSpaced, AreTimed, IsListed, IsTimed, SpacesSteps, StaysInCost, cost_in, cost_of, newest_at, read_steps, value_steps, write_steps}
pub use Rattle.sercos_law_channel.specs.Pace.Jobs.{AreWordWrites, AreWords, AttributeCosts, CostsRequests, ListReadCosts, ListWriteCosts, ReadsCost, RequestCosts, WordReadCosts, WordWriteCosts, WritesCost, request_of}
pub use Rattle.sercos_law_channel.specs.Pace.Passages.{AreHeard, ArePassed, AreUp, AreWhole, BeginsEpoch, HearsThroughout, IsCleanOrDown, IsPassed, IsUp, IsWhole, RecoversInTime, StandsThroughout, StaysClean, StaysDead, was_addressed}
pub use Rattle.sercos_law_channel.specs.Pace.Passes.{PassesBySetting, PassesLast, StaysPassed, StaysPassedLast}
pub use Rattle.sercos_law_channel.specs.Pace.StartCosts.{RecoversInCost, RecoversSince, StartsInCost}
pub use Rattle.sercos_law_channel.specs.Pace.Stretches.{AreClean, ComesInTime, IsClean, IsInTime, RestsNow, TakesTimeSince, WaitsNow, open_since, spent_since}
pub use Rattle.sercos_law_channel.specs.Pace.Times.{AnswersOnTime, AreOnTime, AreUndisturbed, IsOnTime, IsUndisturbed, Rests, TakesTime, Waits, one_more, open_cycles, time_for}
