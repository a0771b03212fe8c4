-- What the crates above cite of the laws on a run: each theorem, and the words that it is stated in, under one name.
pub use Rattle.sercos_law_run.proofs.Slots.Places.{length_records}
pub use Rattle.sercos_law_run.proofs.Slots.SendingLemmas.{place_by}
pub use Rattle.sercos_law_run.proofs.Start.BlockFinds.{find_built_in, find_store_of}
pub use Rattle.sercos_law_run.proofs.Start.CheckPasses.{ring_drive, wish_is}
pub use Rattle.sercos_law_run.proofs.Agenda.ReportedRuns.{count_so}
pub use Rattle.sercos_law_run.proofs.Agenda.TaskRuns.{all_ended}
pub use Rattle.sercos_law_run.proofs.Journal.ClearLemmas.{heard-quiet, same_bits, same_heard, unseen-quiet}
pub use Rattle.sercos_law_run.proofs.Journal.HarmlessLemmas.{both_are_harmless, cuts_are_harmless}
pub use Rattle.sercos_law_run.proofs.Journal.RunLemmas.{AreParts, ats_in-said, length-run_of, mdt_in-said, parts_next}
pub use Rattle.sercos_law_run.proofs.Journal.StationLemmas.{drives_so, few_drives, said_address, sound_blocks, station_found, station_is}
pub use Rattle.sercos_law_run.proofs.Views.Members.{AreSaid, all_said, member_is, members_count, same_drive}
pub use Rattle.sercos_law_run.proofs.Views.Received.{address_of}
pub use Rattle.sercos_law_run.proofs.Views.ViewRuns.{command_below, views_count}
pub use Rattle.sercos_law_run.proofs.Typed.Ats.{IsContent, at_content}
pub use Rattle.sercos_law_run.proofs.Typed.Begun.{IsTypedPast, tasks_so, typed_past}
pub use Rattle.sercos_law_run.proofs.Typed.Mdts.{mdt_whole, mst_whole, phase_low}
pub use Rattle.sercos_law_run.proofs.Typed.Plans.{all_members, plan_words, ring_timed}
pub use Rattle.sercos_law_run.proofs.Typed.Records.{words_drop}
pub use Rattle.sercos_law_run.proofs.Typed.Steps.{AreBegun}
pub use Rattle.sercos_law_run.proofs.Typed.Words.{AreWords, bytes_of_words, read_word, word_of, words_append}
pub use Rattle.sercos_law_run.proofs.Held.Agreed.{wishes_count}
pub use Rattle.sercos_law_run.proofs.Held.OpenedLemmas.{IsSound, all_at, all_dropped, of_jobs, opened}
pub use Rattle.sercos_law_run.proofs.Held.Rests.{rests_so}
pub use Rattle.sercos_law_run.proofs.Held.Runs.{AllStand, IsPlannedIn, alike_so, drive_got, got_inside, holding, phase_same, rules, s_known, small}
pub use Rattle.sercos_law_run.proofs.Held.StoreOf.{store_of_so}
pub use Rattle.sercos_law_run.proofs.Headline.ApartCycles.{sender_phase}
pub use Rattle.sercos_law_run.proofs.Headline.ApartRuns.{Sends, ends_at_0, sent_by}
pub use Rattle.sercos_law_run.proofs.Headline.AtLengths.{carried_length}
pub use Rattle.sercos_law_run.proofs.Headline.HeadlineRuns.{all_stand, first_store, keeps_all, spelled_in, stored_in}
pub use Rattle.sercos_law_run.proofs.Undisturbed.Arriving.StaysClear.{stays_clear}
pub use Rattle.sercos_law_run.proofs.Totals.Bounds.{unseen_few}
pub use Rattle.sercos_law_run.proofs.Totals.CountLemmas.{fell_once, few_more, none_counted, none_few, room_for}
pub use Rattle.sercos_law_run.proofs.Totals.TotalsLemmas.{totals_more}
pub use Rattle.sercos_law_run.proofs.Recovery.Stretches.{rest_clear, rest_runs}
pub use Rattle.sercos_law_run.proofs.Start.RingSlotLemmas.{rate_is}
pub use Rattle.sercos_law_run.proofs.Agenda.Requests.{are_requests, numbered_drop}
pub use Rattle.sercos_law_run.proofs.Headline.WellRuns.{or_none}
pub use Rattle.sercos_law_run.proofs.Agenda.CallMoves.{calls_are_moves}
pub use Rattle.sercos_law_run.proofs.Agenda.WritesDone.{writes_data}
