-- The words that the contracts of this crate use, each from where it is defined.
pub use Rattle.sercos_app.specs.Answer.{SaysWell, answer_of, command_answer}
pub use Rattle.sercos_app.specs.Generating.{RunsGenerated, counts_text, first_text, gen_answer, gen_line, head_text, run_summed}
pub use Rattle.sercos_app.specs.Journals.{HasMade, IsRingOf, OfRun, WritesCycles, journal_text}
pub use Rattle.sercos_app.specs.Outcome.{Ends}
pub use Rattle.sercos_app.specs.OwnRun.{AgreesThroughout, DiffersNoEarlier, IsCalm, IsOwnRun, OpensIfRead, OpensItsRing, OwnRunsHold, ReplaysItsRing}
pub use Rattle.sercos_app.specs.RunWriting.{WritesRun}
pub use Rattle.sercos_app.specs.Running.{RunsItsRing, run_answer, run_traced}
pub use Rattle.sercos_app.specs.Saved.{AreTypedIfFew, ReadsTyped, RestoresItsRing, SavesItsRing}
pub use Rattle.sercos_app.specs.Saving.{backup_answer, data_answer, data_of, last_data, place_of, restore_answer, ring_restored, ring_saved, run_tracked, writes_answer}
pub use Rattle.sercos_app.specs.TopCall.{AgreementTold, BackupFailed, BackupSaved, BreachTold, ChainTold, CleanTold, LeastPlanned, MarginsTold, NonePlanned, PlaceTold, RestoreTold, RunSummed, RunTraced, ViolationTold}
pub use Rattle.sercos_backup.specs.Jobs.{data_jobs}
pub use Rattle.sercos_backup.specs.Texts.{restored_line}
pub use Rattle.sercos_backup.specs.Tracking.{are_well, tracked}
pub use Rattle.sercos_block.specs.Rings.{is_ring}
pub use Rattle.sercos_block.specs.Stores.{find_block}
pub use Rattle.sercos_block.specs.Views.{RingView}
pub use Rattle.sercos_call.specs.Giving.{IsReply}
pub use Rattle.sercos_call.specs.Outcome.{Replies, changed}
pub use Rattle.sercos_call.specs.TopCall.{HasInput, IsAnswer, IsAnswered, IsCutShort, TakesAtMost, TakesTooMany, writes_nothing}
pub use Rattle.sercos_checking.specs.Checking.{check_answer, verdict_status, verdict_text}
pub use Rattle.sercos_config.specs.Document.{document_of}
pub use Rattle.sercos_config.specs.Views.{DocumentView}
pub use Rattle.sercos_document.specs.Lines.{line_of}
pub use Rattle.sercos_io.specs.declared.status.Status.TheVariants.{Refused}
pub use Rattle.sercos_law_run.specs.Held.Opened.{IsOpened}
pub use Rattle.sercos_law_run.specs.Journal.Runs.{IsClear, run_of}
pub use Rattle.sercos_law_run.specs.Totals.Counting.{HasRoom, IsFew, with_cycle}
pub use Rattle.sercos_law_run.specs.Totals.Totals.{totals_of}
pub use Rattle.sercos_law_trace.specs.Told.Told.{told_in}
pub use Rattle.sercos_model.specs.Streams.{HasCause, Rose, last_count}
pub use Rattle.sercos_opened.specs.Kept.{IsKept, carry_under, document_run, restarts_under, script_carry, script_restarts}
pub use Rattle.sercos_planning.specs.Margins.{MeasuresItsRing, margin_answer}
pub use Rattle.sercos_planning.specs.Planning.{PlansItsRing, plan_answer}
pub use Rattle.sercos_replay.specs.Asking.{Asks, cycles_in}
pub use Rattle.sercos_replay.specs.Replaying.{Says, document_answer, parts_answer, place_answer, replay_answer}
pub use Rattle.sercos_replay.specs.Stations.{Station, station_differs}
pub use Rattle.sercos_ring.specs.Kept.{AfterCycle, RingStandsFor, cycles_made, drives_in, newest}
pub use Rattle.sercos_script.specs.Links.{Carry, Restarts}
pub use Rattle.sercos_show.specs.Show.{show_answer}
pub use Rattle.sercos_step.specs.Steps.{IsRequest}
pub use Rattle.sercos_step.specs.declared.request.Job.{Job}
pub use Rattle.sercos_step.specs.declared.request.Outcome.{Outcome}
pub use Rattle.sercos_timing.specs.Views.{WishesView}
pub use Rattle.sercos_trace.specs.Texts.{cycle_text, end_text, header_text}
pub use Rattle.sercos_trace.specs.Views.{CycleView}
pub use Rattle.sercos_trace.specs.Written.{seen}
pub use Rattle.sercos_words.specs.Form.{HasNumber, form_of, reads_input}
pub use Rattle.std.specs.Io.KnownBytes.{Appends}
pub use Rattle.std.specs.List.{All, flat_map}
