-- The words that the contracts of this crate use, each from where it is defined.
pub use Rattle.sercos_answer.specs.Lines.{lines_of}
pub use Rattle.sercos_block.specs.Stores.{find_block}
pub use Rattle.sercos_block.specs.Views.{DriveView}
pub use Rattle.sercos_c.specs.Answers.{IsCallOf, IsCalled}
pub use Rattle.sercos_c.specs.Deframers.{HoldsFed, feed_status, is_deframer}
pub use Rattle.sercos_c.specs.Documents.{document_status}
pub use Rattle.sercos_c.specs.Drives.{HoldsDrive, IsElement, IsOpening, IsSaid, OpensAt, arrival, drive_status, is_drive, place_status}
pub use Rattle.sercos_c.specs.Frames.{IsUnframed, bad_frame_of, bytes_for, frame_status, no_bad_frame, padded}
pub use Rattle.sercos_c.specs.Holding.{held_owns}
pub use Rattle.sercos_c.specs.Idns.{fault_place, parse_status}
pub use Rattle.sercos_c.specs.Links.{AreLinksOf, HoldsLinks, IsLinksOpening, IsPassed, IsUnpassed, OpensLinks, how_of, is_links, pass_status, way_of}
pub use Rattle.sercos_c.specs.Masters.{HoldsMaster, IsMasterOpening, IsSent, MasterStandsFor, OpensMaster, is_master, past_of, reported, reported_in}
pub use Rattle.sercos_c.specs.Records.{no_events, of_nothing, silent_record}
pub use Rattle.sercos_c.specs.Rings.{HoldsRing, IsRingOpening, OpensRing, RingGoes, lines_of_newest}
pub use Rattle.sercos_c.specs.Room.{IsNothing, IsPut}
pub use Rattle.sercos_c.specs.Slots.{HaveRoom, chain_from, link_of, plan_of, wish_of}
pub use Rattle.sercos_c.specs.Stations.{station_owns}
pub use Rattle.sercos_c.specs.Statuses.{answer_no, closed, done, no_memory, refused, too_long, unreadable, write_fault}
pub use Rattle.sercos_c.specs.Telegrams.{at_content_of, at_of, can_have, is_at, is_record, layout_of, read_status, record_content, record_of, single_of}
pub use Rattle.sercos_c.specs.Texts.{AreTexts, IsIn, IsText, has_slots}
pub use Rattle.sercos_c.specs.declared.station.Station.{Station}
pub use Rattle.sercos_config.specs.Document.{document_of}
pub use Rattle.sercos_config.specs.Views.{DocumentView}
pub use Rattle.sercos_drive.specs.Annals.{cycle_at, phase_at, store_at}
pub use Rattle.sercos_drive.specs.Heard.{DriveCall, Mst}
pub use Rattle.sercos_drive.specs.Kept.{DriveStandsFor}
pub use Rattle.sercos_drive.specs.Says.{drive_says}
pub use Rattle.sercos_hdlc.specs.Fed.{IsFed, taken_of}
pub use Rattle.sercos_hdlc.specs.Reason.{reason_of}
pub use Rattle.sercos_hdlc.specs.Stuffed.{frame_of}
pub use Rattle.sercos_idn.specs.Idns.{idn_fault, idn_text, spelled_raw}
pub use Rattle.sercos_law_run.specs.Held.Opened.{IsOpened}
pub use Rattle.sercos_law_run.specs.Journal.Arrivals.{are_same}
pub use Rattle.sercos_law_run.specs.Totals.Totals.{totals_of}
pub use Rattle.sercos_master.specs.Annals.{Call, End, HearAt, HearMst, past}
pub use Rattle.sercos_master.specs.Any.{AnyStandsFor}
pub use Rattle.sercos_master.specs.Reports.{restart_told}
pub use Rattle.sercos_master.specs.Says.{mdt_said, mst_said}
pub use Rattle.sercos_model.specs.Bits.{bits_of}
pub use Rattle.sercos_model.specs.CheckSequence.{fcs_of}
pub use Rattle.sercos_opened.specs.Kept.{IsKept, script_carry, script_restarts}
pub use Rattle.sercos_plan.specs.ChainOf.{chain_of}
pub use Rattle.sercos_plan.specs.Chains.{IsChain}
pub use Rattle.sercos_plan.specs.Least.{IsLeast, NoneFits}
pub use Rattle.sercos_seat.specs.Ring.{Known, known_of, tasks_for}
pub use Rattle.sercos_step.specs.Steps.{IsRequest}
pub use Rattle.sercos_step.specs.declared.request.Job.{Job}
pub use Rattle.sercos_telegram.specs.Faults.{at_fault, joint_fault, mst_fault, single_fault}
pub use Rattle.sercos_telegram.specs.Spells.{SpellsAt, SpellsRecord, at_content, mst_content, record_bytes, single_content, word_at}
pub use Rattle.sercos_telegram.specs.Words.{control_of, control_word, status_of, status_word}
pub use Rattle.sercos_telegram.specs.declared.words.Control.{Control}
pub use Rattle.sercos_telegram.specs.declared.words.Status.{Status}
pub use Rattle.sercos_timing.specs.Valid.{IsValid}
pub use Rattle.sercos_timing.specs.Views.{PlanView}
pub use Rattle.sercos_trace.specs.Texts.{cycle_text, end_text, header_text}
pub use Rattle.sercos_trace.specs.Views.{CycleView}
pub use Rattle.std.specs.List.{All}
pub use Rattle.std.specs.Option.{option_copied}
