-- The words that the contracts of this crate use, each from where it is defined.
pub use Rattle.sercos_answer.specs.Answer.{line_feed}
pub use Rattle.sercos_block.specs.Rings.{has_address, has_other_data, is_ring}
pub use Rattle.sercos_block.specs.Views.{DriveView, RingView}
pub use Rattle.sercos_check.specs.Verdicts.{IsClean, rule_broken}
pub use Rattle.sercos_checking.specs.Checking.{column_of, read_as, verdict_of}
pub use Rattle.sercos_checking.specs.declared.verdict.Verdict.TheVariants.{Clean}
pub use Rattle.sercos_drive.specs.Heard.{DriveCall}
pub use Rattle.sercos_drive.specs.Kept.{DriveStandsFor}
pub use Rattle.sercos_drive.specs.Says.{drive_says}
pub use Rattle.sercos_law_run.specs.Journal.Runs.{IsRun, drive_at, sent_mst}
pub use Rattle.sercos_law_run.specs.Typed.Typed.{AreTyped}
pub use Rattle.sercos_master.specs.Annals.{Call, End, HearMst, Mdt}
pub use Rattle.sercos_master.specs.Any.{AnyStandsFor}
pub use Rattle.sercos_master.specs.Says.{mdt_said, mst_said}
pub use Rattle.sercos_replay.specs.Asking.{Replays}
pub use Rattle.sercos_replay.specs.Captured.{NeverDisturbed, telegrams}
pub use Rattle.sercos_replay.specs.Cycles.{Cycle, GoesOn, begun, cycles_of, goes_on, newest_cycle, with_at, with_mdt, with_telegram}
pub use Rattle.sercos_replay.specs.Differences.{at_place_of, content_of, drive_differs, drive_tells, is_of, looks_back, master_differs, master_tells, mdt_place_of, mst_place_of}
pub use Rattle.sercos_replay.specs.Divided.{capture_part, capture_place, document_part}
pub use Rattle.sercos_replay.specs.Given.{if_given}
pub use Rattle.sercos_replay.specs.Places.{agree, expected_as, if_differs, if_told, telegram_at}
pub use Rattle.sercos_replay.specs.Replaying.{Says, capture_answer, first_cycle, found_answer, judged_answer, kind_name, late, late_start, number_line, place_answer, place_line, place_text, refused, ruled_answer, sent_line, sent_text, started_answer, station_answer, verdict_answer}
pub use Rattle.sercos_replay.specs.Stations.{IsGiven, ReplayStandsFor, Station, drive_of, has, kind_cycle, lines_read, mst_cycle, station_differs, station_of}
pub use Rattle.sercos_replay.specs.Stations.Station.{drive, master}
pub use Rattle.sercos_replay.specs.Traced.{ReadsTraces, TracesDiffer}
pub use Rattle.sercos_replay.specs.Undisturbed.{CapturesDiffer}
pub use Rattle.sercos_script.specs.Links.{Carry, Restarts}
pub use Rattle.sercos_seat.specs.Ring.{Known, known_of}
pub use Rattle.sercos_step.specs.Jobs.{AreJobs}
pub use Rattle.sercos_step.specs.Steps.{AreTypedJobs, IsRequest}
pub use Rattle.sercos_step.specs.declared.request.Job.{Job}
pub use Rattle.sercos_telegram.specs.declared.layout.Kind.{Kind}
pub use Rattle.sercos_trace.specs.Views.{CycleView, SentView}
pub use Rattle.sercos_trace.specs.declared.reading.Line.{Line}
pub use Rattle.std.specs.List.{All, position}
pub use Rattle.std.specs.Option.{option_copied}
pub use Rattle.std.specs.Str.{bytes_eq}
