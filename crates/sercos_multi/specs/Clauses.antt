-- The words that the contracts of this crate use, each from where it is defined.
pub use Rattle.sercos_block.specs.Rings.{is_ring}
pub use Rattle.sercos_call.specs.Outcome.{Outcome, Replies, changed}
pub use Rattle.sercos_call.specs.TopCall.{HasInput, IsAnswer, IsAnswered, IsCutShort, TakesAtMost, TakesTooMany, writes_nothing}
pub use Rattle.sercos_config.specs.Views.{DocumentView}
pub use Rattle.sercos_law_run.specs.Totals.Counting.{HasRoom, IsFew, with_cycle}
pub use Rattle.sercos_model.specs.Streams.{Rose, last_count}
pub use Rattle.sercos_multi.specs.Asking.{count_line, cycle_fault, cycle_line, cycles_answer, cycles_of, document_line, first_cycle, is_common, other_cycle, rings_answer, voice_of, voice_under, voices_from}
pub use Rattle.sercos_multi.specs.Divided.{is_next, parts_after, parts_of}
pub use Rattle.sercos_multi.specs.Ended.{EndsUnopened, IsTold, ended_by}
pub use Rattle.sercos_multi.specs.Going.{AreFrom, IsFrom, here_text, timed_count}
pub use Rattle.sercos_multi.specs.Merged.{Voice, head_lines, lines_at, mark_of, merged, over_by, rest_text, span}
pub use Rattle.sercos_multi.specs.Opening.{OpensAll, OpensPart}
pub use Rattle.sercos_multi.specs.OwnLines.{LinesAreTraces}
pub use Rattle.sercos_multi.specs.Parts.{AllAt, GoesOn, IsAt, IsEarliest, PassAll, Passes}
pub use Rattle.sercos_multi.specs.RingRuns.{RingsMerged, RunsItsRings}
pub use Rattle.sercos_multi.specs.Rings.{IsRingOf}
pub use Rattle.sercos_multi.specs.Said.{IsRefusedIn}
pub use Rattle.sercos_multi.specs.Sooner.{sooner}
pub use Rattle.sercos_multi.specs.Words.{form_of, reads_input, run_form}
pub use Rattle.sercos_ring.specs.Kept.{AfterCycle, IsNextOf, RingStandsFor, cycles_made, newest}
pub use Rattle.sercos_step.specs.Steps.{IsRequest}
pub use Rattle.sercos_text.specs.Templates.{line_text}
pub use Rattle.sercos_text.specs.Templates.Value.{number}
pub use Rattle.sercos_trace.specs.Marked.{is_feed}
pub use Rattle.sercos_trace.specs.Texts.{cycle_text, end_text}
pub use Rattle.sercos_trace.specs.Views.{CycleView}
pub use Rattle.std.specs.List.{All, after_first, flat_map, sum_by}
