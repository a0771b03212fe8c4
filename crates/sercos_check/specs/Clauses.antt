-- The words that the contracts of this crate use, each from where it is defined.
pub use Rattle.sercos_check.specs.Found.{found_for}
pub use Rattle.sercos_check.specs.Kept.{IsBegun, SeenStandsFor, goes_on_by, heard_in, is_from, kept_by, later, mark_in, order_by, recovery_by, transition_by, with_address, with_at}
pub use Rattle.sercos_check.specs.Names.{rule_name, rule_number, rule_with}
pub use Rattle.sercos_check.specs.Rounds.{is_no_later, was_noted}
pub use Rattle.sercos_check.specs.Rules.{broken_rule, first_broken, gap_between, goes_on, has_room, is_after, is_after_gap, is_after_mark, is_cyclic_at, is_cyclic_mdt, is_joint, is_next_cycle, is_next_phase, is_same_cycle, is_same_sender, is_single, keeps_end, keeps_frame, keeps_gap, keeps_layout, keeps_phase, keeps_start, start_of, starts_later}
pub use Rattle.sercos_check.specs.Seen.{Told, address_of, drive_with, end_of, is_at, mark_of, phase_of}
pub use Rattle.sercos_check.specs.Shape.{CanFollow, HeadStandsFor, IsReady, drive_or_order, drive_place, has_head, no_wishes, places, wishes_by}
pub use Rattle.sercos_check.specs.Tests.{TellsFollowing}
pub use Rattle.sercos_check.specs.Verdicts.{ArePlainClean, ArePlainFaults, AreSeen, BreakRules, CheckerStandsFor, IsClean, IsFault, IsNext, IsPlainHead, IsRefused, IsTrouble, IsWhole, NumberRules, rule_broken}
pub use Rattle.sercos_check.specs.declared.trouble.Trouble.{Trouble}
pub use Rattle.sercos_timing.specs.Limits.{most_drives}
pub use Rattle.sercos_timing.specs.Tests.{TellsValid}
pub use Rattle.sercos_timing.specs.Valid.{IsValid}
pub use Rattle.sercos_timing.specs.Views.{WishesView}
pub use Rattle.sercos_trace.specs.declared.reading.Line.{Line}
pub use Rattle.std.specs.List.{All, position}
pub use Rattle.std.specs.Ordering.{int_eq}
pub use Rattle.std.specs.Result.{result_err, result_ok}
