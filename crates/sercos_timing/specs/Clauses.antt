-- The words that the contracts of this crate use, each from where it is defined.
pub use Rattle.sercos_model.specs.Frames.{wire_bits}
pub use Rattle.sercos_timing.specs.FirstBroken.{asked_by, broken_by, broken_position, broken_unless, first_broken, first_misplaced, first_unmet, has_by, is_met}
pub use Rattle.sercos_timing.specs.Inequalities.{Fits, asked_5, asked_of_start, bound_9, greatest_tmtsy, number_of, of_number, sum_9}
pub use Rattle.sercos_timing.specs.Named.{IsFirstBroken}
pub use Rattle.sercos_timing.specs.Order.{at_bits, bits_of, first_sent, mdt_bits, neighbor, no_wish, place_at, previous, record_bytes, sent, wish}
pub use Rattle.sercos_timing.specs.Tests.{TellsValid}
pub use Rattle.sercos_timing.specs.Valid.{AreBelow, AreDistinct, AreDrives, IsValid, IsWish, addresses, is_address, is_control, is_cycle, is_rate}
pub use Rattle.sercos_timing.specs.Views.{PlanView, WishesView}
pub use Rattle.sercos_timing.specs.declared.fitting.Broken.{Broken}
