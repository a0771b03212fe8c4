-- The words that the contracts of this crate use, each from where it is defined.
pub use Rattle.sercos_answer.specs.Answer.{line_feed, two_numbers}
pub use Rattle.sercos_document.specs.Lines.{line_of}
pub use Rattle.sercos_io.specs.declared.status.Status.TheVariants.{Refused}
pub use Rattle.sercos_margin.specs.Margins.{HasPlan, margin_of}
pub use Rattle.sercos_plan.specs.ChainOf.{chain_of, planned}
pub use Rattle.sercos_plan.specs.LeastTimes.{least_t1, least_t2, least_t3}
pub use Rattle.sercos_planning.specs.LeastTimes.{AreLeast, IsLeastChain}
pub use Rattle.sercos_planning.specs.Margins.{AreLimited, AreMargins, MeasuresItsRing, cycle_line, margin_answer, margin_line, margin_lines, wishes_margins}
pub use Rattle.sercos_planning.specs.Planning.{IsPlanned, PlansItsRing, chain_text, end_line, link_line, plan_answer, plan_line, plan_text, slot_line, slot_lines, wishes_answer}
pub use Rattle.sercos_timing.specs.Order.{sent, wish}
pub use Rattle.sercos_timing.specs.Valid.{IsValid}
pub use Rattle.sercos_timing.specs.Views.{WishesView}
pub use Rattle.std.specs.List.{flat_map}
