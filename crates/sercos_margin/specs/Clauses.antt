-- The words that the contracts of this crate use, each from where it is defined.
pub use Rattle.sercos_margin.specs.Margins.{HasPlan, IsBetween, IsLeastCycle, IsLeastOf, IsMargin, changed, declared, greatest, least_cycle_of, margin_of, time_in, with_cycle, with_time}
pub use Rattle.sercos_margin.specs.declared.changes.Time.{Time}
pub use Rattle.sercos_plan.specs.Least.{NoneFits}
pub use Rattle.sercos_timing.specs.Inequalities.{Fits}
pub use Rattle.sercos_timing.specs.Limits.{least_cycle as shortest, most_cycle}
pub use Rattle.sercos_timing.specs.Order.{wish}
pub use Rattle.sercos_timing.specs.Valid.{IsCycle, IsValid}
pub use Rattle.sercos_timing.specs.Views.{PlanView, WishesView}
