-- The words that the contracts of this crate use, each from where it is defined.
pub use Rattle.sercos_plan.specs.ChainOf.{AreStarts, bits_of_starts, capture_chain, chain_of, cycle_chain, first_greatest, first_tight, first_with, greatest_of, is_tight, is_tight_at, link_of, mst_chain, planned, starts, time_of, trail, trail_t2, trail_t3, trail_to, trail_to_some}
pub use Rattle.sercos_plan.specs.Chains.{IsChain, are_linked, asked_after, ats_at, ends, given_if, gives, is_t1, is_t1_of, is_t2, is_t3, last_link, last_place, moment_of, pause_of, up_to}
pub use Rattle.sercos_plan.specs.Least.{IsLeast, NoneFits}
pub use Rattle.sercos_plan.specs.LeastTimes.{greatest_t4min, is_roomy, least_plan, least_t1, least_t2, least_t3, needed, round_up}
pub use Rattle.sercos_timing.specs.Inequalities.{asked_5, asked_6, asked_7, asked_of_start, bound_9, greatest_tmtsy, number_of, of_number, positions, sum_9}
pub use Rattle.sercos_timing.specs.Limits.{most_drives, most_records}
pub use Rattle.sercos_timing.specs.Order.{at_bits, bits_of, first_sent, mdt_bits, place_at, record_bytes, sent, times}
pub use Rattle.sercos_timing.specs.Valid.{IsValid}
pub use Rattle.sercos_timing.specs.Views.{PlanView}
pub use Rattle.sercos_timing.specs.declared.inequality.Inequality.TheVariants.{Capture, Cycle, NextMst}
