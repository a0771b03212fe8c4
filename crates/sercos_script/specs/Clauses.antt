-- The words that the contracts of this crate use, each from where it is defined.
pub use Rattle.sercos_script.specs.Lanes.{AreByReach, IsGathered, candidates, is_in, key_of, kind_number, lane_of, reach_of, restart_lane, telegram_lane}
pub use Rattle.sercos_script.specs.Links.{arrived}
pub use Rattle.sercos_script.specs.Scripts.{acts, carried, concerns, flipped, is_kind, is_restart, links_between, restarts_at}
pub use Rattle.sercos_script.specs.Stretches.{AreAhead, AreDone, edge, stretch}
pub use Rattle.sercos_script.specs.Ways.{has_link, over_all, over_passage, over_way}
pub use Rattle.std.specs.List.{filter}
pub use Rattle.std.specs.List.Sorted.{IsNonDecreasingBy, IsPartitionPoint, IsPermutation}
