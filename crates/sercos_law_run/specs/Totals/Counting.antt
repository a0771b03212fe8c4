-- One cycle more is counted.
use Rattle.std.specs.Prelude.{◌≡◌, ◌+◌, ◌<◌, ℕ, ◌*◌, ◌≤◌, ◌^◌, ◌==◌, true, if◌then◌else◌, List, Some, None}
use Rattle.std.specs.Option.{option_or}
use Rattle.sercos_step.specs.declared.request.Job.{Job}
use Rattle.sercos_block.specs.Views.{RingView}
use Rattle.sercos_block.specs.Rings.{is_ring}
use Rattle.sercos_script.specs.Links.{Carry, Restarts}
use Rattle.sercos_trace.specs.Views.{CycleView}
use Rattle.sercos_trace.specs.declared.record.Totals.{Totals}
use Rattle.sercos_law_run.specs.Journal.Runs.{IsNext}
use Rattle.sercos_law_run.specs.Totals.Totals.{ended_in, falls_in, is_complete, is_refused, is_broken}

-- there is room in the counts for a cycle more
pub record HasRoom (t : Totals) : Type 0 where
  pub cycles : t.cycles + 1 < 2 ^ 32
  pub complete : t.complete + 128 < 2 ^ 32
  pub refused : t.refused + 128 < 2 ^ 32
  pub broken : t.broken + 128 < 2 ^ 32
  pub falls : t.falls + 1 < 2 ^ 32
  pub unseen : t.unseen + 195 < 2 ^ 32

-- the totals of no cycle
abbrev pub none_made : Totals
none_made = record { cycles = 0; phase = 0; complete = 0; refused = 0; broken = 0; falls = 0; unseen = 0; phase4 = None }

-- these totals with a cycle more
abbrev pub with_cycle : Totals → CycleView → Totals
with_cycle t made = record {
  cycles = t.cycles + 1;
  phase = made.phase;
  complete = t.complete + ended_in is_complete made;
  refused = t.refused + ended_in is_refused made;
  broken = t.broken + ended_in is_broken made;
  falls = t.falls + falls_in made;
  unseen = t.unseen + made.unseen;
  phase4 = option_or t.phase4 (if made.phase == 4 then Some made.cycle else None);
}

-- at most 128 requests end in a cycle, and few of its arrivals are unseen
pub record IsFew (made : CycleView) : Type 0 where
  pub complete : ended_in is_complete made ≤ 128
  pub refused : ended_in is_refused made ≤ 128
  pub broken : ended_in is_broken made ≤ 128
  pub unseen : made.unseen ≤ 195

-- this is the next cycle of a valid ring, after some others, the newest of which comes first
pub record IsMade (made : CycleView) : Type 0 where
  pub setup : RingView
  pub jobs : List Job
  pub carry : Carry
  pub restarts : Restarts
  pub before : List CycleView
  pub valid : is_ring setup ≡ true
  pub next : IsNext setup jobs carry restarts made before

-- n cycles of a run have counts of this size at most
pub record AreFew (t : Totals) (n : ℕ) : Type 0 where
  pub cycles : t.cycles ≤ n
  pub complete : t.complete ≤ n * 128
  pub refused : t.refused ≤ n * 128
  pub broken : t.broken ≤ n * 128
  pub falls : t.falls ≤ n
  pub unseen : t.unseen ≤ n * 195
