-- The totals of a run: what is counted of its cycles, which are in their order.
use Rattle.std.specs.Prelude.{ℕ, ◌==◌, Bool, true, false, if◌then◌else◌, List, length, option_map, is_some}
use Rattle.std.specs.List.{filter, find, fold, sum_by}
use Rattle.sercos_step.specs.declared.request.Outcome.{Outcome}
use Rattle.sercos_step.specs.declared.request.Outcome.TheVariants as outcome
use Rattle.sercos_trace.specs.Views.{CycleView}
use Rattle.sercos_trace.specs.declared.record.Totals.{Totals}

abbrev pub is_complete : Outcome → Bool
is_complete (outcome.Complete bytes) = true
is_complete _ = false

abbrev pub is_refused : Outcome → Bool
is_refused (outcome.Refused code) = true
is_refused _ = false

abbrev pub is_broken : Outcome → Bool
is_broken outcome.Broken = true
is_broken _ = false

-- how many requests end in a cycle in this way
abbrev pub ended : (Outcome → Bool) → List (ℕ × Outcome) → ℕ
ended test outcomes = length (filter (λ (r : ℕ × Outcome). test r.1) outcomes)

abbrev pub ended_in : (Outcome → Bool) → CycleView → ℕ
ended_in test t = ended test t.events.outcomes

abbrev pub falls_in : CycleView → ℕ
falls_in t = if is_some t.events.fall then 1 else 0

-- How many cycles there are, the phase commanded in the last one, how many requests were complete, refused or broken, how many falls
-- and unseen arrivals there were, and the first cycle in which phase 4 was commanded.
unfoldable pub totals_of : List CycleView → Totals
totals_of cycles = record {
  cycles = length cycles;
  phase = fold (λ (before : ℕ) (t : CycleView). t.phase) 0 cycles;
  complete = sum_by (ended_in is_complete) cycles;
  refused = sum_by (ended_in is_refused) cycles;
  broken = sum_by (ended_in is_broken) cycles;
  falls = sum_by falls_in cycles;
  unseen = sum_by (λ (t : CycleView). t.unseen) cycles;
  phase4 = option_map (λ (t : CycleView). t.cycle) (find (λ (t : CycleView). t.phase == 4) cycles);
}
