-- The trace of a run is clean.
use Rattle.sercos_law_trace.proofs.Words.{◌≡◌, ◌≤◌, nat_le, true, List, length, reverse, arith, and_parts, nat_tests, Job, most_gap, most_cycle, is_rate, is_cycle, is_control, most_cycles, has_ring_numbers, RingView, Carry, Restarts, IsRun, run_of, IsOpened, totals_of, length-run_of, IsCleanIfClear, RunsAreClean, TracesAreClean, is_ring, are_ring_numbers}
use Rattle.sercos_law_trace.proofs.Clean.OtherFits.{runs_fit_others}
use Rattle.sercos_law_trace.proofs.Clean.StopFits.{runs_fit_reports}

pub runs_are_clean : TracesAreClean → RunsAreClean
runs_are_clean traces r jobs carry restarts j opened few run clear short =
    let counted : length j ≤ 4294967296 = omega (arith, short) in
    traces r jobs carry restarts j (totals_of (reverse j)) opened run clear counted (runs_fit_others r jobs carry restarts j opened run clear short
    (runs_fit_reports r jobs carry restarts j opened few run clear counted))

-- a ring runs at most 50,000 cycles
pub few_cycles : (r : RingView) → is_ring r ≡ true → r.cycles ≤ 50000
unfolding is_ring are_ring_numbers
few_cycles r valid = let a = (and_parts (is_rate r.rate) _ (and_parts (has_ring_numbers r) _ valid).0).1 in
    let c = (and_parts (is_control r.cycle r.control) _ (and_parts (is_cycle r.cycle) _ a).1).1 in
    let e = (and_parts (nat_le r.gap most_gap) _ (and_parts (nat_le r.control most_cycle) _ c).1).1 in
    grind (arith, nat_tests, (and_parts (nat_le 1 r.cycles) (nat_le r.cycles most_cycles) e).1)

-- so its whole run has a clean trace, if nothing was unseen
pub whole_is_clean : RunsAreClean → (r : RingView) (jobs : List Job) (carry : Carry) (restarts : Restarts) → IsOpened r jobs → length jobs ≤ 4096 → IsRun r jobs carry restarts (run_of r jobs carry restarts r.cycles)
    → IsCleanIfClear r (run_of r jobs carry restarts r.cycles)
whole_is_clean law r jobs carry restarts opened few run clear =
    let count = length-run_of r jobs carry restarts r.cycles in
    let most = few_cycles r opened.valid in
    law r jobs carry restarts (run_of r jobs carry restarts r.cycles) opened (omega (arith, few)) run clear (omega (arith, count, most))
