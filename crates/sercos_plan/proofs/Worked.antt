-- Worked plans and chains, which the checker computes.
use Rattle.std.proofs.Common.{◌≡◌, ℕ, true, false, List, [], ◌∷◌, refl, sym, ◌∙◌, arith}
use Rattle.std.specs.Prelude.{Result, Ok, Err, None}
use Rattle.std.proofs.lemmas.Bool.{false≢true}
use Rattle.std.proofs.lemmas.Option.{some_pair_parts}
use Rattle.sercos_timing.specs.Views.{PlanView}
use Rattle.sercos_timing.specs.Examples.{small_ring, small_drive, two_drives, three_drives, large_drives}
use Rattle.sercos_timing.specs.declared.wishes.Wish.{Wish}
use Rattle.sercos_plan.specs.LeastTimes.{least_t2, least_t3, least_plan}
use Rattle.sercos_plan.specs.Views.{ChainView}
use Rattle.sercos_plan.specs.Chains.{are_linked, IsChain}
use Rattle.sercos_plan.specs.ChainOf.{planned, chain_of, trail_t2, trail_t3, trail, trail_at}
use Rattle.sercos_plan.specs.declared.chain.Link.{Link}
use Rattle.sercos_plan.proofs.TestLemmas.{linked-Linked, Linked-linked}

abbrev plan : List ℕ → ℕ → ℕ → ℕ → List ℕ → ℕ → Result PlanView ChainView
plan t1 t2 t3 t4 position mdt_len =
    Ok (record { t1 = t1; t2 = t2; t3 = t3; t4 = t4; position = position; mdt_len = mdt_len })

two_planned : planned (two_drives 250 10) ≡ plan (10 ∷ 46 ∷ []) 83 153 230 (1 ∷ 9 ∷ []) 16
unfolding least_plan least_t2 least_t3
two_planned = refl

-- the third drive waits for its slave's transmitter
three_planned : planned three_drives ≡ plan (10 ∷ 46 ∷ 101 ∷ []) 138 227 230 (1 ∷ 9 ∷ 17 ∷ []) 24
unfolding least_plan least_t2 least_t3
three_planned = refl

large_planned : planned large_drives ≡ plan (20 ∷ 70 ∷ 120 ∷ []) 175 323 900 (1 ∷ 13 ∷ 25 ∷ []) 36
unfolding least_plan least_t2 least_t3
large_planned = refl

-- with a TMTSY of 104 microseconds the next MST just keeps its time, with 105 it doesn't
just_planned : planned (two_drives 250 104) ≡ plan (10 ∷ 46 ∷ []) 83 153 230 (1 ∷ 9 ∷ []) 16
unfolding least_plan least_t2 least_t3
just_planned = refl

rate_16 : planned (record (two_drives 250 10) { rate = 16 }) ≡ plan (10 ∷ 23 ∷ []) 37 70 230 (1 ∷ 9 ∷ []) 16
unfolding least_plan least_t2 least_t3
rate_16 = refl

one_slave : planned (small_ring 250 (0 ∷ 1 ∷ []) (small_drive 1 1 10 5 10 ∷ small_drive 2 1 12 2 10 ∷ [])) ≡ plan (10 ∷ 43 ∷ []) 80 150 230 (1 ∷ 9 ∷ []) 16
unfolding least_plan least_t2 least_t3
one_slave = refl

abbrev link : ℕ → ℕ → ℕ → Link
link rule drive at = record { rule = rule; drive = drive; at = at }

abbrev chain : List Link → ℕ → ℕ → ℕ → ℕ → ChainView
chain links rule drive sum bound = record { links = links; rule = rule; drive = drive; sum = sum; bound = bound }

abbrev two_links : List Link
two_links = link 1 1 40 ∷ link 3 2 184 ∷ link 6 2 332 ∷ []

late_mst : planned (two_drives 250 105) ≡ Err (chain two_links 9 1 950 946)
unfolding chain_of trail_t2 trail_t3 trail trail_at least_plan least_t2 least_t3
late_mst = refl

short_cycle : planned (two_drives 125 10) ≡ Err (chain two_links 9 1 570 446)
unfolding chain_of trail_t2 trail_t3 trail trail_at least_plan least_t2 least_t3
short_cycle = refl

-- by way of the slave's transmitter
short_slave : planned (record three_drives { cycle = 125; control = 125 }) ≡ Err (chain (link 1 1 40 ∷ link 4 3 404 ∷ link 6 3 552 ∷ []) 9 1 867 446)
unfolding chain_of trail_t2 trail_t3 trail trail_at least_plan least_t2 least_t3
short_slave = refl

-- by way of the last AT, with a gap as long as each TMTSY
long_gap : planned (record (two_drives 125 10) { gap = 10 }) ≡ Err (chain (link 1 1 40 ∷ link 3 2 204 ∷ link 5 2 368 ∷ []) 9 0 606 446)
unfolding chain_of trail_t2 trail_t3 trail trail_at least_plan least_t2 least_t3
long_gap = refl

-- the second drive's command values are valid too late, and the first one's feedback is captured too early
abbrev slow_drive : ℕ → ℕ → ℕ → ℕ → Wish
slow_drive address t1min tmtsg t4min = record (small_drive address address t1min 5 10) { times = record { t1min = t1min; tatmt = 6; t4min = t4min; tatat = 5; tmtsy = 10; tmtsg = tmtsg } }

late_records : planned (small_ring 250 (0 ∷ 1 ∷ []) (slow_drive 1 10 20 20 ∷ slow_drive 2 12 120 20 ∷ [])) ≡
    Err (chain (link 1 1 40 ∷ link 3 2 184 ∷ link 6 2 332 ∷ link 7 2 1012 ∷ []) 8 2 1012 1000)
unfolding chain_of trail_t2 trail_t3 trail trail_at least_plan least_t2 least_t3
late_records = refl

early_capture : planned (small_ring 250 (0 ∷ 1 ∷ []) (slow_drive 1 10 20 251 ∷ slow_drive 2 12 20 20 ∷ [])) ≡ Err (chain [] 10 1 1004 1000)
unfolding chain_of trail_t2 trail_t3 trail trail_at least_plan least_t2 least_t3
early_capture = refl

-- a chain, and what is none: with another sum, with another bound, without its second link
is_chain : IsChain (two_drives 125 10) (chain two_links 9 1 570 446)
is_chain = record { links = linked-Linked (two_drives 125 10) None two_links refl; end = refl; above = omega arith }

other_sum : IsChain (two_drives 125 10) (chain two_links 9 1 569 446) → ⊥
other_sum h = let parts = some_pair_parts 570 569 446 446 (h.end) in let same = parts.0 in omega arith

other_bound : IsChain (two_drives 125 10) (chain two_links 9 1 570 447) → ⊥
other_bound h = let parts = some_pair_parts 570 570 446 447 (h.end) in let same = parts.1 in omega arith

without_second : IsChain (two_drives 125 10) (chain (link 1 1 40 ∷ link 6 2 332 ∷ []) 9 1 570 446) → ⊥
without_second h =
    let linked : are_linked (two_drives 125 10) None (link 1 1 40 ∷ link 6 2 332 ∷ []) ≡ true = Linked-linked (two_drives 125 10) None (link 1 1 40 ∷ link 6 2 332 ∷ []) h.links in
    let loose : are_linked (two_drives 125 10) None (link 1 1 40 ∷ link 6 2 332 ∷ []) ≡ false = refl in
    absurd (false≢true (sym loose ∙ linked))
