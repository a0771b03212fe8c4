-- The totals of cycles and one more.
use Rattle.sercos_law_run.proofs.Words.{◌≡◌, ℕ, ◌==◌, if◌then◌else◌, List, [], ◌∷◌, ◌++◌, Option, Some, None, option_map, refl, length-append, option_or, find, sum_by_push, fold-append, find-append, CycleView, ended_in, falls_in, is_refused, is_broken, with_cycle, totals_of, cases_Bool, inl, inr}
use Rattle.sercos_law_run.specs.Totals.Totals.{is_complete}

map_or : (found other : Option CycleView) → option_map (λ (t : CycleView). t.cycle) (option_or found other) ≡ option_or (option_map (λ (t : CycleView). t.cycle) found) (option_map (λ (t : CycleView). t.cycle) other)
map_or None other = refl
map_or (Some t) other = refl

first_of_one : (t : CycleView) → option_map (λ (t : CycleView). t.cycle) (find (λ (t : CycleView). t.phase == 4) (t ∷ [])) ≡ (if t.phase == 4 then Some t.cycle else None)
first_of_one t = elim (cases_Bool (t.phase == 4)) [ inl on ↦ rw on | inr off ↦ rw off ]

pub totals_more : (cycles : List CycleView) (made : CycleView) → totals_of (cycles ++ made ∷ []) ≡ with_cycle (totals_of cycles) made
unfolding totals_of
totals_more cycles made = rw (length-append cycles (made ∷ []), fold-append (λ (before : ℕ) (t : CycleView). t.phase) 0 cycles (made ∷ []), sum_by_push (ended_in is_complete) cycles made, sum_by_push (ended_in is_refused) cycles made, sum_by_push (ended_in is_broken) cycles made, sum_by_push falls_in cycles made, sum_by_push (λ (t : CycleView). t.unseen) cycles made, find-append (λ (t : CycleView). t.phase == 4) cycles (made ∷ []), map_or (find (λ (t : CycleView). t.phase == 4) cycles) (find (λ (t : CycleView). t.phase == 4) (made ∷ [])), first_of_one made) refl
