-- An undisturbed epoch is one whose disturbed cycles are sparse, since it has none: so its start-up costs no more than its bound.
use Rattle.sercos_law_run.proofs.Words.{◌≡◌, inl, inr, ◌+◌, Bool, true, false, List, [], ◌∷◌, ◌++◌, length, Option, refl, ap, arith, if◌then◌else◌, ◌==◌, is_some, ℕ, Job, RingView, CycleView, Stop, Carry, Restarts, is_disturbed_in, IsRun, behind_mst, IsOpened, CostsUndisturbed, ComesToAnEnd, ComesToPhaseFour, EndsStartUp, RisesIfRight, AreUndisturbed, IsUndisturbed, CalmIsSparse, cycles_for, disturbances, start_costs, AreSparse}
use Rattle.sercos_law_run.proofs.Undisturbed.Arriving.Comes.{calm_in}
use Rattle.sercos_law_run.proofs.Undisturbed.Arriving.Small.{never_both}
use Rattle.sercos_law_run.proofs.Undisturbed.GoingCycles.{AreAll}
use Rattle.sercos_law_run.proofs.Undisturbed.Identified.{mst_whole}
use Rattle.sercos_law_run.proofs.Tolerance.CostsSparse.{costs_sparse}
use Rattle.sercos_law_run.proofs.Tolerance.Ends.{ends_at}
use Rattle.sercos_law_run.proofs.Tolerance.Rises.{comes_sparse, rises_sparse}

-- cycles in which nothing is disturbed are sparse
pub calm_is_sparse : CalmIsSparse
calm_is_sparse r carry restarts t j calm = record {
  goes_on = (calm_in r carry restarts t j calm).stays;
  early = λ disturbed one low. absurd (never_both _ disturbed calm);
  late = λ disturbed high. absurd (never_both _ disturbed calm);
}

pub are_sparse : (r : RingView) (carry : Carry) (restarts : Restarts) (cycles before : List CycleView)
    → AreUndisturbed r carry restarts cycles before → AreSparse r carry restarts cycles before
are_sparse r carry restarts [] before calm = tt
are_sparse r carry restarts (t ∷ cycles) before calm =
    (are_sparse r carry restarts cycles before calm.0, calm_is_sparse r carry restarts t (cycles ++ before) calm.1)

-- and undisturbed cycles one by one
pub each_calm : (r : RingView) (carry : Carry) (restarts : Restarts) (cycles before : List CycleView)
    → AreUndisturbed r carry restarts cycles before → AreAll (IsUndisturbed r carry restarts) cycles before
each_calm r carry restarts [] before calm = tt
each_calm r carry restarts (t ∷ cycles) before calm = (each_calm r carry restarts cycles before calm.0, calm.1)

pub calm_of : (r : RingView) (carry : Carry) (restarts : Restarts) (cycles before : List CycleView)
    → AreAll (IsUndisturbed r carry restarts) cycles before → AreUndisturbed r carry restarts cycles before
calm_of r carry restarts [] before those = tt
calm_of r carry restarts (t ∷ cycles) before those = (calm_of r carry restarts cycles before those.0, those.1)

-- what a cycle costs that is neither disturbed nor loses the own MST
costs_none : (zero one whole disturbed : Bool) (n : ℕ) → whole ≡ true → disturbed ≡ false
    → (if zero then (if whole then 0 else 10) else (if one then (if disturbed then 2 else 0) else 0)) + (if disturbed then n else 0) ≡ 0
costs_none true one whole disturbed n came calm = rw (came, calm) refl
costs_none false true whole disturbed n came calm = rw calm refl
costs_none false false whole disturbed n came calm = rw calm refl

pub no_costs : (r : RingView) (jobs : List Job) (carry : Carry) (restarts : Restarts) (opened : IsOpened r jobs)
    (cycles before : List CycleView)
    → IsRun r jobs carry restarts (cycles ++ before) → AreUndisturbed r carry restarts cycles before
    → start_costs r jobs carry restarts cycles before ≡ 0
no_costs r jobs carry restarts opened [] before run calm = refl
no_costs r jobs carry restarts opened (t ∷ cycles) before run calm =
    let here = costs_none (t.phase == 0) (t.phase == 1) (behind_mst r jobs carry restarts t.sent (cycles ++ before)).now.whole
    (is_disturbed_in r carry restarts (length (cycles ++ before)) t.sent) (if t.phase == 2 then 2 else (if t.phase == 3 then 1 else 0))
    (mst_whole r jobs carry restarts opened t (cycles ++ before) run.1 (calm_in r carry restarts t (cycles ++ before) calm.1)) calm.1 in
    omega (arith, no_costs r jobs carry restarts opened cycles before run.0 calm.0, here)

no_disturbances : (r : RingView) (carry : Carry) (restarts : Restarts) (cycles before : List CycleView)
    → AreUndisturbed r carry restarts cycles before → disturbances r carry restarts cycles before ≡ 0
no_disturbances r carry restarts [] before calm = refl
no_disturbances r carry restarts (t ∷ cycles) before calm =
    let here : (if is_disturbed_in r carry restarts (length (cycles ++ before)) t.sent then cycles_for t.phase else 0) ≡ 0 = rw calm.1 refl in
    omega (arith, no_disturbances r carry restarts cycles before calm.0, here)

-- THE CYCLES with an open step are at most the cost of the requests.
pub costs_undisturbed : CostsUndisturbed
costs_undisturbed r jobs carry restarts cycles before opened run clear starts calm k longest below listed =
    let most = costs_sparse r jobs carry restarts opened cycles before run clear (inl starts) (are_sparse r carry restarts cycles before calm)
    k longest below listed in
    let none = no_disturbances r carry restarts cycles before calm in omega (arith, most, none)

-- PHASE 4, a stop, or a check that has ended badly
pub comes_to_phase_four : ComesToPhaseFour
comes_to_phase_four r jobs carry restarts t cycles before opened run clear starts calm long =
    comes_sparse r jobs carry restarts opened t cycles before run clear (inl starts) (are_sparse r carry restarts (t ∷ cycles) before calm)
    (let none = no_costs r jobs carry restarts opened cycles before run.0 calm.0 in omega (arith, none, long))

pub rises_if_right : RisesIfRight
rises_if_right r jobs carry restarts t cycles before opened run clear starts calm long =
    rises_sparse r jobs carry restarts opened t cycles before run clear (inl starts) (are_sparse r carry restarts (t ∷ cycles) before calm)
    (let none = no_costs r jobs carry restarts opened cycles before run.0 calm.0 in omega (arith, none, long))

-- HOW IT ENDS
pub ends_start_up : EndsStartUp
ends_start_up r jobs carry restarts t cycles before opened run clear starts calm long =
    ends_at r jobs carry restarts opened t cycles before run clear (inl starts) (are_sparse r carry restarts (t ∷ cycles) before calm)
    (let none = no_costs r jobs carry restarts opened cycles before run.0 calm.0 in omega (arith, none, long))

pub comes_to_an_end : ComesToAnEnd
comes_to_an_end r jobs carry restarts t cycles before opened run clear starts calm long =
    elim (ends_start_up r jobs carry restarts t cycles before opened run clear starts calm long) [
      | inl up ↦ inl up.0
      | inr (x, is, cause) ↦ inr (ap (λ (o : Option Stop). is_some o) is)
    ]
