-- What a plan of the master is, whatever its drives answered.
use Rattle.sercos_law_run.proofs.Words.{◌≡◌, Some, Result, Ok, Err, refl, subst, IfOk, WishesView, PlanView, IsValid, ChainView, planned, IsLeast, planned_least, wishes_given, Known, IsKnown, Past, IsPlanned, outcomes, is_valid}

-- a plan is the least that fits what was read
pub record IsPlanOf (w : WishesView) (plan : PlanView) : Type 0 where
  pub valid : IsValid w
  pub least : IsLeast w plan
  pub made : planned w ≡ Ok plan

pub plan_of : (s : Known) (p : Past) (plan : PlanView) → IsKnown s → IsPlanned s p → p.plan ≡ Some plan → IsPlanOf (wishes_given s (outcomes p)) plan
plan_of s p plan is_known planned_so has =
    let made = planned_so plan has in
    let valid : IsValid (wishes_given s (outcomes p)) = is_valid s (outcomes p) is_known made.fits in
    record { valid = valid; made = made.planned_is; least = by (planned (wishes_given s (outcomes p))) made.planned_is (planned_least (wishes_given s (outcomes p)) valid (planned (wishes_given s (outcomes p))) refl) }
  where
    by : (o : Result PlanView ChainView) → o ≡ Ok plan → IfOk o (IsLeast (wishes_given s (outcomes p))) → IsLeast (wishes_given s (outcomes p)) plan
    by (Ok x) is least = let same : x ≡ plan = cc in subst (λ q. IsLeast (wishes_given s (outcomes p)) q) same least
    by (Err c) is least = cc
