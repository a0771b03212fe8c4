-- The cycles of an undisturbed epoch, one by one.
pub use Rattle.sercos_law_run.proofs.Undisturbed.GoingCycles.{longer, run_rest, stays_four}
use Rattle.sercos_law_run.proofs.Undisturbed.GoingCycles.{AreAll, AreGoing, IsGoing, all_so, outcomes_grow, outcomes_kept}
use Rattle.sercos_law_run.proofs.Words.{◌≡◌, ℕ, zero, suc, ◌+◌, ◌<◌, false, List, [], ◌∷◌, ◌++◌, length, None, refl, sym, ap, subst, arith, Job, RingView, CycleView, known_of, outcomes, fall_of, Carry, Restarts, View, standing, IsWhole, AreWhole, master_calls, looks_back, IsRun, IsClear, at_start, behind_mdt, view_of, views_of, IsOpened, AreUndisturbed, IsUndisturbed, StartsEpoch, views_since}
use Rattle.sercos_law_run.proofs.Held.Extended.{Extends}
use Rattle.sercos_law_run.proofs.Undisturbed.Arriving.Comes.{calm_in}
use Rattle.sercos_law_run.proofs.Undisturbed.Identified.{starts_so}
use Rattle.sercos_law_run.proofs.Undisturbed.Checks.PassedCycles.{views_split}
use Rattle.sercos_law_run.proofs.Undisturbed.NeverFalls.{stays_throughout}
use Rattle.sercos_law_run.proofs.Undisturbed.ChannelsKept.{phase_now}

-- A CYCLE in which nothing is disturbed, in an epoch in which nothing was: the ring doesn't fall, the master doesn't restart, the cycle
-- is whole for each drive, and each drive ends it in the commanded phase.
pub record IsOn (r : RingView) (jobs : List Job) (carry : Carry) (restarts : Restarts) (t : CycleView) (j : List CycleView) : Type 0 where
  pub now : (behind_mdt r jobs carry restarts t.sent j).now.phase ≡ t.phase
  pub stays : fall_of (known_of r) (behind_mdt r jobs carry restarts t.sent j) ≡ None
  pub quiet : restarts (length j) 0 ≡ false
  pub starts : at_start r jobs carry restarts j ≡ looks_back r jobs (master_calls r carry restarts j)
  pub whole : (k : ℕ) → k < length r.drives → IsWhole (view_of r jobs carry restarts k t j) (views_of r jobs carry restarts k j)
  pub up : (k : ℕ) → k < length r.drives → (standing (views_of r jobs carry restarts k (t ∷ j))).ended ≡ t.phase

abbrev pub AreOn : RingView → List Job → Carry → Restarts → List CycleView → List CycleView → Type 0
AreOn r jobs carry restarts cycles rest = AreAll (IsOn r jobs carry restarts) cycles rest

pub going : (r : RingView) (jobs : List Job) (carry : Carry) (restarts : Restarts) (t : CycleView) (j : List CycleView)
    → IsOn r jobs carry restarts t j
    → IsGoing r jobs carry restarts t j
going r jobs carry restarts t j on = record { now = on.now; stays = on.stays; quiet = on.quiet; starts = on.starts }

pub goings : (r : RingView) (jobs : List Job) (carry : Carry) (restarts : Restarts) (cycles rest : List CycleView)
    → AreOn r jobs carry restarts cycles rest
    → AreGoing r jobs carry restarts cycles rest
goings r jobs carry restarts cycles rest are = all_so (IsOn r jobs carry restarts) (IsGoing r jobs carry restarts)
    (going r jobs carry restarts) cycles rest are

-- the cycles of an epoch, cut before the newest n: the newest of the others is `one`
pub record IsCut (r : RingView) (jobs : List Job) (carry : Carry) (restarts : Restarts) (n : ℕ) (cycles before : List CycleView) : Type 0 where
  pub newer : List CycleView
  pub one : CycleView
  pub older : List CycleView
  pub is : cycles ++ before ≡ newer ++ one ∷ (older ++ before)
  pub long : length newer ≡ n
  pub rest : length older + suc n ≡ length cycles
  pub on : AreOn r jobs carry restarts newer (one ∷ (older ++ before))
  pub on_older : AreOn r jobs carry restarts (one ∷ older) before
  pub calm : AreUndisturbed r carry restarts (one ∷ older) before
  pub calm_newer : AreUndisturbed r carry restarts newer (one ∷ (older ++ before))

pub cut : (r : RingView) (jobs : List Job) (carry : Carry) (restarts : Restarts) (cycles before : List CycleView) (n : ℕ) → n < length cycles → AreOn r jobs carry restarts cycles before → AreUndisturbed r carry restarts cycles before
    → IsCut r jobs carry restarts n cycles before
cut r jobs carry restarts [] before n low on calm = absurd (omega (arith, low))
cut r jobs carry restarts (t ∷ cycles) before zero low on calm = record { newer = []; one = t; older = cycles; is = refl; long = refl; rest = omega arith; on = tt; on_older = on; calm = calm; calm_newer = tt }
cut r jobs carry restarts (t ∷ cycles) before (suc n) low on calm =
    let c = cut r jobs carry restarts cycles before n (omega (arith, low)) on.0 calm.0 in
    record {
      newer = t ∷ c.newer;
      one = c.one;
      older = c.older;
      is = ap (λ (l : List CycleView). t ∷ l) c.is;
      long = ap suc c.long;
      rest = omega (arith, c.rest);
      on = (c.on, subst (λ (l : List CycleView). IsOn r jobs carry restarts t l) c.is on.1);
      on_older = c.on_older;
      calm = c.calm;
      calm_newer = (c.calm_newer, subst (λ (l : List CycleView). IsUndisturbed r carry restarts t l) c.is calm.1);
    }

-- such cycles are whole
pub wholes : (r : RingView) (jobs : List Job) (carry : Carry) (restarts : Restarts) (cycles rest : List CycleView) → AreOn r jobs carry restarts cycles rest → (k : ℕ) → k < length r.drives
    → AreWhole (views_since r jobs carry restarts k cycles rest) (views_of r jobs carry restarts k rest)
wholes r jobs carry restarts [] rest are k below = tt
wholes r jobs carry restarts (t ∷ cycles) rest are k below = (
  wholes r jobs carry restarts cycles rest are.0 k below,
  subst (λ (l : List View). IsWhole (view_of r jobs carry restarts k t (cycles ++ rest)) l) (views_split r jobs carry restarts k cycles rest) (are.1.whole k below),
)

module _ (r : RingView) (jobs : List Job) (carry : Carry) (restarts : Restarts) (opened : IsOpened r jobs) where
  pub outcomes_extend : (t : CycleView) (j : List CycleView) → IsRun r jobs carry restarts (t ∷ j) → IsClear (t ∷ j)
      → IsOn r jobs carry restarts t j → (k : ℕ) → k < length r.drives
      → Extends (outcomes (looks_back r jobs (master_calls r carry restarts j)) k) (outcomes (behind_mdt r jobs carry restarts t.sent j) k)
  outcomes_extend t j run clear on k below = outcomes_grow r jobs carry restarts opened t j run clear (going r jobs carry restarts t j on) k
      below

  pub outcomes_after : (t : CycleView) (j : List CycleView) → IsOn r jobs carry restarts t j → (k : ℕ)
      → outcomes (looks_back r jobs (master_calls r carry restarts (t ∷ j))) k ≡ outcomes (behind_mdt r jobs carry restarts t.sent j) k
  outcomes_after t j on k = outcomes_kept r jobs carry restarts opened t j (going r jobs carry restarts t j on) k

module _ (r : RingView) (jobs : List Job) (carry : Carry) (restarts : Restarts) (opened : IsOpened r jobs) where
  -- THE CYCLES OF AN UNDISTURBED EPOCH are such.
  pub on_in : (t : CycleView) (cycles before : List CycleView) → IsRun r jobs carry restarts (t ∷ (cycles ++ before)) → IsClear (t ∷ (cycles ++ before)) → StartsEpoch r jobs carry restarts before → AreUndisturbed r carry restarts (t ∷ cycles) before
      → IsOn r jobs carry restarts t (cycles ++ before)
  on_in t cycles before run clear starts calm =
      let all = stays_throughout r jobs carry restarts opened (t ∷ cycles) before run clear starts calm in
      record {
        now = phase_now r jobs carry restarts t (cycles ++ before) run.1;
        stays = all.stays.1;
        quiet = (calm_in r carry restarts t (cycles ++ before) calm.1).stays 0 (omega arith);
        starts = starts_so r jobs carry restarts opened t (cycles ++ before) run.1 (calm_in r carry restarts t (cycles ++ before) calm.1);
        whole = λ k below. subst (λ (l : List View). IsWhole (view_of r jobs carry restarts k t (cycles ++ before)) l) (sym (views_split r jobs carry restarts k cycles before)) (all.whole k below).1;
        up = λ k below. subst (λ (l : List View). (standing (view_of r jobs carry restarts k t (cycles ++ before) ∷ l)).ended ≡ t.phase) (sym (views_split r jobs carry restarts k cycles before)) (all.stands k below).1.1;
      }

  pub are_on : (cycles before : List CycleView) → IsRun r jobs carry restarts (cycles ++ before) → IsClear (cycles ++ before) → StartsEpoch r jobs carry restarts before → AreUndisturbed r carry restarts cycles before → AreOn r jobs carry restarts cycles before
  are_on [] before run clear starts calm = tt
  are_on (t ∷ cycles) before run clear starts calm = (are_on cycles before run.0 clear.0 starts calm.0, on_in t cycles before run clear starts calm)
