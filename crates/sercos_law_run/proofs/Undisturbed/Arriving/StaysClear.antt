-- In an undisturbed cycle no arrival is unseen.
use Rattle.sercos_law_run.proofs.Words.{◌≡◌, ℕ, ◌+◌, Bool, true, false, ◌&&◌, List, [], ◌∷◌, ◌++◌, length, Option, Some, None, refl, ap, arith, if◌then◌else◌, or_parts, is_none, slice_index, reason_of, Job, RingView, CycleView, Passage, Carry, Restarts, is_disturbed, disturbed_at, unseen_at, passage, mst_in, ats_in, mdt_in, disturbs_ats, disturbs_mdt, unseen_ats, unseen_mdt, unseen_mst, station_of, IsNext, IsRun, IsClear, IsUndisturbed, AreUndisturbed, is_unseen}
use Rattle.sercos_telegram.specs.declared.layout.Kind.TheVariants as kinds
use Rattle.sercos_law_run.proofs.Journal.ClearLemmas.{sum_none}
use Rattle.sercos_law_run.proofs.Undisturbed.Arriving.Comes.{IsCalm, calm_in}

-- what isn't disturbed isn't unseen
seen : (sent : List Bool) (came : Option (List Bool)) → is_disturbed sent came ≡ false → is_unseen sent came ≡ false
unfolding is_unseen
seen sent None calm = refl
seen sent (Some came) calm = ap (λ (b : Bool). b && is_none (reason_of came)) calm

abbrev count_of : Bool → ℕ
count_of b = if b then 1 else 0

none_unseen : (b : Bool) → b ≡ false → count_of b ≡ 0
none_unseen true off = cc
none_unseen false off = refl

module _ (carry : Carry) where
  none_at : (p : Passage) (content : List ℕ) → disturbed_at carry p content ≡ false → unseen_at carry p content ≡ 0
  none_at p content calm = none_unseen _ (seen _ _ calm)

  none_mdt : (cycle : ℕ) (o : Option (List ℕ)) (k : ℕ) → disturbs_mdt carry cycle o k ≡ false → unseen_mdt carry cycle o k ≡ 0
  none_mdt cycle None k calm = refl
  none_mdt cycle (Some mdt) k calm = none_at (passage cycle kinds.Mdt 0 (k + 1)) mdt calm

  none_ats : (r : RingView) (cycle : ℕ) (ats : List (List ℕ)) → disturbs_ats r carry cycle ats ≡ false → unseen_ats r carry cycle ats ≡ 0
  none_ats r cycle [] calm = refl
  none_ats r cycle (at ∷ ats) calm =
      let parts = or_parts (disturbed_at carry (passage cycle kinds.At (station_of r (slice_index at 0)) 0) at) (disturbs_ats r carry cycle ats) calm in
      let first = none_at (passage cycle kinds.At (station_of r (slice_index at 0)) 0) at parts.0 in
      let rest = none_ats r cycle ats parts.1 in omega (arith, first, rest)

module _ (r : RingView) (jobs : List Job) (carry : Carry) (restarts : Restarts) where
  clear_in : (t : CycleView) (j : List CycleView) → IsNext r jobs carry restarts t j → IsUndisturbed r carry restarts t j → t.unseen ≡ 0
  clear_in t j next undisturbed =
      let calm : IsCalm r carry restarts (length j) t.sent = calm_in r carry restarts t j undisturbed in
      let msts = sum_none (length r.drives) (unseen_mst carry (length j) (mst_in t.sent)) (λ k low. none_at carry (passage (length j) kinds.Mst 0 (k + 1)) (mst_in t.sent) (calm.mst k low)) in
      let ats = none_ats carry r (length j) (ats_in t.sent) calm.ats in
      let mdts = sum_none (length r.drives) (unseen_mdt carry (length j) (mdt_in t.sent)) (λ k low. none_mdt carry (length j) (mdt_in t.sent) k (calm.mdt k low)) in
      omega (arith, next.unseen, msts, none_at carry (passage (length j) kinds.Mst 0 0) (mst_in t.sent) calm.own, ats, mdts)

  pub stays_clear : (cycles before : List CycleView) → IsRun r jobs carry restarts (cycles ++ before) → IsClear before → AreUndisturbed r carry restarts cycles before → IsClear (cycles ++ before)
  stays_clear [] before run clear calm = clear
  stays_clear (t ∷ cycles) before run clear calm = (stays_clear cycles before run.0 clear calm.0, clear_in t (cycles ++ before) run.1 calm.1)
