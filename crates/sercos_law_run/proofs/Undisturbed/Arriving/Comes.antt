-- What arrives in an undisturbed cycle is what was sent.
use Rattle.sercos_law_run.proofs.Words.{◌≡◌, inl, inr, ℕ, zero, suc, ◌+◌, ◌<◌, ◌≤◌, Bool, true, false, List, [], ◌∷◌, length, Some, refl, subst, arith, ◌==◌, slice_index, cases_eq, or_parts, nat_tests, mst_content, RingView, SentView, CycleView, is_mst, Carry, Restarts, passage, any_below, disturbed_at, mst_in, ats_in, mdt_in, station_of, disturbs_mst, disturbs_mdt, disturbs_ats, IsUndisturbed}
use Rattle.sercos_telegram.specs.declared.layout.Kind.TheVariants as kinds
use Rattle.sercos_law_run.proofs.Undisturbed.Arriving.Taken.{IsAmong}
use Rattle.sercos_law_run.proofs.Views.Codecs.{mst_sound}

pub none_below : (n : ℕ) (f : ℕ → Bool) → any_below n f ≡ false → (i : ℕ) → i < n → f i ≡ false
none_below zero f none i below = absurd (omega (arith, below))
none_below (suc n) f none i below = elim (cases_eq i n) [
  | inl same ↦ rw same (or_parts (any_below n f) (f n) none).1
  | inr other ↦ none_below n f (or_parts (any_below n f) (f n) none).0 i (omega (arith, below, other))
]

-- the parts of an undisturbed cycle
pub record IsCalm (r : RingView) (carry : Carry) (restarts : Restarts) (cycle : ℕ) (sent : List SentView) : Type 0 where
  pub stays : (i : ℕ) → i ≤ length r.drives → restarts cycle i ≡ false
  pub mst : (k : ℕ) → k < length r.drives → disturbs_mst carry cycle (mst_in sent) k ≡ false
  pub own : disturbed_at carry (passage cycle kinds.Mst 0 0) (mst_in sent) ≡ false
  pub ats : disturbs_ats r carry cycle (ats_in sent) ≡ false
  pub mdt : (k : ℕ) → k < length r.drives → disturbs_mdt carry cycle (mdt_in sent) k ≡ false

pub calm_in : (r : RingView) (carry : Carry) (restarts : Restarts) (t : CycleView) (j : List CycleView) → IsUndisturbed r carry restarts t j → IsCalm r carry restarts (length j) t.sent
calm_in r carry restarts t j is =
    let (stays, rest) = or_parts (any_below (length r.drives + 1) (restarts (length j))) _ is in
    let (mst, rest2) = or_parts (any_below (length r.drives) (disturbs_mst carry (length j) (mst_in t.sent))) _ rest in
    let (own, rest3) = or_parts (disturbed_at carry (passage (length j) kinds.Mst 0 0) (mst_in t.sent)) _ rest2 in
    let (ats, mdt) = or_parts (disturbs_ats r carry (length j) (ats_in t.sent)) (any_below (length r.drives) (disturbs_mdt carry (length j) (mdt_in t.sent))) rest3 in
    record {
      stays = λ i low. none_below (length r.drives + 1) (restarts (length j)) stays i (omega (arith, low));
      mst = none_below (length r.drives) (disturbs_mst carry (length j) (mst_in t.sent)) mst;
      own = own;
      ats = ats;
      mdt = none_below (length r.drives) (disturbs_mdt carry (length j) (mdt_in t.sent)) mdt;
    }

-- one of the ATs
pub calm_at : (r : RingView) (carry : Carry) (cycle : ℕ) (at : List ℕ) (ats : List (List ℕ)) → IsAmong at ats → disturbs_ats r carry cycle ats ≡ false → disturbed_at carry (passage cycle kinds.At (station_of r (slice_index at 0)) 0) at ≡ false
calm_at r carry cycle at [] among calm = absurd among
calm_at r carry cycle at (x ∷ others) (inl same) calm = subst (λ (c : List ℕ). disturbed_at carry (passage cycle kinds.At (station_of r (slice_index c 0)) 0) c ≡ false) same ((or_parts _ _ calm).0)
calm_at r carry cycle at (x ∷ others) (inr later) calm = calm_at r carry cycle at others later ((or_parts _ _ calm).1)

-- an MST that comes back
pub own_mst_whole : (p : ℕ) → p ≤ 4 → is_mst p (Some (mst_content p)) ≡ true
own_mst_whole p low = let same : (p == p) ≡ true = grind (arith, nat_tests) in rw (mst_sound p low, same) refl
