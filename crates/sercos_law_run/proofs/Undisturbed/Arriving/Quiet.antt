-- Over links that change nothing no cycle is disturbed, if no station restarts.
use Rattle.sercos_law_run.proofs.Words.{◌≡◌, ℕ, zero, suc, ◌+◌, Bool, false, List, [], ◌∷◌, length, Option, Some, None, refl, slice_index, RingView, CycleView, SentView, Kind, Carry, IsQuiet, Restarts, Passage, frame_of, any_below, disturbed_at, passage, ats_in, mdt_in, mst_in, disturbs_ats, disturbs_mdt, disturbs_mst, is_disturbed_in, station_of, NeverDisturbed}
use Rattle.sercos_telegram.specs.declared.layout.Kind.TheVariants as kinds
use Rattle.sercos_law_run.proofs.Journal.ClearLemmas.{are_same-refl}

none_is : (n : ℕ) (f : ℕ → Bool) → ((k : ℕ) → f k ≡ false) → any_below n f ≡ false
none_is zero f off = refl
none_is (suc n) f off = rw (none_is n f off, off n) refl

module _ (carry : Carry) (cycle : ℕ) (quiet : (kind : Kind) (from : ℕ) → IsQuiet carry cycle kind from) where
  at_rest : (p : Passage) (content : List ℕ) → p.cycle ≡ cycle → disturbed_at carry p content ≡ false
  at_rest p content in_cycle = rw (quiet p.kind p.from p (frame_of content) in_cycle refl refl, are_same-refl (frame_of content)) refl

  ats_at_rest : (r : RingView) (ats : List (List ℕ)) → disturbs_ats r carry cycle ats ≡ false
  ats_at_rest r [] = refl
  ats_at_rest r (at ∷ ats) = rw (at_rest (passage cycle kinds.At (station_of r (slice_index at 0)) 0) at refl, ats_at_rest r ats) refl

  mdt_at_rest : (mdt : Option (List ℕ)) (k : ℕ) → disturbs_mdt carry cycle mdt k ≡ false
  mdt_at_rest None k = refl
  mdt_at_rest (Some mdt) k = at_rest (passage cycle kinds.Mdt 0 (k + 1)) mdt refl

  cycle_at_rest : (r : RingView) (restarts : Restarts) (sent : List SentView) → ((station : ℕ) → restarts cycle station ≡ false) → is_disturbed_in r carry restarts cycle sent ≡ false
  cycle_at_rest r restarts sent stay = rw (
    none_is (length r.drives + 1) (restarts cycle) stay,
    none_is (length r.drives) (disturbs_mst carry cycle (mst_in sent)) (λ k. at_rest (passage cycle kinds.Mst 0 (k + 1)) (mst_in sent) refl),
    at_rest (passage cycle kinds.Mst 0 0) (mst_in sent) refl,
    ats_at_rest r (ats_in sent),
    none_is (length r.drives) (disturbs_mdt carry cycle (mdt_in sent)) (mdt_at_rest (mdt_in sent)),
  ) refl

pub quiet_runs : (r : RingView) (carry : Carry) (restarts : Restarts) (j : List CycleView) → ((cycle : ℕ) (kind : Kind) (from : ℕ) → IsQuiet carry cycle kind from) → ((cycle station : ℕ) → restarts cycle station ≡ false) → NeverDisturbed r carry restarts j
quiet_runs r carry restarts [] quiet stay = tt
quiet_runs r carry restarts (t ∷ j) quiet stay = (quiet_runs r carry restarts j quiet stay, cycle_at_rest carry (length j) (quiet (length j)) r restarts t.sent (stay (length j)))
