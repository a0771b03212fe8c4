-- One more drive of the ring was given a call.
use Rattle.std.proofs.Common.{◌≡◌, inl, inr, ℕ, suc, ◌+◌, ◌<◌, List, length, get_or, sym, ◌∙◌, refl, arith, if◌then◌else◌, subst}
use Rattle.std.specs.Prelude.{nat_lt}
use Rattle.std.proofs.Math.ListN.{set, length-set}
use Rattle.std.proofs.lemmas.List.{get_or-set_other}
use Rattle.std.proofs.lemmas.Grind.{get_or-set_at}
use Rattle.std.proofs.lemmas.Bool.{cases_eq, lt-ltb, le-ltb, cases_Bool, ltb-true, ltb-false}
use Rattle.sercos_block.specs.Views.{DriveView}
use Rattle.sercos_drive.specs.Heard.{DriveCall}
use Rattle.sercos_drive.specs.Kept.{DriveState, DriveStandsFor}
use Rattle.sercos_law_run.specs.Journal.Arrivals.{sum_below}
use Rattle.sercos_ring.specs.Stations.{AllStand}

same_test : (i k : ℕ) → (k ≡ i → ⊥) → nat_lt k (i + 1) ≡ nat_lt k i
same_test i k other = elim (cases_Bool (nat_lt k i)) [
  | inl below ↦ let lt = ltb-true k i below in lt-ltb k (i + 1) (omega arith) ∙ sym below
  | inr above ↦ let le = ltb-false k i above in le-ltb k (i + 1) (omega (arith, other)) ∙ sym above
]

-- the calls of the first n drives are the new ones, and of the others the old ones
abbrev pub so_far : (ℕ → List DriveCall) → (ℕ → List DriveCall) → ℕ → ℕ → List DriveCall
so_far old new n k = if nat_lt k n then new k else old k

pub one_more : (d : ℕ → DriveView) (rate : ℕ) (old new : ℕ → List DriveCall) (drives : List DriveState) (i : ℕ) (v w : DriveState)
    → i < length drives → v ≡ get_or drives i v
    → (DriveStandsFor v (d i) rate (old i) → DriveStandsFor w (d i) rate (new i))
    → AllStand drives d rate (so_far old new i) → AllStand (set drives i w) d rate (so_far old new (i + 1))
one_more d rate old new drives i v w lt is takes stand k x below = elim (cases_eq k i) [
  | inl same ↦
      let stood : DriveStandsFor v (d i) rate (old i) = subst (λ (u : DriveState). DriveStandsFor u (d i) rate (old i)) (sym is) (rw (le-ltb i i (omega arith)) at (stand i v lt)) in
      rw (get_or-set_at drives i k w x same lt, same, lt-ltb i (i + 1) (omega arith)) (takes stood)
  | inr other ↦
      rw (get_or-set_other drives i k w x other, same_test i k other) (stand k x (rw length-set at below))
]

-- after all of them
pub all_done : (d : ℕ → DriveView) (rate : ℕ) (old new : ℕ → List DriveCall) (drives : List DriveState) (n : ℕ) → length drives ≡ n
    → AllStand drives d rate (so_far old new n) → AllStand drives d rate new
all_done d rate old new drives n all stand k x below =
    let last : k < n = omega (arith, all, below) in
    rw (lt-ltb k n last) at (stand k x below)

pub sum_below-next : (n : ℕ) (f : ℕ → ℕ) → sum_below (n + 1) f ≡ sum_below n f + f n
sum_below-next n f = let next : n + 1 ≡ suc n = omega arith in rw next refl

pub sum_next : (n : ℕ) (f : ℕ → ℕ) (total more : ℕ) → total ≡ sum_below n f → more ≡ f n → total + more ≡ sum_below (n + 1) f
sum_next n f total more total_is more_is = rw (sum_below-next n f, total_is, more_is) refl
