-- Cycles of a run in which the disturbed ones are sparse. The newest cycle of a journal comes first.
use Rattle.std.specs.Prelude.{◌≡◌, ℕ, zero, suc, ◌≤◌, false, List, [], ◌∷◌, ◌++◌, length}
use Rattle.sercos_block.specs.Views.{RingView}
use Rattle.sercos_trace.specs.Views.{CycleView}
use Rattle.sercos_script.specs.Links.{Carry, Restarts}
use Rattle.sercos_law_run.specs.Journal.Runs.{IsDisturbed}
use Rattle.sercos_law_run.specs.Undisturbed.Undisturbed.{IsUndisturbed}

-- none of the newest n of these cycles is disturbed
abbrev pub AreCalm : RingView → Carry → Restarts → ℕ → List CycleView → Type 0
AreCalm r carry restarts zero j = Unit {0}
AreCalm r carry restarts (suc n) [] = Unit {0}
AreCalm r carry restarts (suc n) (t ∷ j) = AreCalm r carry restarts n j × IsUndisturbed r carry restarts t j

-- In a cycle no station restarts; the master is station 0. If the cycle is disturbed, neither of the two before it is where phase 1 or 2 is
-- commanded in it, and the one before it isn't where phase 3 or 4 is. Nothing is asked in phase 0. A disturbed cycle may lose any number of
-- telegrams, at any stations.
pub record IsSparse (r : RingView) (carry : Carry) (restarts : Restarts) (t : CycleView) (j : List CycleView) : Type 0 where
  pub goes_on : (station : ℕ) → station ≤ length r.drives → restarts (length j) station ≡ false
  pub early : IsDisturbed r carry restarts t j → 1 ≤ t.phase → t.phase ≤ 2 → AreCalm r carry restarts 2 j
  pub late : IsDisturbed r carry restarts t j → 3 ≤ t.phase → AreCalm r carry restarts 1 j

-- .. and so is each of these cycles, which are later than the others
abbrev pub AreSparse : RingView → Carry → Restarts → List CycleView → List CycleView → Type 0
AreSparse r carry restarts [] before = Unit {0}
AreSparse r carry restarts (t ∷ cycles) before = AreSparse r carry restarts cycles before × IsSparse r carry restarts t (cycles ++ before)

-- Cycles in which nothing is disturbed are sparse.
abbrev pub CalmIsSparse : Type 0
CalmIsSparse = (r : RingView) (carry : Carry) (restarts : Restarts) (t : CycleView) (j : List CycleView) →
    IsUndisturbed r carry restarts t j → IsSparse r carry restarts t j

-- So are cycles in which no station restarts, and of which at most one of any three in a row is disturbed.
abbrev pub OneOfThreeIsSparse : Type 0
OneOfThreeIsSparse = (r : RingView) (carry : Carry) (restarts : Restarts) (t : CycleView) (j : List CycleView) →
    ((station : ℕ) → station ≤ length r.drives → restarts (length j) station ≡ false) →
    (IsDisturbed r carry restarts t j → AreCalm r carry restarts 2 j) → IsSparse r carry restarts t j
