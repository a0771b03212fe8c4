-- In undisturbed cycles in which the ring doesn't fall each cycle is whole for each drive, whatever was lost before them.
use Rattle.sercos_law_run.proofs.Words.{◌≡◌, ◌⊎◌, inl, inr, ℕ, ◌+◌, ◌<◌, ◌≤◌, true, false, List, [], ◌∷◌, ◌++◌, length, Option, None, ap, ◌∙◌, subst, is_some, cases_eq, Job, RingView, open_in, CycleView, Fall, known_of, fall_of, Carry, Restarts, epoch_begun, View, standing, ends, age_in, AreWhole, IsDead, IsUp, IsWhole, AreClean, drive_at, IsClear, IsRun, behind_mdt, view_of, views_of, IsOpened, NoneFalls, AreUndisturbed, IsUndisturbed, views_since, IsDown, IsStretch, IsUpNow, KeepsUp, ages_where_dead, is_clean_or_down, stays_dead}
use Rattle.sercos_law_channel.proofs.Theorems.{stands_as_commanded}
use Rattle.sercos_law_run.proofs.Headline.HeadlineRuns.{all_stand}
use Rattle.sercos_law_run.proofs.Undisturbed.NeverFalls.{runs_split, whole_then}
use Rattle.sercos_law_run.proofs.Undisturbed.Checks.PassedCycles.{views_split}
use Rattle.sercos_law_run.proofs.Undisturbed.Arriving.WholeIn.{whole_in}

-- a drive that isn't in phase 0 at the end of a whole cycle is in the commanded phase
pub up_in : (v : View) (past : List View) → IsWhole v past → ((standing (v ∷ past)).ended ≡ 0 → ⊥) → IsUp v past
up_in v past whole up = elim (stands_as_commanded v past whole.mst) [
  | inl z ↦ absurd (up (elim (ends v past) [ inl y ↦ y | inr same ↦ same ∙ z ]))
  | inr is ↦ (is, elim (ends v past) [ inl y ↦ absurd (up y) | inr same ↦ same ∙ is ])
]

-- the older cycles of a run
pub rest_runs : (r : RingView) (jobs : List Job) (carry : Carry) (restarts : Restarts) (cycles before : List CycleView) → IsRun r jobs carry restarts (cycles ++ before) → IsRun r jobs carry restarts before
rest_runs r jobs carry restarts [] before run = run
rest_runs r jobs carry restarts (t ∷ cycles) before run = rest_runs r jobs carry restarts cycles before run.0

pub rest_clear : (cycles before : List CycleView) → IsClear (cycles ++ before) → IsClear before
rest_clear [] before clear = clear
rest_clear (t ∷ cycles) before clear = rest_clear cycles before clear.0

module _ (r : RingView) (jobs : List Job) (carry : Carry) (restarts : Restarts) (opened : IsOpened r jobs) where
  pub whole_at : (t : CycleView) (j : List CycleView) → IsRun r jobs carry restarts (t ∷ j) → IsClear (t ∷ j) → IsUndisturbed r carry restarts t j → fall_of (known_of r) (behind_mdt r jobs carry restarts t.sent j) ≡ None
      → (k : ℕ) → k < length r.drives → IsWhole (view_of r jobs carry restarts k t j) (views_of r jobs carry restarts k j)
  whole_at t j run clear calm none k below =
      whole_then (view_of r jobs carry restarts k t j) (views_of r jobs carry restarts k j) (whole_in r jobs carry restarts opened t j run clear calm k below) (ap (λ (o : Option Fall). is_some o) none)

  pub whole_all : (cycles before : List CycleView) → IsRun r jobs carry restarts (cycles ++ before) → IsClear (cycles ++ before) → AreUndisturbed r carry restarts cycles before → NoneFalls r jobs carry restarts cycles before
      → (k : ℕ) → k < length r.drives → AreWhole (views_since r jobs carry restarts k cycles before) (views_of r jobs carry restarts k before)
  whole_all [] before run clear calm stays k below = tt
  whole_all (t ∷ cycles) before run clear calm stays k below = (
    whole_all cycles before run.0 clear.0 calm.0 stays.0 k below,
    subst (λ (l : List View). IsWhole (view_of r jobs carry restarts k t (cycles ++ before)) l) (views_split r jobs carry restarts k cycles before) (whole_at t (cycles ++ before) run clear calm.1 stays.1 k below),
  )

  module _ (cycles : List CycleView) (first : CycleView) (before : List CycleView)
      (run : IsRun r jobs carry restarts (cycles ++ first ∷ before)) (clear : IsClear (cycles ++ first ∷ before))
      (stretch : IsStretch r jobs carry restarts cycles first before) (k : ℕ) (below : k < length r.drives) where
    pub clean_or_down : IsDown r jobs carry restarts k (cycles ++ first ∷ before) ⊎ AreClean (views_since r jobs carry restarts k cycles (first ∷ before)) (views_of r jobs carry restarts k (first ∷ before))
    clean_or_down = elim (is_clean_or_down (drive_at r k).busy (views_since r jobs carry restarts k cycles (first ∷ before))
        (view_of r jobs carry restarts k first before) (views_of r jobs carry restarts k before)
        (runs_split r jobs carry restarts opened cycles (first ∷ before) run clear k below)
        (whole_at first before (rest_runs r jobs carry restarts cycles (first ∷ before) run) (rest_clear cycles (first ∷ before) clear)
        stretch.first_calm stretch.first_stays k below)
        (whole_all cycles (first ∷ before) run clear stretch.calm stretch.stays k below)) [
          | inl zero ↦ inl (ap (λ (l : List View). (standing l).ended) (views_split r jobs carry restarts k cycles (first ∷ before)) ∙ zero)
          | inr so ↦ inr so
        ]

  -- in the newest cycle a drive that isn't in phase 0 at the end is in the commanded phase
  pub newest_up : (cycles : List CycleView) (first : CycleView) (before : List CycleView) → IsRun r jobs carry restarts (cycles ++ first ∷ before) → IsClear (cycles ++ first ∷ before) → IsStretch r jobs carry restarts cycles first before
      → (k : ℕ) → k < length r.drives → (IsDown r jobs carry restarts k (cycles ++ first ∷ before) → ⊥) → IsUpNow (views_of r jobs carry restarts k (cycles ++ first ∷ before))
  newest_up [] first before run clear stretch k below up =
      up_in (view_of r jobs carry restarts k first before) (views_of r jobs carry restarts k before) (whole_at first before run clear stretch.first_calm stretch.first_stays k below) up
  newest_up (t ∷ cycles) first before run clear stretch k below up =
      up_in (view_of r jobs carry restarts k t (cycles ++ first ∷ before)) (views_of r jobs carry restarts k (cycles ++ first ∷ before)) (whole_at t (cycles ++ first ∷ before) run clear stretch.calm.1 stretch.stays.1 k below) up

  -- THE DRIVE IS UP OR DOWN.
  pub keeps_up : (cycles : List CycleView) (first : CycleView) (before : List CycleView)
      → IsRun r jobs carry restarts (cycles ++ first ∷ before) → IsClear (cycles ++ first ∷ before)
      → IsStretch r jobs carry restarts cycles first before → (k : ℕ) → k < length r.drives
      → IsDown r jobs carry restarts k (cycles ++ first ∷ before) ⊎ KeepsUp r jobs carry restarts k cycles first before
  keeps_up cycles first before run clear stretch k below = elim (cases_eq (standing (views_of r jobs carry restarts k (cycles ++ first ∷ before))).ended 0) [
    | inl zero ↦ inl zero
    | inr not_zero ↦ elim (clean_or_down cycles first before run clear stretch k below) [
      | inl down ↦ inl down
      | inr so ↦ inr (record { up = newest_up cycles first before run clear stretch k below not_zero; clean = so })
    ]
  ]

  -- A DRIVE IN PHASE 0
  pub stays_down_in : (t : CycleView) (j : List CycleView) → IsRun r jobs carry restarts (t ∷ j) → IsClear (t ∷ j) → (k : ℕ)
      → k < length r.drives → IsDown r jobs carry restarts k j → 2 ≤ t.phase
      → IsDead (view_of r jobs carry restarts k t j) (views_of r jobs carry restarts k j)
  stays_down_in t j run clear k below down two = stays_dead (drive_at r k).busy (view_of r jobs carry restarts k t j) (views_of r jobs carry restarts k j) (all_stand r jobs carry restarts opened (t ∷ j) run clear k below).sees.run down two

  pub ages_down_in : (t : CycleView) (j : List CycleView) → IsRun r jobs carry restarts (t ∷ j) → IsClear (t ∷ j) → (k : ℕ) → k < length r.drives → IsDown r jobs carry restarts k j → 2 ≤ t.phase
      → fall_of (known_of r) (behind_mdt r jobs carry restarts t.sent j) ≡ None → restarts (length j) 0 ≡ false → is_some (open_in (epoch_begun (views_of r jobs carry restarts k j))) ≡ true
      → (age_in (views_of r jobs carry restarts k (t ∷ j)) ≡ age_in (views_of r jobs carry restarts k j) + 1) × (is_some (open_in (epoch_begun (views_of r jobs carry restarts k (t ∷ j)))) ≡ true)
  ages_down_in t j run clear k below down two none stays opens =
      ages_where_dead (drive_at r k).busy (view_of r jobs carry restarts k t j) (views_of r jobs carry restarts k j) (all_stand r jobs carry restarts opened (t ∷ j) run clear k below).sees.run down two (ap (λ (o : Option Fall). is_some o) none) stays opens
