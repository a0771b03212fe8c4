-- In undisturbed cycles of phase 2 without a fall a drive that is in phase 0 at the end of the first stays there, and any other stays up.
use Rattle.sercos_law_run.proofs.Words.{◌≡◌, ℕ, ◌+◌, ◌<◌, ◌≤◌, Bool, true, false, List, [], ◌∷◌, ◌++◌, length, Option, Some, None, refl, sym, ap, ap₂, ◌∙◌, arith, if◌then◌else◌, is_some, false≢true, false_from_ne_true, Job, Request, RingView, Begun, open_in, CycleView, outcomes_in, Carry, Restarts, begun_in, epoch_begun, with_begun, with_heard, Heard, View, age_in, IsDead, open_since, one_more, IsClear, IsRun, behind_mdt, view_of, views_of, IsOpened, AreInTwo, GoesOnInTwo, NoneFalls, AreUndisturbed, views_since, IsDown, IsStretch, IsUpNow}
use Rattle.sercos_law_run.proofs.Undisturbed.Arriving.Comes.{calm_in}
use Rattle.sercos_law_run.proofs.Undisturbed.JobsBegun.{begun_end}
use Rattle.sercos_law_run.proofs.Undisturbed.Checks.PassedCycles.{views_split}
use Rattle.sercos_law_run.proofs.Recovery.LateDown.{next_up}
use Rattle.sercos_law_run.proofs.Recovery.Limits.{open_age}
use Rattle.sercos_law_run.proofs.Recovery.Stretches.{ages_down_in, newest_up, stays_down_in}
use Rattle.sercos_law_run.proofs.Undisturbed.ChannelsKept.{phase_now}

-- where nothing is heard, no outcome comes
quiet_outcomes : (o : Option Heard) (n : Option Request) (b : Bool) (begun : List Begun) → o ≡ None → b ≡ false → outcomes_in (with_begun n (with_heard o (if b then [] else begun))) ≡ outcomes_in begun
quiet_outcomes (Some a) n b begun quiet on = absurd (cc)
quiet_outcomes None n true begun quiet on = absurd (cc)
quiet_outcomes None None false begun quiet on = refl
quiet_outcomes None (Some q) false begun quiet on = refl

pub one_at_most : (b : Bool) (n : ℕ) → one_more b n ≤ n + 1
one_at_most true n = omega arith
one_at_most false n = omega arith

-- the master restarts in none of these cycles, which are later than the others
abbrev pub NeverRestarts : Restarts → List CycleView → List CycleView → Type 0
NeverRestarts restarts [] rest = Unit {0}
NeverRestarts restarts (t ∷ cycles) rest = NeverRestarts restarts cycles rest × (restarts (length (cycles ++ rest)) 0 ≡ false)

pub calm_quiet : (r : RingView) (carry : Carry) (restarts : Restarts) (cycles rest : List CycleView)
    → AreUndisturbed r carry restarts cycles rest → NeverRestarts restarts cycles rest
calm_quiet r carry restarts [] rest calm = tt
calm_quiet r carry restarts (t ∷ cycles) rest calm =
    (calm_quiet r carry restarts cycles rest calm.0, (calm_in r carry restarts t (cycles ++ rest) calm.1).stays 0 (omega arith))

module _ (r : RingView) (jobs : List Job) (carry : Carry) (restarts : Restarts) (opened : IsOpened r jobs) where
  pub in_two : (t : CycleView) (j : List CycleView) → IsRun r jobs carry restarts (t ∷ j) → GoesOnInTwo r (behind_mdt r jobs carry restarts t.sent j) → t.phase ≡ 2
  in_two t j run goes = sym (phase_now r jobs carry restarts t j run.1) ∙ goes.phase

  -- A DRIVE THAT IS UP stays so.
  pub shorter : (t : CycleView) (cycles : List CycleView) (first : CycleView) (before : List CycleView) → IsStretch r jobs carry restarts (t ∷ cycles) first before → IsStretch r jobs carry restarts cycles first before
  shorter t cycles first before stretch = record { calm = stretch.calm.0; stays = stretch.stays.0; first_calm = stretch.first_calm; first_stays = stretch.first_stays }

  pub up_all : (cycles : List CycleView) (first : CycleView) (before : List CycleView) → IsRun r jobs carry restarts (cycles ++ first ∷ before) → IsClear (cycles ++ first ∷ before) → IsStretch r jobs carry restarts cycles first before
      → (k : ℕ) → k < length r.drives → (IsDown r jobs carry restarts k (first ∷ before) → ⊥) → IsUpNow (views_of r jobs carry restarts k (cycles ++ first ∷ before))
  up_all [] first before run clear stretch k below up = newest_up r jobs carry restarts opened [] first before run clear stretch k below up
  up_all (t ∷ cycles) first before run clear stretch k below up =
      next_up r jobs carry restarts opened t cycles first before run clear stretch.calm.1 (shorter t cycles first before stretch) k below
      (up_all cycles first before run.0 clear.0 (shorter t cycles first before stretch) k below up)

  pub not_down : (cycles : List CycleView) (first : CycleView) (before : List CycleView) → IsRun r jobs carry restarts (cycles ++ first ∷ before) → IsClear (cycles ++ first ∷ before) → IsStretch r jobs carry restarts cycles first before
      → AreInTwo r jobs carry restarts cycles (first ∷ before) → (k : ℕ) → k < length r.drives → (IsDown r jobs carry restarts k (first ∷ before) → ⊥) → IsDown r jobs carry restarts k (cycles ++ first ∷ before) → ⊥
  not_down [] first before run clear stretch two k below up down = up down
  not_down (t ∷ cycles) first before run clear stretch two k below up down =
      let zero_phase : t.phase ≡ 0 = sym (up_all (t ∷ cycles) first before run clear stretch k below up).1 ∙ down in
      let is : t.phase ≡ 2 = in_two t (cycles ++ first ∷ before) run two.1 in absurd (omega (arith, zero_phase, is))

  -- ONE THAT IS DOWN
  module _ where
    is_dead : (t : CycleView) (j : List CycleView) → IsRun r jobs carry restarts (t ∷ j) → IsClear (t ∷ j) → GoesOnInTwo r (behind_mdt r jobs carry restarts t.sent j) → (k : ℕ) → k < length r.drives → IsDown r jobs carry restarts k j
        → IsDead (view_of r jobs carry restarts k t j) (views_of r jobs carry restarts k j)
    is_dead t j run clear goes k below down = stays_down_in r jobs carry restarts opened t j run clear k below down (let is = in_two t j run goes in omega (arith, is))

    pub down_all : (cycles rest : List CycleView) → IsRun r jobs carry restarts (cycles ++ rest) → IsClear (cycles ++ rest) → AreInTwo r jobs carry restarts cycles rest → (k : ℕ) → k < length r.drives → IsDown r jobs carry restarts k rest
        → IsDown r jobs carry restarts k (cycles ++ rest)
    down_all [] rest run clear two k below down = down
    down_all (t ∷ cycles) rest run clear two k below down = (is_dead t (cycles ++ rest) run clear two.1 k below (down_all cycles rest run.0 clear.0 two.0 k below down)).ended

    -- no outcome comes of it
    pub outcomes_stay : (cycles rest : List CycleView) → IsRun r jobs carry restarts (cycles ++ rest) → IsClear (cycles ++ rest)
        → NeverRestarts restarts cycles rest → NoneFalls r jobs carry restarts cycles rest
        → AreInTwo r jobs carry restarts cycles rest → (k : ℕ) → k < length r.drives → IsDown r jobs carry restarts k rest
        → outcomes_in (epoch_begun (views_of r jobs carry restarts k (cycles ++ rest))) ≡ outcomes_in (epoch_begun (views_of r jobs carry restarts k rest))
    outcomes_stay [] rest run clear quiet stays two k below down = refl
    outcomes_stay (t ∷ cycles) rest run clear quiet stays two k below down =
        let v : View = view_of r jobs carry restarts k t (cycles ++ rest) in
        ap outcomes_in (begun_end r jobs carry restarts opened t (cycles ++ rest) run clear stays.1 k)
        ∙ quiet_outcomes v.heard v.begins v.master_restarts (epoch_begun (views_of r jobs carry restarts k (cycles ++ rest)))
        (is_dead t (cycles ++ rest) run clear two.1 k below (down_all cycles rest run.0 clear.0 two.0 k below down)).heard quiet.1
        ∙ outcomes_stay cycles rest run.0 clear.0 quiet.0 stays.0 two.0 k below down

    module _ where
      older : (t : CycleView) (cycles rest : List CycleView) → IsRun r jobs carry restarts (t ∷ (cycles ++ rest)) → IsClear (t ∷ (cycles ++ rest)) → NeverRestarts restarts (t ∷ cycles) rest → NoneFalls r jobs carry restarts (t ∷ cycles) rest
          → AreInTwo r jobs carry restarts (t ∷ cycles) rest → (k : ℕ) → k < length r.drives → IsDown r jobs carry restarts k rest → is_some (open_in (epoch_begun (views_of r jobs carry restarts k (cycles ++ rest)))) ≡ true
          → (age_in (views_of r jobs carry restarts k (t ∷ (cycles ++ rest))) ≡ age_in (views_of r jobs carry restarts k (cycles ++ rest)) + 1)
          × (is_some (open_in (epoch_begun (views_of r jobs carry restarts k (t ∷ (cycles ++ rest))))) ≡ true)
      older t cycles rest run clear quiet stays two k below down opens =
          ages_down_in r jobs carry restarts opened t (cycles ++ rest) run clear k below
          (down_all cycles rest run.0 clear.0 two.0 k below down) (let is = in_two t (cycles ++ rest) run two.1 in omega (arith, is))
          stays.1 quiet.1 opens

      -- If no step to it is open now, none was.
      pub never_open : (cycles rest : List CycleView) → IsRun r jobs carry restarts (cycles ++ rest) → IsClear (cycles ++ rest) → NeverRestarts restarts cycles rest → NoneFalls r jobs carry restarts cycles rest
          → AreInTwo r jobs carry restarts cycles rest → (k : ℕ) → k < length r.drives → IsDown r jobs carry restarts k rest → is_some (open_in (epoch_begun (views_of r jobs carry restarts k (cycles ++ rest)))) ≡ false
          → open_since (views_since r jobs carry restarts k cycles rest) (views_of r jobs carry restarts k rest) ≡ 0
      never_open [] rest run clear quiet stays two k below down off = refl
      never_open (t ∷ cycles) rest run clear quiet stays two k below down off =
          let off_before = false_from_ne_true (is_some (open_in (epoch_begun (views_of r jobs carry restarts k (cycles ++ rest))))) (λ opens. false≢true (sym off ∙ (older t cycles rest run clear quiet stays two k below down opens).1)) in
          ap₂ one_more ((ap (λ (l : List View). is_some (open_in (begun_in (view_of r jobs carry restarts k t (cycles ++ rest)) l)))
          (sym (views_split r jobs carry restarts k cycles rest))
          ∙ ap (λ (l : List Begun). is_some (open_in l))
          (sym (begun_end r jobs carry restarts opened t (cycles ++ rest) run clear stays.1 k))) ∙ off)
          (never_open cycles rest run.0 clear.0 quiet.0 stays.0 two.0 k below down off_before)

      -- Else it was open in no more cycles than its age says.
      pub open_at_most : (cycles rest : List CycleView) → IsRun r jobs carry restarts (cycles ++ rest) → IsClear (cycles ++ rest) → NeverRestarts restarts cycles rest → NoneFalls r jobs carry restarts cycles rest
          → AreInTwo r jobs carry restarts cycles rest → (k : ℕ) → k < length r.drives → IsDown r jobs carry restarts k rest
          → open_since (views_since r jobs carry restarts k cycles rest) (views_of r jobs carry restarts k rest) ≤ age_in (views_of r jobs carry restarts k (cycles ++ rest))
      open_at_most [] rest run clear quiet stays two k below down = omega arith
      open_at_most (t ∷ cycles) rest run clear quiet stays two k below down =
          by (is_some (open_in (epoch_begun (views_of r jobs carry restarts k (t ∷ (cycles ++ rest)))))) refl (is_some (open_in (epoch_begun (views_of r jobs carry restarts k (cycles ++ rest))))) refl
          (open_at_most cycles rest run.0 clear.0 quiet.0 stays.0 two.0 k below down)
        where
          one : one_more (is_some (open_in (begun_in (view_of r jobs carry restarts k t (cycles ++ rest)) (views_since r jobs carry restarts k cycles rest ++ views_of r jobs carry restarts k rest))))
              (open_since (views_since r jobs carry restarts k cycles rest) (views_of r jobs carry restarts k rest))
              ≤ open_since (views_since r jobs carry restarts k cycles rest) (views_of r jobs carry restarts k rest) + 1
          one = one_at_most (is_some (open_in (begun_in (view_of r jobs carry restarts k t (cycles ++ rest)) (views_since r jobs carry restarts k cycles rest ++ views_of r jobs carry restarts k rest))))
              (open_since (views_since r jobs carry restarts k cycles rest) (views_of r jobs carry restarts k rest))

          by : (now : Bool) → is_some (open_in (epoch_begun (views_of r jobs carry restarts k (t ∷ (cycles ++ rest))))) ≡ now → (was : Bool) → is_some (open_in (epoch_begun (views_of r jobs carry restarts k (cycles ++ rest)))) ≡ was
              → open_since (views_since r jobs carry restarts k cycles rest) (views_of r jobs carry restarts k rest) ≤ age_in (views_of r jobs carry restarts k (cycles ++ rest))
              → one_more (is_some (open_in (begun_in (view_of r jobs carry restarts k t (cycles ++ rest)) (views_since r jobs carry restarts k cycles rest ++ views_of r jobs carry restarts k rest))))
              (open_since (views_since r jobs carry restarts k cycles rest) (views_of r jobs carry restarts k rest)) ≤ age_in (views_of r jobs carry restarts k (t ∷ (cycles ++ rest)))
          by false off was before few = let none = never_open (t ∷ cycles) rest run clear quiet stays two k below down off in omega (arith, none)
          by true on true before few = let more_old = (older t cycles rest run clear quiet stays two k below down before).0 in let most = one in omega (arith, more_old, few, most)
          by true on false before few =
              let least = open_age (views_of r jobs carry restarts k (t ∷ (cycles ++ rest))) on in
              let most = one in omega (arith, never_open cycles rest run.0 clear.0 quiet.0 stays.0 two.0 k below down before, least, most)
