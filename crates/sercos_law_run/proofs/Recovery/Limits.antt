-- A step to a drive in phase 0 makes the ring fall at its limit.
use Rattle.sercos_law_run.proofs.Words.{cases_Bool, ◌≡◌, ℕ, ◌+◌, ◌<◌, ◌≤◌, Bool, true, false, ◌&&◌, List, [], ◌∷◌, length, Option, Some, None, refl, sym, ap, ◌∙◌, subst, arith, if◌then◌else◌, ◌==◌, nat_le, is_some, option_map, unwrap_or, min, cond-false, false≢true, nat_tests, Job, RingView, open_in, steps_in, age_of, cycles_open, CycleView, known_of, is_place, Past, count_addressed, fall_of, is_at_limit, Carry, Restarts, begun_in, epoch_begun, unless_restart, View, age_by, age_in, age_if_open, calls_in, channel_calls, open_late, drive_at, IsClear, IsRun, behind_mdt, view_of, views_of, IsOpened, ages_before_end, IsViewRun, inl, inr, cases_Option, ◌⊎◌, staying}
use Rattle.sercos_service_master.specs.Calls as channel
use Rattle.sercos_law_channel.specs.Pace.ChannelCalls.{AreSent}
use Rattle.sercos_law_run.proofs.Views.Members.{members_count}
use Rattle.sercos_law_run.proofs.Headline.HeadlineRuns.{all_stand}
use Rattle.sercos_law_run.proofs.Undisturbed.ChannelsKept.{calls_now, phase_now}
use Rattle.sercos_law_run.proofs.Undisturbed.Arriving.Sending.{sends_in}
use Rattle.sercos_law_run.proofs.Recovery.LateDown.{not_one}
use Rattle.sercos_law_run.proofs.Stations.Limits.{not_at_limit}

-- THE RING FALLS if a step is at its limit.
few_open : (p : Past) (k : ℕ) → 2 ≤ p.now.phase → is_at_limit p k ≡ false → cycles_open (p.calls k) ≤ 63
few_open p k late not_there = grind (
  arith,
  nat_tests,
  (sym (cond-false (p.now.phase == 1) (is_place k p.now.addressed && nat_le 64 (count_addressed k p.turns))
      (nat_le 64 (cycles_open (p.calls k))) (not_one p.now.phase late)) ∙ not_there),
)

-- .. and the step isn't older than 64.
counted : (o : Option ℕ) (age : ℕ) → min (unwrap_or o 0) 64 ≤ 63 → option_map (λ (n : ℕ). n + 1) o ≡ Some age → age ≤ 64
counted None age low is = absurd (cc)
counted (Some n) age low is = let same : n + 1 ≡ age = cc in omega (arith, same, low)

-- an open step was there at the end of a cycle
pub open_age : (past : List View) → is_some (open_in (epoch_begun past)) ≡ true → 1 ≤ age_in past
open_age [] opens = absurd (false≢true opens)
open_age (v ∷ past) opens = elim (cases_Bool v.falls) [
  | inl on ↦ let some = rw on at opens in absurd (false≢true some)
  | inr off ↦ let some = rw off at opens in rw off (aged (is_some (open_in (begun_in v past))) some)
]
  where
    aged : (on : Bool) → on ≡ true → 1 ≤ age_by on (length (steps_in (begun_in v past)) == length (steps_in (unless_restart v (epoch_begun past)))) (age_in past)
    aged true is = elim (cases_Bool (length (steps_in (begun_in v past)) == length (steps_in (unless_restart v (epoch_begun past))))) [
      | inl on ↦ rw on (omega arith)
      | inr off ↦ rw off (omega arith)
    ]
    aged false is = absurd (false≢true is)

-- from one cycle to the next a step gets a cycle older, or one begins, or none is open
age_next : (v : View) (past : List View) → v.falls ≡ false → (age_in (v ∷ past) ≤ 1) ⊎ (age_in (v ∷ past) ≡ age_in past + 1)
age_next v past stays = by v.falls (is_some (open_in (begun_in v past))) (length (steps_in (begun_in v past)) == length
    (steps_in (unless_restart v (epoch_begun past)))) stays
  where
    by : (falls on same : Bool) → falls ≡ false → ((if falls then 0 else age_by on same (age_in past)) ≤ 1) ⊎
        ((if falls then 0 else age_by on same (age_in past)) ≡ age_in past + 1)
    by true on same fell = inl (omega arith)
    by false false same fell = inl (omega arith)
    by false true true fell = inr refl
    by false true false fell = inl (omega arith)

-- what the channel has counted before a cycle's end
few_counted : (o : Option ℕ) (is_open : Bool) (age : ℕ) → age ≤ 64 → option_map (λ (n : ℕ). n + 1) o ≡ age_if_open is_open age
    → min (unwrap_or o 0) 64 ≤ 63
few_counted None is_open age le is = omega arith
few_counted (Some n) false age le is = absurd (cc)
few_counted (Some n) true age le is = let same : n + 1 ≡ age = cc in omega (arith, same, le)

young_next : (v : View) (past : List View) (most : ℕ) → age_in past ≤ most → 1 ≤ most → age_in (staying v ∷ past) ≤ most + 1
young_next v past most few some = elim (age_next (staying v) past refl) [
  | inl young ↦ omega (arith, young, some)
  | inr grows ↦ omega (arith, grows, few)
]

module _ (r : RingView) (jobs : List Job) (carry : Carry) (restarts : Restarts) (opened : IsOpened r jobs) where
  pub are_sent : (j : List CycleView) → IsRun r jobs carry restarts j → IsClear j → (k : ℕ) → k < length r.drives → AreSent (views_of r jobs carry restarts k j)
  are_sent [] run clear k below = tt
  are_sent (t ∷ j) run clear k below = λ stays. (λ goes_on. are_sent j run.0 clear.0 k below, λ opens. sends_in r jobs carry restarts opened t j run clear k below opens)

  -- NO STEP GETS OLDER.
  pub ages_to_limit : (j : List CycleView) → IsRun r jobs carry restarts j → IsClear j → (k : ℕ) → k < length r.drives → age_in (views_of r jobs carry restarts k j) ≤ 64
  ages_to_limit [] run clear k below = omega arith
  ages_to_limit (t ∷ j) run clear k below = elim (cases_Option (fall_of (known_of r) (behind_mdt r jobs carry restarts t.sent j))) [
    | inl is ↦ rw is (aged is (is_some (open_in (begun_in (view_of r jobs carry restarts k t j) (views_of r jobs carry restarts k j)))) refl)
    | inr (x, is) ↦ rw is (omega arith)
  ]
    where
      aged : fall_of (known_of r) (behind_mdt r jobs carry restarts t.sent j) ≡ None → (on : Bool) → is_some (open_in (begun_in (view_of r jobs carry restarts k t j) (views_of r jobs carry restarts k j))) ≡ on
          → age_by on (length (steps_in (begun_in (view_of r jobs carry restarts k t j) (views_of r jobs carry restarts k j))) == length (steps_in (unless_restart (view_of r jobs carry restarts k t j) (epoch_begun (views_of r jobs carry restarts k j)))))
          (age_in (views_of r jobs carry restarts k j)) ≤ 64
      aged none false off = omega arith
      aged none true on =
          let is_run : IsViewRun (drive_at r k).busy (view_of r jobs carry restarts k t j ∷ views_of r jobs carry restarts k j) =
          (all_stand r jobs carry restarts opened (t ∷ j) run clear k below).sees.run in
          let late = open_late (drive_at r k).busy (view_of r jobs carry restarts k t j) (views_of r jobs carry restarts k j) is_run on in
          counted (age_of (calls_in (view_of r jobs carry restarts k t j) (channel_calls (views_of r jobs carry restarts k j)))) _
          (subst (λ (c : List channel.Call). cycles_open c ≤ 63) (sym (calls_now r jobs carry restarts opened t j run clear k below))
          (few_open (behind_mdt r jobs carry restarts t.sent j) k (let is = phase_now r jobs carry restarts t j run.1 in
          omega (arith, is, late)) (not_at_limit (known_of r) (behind_mdt r jobs carry restarts t.sent j) k
          (let count = members_count r in omega (arith, below, count)) none)))
          (ages_before_end (drive_at r k).busy (view_of r jobs carry restarts k t j) (views_of r jobs carry restarts k j) is_run (are_sent j run.0 clear.0 k below)
          (λ opens. sends_in r jobs carry restarts opened t j run clear k below opens)
          ∙ ap (λ (b : Bool). age_if_open b (age_by b (length (steps_in (begun_in (view_of r jobs carry restarts k t j) (views_of r jobs carry restarts k j))) == length (steps_in (unless_restart (view_of r jobs carry restarts k t j) (epoch_begun (views_of r jobs carry restarts k j)))))
          (age_in (views_of r jobs carry restarts k j)))) on)

  -- IT ISN'T AT ITS LIMIT at the end of a cycle if it is no older then, or not old before the cycle.
  pub not_old : (t : CycleView) (j : List CycleView) → IsRun r jobs carry restarts (t ∷ j) → IsClear (t ∷ j) → (k : ℕ) → k < length r.drives
      → age_in (staying (view_of r jobs carry restarts k t j) ∷ views_of r jobs carry restarts k j) ≤ 64
      → cycles_open ((behind_mdt r jobs carry restarts t.sent j).calls k) ≤ 63
  not_old t j run clear k below young =
      subst (λ (c : List channel.Call). cycles_open c ≤ 63) (calls_now r jobs carry restarts opened t j run clear k below)
      (few_counted (age_of (calls_in (view_of r jobs carry restarts k t j) (channel_calls (views_of r jobs carry restarts k j))))
      (is_some (open_in (begun_in (view_of r jobs carry restarts k t j) (views_of r jobs carry restarts k j))))
      (age_in (staying (view_of r jobs carry restarts k t j) ∷ views_of r jobs carry restarts k j)) young
      (ages_before_end (drive_at r k).busy (view_of r jobs carry restarts k t j) (views_of r jobs carry restarts k j)
      (all_stand r jobs carry restarts opened (t ∷ j) run clear k below).sees.run (are_sent j run.0 clear.0 k below)
      (λ opens. sends_in r jobs carry restarts opened t j run clear k below opens)))

  pub not_old_yet : (t : CycleView) (j : List CycleView) → IsRun r jobs carry restarts (t ∷ j) → IsClear (t ∷ j) → (k : ℕ)
      → k < length r.drives → age_in (views_of r jobs carry restarts k j) ≤ 62
      → cycles_open ((behind_mdt r jobs carry restarts t.sent j).calls k) ≤ 63
  not_old_yet t j run clear k below young =
      let most = young_next (view_of r jobs carry restarts k t j) (views_of r jobs carry restarts k j) 62 young (omega arith) in
      not_old t j run clear k below (omega (arith, most))
