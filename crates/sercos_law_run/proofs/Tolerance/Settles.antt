-- After faults that aren't sparse: once each drive is in the commanded phase in an undisturbed cycle, and the ring hasn't fallen for as
-- long as a step may take, it bears sparse faults from there on as from phase 0.
use Rattle.sercos_law_run.proofs.Words.{◌≡◌, ◌⊎◌, inl, inr, ℕ, suc, ◌+◌, ◌<◌, ◌≤◌, true, false, List, [], ◌∷◌, ◌++◌, length, Option, None, refl, sym, ap, ◌∙◌, subst, arith, is_some, cases_lt, Job, RingView, open_in, CycleView, Fall, is_place, known_of, count_addressed, fall_of, Carry, Restarts, begun_in, epoch_begun, View, processed_in, staying, IsUp, drive_at, IsClear, IsDisturbed, IsRun, behind_mdt, view_of, views_of, IsOpened, NoneFalls, IsUndisturbed, start_cost, start_costs, AreCalm, AreSparse, IsSparse, stays_a_run, IsViewRun}
use Rattle.sercos_law_run.proofs.Views.ViewRuns.{views_count}
use Rattle.sercos_law_run.proofs.Headline.HeadlineRuns.{all_stand}
use Rattle.sercos_law_run.proofs.Undisturbed.Arriving.Comes.{calm_in}
use Rattle.sercos_law_run.proofs.Undisturbed.GoingCycles.{AreAll}
use Rattle.sercos_law_run.proofs.Undisturbed.NeverFalls.{busy_low}
use Rattle.sercos_law_run.proofs.Undisturbed.StaysUp.{addressed_once}
use Rattle.sercos_law_run.proofs.Undisturbed.Arriving.WholeIn.{whole_in}
use Rattle.sercos_law_run.proofs.Undisturbed.Arriving.Small.{never_both}
use Rattle.sercos_law_run.proofs.Recovery.DownSince.{NeverRestarts}
use Rattle.sercos_law_run.proofs.Recovery.UpSections.{no_lower_on}
use Rattle.sercos_law_run.proofs.Recovery.LateDown.{phase_after}
use Rattle.sercos_law_run.proofs.Recovery.Stretches.{whole_at}
use Rattle.sercos_law_run.proofs.Tolerance.Borne.{HasStood, IsBorne, IsHeld, aged_after, aged_all, calm_or_not, next_held}
use Rattle.sercos_law_run.proofs.Tolerance.FirstCycles.{never_first}
use Rattle.sercos_law_run.proofs.Tolerance.Losses.{none_lost_in}
use Rattle.sercos_law_run.proofs.Tolerance.Standing.{hears_whole, takes_whole}
use Rattle.sercos_law_run.proofs.Tolerance.Steps.{IsYoungSince, young_at_last, young_first}
use Rattle.sercos_law_run.proofs.Undisturbed.ChannelsKept.{phase_now}

-- the master restarts in none of sparse cycles
pub sparse_quiet : (r : RingView) (carry : Carry) (restarts : Restarts) (cycles before : List CycleView)
    → AreSparse r carry restarts cycles before → NeverRestarts restarts cycles before
sparse_quiet r carry restarts [] before sparse = tt
sparse_quiet r carry restarts (t ∷ cycles) before sparse =
    (sparse_quiet r carry restarts cycles before sparse.0, sparse.1.goes_on 0 (omega arith))

-- cycles are sparse of which something holds that says so
pub sparse_all : (r : RingView) (carry : Carry) (restarts : Restarts) (P : CycleView → List CycleView → Type 0)
    → ((t : CycleView) (j : List CycleView) → P t j → IsSparse r carry restarts t j) → (cycles before : List CycleView)
    → AreAll P cycles before → AreSparse r carry restarts cycles before
sparse_all r carry restarts P so [] before those = tt
sparse_all r carry restarts P so (t ∷ cycles) before those =
    (sparse_all r carry restarts P so cycles before those.0, so t (cycles ++ before) those.1)

-- of two undisturbed cycles the newest is
pub newest_of : (r : RingView) (carry : Carry) (restarts : Restarts) (l : List CycleView) → AreCalm r carry restarts 2 l
    → AreCalm r carry restarts 1 l
newest_of r carry restarts [] are = tt
newest_of r carry restarts (u ∷ l) are = (tt, are.1)

module _ (r : RingView) (jobs : List Job) (carry : Carry) (restarts : Restarts) (opened : IsOpened r jobs) where
  abbrev view : ℕ → CycleView → List CycleView → View
  view k t j = view_of r jobs carry restarts k t j

  abbrev views : ℕ → List CycleView → List View
  views k j = views_of r jobs carry restarts k j

  abbrev busy_of : ℕ → ℕ
  busy_of k = (drive_at r k).busy

  abbrev Held : (ℕ → Type 0) → ℕ → CycleView → List CycleView → Type 0
  Held among since t j = IsHeld r jobs carry restarts opened among since t j

  abbrev Borne : CycleView → List CycleView → Type 0
  Borne t j = IsBorne r jobs carry restarts opened t j

  abbrev Stood : List CycleView → Type 0
  Stood j = HasStood r jobs carry restarts opened j

  -- A CYCLE t, after u, in which nothing is lost, and some drives are in the commanded phase: whatever was lost before u
  module _ (among : ℕ → Type 0) (within : (k : ℕ) → among k → k < length r.drives) (t u : CycleView) (j : List CycleView)
      (run : IsRun r jobs carry restarts (t ∷ u ∷ j)) (clear : IsClear (t ∷ u ∷ j)) (calm : IsUndisturbed r carry restarts t (u ∷ j))
      (stays_before : fall_of (known_of r) (behind_mdt r jobs carry restarts u.sent j) ≡ None)
      (still_before : restarts (length j) 0 ≡ false) (stays : fall_of (known_of r) (behind_mdt r jobs carry restarts t.sent (u ∷ j)) ≡ None)
      (up : (k : ℕ) → among k → IsUp (view k t (u ∷ j)) (views k (u ∷ j)))
      (known : (3 ≤ t.phase) ⊎ (IsUndisturbed r carry restarts u j × ((k : ℕ) → among k → IsUp (view k u j) (views k j)))) where
    goes_now : restarts (length (u ∷ j)) 0 ≡ false
    goes_now = (calm_in r carry restarts t (u ∷ j) calm).stays 0 (omega arith)

    module _ (k : ℕ) (here : among k) where
      run_first : IsViewRun (busy_of k) (staying (view k t (u ∷ j)) ∷ views k (u ∷ j))
      run_first = stays_a_run (busy_of k) (view k t (u ∷ j)) (views k (u ∷ j))
          (all_stand r jobs carry restarts opened (t ∷ u ∷ j) run clear k (within k here)).sees.run

      takes_first : is_some (open_in (begun_in (staying (view k t (u ∷ j))) (views k (u ∷ j)))) ≡ true
          → is_some (processed_in (staying (view k t (u ∷ j))) (views k (u ∷ j))) ≡ true
      takes_first = takes_whole (busy_of k) (staying (view k t (u ∷ j))) (views k (u ∷ j)) run_first
          (whole_in r jobs carry restarts opened t (u ∷ j) run clear calm k (within k here)) (up k here)

      hears_first : is_some (open_in (epoch_begun (views k (u ∷ j)))) ≡ true → is_some (view k t (u ∷ j)).heard ≡ true
      hears_first = hears_whole (busy_of k) (staying (view k t (u ∷ j))) (view k u j) (views k j) run_first
          (ap (λ (o : Option Fall). is_some o) stays_before)
          (whole_in r jobs carry restarts opened t (u ∷ j) run clear calm k (within k here))
          (up k here) (phase_after r jobs carry restarts opened t u j run clear stays_before goes_now k (within k here))
          (elim known [
            | inl late ↦ inl late
            | inr before ↦ inr (
              whole_at r jobs carry restarts opened u j run.0 clear.0 before.0 stays_before k (within k here),
              before.1 k here,
            )
          ])

      young_now : IsYoungSince (length (t ∷ u ∷ j)) (busy_of k) 0 0 (staying (view k t (u ∷ j)) ∷ views k (u ∷ j))
      young_now = subst (λ (n : ℕ). IsYoungSince (suc (suc n)) (busy_of k) 0 0 (staying (view k t (u ∷ j)) ∷ views k (u ∷ j)))
          (views_count r jobs carry restarts k j)
          (young_first (busy_of k) (staying (view k t (u ∷ j))) (views k (u ∷ j)) run_first refl goes_now takes_first hears_first)

      none_asked : (behind_mdt r jobs carry restarts t.sent (u ∷ j)).now.phase ≡ 1
          → is_place k (behind_mdt r jobs carry restarts t.sent (u ∷ j)).now.addressed ≡ true
          → count_addressed k (behind_mdt r jobs carry restarts t.sent (u ∷ j)).turns ≤ 0
      none_asked one to =
          let same = phase_now r jobs carry restarts t (u ∷ j) run.1 in
          elim known [
            | inl late ↦ absurd (omega (arith, same, late, one))
            | inr before ↦ (let none = addressed_once r jobs carry restarts opened t u j run clear calm before.0 (sym same ∙ one) k
                (within k here) to in omega (arith, none))
          ]

    pub first_held : Held among (length (t ∷ u ∷ j)) t (u ∷ j)
    first_held = record {
      stays = stays;
      goes_on = goes_now;
      up = λ now k here. up k here;
      near = λ one k here. inl (up k here);
      first = λ k here first done. never_first r jobs carry restarts opened t u j run clear stays_before goes_now still_before first done k
          (within k here);
      aged = λ k here. aged_after r jobs carry restarts opened (length (t ∷ u ∷ j)) t (u ∷ j) k
          stays (aged_all r carry restarts (length (t ∷ u ∷ j)) (busy_of k) t (u ∷ j) (staying (view k t (u ∷ j)) ∷ views k (u ∷ j))
          (young_now k here));
      asked = λ k here. record {
        any = λ one to. let none = none_asked k here one to in omega (arith, none);
        lost = λ disturbed one to. let none = none_asked k here one to in omega (arith, none);
        calm = λ now before one to. none_asked k here one to;
      };
      kept = λ now before k here. none_lost_in (view k t (u ∷ j)) (views k (u ∷ j)) goes_now (hears_first k here) (takes_first k here);
      rested_kept = λ now k here none. none_lost_in (view k t (u ∷ j)) (views k (u ∷ j)) goes_now (hears_first k here) (takes_first k here);
    }

  -- FROM SUCH A CYCLE ON, as long as the ring doesn't fall
  module _ (among : ℕ → Type 0) (within : (k : ℕ) → among k → k < length r.drives) (since : ℕ) (f : CycleView) (b : List CycleView)
      (first : Held among since f b) where
    abbrev pub HeldAt : List CycleView → Type 0
    HeldAt [] = Unit {0}
    HeldAt (t ∷ j) = Held among since t j

    pub held_all : (cycles : List CycleView) → IsRun r jobs carry restarts (cycles ++ f ∷ b) → IsClear (cycles ++ f ∷ b)
        → AreSparse r carry restarts cycles (f ∷ b) → NoneFalls r jobs carry restarts cycles (f ∷ b) → HeldAt (cycles ++ f ∷ b)
    held_all [] run clear sparse stays = first
    held_all (t ∷ []) run clear sparse stays = next_held r jobs carry restarts opened among within since t f b run clear first sparse.1
        stays.1
    held_all (t ∷ u ∷ cycles) run clear sparse stays = next_held r jobs carry restarts opened among within since t u (cycles ++ f ∷ b) run
        clear (held_all (u ∷ cycles) run.0 clear.0 sparse.0 stays.0) sparse.1 stays.1

  -- ALL DRIVES: once the steps that were open in the first cycle have had their time, none is old.
  abbrev every : (k : ℕ) → k < length r.drives → k < length r.drives
  every k below = below

  young_in : (since : ℕ) (t : CycleView) (j : List CycleView) → Held (λ k. k < length r.drives) since t j → since + 23 ≤ length (t ∷ j)
      → Borne t j
  young_in since t j is long = record {
    stays = is.stays;
    goes_on = is.goes_on;
    up = is.up;
    near = is.near;
    first = is.first;
    asked = is.asked;
    kept = is.kept;
    rested_kept = is.rested_kept;
    aged = λ k below. record {
      any = at_last k below 1 2 (omega arith) (is.aged k below).any;
      lost = λ disturbed. at_last k below 1 1 (omega arith) ((is.aged k below).lost disturbed);
      calm = λ calm before. at_last k below 0 0 (omega arith) ((is.aged k below).calm calm before);
    };
  }
    where
      at_last : (k : ℕ) → k < length r.drives → (fresh late : ℕ) → late ≤ 2 → IsYoungSince since (busy_of k) fresh late (views k (t ∷ j))
          → IsYoungSince 0 (busy_of k) fresh late (views k (t ∷ j))
      at_last k below fresh late few y = young_at_last since (busy_of k) fresh late (views k (t ∷ j))
          (let low = busy_low r k opened.valid below in let count = views_count r jobs carry restarts k j in
          omega (arith, low, count, long, few)) y

  -- So an undisturbed cycle comes from which on the ring bears sparse faults.
  pub record IsSettled (P : CycleView → List CycleView → Type 0) (since : ℕ) (cycles rest : List CycleView) : Type 0 where
    pub newer : List CycleView
    pub before : List CycleView
    pub is : cycles ++ rest ≡ newer ++ before
    pub stood : Stood before
    pub few : length before ≤ since + 24
    pub those : AreAll P newer before
    pub costs : start_costs r jobs carry restarts newer before ≤ start_costs r jobs carry restarts cycles rest

  -- or it is too early for it
  pub data IsEarly (since : ℕ) (j : List CycleView) : Type 0 where
    Short : length j ≤ since + 22 → IsEarly since j
    Last : (t : CycleView) (older : List CycleView) → j ≡ t ∷ older → IsDisturbed r carry restarts t older → length j ≡ since + 23
        → IsEarly since j

  pub early_few : (since : ℕ) (j : List CycleView) → IsEarly since j → length j ≤ since + 23
  early_few since j (Short few) = omega (arith, few)
  early_few since j (Last t older is disturbed long) = omega (arith, long)

  module _ (P : CycleView → List CycleView → Type 0) (sparse_so : (t : CycleView) (j : List CycleView) → P t j
      → IsSparse r carry restarts t j)
      (f : CycleView) (b : List CycleView) (first : Held (λ k. k < length r.drives) (length (f ∷ b)) f b) (late : 1 ≤ f.phase)
      (some_drive : 0 < length r.drives) where
    newer_by : (t : CycleView) (cycles : List CycleView) → P t (cycles ++ f ∷ b)
        → IsSettled P (length (f ∷ b)) cycles (f ∷ b) → IsSettled P (length (f ∷ b)) (t ∷ cycles) (f ∷ b)
    newer_by t cycles this x = record {
      newer = t ∷ x.newer;
      before = x.before;
      is = ap (λ (l : List CycleView). t ∷ l) x.is;
      stood = x.stood;
      few = x.few;
      those = (x.those, subst (P t) x.is this);
      costs = let same = ap (λ (l : List CycleView). start_cost r jobs carry restarts t l) x.is in let few = x.costs in
          omega (arith, same, few);
    }

    pub settles : (cycles : List CycleView) → IsRun r jobs carry restarts (cycles ++ f ∷ b) → IsClear (cycles ++ f ∷ b)
        → AreAll P cycles (f ∷ b) → NoneFalls r jobs carry restarts cycles (f ∷ b)
        → IsEarly (length (f ∷ b)) (cycles ++ f ∷ b) ⊎ IsSettled P (length (f ∷ b)) cycles (f ∷ b)
    settles [] run clear those stays = inl (Short (omega arith))
    settles (t ∷ cycles) run clear those stays = by (settles cycles run.0 clear.0 those.0 stays.0)
      where
        sparse : AreSparse r carry restarts (t ∷ cycles) (f ∷ b)
        sparse = sparse_all r carry restarts P sparse_so (t ∷ cycles) (f ∷ b) those

        here : IsUndisturbed r carry restarts t (cycles ++ f ∷ b) → length (f ∷ b) + 23 ≤ length (t ∷ (cycles ++ f ∷ b))
            → length (t ∷ (cycles ++ f ∷ b)) ≤ length (f ∷ b) + 24 → IsSettled P (length (f ∷ b)) (t ∷ cycles) (f ∷ b)
        here calm long few = record {
          newer = [];
          before = t ∷ (cycles ++ f ∷ b);
          is = refl;
          stood = (
            young_in (length (f ∷ b)) t (cycles ++ f ∷ b)
                (held_all (λ k. k < length r.drives) every (length (f ∷ b)) f b first (t ∷ cycles) run clear sparse stays) long,
            calm,
          );
          few = few;
          those = tt;
          costs = omega arith;
        }

        by : IsEarly (length (f ∷ b)) (cycles ++ f ∷ b) ⊎ IsSettled P (length (f ∷ b)) cycles (f ∷ b)
            → IsEarly (length (f ∷ b)) (t ∷ (cycles ++ f ∷ b)) ⊎ IsSettled P (length (f ∷ b)) (t ∷ cycles) (f ∷ b)
        by (inr x) = inr (newer_by t cycles those.1 x)
        by (inl (Short few)) = elim (cases_lt (length (t ∷ (cycles ++ f ∷ b))) (length (f ∷ b) + 23)) [
          | inl less ↦ inl (Short (omega (arith, less)))
          | inr most ↦ elim (calm_or_not r carry restarts t (cycles ++ f ∷ b)) [
            | inl disturbed ↦ inl (Last t (cycles ++ f ∷ b) refl disturbed (omega (arith, few, most)))
            | inr calm ↦ inr (here calm (omega (arith, most)) (omega (arith, few)))
          ]
        ]
        by (inl (Last u older is disturbed long)) = elim (calm_or_not r carry restarts t (cycles ++ f ∷ b)) [
          | inr calm ↦ inr (here calm (omega (arith, long)) (omega (arith, long)))
          | inl too ↦ absurd (never_both _ disturbed (subst (λ (x : List CycleView). AreCalm r carry restarts 1 x) is (one_before too)).1)
        ]
          where
            one_before : IsDisturbed r carry restarts t (cycles ++ f ∷ b) → AreCalm r carry restarts 1 (cycles ++ f ∷ b)
            one_before too =
                let least : 1 ≤ t.phase = let least = no_lower_on r jobs carry restarts opened t cycles f b run clear first.stays stays.0
                (sparse_quiet r carry restarts (t ∷ cycles) (f ∷ b) sparse) 0 some_drive in omega (arith, least, late) in
                elim (cases_lt t.phase 3) [
                  | inl low ↦ newest_of r carry restarts (cycles ++ f ∷ b) (sparse.1.early too least (omega (arith, low)))
                  | inr high ↦ sparse.1.late too (omega (arith, high))
                ]
