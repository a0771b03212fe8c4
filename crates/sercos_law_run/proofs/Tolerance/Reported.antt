-- The requests to a drive are reported in time while disturbed cycles are sparse.
use Rattle.sercos_law_run.proofs.Words.{◌≡◌, ◌⊎◌, inl, inr, ℕ, zero, suc, ◌+◌, ◌*◌, ◌<◌, ◌≤◌, List, [], ◌∷◌, ◌++◌, length, Option, Some, refl, sym, ap, ◌∙◌, subst, arith, ◌==◌, is_some, slice_get, cases_Bool, cond-false, eqb-true, Job, store_of, RingView, CycleView, Fall, Task, Carry, Restarts, View, AreSound, AreAtWork, AreTimed, drive_at, looks_back, master_calls, IsClear, IsRun, view_of, views_of, IsOpened, StartsEpoch, HaveTold, left_after, request_cycles, waiting_after, views_since, cycles_commanded, AreSparse, comes_timed}
use Rattle.sercos_law_run.proofs.Held.Runs.{small}
use Rattle.sercos_law_run.proofs.Headline.HeadlineRuns.{all_stand, first_store}
use Rattle.sercos_law_run.proofs.Undisturbed.Checks.Carried.{are_carried}
use Rattle.sercos_law_run.proofs.Undisturbed.Checks.CommandRuns.{first_commands}
use Rattle.sercos_law_run.proofs.Undisturbed.EndedInTime.{LastsShort, length_since}
use Rattle.sercos_law_run.proofs.Undisturbed.GoingCycles.{AreAll, AreGoing, IsGoing, all_so, four_along, phase_before, waits_along}
use Rattle.sercos_law_run.proofs.Undisturbed.NeverFalls.{runs_split}
use Rattle.sercos_law_run.proofs.Undisturbed.OneRequest.{room}
use Rattle.sercos_law_run.proofs.Undisturbed.Checks.PassedCycles.{views_split}
use Rattle.sercos_law_run.proofs.Undisturbed.Checks.PassedRuns.{commands_so}
use Rattle.sercos_law_run.proofs.Undisturbed.PhaseTwo.{listed_all}
use Rattle.sercos_law_run.proofs.Undisturbed.ToldInTime.{IsQuiet, beyond, left_waiting, told_along, told_if_few, one_more_time}
use Rattle.sercos_law_run.proofs.Tolerance.Borne.{IsBorne, all_borne}
use Rattle.sercos_law_run.proofs.Tolerance.EarlySparse.{start_is}
use Rattle.sercos_law_run.proofs.Tolerance.InARow.{AreInARow, row_lasts}
use Rattle.sercos_law_run.proofs.Tolerance.Spared.{spared_in}
use Rattle.sercos_law_run.proofs.Tolerance.Steps.{IsYoung}
use Rattle.sercos_law_run.proofs.Undisturbed.ChannelsKept.{phase_now}

pub some_times : (i c : ℕ) → c ≤ suc i * c
some_times i c = grind arith

module _ (r : RingView) (jobs : List Job) (carry : Carry) (restarts : Restarts) (opened : IsOpened r jobs) where
  abbrev Borne : CycleView → List CycleView → Type 0
  Borne t j = IsBorne r jobs carry restarts opened t j

  going_in : (t : CycleView) (j : List CycleView) → IsRun r jobs carry restarts (t ∷ j) → Borne t j → IsGoing r jobs carry restarts t j
  going_in t j run is = record {
    now = phase_now r jobs carry restarts t j run.1;
    stays = is.stays;
    quiet = is.goes_on;
    starts = start_is r jobs carry restarts opened t j run is;
  }

  module _ (k : ℕ) (below : k < length r.drives) where
    -- A CYCLE OF PHASE 3 OR 4: nothing is late at its end; or something is, and nothing was at the end of the cycle before.
    record IsSpared (t : CycleView) (j : List CycleView) : Type 0 where
      goes_on : IsGoing r jobs carry restarts t j
      spared : 3 ≤ t.phase → IsYoung (drive_at r k).busy 0 0 (views_of r jobs carry restarts k (t ∷ j))
          ⊎ (IsYoung (drive_at r k).busy 1 1 (views_of r jobs carry restarts k (t ∷ j))
          × IsYoung (drive_at r k).busy 0 0 (views_of r jobs carry restarts k j))

    spared_all : (cycles before : List CycleView) → IsRun r jobs carry restarts (cycles ++ before) → IsClear (cycles ++ before)
        → StartsEpoch r jobs carry restarts before → AreSparse r carry restarts cycles before → AreAll IsSpared cycles before
    spared_all [] before run clear starts sparse = tt
    spared_all (t ∷ cycles) before run clear starts sparse = (
      spared_all cycles before run.0 clear.0 starts sparse.0,
      (record {
        goes_on = going_in t (cycles ++ before) run (all_borne r jobs carry restarts opened t cycles before run clear starts sparse);
        spared = λ late. spared_in r jobs carry restarts opened t cycles before run clear starts sparse late k below;
      }),
    )

    goes_so : (t : CycleView) (j : List CycleView) → IsSpared t j → IsGoing r jobs carry restarts t j
    goes_so t j is = is.goes_on

    goings : (cycles rest : List CycleView) → AreAll IsSpared cycles rest → AreGoing r jobs carry restarts cycles rest
    goings cycles rest are = all_so IsSpared (IsGoing r jobs carry restarts) goes_so cycles rest are

    -- SUCH CYCLES OF PHASE 4 are a row for the drive, if a step to it is open in each.
    in_a_row : (cycles rest : List CycleView) → IsRun r jobs carry restarts (cycles ++ rest) → AreAll IsSpared cycles rest
        → (looks_back r jobs (master_calls r carry restarts rest)).now.phase ≡ 4
        → AreAtWork (views_since r jobs carry restarts k cycles rest) (views_of r jobs carry restarts k rest)
        → AreInARow (drive_at r k).busy (views_since r jobs carry restarts k cycles rest) (views_of r jobs carry restarts k rest)
    in_a_row [] rest run are four works_in = tt
    in_a_row (t ∷ cycles) rest run are four works_in = (
      in_a_row cycles rest run.0 are.0 four works_in.0,
      record {
        stays = ap (λ (o : Option Fall). is_some o) are.1.goes_on.stays;
        goes_on = are.1.goes_on.quiet;
        opens = works_in.1;
        spared = subst (λ (l : List View). IsYoung (drive_at r k).busy 0 0 (view_of r jobs carry restarts k t (cycles ++ rest) ∷ l)
            ⊎ (IsYoung (drive_at r k).busy 1 1 (view_of r jobs carry restarts k t (cycles ++ rest) ∷ l)
            × IsYoung (drive_at r k).busy 0 0 l))
            (views_split r jobs carry restarts k cycles rest) (are.1.spared late);
      },
    )
      where
        late : 3 ≤ t.phase
        late =
            let four_now = phase_before r jobs carry restarts opened t (cycles ++ rest) run are.1.goes_on
            ∙ four_along r jobs carry restarts opened cycles rest run.0 (goings cycles rest are.0) four in
            omega (arith, four_now)

    -- so a request lasts no longer than this profile allows
    lasts_sparse : LastsShort r jobs carry restarts k IsSpared
    lasts_sparse t newer one old b older run clear those one_is t_four four_then works_in begun shut answered =
        let count = length_since r jobs carry restarts k (t ∷ newer) (one ∷ old) in
        let less = row_lasts (drive_at r k).busy (drive_at r k).command (store_of (drive_at r k))
        (small r jobs carry restarts opened (first_store r jobs carry restarts opened) k below)
        (first_store r jobs carry restarts opened k below) (views_since r jobs carry restarts k (t ∷ newer) (one ∷ old))
        (views_of r jobs carry restarts k (one ∷ old)) b older
        (runs_split r jobs carry restarts opened (t ∷ newer) (one ∷ old) run clear k below)
        (subst (λ (l : List View). AreSound (store_of (drive_at r k)) l) (views_split r jobs carry restarts k (t ∷ newer) (one ∷ old))
        (all_stand r jobs carry restarts opened (t ∷ (newer ++ one ∷ old)) run clear k below).sound)
        (subst (λ (l : List View). AreTimed (drive_at r k).command l) (views_split r jobs carry restarts k (t ∷ newer) (one ∷ old))
        (comes_timed (drive_at r k).command (views_of r jobs carry restarts k (t ∷ (newer ++ one ∷ old)))
        (are_carried (drive_at r k).command (first_commands r k) refl refl (views_of r jobs carry restarts k (t ∷ (newer ++ one ∷ old)))
        (commands_so r jobs carry restarts opened (t ∷ (newer ++ one ∷ old)) run clear k below).follow)))
        (listed_all (views_since r jobs carry restarts k (t ∷ newer) (one ∷ old) ++ views_of r jobs carry restarts k (one ∷ old)))
        (in_a_row (t ∷ newer) (one ∷ old) run those four_then works_in) begun shut answered in omega (arith, count, less)

    -- WHERE PHASE 4 IS COMMANDED in some of these cycles, it is in the newest, and after it.
    four_next : (t : CycleView) (j : List CycleView) → IsRun r jobs carry restarts (t ∷ j) → IsGoing r jobs carry restarts t j → t.phase ≡ 4
        → (looks_back r jobs (master_calls r carry restarts (t ∷ j))).now.phase ≡ 4
    four_next t j run going four = four_along r jobs carry restarts opened (t ∷ []) j run (tt, going)
        (sym (phase_before r jobs carry restarts opened t j run going) ∙ four)

    four_of : (t : CycleView) (cycles before : List CycleView) → IsRun r jobs carry restarts (t ∷ (cycles ++ before))
        → IsGoing r jobs carry restarts t (cycles ++ before) → 1 ≤ cycles_commanded 4 (t ∷ cycles)
        → (1 ≤ cycles_commanded 4 cycles → (looks_back r jobs (master_calls r carry restarts (cycles ++ before))).now.phase ≡ 4) → t.phase ≡ 4
    four_of t cycles before run going some earlier = elim (cases_Bool (t.phase == 4)) [
      | inl is ↦ eqb-true t.phase 4 is
      | inr off ↦ phase_before r jobs carry restarts opened t (cycles ++ before) run going
          ∙ earlier (subst (λ (n : ℕ). 1 ≤ n) (cond-false (t.phase == 4) (suc (cycles_commanded 4 cycles)) (cycles_commanded 4 cycles) off) some)
    ]

    four_after : (cycles before : List CycleView) → IsRun r jobs carry restarts (cycles ++ before) → AreAll IsSpared cycles before
        → 1 ≤ cycles_commanded 4 cycles → (looks_back r jobs (master_calls r carry restarts (cycles ++ before))).now.phase ≡ 4
    four_after [] before run are some = absurd (omega (arith, some))
    four_after (t ∷ cycles) before run are some = four_next t (cycles ++ before) run are.1.goes_on
        (four_of t cycles before run are.1.goes_on some (four_after cycles before run.0 are.0))

    -- these cycles, cut before the newest n: phase 4 is commanded in the newest of the others, if it is in more than n of all
    record IsFour (n : ℕ) (cycles before : List CycleView) : Type 0 where
      newer : List CycleView
      one : CycleView
      older : List CycleView
      is : cycles ++ before ≡ newer ++ one ∷ (older ++ before)
      long : length newer ≡ n
      four : one.phase ≡ 4
      those : AreAll IsSpared newer (one ∷ (older ++ before))
      one_is : IsSpared one (older ++ before)
      those_older : AreAll IsSpared older before

    four_split : (cycles before : List CycleView) (n : ℕ) → n < cycles_commanded 4 cycles → IsRun r jobs carry restarts (cycles ++ before)
        → AreAll IsSpared cycles before → IsFour n cycles before
    four_split [] before n low run are = absurd (omega (arith, low))
    four_split (t ∷ cycles) before zero low run are = record {
      newer = [];
      one = t;
      older = cycles;
      is = refl;
      long = refl;
      four = four_of t cycles before run are.1.goes_on (omega (arith, low)) (four_after cycles before run.0 are.0);
      those = tt;
      one_is = are.1;
      those_older = are.0;
    }
    four_split (t ∷ cycles) before (suc n) low run are =
        let c = four_split cycles before n (elim (cases_Bool (t.phase == 4)) [
          | inl on ↦ let low = rw on at low in omega (arith, low)
          | inr off ↦ let low = rw off at low in omega (arith, low)
        ]) run.0 are.0 in
        record {
          newer = t ∷ c.newer;
          one = c.one;
          older = c.older;
          is = ap (λ (l : List CycleView). t ∷ l) c.is;
          long = ap suc c.long;
          four = c.four;
          those = (c.those, subst (λ (l : List CycleView). IsSpared t l) c.is are.1);
          one_is = c.one_is;
          those_older = c.those_older;
        }

  -- THE REQUESTS ARE REPORTED IN TIME.
  pub reports_sparse : (t : CycleView) (cycles before : List CycleView) → IsRun r jobs carry restarts (t ∷ (cycles ++ before))
      → IsClear (t ∷ (cycles ++ before)) → StartsEpoch r jobs carry restarts before → AreSparse r carry restarts (t ∷ cycles) before
      → (k i : ℕ) (x : Task) → k < length r.drives → slice_get (waiting_after r jobs carry restarts before k) i ≡ Some x
      → (i + 1) * request_cycles r k ≤ cycles_commanded 4 cycles → (number : ℕ) × (x.number ≡ Some number) × HaveTold (t ∷ cycles) number
  reports_sparse t cycles before run clear starts sparse k i x below got long =
      let quiet = all_so (IsSpared k below) (IsQuiet restarts) (λ u j is. is.goes_on.quiet) (t ∷ cycles) before those in
      told_if_few r jobs carry restarts opened k below
      (t ∷ cycles) before (told_along r jobs carry restarts opened k below (t ∷ cycles) before run clear quiet) starts i x got few
    where
      those : AreAll (IsSpared k below) (t ∷ cycles) before
      those = spared_all k below (t ∷ cycles) before run clear starts sparse

      some : 1 ≤ suc i * request_cycles r k
      some =
          let least = some_times i (request_cycles r k) in omega (arith, room (drive_at r k).busy (drive_at r k).command, least)

      enough : suc i * request_cycles r k ≤ cycles_commanded 4 cycles
      enough = let same = one_more_time i (request_cycles r k) in omega (arith, same, long)

      n : (d : ℕ) × (suc i * request_cycles r k ≡ 1 + d)
      n = beyond 1 (suc i * request_cycles r k) some

      c : IsFour k below n.0 cycles before
      c = four_split k below cycles before n.0 (let is = n.1 in let all = enough in omega (arith, is, all)) run.0 those.0

      four : t.phase ≡ 4
      four = phase_before r jobs carry restarts opened t (cycles ++ before) run those.1.goes_on
          ∙ four_after k below cycles before run.0 those.0 (let one = some in let all = enough in omega (arith, one, all))

      few : (m : ℕ) → length (waiting_after r jobs carry restarts before k) ≤ m + suc i
          → length (left_after r jobs carry restarts (t ∷ (cycles ++ before)) k) ≤ m
      few m most = subst (λ (l : List CycleView). length (left_after r jobs carry restarts (t ∷ l) k) ≤ m) (sym c.is)
          (left_waiting r jobs carry restarts opened k below (IsSpared k below) (goes_so k below)
          (lasts_sparse k below) t c.newer c.one (c.older ++ before)
          (subst (λ (l : List CycleView). IsRun r jobs carry restarts (t ∷ l)) c.is run)
          (subst (λ (l : List CycleView). IsClear (t ∷ l)) c.is clear)
          (c.those, subst (λ (l : List CycleView). IsSpared k below t l) c.is those.1) c.one_is c.four four i
          (let is = n.1 in let count = c.long in omega (arith, is, count)) m
          (subst (λ (l : List Task). length l ≤ m + suc i) (sym (waits_along r jobs carry restarts c.older before
          (goings k below c.older before c.those_older) k)) most))
