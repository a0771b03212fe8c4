-- Cycles at whose ends the ring doesn't fall, and in which the master doesn't restart; and what goes on from one to the next: outcomes and
-- a stop stay, and so do the requests that wait.
use Rattle.sercos_law_run.proofs.Words.{inr, inl, cases_Bool, ◌≡◌, ℕ, zero, suc, ◌+◌, ◌<◌, ◌≤◌, Bool, true, false, if◌then◌else◌, List, [], ◌∷◌, ◌++◌, length, Option, Some, None, refl, sym, ap, ◌∙◌, subst, arith, length-append, slice_index, Job, Outcome, RingView, Begun, CycleView, reads_count, is_ready, outcomes_in, with_outcome, MemberView, Task, known_of, member, tasks_for, ready_stays, Past, outcomes, fall_of, is_done, place_of, waiting_at, waiting_settled, Carry, Restarts, with_heard, with_begun, epoch_begun, View, mst_in, ats_in, own_mst, begins, master_calls, looks_back, IsRun, IsClear, at_start, behind_ats, behind_mdt, view_of, views_of, IsOpened}
use Rattle.sercos_law_run.proofs.Typed.Mdts.{phase_low}
use Rattle.sercos_law_run.proofs.Held.Extended.{Extends, heard_more, begun_same}
use Rattle.sercos_law_run.proofs.Headline.HeadlineRuns.{all_stand}
use Rattle.sercos_law_run.proofs.Undisturbed.PhaseCounts.{end_kept}
use Rattle.sercos_law_run.proofs.Undisturbed.PhasesRise.{phase_after}
use Rattle.sercos_law_run.proofs.Undisturbed.Stops.StopStays.{ats_same, none_before, stop_after}
use Rattle.sercos_law_run.proofs.Undisturbed.JobsBegun.{begun_end, begun_now}

-- A CYCLE at whose end the ring doesn't fall, and in which the master doesn't restart.
pub record IsGoing (r : RingView) (jobs : List Job) (carry : Carry) (restarts : Restarts) (t : CycleView)
    (j : List CycleView) : Type 0 where
  pub now : (behind_mdt r jobs carry restarts t.sent j).now.phase ≡ t.phase
  pub stays : fall_of (known_of r) (behind_mdt r jobs carry restarts t.sent j) ≡ None
  pub quiet : restarts (length j) 0 ≡ false
  pub starts : at_start r jobs carry restarts j ≡ looks_back r jobs (master_calls r carry restarts j)

-- something holds of each of these cycles, which are later than the others
abbrev pub AreAll : (CycleView → List CycleView → Type 0) → List CycleView → List CycleView → Type 0
AreAll P [] rest = Unit {0}
AreAll P (t ∷ cycles) rest = AreAll P cycles rest × P t (cycles ++ rest)

pub all_so : (P Q : CycleView → List CycleView → Type 0) → ((t : CycleView) (j : List CycleView) → P t j → Q t j)
    → (cycles rest : List CycleView)
    → AreAll P cycles rest → AreAll Q cycles rest
all_so P Q so [] rest are = tt
all_so P Q so (t ∷ cycles) rest are = (all_so P Q so cycles rest are.0, so t (cycles ++ rest) are.1)

abbrev pub AreGoing : RingView → List Job → Carry → Restarts → List CycleView → List CycleView → Type 0
AreGoing r jobs carry restarts cycles rest = AreAll (IsGoing r jobs carry restarts) cycles rest

-- some cycles, cut before the newest n: the newest of the others is `one`
pub record IsSplit (P : CycleView → List CycleView → Type 0) (n : ℕ) (cycles before : List CycleView) : Type 0 where
  pub newer : List CycleView
  pub one : CycleView
  pub older : List CycleView
  pub is : cycles ++ before ≡ newer ++ one ∷ (older ++ before)
  pub long : length newer ≡ n
  pub rest : length older + suc n ≡ length cycles
  pub those : AreAll P newer (one ∷ (older ++ before))
  pub those_older : AreAll P (one ∷ older) before

pub split_before : (P : CycleView → List CycleView → Type 0) (cycles before : List CycleView) (n : ℕ) → n < length cycles
    → AreAll P cycles before
    → IsSplit P n cycles before
split_before P [] before n low are = absurd (omega (arith, low))
split_before P (t ∷ cycles) before zero low are = record {
  newer = [];
  one = t;
  older = cycles;
  is = refl;
  long = refl;
  rest = omega arith;
  those = tt;
  those_older = are;
}
split_before P (t ∷ cycles) before (suc n) low are =
    let c = split_before P cycles before n (omega (arith, low)) are.0 in
    record {
      newer = t ∷ c.newer;
      one = c.one;
      older = c.older;
      is = ap (λ (l : List CycleView). t ∷ l) c.is;
      long = ap suc c.long;
      rest = omega (arith, c.rest);
      those = (c.those, subst (λ (l : List CycleView). P t l) c.is are.1);
      those_older = c.those_older;
    }

pub run_rest : (r : RingView) (jobs : List Job) (carry : Carry) (restarts : Restarts) (cycles rest : List CycleView)
    → IsRun r jobs carry restarts (cycles ++ rest) → IsClear (cycles ++ rest) → IsRun r jobs carry restarts rest × IsClear rest
run_rest r jobs carry restarts [] rest run clear = (run, clear)
run_rest r jobs carry restarts (t ∷ cycles) rest run clear = run_rest r jobs carry restarts cycles rest run.0 clear.0

-- no stop comes and goes
pub none_since : (r : RingView) (jobs : List Job) (carry : Carry) (restarts : Restarts) (cycles rest : List CycleView)
    → AreGoing r jobs carry restarts cycles rest → (looks_back r jobs (master_calls r carry restarts (cycles ++ rest))).stop ≡ None
    → (looks_back r jobs (master_calls r carry restarts rest)).stop ≡ None
none_since r jobs carry restarts [] rest are none = none
none_since r jobs carry restarts (t ∷ cycles) rest are none =
    none_since r jobs carry restarts cycles rest are.0 (none_before r jobs carry restarts t (cycles ++ rest) are.1.starts (sym
    (stop_after r jobs carry restarts t (cycles ++ rest) are.1.stays) ∙ none))

-- WHAT WAITS
pub waits_now : (r : RingView) (jobs : List Job) (carry : Carry) (restarts : Restarts) (t : CycleView) (j : List CycleView)
    → IsGoing r jobs carry restarts t j → (k : ℕ)
    → (behind_mdt r jobs carry restarts t.sent j).waiting k ≡ (looks_back r jobs (master_calls r carry restarts j)).waiting k
waits_now r jobs carry restarts t j on k = ap (λ (w : ℕ → List Task). w k) (waiting_settled (known_of r)
    (behind_ats r jobs carry restarts t.sent j) ∙ ats_same (λ (p : Past). p.waiting)
    (λ s content p. waiting_at s (place_of s (slice_index content 0)) content p) r jobs carry (length j) (ats_in t.sent)
    (own_mst carry (length j)
    (mst_in t.sent) (begins r carry restarts j)))
    ∙ ap (λ (p : Past). p.waiting k) on.starts

pub waits_along : (r : RingView) (jobs : List Job) (carry : Carry) (restarts : Restarts) (cycles rest : List CycleView)
    → AreGoing r jobs carry restarts cycles rest → (k : ℕ)
    → (looks_back r jobs (master_calls r carry restarts (cycles ++ rest))).waiting k ≡ (looks_back r jobs
    (master_calls r carry restarts rest)).waiting k
waits_along r jobs carry restarts [] rest are k = refl
waits_along r jobs carry restarts (t ∷ cycles) rest are k =
    ap (λ (p : Past). p.waiting k) (end_kept (known_of r) (behind_mdt r jobs carry restarts t.sent (cycles ++ rest)) are.1.stays)
    ∙ waits_now r jobs carry restarts t (cycles ++ rest) are.1 k
    ∙ waits_along r jobs carry restarts cycles rest are.0 k

-- OUTCOMES only come to those that are there.
pub longer : (o : Option Outcome) (outs : List Outcome) → length outs ≤ length (with_outcome o outs)
longer None outs = omega arith
longer (Some o) outs = let long = length-append outs (o ∷ []) in omega (arith, long)

-- a check for phase 4 that has ended, and not well, stays so
unready_more : (m : MemberView) (o : Option Outcome) (outs : List Outcome) → reads_count m + 12 < length outs → is_ready m outs ≡ false
    → is_ready m (with_outcome o outs) ≡ false
unready_more m None outs many unready = unready
unready_more m (Some o) outs many unready = ready_stays m outs o many ∙ unready

abbrev pub HasEndedBadly : MemberView → List Outcome → Type 0
HasEndedBadly m outs = (reads_count m + 12 < length outs) × (is_ready m outs ≡ false)

pub badly_more : (m : MemberView) (old new : List Outcome) → Extends old new → HasEndedBadly m old → HasEndedBadly m new
badly_more m old new (o, is) (many, unready) = subst (HasEndedBadly m) (sym is) (
  let long = longer o old in omega
      (arith, many, long),
  unready_more m o old many unready,
)

pub longer_so : (old new : List Outcome) → Extends old new → length old ≤ length new
longer_so old new (o, is) = subst (λ (l : List Outcome). length old ≤ length l) (sym is) (longer o old)

module _ (r : RingView) (jobs : List Job) (carry : Carry) (restarts : Restarts) (opened : IsOpened r jobs) where
  abbrev back : List CycleView → Past
  back j = looks_back r jobs (master_calls r carry restarts j)

  abbrev now_in : CycleView → List CycleView → Past
  now_in t j = behind_mdt r jobs carry restarts t.sent j

  pub outcomes_grow : (t : CycleView) (j : List CycleView) → IsRun r jobs carry restarts (t ∷ j) → IsClear (t ∷ j)
      → IsGoing r jobs carry restarts t j → (k : ℕ) → k < length r.drives → Extends (outcomes (back j) k) (outcomes (now_in t j) k)
  outcomes_grow t j run clear on k below = (
    (heard_more v.heard (epoch_begun (views_of r jobs carry restarts k j))).0,
    ap outcomes_in (begun_now r jobs carry restarts opened t j run clear on.stays k below
        ∙ begun_end r jobs carry restarts opened t j run clear on.stays k
        ∙ ap (λ (l : List Begun). with_begun v.begins (with_heard v.heard l)) (elim (cases_Bool v.master_restarts) [
          | inl on_is ↦ let on = rw on_is at on.quiet in absurd (cc)
          | inr off ↦ rw off refl
        ]))
        ∙ begun_same v.begins (with_heard v.heard (epoch_begun
        (views_of r jobs carry restarts k j))) ∙ (heard_more v.heard (epoch_begun (views_of r jobs carry restarts k j))).1
        ∙ ap (λ (l : List Begun). with_outcome (heard_more v.heard (epoch_begun (views_of r jobs carry restarts k j))).0
        (outcomes_in l))
        (sym ((all_stand r jobs carry restarts opened j run.0 clear.0 k below).sees.master.begun_are)),
  )
    where
      v : View
      v = view_of r jobs carry restarts k t j

  pub outcomes_kept : (t : CycleView) (j : List CycleView) → IsGoing r jobs carry restarts t j → (k : ℕ)
      → outcomes (back (t ∷ j)) k ≡ outcomes (now_in t j) k
  outcomes_kept t j on k = ap (λ (p : Past). outcomes p k) (end_kept (known_of r) (now_in t j) on.stays)

  extend_next : (t : CycleView) (j : List CycleView) → IsRun r jobs carry restarts (t ∷ j) → IsClear (t ∷ j)
      → IsGoing r jobs carry restarts t j → (k : ℕ) → k < length r.drives → Extends (outcomes (back j) k) (outcomes (back (t ∷ j)) k)
  extend_next t j run clear on k below = subst (λ (l : List Outcome). Extends (outcomes (back j) k) l) (sym (outcomes_kept t j on k))
      (outcomes_grow t j run clear on k below)

  pub more_along : (cycles rest : List CycleView) → IsRun r jobs carry restarts (cycles ++ rest) → IsClear (cycles ++ rest)
      → AreGoing r jobs carry restarts cycles rest → (k : ℕ) → k < length r.drives
      → length (outcomes (back rest) k) ≤ length (outcomes (back (cycles ++ rest)) k)
  more_along [] rest run clear are k below = omega arith
  more_along (t ∷ cycles) rest run clear are k below =
      let next = longer_so _ _ (extend_next t (cycles ++ rest) run clear are.1 k below) in
      omega (arith, more_along cycles rest run.0 clear.0 are.0 k below, next)

  pub badly_along : (cycles rest : List CycleView) → IsRun r jobs carry restarts (cycles ++ rest) → IsClear (cycles ++ rest)
      → AreGoing r jobs carry restarts cycles rest → (k : ℕ) → k < length r.drives
      → HasEndedBadly (member (known_of r) k) (outcomes (back rest) k) → HasEndedBadly (member (known_of r) k) (outcomes (back
      (cycles ++ rest)) k)
  badly_along [] rest run clear are k below badly = badly
  badly_along (t ∷ cycles) rest run clear are k below badly =
      badly_more (member (known_of r) k) _ _ (extend_next t (cycles ++ rest) run clear are.1 k below)
      (badly_along cycles rest run.0 clear.0 are.0 k below badly)

-- no phase comes after 4
pub stays_four : (done : Bool) (n : ℕ) → n ≡ 4 → (if done then n + 1 else n) ≤ 4 → (if done then n + 1 else n) ≡ 4
stays_four true n is low = absurd (omega (arith, is, low))
stays_four false n is low = is

module _ (r : RingView) (jobs : List Job) (carry : Carry) (restarts : Restarts) (opened : IsOpened r jobs) where
  -- the phase of a cycle is that after the cycle before
  pub phase_before : (t : CycleView) (j : List CycleView) → IsRun r jobs carry restarts (t ∷ j) → IsGoing r jobs carry restarts t j
      → t.phase ≡ (looks_back r jobs (master_calls r carry restarts j)).now.phase
  phase_before t j run on = run.1.phase ∙ ap (λ (p : Past). p.now.phase) on.starts

  -- phase 4 stays
  pub four_along : (cycles rest : List CycleView) → IsRun r jobs carry restarts (cycles ++ rest)
      → AreGoing r jobs carry restarts cycles rest → (looks_back r jobs (master_calls r carry restarts rest)).now.phase ≡ 4
      → (looks_back r jobs (master_calls r carry restarts (cycles ++ rest))).now.phase ≡ 4
  four_along [] rest run are four = four
  four_along (t ∷ cycles) rest run are four =
      let low = phase_low (known_of r) (tasks_for (known_of r) jobs) (master_calls r carry restarts (t ∷ (cycles ++ rest))) in
      let after = phase_after r jobs carry restarts opened t (cycles ++ rest) run are.1.stays in
      after ∙ stays_four (is_done (known_of r) (behind_mdt r jobs carry restarts t.sent (cycles ++ rest))) t.phase (phase_before t
      (cycles ++ rest) run are.1 ∙ four_along cycles rest run.0 are.0 four) (subst (λ (n : ℕ). n ≤ 4) after low)
