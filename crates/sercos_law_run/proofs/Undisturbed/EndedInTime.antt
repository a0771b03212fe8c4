-- In phase 4 the requests to a drive end one after the other, each within the cycles that this profile gives a request, if none lasts
-- longer; and in undisturbed cycles none does.
use Rattle.sercos_law_run.proofs.Words.{◌≡◌, inl, inr, ℕ, zero, suc, ◌+◌, ◌*◌, ◌<◌, ◌≤◌, false, List, [], ◌∷◌, ◌++◌, length, Option, Some, None, refl, sym, ap, ◌∙◌, subst, arith, if◌then◌else◌, length-append, is_none, is_some, cases_lt, false≢true, Job, Outcome, next_step, outcome_of, PlanView, store_of, RingView, Begun, open_in, answers_in, CycleView, Fall, reads_count, outcomes_in, with_outcome, Known, Task, known_of, member, outcomes, is_idle, not_longer, Carry, Restarts, epoch_begun, View, standing, AreSound, AreAtWork, AreTimed, RecoversInTime, drive_at, master_calls, looks_back, IsRun, IsClear, AreBegunTasks, behind_mdt, view_of, views_of, IsOpened, request_cycles, GoesOn, views_since, always_opens, rest_since, comes_timed, times_suc, cases_Option}
use Rattle.sercos_law_run.proofs.Held.Runs.{small}
use Rattle.sercos_law_run.proofs.Headline.HeadlineRuns.{all_stand, first_store}
use Rattle.sercos_law_run.proofs.Undisturbed.BehindRests.{Follow, follow_on}
use Rattle.sercos_law_run.proofs.Undisturbed.Checks.Carried.{are_carried}
use Rattle.sercos_law_run.proofs.Undisturbed.Checks.CommandRuns.{first_commands}
use Rattle.sercos_law_run.proofs.Undisturbed.EpochCycles.{IsOn, wholes}
use Rattle.sercos_law_run.proofs.Undisturbed.GoingCycles.{AreAll, AreGoing, IsGoing, all_so, four_along, more_along, none_since, outcomes_kept, phase_before, run_rest, split_before, waits_along, waits_now}
use Rattle.sercos_law_run.proofs.Undisturbed.InFour.{busy_now, at_work}
use Rattle.sercos_law_run.proofs.Undisturbed.JobsBegun.{begun_now, tasks_now}
use Rattle.sercos_law_run.proofs.Undisturbed.NeverFalls.{runs_split}
use Rattle.sercos_law_run.proofs.Undisturbed.OneRequest.{room, one_lasts}
use Rattle.sercos_law_run.proofs.Undisturbed.Checks.PassedCycles.{views_split}
use Rattle.sercos_law_run.proofs.Undisturbed.Checks.PassedRuns.{commands_so}
use Rattle.sercos_law_run.proofs.Undisturbed.PhaseTwo.{listed_all}
use Rattle.sercos_law_run.proofs.Undisturbed.Arriving.Small.{first_is}
use Rattle.sercos_law_run.proofs.Undisturbed.Stops.StopStays.{stop_after}
use Rattle.sercos_law_run.proofs.Undisturbed.Cited.{never_stops_in_four}

-- THE REQUEST AT WORK: all that were begun before it have ended.
record IsAlone (n : ℕ) (begun : List Begun) : Type 0 where
  one : Begun
  older : List Begun
  split : begun ≡ one ∷ older
  shut : open_in older ≡ None
  long : length older ≡ n

rest_shut : (older : List Begun) → length (outcomes_in older) ≡ length older → open_in older ≡ None
rest_shut [] ended = refl
rest_shut (c ∷ older) ended = elim (cases_Option (outcome_of c.request c.answers)) [
  | inl is ↦
      absurd (omega (arith, not_longer older, ap (λ (x : Option Outcome). length (with_outcome x (outcomes_in older))) is, ended))
  | inr (o, is) ↦ ap (λ (x : Option Outcome). if is_some x then None else next_step c.request c.answers) is
]

alone : (s : Known) (k : ℕ) (plan : Option PlanView) (waiting : List Task) (phase : ℕ) (begun : List Begun) (tasks : List Task) → AreBegunTasks s k plan waiting phase begun tasks → is_none (open_in begun) ≡ false → IsAlone (length (outcomes_in begun)) begun
alone s k plan waiting phase [] tasks are works = absurd (false≢true (sym works))
alone s k plan waiting phase (b ∷ older) [] are works = absurd are
alone s k plan waiting phase (b ∷ older) (t ∷ tasks) are works = record { one = b; older = older; split = refl; shut = rest_shut older are.1.ended; long = by (outcome_of b.request b.answers) works }
  where
    by : (o : Option Outcome) → is_none (if is_some o then None else next_step b.request b.answers) ≡ false → length older ≡ length (with_outcome o (outcomes_in older))
    by None on = sym are.1.ended
    by (Some o) on = absurd (false≢true (sym on))

-- the older requests are the same ones as long as there are as many
same_older : (recent old : List Begun) (b : Begun) (older : List Begun) → recent ++ old ≡ b ∷ older → length old ≡ length older → old ≡ older
same_older [] old b older is long = let all = ap (λ (l : List Begun). length l) is in absurd (omega (arith, all, long))
same_older (c ∷ []) old b older is long = (first_is c b old older is).1
same_older (c ∷ d ∷ recent) old b older is long =
    let parts = length-append recent old in absurd (omega (arith, ap (λ (l : List Begun). length l) is, parts, long))

pub length_since : (r : RingView) (jobs : List Job) (carry : Carry) (restarts : Restarts) (k : ℕ) (cycles rest : List CycleView)
    → length (views_since r jobs carry restarts k cycles rest) ≡ length cycles
length_since r jobs carry restarts k [] rest = refl
length_since r jobs carry restarts k (t ∷ cycles) rest = ap suc (length_since r jobs carry restarts k cycles rest)

some_cycles : (x : ℕ) → 1 ≤ x → (n : ℕ) × (x ≡ suc n)
some_cycles zero some = absurd (omega (arith, some))
some_cycles (suc n) some = (n, refl)

zero_times : (i c : ℕ) → 1 ≤ c → i * c ≤ 0 → i ≡ 0
zero_times zero c some none = refl
zero_times (suc i) c some none = let times = times_suc i c in absurd (omega (arith, times, some, none))

-- NONE LASTS LONGER: in cycles of phase 4 at whose ends a step to a drive is open, of one request, which was begun after all others had
-- ended, there are fewer of them than this profile gives a request.
abbrev pub LastsShort : RingView → List Job → Carry → Restarts → ℕ → (CycleView → List CycleView → Type 0) → Type 0
LastsShort r jobs carry restarts k P = (t : CycleView) (newer : List CycleView) (one : CycleView) (old : List CycleView) (b : Begun)
    (older : List Begun)
    → IsRun r jobs carry restarts (t ∷ (newer ++ one ∷ old)) → IsClear (t ∷ (newer ++ one ∷ old)) → AreAll P (t ∷ newer) (one ∷ old)
    → P one old
    → t.phase ≡ 4 → (looks_back r jobs (master_calls r carry restarts (one ∷ old))).now.phase ≡ 4
    → AreAtWork (views_since r jobs carry restarts k (t ∷ newer) (one ∷ old)) (views_of r jobs carry restarts k (one ∷ old))
    → epoch_begun (views_since r jobs carry restarts k (t ∷ newer) (one ∷ old) ++ views_of r jobs carry restarts k
    (one ∷ old)) ≡ b ∷ older → open_in older ≡ None
    → length (answers_in older) ≤ length (answers_in (epoch_begun (views_of r jobs carry restarts k (one ∷ old))))
    → length (t ∷ newer) < request_cycles r k

-- such cycles, as a drive sees them
goes_on_since : (r : RingView) (jobs : List Job) (carry : Carry) (restarts : Restarts) (k : ℕ) (cycles rest : List CycleView)
    → AreGoing r jobs carry restarts cycles rest
    → GoesOn (views_since r jobs carry restarts k cycles rest)
goes_on_since r jobs carry restarts k [] rest are = tt
goes_on_since r jobs carry restarts k (t ∷ cycles) rest are = (
  goes_on_since r jobs carry restarts k cycles rest are.0,
  ap (λ
      (o : Option Fall). is_some o) are.1.stays,
  are.1.quiet,
)

module _ (r : RingView) (jobs : List Job) (carry : Carry) (restarts : Restarts) (opened : IsOpened r jobs) (k : ℕ)
    (below : k < length r.drives) (P : CycleView → List CycleView → Type 0)
    (going : (t : CycleView) (j : List CycleView) → P t j → IsGoing r jobs carry restarts t j)
    (lasts : LastsShort r jobs carry restarts k P) where
  -- what is open is alone
  alone_in : (t : CycleView) (j : List CycleView) → IsRun r jobs carry restarts (t ∷ j) → IsClear (t ∷ j)
      → IsGoing r jobs carry restarts t j → is_idle (behind_mdt r jobs carry restarts t.sent j) k ≡ false
      → IsAlone (length (outcomes (behind_mdt r jobs carry restarts t.sent j) k)) (epoch_begun (views_of r jobs carry restarts k (t ∷ j)))
  alone_in t j run clear on busy =
      let p = behind_mdt r jobs carry restarts t.sent j in
      let same = begun_now r jobs carry restarts opened t j run clear on.stays k below in
      subst (λ (n : ℕ). IsAlone n (epoch_begun (views_of r jobs carry restarts k (t ∷ j)))) (ap (λ (l : List Begun). length (outcomes_in l)) (sym same))
      (alone (known_of r) k p.plan (p.waiting k) p.now.phase (epoch_begun (views_of r jobs carry restarts k (t ∷ j))) (p.tasks k) (tasks_now r jobs carry restarts opened t j run clear on.stays k below)
      (ap (λ (l : List Begun). is_none (open_in l)) (sym same) ∙ busy))

  -- NO REQUEST LASTS so long: after a cycle of phase 4 in which those before it had ended.
  module _ (i : ℕ) (t : CycleView) (newer : List CycleView) (one : CycleView) (old : List CycleView)
      (run : IsRun r jobs carry restarts (t ∷ (newer ++ one ∷ old))) (clear : IsClear (t ∷ (newer ++ one ∷ old)))
      (all : AreAll P (t ∷ newer) (one ∷ old)) (one_is : P one old) (one_four : one.phase ≡ 4) (t_four : t.phase ≡ 4)
      (none : (behind_mdt r jobs carry restarts t.sent (newer ++ one ∷ old)).stop ≡ None)
      (low : i < length ((looks_back r jobs (master_calls r carry restarts old)).waiting k))
      (enough : reads_count (member (known_of r) k) + (13 + i) ≤ length (outcomes (behind_mdt r jobs carry restarts one.sent old) k))
      (few : length (outcomes (behind_mdt r jobs carry restarts t.sent (newer ++ one ∷ old)) k) ≤ reads_count (member (known_of r) k) + (13 + i))
    where
      on : AreGoing r jobs carry restarts (t ∷ newer) (one ∷ old)
      on = all_so P (IsGoing r jobs carry restarts) going (t ∷ newer) (one ∷ old) all

      first : IsGoing r jobs carry restarts one old
      first = going one old one_is

      rest_run : IsRun r jobs carry restarts (one ∷ old) × IsClear (one ∷ old)
      rest_run = run_rest r jobs carry restarts (t ∷ newer) (one ∷ old) run clear

      four_then : (looks_back r jobs (master_calls r carry restarts (one ∷ old))).now.phase ≡ 4
      four_then = four_along r jobs carry restarts opened (one ∷ []) old rest_run.0 (tt, first) (sym (phase_before r jobs carry restarts opened one old rest_run.0 first) ∙ one_four)

      low_then : i < length ((looks_back r jobs (master_calls r carry restarts (one ∷ old))).waiting k)
      low_then = subst (λ (l : List Task). i < length l) (sym (waits_along r jobs carry restarts (one ∷ []) old (tt, first) k)) low

      -- the first cycle
      grown : length (outcomes (behind_mdt r jobs carry restarts one.sent old) k) ≤ length (outcomes (behind_mdt r jobs carry restarts t.sent (newer ++ one ∷ old)) k)
      grown =
          let before = ap (λ (l : List Outcome). length l) (outcomes_kept r jobs carry restarts opened one old first k) in
          let after = ap (λ (l : List Outcome). length l) (outcomes_kept r jobs carry restarts opened t (newer ++ one ∷ old) on.1 k) in
          omega (arith, more_along r jobs carry restarts opened (t ∷ newer) (one ∷ old) run clear on k below, before, after)

      busy_first : is_idle (behind_mdt r jobs carry restarts one.sent old) k ≡ false
      busy_first = busy_now r jobs carry restarts opened k below one old rest_run.0 rest_run.1 first one_four i (subst (λ (l : List Task). i < length l) (sym (waits_now r jobs carry restarts one old first k)) low)
          (sym (stop_after r jobs carry restarts one old first.stays) ∙ none_since r jobs carry restarts (t ∷ newer)
          (one ∷ old) on (stop_after r jobs carry restarts t (newer ++ one ∷ old) on.1.stays ∙ none)) (let grows = grown in
          omega (arith, grows, few))

      alone_first : IsAlone (length (outcomes (behind_mdt r jobs carry restarts one.sent old) k)) (epoch_begun (views_of r jobs carry restarts k (one ∷ old)))
      alone_first = alone_in one old rest_run.0 rest_run.1 first busy_first

      alone_last : IsAlone (length (outcomes (behind_mdt r jobs carry restarts t.sent (newer ++ one ∷ old)) k)) (epoch_begun (views_of r jobs carry restarts k (t ∷ (newer ++ one ∷ old))))
      alone_last = alone_in t (newer ++ one ∷ old) run clear on.1
          (busy_now r jobs carry restarts opened k below t (newer ++ one ∷ old) run clear on.1 t_four i
          (subst (λ (l : List Task). i < length l) (sym (waits_now r jobs carry restarts t (newer ++ one ∷ old) on.1 k
          ∙ waits_along r jobs carry restarts newer (one ∷ old) on.0 k)) low_then)
          none few)

      -- the views
      split : views_of r jobs carry restarts k (t ∷ (newer ++ one ∷ old)) ≡ views_since r jobs carry restarts k (t ∷ newer) (one ∷ old) ++ views_of r jobs carry restarts k (one ∷ old)
      split = views_split r jobs carry restarts k (t ∷ newer) (one ∷ old)

      follows : Follow alone_first.older (epoch_begun (views_since r jobs carry restarts k (t ∷ newer) (one ∷ old) ++ views_of r jobs carry restarts k (one ∷ old)))
      follows = follow_on (views_since r jobs carry restarts k (t ∷ newer) (one ∷ old)) (views_of r jobs carry restarts k
          (one ∷ old)) alone_first.older (goes_on_since r jobs carry restarts k (t ∷ newer) (one ∷ old) on) alone_first.shut
          (alone_first.one ∷ [], alone_first.split)

      begun_last : epoch_begun (views_since r jobs carry restarts k (t ∷ newer) (one ∷ old) ++ views_of r jobs carry restarts k (one ∷ old)) ≡ alone_last.one ∷ alone_first.older
      begun_last =
          let now : epoch_begun (views_since r jobs carry restarts k (t ∷ newer) (one ∷ old) ++ views_of r jobs carry restarts k (one ∷ old)) ≡ alone_last.one ∷ alone_last.older = ap (λ (l : List View). epoch_begun l) (sym split) ∙ alone_last.split in
          let long_first = alone_first.long in
          let long_last = alone_last.long in
          let grows = grown in
          let same = same_older follows.0 alone_first.older alone_last.one alone_last.older (sym follows.1 ∙ now) (omega (arith, long_first, long_last, grows, enough, few)) in
          now ∙ ap (λ (l : List Begun). alone_last.one ∷ l) (sym same)

      answered : length (answers_in alone_first.older) ≤ length (answers_in (epoch_begun (views_of r jobs carry restarts k (one ∷ old))))
      answered =
          let all = ap (λ (l : List Begun). length (answers_in l)) alone_first.split in
          let parts = length-append alone_first.one.answers (answers_in alone_first.older) in omega (arith, all, parts)

      pub never_so_long : length (t ∷ newer) ≡ request_cycles r k → ⊥
      never_so_long long =
          omega (
            arith,
            lasts t newer one old alone_last.one alone_first.older run clear all one_is t_four four_then
                (at_work r jobs carry restarts opened k below i (t ∷ newer) (one ∷ old) run clear on four_then low_then
                (stop_after r jobs carry restarts t (newer ++ one ∷ old) on.1.stays ∙ none)
                (subst (λ (l : List Outcome). length l ≤ reads_count (member (known_of r) k) + (13 + i))
                (sym (outcomes_kept r jobs carry restarts opened t (newer ++ one ∷ old) on.1 k)) few)) begun_last alone_first.shut answered,
            long,
          )

  -- SO THE REQUESTS END IN TIME, from a cycle of phase 4 on: of those that waited when the epoch began, the first m have ended in it.
  module _ (one : CycleView) (old : List CycleView) (one_is : P one old) (one_four : one.phase ≡ 4) (m : ℕ)
      (at_one : reads_count (member (known_of r) k) + (13 + m) ≤ length (outcomes (behind_mdt r jobs carry restarts one.sent old) k)) where
    -- in each cycle that is so late, i more
    abbrev pub HaveEnded : ℕ → Type 0
    HaveEnded i = (t : CycleView) (cycles : List CycleView) → IsRun r jobs carry restarts (t ∷ (cycles ++ one ∷ old))
        → IsClear (t ∷ (cycles ++ one ∷ old)) → AreAll P (t ∷ cycles) (one ∷ old)
        → i * request_cycles r k ≤ suc (length cycles) → (x : ℕ) → x ≤ m + i → x ≤ length ((looks_back r jobs
        (master_calls r carry restarts old)).waiting k)
        → reads_count (member (known_of r) k) + (13 + x) ≤ length (outcomes (behind_mdt r jobs carry restarts t.sent
        (cycles ++ one ∷ old)) k)

    four_in : (t : CycleView) (cycles : List CycleView) → IsRun r jobs carry restarts (t ∷ (cycles ++ one ∷ old))
        → IsRun r jobs carry restarts (one ∷ old) → AreGoing r jobs carry restarts (t ∷ cycles) (one ∷ old) → t.phase ≡ 4
    four_in t cycles run rest on = phase_before r jobs carry restarts opened t (cycles ++ one ∷ old) run on.1
        ∙ four_along r jobs carry restarts opened cycles (one ∷ old) run.0 on.0
        (four_along r jobs carry restarts opened (one ∷ []) old rest (tt, going one old one_is)
        (sym (phase_before r jobs carry restarts opened one old rest (going one old one_is)) ∙ one_four))

    one_more : (i : ℕ) → HaveEnded i → HaveEnded (suc i)
    one_more i earlier t cycles run clear all long x few low = elim (cases_lt x (suc (m + i))) [
      | inl less ↦ earlier t cycles run clear all (let times = times_suc i (request_cycles r k) in omega (arith, times, long)) x
          (omega (arith, less)) low
      | inr most ↦ elim (cases_lt (length (outcomes (behind_mdt r jobs carry restarts t.sent (cycles ++ one ∷ old)) k)) (reads_count
          (member (known_of r) k) + (13 + x))) [
            | inl less ↦ absurd (elim (cases_lt (length cycles) (request_cycles r k)) [
              | inl short ↦ let times = times_suc i (request_cycles r k) in
                  let none = zero_times i (request_cycles r k) (omega (arith, short)) (omega (arith, times, long, short)) in
                  never_so_long (m + i) t cycles one old run clear all one_is one_four t_four
                  (never_stops_in_four r jobs carry restarts t (cycles ++ one ∷ old) opened run clear t_four) (omega (arith, low, most))
                  (let ended = at_one in omega
                  (arith, ended, none)) (omega (arith, less, few)) (omega (arith, times, long, short))
              | inr enough ↦ never (omega (arith, less, few)) (omega (arith, low, most)) enough
            ])
            | inr enough ↦ enough
          ]
    ]
      where
        old_run : IsRun r jobs carry restarts (one ∷ old) × IsClear (one ∷ old)
        old_run = run_rest r jobs carry restarts (t ∷ cycles) (one ∷ old) run clear

        t_four : t.phase ≡ 4
        t_four = four_in t cycles run old_run.0 (all_so P (IsGoing r jobs carry restarts) going (t ∷ cycles) (one ∷ old) all)

        -- and after a later one
        never : length (outcomes (behind_mdt r jobs carry restarts t.sent (cycles ++ one ∷ old)) k)
            ≤ reads_count (member (known_of r) k) + (13 + (m + i)) → m + i < length ((looks_back r jobs
            (master_calls r carry restarts old)).waiting k)
            → request_cycles r k ≤ length cycles → ⊥
        never few_ended waits enough =
            let some = some_cycles (request_cycles r k) (let all = room (drive_at r k).busy (drive_at r k).command in omega (arith, all)) in
            let c = split_before P cycles (one ∷ old) some.0 (let is = some.1 in omega (arith, is, enough)) all.0 in
            let on_older = all_so P (IsGoing r jobs carry restarts) going (c.one ∷ c.older) (one ∷ old) c.those_older in
            let run_cut = subst (λ (l : List CycleView). IsRun r jobs carry restarts (t ∷ l)) c.is run in
            let clear_cut = subst (λ (l : List CycleView). IsClear (t ∷ l)) c.is clear in
            let cut_run = run_rest r jobs carry restarts (t ∷ c.newer) (c.one ∷ (c.older ++ one ∷ old)) run_cut clear_cut in
            never_so_long (m + i) t c.newer c.one (c.older ++ one ∷ old) run_cut clear_cut
            ((c.those, subst (λ (l : List CycleView). P t l) c.is all.1)) c.those_older.1
            (four_in c.one c.older cut_run.0 old_run.0 on_older) t_four (never_stops_in_four r jobs carry restarts t (c.newer ++ c.one ∷
            (c.older ++ one ∷ old)) opened run_cut clear_cut t_four)
            (subst (λ (l : List Task). m + i < length l) (sym (waits_along r jobs carry restarts c.older (one ∷ old) on_older.0 k
            ∙ waits_along r jobs carry restarts (one ∷ []) old (tt, going one old one_is) k)) waits)
            (earlier c.one c.older cut_run.0 cut_run.1 c.those_older (let is = some.1 in let times = times_suc i
            (request_cycles r k) in let rest = c.rest in omega (arith, is, times, rest, long)) (m + i) (omega arith) (omega
            (arith, waits)))
            (subst (λ (l : List CycleView). length (outcomes (behind_mdt r jobs carry restarts t.sent l) k)
            ≤ reads_count (member (known_of r) k) + (13 + (m + i))) c.is few_ended) (let is = some.1 in let count = c.long in omega
            (arith, is, count))

    pub have_ended : (i : ℕ) → HaveEnded i
    have_ended zero = λ t cycles run clear all long x few low.
        let on = all_so P (IsGoing r jobs carry restarts) going (t ∷ cycles) (one ∷ old) all in
        let along = more_along r jobs carry restarts opened (t ∷ cycles) (one ∷ old) run clear on k below in
        let before = ap (λ (l : List Outcome). length l) (outcomes_kept r jobs carry restarts opened one old (going one old one_is) k) in
        let after = ap (λ (l : List Outcome). length l) (outcomes_kept r jobs carry restarts opened t (cycles ++ one ∷ old) on.1 k) in
        let ended = at_one in omega (arith, along, before, after, ended, few)
    have_ended (suc i) = one_more i (have_ended i)

-- IN UNDISTURBED CYCLES none lasts longer.
pub lasts_undisturbed : (recovers :
    (busy : ℕ) → RecoversInTime busy) (r : RingView) (jobs : List Job) (carry : Carry) (restarts : Restarts) (opened : IsOpened r jobs) (k : ℕ)
    (below : k < length r.drives) → LastsShort r jobs carry restarts k (IsOn r jobs carry restarts)
lasts_undisturbed recovers r jobs carry restarts opened k below t newer one old b older run clear on
    first t_four four_then works begun_last shut answered =
    let all = always_opens (views_since r jobs carry restarts k (t ∷ newer) (one ∷ old)) (views_of r jobs carry restarts k (one ∷ old)) works in
    let less = one_lasts (drive_at r k).busy (drive_at r k).command (store_of (drive_at r k))
    (small r jobs carry restarts opened (first_store r jobs carry restarts opened) k below)
    (first_store r jobs carry restarts opened k below) (recovers (drive_at r k).busy) (rest_since (drive_at r k).busy)
    (views_since r jobs carry restarts k (t ∷ newer) (one ∷ old)) (view_of r jobs carry restarts k one old)
    (views_of r jobs carry restarts k old) b older (runs_split r jobs carry restarts opened (t ∷ newer) (one ∷ old) run clear k below)
    (subst (λ (l : List View). AreSound (store_of (drive_at r k)) l) (views_split r jobs carry restarts k (t ∷ newer) (one ∷ old))
    (all_stand r jobs carry restarts opened (t ∷ (newer ++ one ∷ old)) run clear k below).sound)
    (subst (λ (l : List View). AreTimed (drive_at r k).command l) (views_split r jobs carry restarts k (t ∷ newer) (one ∷ old))
    (comes_timed (drive_at r k).command (views_of r jobs carry restarts k (t ∷ (newer ++ one ∷ old)))
    (are_carried (drive_at r k).command (first_commands r k) refl refl (views_of r jobs carry restarts k (t ∷ (newer ++ one ∷ old)))
    (commands_so r jobs carry restarts opened (t ∷ (newer ++ one ∷ old)) run clear k below).follow)))
    (listed_all (views_since r jobs carry restarts k (t ∷ newer) (one ∷ old) ++ views_of r jobs carry restarts k (one ∷ old)))
    (first.whole k below) (wholes r jobs carry restarts (t ∷ newer) (one ∷ old) on k below) stands begun_last shut answered in
    omega (arith, all, length_since r jobs carry restarts k (t ∷ newer) (one ∷ old), less)
  where
    stands : (standing (views_since r jobs carry restarts k (t ∷ newer) (one ∷ old) ++ views_of r jobs carry restarts k
        (one ∷ old))).ended ≡ 0 → ⊥
    stands down = let both : 4 ≡ 0 = sym t_four ∙ sym (on.1.up k below)
        ∙ ap (λ (l : List View). (standing l).ended) (views_split r jobs carry restarts k (t ∷ newer) (one ∷ old))
        ∙ down in omega (arith, both)
