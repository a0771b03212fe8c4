-- As long as phase 4 was never commanded, built-in blocks alone were written.
use Rattle.sercos_law_run.proofs.Words.{◌≡◌, ℕ, ◌<◌, ◌≤◌, Bool, true, false, List, [], ◌∷◌, ◌++◌, length, Option, Some, None, refl, sym, ap, ◌∙◌, arith, if◌then◌else◌, same_Some, ◌==◌, Job, Request, Outcome, PlanView, is_built_in, find_block, store_of, RingView, Block, Begun, answers_it, answer_in, with_answer, begun_by, CycleView, Known, Task, known_of, member, tasks_for, AreWaiting, Past, jobs_waiting, Carry, Restarts, with_heard, with_begun, epoch_begun, begun_in, Given, given_by, Heard, View, all_begun, begun_ago, all_entries, all_writes, drive_at, middle, IsRun, IsClear, IsTask, OfReads, OfWrites, Checks3, Lists3, Checks4, Lists4, OfWaiting, AreBegunTasks, start_numbers, behind_mdt, view_of, views_of, IsOpened, runs_exact, cases_Bool, inl, inr, cases_Option, list_all}
use Rattle.sercos_law_run.proofs.Views.Members.{members_count}
use Rattle.sercos_law_run.proofs.Held.AnsweredRuns.{Time, Attribute, is_read_request}
use Rattle.sercos_law_run.proofs.Held.Runs.{small}
use Rattle.sercos_law_run.proofs.Headline.HeadlineRuns.{all_stand, first_store, keeps_all}
use Rattle.sercos_law_run.proofs.Undisturbed.Checks.OwnSet.{AreBuiltIn}
use Rattle.sercos_law_run.proofs.Agenda.WritesDone.{writes_data}
use Rattle.sercos_law_run.proofs.Cited.{begins_tasks}
use Rattle.sercos_law_run.proofs.Undisturbed.Arriving.Small.{first_is}
use Rattle.sercos_law_run.proofs.Held.Agreed.{all_at}
use Rattle.sercos_law_run.proofs.Settings.Givers.{exact_all}
use Rattle.sercos_law_run.proofs.Undisturbed.ChannelsKept.{phase_now}

-- A REQUEST names a built-in block, if it writes at all.
abbrev pub is_built : Request → Bool
is_built (Request.Read i e) = true
is_built (Request.Write i e bytes) = is_built_in i.raw
is_built (Request.Command i) = is_built_in i.raw

abbrev pub AreBuilt : List Begun → Type 0
AreBuilt [] = Unit {0}
AreBuilt (b ∷ begun) = AreBuilt begun × (is_built b.request ≡ true)

pub built_append : (xs ys : List Begun) → AreBuilt xs → AreBuilt ys → AreBuilt (xs ++ ys)
built_append [] ys first second = second
built_append (b ∷ xs) ys first second = (built_append xs ys first.0 second, first.1)

-- what it gives
given_built : (blocks : List Block) (r : Request) → is_built r ≡ true
    → list_all (λ (g : Given). is_built_in g.raw) (given_by blocks r) ≡ true
given_built blocks (Request.Read i e) built = refl
given_built blocks (Request.Write i e bytes) built = elim (cases_Bool (e == 7)) [
  | inl on ↦ elim (cases_Option (find_block i.raw blocks)) [ inl none ↦ rw (on, none) | inr (b, some) ↦ rw (on, some, built) ]
  | inr off ↦ rw off
]
given_built blocks (Request.Command i) built = rw built

-- WHAT A TASK OF THE START-UP NAMES
task_built : (s : Known) (k : ℕ) (by_then : Option PlanView) (waiting : List Task) (outs : List Outcome) (t : Task) → AreWaiting waiting → t.phase ≤ 3 → IsTask s k by_then waiting outs t → is_built t.request ≡ true
task_built s k by_then waiting outs t wait early (OfReads r less got is) =
    ap (λ (x : Task). is_built x.request) is ∙ elim (is_read_request (member s k) (length outs) r got)
    [ Time raw built same ↦ ap is_built same | Attribute i same ↦ ap is_built same ]
task_built s k by_then waiting outs t wait early (OfWrites p i r has less at got is) =
    let (named, bytes, there, number) = writes_data s p k i less in
    ap (λ (x : Task). is_built x.request) is ∙ ap is_built (same_Some r (Request.Write named 7 bytes) (sym got ∙ there))
    ∙ all_at is_built_in start_numbers i named.raw refl number
task_built s k by_then waiting outs t wait early (Checks3 p has at is) = ap (λ (x : Task). is_built x.request) is
task_built s k by_then waiting outs t wait early (Lists3 at failed is) = ap (λ (x : Task). is_built x.request) is
task_built s k by_then waiting outs t wait early (Checks4 at well is) = ap (λ (x : Task). is_built x.request) is
task_built s k by_then waiting outs t wait early (Lists4 at failed is) = ap (λ (x : Task). is_built x.request) is
task_built s k by_then waiting outs t wait early (OfWaiting j at ready got) = absurd (omega (arith, wait j t got, early))

-- THE CHANNEL
heard_built : (o : Option Heard) (begun : List Begun) → AreBuilt begun → AreBuilt (with_heard o begun)
heard_built None begun are = are
heard_built (Some a) begun are = by (answers_it begun a.status) begun are
  where
    by : (v : Bool) (begun : List Begun) → AreBuilt begun → AreBuilt (if v then with_answer (answer_in a.status a.word) begun else begun)
    by true [] are = tt
    by true (b ∷ begun) are = (are.0, are.1)
    by false begun are = are

begun_built : (o : Option Request) (begun : List Begun) → ((r : Request) → o ≡ Some r → is_built r ≡ true) → AreBuilt begun → AreBuilt (with_begun o begun)
begun_built None begun built are = are
begun_built (Some r) begun built are = (are, built r refl)

-- no cycle of these was commanded phase 4
abbrev pub NeverFour : List CycleView → Type 0
NeverFour [] = Unit {0}
NeverFour (t ∷ j) = NeverFour j × (t.phase ≤ 3)

module _ (r : RingView) (jobs : List Job) (carry : Carry) (restarts : Restarts) (opened : IsOpened r jobs) (k : ℕ)
    (below : k < length r.drives) where
  begins_built : (t : CycleView) (j : List CycleView) → IsRun r jobs carry restarts (t ∷ j) → IsClear (t ∷ j) → (behind_mdt r jobs carry restarts t.sent j).now.phase ≤ 3 → (q : Request) → (view_of r jobs carry restarts k t j).begins ≡ Some q → is_built q ≡ true
  begins_built t j run clear early q begins = by (begun_by (p.calls k)) (p.tasks k) refl (begins_tasks (known_of r) (tasks_for (known_of r) jobs) (middle r carry restarts t.sent j) k (omega (arith, members_count r, below)))
    where
      p : Past
      p = behind_mdt r jobs carry restarts t.sent j

      v : View
      v = view_of r jobs carry restarts k t j

      now_is : begun_by (p.calls k) ≡ with_begun v.begins (with_heard v.heard (if v.master_restarts then [] else epoch_begun (views_of r jobs carry restarts k j)))
      now_is = sym ((keeps_all r jobs carry restarts opened t j run clear).exact k below).begun_now

      by : (begun : List Begun) (tasks : List Task) → begun_by (p.calls k) ≡ begun → AreBegunTasks (known_of r) k p.plan (p.waiting k) p.now.phase begun tasks → is_built q ≡ true
      by [] tasks same are =
          let none : [] ≡ with_begun (Some q) (with_heard v.heard (if v.master_restarts then [] else epoch_begun (views_of r jobs carry restarts k j))) =
          sym same ∙ now_is ∙ ap (λ (o : Option Request). with_begun o (with_heard v.heard (if v.master_restarts then [] else epoch_begun (views_of r jobs carry restarts k j)))) begins in absurd (cc)
      by (b ∷ older) [] same are = absurd are
      by (b ∷ older) (u ∷ tasks) same are =
          let head : b ∷ older ≡ with_begun (Some q) (with_heard v.heard (if v.master_restarts then [] else epoch_begun (views_of r jobs carry restarts k j))) =
          sym same ∙ now_is ∙ ap (λ (o : Option Request). with_begun o (with_heard v.heard (if v.master_restarts then [] else epoch_begun (views_of r jobs carry restarts k j)))) begins in
          ap is_built (sym (ap (λ (x : Begun). x.request) (first_is _ _ _ _ head).0) ∙ are.1.asks)
          ∙ task_built (known_of r) k are.1.by_then (p.waiting k) _ u (jobs_waiting (known_of r) jobs (middle r carry restarts t.sent j) k) (omega (arith, are.1.early, early)) are.1.task

  -- all that was begun, in this epoch and before
  abbrev BothBuilt : List CycleView → Type 0
  BothBuilt j = AreBuilt (epoch_begun (views_of r jobs carry restarts k j)) × AreBuilt (begun_ago (views_of r jobs carry restarts k j))

  built_next : (t : CycleView) (j : List CycleView) → IsRun r jobs carry restarts (t ∷ j) → IsClear (t ∷ j) → t.phase ≤ 3 → BothBuilt j → BothBuilt (t ∷ j)
  built_next t j run clear low before =
      let v = view_of r jobs carry restarts k t j in
      let past = views_of r jobs carry restarts k j in
      let now = begun_built v.begins (with_heard v.heard (if v.master_restarts then [] else epoch_begun past))
      (begins_built t j run clear (omega (arith, phase_now r jobs carry restarts t j run.1, low)))
      (heard_built v.heard (if v.master_restarts then [] else epoch_begun past)
      (elim (cases_Bool v.master_restarts) [ inl on ↦ rw on tt | inr off ↦ rw off before.0 ])) in
      let ago : AreBuilt (if v.master_restarts then epoch_begun past ++ begun_ago past else begun_ago past) = let both = built_append
      (epoch_begun past) (begun_ago past) before.0 before.1 in elim (cases_Bool v.master_restarts)
      [ inl on ↦ rw on both | inr off ↦ rw off before.1 ] in (
        (elim (cases_Bool v.falls) [ inl on ↦ rw on tt | inr off ↦ rw off now ]),
        (elim (cases_Bool v.falls) [ inl on ↦ rw on (built_append (begun_in v past) _ now ago) | inr off ↦ rw off ago ]),
      )

  built_so : (j : List CycleView) → IsRun r jobs carry restarts j → IsClear j → NeverFour j → BothBuilt j
  built_so [] run clear never = (tt, tt)
  built_so (t ∷ j) run clear never = built_next t j run clear never.1 (built_so j run.0 clear.0 never.0)

  pub writes_built : (j : List CycleView) → IsRun r jobs carry restarts j → IsClear j → NeverFour j → AreBuiltIn (all_writes (views_of r jobs carry restarts k j))
  writes_built j run clear never =
      let stands = all_stand r jobs carry restarts opened j run clear k below in
      let built = built_so j run clear never in
      exact_all (λ (g : Given). is_built_in g.raw) (store_of (drive_at r k)) AreBuilt
      (λ b past are. (are.0, given_built (store_of (drive_at r k)) b.request are.1))
      (all_begun (views_of r jobs carry restarts k j)) (all_entries (views_of r jobs carry restarts k j)) (all_writes (views_of r jobs carry restarts k j))
      (runs_exact (drive_at r k).busy (store_of (drive_at r k)) (views_of r jobs carry restarts k j) (small r jobs carry restarts opened (first_store r jobs carry restarts opened) k below) stands.sees.run stands.sound)
      (built_append (epoch_begun (views_of r jobs carry restarts k j)) (begun_ago (views_of r jobs carry restarts k j)) built.0 built.1)
