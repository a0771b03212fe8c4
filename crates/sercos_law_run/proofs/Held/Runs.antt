-- Through a run of a ring in which nothing is unseen: each drive and its channel are a run of views, the requests are sound, and in
-- phases 3 and 4 each drive holds the plan.
use Rattle.sercos_law_run.proofs.Words.{◌≡◌, ℕ, ◌+◌, ◌<◌, ◌≤◌, Bool, true, false, not, ◌&&◌, List, [], ◌∷◌, map, length, Option, Some, None, refl, sym, ◌∙◌, ap, ap₂, subst, arith, same_Some, slice_get, slice_index_or, IfSome, option_map, Attribute, Request, Outcome, Job, WishesView, PlanView, Block, is_fixed, wishes_of, blocks_fault, IsStore, store_of, DriveView, RingView, AreAlike, without_data, open_in, begun_by, DriveCall, phase_in, blocks_in, annals, CycleView, reads, wishes_given, outcomes_in, MemberView, Task, member, member_of, known_of, tasks_for, IsKnown, IsStoreOf, is_given, kept, start_up, Holds, AreAnswers, HaveFactors, AreProtectedLater, Past, IsPlanned, outcomes, settled, is_done, tasks_wait, jobs_waiting, Carry, Restarts, standing, before_mst, kept_in, with_begun, begun_in, all_writes, IsSound, AreSound, AreSmall, store_in, ats_in, no_drive, drive_at, with_restart, given_before, master_calls, looks_back, middle, IsNext, HasBegunTasks, start_numbers, at_start, behind_mst, behind_ats, behind_mdt, heard_last, request_of, after_mst, view_of, views_of, IsSpelled, AreProtected, HoldsThePlan, IsStored, AreStored, IsOpened, IsRing-is_ring, types, is_planned, get_or_from_slice_get, slice_get-get_or, slice_get_within, cases_Bool, inl, inr, task_begun, is_ring}
use Rattle.sercos_law_run.proofs.Start.CheckPasses.{ring_drive}
use Rattle.sercos_law_run.proofs.Views.MasterSame.{AfterAts, ats_none, begun_cycle, begun_so, heard_so, same_started, turn_mdt}
use Rattle.sercos_law_run.proofs.Views.Members.{AreHeardAs, member_is, in_known}
use Rattle.sercos_law_run.proofs.Views.Coupled.{ats_heard}
use Rattle.sercos_law_run.proofs.Views.Received.{Agrees}
use Rattle.sercos_law_run.proofs.Views.ViewRuns.{Sees, sees_first, sees_next, started, at_mst, behind}
use Rattle.sercos_law_run.proofs.Views.DriveSame.{IsSame, standing_at}
use Rattle.sercos_law_run.proofs.Typed.Plans.{ring_known, ring_timed, all_members}
use Rattle.sercos_law_run.proofs.Typed.Steps.{AreBegun}
use Rattle.sercos_law_run.proofs.Typed.Begun.{tasks_so, IsTypedPast, typed_past}
use Rattle.sercos_law_run.proofs.Held.HoldsRuns.{holds_next, holds_first}
use Rattle.sercos_law_run.proofs.Held.PlanStays.{plan_kept}
use Rattle.sercos_law_run.proofs.Held.AnsweredRuns.{reads_answered}
use Rattle.sercos_law_run.proofs.Held.Rests.{rests_so}
use Rattle.sercos_law_run.proofs.Held.Planned.{IsPlanOf, plan_of}
use Rattle.sercos_law_run.proofs.Held.Sound.{newest_sound, got_behind}
use Rattle.sercos_law_run.proofs.Held.Agreed.{agrees_so, held_holds}
use Rattle.sercos_law_run.proofs.Held.Extended.{Extends, heard_more, begun_same, answers_stay}
use Rattle.sercos_law_run.proofs.Cited.{begins_tasks, left_of}
use Rattle.sercos_law_run.proofs.Start.AnswerLemmas.{asks_as_ring, typed_have_factors}
use Rattle.sercos_law_run.proofs.Start.LaterLemmas.{start_up_is_protected}

-- a plan of zeros
abbrev no_plan : PlanView
no_plan = record { t1 = []; t2 = 0; t3 = 0; t4 = 0; position = []; mdt_len = 0 }

-- what is known of the drive at a place
pub record Stands (r : RingView) (jobs : List Job) (carry : Carry) (restarts : Restarts) (j : List CycleView) (k : ℕ) : Type 0 where
  pub sees : Sees r jobs carry restarts k j
  pub sound : AreSound (store_of (drive_at r k)) (views_of r jobs carry restarts k j)
  pub stored : AreStored (drive_at r k) (views_of r jobs carry restarts k j)
  pub holds : HoldsThePlan (known_of r) k (store_of (drive_at r k)) (looks_back r jobs (master_calls r carry restarts j)) (all_writes (views_of r jobs carry restarts k j))

abbrev pub AllStand : RingView → List Job → Carry → Restarts → List CycleView → Type 0
AllStand r jobs carry restarts j = (k : ℕ) → k < length r.drives → Stands r jobs carry restarts j k

pub all_first : (r : RingView) (jobs : List Job) (carry : Carry) (restarts : Restarts) → AllStand r jobs carry restarts []
all_first r jobs carry restarts k below = record { sees = sees_first r jobs carry restarts k; sound = tt; stored = tt; holds = holds_first r jobs k (store_of (drive_at r k)) [] }

-- the drive at a place, in both ways of saying it
pub drive_got : (r : RingView) (k : ℕ) → k < length r.drives → slice_get r.drives k ≡ Some (drive_at r k)
drive_got r k below = slice_get-get_or r.drives k no_drive below

pub drive_rules : (r : RingView) (k : ℕ) → is_ring r ≡ true → k < length r.drives → blocks_fault [] (drive_at r k).blocks ≡ None
drive_rules r k valid below = (ring_drive r k (drive_at r k) valid (drive_got r k below)).blocks

pub got_inside : (drives : List DriveView) (k : ℕ) (d : DriveView) → slice_get drives k ≡ Some d → (k < length drives) × (d ≡ slice_index_or drives k no_drive)
got_inside drives k d got = (slice_get_within drives k d got, sym (get_or_from_slice_get drives k d no_drive got))

-- what no write changes has all but the operation data
alike_kept : (blocks : List Block) → map without_data (map kept blocks) ≡ map without_data blocks
alike_kept [] = refl
alike_kept (b ∷ blocks) = ap₂ (λ (x : Block) (l : List Block). x ∷ l) (elim (cases_Bool (is_fixed b && not (is_given b.idn.raw))) [
  | inl on ↦ rw on
  | inr off ↦ rw off
]) (alike_kept blocks)

pub alike_so : (d : DriveView) (blocks : List Block) → IsStoreOf d blocks → AreAlike blocks (store_of d)
alike_so d blocks stored = sym (alike_kept blocks) ∙ ap (map without_data) stored ∙ alike_kept (store_of d)

-- the start-up's blocks are protected in phases 3 and 4
guarded_so : (blocks : List Block) (values : List (ℕ × List ℕ)) → AreProtectedLater blocks values → AreProtected blocks (map (λ (v : ℕ × List ℕ). v.0) values)
guarded_so blocks [] are = tt
guarded_so blocks (v ∷ values) are = (
  λ b found. (let same : b.attribute ≡ are.0.0 = same_Some _ _
      (sym (ap (option_map (λ (x : Block). x.attribute)) found) ∙ are.0.1) in
      (ap (λ (c : Attribute). c.protect3) same ∙ are.0.3, ap (λ (c : Attribute). c.protect4) same ∙ are.0.4)),
  guarded_so blocks values are.1,
)

-- the drive's blocks are those of the cycle before
blocks_then : (d : DriveView) (rate : ℕ) (b : Bool) (h : List DriveCall) → blocks_in d (annals d rate (with_restart b h)) ≡ blocks_in d (annals d rate h)
blocks_then d rate true h = refl
blocks_then d rate false h = refl

-- In a cycle commanded 3 or 4 the plan is that of the ring, and the drives have answered.
pub record IsPlannedIn (r : RingView) (jobs : List Job) (carry : Carry) (restarts : Restarts) (t : CycleView) (j : List CycleView) (plan : PlanView) : Type 0 where
  pub before : (looks_back r jobs (master_calls r carry restarts j)).plan ≡ Some plan
  pub now : (behind_mdt r jobs carry restarts t.sent j).plan ≡ Some plan
  pub asked : wishes_given (known_of r) (outcomes (behind_mdt r jobs carry restarts t.sent j)) ≡ wishes_of r
  pub of : IsPlanOf (wishes_of r) plan

module _ (r : RingView) (jobs : List Job) (carry : Carry) (restarts : Restarts) (opened : IsOpened r jobs)
    (first : (k : ℕ) → k < length r.drives → IsStore (store_of (drive_at r k))) where
  pub s_known : IsKnown (known_of r)
  s_known = ring_known IsRing-is_ring r opened.valid opened.typed

  -- THE PLAN is that of the ring, if all drives have answered
  pub plan_is : (p : Past) (plan : PlanView) → IsPlanned (known_of r) p → p.plan ≡ Some plan → wishes_given (known_of r) (outcomes p) ≡ wishes_of r → IsPlanOf (wishes_of r) plan
  plan_is p plan planned has same = subst (λ (w : WishesView). IsPlanOf w plan) same (plan_of (known_of r) p plan s_known planned has)

  pub wishes_so : (outs : ℕ → List Outcome) → ((k : ℕ) → k < length r.drives → AreAnswers (drive_at r k) (reads (member_of (drive_at r k))) (outs k)) → wishes_given (known_of r) outs ≡ wishes_of r
  wishes_so outs answers = asks_as_ring r outs opened.valid (λ k d got.
      let (low, same) = got_inside r.drives k d got in
      subst (λ (x : DriveView). HaveFactors x × AreAnswers x (reads (member_of x)) (outs k)) (sym same) (typed_have_factors (drive_at r k) (opened.typed k low).blocks, answers k low))

  pub small : (k : ℕ) → k < length r.drives → AreSmall (store_of (drive_at r k))
  small k below raw b found = (types (store_of (drive_at r k)) raw b (first k below) found).0

  -- at the end of a journal
  pub answers_at : (j : List CycleView) (plan : PlanView) → AllStand r jobs carry restarts j → (looks_back r jobs (master_calls r carry restarts j)).plan ≡ Some plan
      → (k : ℕ) → k < length r.drives → AreAnswers (drive_at r k) (reads (member_of (drive_at r k))) (outcomes (looks_back r jobs (master_calls r carry restarts j)) k)
  answers_at j plan all has k below =
      let stands = all k below in
      let rules = drive_rules r k opened.valid below in
      subst (λ (m : MemberView). AreAnswers (drive_at r k) (reads m) (outcomes (looks_back r jobs (master_calls r carry restarts j)) k)) (member_is r k)
      (reads_answered r jobs carry restarts k j (store_of (drive_at r k)) plan (in_known r k below) (small k below) rules stands.sees stands.sound stands.stored has)

  -- A CYCLE
  module _ (t : CycleView) (j : List CycleView) (next : IsNext r jobs carry restarts t j) (clear : t.unseen ≡ 0)
      (spelled : IsSpelled r jobs carry restarts t j)
      (stored : (k : ℕ) → k < length r.drives → IsStored (drive_at r k) (blocks_in (drive_at r k) (after_mst r carry restarts t.sent j k)))
      (all : AllStand r jobs carry restarts j) where
    at_first : at_start r jobs carry restarts j ≡ begun_cycle (restarts (length j) 0) (looks_back r jobs (master_calls r carry restarts j))
    at_first = started r jobs (restarts (length j) 0) (master_calls r carry restarts j)

    -- in phase 3 or 4 the master hasn't restarted
    kept_on : 3 ≤ (at_start r jobs carry restarts j).now.phase → at_start r jobs carry restarts j ≡ looks_back r jobs (master_calls r carry restarts j)
    kept_on late = at_first ∙ (elim (cases_Bool (restarts (length j) 0)) [
      | inl on ↦ absurd (omega (arith, (rw on at (subst (λ (p : Past). 3 ≤ p.now.phase) at_first late))))
      | inr off ↦ rw off
    ])

    -- what a cycle leaves at the MDT's place
    passed_by : (k : ℕ) → AfterAts (known_of r) k (λ content. Unit {0}) (behind_mst r jobs carry restarts t.sent j) (behind_ats r jobs carry restarts t.sent j)
    passed_by k = ats_heard r jobs carry (length j) k (λ content. Unit {0}) (behind_mst r jobs carry restarts t.sent j) (ats_in t.sent) _ (ats_none (known_of r) k (λ content. Unit {0}) (behind_mst r jobs carry restarts t.sent j)) (any (ats_in t.sent))
      where
        any : (ats : List (List ℕ)) → AreHeardAs (λ content. Unit {0}) r carry (length j) ats
        any [] = tt
        any (at ∷ ats) = (λ content came. tt, any ats)

    pub phase_same : (behind_mdt r jobs carry restarts t.sent j).now.phase ≡ (at_start r jobs carry restarts j).now.phase
    phase_same = (turn_mdt (known_of r) (behind_ats r jobs carry restarts t.sent j)).phase_is ∙ (passed_by 0).phase_is

    unheard : (k : ℕ) → k < length r.drives → heard_last ((at_start r jobs carry restarts j).calls k) ≡ None
    unheard k below = subst (λ (p : Past). heard_last (p.calls k) ≡ None) (sym at_first)
        (same_started (restarts (length j) 0) (looks_back r jobs (master_calls r carry restarts j)) k _ _ _ (all k below).sees.master).unheard

    extends : (k : ℕ) → k < length r.drives → Extends (outcomes (at_start r jobs carry restarts j) k) (outcomes (behind_mdt r jobs carry restarts t.sent j) k)
    extends k below =
        let (o, is) = heard_more (heard_last ((behind_ats r jobs carry restarts t.sent j).calls k)) (begun_by ((behind_mst r jobs carry restarts t.sent j).calls k)) in (
          o,
          ap outcomes_in (begun_so (known_of r) (behind_ats r jobs carry restarts t.sent j) k) ∙ begun_same (request_of (task_begun (known_of r) (settled (known_of r) (behind_ats r jobs carry restarts t.sent j)) k)) (begun_by ((behind_ats r jobs carry restarts t.sent j).calls k))
              ∙ ap outcomes_in (heard_so (known_of r) k (λ content. Unit {0}) (behind_mst r jobs carry restarts t.sent j) (behind_ats r jobs carry restarts t.sent j) (passed_by k) (unheard k below)) ∙ is,
        )

    -- what the drive's store is at the MDT's place
    pub store_is : (k : ℕ) → k < length r.drives → blocks_in (drive_at r k) (after_mst r carry restarts t.sent j k) ≡ store_in (store_of (drive_at r k)) (views_of r jobs carry restarts k j)
    store_is k below = blocks_then (drive_at r k) r.rate (restarts (length j) (k + 1)) (given_before carry restarts j k) ∙ (all k below).sees.drive.blocks

    pub rules : (k : ℕ) → k < length r.drives → blocks_fault [] (drive_at r k).blocks ≡ None
    rules k below = drive_rules r k opened.valid below

    -- If phase 3 or 4 is commanded, there is a plan, which is that of the ring, and the store of each drive holds its values.
    pub holding : 3 ≤ (at_start r jobs carry restarts j).now.phase → (k : ℕ) → k < length r.drives → (plan : PlanView) × IsPlannedIn r jobs carry restarts t j plan
        × Holds (blocks_in (drive_at r k) (after_mst r carry restarts t.sent j k)) (start_up r.control r.cycle plan k (drive_at r k).at (drive_at r k).mdt)
    holding late k below =
        let (plan, has, own) = (all k below).holds (subst (λ (p : Past). 3 ≤ p.now.phase) (kept_on late) late) in
        let planned : IsPlannedIn r jobs carry restarts t j plan = let p4 = behind_mdt r jobs carry restarts t.sent j in
        let more : (k : ℕ) → k < length r.drives → Extends (outcomes (looks_back r jobs (master_calls r carry restarts j)) k)
        (outcomes p4 k) =
        λ k below. subst (λ (p : Past). Extends (outcomes p k) (outcomes p4 k)) (kept_on late) (extends k below) in
        let asked : wishes_given (known_of r) (outcomes p4) ≡ wishes_of r = wishes_so (outcomes p4) (λ k below.
        answers_stay (drive_at r k) (reads (member_of (drive_at r k))) _ (outcomes p4 k) (more k below)
        (answers_at j plan all has k below)) in
        let now : p4.plan ≡ Some plan = plan_kept r jobs carry restarts t j plan (omega (arith, late)) has in
        record {
          before = has;
          now = now;
          asked = asked;
          of = plan_is p4 plan
              (is_planned (known_of r) (tasks_for (known_of r) jobs) (middle r carry restarts t.sent j)) now asked;
        } in (
          plan,
          planned,
          subst (λ (b : List Block). Holds b (start_up r.control r.cycle plan k (drive_at r k).at (drive_at r k).mdt)) (sym (store_is k below))
              (held_holds r plan k (drive_at r k) (views_of r jobs carry restarts k j) opened.valid planned.of.valid planned.of.least.fits (drive_got r k below) (rules k below) own),
        )

    pub agrees : (k : ℕ) → k < length r.drives → (plan : PlanView) → 3 ≤ (behind_mdt r jobs carry restarts t.sent j).now.phase → 3 ≤ phase_in (after_mst r carry restarts t.sent j k) → (behind_mdt r jobs carry restarts t.sent j).plan ≡ Some plan
        → Agrees (known_of r) (behind_mdt r jobs carry restarts t.sent j) k (blocks_in (drive_at r k) (after_mst r carry restarts t.sent j k))
    agrees k below plan late stands has =
        let (made, planned, holds) = holding (subst (λ n. 3 ≤ n) phase_same late) k below in
        agrees_so r (behind_mdt r jobs carry restarts t.sent j) made k (drive_at r k)
        (blocks_in (drive_at r k) (after_mst r carry restarts t.sent j k)) planned.of.valid planned.of.least.fits below
        (drive_got r k below) (rules k below) (stored k below).1 holds planned.asked

    -- the requests that begin
    tasks_then : (k : ℕ) → k < length r.drives → HasBegunTasks (known_of r) (behind_mdt r jobs carry restarts t.sent j) k
    tasks_then k below = begins_tasks (known_of r) (tasks_for (known_of r) jobs) (middle r carry restarts t.sent j) k (in_known r k below)

    -- and they are typed
    typed_then : IsTypedPast (behind_mdt r jobs carry restarts t.sent j)
    typed_then = typed_past (known_of r) s_known (ring_timed r s_known opened.valid) (λ k. all_members r k opened.valid opened.typed) (tasks_for (known_of r) jobs) (λ h. is_planned (known_of r) (tasks_for (known_of r) jobs) h)
        (λ k. tasks_so (known_of r) jobs k opened.jobs_typed) (middle r carry restarts t.sent j)

    waits_sound : (k : ℕ) → k < length r.drives → (i : ℕ) (x : Task) → slice_get ((behind_mdt r jobs carry restarts t.sent j).waiting k) i ≡ Some x → IsSound (store_of (drive_at r k)) x.request
    waits_sound k below i x got =
        let (n, is) = left_of (known_of r) jobs (middle r carry restarts t.sent j) k in
        let (m, there) = got_behind (tasks_for (known_of r) jobs k) n i x (ap (λ (l : List Task). slice_get l i) (sym is) ∙ got) in
        opened.requests k m x below there

    begins_sound : (k : ℕ) → k < length r.drives → IfSome (request_of (task_begun (known_of r) (settled (known_of r) (behind_ats r jobs carry restarts t.sent j)) k)) (λ q. IsSound (store_of (drive_at r k)) q)
    begins_sound k below =
        let p4 = behind_mdt r jobs carry restarts t.sent j in
        by (request_of (task_begun (known_of r) (settled (known_of r) (behind_ats r jobs carry restarts t.sent j)) k)) (begun_so (known_of r) (behind_ats r jobs carry restarts t.sent j) k)
      where
        by : (o : Option Request) → begun_by ((behind_mdt r jobs carry restarts t.sent j).calls k) ≡ with_begun o (begun_by ((behind_ats r jobs carry restarts t.sent j).calls k)) → IfSome o (λ q. IsSound (store_of (drive_at r k)) q)
        by None is = tt
        by (Some q) is = newest_sound (known_of r) k (behind_mdt r jobs carry restarts t.sent j).now.phase
            (behind_mdt r jobs carry restarts t.sent j).plan ((behind_mdt r jobs carry restarts t.sent j).waiting k) (drive_at r k)
            (begun_by ((behind_mdt r jobs carry restarts t.sent j).calls k)) ((behind_mdt r jobs carry restarts t.sent j).tasks k)
            (rules k below) (waits_sound k below) (tasks_then k below) (record { request = q; answers = [] })
            (begun_by ((behind_ats r jobs carry restarts t.sent j).calls k)) is (subst AreBegun is (typed_then.begun k)).0

    pub rests : (k : ℕ) → k < length r.drives → is_done (known_of r) (behind_mdt r jobs carry restarts t.sent j) ≡ true → open_in (begun_by ((behind_mdt r jobs carry restarts t.sent j).calls k)) ≡ None
    rests k below = rests_so (known_of r) (behind_mdt r jobs carry restarts t.sent j) k (in_known r k below) (jobs_waiting (known_of r) jobs (middle r carry restarts t.sent j) k) (tasks_then k below)

    -- what the drive keeps after the MST's place
    pub kept_at_mst : (k : ℕ) → k < length r.drives → IsSame (drive_at r k) (after_mst r carry restarts t.sent j k)
        (standing_at (view_of r jobs carry restarts k t j) (before_mst (view_of r jobs carry restarts k t j) (standing (views_of r jobs carry restarts k j)))) (kept_in (view_of r jobs carry restarts k t j) (views_of r jobs carry restarts k j))
        (all_writes (views_of r jobs carry restarts k j)) (store_in (store_of (drive_at r k)) (views_of r jobs carry restarts k j))
    kept_at_mst k below = at_mst r jobs carry restarts opened.valid t j next clear spelled k below (all k below).sees (agrees k below) (rests k below)

    -- what the channel has begun when the MDT is sent
    pub begun_then : (k : ℕ) → k < length r.drives → begun_by ((behind_mdt r jobs carry restarts t.sent j).calls k) ≡ begun_in (view_of r jobs carry restarts k t j) (views_of r jobs carry restarts k j)
    begun_then k below = (behind r jobs carry restarts opened.valid t j next clear spelled k below (all k below).sees (agrees k below) (rests k below)).begun_are

    -- THE NEXT CYCLE
    pub all_next : AllStand r jobs carry restarts (t ∷ j)
    all_next k below =
        let before = all k below in
        let sees = sees_next r jobs carry restarts opened.valid t j next clear spelled k below before.sees (agrees k below) (rests k below) in
        let sound : AreSound (store_of (drive_at r k)) (views_of r jobs carry restarts k (t ∷ j)) = (before.sound, (alike_so (drive_at r k) _ (stored k below).1, begins_sound k below)) in
        let guard : AreProtected (store_of (drive_at r k)) start_numbers = guarded_so (store_of (drive_at r k)) (start_up 0 0 no_plan k (drive_at r k).at (drive_at r k).mdt)
        (start_up_is_protected (drive_at r k) (store_of (drive_at r k)) 0 0 k no_plan (rules k below) refl) in
        record {
          sees = sees;
          sound = sound;
          stored = (before.stored, stored k below);
          holds = holds_next r jobs carry restarts (λ i. tasks_wait (member (known_of r) i).address 1 jobs) k (in_known r k below)
              (store_of (drive_at r k)) (small k below) guard t j next before.sees sees sound before.holds;
        }
