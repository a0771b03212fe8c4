-- In a ring whose plan fits, a check for phase 3 that is set in a cycle ends well.
use Rattle.sercos_law_run.proofs.Words.{◌≡◌, ℕ, ◌+◌, ◌<◌, ◌≤◌, true, List, [], ◌∷◌, map, length, refl, sym, ap, ◌∙◌, subst, arith, ◌==◌, Some, None, slice_get, slice_get-get_or, length-map, Idn, Job, PlanView, IsValid, Fits, Block, find_block, with_data, put_fault, store_of, IsStore, is_ring, wishes_of, blocks_fault, DriveView, RingView, Begun, begun_by, CycleView, member, member_of, known_of, tasks_for, reads_count, writes, AreWaiting, all_waiting, Past, Carry, Restarts, IsStoreOf, Holds, start_up, IsProtectedLater, AreProtectedLater, AreStoredWhole, View, command, epoch_begun, AreSound, AreSmall, store_in, drive_at, master_calls, looks_back, AreBegunTasks, IsConfigured, IsWrittenLast, view_of, views_of, SetsWell, written_stays, Request}
use Rattle.sercos_law_run.specs.Start.Held.{written_by}
use Rattle.sercos_law_run.proofs.Start.CheckPasses.{ring_drive}
use Rattle.sercos_law_run.proofs.Views.ViewRuns.{Sees}
use Rattle.sercos_law_run.proofs.Settings.Givers.{IsGiven, check_begun}
use Rattle.sercos_law_run.proofs.Settings.SetInTwo.{set_in}
use Rattle.sercos_law_run.proofs.Settings.HoldsStart.{holds_start}
use Rattle.sercos_law_run.proofs.Cited.{begins_tasks, configures_check}
use Rattle.sercos_law_run.proofs.Start.CheckPasses.{plan_passes_check}
use Rattle.sercos_law_run.proofs.Start.HeldLemmas.{writes_start_up}
use Rattle.sercos_law_run.proofs.Start.KeptLemmas.{writes_keep}
use Rattle.sercos_law_run.proofs.Start.LaterLemmas.{checks_are_protected, start_up_is_protected, stay_held, stores_start_up_whole}

module _ (r : RingView) (jobs : List Job) (carry : Carry) (restarts : Restarts) (valid : is_ring r ≡ true) (wishes : IsValid (wishes_of r))
    (waits : (i : ℕ) → AreWaiting (tasks_for (known_of r) jobs i)) (k : ℕ) (below : k < length r.drives)
    (small : AreSmall (store_of (drive_at r k))) (t : CycleView) (j : List CycleView) (sees : Sees r jobs carry restarts k j)
    (after : Sees r jobs carry restarts k (t ∷ j)) (sound : AreSound (store_of (drive_at r k)) (views_of r jobs carry restarts k (t ∷ j)))
    (store : IsStore (view_of r jobs carry restarts k t j).blocks)
    (is_of : IsStoreOf (drive_at r k) (view_of r jobs carry restarts k t j).blocks)
    (blocks_are : (view_of r jobs carry restarts k t j).blocks ≡ store_in (store_of (drive_at r k)) (views_of r jobs carry restarts k j))
    (fits : (plan : PlanView) → (looks_back r jobs (master_calls r carry restarts j)).plan ≡ Some plan → Fits (wishes_of r) plan) where
  abbrev d : DriveView
  d = drive_at r k

  abbrev v : View
  v = view_of r jobs carry restarts k t j

  abbrev past : List View
  past = views_of r jobs carry restarts k j

  abbrev p : Past
  p = looks_back r jobs (master_calls r carry restarts j)

  there : slice_get r.drives k ≡ Some d
  there = slice_get-get_or r.drives k _ below

  place : k < length (known_of r).drives
  place = subst (λ (n : ℕ). k < n) (sym (length-map r.drives member_of)) below

  rules : blocks_fault [] d.blocks ≡ None
  rules = (ring_drive r k d valid there).blocks

  -- if the check has been begun, the store holds the start-up values
  holds_plan : command past ≡ 2 → reads_count (member (known_of r) k) + 11 < length (epoch_begun past) → (plan : PlanView) × (p.plan ≡ Some plan) × Holds v.blocks (start_up r.control r.cycle plan k d.at d.mdt)
  holds_plan two many =
      let late : p.now.phase ≤ 3 = omega (arith, sees.master.phase_is, two) in
      let same : begun_by (p.calls k) ≡ epoch_begun past = sees.master.begun_are in
      let c : IsConfigured (known_of r) k (store_of d) p.plan (begun_by (p.calls k)) = configures_check (known_of r) (tasks_for (known_of r) jobs) (master_calls r carry restarts j) k (store_of d) waits place late
      (subst (λ (l : List Begun). reads_count (member (known_of r) k) + 11 < length l) (sym same) many) in
      let values : map written_by (writes (known_of r) c.plan k) ≡ start_up r.control r.cycle c.plan k d.at d.mdt = writes_start_up r c.plan k d valid wishes (fits c.plan c.plan_is) there in
      let own : Holds (store_in (store_of d) past) (map written_by (writes (known_of r) c.plan k)) = holds_start d.busy
      (written_stays d.busy) (known_of r) c.plan k (store_of d) small
      (subst (AreProtectedLater (store_of d)) (sym values) (start_up_is_protected d (store_of d) r.control r.cycle k c.plan rules refl))
      (subst (AreStoredWhole (store_of d)) (sym values) (stores_start_up_whole d (store_of d) r.control r.cycle k c.plan rules refl)) past
      sees.run sound.0
      (subst (λ (l : List Begun). (i : ℕ) (idn : Idn) (bytes : List ℕ) → slice_get (writes (known_of r) c.plan k) i ≡ Some (Request.Write idn 7 bytes) → IsWrittenLast (store_of d) l idn bytes) same c.each) in (
        c.plan,
        c.plan_is,
        subst (λ (l : List (ℕ × List ℕ)). Holds v.blocks l) values (subst (λ (l : List Block). Holds l (map written_by (writes (known_of r) c.plan k))) (sym blocks_are) own),
      )

  -- THE CHECK FOR PHASE 3 that is set in the cycle finds nothing
  pub sets_well : SetsWell v past
  sets_well w is raw sets =
      let guard = subst (IsProtectedLater v.blocks) (sym raw) (checks_are_protected d v.blocks rules is_of).0 in
      let at = set_in d.busy (store_of d) small v past after.run sound w guard is in
      let tasks : AreBegunTasks (known_of r) k p.plan (p.waiting k) p.now.phase (epoch_begun past) (p.tasks k) = subst (λ (l : List Begun). AreBegunTasks (known_of r) k p.plan (p.waiting k) p.now.phase l (p.tasks k)) sees.master.begun_are
      (begins_tasks (known_of r) (tasks_for (known_of r) jobs) (master_calls r carry restarts j) k place) in
      let low : p.now.phase ≤ 2 = omega (arith, sees.master.phase_is, at.two) in
      let many = check_begun (known_of r) k (store_of d) p.plan (p.waiting k) p.now.phase low (all_waiting (known_of r) (tasks_for (known_of r) jobs) (master_calls r carry restarts j) waits k) (epoch_begun past) (p.tasks k) tasks
      (subst (IsGiven (store_of d) (epoch_begun past)) raw at.given) in
      let (plan, has, holds) = holds_plan at.two many in
      let kept : IsStoreOf d (with_data 127 w.bytes v.blocks) = (writes_keep d v.blocks 127 at.phase w.bytes store.ascending is_of).0 (ap (λ (n : ℕ). put_fault (find_block n v.blocks) at.phase w.bytes) (sym raw) ∙ at.none) in
      (ap (λ (l : List Idn). length l == 0) (plan_passes_check r plan k d (with_data 127 w.bytes v.blocks) valid wishes (fits plan has)
      there kept (stay_held v.blocks 127 w.bytes (start_up r.control r.cycle plan k d.at d.mdt)
      (refl, (refl, (refl, (refl, (refl, (refl, (refl, (refl, (refl, (refl, (refl, tt))))))))))) holds)))
