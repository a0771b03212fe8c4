-- If phase 3 or 4 is commanded next, the newest writes of a drive are those of the plan.
use Rattle.sercos_law_run.proofs.Words.{◌≡◌, inl, inr, ℕ, zero, suc, ◌+◌, ◌<◌, ◌≤◌, Bool, true, false, List, [], ◌∷◌, length, Some, refl, sym, ap, ◌∙◌, subst, arith, if◌then◌else◌, slice_get, cases_eq, nat_tests, same_Some, slice_get_within, Idn, Request, Job, PlanView, Block, is_protected, find_block, RingView, Write, begun_by, CycleView, writes, Known, known_of, tasks_for, AreWaiting, configured, Carry, Restarts, View, command, all_writes, AreSound, AreSmall, drive_at, master_calls, looks_back, IsNext, start_numbers, IsConfigured, at_start, behind_mdt, view_of, views_of, AreHeld, AreProtected, HoldsThePlan, IsHeld, written_stays, stays_protected}
use Rattle.sercos_law_run.proofs.Views.ViewRuns.{Sees, command_below}
use Rattle.sercos_law_run.proofs.Held.PlanStays.{end_plan, plan_kept}
use Rattle.sercos_law_run.proofs.Agenda.WritesDone.{writes_data}
use Rattle.sercos_law_run.proofs.Cited.{configures_rise}

-- each of some requests, by its place
pub held_by : (blocks : List Block) (own : List Write) (requests : List Request) → ((i : ℕ) (r : Request) → slice_get requests i ≡ Some r → IsHeld blocks own r) → AreHeld blocks own requests
held_by blocks own [] each = tt
held_by blocks own (r ∷ requests) each = (each 0 r refl, held_by blocks own requests (λ i x got. each (suc i) x got))

pub held_at : (blocks : List Block) (own : List Write) (requests : List Request) (i : ℕ) (r : Request) → AreHeld blocks own requests → slice_get requests i ≡ Some r → IsHeld blocks own r
held_at blocks own [] i r held got = absurd (cc)
held_at blocks own (x ∷ requests) zero r held got = let same : x ≡ r = cc in subst (λ (y : Request). IsHeld blocks own y) same held.0
held_at blocks own (x ∷ requests) (suc i) r held got = held_at blocks own requests i r held.1 got

protected_at : (blocks : List Block) (numbers : List ℕ) (i raw : ℕ) → AreProtected blocks numbers → slice_get numbers i ≡ Some raw → (b : Block) → find_block raw blocks ≡ Some b → (is_protected b.attribute 3 ≡ true) × (is_protected b.attribute 4 ≡ true)
protected_at blocks [] i raw are got b found = absurd (cc)
protected_at blocks (n ∷ numbers) zero raw are got b found = let same : n ≡ raw = cc in are.0 b (ap (λ (x : ℕ). find_block x blocks) same ∙ found)
protected_at blocks (n ∷ numbers) (suc i) raw are got b found = protected_at blocks numbers i raw are.1 got b found

each_write : (s : Known) (plan : PlanView) (k : ℕ) (blocks : List Block) (own : List Write) → ((i : ℕ) (w : Idn) (bytes : List ℕ)
    → slice_get (writes s plan k) i ≡ Some (Request.Write w 7 bytes) → slice_get start_numbers i ≡ Some w.raw
    → IsHeld blocks own (Request.Write w 7 bytes)) → AreHeld blocks own (writes s plan k)
each_write s plan k blocks own each = held_by blocks own (writes s plan k) one
  where
    one : (i : ℕ) (r : Request) → slice_get (writes s plan k) i ≡ Some r → IsHeld blocks own r
    one i r got =
        let long : length (writes s plan k) ≡ 11 = refl in
        let (w, bytes, there, number) = writes_data s plan k i (omega (arith, slice_get_within (writes s plan k) i r got, long)) in
        subst (λ (x : Request). IsHeld blocks own x) (same_Some (Request.Write w 7 bytes) r (sym there ∙ got)) (each i w bytes there number)

module _ (r : RingView) (jobs : List Job) (carry : Carry) (restarts : Restarts)
    (waits : (i : ℕ) → AreWaiting (tasks_for (known_of r) jobs i)) (k : ℕ) (below : k < length (known_of r).drives) (blocks : List Block)
    (small : AreSmall blocks) (guarded : AreProtected blocks start_numbers) where
  -- where phase 3 is commanded next
  rises_held : (j : List CycleView) → Sees r jobs carry restarts k j → AreSound blocks (views_of r jobs carry restarts k j) → (looks_back r jobs (master_calls r carry restarts j)).now.phase ≡ 3
      → HoldsThePlan (known_of r) k blocks (looks_back r jobs (master_calls r carry restarts j)) (all_writes (views_of r jobs carry restarts k j))
  rises_held j sees sound three late =
      let p = looks_back r jobs (master_calls r carry restarts j) in
      let done = configured (known_of r) (tasks_for (known_of r) jobs) (master_calls r carry restarts j) k below (grind (arith, nat_tests, late)) in
      let c : IsConfigured (known_of r) k blocks p.plan (begun_by (p.calls k)) = configures_rise (known_of r) (tasks_for (known_of r) jobs) (master_calls r carry restarts j) k blocks waits below (omega (arith, three)) done in (
        c.plan,
        c.plan_is,
        each_write (known_of r) c.plan k blocks (all_writes (views_of r jobs carry restarts k j)) (λ i w bytes got number b found.
            let at = c.each i w bytes got in
            written_stays (drive_at r k).busy blocks (views_of r jobs carry restarts k j) at.newer at.older at.one w bytes at.whole b small sees.run sound (sym sees.master.begun_are ∙ at.split) at.asks at.complete found at.away),
      )

  -- a cycle commanded 3 or 4
  cycle_held : (v : View) (past : List View) (plan : PlanView) → AreSound blocks (v ∷ past) → 3 ≤ v.phase → v.phase ≤ 4 → AreHeld blocks (all_writes past) (writes (known_of r) plan k) → AreHeld blocks (all_writes (v ∷ past)) (writes (known_of r) plan k)
  cycle_held v past plan sound low high held = each_write (known_of r) plan k blocks (all_writes (v ∷ past)) (λ i w bytes got number b found.
      stays_protected blocks v past w.raw b found sound.1.0 (guard b (protected_at blocks start_numbers i w.raw guarded number b found)) ∙ held_at blocks (all_writes past) (writes (known_of r) plan k) i (Request.Write w 7 bytes) held got b found)
    where
      guard : (b : Block) → (is_protected b.attribute 3 ≡ true) × (is_protected b.attribute 4 ≡ true) → is_protected b.attribute v.phase ≡ true
      guard b both = elim (cases_eq v.phase 3) [
        | inl three ↦ ap (is_protected b.attribute) three ∙ both.0
        | inr other ↦ let four : v.phase ≡ 4 = omega (arith, low, high, other) in ap (is_protected b.attribute) four ∙ both.1
      ]

  -- from the end of a cycle to that of the next
  pub holds_next : (t : CycleView) (j : List CycleView) → IsNext r jobs carry restarts t j → Sees r jobs carry restarts k j → Sees r jobs carry restarts k (t ∷ j) → AreSound blocks (views_of r jobs carry restarts k (t ∷ j))
      → HoldsThePlan (known_of r) k blocks (looks_back r jobs (master_calls r carry restarts j)) (all_writes (views_of r jobs carry restarts k j))
      → HoldsThePlan (known_of r) k blocks (looks_back r jobs (master_calls r carry restarts (t ∷ j))) (all_writes (views_of r jobs carry restarts k (t ∷ j)))
  holds_next t j next before sees sound holds late = elim (cases_eq (looks_back r jobs (master_calls r carry restarts (t ∷ j))).now.phase 3) [
    | inl three ↦ rises_held (t ∷ j) sees sound three late
    | inr other ↦ fourth (omega (arith, late, other))
  ]
    where
      v : View
      v = view_of r jobs carry restarts k t j

      stood : (falls rises : Bool) (n : ℕ) → 4 ≤ (if falls then 0 else (if rises then n + 1 else n)) → (if falls then 0 else (if rises then n + 1 else n)) ≤ 4 → (3 ≤ n) × (n ≤ 4)
      stood true rises n low most = absurd (omega (arith, low))
      stood false true n low most = (omega (arith, low), omega (arith, most))
      stood false false n low most = (omega (arith, low), most)

      kept : (b : Bool) (n : ℕ) → 3 ≤ (if b then 0 else n) → 3 ≤ n
      kept true n low = absurd (omega (arith, low))
      kept false n low = low

      fourth : 4 ≤ (looks_back r jobs (master_calls r carry restarts (t ∷ j))).now.phase → (plan : PlanView) × ((looks_back r jobs (master_calls r carry restarts (t ∷ j))).plan ≡ Some plan)
          × AreHeld blocks (all_writes (views_of r jobs carry restarts k (t ∷ j))) (writes (known_of r) plan k)
      fourth four =
          let (low, most) = stood v.falls v.rises v.phase (omega (arith, four, sees.master.phase_is))
          (command_below (drive_at r k).busy (views_of r jobs carry restarts k (t ∷ j)) sees.run) in
          let commanded : v.phase ≡ (if v.master_restarts then 0 else command (views_of r jobs carry restarts k j)) = sees.run.1.commanded in
          let early : 3 ≤ command (views_of r jobs carry restarts k j) = kept v.master_restarts (command (views_of r jobs carry restarts k j)) (omega (arith, low, commanded)) in
          let (plan, has, held) = holds (omega (arith, early, before.master.phase_is)) in
          let first : t.phase ≡ (at_start r jobs carry restarts j).now.phase = next.phase in (
            plan,
            end_plan (known_of r) (behind_mdt r jobs carry restarts t.sent j) (omega (arith, four)) ∙ plan_kept r jobs carry restarts t j plan (omega (arith, low, first)) has,
            cycle_held v (views_of r jobs carry restarts k j) plan sound low most held,
          )

-- before the first cycle
pub holds_first : (r : RingView) (jobs : List Job) (k : ℕ) (blocks : List Block) (own : List Write) → HoldsThePlan (known_of r) k blocks (looks_back r jobs []) own
holds_first r jobs k blocks own late = absurd (omega (arith, late))
