-- In phases 3 and 4 the cycle time lies within the limits of each drive, and a plan fits what the ring asks.
use Rattle.sercos_law_run.proofs.Words.{◌≡◌, ◌⊎◌, inl, inr, ℕ, ◌+◌, ◌*◌, ◌/◌, ◌%◌, ◌<◌, ◌≤◌, Bool, true, false, List, [], ◌∷◌, length, Option, Some, None, refl, sym, ap, ◌∙◌, subst, arith, if◌then◌else◌, same_Some, nat_lt, unwrap_or, option_map, then_some, w16, to_le_bytes, option_or, nat_tests, Job, bytes_in, begun_by, idn, is_checked, known_of, member, tasks_for, outcomes, stored, IsConfigured, IsWithin, PlanView, is_fixed, is_protected, built_in_block, row, CycleTime, blocks_fault, find_block, store_of, write_fault, put_fault, DriveView, RingView, Block, data_at, annals, blocks_in, CycleView, Carry, Restarts, IsStoreOf, Holds, start_up, drive_at, given_mst, given_before, middle, IsRun, IsClear, after_mst, behind_mdt, view_of, views_of, IsOpened, IsFit, written_stays, holds_newest, attribute_of, built_in, data_fault}
use Rattle.sercos_law_run.proofs.Held.StoreOf.{store_of_so}
use Rattle.sercos_law_run.proofs.Undisturbed.JobsBegun.{begun_then}
use Rattle.sercos_law_run.proofs.Settings.NoCheck127.{next_still, stays}
use Rattle.sercos_law_run.proofs.Start.BlockFinds.{find_store_of}
use Rattle.sercos_law_run.proofs.Start.LimitLemmas.{refuses_cycle}
use Rattle.sercos_law_run.proofs.Start.CheckPasses.{ring_drive}
use Rattle.sercos_law_run.proofs.Views.Members.{members_count}
use Rattle.sercos_law_run.proofs.Held.Runs.{IsPlannedIn, drive_got, holding, s_known, small}
use Rattle.sercos_law_run.proofs.Headline.HeadlineRuns.{all_stand, first_store, spelled_in, stored_in}
use Rattle.sercos_law_run.proofs.Undisturbed.Checks.BlockStays.{IsAt, Stays, stays_at}
use Rattle.sercos_law_run.proofs.Undisturbed.Arriving.Small.{first_is}
use Rattle.sercos_law_run.proofs.Agenda.Requests.{are_requests}
use Rattle.sercos_law_run.proofs.Cited.{configures_rise}

-- THE CYCLE TIME of a drive's store is that of the opening, or it could be written
abbrev IsWritable : Block → Type 0
IsWritable b = (b.value ≡ 0 ∷ 0 ∷ []) ⊎ (data_fault b b.value ≡ None)

first_2 : (d : DriveView) → blocks_fault [] d.blocks ≡ None → IsAt 2 IsWritable (store_of d)
unfolding built_in
first_2 d rules c found = subst IsWritable (is_it (sym (find_store_of 2 d rules) ∙ found)) (inl refl)
  where
    is_it : Some (built_in_block d (row 2 0x60110001 false CycleTime)) ≡ Some c → built_in_block d (row 2 0x60110001 false CycleTime) ≡ c
    is_it e = cc

pub second_none : (o p : Option ℕ) → option_or o p ≡ None → p ≡ None
second_none None p none = none
second_none (Some x) p none = absurd (cc)

-- whatever a block holds, the same bytes can be written to it
same_fault : (b : Block) (value bytes : List ℕ) → data_fault (record b { value = value }) bytes ≡ data_fault b bytes
unfolding data_fault
same_fault b value bytes = refl

writable_stays : (d : DriveView) → blocks_fault [] d.blocks ≡ None → Stays d 2 IsWritable
writable_stays d rules = record {
  first = first_2 d rules;
  write = λ blocks phase bytes stored allowed b found.
      inr (same_fault b bytes bytes ∙ second_none (write_fault (Some b) phase) (data_fault b bytes) (sym (ap (λ (o : Option Block). put_fault o phase bytes) found) ∙ allowed));
  list_3 = λ rate blocks stored same b found. absurd (omega (arith, same));
  list_4 = λ blocks stored same b found. absurd (omega (arith, same));
}

-- neither of the codes for what is fixed or protected is one for a limit
within_limits : (fixed protected low high : Bool) → option_or {T = ℕ} (option_or {T = ℕ} (then_some fixed 0x7004) (then_some protected 0x7005)) None ≡ (if low then Some 0x7006 else (if high then Some 0x7007 else None)) → (low ≡ false) × (high ≡ false)
within_limits true protected true high is = let same : 0x7004 ≡ 0x7006 = same_Some 0x7004 0x7006 is in absurd (omega (arith, same))
within_limits true protected false true is = let same : 0x7004 ≡ 0x7007 = same_Some 0x7004 0x7007 is in absurd (omega (arith, same))
within_limits false true true high is = let same : 0x7005 ≡ 0x7006 = same_Some 0x7005 0x7006 is in absurd (omega (arith, same))
within_limits false true false true is = let same : 0x7005 ≡ 0x7007 = same_Some 0x7005 0x7007 is in absurd (omega (arith, same))
within_limits false false true high is = absurd (cc)
within_limits false false false true is = absurd (cc)
within_limits fixed protected false false is = (refl, refl)

-- a store that holds the cycle time
held_within : (d : DriveView) (blocks : List Block) (cycle : ℕ) → blocks_fault [] d.blocks ≡ None → IsStoreOf d blocks → 1 ≤ cycle → cycle < 65536 → IsAt 2 IsWritable blocks → data_at blocks 2 ≡ to_le_bytes w16 cycle
    → (nat_lt cycle d.cycle_min ≡ false) × (nat_lt d.cycle_max cycle ≡ false)
held_within d blocks cycle rules stored some small is holds = by (find_block 2 blocks) refl
  where
    by : (o : Option Block) → find_block 2 blocks ≡ o → (nat_lt cycle d.cycle_min ≡ false) × (nat_lt d.cycle_max cycle ≡ false)
    by None none = absurd (cc)
    by (Some b) found = which (is b found)
      where
        value : b.value ≡ to_le_bytes w16 cycle
        value = sym (ap (λ (x : Option Block). unwrap_or (option_map (λ (c : Block). c.value) x) []) found) ∙ holds

        which : (b.value ≡ 0 ∷ 0 ∷ []) ⊎ (data_fault b b.value ≡ None) → (nat_lt cycle d.cycle_min ≡ false) × (nat_lt d.cycle_max cycle ≡ false)
        which (inl zeros) =
            let bytes : to_le_bytes w16 cycle ≡ 0 ∷ 0 ∷ [] = sym value ∙ zeros in
            let low : cycle % 256 ≡ 0 = (first_is _ _ _ _ bytes).0 in
            let high : cycle / 256 % 256 ≡ 0 = (first_is _ _ _ _ (first_is _ _ _ _ bytes).1).0 in
            absurd (omega (arith, low, high, some, small))
        which (inr none) = within_limits (is_fixed b) (is_protected b.attribute 2) (nat_lt cycle d.cycle_min) (nat_lt d.cycle_max cycle)
            (ap (λ (o : Option ℕ). option_or (write_fault (Some b) 2) o) (sym (ap (data_fault b) (sym value) ∙ none)) ∙ sym (ap (λ (o : Option Block). put_fault o 2 (to_le_bytes w16 cycle)) found) ∙ refuses_cycle d blocks cycle rules stored small)

pub cycle_some : (c : ℕ) → (c ≡ 125) ⊎ ((250 ≤ c) × (c ≤ 64000) × (c % 250 ≡ 0)) → (1 ≤ c) × (c < 65536)
cycle_some c (inl is) = (omega (arith, is), omega (arith, is))
cycle_some c (inr (low, high, whole)) = (omega (arith, low), omega (arith, high))

-- what the write of the cycle time leaves
found_cycle : (d : DriveView) → blocks_fault [] d.blocks ≡ None → find_block 2 (store_of d) ≡ Some (built_in_block d (row 2 0x60110001 false CycleTime))
unfolding built_in
found_cycle d rules = find_store_of 2 d rules

stored_cycle : (d : DriveView) (cycle : ℕ) → cycle < 65536 → stored (built_in_block d (row 2 0x60110001 false CycleTime)) (bytes_in (cycle ∷ [])) ≡ to_le_bytes w16 cycle
unfolding attribute_of
stored_cycle d cycle small =
    let back : cycle % 256 + 256 * (cycle / 256) ≡ cycle = omega arith in
    ap (λ (n : ℕ). bytes_in (n ∷ [])) back ∙ ap (λ (n : ℕ). (cycle % 256) ∷ n ∷ []) (let high : cycle / 256 ≡ cycle / 256 % 256 = omega (arith, small) in high)

module _ (r : RingView) (jobs : List Job) (carry : Carry) (restarts : Restarts) (opened : IsOpened r jobs) where
  pub fits_in : (t : CycleView) (j : List CycleView) → IsRun r jobs carry restarts (t ∷ j) → IsClear (t ∷ j) → 3 ≤ t.phase → IsFit r
  fits_in t j (run, next) (before, clear) late = record {
    plan = (held 0 some_drive).0;
    fits = (held 0 some_drive).1.of.least.fits;
    low = λ k below. let is = (within k below).0 in grind (arith, nat_tests, is);
    high = λ k below. let is = (within k below).1 in grind (arith, nat_tests, is);
  }
    where
      held : (k : ℕ) → k < length r.drives → (plan : PlanView) × IsPlannedIn r jobs carry restarts t j plan × Holds (blocks_in (drive_at r k) (after_mst r carry restarts t.sent j k)) (start_up r.control r.cycle plan k (drive_at r k).at (drive_at r k).mdt)
      held k below = holding r jobs carry restarts opened (first_store r jobs carry restarts opened) t j next clear
          (spelled_in r jobs carry restarts opened t j next) (stored_in r jobs carry restarts opened t j)
          (all_stand r jobs carry restarts opened j run before) (subst (λ (n : ℕ). 3 ≤ n) next.phase late) k below

      some_drive : 0 < length r.drives
      some_drive = let count = members_count r in let some = (s_known r jobs carry restarts opened (first_store r jobs carry restarts opened)).some in omega (arith, count, some)

      cycle_is : (1 ≤ r.cycle) × (r.cycle < 65536)
      cycle_is = cycle_some r.cycle (s_known r jobs carry restarts opened (first_store r jobs carry restarts opened)).cycles.cycle

      within : (k : ℕ) → k < length r.drives → (nat_lt r.cycle (drive_at r k).cycle_min ≡ false) × (nat_lt (drive_at r k).cycle_max r.cycle ≡ false)
      within k below =
          let rules = (ring_drive r k (drive_at r k) opened.valid (drive_got r k below)).blocks in
          held_within (drive_at r k) (blocks_in (drive_at r k) (after_mst r carry restarts t.sent j k)) r.cycle rules (stored_in r jobs carry restarts opened t j k below).1 cycle_is.0 cycle_is.1
          (stays_at (drive_at r k) 2 IsWritable (writable_stays (drive_at r k) rules) r.rate (given_mst carry restarts t.sent j k) (first_store r jobs carry restarts opened k below).ascending)
          (held k below).2.1.0

  -- in phase 3 and later each drive's store holds the cycle time
  pub holds_cycle : (t : CycleView) (j : List CycleView) → IsRun r jobs carry restarts (t ∷ j) → IsClear (t ∷ j) → 3 ≤ t.phase → (k : ℕ) → k < length r.drives
      → (plan : PlanView) × Holds (blocks_in (drive_at r k) (after_mst r carry restarts t.sent j k)) (start_up r.control r.cycle plan k (drive_at r k).at (drive_at r k).mdt)
  holds_cycle t j (run, next) (before, clear) late k below =
      let held = holding r jobs carry restarts opened (first_store r jobs carry restarts opened) t j next clear
      (spelled_in r jobs carry restarts opened t j next) (stored_in r jobs carry restarts opened t j)
      (all_stand r jobs carry restarts opened j run before) (subst (λ (n : ℕ). 3 ≤ n) next.phase late) k below in
      (held.0, held.2)

  -- A DRIVE WHOSE CHECK FOR PHASE 3 has ended well has taken the cycle time.
  pub checked_within : (t : CycleView) (j : List CycleView) → IsRun r jobs carry restarts (t ∷ j) → IsClear (t ∷ j) → (behind_mdt r jobs carry restarts t.sent j).now.phase ≤ 3
      → (k : ℕ) → k < length r.drives → is_checked (member (known_of r) k) (outcomes (behind_mdt r jobs carry restarts t.sent j) k) ≡ true → IsWithin (drive_at r k) r.cycle
  checked_within t j run clear low k below well =
      let p = behind_mdt r jobs carry restarts t.sent j in
      let rules : blocks_fault [] (drive_at r k).blocks ≡ None =
      (ring_drive r k (drive_at r k) opened.valid (drive_got r k below)).blocks in
      let stands = all_stand r jobs carry restarts opened (t ∷ j) run clear k below in
      let configured : IsConfigured (known_of r) k (store_of (drive_at r k)) p.plan (begun_by (p.calls k)) =
      let count = members_count r in configures_rise (known_of r) (tasks_for (known_of r) jobs) (middle r carry restarts t.sent j) k
      (store_of (drive_at r k)) (λ i. (are_requests (known_of r) jobs i).0) (omega (arith, count, below)) low well in
      let last = configured.each 1 (idn 2) (bytes_in (r.cycle ∷ [])) refl in
      let block = built_in_block (drive_at r k) (row 2 0x60110001 false CycleTime) in
      let found = found_cycle (drive_at r k) rules in
      let cycle_small = cycle_some r.cycle (s_known r jobs carry restarts opened (first_store r jobs carry restarts opened)).cycles.cycle in
      let is = held_within (drive_at r k) (blocks_in (drive_at r k) (annals (drive_at r k) r.rate (given_before carry restarts (t ∷ j) k)))
      r.cycle rules (store_of_so (drive_at r k) r.rate (given_before carry restarts (t ∷ j) k)
      (first_store r jobs carry restarts opened k below).ascending).0 cycle_small.0 cycle_small.1
      (stays_at (drive_at r k) 2 IsWritable (writable_stays (drive_at r k) rules) r.rate (given_before carry restarts (t ∷ j) k)
      (first_store r jobs carry restarts opened k below).ascending)
      (ap (λ (l : List Block). data_at l 2) stands.sees.drive.blocks
      ∙ holds_newest (store_of (drive_at r k)) (views_of r jobs carry restarts k (t ∷ j)) 2 block refl found
      ∙ ap (λ (o : Option (List ℕ)). unwrap_or o block.value)
      (written_stays (drive_at r k).busy (store_of (drive_at r k))
      (stays (view_of r jobs carry restarts k t j) ∷ views_of r jobs carry restarts k j) last.newer last.older last.one (idn 2)
      (bytes_in (r.cycle ∷ [])) last.whole block (small r jobs carry restarts opened (first_store r jobs carry restarts opened) k below) (
        stands.sees.run.0,
        next_still (drive_at r k).busy (view_of r jobs carry restarts k t j) (views_of r jobs carry restarts k j)
            stands.sees.run.1,
      ) stands.sound (sym (begun_then r jobs carry restarts opened t j run clear k below) ∙ last.split) last.asks
      last.complete found last.away) ∙ stored_cycle (drive_at r k) r.cycle cycle_small.1) in
      ((let a = is.0 in grind (arith, nat_tests, a)), (let b = is.1 in grind (arith, nat_tests, b)))
