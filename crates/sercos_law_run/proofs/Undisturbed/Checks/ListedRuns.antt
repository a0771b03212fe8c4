-- If an own block of a drive was outside its limits at opening, what the drive gives after a check for phase 4 that has ended are the numbers
-- of these blocks. The newest cycle of a journal comes first.
use Rattle.sercos_law_run.proofs.Words.{◌≡◌, inl, inr, ℕ, ◌<◌, Bool, true, false, List, [], ◌∷◌, ◌++◌, length, map, Option, Some, None, refl, sym, ap, ◌∙◌, subst, arith, if◌then◌else◌, ◌==◌, nat_lt, cond, option_map, filter, list_all, list_any, and_parts, false≢true, nat_tests, same_Some, Job, outcome_of, blocks_fault, find_block, with_data, store_of, put_fault, DriveView, RingView, Block, is_outside, list_bytes, find_set, set_in, SetCommand, Write, blocks_with, without_data, Begun, CycleView, idn, Carry, Restarts, is_own_outside, IsStoreOf, begun_in, standing, stood_in, processed_in, kept_in, store_in, write_of, find-alike, drive_at, IsRun, IsClear, view_of, views_of, IsOpened, IsStored, are_ascending, unfit_for_phase_4, cases_Bool, some_there, Request, Outcome}
use Rattle.sercos_law_run.proofs.Start.LimitLemmas.{built_in_is_steady}
use Rattle.sercos_law_run.proofs.Held.Runs.{alike_so, small, store_is, drive_rules}
use Rattle.sercos_law_run.proofs.Headline.HeadlineRuns.{all_stand, first_store, spelled_in, stored_in}
use Rattle.sercos_law_run.proofs.Undisturbed.Checks.BlockStays.{IsAt}
use Rattle.sercos_law_run.proofs.Undisturbed.JobsBegun.{wells}
use Rattle.sercos_law_run.proofs.Undisturbed.Checks.ListRead.{data_read, list_read}
use Rattle.sercos_law_run.proofs.Undisturbed.Checks.ListSet.{HasList, IsFair, list_left, set_lists}
use Rattle.sercos_law_run.proofs.Undisturbed.Checks.OwnFit.{never_or_own, own_in}
use Rattle.sercos_law_run.proofs.Undisturbed.Checks.OwnInside.{all_at}
use Rattle.sercos_law_run.proofs.Undisturbed.Stops.RefusedCauses.{check_4, found_4, found_list, list_4}
use Rattle.sercos_law_run.proofs.Undisturbed.Checks.SetsFour.{allowed_in, names_in, three_in}
use Rattle.sercos_law_run.proofs.Undisturbed.Checks.SinceSet.{AreKept, StaysFrom, since_so}
use Rattle.sercos_law_run.proofs.Undisturbed.Checks.ShortLists.{fixed_22}
use Rattle.sercos_law_run.proofs.Settings.NoCheck127.{next_still, stays}
use Rattle.sercos_law_run.proofs.Undisturbed.Checks.WellGiven.{have_commands, is_command_128, say_each}

-- A WRITE to a block that is never outside its limits leaves which are.
abbrev IsInside : List ℕ → Block → Type 0
IsInside bytes b = (is_outside b ≡ false) × (is_outside (record b { value = bytes }) ≡ false)

outside_left : (raw : ℕ) (bytes : List ℕ) (blocks : List Block) → are_ascending blocks ≡ true → IsAt raw (IsInside bytes) blocks → filter is_outside (with_data raw bytes blocks) ≡ filter is_outside blocks
unfolding are_ascending
outside_left raw bytes [] ascending inside = refl
outside_left raw bytes (b ∷ blocks) ascending inside = elim (cases_Bool (b.idn.raw == raw)) [
  | inl is ↦
      let here = inside b (rw is refl) in
      ap (λ (v : Bool). filter is_outside ((if v then record b { value = bytes } else b) ∷ with_data raw bytes blocks)) is
      ∙ ap (λ (v : Bool). cond v ((record b { value = bytes }) ∷ filter is_outside (with_data raw bytes blocks)) (filter is_outside (with_data raw bytes blocks))) here.1
      ∙ (outside_left raw bytes blocks parts.1) (later is)
      ∙ sym (ap (λ (v : Bool). cond v (b ∷ filter is_outside blocks) (filter is_outside blocks)) here.0)
  | inr is ↦
      ap (λ (v : Bool). filter is_outside ((if v then record b { value = bytes } else b) ∷ with_data raw bytes blocks)) is
      ∙ ap (λ (l : List Block). cond (is_outside b) (b ∷ l) l)
      (outside_left raw bytes blocks parts.1 (λ c found. inside c
      (ap (λ (v : Bool). cond v (Some b) (find_block raw blocks)) is ∙ found)))
]
  where
    parts : (list_all (λ c. nat_lt b.idn.raw c.idn.raw) blocks ≡ true) × (are_ascending blocks ≡ true)
    parts = and_parts (list_all (λ c. nat_lt b.idn.raw c.idn.raw) blocks) (are_ascending blocks) ascending

    -- no later block has the number
    later : (b.idn.raw == raw) ≡ true → IsAt raw (IsInside bytes) blocks
    later is c found =
        let at = all_at (λ (d : Block). nat_lt b.idn.raw d.idn.raw) raw blocks c parts.0 found in
        absurd (grind (arith, nat_tests, at.0, at.1, is))

inside_128 : (d : DriveView) (blocks : List Block) (bytes : List ℕ) → blocks_fault [] d.blocks ≡ None → IsStoreOf d blocks → IsAt 128 (IsInside bytes) blocks
inside_128 d blocks bytes rules stored b found =
    let same = same_Some (without_data b) (without_data (check_4 d))
    (sym (ap (λ (o : Option Block). option_map without_data o) found) ∙ find-alike 128 blocks (store_of d) (check_4 d)
    (alike_so d blocks stored) (found_4 d rules)) in
    let low = ap (λ (x : Block). x.min) same in
    let high = ap (λ (x : Block). x.max) same in ((rw (low, high) refl), (rw (low, high) refl))

unfit_left : (bytes : List ℕ) (blocks : List Block) → are_ascending blocks ≡ true → IsAt 128 (IsInside bytes) blocks → unfit_for_phase_4 (with_data 128 bytes blocks) ≡ unfit_for_phase_4 blocks
unfolding unfit_for_phase_4
unfit_left bytes blocks ascending inside = ap (map (λ (b : Block). b.idn)) (outside_left 128 bytes blocks ascending inside)

-- THE LIST of a check for phase 4, as bytes: the own blocks that were outside at opening
abbrev pub own_bytes : DriveView → List ℕ
own_bytes d = list_bytes (map (λ (b : Block). b.idn) (filter is_own_outside (store_of d)))

module _ (r : RingView) (jobs : List Job) (carry : Carry) (restarts : Restarts) (opened : IsOpened r jobs) (k : ℕ)
    (below : k < length r.drives) (outside : list_any is_outside (drive_at r k).blocks ≡ true) where
  rules : blocks_fault [] (drive_at r k).blocks ≡ None
  rules = drive_rules r k opened.valid below

  -- EACH WRITE of a cycle is fair to block 22.
  fair_in : (t : CycleView) (j : List CycleView) → IsRun r jobs carry restarts (t ∷ j) → IsClear (t ∷ j) → (w : Write)
      → write_of (processed_in (view_of r jobs carry restarts k t j) (views_of r jobs carry restarts k j)) (kept_in (view_of r jobs carry restarts k t j) (views_of r jobs carry restarts k j)) ≡ Some w
      → IsFair (own_bytes (drive_at r k)) w (view_of r jobs carry restarts k t j).blocks
  fair_in t j run clear w is = record {
    other = λ number. fixed_22 (drive_at r k) (view_of r jobs carry restarts k t j).blocks
        (stood_in (view_of r jobs carry restarts k t j) (standing (views_of r jobs carry restarts k j))) w.bytes rules stored.1
        (ap (λ (n : ℕ). put_fault (find_block n (view_of r jobs carry restarts k t j).blocks)
        (stood_in (view_of r jobs carry restarts k t j) (standing (views_of r jobs carry restarts k j))) w.bytes) (sym number)
        ∙ allowed_in r jobs carry restarts opened k below t j run clear w is);
    lists = λ number. let three = three_in r jobs carry restarts
        opened k below t j run clear w is number in
        ap (λ (n : ℕ). list_bytes (unfit_for_phase_4 (with_data n w.bytes (view_of r jobs carry restarts k t j).blocks))) number
        ∙ ap list_bytes (unfit_left w.bytes (view_of r jobs carry restarts k t j).blocks stored.0.ascending
        (inside_128 (drive_at r k) (view_of r jobs carry restarts k t j).blocks w.bytes rules stored.1)
        ∙ names_in r jobs carry restarts opened k below t j run clear (omega (arith, three))
        ∙ ap (map (λ (b : Block). b.idn)) (own_in r jobs carry restarts opened k below t j run clear
        (elim (never_or_own r jobs carry restarts opened k below j run.0 clear.0)
        [ inl is ↦ is | inr fits ↦ absurd (false≢true (sym fits ∙ outside)) ])).same);
  }
    where
      stored : IsStored (drive_at r k) (view_of r jobs carry restarts k t j).blocks
      stored = stored_in r jobs carry restarts opened t j k below

  -- FROM CYCLE TO CYCLE
  blocks_at : (t : CycleView) (j : List CycleView) → IsRun r jobs carry restarts (t ∷ j) → IsClear (t ∷ j) → (view_of r jobs carry restarts k t j).blocks ≡ store_in (store_of (drive_at r k)) (views_of r jobs carry restarts k j)
  blocks_at t j (run, next) (before, clear) =
      store_is r jobs carry restarts opened (first_store r jobs carry restarts opened) t j next clear
      (spelled_in r jobs carry restarts opened t j next) (stored_in r jobs carry restarts opened t j)
      (all_stand r jobs carry restarts opened j run before) k below

  blocks_next : (t u : CycleView) (j : List CycleView) → IsRun r jobs carry restarts (t ∷ u ∷ j) → IsClear (t ∷ u ∷ j) → (view_of r jobs carry restarts k t (u ∷ j)).blocks
      ≡ blocks_with (write_of (processed_in (view_of r jobs carry restarts k u j) (views_of r jobs carry restarts k j)) (kept_in (view_of r jobs carry restarts k u j) (views_of r jobs carry restarts k j))) (view_of r jobs carry restarts k u j).commands
      (view_of r jobs carry restarts k u j).blocks
  blocks_next t u j run clear =
      blocks_at t (u ∷ j) run clear
      ∙ ap (blocks_with (write_of (processed_in (view_of r jobs carry restarts k u j) (views_of r jobs carry restarts k j)) (kept_in (view_of r jobs carry restarts k u j) (views_of r jobs carry restarts k j))) (view_of r jobs carry restarts k u j).commands)
      (sym (blocks_at u j run.0 clear.0))

  stays_from : (t : CycleView) (j : List CycleView) → IsRun r jobs carry restarts (t ∷ j) → IsClear (t ∷ j) → StaysFrom (HasList (own_bytes (drive_at r k))) (view_of r jobs carry restarts k t j) (views_of r jobs carry restarts k j)
  stays_from t [] run clear = tt
  stays_from t (u ∷ j) run clear = λ has. subst (HasList (own_bytes (drive_at r k))) (sym (blocks_next t u j run clear))
      (list_left (own_bytes (drive_at r k)) (write_of (processed_in (view_of r jobs carry restarts k u j) (views_of r jobs carry restarts k j)) (kept_in (view_of r jobs carry restarts k u j) (views_of r jobs carry restarts k j))) (view_of r jobs carry restarts k u j).commands
      (view_of r jobs carry restarts k u j).blocks (fair_in u j run.0 clear.0) has)

  abbrev ListIn : List CycleView → SetCommand → Type 0
  ListIn [] s = Unit {0}
  ListIn (t ∷ j) s = HasList (own_bytes (drive_at r k)) (view_of r jobs carry restarts k t j).blocks

  kept_so : (j : List CycleView) → IsRun r jobs carry restarts j → IsClear j → AreKept (HasList (own_bytes (drive_at r k))) (views_of r jobs carry restarts k j)
  kept_so [] run clear = tt
  kept_so (t ∷ j) run clear = (
    kept_so j run.0 clear.0,
    (λ on. let s = some_there (find_set 128 (set_in (view_of r jobs carry restarts k t j).commands)) on in
        (say_each r jobs carry restarts opened k below ListIn (λ t u j run clear before s found.
        subst (HasList (own_bytes (drive_at r k))) (sym (blocks_next t u j run clear))
        (set_lists (own_bytes (drive_at r k)) (write_of
        (processed_in (view_of r jobs carry restarts k u j) (views_of r jobs carry restarts k j))
        (kept_in (view_of r jobs carry restarts k u j) (views_of r jobs carry restarts k j))) (view_of r jobs carry restarts k u j).commands
        (view_of r jobs carry restarts k u j).blocks (is_command_128 (drive_at r k) (view_of r jobs carry restarts k u j).blocks rules
        (stored_in r jobs carry restarts opened u j k below).1) (fair_in u j run.0 clear.0) before s found))) t j run clear s.0
        s.1),
    stays_from t j run clear,
  )

  -- THE LIST that is read
  pub list_is : (t : CycleView) (j : List CycleView) → IsRun r jobs carry restarts (t ∷ j) → IsClear (t ∷ j) → (newer older : List Begun) (b c : Begun) (bytes status : List ℕ) → begun_in (view_of r jobs carry restarts k t j) (views_of r jobs carry restarts k j) ≡ newer ++ b ∷ c ∷ older
      → b.request ≡ Request.Read (idn 22) 7 → outcome_of b.request b.answers ≡ Some (Outcome.Complete bytes) → c.request ≡ Request.Command (idn 128) → outcome_of c.request c.answers ≡ Some (Outcome.Complete status)
      → bytes ≡ own_bytes (drive_at r k)
  list_is t j run clear newer older b c bytes status split asks complete sets_it ended =
      let stands = all_stand r jobs carry restarts opened (t ∷ j) run clear k below in
      let factor = small r jobs carry restarts opened (first_store r jobs carry restarts opened) k below 22 (list_4 (drive_at r k))
      (found_list (drive_at r k) rules) in
      let views = stays (view_of r jobs carry restarts k t j) ∷ views_of r jobs carry restarts k j in
      let read = list_read (drive_at r k).busy (drive_at r k) (HasList (own_bytes (drive_at r k))) views (
        stands.sees.run.0,
        next_still (drive_at r k).busy (view_of r jobs carry restarts k t j) (views_of r jobs carry restarts k j)
            stands.sees.run.1,
      ) stands.sound stands.stored (wells r jobs carry restarts opened (t ∷ j) run clear k below).follow
      (have_commands (drive_at r k) views rules stands.stored) (since_so (HasList (own_bytes (drive_at r k))) views
      (kept_so (t ∷ j) run clear)).0 (list_4 (drive_at r k)) (found_list (drive_at r k) rules) factor newer older b c bytes status split
      asks complete sets_it ended in
      read.gives ∙ data_read read.processed.cycle read.block (built_in_is_steady (drive_at r k) read.processed.blocks 22 read.processed.cycle read.block rules read.stored.1 refl read.found) ∙ read.has read.block read.found
