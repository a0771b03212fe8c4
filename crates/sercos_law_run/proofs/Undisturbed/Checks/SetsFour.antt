-- A check for phase 4 that is set ends well, if no own block of the drive was outside its limits at opening.
use Rattle.sercos_law_run.proofs.Words.{◌≡◌, ℕ, ◌<◌, ◌≤◌, Bool, true, false, List, [], ◌∷◌, length, map, Option, Some, None, refl, sym, ap, ◌∙◌, subst, arith, if◌then◌else◌, ◌==◌, IfSome, option_map, filter, list_any, eqb-true, false≢true, Job, is_protected, find_block, with_data, store_of, put_fault, DriveView, RingView, Block, is_outside, ends_well, Processed, Write, CycleView, Carry, Restarts, is_own_outside, without_data, View, standing, stood_in, record_in, processed_in, kept_in, write_of, find-alike, Nothing, Record, processes, processed_phase, those_kept, those_since, those_moved, drive_at, given_mst, IsRun, IsClear, view_of, views_of, IsOpened, IsStored, allowed, attribute_of, unfit_for_phase_4, same_Some}
use Rattle.sercos_law_run.proofs.Start.LimitLemmas.{names_own}
use Rattle.sercos_law_run.proofs.Held.Runs.{alike_so, s_known, drive_rules}
use Rattle.sercos_law_run.proofs.Headline.HeadlineRuns.{all_stand, first_store, stored_in}
use Rattle.sercos_law_run.proofs.Undisturbed.Checks.BlockStays.{IsAt, stays_at, written_at}
use Rattle.sercos_law_run.proofs.Undisturbed.CycleHeld.{cycle_some, fits_in, holds_cycle}
use Rattle.sercos_law_run.proofs.Undisturbed.Checks.OwnInside.{no_data_fault, none_at, none_listed, own_stays, within, none_any}
use Rattle.sercos_law_run.proofs.Undisturbed.Stops.RefusedCauses.{check_4, found_4}
use Rattle.sercos_law_run.proofs.Start.LaterLemmas.{still_ascending}
use Rattle.sercos_law_run.proofs.Start.KeptLemmas.{bare, writes_keep}

-- PHASE 3 is the one in which the check for phase 4 can be set.
attribute_left : (o : Option Block) (b : Block) → option_map without_data o ≡ Some (without_data b)
    → option_map (λ (c : Block). c.attribute) o ≡ Some b.attribute
attribute_left None b alike = absurd (cc)
attribute_left (Some c) b alike = ap (λ (x : Block). Some x.attribute) (same_Some (without_data c) (without_data b) alike)

in_three : (d : DriveView) (phase : ℕ) → is_protected (check_4 d).attribute phase ≡ false → phase ≡ 3
unfolding attribute_of
in_three d phase off = by (phase == 2) (phase == 3) refl off
  where
    by : (two three : Bool) → (phase == 3) ≡ three → (if two then true else (if three then false else true)) ≡ false → phase ≡ 3
    by true three is off = absurd (false≢true (sym off))
    by false true is off = eqb-true phase 3 is
    by false false is off = absurd (false≢true (sym off))

no_map : (blocks : List Block) → map (λ (b : Block). b.idn) blocks ≡ [] → blocks ≡ []
no_map [] none = refl
no_map (b ∷ blocks) none = absurd (cc)

-- which blocks are outside, and what a check says of them
names_none : (blocks : List Block) → unfit_for_phase_4 blocks ≡ [] → filter is_outside blocks ≡ []
unfolding unfit_for_phase_4
names_none blocks none = no_map (filter is_outside blocks) none

ends_so : (rate : ℕ) (blocks : List Block) → filter is_outside blocks ≡ [] → ends_well rate 128 blocks ≡ true
unfolding unfit_for_phase_4
ends_so rate blocks none = ap (λ (l : List Block). length (map (λ (b : Block). b.idn) l) == 0) none

-- If a check for phase 4 is set in a cycle, it ends well.
abbrev pub SetsWell : View → List View → Type 0
SetsWell v past = (w : Write) → write_of (processed_in v past) (kept_in v past) ≡ Some w → w.raw ≡ 128 → ends_well v.commands.rate 128 (with_data 128 w.bytes v.blocks) ≡ true

module _ (r : RingView) (jobs : List Job) (carry : Carry) (restarts : Restarts) (opened : IsOpened r jobs) (k : ℕ)
    (below : k < length r.drives) (t : CycleView) (j : List CycleView) (run : IsRun r jobs carry restarts (t ∷ j)) (clear : IsClear (t ∷ j))
    (w : Write)
    (is : write_of (processed_in (view_of r jobs carry restarts k t j) (views_of r jobs carry restarts k j)) (kept_in (view_of r jobs carry restarts k t j) (views_of r jobs carry restarts k j)) ≡ Some w)
  where
    -- THE WRITE OF A CYCLE could be made.
    pub allowed_in : put_fault (find_block w.raw (view_of r jobs carry restarts k t j).blocks) (stood_in (view_of r jobs carry restarts k t j) (standing (views_of r jobs carry restarts k j))) w.bytes ≡ None
    allowed_in =
        let v = view_of r jobs carry restarts k t j in
        let past = views_of r jobs carry restarts k j in
        let stands = all_stand r jobs carry restarts opened (t ∷ j) run clear k below in
        elim (processes v past) [
          | Nothing nothing ↦ let no : Some w ≡ None = sym is ∙ ap (λ (o : Option Processed). write_of o (kept_in v past)) nothing in absurd (cc)
          | Record s got came two some ↦
              let adds_it = sym (ap (λ (o : Option Processed). write_of o (kept_in v past)) some) ∙ is in
              subst (λ (o : Option Write). IfSome o (λ w. put_fault (find_block w.raw v.blocks) (stood_in v (standing past)) w.bytes ≡ None)) adds_it
              (allowed (record_in v (length past) (stood_in v (standing past)) s) (kept_in v past)
              (those_moved (store_of (drive_at r k)) v.blocks (kept_in v past) stands.sound.1.0 (those_kept (store_of (drive_at r k)) v past (those_since (store_of (drive_at r k)) past stands.sound.0))))
        ]

    -- And if it was one to S-0-0128, phase 3 was commanded.
    pub three_in : w.raw ≡ 128 → t.phase ≡ 3
    three_in number =
        let v = view_of r jobs carry restarts k t j in
        let past = views_of r jobs carry restarts k j in
        let stored = stored_in r jobs carry restarts opened t j k below in
        elim (processes v past) [
          | Nothing nothing ↦ let no : Some w ≡ None = sym is ∙ ap (λ (o : Option Processed). write_of o (kept_in v past)) nothing in absurd (cc)
          | Record s got came two some ↦
              sym (processed_phase v past came (omega (arith, two)))
              ∙ in_three (drive_at r k) (stood_in v (standing past))
              (bare (find_block 128 v.blocks) (stood_in v (standing past)) w.bytes (check_4 (drive_at r k)).attribute
              (attribute_left (find_block 128 v.blocks) (check_4 (drive_at r k))
              (find-alike 128 v.blocks (store_of (drive_at r k)) (check_4 (drive_at r k)) (alike_so (drive_at r k) v.blocks stored.1)
              (found_4 (drive_at r k) (drive_rules r k opened.valid below))))
              (ap (λ (n : ℕ). put_fault (find_block n v.blocks) (stood_in v (standing past)) w.bytes) (sym number) ∙ allowed_in))
        ]

-- FROM PHASE 3 ON a drive's check for phase 4 names its own blocks that are outside their limits.
pub names_in : (r : RingView) (jobs : List Job) (carry : Carry) (restarts : Restarts) (opened : IsOpened r jobs) (k : ℕ) (below : k < length r.drives) (t : CycleView) (j : List CycleView) → IsRun r jobs carry restarts (t ∷ j) → IsClear (t ∷ j) → 3 ≤ t.phase
    → unfit_for_phase_4 (view_of r jobs carry restarts k t j).blocks ≡ map (λ (b : Block). b.idn) (filter is_own_outside (view_of r jobs carry restarts k t j).blocks)
names_in r jobs carry restarts opened k below t j run clear late =
    let stored = stored_in r jobs carry restarts opened t j k below in
    let held = holds_cycle r jobs carry restarts opened t j run clear late k below in
    let fit = fits_in r jobs carry restarts opened t j run clear late in
    names_own (drive_at r k) (view_of r jobs carry restarts k t j).blocks r.cycle stored.0 (drive_rules r k opened.valid below) stored.1 held.1.1.0
    (cycle_some r.cycle (s_known r jobs carry restarts opened (first_store r jobs carry restarts opened)).cycles.cycle).1 (fit.low k below) (fit.high k below)

module _ (r : RingView) (jobs : List Job) (carry : Carry) (restarts : Restarts) (opened : IsOpened r jobs) (k : ℕ)
    (below : k < length r.drives) (none : list_any is_outside (drive_at r k).blocks ≡ false) where
  pub sets_well : (t : CycleView) (j : List CycleView) → IsRun r jobs carry restarts (t ∷ j) → IsClear (t ∷ j) → SetsWell (view_of r jobs carry restarts k t j) (views_of r jobs carry restarts k j)
  sets_well t j run clear w is number =
      let v = view_of r jobs carry restarts k t j in
      let past = views_of r jobs carry restarts k j in
      let d = drive_at r k in
      ends_so v.commands.rate (with_data 128 w.bytes v.blocks)
      (none_listed is_outside (with_data 128 w.bytes v.blocks)
      (still_ascending v.blocks (with_data 128 w.bytes v.blocks)
      (((writes_keep d v.blocks 128 (stood_in v (standing past)) w.bytes stored.0.ascending stored.1).0 allowed) ∙ sym stored.1)
      stored.0.ascending) (λ n. written_at n 128 w.bytes (λ b. is_outside b ≡ false) (view_of r jobs carry restarts k t j).blocks
      (λ same b found. within b w.bytes (no_data_fault (find_block 128 (view_of r jobs carry restarts k t j).blocks) b
      (stood_in (view_of r jobs carry restarts k t j) (standing (views_of r jobs carry restarts k j))) w.bytes
      (ap (λ (m : ℕ). find_block m (view_of r jobs carry restarts k t j).blocks) same ∙ found) allowed)) (before n)))
    where
      stored : IsStored (drive_at r k) (view_of r jobs carry restarts k t j).blocks
      stored = stored_in r jobs carry restarts opened t j k below

      allowed : put_fault (find_block 128 (view_of r jobs carry restarts k t j).blocks) (stood_in (view_of r jobs carry restarts k t j) (standing (views_of r jobs carry restarts k j))) w.bytes ≡ None
      allowed = ap (λ (n : ℕ). put_fault (find_block n (view_of r jobs carry restarts k t j).blocks) (stood_in (view_of r jobs carry restarts k t j) (standing (views_of r jobs carry restarts k j))) w.bytes) (sym number)
          ∙ allowed_in r jobs carry restarts opened k below t j run clear w is

      before : (n : ℕ) → IsAt n (λ b. is_outside b ≡ false) (view_of r jobs carry restarts k t j).blocks
      before n = none_at is_outside n (view_of r jobs carry restarts k t j).blocks
          (none_any is_outside (view_of r jobs carry restarts k t j).blocks
          (names_none (view_of r jobs carry restarts k t j).blocks (names_in r jobs carry restarts opened k below t j run clear
          (omega (arith, three_in r jobs carry restarts opened k below t j run clear w is number))
          ∙ ap (λ (l : List Block). map (λ (b : Block). b.idn) l)
          (none_listed is_own_outside (view_of r jobs carry restarts k t j).blocks stored.0.ascending
          (λ n. stays_at (drive_at r k) n (λ b. is_own_outside b ≡ false)
          (own_stays (drive_at r k) (drive_rules r k opened.valid below) none n)
          r.rate (given_mst carry restarts t.sent j k) (first_store r jobs carry restarts opened k below).ascending)))))
