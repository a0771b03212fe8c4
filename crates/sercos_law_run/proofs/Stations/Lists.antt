-- What a drive's lists of invalid operation data contain.
use Rattle.sercos_law_run.proofs.Words.{◌≡◌, ℕ, ◌==◌, Bool, true, false, not, ◌&&◌, List, [], ◌∷◌, Option, Some, None, IfSome, refl, sym, ◌∙◌, subst, arith, if◌then◌else◌, cond_both, false≢true, nat_tests, to_cancel, Block, blocks_fault, find_block, with_data, put_fault, are_ascending, store_of, DriveView, data_at, list_bytes, unfit_for_phase_3, unfit_for_phase_4, is_command, CommandCall, Wrote, Reset, is_set, CommandHistory, Write, added_on, command_value, blocks_with, calls_with, allowed, DriveCall, Mst, Mdt, mst_got, mdt_got, phase_in, records_in, blocks_in, blocks_after, calls_after, with_reset, annals, stands_in, ends_in, IsStoreOf, found_for_3, found_for_4, ListsAreFound, attribute_of, attribute_fault, attribute_in, row_in, built_in_attribute, block_attribute, with_check_list, other_place, cases_Bool, inl, inr, DriveRestart, command_calls, processed_at}
use Rattle.sercos_law_run.proofs.Start.BlockFinds.{find_built_in, find_store_of, same_attribute}
use Rattle.sercos_law_run.proofs.Start.LaterLemmas.{has_of}
use Rattle.sercos_law_run.proofs.Start.KeptLemmas.{bare, stays, writes_hold, writes_keep}
use Rattle.sercos_law_run.proofs.Held.Processed.{processed_keeps, taken_at}
use Rattle.sercos_law_run.proofs.Held.StoreOf.{IsOf, store_of_so}
use Rattle.sercos_law_run.proofs.Stations.FitInThree.{IsLater, later_by}
use Rattle.sercos_law_run.proofs.Cited.{handed_those}

-- A block that is protected in each phase is never written.
record IsLocked (d : DriveView) (raw : ℕ) : Type 0 where
  later : IsLater d raw
  two : later.attribute.protect2 ≡ true

module _ (d : DriveView) (rate : ℕ) (none : blocks_fault [] d.blocks ≡ None) where
  locks_21 : IsLocked d 21
  unfolding block_attribute built_in_attribute row_in attribute_in attribute_fault attribute_of
  locks_21 = record { later = later_by d 21 _ refl refl refl refl; two = refl }

  locks_22 : IsLocked d 22
  unfolding block_attribute built_in_attribute row_in attribute_in attribute_fault attribute_of
  locks_22 = record { later = later_by d 22 _ refl refl refl refl; two = refl }

  other : (n : ℕ) → IsLocked d n → (blocks : List Block) (raw phase : ℕ) (bytes : List ℕ) → IsStoreOf d blocks
      → put_fault (find_block raw blocks) phase bytes ≡ None → (n == raw) ≡ false
  other n locks blocks raw phase bytes is fine = other_place n raw
      (λ same. false≢true (sym (bare (find_block n blocks) phase bytes locks.later.attribute
      (same_attribute n d blocks none is ∙ locks.later.has)
      (subst (λ (m : ℕ). put_fault (find_block m blocks) phase bytes ≡ None) (sym same) fine))
      ∙ cond_both (phase == 2) _ _ (λ v. v ≡ true) (λ on. locks.two)
      (λ off. cond_both (phase == 3) _ _ (λ v. v ≡ true) (λ on. locks.later.three) (λ other. locks.later.four))))

  abbrev Contain : List CommandCall → List Block → Type 0
  Contain calls blocks = (data_at blocks 21 ≡ list_bytes (found_for_3 rate calls)) × (data_at blocks 22 ≡ list_bytes (found_for_4 rate calls))

  abbrev commands : List CommandCall → CommandHistory
  commands calls = record { rate = rate; time = d.command; calls = calls }

  -- a check that is set writes its list
  listed : (raw value cycle : ℕ) (blocks : List Block) (calls : List CommandCall) → IsStoreOf d blocks → Contain calls blocks
      → Contain (Wrote raw value cycle blocks ∷ calls) (with_check_list (commands calls) raw value blocks)
  unfolding with_check_list
  listed raw value cycle blocks calls is has = by (not (value == to_cancel) && not (is_set raw calls)) (raw == 127) (raw == 128) refl refl
    where
      by : (sets one two : Bool) → (raw == 127) ≡ one → (raw == 128) ≡ two →
          (data_at (if sets then (if one then with_data 21 (list_bytes (unfit_for_phase_3 rate blocks)) blocks else (if two then with_data 22 (list_bytes (unfit_for_phase_4 blocks)) blocks else blocks)) else blocks) 21
          ≡ list_bytes (if one && sets then unfit_for_phase_3 rate blocks else found_for_3 rate calls))
          × (data_at (if sets then (if one then with_data 21 (list_bytes (unfit_for_phase_3 rate blocks)) blocks else (if two then with_data 22 (list_bytes (unfit_for_phase_4 blocks)) blocks else blocks)) else blocks) 22
          ≡ list_bytes (if two && sets then unfit_for_phase_4 blocks else found_for_4 rate calls))
      by false false false e f = has
      by false false true e f = has
      by false true false e f = has
      by false true true e f = has
      by true true true e f = absurd (grind (arith, nat_tests, e, f))
      by true true false e f = (
        writes_hold blocks 21 21 _ (has_of 21 d blocks is refl),
        writes_hold blocks 21 22 _
            (has_of 21 d blocks is refl) ∙ has.1,
      )
      by true false true e f = (
        writes_hold blocks 22 21 _ (has_of 22 d blocks is refl)
            ∙ has.0,
        writes_hold blocks 22 22 _ (has_of 22 d blocks is refl),
      )
      by true false false e f = has

  recorded : (blocks : List Block) (calls : List CommandCall) (phase : ℕ) (o : Option Write) → IsOf d blocks
      → IfSome o (λ (w : Write). put_fault (find_block w.raw blocks) phase w.bytes ≡ None)
      → Contain calls blocks → Contain (calls_with o blocks calls) (blocks_with o (commands calls) blocks)
  recorded blocks calls phase None is fine has = has
  recorded blocks calls phase (Some w) is fine has = elim (cases_Bool (is_command blocks w.raw)) [
    | inl on ↦
        rw on (listed w.raw (command_value w) w.cycle (with_data w.raw w.bytes blocks) calls
        ((writes_keep d blocks w.raw phase w.bytes is.1 is.0).0 fine) written)
    | inr off ↦ rw off written
  ]
    where
      written : Contain calls (with_data w.raw w.bytes blocks)
      written = (
        stays blocks w.raw 21 w.bytes (other 21 locks_21 blocks w.raw phase w.bytes is.0 fine) ∙ has.0,
        stays blocks w.raw 22 w.bytes (other 22 locks_22 blocks w.raw phase w.bytes is.0 fine) ∙ has.1,
      )

  kept_by : (phase : ℕ) (calls : List CommandCall) (blocks : List Block) → Contain calls blocks → Contain (with_reset phase calls) blocks
  kept_by phase calls blocks has = cond_both (phase == 0) (Reset ∷ calls) calls (λ v. Contain v blocks) (λ on. has) (λ off. has)

  opening : Contain [] (store_of d)
  unfolding row_in
  opening = ((rw (find_store_of 21 d none, find_built_in d 21) refl), (rw (find_store_of 22 d none, find_built_in d 22) refl))

  pub contain_at : (h : List DriveCall) → are_ascending (store_of d) ≡ true
      → Contain (command_calls (annals d rate h)) (blocks_in d (annals d rate h))
  contain_at [] up = opening
  contain_at (DriveRestart ∷ h) up = contain_at h up
  contain_at (Mst cycle content ∷ h) up = kept_by (stands_in d rate cycle (mst_got content) (annals d rate h)) (command_calls (annals d rate h)) (blocks_in d (annals d rate h)) (contain_at h up)
  contain_at (Mdt content ∷ h) up =
      let past = annals d rate h in
      let told = mdt_got d.address (phase_in past) (blocks_in d past) content in
      kept_by (ends_in told past) (calls_after (processed_at d rate told past) (records_in past) (command_calls past)) (blocks_after (processed_at d rate told past) (records_in past) (blocks_in d past)) (processed_keeps
      (λ o. Contain (calls_after o (records_in past) (command_calls past)) (blocks_after o (records_in past) (blocks_in d past))) d rate told past
      (contain_at h up) (λ t.
      let one = taken_at d rate past t in
      recorded (blocks_in d past) (command_calls past) (phase_in past) (added_on one (records_in past)) (store_of_so d rate h up) (allowed one (records_in past) (handed_those d rate h)) (contain_at h up)))

pub lists_are_found : ListsAreFound
lists_are_found d rate h none store = contain_at d rate none h store.ascending
