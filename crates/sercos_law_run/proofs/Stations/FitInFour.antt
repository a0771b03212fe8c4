-- In phase 4 no block of a drive has operation data outside its limits.
use Rattle.sercos_law_run.proofs.Words.{◌≡◌, ℕ, ◌≤◌, ◌==◌, nat_lt, Bool, true, false, not, ◌||◌, List, [], ◌∷◌, length, Option, Some, None, IfSome, refl, sym, ◌∙◌, ap, ap₂, subst, arith, option_map, list_all, and_parts, false≢true, nat_tests, none_of-or, Attribute, Block, is_number, blocks_fault, find_block, with_data, write_fault, data_fault, put_fault, DriveView, with_data-nowhere, is_outside, is_passed-kept, may_rise, FitInFour, attribute_of, attribute_fault, attribute_in, row_in, built_in_attribute, block_attribute, are_ascending, unfit_for_phase_4, cases_Bool, inl, inr, command_calls, is_below, is_above}
use Rattle.sercos_law_run.proofs.Undisturbed.Checks.OwnInside.{within}
use Rattle.sercos_law_run.proofs.Start.BlockFinds.{same_attribute}
use Rattle.sercos_law_run.proofs.Start.KeptLemmas.{above_none}
use Rattle.sercos_law_run.proofs.Held.StoreOf.{IsOf}
use Rattle.sercos_law_run.proofs.Stations.KeepsFit.{IsFound, holds_at}

abbrev AreInside : List Block → Type 0
AreInside blocks = list_all (λ b. not (is_outside b)) blocks ≡ true

-- the check finds nothing iff all are inside
inside_so : (blocks : List Block) → (length (unfit_for_phase_4 blocks) == 0) ≡ true → AreInside blocks
unfolding unfit_for_phase_4
inside_so [] none = refl
inside_so (b ∷ blocks) none = elim (cases_Bool (is_outside b)) [
  | inl on ↦ let more = inside_so blocks in absurd (grind (arith, nat_tests, (rw on at none)))
  | inr off ↦ rw off (inside_so blocks (rw off at none))
]

none_so : (blocks : List Block) → AreInside blocks → unfit_for_phase_4 blocks ≡ []
unfolding unfit_for_phase_4
none_so [] inside = refl
none_so (b ∷ blocks) inside = elim (cases_Bool (is_outside b)) [
  | inl on ↦ absurd (false≢true (rw on at inside))
  | inr off ↦ rw off (none_so blocks (rw off at inside))
]

-- a write that leaves the block inside its limits leaves all of them so
inside_written : (raw : ℕ) (bytes : List ℕ) (blocks : List Block) → are_ascending blocks ≡ true
    → IfSome (find_block raw blocks) (λ (b : Block). is_outside (record b { value = bytes }) ≡ false)
    → AreInside blocks → AreInside (with_data raw bytes blocks)
unfolding are_ascending
inside_written raw bytes [] up fine inside = refl
inside_written raw bytes (b ∷ blocks) up fine inside =
    let (above, rest) = and_parts (list_all (λ c. nat_lt b.idn.raw c.idn.raw) blocks) (are_ascending blocks) up in
    let (here, others) = and_parts (not (is_outside b)) (list_all (λ b. not (is_outside b)) blocks) inside in
    (elim (cases_Bool (b.idn.raw == raw)) [
      | inl e ↦ rw e (let more = inside_written raw bytes blocks rest in
          let under : raw ≤ b.idn.raw = grind (arith, nat_tests, e) in
          rw (with_data-nowhere blocks raw bytes (above_none b.idn.raw raw blocks under above), (rw e at fine)) others)
      | inr e ↦ rw e (rw here (inside_written raw bytes blocks rest (rw e at fine) others))
    ])

-- An accepted write is inside the limits.
accepted : (o : Option Block) (phase : ℕ) (bytes : List ℕ) → put_fault o phase bytes ≡ None
    → IfSome o (λ (b : Block). is_outside (record b { value = bytes }) ≡ false)
accepted None phase bytes fine = tt
accepted (Some b) phase bytes fine = within b bytes (none_of-or (write_fault (Some b) phase) (data_fault b bytes) fine).1

-- So is a list, which has none.
list_inside : (b : Block) (bytes : List ℕ) → is_number b.attribute ≡ false → is_outside (record b { value = bytes }) ≡ false
list_inside b bytes list = ap₂ (λ (x y : Bool). x || y) (below b.min) (above b.max)
  where
    below : (o : Option ℕ) → is_below (record b { value = bytes }) bytes o ≡ false
    below None = refl
    below (Some limit) = rw list refl

    above : (o : Option ℕ) → is_above (record b { value = bytes }) bytes o ≡ false
    above None = refl
    above (Some limit) = rw list refl

module _ (d : DriveView) (rate : ℕ) (none : blocks_fault [] d.blocks ≡ None) where
  listed_at : (raw : ℕ) (blocks : List Block) (bytes : List ℕ) (a : Attribute) → block_attribute d.blocks raw ≡ Some a
      → is_number a ≡ false → IsOf d blocks → AreInside blocks → AreInside (with_data raw bytes blocks)
  listed_at raw blocks bytes a has list is inside =
      inside_written raw bytes blocks is.1 (by (find_block raw blocks) (same_attribute raw d blocks none is.0 ∙ has)) inside
    where
      by : (o : Option Block) → option_map (λ (b : Block). b.attribute) o ≡ Some a
          → IfSome o (λ (b : Block). is_outside (record b { value = bytes }) ≡ false)
      by None e = tt
      by (Some b) e = let same : b.attribute ≡ a = cc in list_inside b bytes (ap is_number same ∙ list)

  found_in_4 : IsFound d rate 128 4 AreInside
  unfolding block_attribute built_in_attribute row_in attribute_in attribute_fault attribute_of
  found_in_4 = record {
    above = omega arith;
    set = λ blocks well. inside_so blocks well;
    listed = λ blocks bytes is inside. (listed_at 21 blocks bytes _ refl refl is inside, listed_at 22 blocks bytes _ refl refl is inside);
    command = λ blocks raw phase bytes is fine command inside. inside_written raw bytes blocks is.1 (accepted (find_block raw blocks) phase bytes fine) inside;
    later = λ blocks raw phase bytes is fine late below inside. inside_written raw bytes blocks is.1 (accepted (find_block raw blocks) phase bytes fine) inside;
    rise = λ cycle phase past high low has. let is : phase ≡ 4 = omega (arith, high, low) in sym
        (is_passed-kept rate d.command 128 (command_calls past) cycle) ∙ subst (λ (p : ℕ). may_rise d rate cycle p past ≡ true) is has;
  }

pub fit_in_four : FitInFour
fit_in_four d rate h none store high = none_so _ ((holds_at d rate 128 4 AreInside (found_in_4 d rate none) h store.ascending).stands high)
