-- In phases 3 and 4 the check for phase 3 finds nothing in a drive's store.
use Rattle.sercos_law_run.proofs.Words.{◌≡◌, ℕ, ◌+◌, ◌≤◌, ◌==◌, Bool, true, false, ◌&&◌, List, [], ◌∷◌, Option, Some, None, refl, sym, ◌∙◌, ap, ap₂, subst, arith, is_some, option_map, unwrap_or, list_all, sum_by, false≢true, sum_by-cons, other_place, Idn, Attribute, Block, blocks_fault, find_block, with_data, put_fault, DriveView, data_at, is_cyclic, is_command, is_passed-kept, may_rise, IsStoreOf, FitInThree, attribute_of, attribute_fault, attribute_in, row_in, built_in_attribute, block_attribute, idns_at, carried_len, breaks_1, breaks_2, breaks_6, breaks_7, breaks_8, breaks_9, breaks_10, breaks_15, breaks_list, breaks_89, unfit_for_phase_3, AllByRecursion, command_calls, number_at}
use Rattle.sercos_law_run.proofs.Start.Nested.{◌&◌}
use Rattle.sercos_command.specs.Checks.{cyclic_len}
use Rattle.sercos_law_run.proofs.Start.BlockFinds.{carry_alike, same_attribute}
use Rattle.sercos_law_run.proofs.Start.KeptLemmas.{bare, in_two, stays, writes_keep}
use Rattle.sercos_law_run.proofs.Start.WellLemmas.{none_long}
use Rattle.sercos_law_run.proofs.Stations.KeepsFit.{IsFound, holds_at}
use Rattle.std.proofs.lemmas.List.Elements.{All-from_recursion, All-weaker, recursion_from_All}

-- The block with a number is no procedure command, and protected in phases 3 and 4.
pub record IsLater (d : DriveView) (raw : ℕ) : Type 0 where
  pub attribute : Attribute
  pub has : block_attribute d.blocks raw ≡ Some attribute
  pub plain : attribute.command ≡ false
  pub three : attribute.protect3 ≡ true
  pub four : attribute.protect4 ≡ true

of_attribute : (o : Option Block) (a : Attribute) (f : Attribute → Bool) → option_map (λ (b : Block). b.attribute) o ≡ Some a
    → unwrap_or (option_map (λ (b : Block). f b.attribute) o) false ≡ f a
of_attribute None a f e = cc
of_attribute (Some b) a f e = let same : b.attribute ≡ a = cc in ap f same

-- So a write that is accepted there, and one to a procedure command, is to another block
pub other_later : (d : DriveView) (n : ℕ) (blocks : List Block) (raw phase : ℕ) (bytes : List ℕ) → blocks_fault [] d.blocks ≡ None
    → IsStoreOf d blocks → IsLater d n → 3 ≤ phase
    → put_fault (find_block raw blocks) phase bytes ≡ None → (n == raw) ≡ false
other_later d n blocks raw phase bytes none is later late fine =
    other_place n raw (λ same.
    omega (
      arith,
      in_two later.attribute phase later.three later.four
          (bare (find_block n blocks) phase bytes later.attribute (same_attribute n d blocks none is ∙ later.has)
          (subst (λ (m : ℕ). put_fault (find_block m blocks) phase bytes ≡ None) (sym same) fine)),
      late,
    ))

pub other_command : (d : DriveView) (n : ℕ) (blocks : List Block) (raw : ℕ) → blocks_fault [] d.blocks ≡ None → IsStoreOf d blocks
    → IsLater d n → is_command blocks raw ≡ true → (n == raw) ≡ false
other_command d n blocks raw none is later command =
    other_place n raw (λ same. false≢true (sym (of_attribute (find_block n blocks) later.attribute (λ (a : Attribute). a.command) (same_attribute n d blocks none is ∙ later.has) ∙ later.plain)
    ∙ subst (λ (m : ℕ). is_command blocks m ≡ true) (sym same) command))

-- WHAT THE CHECK LOOKS AT: the operation data of these blocks, and of each block whether it is a number.
abbrev looks_at : List ℕ
looks_at = 1 ∷ 2 ∷ 3 ∷ 4 ∷ 5 ∷ 6 ∷ 7 ∷ 8 ∷ 9 ∷ 10 ∷ 15 ∷ 16 ∷ 24 ∷ 89 ∷ []

abbrev pub later_by : (d : DriveView) (raw : ℕ) (a : Attribute) → block_attribute d.blocks raw ≡ Some a → a.command ≡ false
    → a.protect3 ≡ true → a.protect4 ≡ true → IsLater d raw
later_by d raw a has plain three four = record { attribute = a; has = has; plain = plain; three = three; four = four }

all_later : (d : DriveView) → AllByRecursion (IsLater d) looks_at
unfolding block_attribute built_in_attribute row_in attribute_in attribute_fault attribute_of
all_later d =
    later_by d 1 _ refl refl refl refl
    & later_by d 2 _ refl refl refl refl
    & later_by d 3 _ refl refl refl refl
    & later_by d 4 _ refl refl refl refl
    & later_by d 5 _ refl refl refl refl
    & later_by d 6 _ refl refl refl refl
    & later_by d 7 _ refl refl refl refl
    & later_by d 8 _ refl refl refl refl
    & later_by d 9 _ refl refl refl refl
    & later_by d 10 _ refl refl refl refl
    & later_by d 15 _ refl refl refl refl
    & later_by d 16 _ refl refl refl refl
    & later_by d 24 _ refl refl refl refl
    & later_by d 89 _ refl refl refl refl
    & tt

sum_same : (f g : Idn → ℕ) (idns : List Idn) → ((i : Idn) → f i ≡ g i) → sum_by f idns ≡ sum_by g idns
sum_same f g [] same = refl
sum_same f g (i ∷ idns) same = sum_by-cons f i idns ∙ ap₂ (λ (m n : ℕ). m + n) (same i) (sum_same f g idns same) ∙ sym (sum_by-cons g i idns)

all_same : (f g : Idn → Bool) (idns : List Idn) → ((i : Idn) → f i ≡ g i) → list_all f idns ≡ list_all g idns
all_same f g [] same = refl
all_same f g (i ∷ idns) same = ap₂ (λ (m n : Bool). m && n) (same i) (all_same f g idns same)

-- Two stores in which these blocks have the same operation data, and each block is a number in both or in none.
record LookAlike (blocks others : List Block) : Type 0 where
  values : AllByRecursion (λ n. data_at others n ≡ data_at blocks n) looks_at
  carry : (raw : ℕ) → cyclic_len others raw ≡ cyclic_len blocks raw

unfit_alike : (rate : ℕ) (blocks others : List Block) → LookAlike blocks others
    → unfit_for_phase_3 rate others ≡ unfit_for_phase_3 rate blocks
unfolding unfit_for_phase_3 breaks_1 breaks_2 breaks_6 breaks_7 breaks_8 breaks_9 breaks_10 breaks_15 breaks_list breaks_89 number_at idns_at carried_len
unfit_alike rate blocks others alike =
    let (e1, (e2, (e3, (e4, (e5, (e6, (e7, (e8, (e9, (e10, (e15, (e16, (e24, (e89, _)))))))))))))) = alike.values in
    let cyclic16 = all_same (is_cyclic others) (is_cyclic blocks) (idns_at blocks 16) (λ i. ap is_some (alike.carry i.raw)) in
    let cyclic24 = all_same (is_cyclic others) (is_cyclic blocks) (idns_at blocks 24) (λ i. ap is_some (alike.carry i.raw)) in
    let long16 = sum_same (λ i. unwrap_or (cyclic_len others i.raw) 0) (λ i. unwrap_or (cyclic_len blocks i.raw) 0) (idns_at blocks 16) (λ i. ap (λ (o : Option ℕ). unwrap_or o 0) (alike.carry i.raw)) in
    let long24 = sum_same (λ i. unwrap_or (cyclic_len others i.raw) 0) (λ i. unwrap_or (cyclic_len blocks i.raw) 0) (idns_at blocks 24) (λ i. ap (λ (o : Option ℕ). unwrap_or o 0) (alike.carry i.raw)) in
    rw (e1, e2, e3, e4, e5, e6, e7, e8, e9, e10, e15, e16, e24, e89, cyclic16, cyclic24, long16, long24) refl

module _ (d : DriveView) (rate : ℕ) (none : blocks_fault [] d.blocks ≡ None) where
  abbrev IsFit : List Block → Type 0
  IsFit blocks = unfit_for_phase_3 rate blocks ≡ []

  written : (blocks : List Block) (raw : ℕ) (bytes : List ℕ) → IsStoreOf d blocks → IsStoreOf d (with_data raw bytes blocks)
      → AllByRecursion (λ n. (n == raw) ≡ false) looks_at → IsFit blocks → IsFit (with_data raw bytes blocks)
  written blocks raw bytes is after others fit = unfit_alike rate blocks (with_data raw bytes blocks) (record {
    values = recursion_from_All (λ n. data_at (with_data raw bytes blocks) n ≡ data_at blocks n) looks_at
        (All-weaker (λ n. (n == raw) ≡ false) _ (λ n other. stays blocks raw n bytes other) looks_at
        (All-from_recursion (λ n. (n == raw) ≡ false) looks_at others));
    carry = λ i. carry_alike d (with_data raw bytes blocks) none after i ∙ sym (carry_alike d blocks none is i);
  }) ∙ fit

  each_other : (raw : ℕ) → ((n : ℕ) → IsLater d n → (n == raw) ≡ false) → AllByRecursion (λ n. (n == raw) ≡ false) looks_at
  each_other raw other = recursion_from_All (λ n. (n == raw) ≡ false) looks_at
      (All-weaker (IsLater d) _ other looks_at (All-from_recursion (IsLater d) looks_at (all_later d)))

  pub found_in_3 : IsFound d rate 127 3 IsFit
  found_in_3 = record {
    above = omega arith;
    set = λ blocks well. none_long (unfit_for_phase_3 rate blocks) well;
    -- the lists of the checks are none of the blocks that the check looks at
    listed = λ blocks bytes is fit. (
      written blocks 21 bytes is.0 ((writes_keep d blocks 21 0 bytes is.1 is.0).1 refl)
          (refl, (refl, (refl, (refl, (refl, (refl, (refl, (refl, (refl, (refl, (refl, (refl, (refl, (refl, tt)))))))))))))) fit,
      written blocks 22 bytes is.0 ((writes_keep d blocks 22 0 bytes is.1 is.0).1 refl)
          (refl, (refl, (refl, (refl, (refl, (refl, (refl, (refl, (refl, (refl, (refl, (refl, (refl, (refl, tt)))))))))))))) fit,
    );
    command = λ blocks raw phase bytes is fine command fit.
        written blocks raw bytes is.0 ((writes_keep d blocks raw phase bytes is.1 is.0).0 fine) (each_other raw (λ n such. other_command d n blocks raw none is.0 such command)) fit;
    later = λ blocks raw phase bytes is fine late below fit.
        written blocks raw bytes is.0 ((writes_keep d blocks raw phase bytes is.1 is.0).0 fine) (each_other raw (λ n such. other_later d n blocks raw phase bytes none is.0 such late fine)) fit;
    rise = λ cycle phase past high low has. let is : phase ≡ 3 = omega (arith, high, low) in sym
        (is_passed-kept rate d.command 127 (command_calls past) cycle) ∙ subst (λ (p : ℕ). may_rise d rate cycle p past ≡ true) is has;
  }

pub fit_in_three : FitInThree
fit_in_three d rate h none store high = (holds_at d rate 127 3 (IsFit d rate none) (found_in_3 d rate none) h store.ascending).stands high
