-- Numbers and lists that a drive holds, and the lengths of what its telegrams carry.
use Rattle.sercos_law_run.proofs.Words.{◌≡◌, ℕ, ◌+◌, ◌*◌, ◌<◌, ◌/◌, ◌%◌, true, false, not, ◌&&◌, List, [], ◌∷◌, Option, Some, None, is_some, option_map, unwrap_or, refl, ◌∙◌, ap, arith, list_all, fold, w16, to_le_bytes, and_parts, and_from, Idn, Block, DriveView, is_fixed, blocks_fault, find_block, store_of, cyclic_len, data_at, list_bytes, is_given, kept, IsStoreOf, AreAsLong, built_in, listed_len, are_cyclic, idns_at, carried_len, breaks_list, cases_Bool, inl, inr, number_at, idns_listed}
use Rattle.sercos_command.specs.Checks as checks
use Rattle.sercos_law_run.proofs.Start.BlockFinds.{find_store_of, same_kept, carry_alike}
use Rattle.sercos_law_run.proofs.Start.LimitLemmas.{or_first}

pub number_is : (blocks : List Block) (raw n : ℕ) → data_at blocks raw ≡ to_le_bytes w16 n → n < 65536 → number_at blocks raw ≡ n
unfolding number_at
number_is blocks raw n e small = rw e (omega arith)

pub idns_back : (idns : List Idn) → idns_listed (list_bytes idns) ≡ idns
idns_back [] = refl
idns_back (idn ∷ idns) = let same : idn.raw % 256 + 256 * (idn.raw / 256) ≡ idn.raw = omega arith in rw (same, idns_back idns) refl

idns_are : (blocks : List Block) (raw : ℕ) (idns : List Idn) → data_at blocks raw ≡ list_bytes idns → idns_at blocks raw ≡ idns
unfolding idns_at
idns_are blocks raw idns e = rw e (idns_back idns)

sum_same : (f g : Idn → ℕ) → ((idn : Idn) → f idn ≡ g idn) → (a : ℕ) (idns : List Idn) → fold (λ (n : ℕ) (idn : Idn). n + f idn) a idns ≡ fold (λ (n : ℕ) (idn : Idn). n + g idn) a idns
sum_same f g same a [] = refl
sum_same f g same a (idn ∷ idns) = rw (same idn) (sum_same f g same (a + g idn) idns)

as_long : (d : DriveView) (blocks : List Block) (raw : ℕ) (idns : List Idn) → blocks_fault [] d.blocks ≡ None → IsStoreOf d blocks → data_at blocks raw ≡ list_bytes idns
    → carried_len blocks raw ≡ listed_len d.blocks idns
unfolding carried_len listed_len
as_long d blocks raw idns none is e =
    rw (idns_are blocks raw idns e)
    (ap (λ n. 4 + n) (sum_same (λ (idn : Idn). unwrap_or (checks.cyclic_len blocks idn.raw) 0) (λ (idn : Idn). unwrap_or (cyclic_len d.blocks idn.raw) 0)
    (λ idn. ap (λ o. unwrap_or o 0) (carry_alike d blocks none is idn.raw)) 0 idns))

pub are_as_long : AreAsLong
are_as_long d blocks none is = (as_long d blocks 16 d.at none is, as_long d blocks 24 d.mdt none is)

-- a telegram can carry all of a list
all_carried : (d : DriveView) (blocks : List Block) (idns : List Idn) → blocks_fault [] d.blocks ≡ None → IsStoreOf d blocks → are_cyclic d.blocks idns ≡ true
    → list_all (checks.is_cyclic blocks) idns ≡ true
unfolding are_cyclic
all_carried d blocks [] none is all = refl
all_carried d blocks (idn ∷ idns) none is all =
    let (here, rest) = and_parts (is_some (cyclic_len d.blocks idn.raw)) _ all in
    and_from _ _ (rw (carry_alike d blocks none is idn.raw) here) (all_carried d blocks idns none is rest)

pub list_fits : (d : DriveView) (blocks : List Block) (raw : ℕ) (idns : List Idn) → blocks_fault [] d.blocks ≡ None → IsStoreOf d blocks → data_at blocks raw ≡ list_bytes idns
    → are_cyclic d.blocks idns ≡ true → breaks_list raw blocks ≡ false
unfolding breaks_list
list_fits d blocks raw idns none is e all = rw (idns_are blocks raw idns e, all_carried d blocks idns none is all) refl

-- a fixed block has the operation data that it was opened with
value_kept : (o : Option Block) (c : Block) (x : ℕ) (xs : List ℕ) → option_map kept o ≡ Some c → c.value ≡ x ∷ xs → unwrap_or (option_map (λ (b : Block). b.value) o) [] ≡ x ∷ xs
value_kept None c x xs e is = cc
value_kept (Some b) c x xs e is = elim (cases_Bool (is_fixed b && not (is_given b.idn.raw))) [
  | inl on ↦ let e = rw on at e in let same : b ≡ c = cc in ap (λ (b : Block). b.value) same ∙ is
  | inr off ↦ let e = rw off at e in
      let same : record b { value = [] } ≡ c = cc in
      let empty : [] ≡ c.value = ap (λ (b : Block). b.value) same in cc
]

-- the times that the drive declares
pub record DeclaresTimes (d : DriveView) (blocks : List Block) : Type 0 where
  pub t1min : data_at blocks 3 ≡ to_le_bytes w16 d.times.t1min
  pub tatmt : data_at blocks 4 ≡ to_le_bytes w16 d.times.tatmt
  pub t4min : data_at blocks 5 ≡ to_le_bytes w16 d.times.t4min
  pub tatat : data_at blocks 87 ≡ to_le_bytes w16 d.times.tatat
  pub tmtsy : data_at blocks 88 ≡ to_le_bytes w16 d.times.tmtsy
  pub tmtsg : data_at blocks 90 ≡ to_le_bytes w16 d.times.tmtsg

time_kept : (d : DriveView) (blocks : List Block) (raw : ℕ) (c : Block) (n : ℕ) → blocks_fault [] d.blocks ≡ None → IsStoreOf d blocks
    → find_block raw (built_in d) ≡ Some c → kept c ≡ c → c.value ≡ to_le_bytes w16 n → data_at blocks raw ≡ to_le_bytes w16 n
time_kept d blocks raw c n none is there same value =
    let at : find_block raw (store_of d) ≡ Some c = find_store_of raw d none ∙ or_first _ _ c there in
    value_kept (find_block raw blocks) c _ _ (same_kept raw d blocks is ∙ ap (option_map kept) at ∙ ap Some same) value

pub declares_times : (d : DriveView) (blocks : List Block) → blocks_fault [] d.blocks ≡ None → IsStoreOf d blocks → DeclaresTimes d blocks
unfolding built_in
declares_times d blocks none is = record {
  t1min = time_kept d blocks 3 _ d.times.t1min none is refl refl refl;
  tatmt = time_kept d blocks 4 _ d.times.tatmt none is refl refl refl;
  t4min = time_kept d blocks 5 _ d.times.t4min none is refl refl refl;
  tatat = time_kept d blocks 87 _ d.times.tatat none is refl refl refl;
  tmtsy = time_kept d blocks 88 _ d.times.tmtsy none is refl refl refl;
  tmtsg = time_kept d blocks 90 _ d.times.tmtsg none is refl refl refl;
}
