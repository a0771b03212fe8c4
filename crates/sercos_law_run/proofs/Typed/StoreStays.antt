-- A drive's store stays one, whatever is written to it.
use Rattle.sercos_law_run.proofs.Words.{◌≡◌, ◌⊎◌, inl, inr, ℕ, suc, ◌*◌, ◌<◌, ◌≤◌, ◌==◌, nat_lt, Bool, true, false, List, [], ◌∷◌, length, map, Option, Some, None, IfSome, slice_get, refl, sym, subst, arith, list_all, position, filter, and_parts, nat_tests, Idn, Block, find_block, with_data, put_fault, is_len, IsStore, IsWritten-at, fits-put_fault, find_block-at, find_block-nowhere, with_data-nowhere, fits-given, bytes_from, listed_if, is_outside, list_bytes, is_command, CommandHistory, Write, command_value, blocks_with, AreBytes, is_typed, unfit_for_phase_3, unfit_for_phase_4, with_check_list, cases_Bool, cond_both}
use Rattle.sercos_law_run.proofs.Start.LaterLemmas.{after_check}

-- A WRITE
put_at : (raw : ℕ) (bytes : List ℕ) (blocks : List Block) (place : Option ℕ) → IsStore blocks → position (λ b. b.idn.raw == raw) blocks ≡ place →
    (find_block raw blocks ≡ None → IsStore (with_data raw bytes blocks)) → ((i : ℕ) → position (λ b. b.idn.raw == raw) blocks ≡ Some i → IsStore (with_data raw bytes blocks)) → IsStore (with_data raw bytes blocks)
put_at raw bytes blocks None is at none some = none (find_block-nowhere blocks raw at)
put_at raw bytes blocks (Some i) is at none some = some i at

-- at the place of the identifier number, or nowhere
written : (raw : ℕ) (bytes : List ℕ) (blocks : List Block) → IsStore blocks → AreBytes bytes → ((i : ℕ) → position (λ b. b.idn.raw == raw) blocks ≡ Some i → IfSome (slice_get blocks i) (λ b. is_len b (length bytes) ≡ true)) → IsStore (with_data raw bytes blocks)
written raw bytes [] is are fits = is
written raw bytes (d ∷ blocks) is are fits = put_at raw bytes (d ∷ blocks) (position (λ b. b.idn.raw == raw) (d ∷ blocks)) is refl
    (λ none. subst IsStore (sym (with_data-nowhere (d ∷ blocks) raw bytes none)) is)
    (λ i at. let w = IsWritten-at raw bytes (d ∷ blocks) i d is at (fits i at) (bytes_from bytes are) in subst IsStore w.same w.store)

-- THE LISTS OF THE CHECKS
record FitsList (idns : List Idn) (n : ℕ) : Type 0 where
  short : length (list_bytes idns) ≤ 2 * n
  bytes : AreBytes (list_bytes idns)

none_listed : FitsList [] 0
unfolding AreBytes
none_listed = record { short = omega arith; bytes = tt }

one_listed : (i : Idn) (idns : List Idn) (n : ℕ) → i.raw < 65536 → FitsList idns n → FitsList (i ∷ idns) (suc n)
unfolding AreBytes
one_listed i idns n low f = let short = f.short in record { short = omega (arith, short); bytes = (omega arith, (omega (arith, low), f.bytes)) }

more_room : (idns : List Idn) (n m : ℕ) → n ≤ m → FitsList idns n → FitsList idns m
more_room idns n m room f = let short = f.short in record { short = omega (arith, short, room); bytes = f.bytes }

named_listed : (raw n : ℕ) (broken : Bool) (rest : List Idn) → raw < 65536 → FitsList rest n → FitsList (listed_if raw broken rest) (suc n)
named_listed raw n true rest low f = one_listed (record { raw = raw }) rest n low f
named_listed raw n false rest low f = more_room rest n (suc n) (omega arith) f

listed_3 : (rate : ℕ) (blocks : List Block) → FitsList (unfit_for_phase_3 rate blocks) 11
unfolding unfit_for_phase_3
listed_3 rate blocks =
    named_listed 1 10 _ _ (omega arith) (named_listed 2 9 _ _ (omega arith) (named_listed 6 8 _ _ (omega arith) (named_listed 7 7 _ _ (omega arith) (named_listed 8 6 _ _ (omega arith)
    (named_listed 9 5 _ _ (omega arith) (named_listed 10 4 _ _ (omega arith) (named_listed 15 3 _ _ (omega arith) (named_listed 16 2 _ _ (omega arith) (named_listed 24 1 _ _ (omega arith)
    (named_listed 89 0 _ _ (omega arith) none_listed))))))))))

pub raw_typed : (b : Block) → is_typed b ≡ true → b.idn.raw < 65536
unfolding is_typed
raw_typed b typed = grind (arith, nat_tests, (and_parts (nat_lt b.idn.raw 65536) _ typed).0)

listed_4 : (blocks : List Block) → list_all is_typed blocks ≡ true → FitsList (unfit_for_phase_4 blocks) (length blocks)
unfolding unfit_for_phase_4
listed_4 [] typed = none_listed
listed_4 (b ∷ blocks) typed =
    let parts = and_parts (is_typed b) (list_all is_typed blocks) typed in
    cond_both (is_outside b) (b ∷ filter is_outside blocks) (filter is_outside blocks)
    (λ l. FitsList (map (λ (c : Block). c.idn) l) (suc (length blocks)))
    (λ on. one_listed b.idn _ (length blocks) (raw_typed b parts.0) (listed_4 blocks parts.1))
    (λ off. more_room _ (length blocks) (suc (length blocks)) (omega arith) (listed_4 blocks parts.1))

given_stays : (raw n : ℕ) (idns : List Idn) (blocks : List Block) → IsStore blocks → ((raw ≡ 21) ⊎ (raw ≡ 22)) → n ≤ 64 → FitsList idns n → IsStore (with_data raw (list_bytes idns) blocks)
given_stays raw n idns blocks is given few f =
    let short = f.short in
    written raw (list_bytes idns) blocks is f.bytes (λ i at. fits-given raw (length (list_bytes idns)) blocks i is at given (omega (arith, short, few)))

lists_stay : (c : CommandHistory) (raw value : ℕ) (blocks : List Block) → IsStore blocks → IsStore (with_check_list c raw value blocks)
lists_stay c raw value blocks is = after_check c blocks raw value IsStore is
    (given_stays 21 11 (unfit_for_phase_3 c.rate blocks) blocks is (inl refl) (omega arith) (listed_3 c.rate blocks))
    (λ two. given_stays 22 (length blocks) (unfit_for_phase_4 blocks) blocks is (inr refl) (omega (arith, is.few))
    (listed_4 blocks is.typed))

-- WHAT A RECORD WRITES, if it writes something
pub blocks_stay : (w : Option Write) (c : CommandHistory) (phase : ℕ) (blocks : List Block) → IsStore blocks → IfSome w (λ x. put_fault (find_block x.raw blocks) phase x.bytes ≡ None) → IfSome w (λ x. AreBytes x.bytes) → IsStore (blocks_with w c blocks)
blocks_stay None c phase blocks is allowed are = is
blocks_stay (Some w) c phase blocks is allowed are =
    let put = written w.raw w.bytes blocks is are (λ i at. subst (λ (o : Option Block). IfSome o (λ b. is_len b (length w.bytes) ≡ true))
    (find_block-at blocks w.raw i at) (fits-put_fault (find_block w.raw blocks) phase w.bytes allowed)) in
    elim (cases_Bool (is_command blocks w.raw)) [
      | inl on ↦ rw on (lists_stay c w.raw (command_value w) (with_data w.raw w.bytes blocks) put)
      | inr off ↦ rw off put
    ]
