-- Which start-up values a store holds while the master writes them, and after.
use Rattle.sercos_law_run.proofs.Words.{◌≡◌, ℕ, zero, suc, ◌+◌, ◌*◌, ◌/◌, ◌%◌, ◌==◌, nat_lt, Bool, true, false, cond, not, ◌&&◌, List, [], ◌∷◌, ◌++◌, map, take, Option, Some, None, option_map, slice_get, slice_index, refl, sym, ◌∙◌, ap, arith, w16, to_le_bytes, list_all, if◌then◌else◌, eq-eqb, cond-true, list_any-append, list_any-IsPermutation, Idn, Attribute, is_list, words_of, bytes_in, at_least_one, PlanView, Block, is_built_in, has_block, blocks_fault, find_block, with_data, store_of, DriveView, store_of-permutes, data_at, unfit_for_phase_3, unfit_for_phase_4, list_bytes, is_command, is_set, CommandHistory, kept, IsStoreOf, Holds, start_up, command_value, blocks_with, BlocksKeep, NoneOf, StayHeld, HoldsNext, IsProtectedLater, StartUpIsProtected, ChecksAreProtected, StoresStartUpWhole, ListsStay, attribute_fault, attribute_of, built_in, attribute_in, row_in, built_in_attribute, block_attribute, are_ascending, with_check_list, cases_Bool, inl, inr}
use Rattle.sercos_law_run.proofs.Start.Nested.{◌&◌}
use Rattle.sercos_law_run.proofs.Start.BlockFinds.{kept_idn, same_attribute}
use Rattle.sercos_law_run.proofs.Start.KeptLemmas.{stays, writes_hold, writes_keep}

pub stay_held : StayHeld
stay_held blocks raw bytes [] other holds = tt
stay_held blocks raw bytes (v ∷ values) other holds = (stays blocks raw v.0 bytes other.0 ∙ holds.0, stay_held blocks raw bytes values other.1 holds.1)

-- the store has each built-in block
has_kept : (raw : ℕ) (blocks : List Block) → has_block raw (map kept blocks) ≡ has_block raw blocks
has_kept raw [] = refl
has_kept raw (b ∷ blocks) = rw (kept_idn b, has_kept raw blocks) refl

has_store_of : (raw : ℕ) (d : DriveView) → is_built_in raw ≡ true → has_block raw (store_of d) ≡ true
unfolding built_in
has_store_of raw d built =
    let p : Block → Bool = λ b. b.idn.raw == raw in
    sym (list_any-IsPermutation p (built_in d ++ d.blocks) (store_of d) (store_of-permutes d)) ∙ list_any-append p (built_in d) d.blocks ∙ rw built refl

pub has_of : (raw : ℕ) (d : DriveView) (blocks : List Block) → IsStoreOf d blocks → is_built_in raw ≡ true → has_block raw blocks ≡ true
has_of raw d blocks is built = sym (has_kept raw blocks) ∙ ap (has_block raw) is ∙ has_kept raw (store_of d) ∙ has_store_of raw d built

-- one more value is held
holds_more : (blocks : List Block) (v : ℕ × List ℕ) (values : List (ℕ × List ℕ)) (n : ℕ) → has_block v.0 blocks ≡ true → slice_get values n ≡ Some v → NoneOf v.0 (take n values)
    → Holds blocks (take n values) → Holds (with_data v.0 v.1 blocks) (take (n + 1) values)
holds_more blocks v [] n has at other holds = cc
holds_more blocks v (u ∷ values) zero has at other holds =
    let same : u ≡ v = cc in
    let here : data_at (with_data v.0 v.1 blocks) u.0 ≡ u.1 = rw same (writes_hold blocks v.0 v.0 v.1 has ∙ rw (eq-eqb v.0 v.0 refl) refl) in
    (here, tt)
holds_more blocks v (u ∷ values) (suc n) has at other holds =
    let next : suc n + 1 ≡ suc (n + 1) = omega arith in
    rw next (stays blocks v.0 u.0 v.1 other.0 ∙ holds.0, holds_more blocks v values n has at other.1 holds.1)

-- The start-up values have different numbers, all those of built-in blocks.
record IsNextValue (v : ℕ × List ℕ) (values : List (ℕ × List ℕ)) (n : ℕ) : Type 0 where
  built : is_built_in v.0 ≡ true
  other : NoneOf v.0 (take n values)

next_value : (v u : ℕ × List ℕ) (values : List (ℕ × List ℕ)) (n : ℕ) → Some u ≡ Some v → is_built_in u.0 ≡ true → NoneOf u.0 (take n values) → IsNextValue v values n
next_value v u values n e built other = let same : u ≡ v = cc in rw (← same) (record { built = built; other = other })

is_next : (control cycle k : ℕ) (p : PlanView) (at mdt : List Idn) (n : ℕ) (v : ℕ × List ℕ) → slice_get (start_up control cycle p k at mdt) n ≡ Some v → IsNextValue v (start_up control cycle p k at mdt) n
is_next control cycle k p at mdt zero v e = next_value v _ (start_up control cycle p k at mdt) 0 e refl tt
is_next control cycle k p at mdt (suc zero) v e = next_value v _ (start_up control cycle p k at mdt) 1 e refl (refl, tt)
is_next control cycle k p at mdt (suc (suc zero)) v e = next_value v _ (start_up control cycle p k at mdt) 2 e refl (refl, (refl, tt))
is_next control cycle k p at mdt (suc (suc (suc zero))) v e = next_value v _ (start_up control cycle p k at mdt) 3 e refl (refl, (refl, (refl, tt)))
is_next control cycle k p at mdt (suc (suc (suc (suc zero)))) v e = next_value v _ (start_up control cycle p k at mdt) 4 e refl (refl, (refl, (refl, (refl, tt))))
is_next control cycle k p at mdt (suc (suc (suc (suc (suc zero))))) v e = next_value v _ (start_up control cycle p k at mdt) 5 e refl (refl, (refl, (refl, (refl, (refl, tt)))))
is_next control cycle k p at mdt (suc (suc (suc (suc (suc (suc zero)))))) v e = next_value v _ (start_up control cycle p k at mdt) 6 e refl (refl, (refl, (refl, (refl, (refl, (refl, tt))))))
is_next control cycle k p at mdt (suc (suc (suc (suc (suc (suc (suc zero))))))) v e = next_value v _ (start_up control cycle p k at mdt) 7 e refl (refl, (refl, (refl, (refl, (refl, (refl, (refl, tt)))))))
is_next control cycle k p at mdt (suc (suc (suc (suc (suc (suc (suc (suc zero)))))))) v e = next_value v _ (start_up control cycle p k at mdt) 8 e refl (refl, (refl, (refl, (refl, (refl, (refl, (refl, (refl, tt))))))))
is_next control cycle k p at mdt (suc (suc (suc (suc (suc (suc (suc (suc (suc zero))))))))) v e = next_value v _ (start_up control cycle p k at mdt) 9 e refl (refl, (refl, (refl, (refl, (refl, (refl, (refl, (refl, (refl, tt)))))))))
is_next control cycle k p at mdt (suc (suc (suc (suc (suc (suc (suc (suc (suc (suc zero)))))))))) v e = next_value v _ (start_up control cycle p k at mdt) 10 e refl (refl, (refl, (refl, (refl, (refl, (refl, (refl, (refl, (refl, (refl, tt))))))))))
is_next control cycle k p at mdt (suc (suc (suc (suc (suc (suc (suc (suc (suc (suc (suc n))))))))))) v e = cc

pub holds_next : HoldsNext
holds_next d blocks control cycle k p n v is at holds =
    let next = is_next control cycle k p d.at d.mdt n v at in
    holds_more blocks v (start_up control cycle p k d.at d.mdt) n (has_of v.0 d blocks is next.built) at next.other holds

-- the start-up values are write protected in phases 3 and 4
protected : (d : DriveView) (blocks : List Block) (raw : ℕ) (a : Attribute) → blocks_fault [] d.blocks ≡ None → IsStoreOf d blocks → block_attribute d.blocks raw ≡ Some a
    → a.protect2 ≡ false → a.protect3 ≡ true → a.protect4 ≡ true → IsProtectedLater blocks raw
protected d blocks raw a none is e two three four = (a, same_attribute raw d blocks none is ∙ e, two, three, four)

pub start_up_is_protected : StartUpIsProtected
unfolding block_attribute built_in_attribute row_in attribute_in attribute_fault attribute_of
start_up_is_protected d blocks control cycle k p none is =
    protected d blocks 1 _ none is refl refl refl refl
    & protected d blocks 2 _ none is refl refl refl refl
    & protected d blocks 6 _ none is refl refl refl refl
    & protected d blocks 7 _ none is refl refl refl refl
    & protected d blocks 8 _ none is refl refl refl refl
    & protected d blocks 9 _ none is refl refl refl refl
    & protected d blocks 10 _ none is refl refl refl refl
    & protected d blocks 15 _ none is refl refl refl refl
    & protected d blocks 16 _ none is refl refl refl refl
    & protected d blocks 24 _ none is refl refl refl refl
    & protected d blocks 89 _ none is refl refl refl refl
    & tt

pub checks_are_protected : ChecksAreProtected
unfolding block_attribute built_in_attribute row_in attribute_in attribute_fault attribute_of
checks_are_protected d blocks none is = (
  protected d blocks 127 _ none is refl refl refl refl,
  (_, same_attribute 128 d blocks none is ∙ refl, refl, refl, refl),
)

-- what is written is stored whole
attribute_found : (o : Option Block) (b : Block) (a : Attribute) → o ≡ Some b → option_map (λ (c : Block). c.attribute) o ≡ Some a → b.attribute ≡ a
attribute_found None b a e f = cc
attribute_found (Some c) b a e f = let same : c ≡ b = cc in let at : c.attribute ≡ a = cc in ap (λ (x : Block). x.attribute) (sym same) ∙ at

attribute_is : (d : DriveView) (blocks : List Block) (raw : ℕ) (b : Block) (a : Attribute) → blocks_fault [] d.blocks ≡ None → IsStoreOf d blocks → find_block raw blocks ≡ Some b
    → block_attribute d.blocks raw ≡ Some a → b.attribute ≡ a
attribute_is d blocks raw b a none is found e = attribute_found (find_block raw blocks) b a found (same_attribute raw d blocks none is ∙ e)

word_back : (n : ℕ) → bytes_in (at_least_one (words_of (to_le_bytes w16 n))) ≡ to_le_bytes w16 n
word_back n =
    let low : (n % 256 + 256 * (n / 256 % 256)) % 256 ≡ n % 256 = omega arith in
    let high : (n % 256 + 256 * (n / 256 % 256)) / 256 ≡ n / 256 % 256 = omega arith in rw (low, high) refl

number_whole : (d : DriveView) (blocks : List Block) (raw n : ℕ) (a : Attribute) → blocks_fault [] d.blocks ≡ None → IsStoreOf d blocks → block_attribute d.blocks raw ≡ Some a → is_list a.length ≡ false
    → (b : Block) → find_block raw blocks ≡ Some b → (if is_list b.attribute.length then to_le_bytes w16 n else bytes_in (at_least_one (words_of (to_le_bytes w16 n)))) ≡ to_le_bytes w16 n
number_whole d blocks raw n a none is e no_list b found =
    rw (attribute_is d blocks raw b a none is found e)
    (elim (cases_Bool (is_list a.length)) [ inl on ↦ rw on | inr off ↦ rw off (word_back n) ])

list_whole : (d : DriveView) (blocks : List Block) (raw : ℕ) (bytes : List ℕ) (a : Attribute) → blocks_fault [] d.blocks ≡ None → IsStoreOf d blocks → block_attribute d.blocks raw ≡ Some a → is_list a.length ≡ true
    → (b : Block) → find_block raw blocks ≡ Some b → (if is_list b.attribute.length then bytes else bytes_in (at_least_one (words_of bytes))) ≡ bytes
list_whole d blocks raw bytes a none is e list b found =
    rw (attribute_is d blocks raw b a none is found e) (cond-true _ _ _ list)

pub stores_start_up_whole : StoresStartUpWhole
unfolding block_attribute built_in_attribute row_in attribute_in attribute_fault attribute_of
stores_start_up_whole d blocks control cycle k p none is =
    number_whole d blocks 1 control _ none is refl refl
    & number_whole d blocks 2 cycle _ none is refl refl
    & number_whole d blocks 6 (slice_index p.t1 k) _ none is refl refl
    & number_whole d blocks 7 p.t4 _ none is refl refl
    & number_whole d blocks 8 p.t3 _ none is refl refl
    & number_whole d blocks 9 (slice_index p.position k) _ none is refl refl
    & number_whole d blocks 10 p.mdt_len _ none is refl refl
    & number_whole d blocks 15 7 _ none is refl refl
    & list_whole d blocks 16 (list_bytes d.at) _ none is refl refl
    & list_whole d blocks 24 (list_bytes d.mdt) _ none is refl refl
    & number_whole d blocks 89 p.t2 _ none is refl refl
    & tt

-- a check leaves the store as it is, or writes its list
pub after_check : (c : CommandHistory) (blocks : List Block) (raw value : ℕ) (P : List Block → Type 0) → P blocks → P (with_data 21 (list_bytes (unfit_for_phase_3 c.rate blocks)) blocks)
    → ((raw == 128) ≡ true → P (with_data 22 (list_bytes (unfit_for_phase_4 blocks)) blocks)) → P (with_check_list c raw value blocks)
unfolding with_check_list
after_check c blocks raw value P same first second = by (not (value == 0) && not (is_set raw c.calls)) (raw == 127) (raw == 128) refl
  where
    by : (sets one two : Bool) → (raw == 128) ≡ two → P (cond sets (cond one (with_data 21 (list_bytes (unfit_for_phase_3 c.rate blocks)) blocks) (cond two (with_data 22 (list_bytes (unfit_for_phase_4 blocks)) blocks) blocks)) blocks)
    by false one two is = same
    by true true two is = first
    by true false true is = second is
    by true false false is = same

pub lists_stay : ListsStay
lists_stay d c blocks raw value up = (
  λ is. after_check c blocks raw value (λ after. IsStoreOf d after) is ((writes_keep d blocks 21 0 _ up is).1 refl) (λ two. (writes_keep d blocks 22 0 _ up is).1 refl),
  λ values no_21 no_22 holds. after_check c blocks raw value (λ after. Holds after values) holds (stay_held blocks 21 _ values no_21 holds) (λ two. stay_held blocks 22 _ values no_22 holds),
)

-- the blocks after a step
kept_above : (low : ℕ) (blocks : List Block) → list_all (λ (b : Block). nat_lt low b.idn.raw) (map kept blocks) ≡ list_all (λ (b : Block). nat_lt low b.idn.raw) blocks
kept_above low [] = refl
kept_above low (b ∷ blocks) = rw (kept_idn b, kept_above low blocks) refl

kept_ascending : (blocks : List Block) → are_ascending (map kept blocks) ≡ are_ascending blocks
unfolding are_ascending
kept_ascending [] = refl
kept_ascending (b ∷ blocks) = rw (kept_idn b, kept_above b.idn.raw blocks, kept_ascending blocks) refl

pub still_ascending : (blocks after : List Block) → map kept after ≡ map kept blocks → are_ascending blocks ≡ true → are_ascending after ≡ true
still_ascending blocks after same up = sym (kept_ascending after) ∙ ap are_ascending same ∙ kept_ascending blocks ∙ up

pub blocks_keep : BlocksKeep
blocks_keep d blocks None c phase up is none = (is, up)
blocks_keep d blocks (Some w) c phase up is none =
    let written = (writes_keep d blocks w.raw phase w.bytes up is).0 none in
    let ascends = still_ascending blocks (with_data w.raw w.bytes blocks) (written ∙ sym is) up in
    let after : IsStoreOf d (blocks_with (Some w) c blocks) = elim (cases_Bool (is_command blocks w.raw)) [
      | inl on ↦ rw on ((lists_stay d c (with_data w.raw w.bytes blocks) w.raw (command_value w) ascends).0 written)
      | inr off ↦ rw off written
    ] in
    (after, still_ascending blocks (blocks_with (Some w) c blocks) (after ∙ sym is) up)
