-- What a block holds is what was written to it last.
use Rattle.sercos_law_channel.proofs.Words.{inr, inl, cases_Bool, ◌≡◌, ℕ, Bool, true, false, not, ◌&&◌, List, [], ◌∷◌, ◌++◌, map, drop, zero, suc, refl, sym, ap, ◌∙◌, subst, if◌then◌else◌, append_assoc, ◌==◌, Option, Some, None, option_map, unwrap_or, list_all, and_parts, cond-true, cond-false, eqb-true, eq-eqb, not-true, Idn, outcome_of, Block, find_block, with_value, with_data, list_bytes, unfit_for_phase_3, unfit_for_phase_4, is_command, is_set, CommandHistory, Entry, Write, with_added, command_value, blocks_with, Begun, stored, View, processed_in, kept_in, begun_ago, all_entries, write_of, all_writes, Given, given_of, gives, written_to, given_by, AreWrites, Complete, Refused, Broken, AreExact, RunsAreExact, newest_to, store_in, is_plain, HoldsNewest, GiveElsewhere, StaysWritten, ne_eqb}
use Rattle.sercos_step.specs.declared.request.Request.TheVariants as request
use Rattle.sercos_step.specs.declared.request.Outcome.TheVariants as outcome
use Rattle.sercos_command.specs.Calls.{with_check_list}

-- The store.

-- the block is there, with these operation data
record HasValue (raw : ℕ) (x : List ℕ) (blocks : List Block) : Type 0 where
  block : Block
  found : find_block raw blocks ≡ Some block
  named : (block.idn.raw == raw) ≡ true
  value : block.value ≡ x

found_named : (raw : ℕ) (blocks : List Block) (b : Block) → find_block raw blocks ≡ Some b → (b.idn.raw == raw) ≡ true
found_named raw [] b found = absurd (cc)
found_named raw (c ∷ blocks) b found = elim (cases_Bool (c.idn.raw == raw)) [
  | inl on ↦ let same : c ≡ b = cc in ap (λ (x : Block). x.idn.raw == raw) (sym same) ∙ on
  | inr off ↦ let found = rw off at found in found_named raw blocks b found
]

find-with_data : (raw other : ℕ) (bytes : List ℕ) (blocks : List Block) → find_block raw (with_data other bytes blocks) ≡ option_map (with_value other bytes) (find_block raw blocks)
find-with_data raw other bytes [] = refl
find-with_data raw other bytes (b ∷ blocks) = by (b.idn.raw == other) (b.idn.raw == raw) refl refl (find-with_data raw other bytes blocks)
  where
    by : (written same : Bool) → (b.idn.raw == other) ≡ written → (b.idn.raw == raw) ≡ same → find_block raw (with_data other bytes blocks) ≡ option_map (with_value other bytes) (find_block raw blocks) →
        find_block raw ((if written then record b { value = bytes } else b) ∷ with_data other bytes blocks) ≡ option_map (with_value other bytes) (if same then Some b else find_block raw blocks)
    by true true at on more = cond-true (b.idn.raw == raw) _ _ on ∙ ap (λ (c : Block). Some c) (sym (cond-true (b.idn.raw == other) _ _ at))
    by false true at on more = cond-true (b.idn.raw == raw) _ _ on ∙ ap (λ (c : Block). Some c) (sym (cond-false (b.idn.raw == other) _ _ at))
    by true false at off more = cond-false (b.idn.raw == raw) _ _ off ∙ more
    by false false at off more = cond-false (b.idn.raw == raw) _ _ off ∙ more

has-with_data : (raw other : ℕ) (x bytes : List ℕ) (blocks : List Block) → HasValue raw x blocks → HasValue raw (if other == raw then bytes else x) (with_data other bytes blocks)
has-with_data raw other x bytes blocks has = by (has.block.idn.raw == other) refl
  where
    by : (v : Bool) → (has.block.idn.raw == other) ≡ v → HasValue raw (if other == raw then bytes else x) (with_data other bytes blocks)
    by true at =
        let is : (other == raw) ≡ true = ap (λ (n : ℕ). n == raw) (sym (eqb-true has.block.idn.raw other at)) ∙ has.named in record {
          block = record has.block { value = bytes };
          found = find-with_data raw other bytes blocks ∙ ap (option_map (with_value other bytes)) has.found ∙ ap (λ (c : Block). Some c) (cond-true (has.block.idn.raw == other) _ _ at);
          named = has.named;
          value = sym (cond-true (other == raw) bytes x is);
        }
    by false off = record {
      block = has.block;
      found = find-with_data raw other bytes blocks ∙ ap (option_map (with_value other bytes)) has.found ∙ ap (λ (c : Block). Some c) (cond-false (has.block.idn.raw == other) _ _ off);
      named = has.named;
      value =
          has.value ∙ sym (cond-false (other == raw) bytes x
          (ne_eqb other raw (λ is. let on : (has.block.idn.raw == other) ≡ true = eq-eqb has.block.idn.raw other
          (eqb-true has.block.idn.raw raw has.named ∙ sym is) in cc)));
    }

-- the lists of the checks are others
other_list : (raw other : ℕ) (x bytes : List ℕ) (blocks : List Block) → (other == raw) ≡ false → HasValue raw x blocks → HasValue raw x (with_data other bytes blocks)
other_list raw other x bytes blocks off has = subst (λ (y : List ℕ). HasValue raw y (with_data other bytes blocks)) (cond-false (other == raw) bytes x off) (has-with_data raw other x bytes blocks has)

pub flipped : (n k : ℕ) → (n == k) ≡ false → (k == n) ≡ false
flipped n k off = ne_eqb k n (λ is. let on : (n == k) ≡ true = eq-eqb n k (sym is) in cc)

has-with_check_list : (raw : ℕ) (x : List ℕ) (c : CommandHistory) (r value : ℕ) (blocks : List Block) → is_plain raw ≡ true → HasValue raw x blocks → HasValue raw x (with_check_list c r value blocks)
unfolding with_check_list
has-with_check_list raw x c r value blocks plain has = by (not (value == 0) && not (is_set r c.calls)) (r == 127) (r == 128)
  where
    parts : ((raw == 21) ≡ false) × ((raw == 22) ≡ false)
    parts = let both = and_parts (not (raw == 21)) (not (raw == 22)) plain in (not-true (raw == 21) both.0, not-true (raw == 22) both.1)

    by : (sets first second : Bool) → HasValue raw x (if sets then (if first then with_data 21 (list_bytes (unfit_for_phase_3 c.rate blocks)) blocks else (if second then with_data 22 (list_bytes (unfit_for_phase_4 blocks)) blocks else blocks)) else blocks)
    by true true second = other_list raw 21 x (list_bytes (unfit_for_phase_3 c.rate blocks)) blocks (flipped raw 21 parts.0) has
    by true false true = other_list raw 22 x (list_bytes (unfit_for_phase_4 blocks)) blocks (flipped raw 22 parts.1) has
    by true false false = has
    by false first second = has

has-blocks_with : (raw : ℕ) (b : List ℕ) (o : Option Write) (c : CommandHistory) (blocks : List Block) (writes : List Write) → is_plain raw ≡ true → HasValue raw (unwrap_or (newest_to raw writes) b) blocks →
    HasValue raw (unwrap_or (newest_to raw (with_added o writes)) b) (blocks_with o c blocks)
has-blocks_with raw b None c blocks writes plain has = has
has-blocks_with raw b (Some w) c blocks writes plain has =
    subst (λ (y : List ℕ). HasValue raw y (blocks_with (Some w) c blocks)) (joined (w.raw == raw)) (by (is_command blocks w.raw))
  where
    joined : (v : Bool) → (if v then w.bytes else unwrap_or (newest_to raw writes) b) ≡ unwrap_or (if v then Some w.bytes else newest_to raw writes) b
    joined true = refl
    joined false = refl

    by : (v : Bool) → HasValue raw (if w.raw == raw then w.bytes else unwrap_or (newest_to raw writes) b) (if v then with_check_list c w.raw (command_value w) (with_data w.raw w.bytes blocks) else with_data w.raw w.bytes blocks)
    by true = has-with_check_list raw (if w.raw == raw then w.bytes else unwrap_or (newest_to raw writes) b) c w.raw (command_value w)
        (with_data w.raw w.bytes blocks) plain (has-with_data raw w.raw (unwrap_or (newest_to raw writes) b) w.bytes blocks has)
    by false = has-with_data raw w.raw (unwrap_or (newest_to raw writes) b) w.bytes blocks has

has_newest : (blocks : List Block) (past : List View) (raw : ℕ) (b : Block) → is_plain raw ≡ true → find_block raw blocks ≡ Some b → HasValue raw (unwrap_or (newest_to raw (all_writes past)) b.value) (store_in blocks past)
has_newest blocks [] raw b plain found = record { block = b; found = found; named = found_named raw blocks b found; value = refl }
has_newest blocks (v ∷ past) raw b plain found = has-blocks_with raw b.value (write_of (processed_in v past) (kept_in v past)) v.commands (store_in blocks past) (all_writes past) plain (has_newest blocks past raw b plain found)

pub holds_newest : HoldsNewest
holds_newest blocks past raw b plain found =
    let has = has_newest blocks past raw b plain found in
    ap (λ (o : Option Block). unwrap_or (option_map (λ (b : Block). b.value) o) []) has.found ∙ has.value

-- The newest write.

pub elsewhere : (raw : ℕ) (own others : List Write) → list_all (λ (g : Given). not (g.raw == raw)) (map given_of own) ≡ true → newest_to raw (own ++ others) ≡ newest_to raw others
elsewhere raw [] others all = refl
elsewhere raw (w ∷ own) others all =
    let parts = and_parts (not (w.raw == raw)) _ all in
    cond-false (w.raw == raw) _ _ (not-true (w.raw == raw) parts.0) ∙ elsewhere raw own others parts.1

pub all-drop : (raw later : ℕ) (given : List Given) → list_all (λ (g : Given). not (g.raw == raw)) given ≡ true → list_all (λ (g : Given). not (g.raw == raw)) (drop later given) ≡ true
all-drop raw zero given all = all
all-drop raw (suc later) [] all = refl
all-drop raw (suc later) (g ∷ given) all = all-drop raw later given (and_parts (not (g.raw == raw)) _ all).1

own_elsewhere : (raw : ℕ) (blocks : List Block) (b : Begun) (own : List Write) → AreWrites blocks b own → list_all (λ (g : Given). not (g.raw == raw)) (given_by blocks b.request) ≡ true → list_all (λ (g : Given). not (g.raw == raw)) (map given_of own) ≡ true
own_elsewhere raw blocks b own (Complete bytes complete has is) all = ap (list_all (λ (g : Given). not (g.raw == raw))) is ∙ all
own_elsewhere raw blocks b own (Refused code refused none) all = ap (λ (l : List Write). list_all (λ (g : Given). not (g.raw == raw)) (map given_of l)) none
own_elsewhere raw blocks b own (Broken later on is) all = ap (list_all (λ (g : Given). not (g.raw == raw))) is ∙ all-drop raw later (given_by blocks b.request) all

pub own_one : (raw : ℕ) (x : List ℕ) (own others : List Write) → map given_of own ≡ gives raw x ∷ [] → newest_to raw (own ++ others) ≡ Some x
own_one raw x [] others is = absurd (cc)
own_one raw x (w ∷ own) others is =
    let same : given_of w ≡ gives raw x = cc in
    cond-true (w.raw == raw) _ _ (eq-eqb w.raw raw (ap (λ (g : Given). g.raw) same)) ∙ ap (λ (g : Given). Some g.bytes) same

module _ (blocks : List Block) (older : List Begun) (b : Begun) (idn : Idn) (bytes whole : List ℕ) (block : Block) (is : b.request ≡ request.Write idn 7 bytes) (complete : outcome_of b.request b.answers ≡ Some (outcome.Complete whole)) (found : find_block idn.raw blocks ≡ Some block) where
  own_newest : (own others : List Write) → AreWrites blocks b own → newest_to idn.raw (own ++ others) ≡ Some (stored block bytes)
  own_newest own others (Complete x y has given) = own_one idn.raw (stored block bytes) own others (given ∙ ap (given_by blocks) is ∙ ap (written_to idn.raw bytes) found)
  own_newest own others (Refused code refused none) = absurd (cc)
  own_newest own others (Broken later on given) = absurd (cc)

  pub newest_of : (newer : List Begun) (entries : List Entry) (writes : List Write) → AreExact blocks (newer ++ b ∷ older) entries writes → GiveElsewhere idn.raw blocks newer → newest_to idn.raw writes ≡ Some (stored block bytes)
  newest_of [] entries writes (part, rest, own, others, of_entries, of_writes, exact, behind) away = ap (newest_to idn.raw) of_writes ∙ own_newest own others exact.writes
  newest_of (x ∷ newer) entries writes (part, rest, own, others, of_entries, of_writes, exact, behind) away =
      ap (newest_to idn.raw) of_writes ∙ elsewhere idn.raw own others (own_elsewhere idn.raw blocks x own exact.writes away.1) ∙ newest_of newer rest others behind away.0

pub stays_written : (busy : ℕ) → RunsAreExact busy → StaysWritten busy
stays_written busy exact blocks past newer older b idn bytes whole block small run sound those is complete found away =
    newest_of blocks (older ++ begun_ago past) b idn bytes whole block is complete found newer (all_entries past) (all_writes past)
    (subst (λ (l : List Begun). AreExact blocks l (all_entries past) (all_writes past)) (ap (λ (l : List Begun). l ++ begun_ago past) those ∙ append_assoc newer (b ∷ older) (begun_ago past)) (exact blocks past small run sound)) away
