-- What a sound block keeps, part by part, and that it stays sound when its operation data is written.
use Rattle.std.proofs.Common.{◌≡◌, ℕ, zero, suc, ◌<◌, ◌≤◌, ◌%◌, ◌==◌, ◌||◌, ◌&&◌, nat_le, Bool, true, false, cond, not, List, [], ◌∷◌, length, Option, Some, None, IfSome, slice_get, nat_lt, ◌⊎◌, inl, inr, refl, sym, arith}
use Rattle.std.specs.List.{list_all, find}
use Rattle.std.proofs.lemmas.Bool.{and_parts, and_from}
use Rattle.std.proofs.lemmas.Bool.Decides.{nat_tests}
use Rattle.sercos_idn.specs.declared.attribute.Attribute.{Attribute}
use Rattle.sercos_idn.specs.Codes.{is_list, item_len}
use Rattle.sercos_block.specs.declared.block.Block.{Block}
use Rattle.sercos_block.specs.Blocks.{is_number, number_end}
use Rattle.sercos_block.specs.Rules.{is_text, is_limit, is_max_len, is_step}
use Rattle.sercos_block.specs.Stores.{is_sound, is_len, is_given_list, is_carried_list, find_block, IsStore}

pub record SoundParts (b : Block) : Type 0 where
  pub name : is_text 60 b.name ≡ true
  pub unit : is_text 12 b.unit ≡ true
  pub min : is_limit b.attribute b.min ≡ true
  pub max : is_limit b.attribute b.max ≡ true
  pub max_len : is_max_len b.attribute b.max_len ≡ true
  pub step : is_step b ≡ true
  pub fails : (not b.fails || b.attribute.command) ≡ true
  pub len : is_len b (length b.value) ≡ true
  pub given : is_given_list b ≡ true
  pub carried : is_carried_list b ≡ true

pub SoundParts-is_sound : (b : Block) → is_sound b ≡ true → SoundParts b
unfolding is_sound
SoundParts-is_sound b h =
    let (name, after_name) = and_parts (is_text 60 b.name) _ h in
    let (unit, after_unit) = and_parts (is_text 12 b.unit) _ after_name in
    let (min, after_min) = and_parts (is_limit b.attribute b.min) _ after_unit in
    let (max, after_max) = and_parts (is_limit b.attribute b.max) _ after_min in
    let (max_len, after_max_len) = and_parts (is_max_len b.attribute b.max_len) _ after_max in
    let (step, after_step) = and_parts (is_step b) _ after_max_len in
    let (fails, after_fails) = and_parts (not b.fails || b.attribute.command) _ after_step in
    let (len, after_len) = and_parts (is_len b (length b.value)) _ after_fails in
    let (given, carried) = and_parts (is_given_list b) _ after_len in
    record { name = name; unit = unit; min = min; max = max; max_len = max_len; step = step; fails = fails; len = len; given = given; carried = carried }

pub is_sound-from_parts : (b : Block) → SoundParts b → is_sound b ≡ true
unfolding is_sound
is_sound-from_parts b p =
    and_from _ _ p.name (and_from _ _ p.unit (and_from _ _ p.min (and_from _ _ p.max (and_from _ _ p.max_len
    (and_from _ _ p.step (and_from _ _ p.fails (and_from _ _ p.len (and_from _ _ p.given p.carried))))))))

pub is_sound-written : (b : Block) (bytes : List ℕ) → is_sound b ≡ true → is_len b (length bytes) ≡ true → is_sound (record b { value = bytes }) ≡ true
is_sound-written b bytes h len =
    let p = SoundParts-is_sound b h in
    is_sound-from_parts (record b { value = bytes })
    (record { name = p.name; unit = p.unit; min = p.min; max = p.max; max_len = p.max_len; step = p.step; fails = p.fails; len = len; given = p.given; carried = p.carried })

pub limit_below : (a : Attribute) (limit : Option ℕ) → is_limit a limit ≡ true → IfSome limit (λ bits. bits < number_end a.length)
limit_below a None h = tt
limit_below a (Some bits) h = let (number, below) = and_parts (is_number a) (nat_lt bits (number_end a.length)) h in grind (arith, nat_tests)

-- .. as does one that is to be its bytes
pub limit_below_end : (a : Attribute) (bits : ℕ) → is_limit a (Some bits) ≡ true → bits < number_end a.length
limit_below_end a bits h = limit_below a (Some bits) h

pub limit_of_number : (a : Attribute) (bits : ℕ) → is_limit a (Some bits) ≡ true → is_list a.length ≡ false
limit_of_number a bits h =
    let (number, _) = and_parts (is_number a) (nat_lt bits (number_end a.length)) h in
    by (is_list a.length) number
  where
    by : (list : Bool) → (not list && not a.command) ≡ true → list ≡ false
    by true number = cc
    by false number = refl

pub min_below : (b : Block) → is_sound b ≡ true → IfSome b.min (λ bits. bits < number_end b.attribute.length)
min_below b h = limit_below b.attribute b.min (SoundParts-is_sound b h).min

pub max_below : (b : Block) → is_sound b ≡ true → IfSome b.max (λ bits. bits < number_end b.attribute.length)
max_below b h = limit_below b.attribute b.max (SoundParts-is_sound b h).max

-- the block with an identifier number keeps its rules
pub found_sound : (raw : ℕ) (blocks : List Block) (b : Block) → list_all is_sound blocks ≡ true → find_block raw blocks ≡ Some b → is_sound b ≡ true
found_sound raw [] b sound is = cc
found_sound raw (c ∷ blocks) b sound is =
    let (here, rest) = and_parts (is_sound c) (list_all is_sound blocks) sound in by (c.idn.raw == raw) is here (found_sound raw blocks b rest)
  where
    by : (same : Bool) → cond same (Some c) (find_block raw blocks) ≡ Some b → is_sound c ≡ true → (find_block raw blocks ≡ Some b → is_sound b ≡ true) → is_sound b ≡ true
    by true e here rest = let same : c ≡ b = cc in rw same at here
    by false e here rest = rest e

-- .. and so does that at a place
pub sound_at : (blocks : List Block) (place : ℕ) (b : Block) → IsStore blocks → slice_get blocks place ≡ Some b → is_sound b ≡ true
sound_at blocks place b is at = among blocks place is.sound at
  where
    among : (others : List Block) (i : ℕ) → list_all is_sound others ≡ true → slice_get others i ≡ Some b → is_sound b ≡ true
    among [] i sound e = cc
    among (c ∷ others) zero sound e = let same : c ≡ b = cc in rw same at (and_parts (is_sound c) (list_all is_sound others) sound).0
    among (c ∷ others) (suc i) sound e = among others i (and_parts (is_sound c) (list_all is_sound others) sound).1 e

most : (list : Bool) (max item : ℕ) → cond list (nat_le 1 max && (nat_le max 1024 && (max % item == 0))) (max == 0) ≡ true → max ≤ 1024
most true max item h =
    let (_, rest) = and_parts (nat_le 1 max) (nat_le max 1024 && (max % item == 0)) h in
    let (fits, _) = and_parts (nat_le max 1024) (max % item == 0) rest in
    grind (arith, nat_tests)
most false max item h = grind (arith, nat_tests)

-- no list has more than 1024 bytes
pub max_len_bound : (raw : ℕ) (blocks : List Block) (b : Block) → IsStore blocks → Some b ≡ find_block raw blocks → b.max_len ≤ 1024
max_len_bound raw blocks b is e =
    most (is_list b.attribute.length) b.max_len (item_len b.attribute.length) (SoundParts-is_sound b (found_sound raw blocks b is.sound (sym e))).max_len

pub most_few : (b : Block) → is_sound b ≡ true → b.max_len ≤ 1024
most_few b h = most (is_list b.attribute.length) b.max_len (item_len b.attribute.length) (SoundParts-is_sound b h).max_len

-- the bytes of a list
list_by : (list : Bool) (count most item : ℕ) → list ≡ true → cond list (nat_le count most) (count == item) ≡ true → count ≤ most
list_by true count most item is len = grind (arith, nat_tests)
list_by false count most item is len = cc

pub list_fits : (b : Block) → is_list b.attribute.length ≡ true → is_sound b ≡ true → length b.value ≤ b.max_len
list_fits b list h = list_by (is_list b.attribute.length) (length b.value) b.max_len (item_len b.attribute.length) list (SoundParts-is_sound b h).len

-- the bytes of a value that is no list
exact_by : (list : Bool) (count most item : ℕ) → list ≡ false → cond list (nat_le count most) (count == item) ≡ true → count ≡ item
exact_by true count most item none len = cc
exact_by false count most item none len = grind (arith, nat_tests)

pub value_len : (b : Block) → is_list b.attribute.length ≡ false → is_sound b ≡ true → length b.value ≡ item_len b.attribute.length
value_len b none h = exact_by (is_list b.attribute.length) (length b.value) b.max_len (item_len b.attribute.length) none (SoundParts-is_sound b h).len

pub item_fits : (b : Block) → is_list b.attribute.length ≡ false → is_sound b ≡ true → length b.value ≤ item_len b.attribute.length
item_fits b none h = let exact = value_len b none h in omega arith

pub found-value_len : (raw : ℕ) (blocks : List Block) (b : Block) (bytes : List ℕ) → IsStore blocks → find_block raw blocks ≡ Some b → bytes ≡ b.value
    → IfSome (find_block raw blocks) (λ c. is_list c.attribute.length ≡ false → length bytes ≡ item_len c.attribute.length)
found-value_len raw blocks b bytes is at seen = rw at (λ none. rw seen (value_len b none (found_sound raw blocks b is.sound at)))

-- the bytes of a list of what telegrams carry
carried_by : (carried list : Bool) (count most item : ℕ) → carried ≡ true → (not carried || (list && (most == 32))) ≡ true
    → cond list (nat_le count most) (count == item) ≡ true → count ≤ 32
carried_by true true count most item on is len = grind (arith, nat_tests)
carried_by true false count most item on is len = cc
carried_by false list count most item on is len = cc

pub found-carried : (raw : ℕ) (blocks : List Block) (b : Block) (bytes : List ℕ) → IsStore blocks → find_block raw blocks ≡ Some b → bytes ≡ b.value
    → ((raw ≡ 16) ⊎ (raw ≡ 24)) → length bytes ≤ 32
found-carried raw blocks b bytes is at seen carried =
    let holds : IfSome (find (λ c. c.idn.raw == raw) blocks) (λ c. length c.value ≤ 32) = found blocks is.sound in
    let there = rw at at holds in
    rw seen there
  where
    check : ((raw ≡ 16) ⊎ (raw ≡ 24)) → ((raw == 16) || (raw == 24)) ≡ true
    check (inl e) = rw e refl
    check (inr e) = rw e refl

    at_block : (c : Block) → is_sound c ≡ true → c.idn.raw ≡ raw → length c.value ≤ 32
    at_block c sound e =
        let p = SoundParts-is_sound c sound in
        carried_by _ (is_list c.attribute.length) (length c.value) c.max_len (item_len c.attribute.length) (rw e (check carried)) p.carried p.len

    found : (blocks : List Block) → list_all is_sound blocks ≡ true → IfSome (find (λ c. c.idn.raw == raw) blocks) (λ c. length c.value ≤ 32)
    found [] sound = tt
    found (c ∷ blocks) sound = let (here, rest) = and_parts (is_sound c) (list_all is_sound blocks) sound in by (c.idn.raw == raw) refl here (found blocks rest)
      where
        by : (same : Bool) → (c.idn.raw == raw) ≡ same → is_sound c ≡ true → IfSome (find (λ c. c.idn.raw == raw) blocks) (λ c. length c.value ≤ 32)
            → IfSome (cond same (Some c) (find (λ c. c.idn.raw == raw) blocks)) (λ c. length c.value ≤ 32)
        by true e here rest = at_block c here (grind (arith, nat_tests))
        by false e here rest = rest
