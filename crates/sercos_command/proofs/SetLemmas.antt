-- The list of the commands that are set: no command stands in it twice, each is one of the store, so there is always room.
use Rattle.std.proofs.Common.{◌≡◌, ℕ, suc, ◌≤◌, ◌==◌, Bool, true, false, cond, ◌&&◌, not, List, [], ◌∷◌, ◌++◌, length, Some, None, is_none, is_some, option_map, unwrap_or, refl, ap, arith}
use Rattle.std.specs.List.{list_all}
use Rattle.std.proofs.lemmas.Bool.{and_parts, and_from}
use Rattle.std.proofs.lemmas.Bool.Decides.{nat_tests}
use Rattle.sercos_block.specs.declared.block.Block.{Block}
use Rattle.sercos_block.specs.Stores.{find_block, with_data, IsStore}
use Rattle.sercos_command.specs.declared.commands.SetCommand.{SetCommand}
use Rattle.sercos_command.specs.Settings.{is_command}
use Rattle.sercos_command.specs.Kept.{find_set, without, with_set, are_distinct}

-- a command that isn't set isn't, once another is cancelled or set
unset_without : (raw other : ℕ) (set : List SetCommand) → is_none (find_set raw set) ≡ true → is_none (find_set raw (without other set)) ≡ true
unset_without raw other [] unset = refl
unset_without raw other (s ∷ set) unset = by (s.idn.raw == raw) (s.idn.raw == other) refl unset (unset_without raw other set)
  where
    by : (same gone : Bool) → (s.idn.raw == raw) ≡ same → is_none (cond same (Some s) (find_set raw set)) ≡ true
        → (is_none (find_set raw set) ≡ true → is_none (find_set raw (without other set)) ≡ true)
        → is_none (find_set raw (cond (not gone) (s ∷ without other set) (without other set))) ≡ true
    by true gone e unset more = cc
    by false true e unset more = more unset
    by false false e unset more = rw e (more unset)

unset_appended : (raw : ℕ) (s : SetCommand) (set : List SetCommand) → (s.idn.raw == raw) ≡ false → is_none (find_set raw set) ≡ true → is_none (find_set raw (set ++ s ∷ [])) ≡ true
unset_appended raw s [] other unset = rw other refl
unset_appended raw s (t ∷ set) other unset = by (t.idn.raw == raw) unset (unset_appended raw s set other)
  where
    by : (same : Bool) → is_none (cond same (Some t) (find_set raw set)) ≡ true → (is_none (find_set raw set) ≡ true → is_none (find_set raw (set ++ s ∷ [])) ≡ true)
        → is_none (cond same (Some t) (find_set raw (set ++ s ∷ []))) ≡ true
    by true unset more = cc
    by false unset more = more unset

pub distinct_without : (raw : ℕ) (set : List SetCommand) → are_distinct set ≡ true → are_distinct (without raw set) ≡ true
unfolding are_distinct
distinct_without raw [] distinct = refl
distinct_without raw (s ∷ set) distinct =
    let (new, rest) = and_parts (is_none (find_set s.idn.raw set)) (are_distinct set) distinct in
    by (s.idn.raw == raw) new (distinct_without raw set rest)
  where
    by : (gone : Bool) → is_none (find_set s.idn.raw set) ≡ true → are_distinct (without raw set) ≡ true
        → are_distinct (cond (not gone) (s ∷ without raw set) (without raw set)) ≡ true
    by true new more = more
    by false new more = and_from _ _ (unset_without s.idn.raw raw set new) more

pub distinct_appended : (s : SetCommand) (set : List SetCommand) → find_set s.idn.raw set ≡ None → are_distinct set ≡ true → are_distinct (set ++ s ∷ []) ≡ true
unfolding are_distinct
distinct_appended s [] unset distinct = refl
distinct_appended s (t ∷ set) unset distinct =
    let (new, rest) = and_parts (is_none (find_set t.idn.raw set)) (are_distinct set) distinct in
    by (t.idn.raw == s.idn.raw) refl unset new (λ unset. distinct_appended s set unset rest)
  where
    by : (same : Bool) → (t.idn.raw == s.idn.raw) ≡ same → cond same (Some t) (find_set s.idn.raw set) ≡ None → is_none (find_set t.idn.raw set) ≡ true
        → (find_set s.idn.raw set ≡ None → are_distinct (set ++ s ∷ []) ≡ true)
        → (is_none (find_set t.idn.raw (set ++ s ∷ [])) && are_distinct (set ++ s ∷ [])) ≡ true
    by true e unset new more = cc
    by false e unset new more = and_from _ _ (unset_appended t.idn.raw s set (grind (arith, nat_tests)) new) (more unset)

-- a command that isn't set can't be cancelled
without-unset : (raw : ℕ) (set : List SetCommand) → is_none (find_set raw set) ≡ true → without raw set ≡ set
without-unset raw [] unset = refl
without-unset raw (s ∷ set) unset = by (s.idn.raw == raw) unset (without-unset raw set)
  where
    by : (same : Bool) → is_none (cond same (Some s) (find_set raw set)) ≡ true → (is_none (find_set raw set) ≡ true → without raw set ≡ set)
        → cond (not same) (s ∷ without raw set) (without raw set) ≡ s ∷ set
    by true unset more = cc
    by false unset more = ap (λ (rest : List SetCommand). s ∷ rest) (more unset)

-- at most one is cancelled
length_without : (raw : ℕ) (set : List SetCommand) → are_distinct set ≡ true → length set ≤ suc (length (without raw set))
unfolding are_distinct
length_without raw [] distinct = omega arith
length_without raw (s ∷ set) distinct =
    let (new, rest) = and_parts (is_none (find_set s.idn.raw set)) (are_distinct set) distinct in
    by (s.idn.raw == raw) refl new (length_without raw set rest)
  where
    by : (gone : Bool) → (s.idn.raw == raw) ≡ gone → is_none (find_set s.idn.raw set) ≡ true → length set ≤ suc (length (without raw set))
        → suc (length set) ≤ suc (length (cond (not gone) (s ∷ without raw set) (without raw set)))
    by true e new more =
        let same : s.idn.raw ≡ raw = grind (arith, nat_tests) in
        let all = without-unset raw set (rw same at new) in
        rw all (omega arith)
    by false e new more = omega (arith, more)

-- the commands of a store but for its first block
commands_without : (b : Block) (blocks : List Block) (set : List SetCommand) → list_all (λ s. is_command (b ∷ blocks) s.idn.raw) set ≡ true
    → list_all (λ s. is_command blocks s.idn.raw) (without b.idn.raw set) ≡ true
commands_without b blocks [] all = refl
commands_without b blocks (s ∷ set) all =
    let (here, rest) = and_parts (is_command (b ∷ blocks) s.idn.raw) (list_all (λ t. is_command (b ∷ blocks) t.idn.raw) set) all in
    by (s.idn.raw == b.idn.raw) refl here (commands_without b blocks set rest)
  where
    by : (gone : Bool) → (s.idn.raw == b.idn.raw) ≡ gone → is_command (b ∷ blocks) s.idn.raw ≡ true → list_all (λ t. is_command blocks t.idn.raw) (without b.idn.raw set) ≡ true
        → list_all (λ t. is_command blocks t.idn.raw) (cond (not gone) (s ∷ without b.idn.raw set) (without b.idn.raw set)) ≡ true
    by true e here more = more
    by false e here more =
        let other : (b.idn.raw == s.idn.raw) ≡ false = grind (arith, nat_tests) in
        and_from _ _ (rw other at here) more

few_commands : (blocks : List Block) (set : List SetCommand) → are_distinct set ≡ true → list_all (λ s. is_command blocks s.idn.raw) set ≡ true → length set ≤ length blocks
few_commands [] [] distinct all = omega arith
few_commands [] (s ∷ set) distinct all = cc
few_commands (b ∷ blocks) set distinct all =
    omega (arith, length_without b.idn.raw set distinct, few_commands blocks (without b.idn.raw set) (distinct_without b.idn.raw set distinct) (commands_without b blocks set all))

pub has_room : (blocks : List Block) (set : List SetCommand) → IsStore blocks → are_distinct set ≡ true → list_all (λ s. is_command blocks s.idn.raw) set ≡ true → length set ≤ 57
has_room blocks set is distinct all = omega (arith, few_commands blocks set distinct all, is.few)

-- a write leaves the commands
pub is_command-with_data : (raw other : ℕ) (bytes : List ℕ) (blocks : List Block) → is_command (with_data other bytes blocks) raw ≡ is_command blocks raw
is_command-with_data raw other bytes [] = refl
is_command-with_data raw other bytes (b ∷ blocks) = by (b.idn.raw == other) (b.idn.raw == raw) refl (is_command-with_data raw other bytes blocks)
  where
    by : (written same : Bool) → (b.idn.raw == raw) ≡ same → is_command (with_data other bytes blocks) raw ≡ is_command blocks raw
        → is_command (cond written (record b { value = bytes }) b ∷ with_data other bytes blocks) raw
        ≡ unwrap_or (option_map (λ c. c.attribute.command) (cond same (Some b) (find_block raw blocks))) false
    by true true e more = rw e refl
    by true false e more = rw e more
    by false true e more = rw e refl
    by false false e more = rw e more

pub commands-with_data : (other : ℕ) (bytes : List ℕ) (blocks : List Block) (set : List SetCommand)
    → list_all (λ s. is_command (with_data other bytes blocks) s.idn.raw) set ≡ list_all (λ s. is_command blocks s.idn.raw) set
commands-with_data other bytes blocks [] = refl
commands-with_data other bytes blocks (s ∷ set) = rw (is_command-with_data s.idn.raw other bytes blocks, commands-with_data other bytes blocks set) refl

-- what holds of all settings holds after a cancel, and after a setting of which it holds
pub all_without : (p : SetCommand → Bool) (raw : ℕ) (set : List SetCommand) → list_all p set ≡ true → list_all p (without raw set) ≡ true
all_without p raw [] all = refl
all_without p raw (s ∷ set) all = let (here, rest) = and_parts (p s) (list_all p set) all in by (s.idn.raw == raw) here (all_without p raw set rest)
  where
    by : (gone : Bool) → p s ≡ true → list_all p (without raw set) ≡ true → list_all p (cond (not gone) (s ∷ without raw set) (without raw set)) ≡ true
    by true here more = more
    by false here more = and_from _ _ here more

all_appended : (p : SetCommand → Bool) (s : SetCommand) (set : List SetCommand) → p s ≡ true → list_all p set ≡ true → list_all p (set ++ s ∷ []) ≡ true
all_appended p s [] one all = and_from _ _ one refl
all_appended p s (t ∷ set) one all = let (here, rest) = and_parts (p t) (list_all p set) all in and_from _ _ here (all_appended p s set one rest)

pub all_with_set : (p : SetCommand → Bool) (s : SetCommand) (set : List SetCommand) → p s ≡ true → list_all p set ≡ true → list_all p (with_set s set) ≡ true
all_with_set p s set one all = by (is_some (find_set s.idn.raw set))
  where
    by : (known : Bool) → list_all p (cond known set (set ++ s ∷ [])) ≡ true
    by true = all
    by false = all_appended p s set one all
