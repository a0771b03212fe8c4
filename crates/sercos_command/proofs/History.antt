-- What is kept of the calls on procedure commands is what the calls say.
use Rattle.std.proofs.Common.{◌≡◌, ℕ, zero, suc, ◌+◌, ◌==◌, nat_le, Bool, true, false, cond, ◌&&◌, ◌||◌, not, List, [], ◌∷◌, ◌++◌, length, take, drop, min, Option, Some, None, is_none, is_some, option_map, unwrap_or, refl, sym, ◌∙◌, ap, arith}
use Rattle.std.specs.List.{list_all, list_any, last_or, range_with_len, take_while}
use Rattle.std.proofs.lemmas.Bool.{and_parts, false≢true}
use Rattle.std.proofs.lemmas.Bool.Decides.{nat_tests}
use Rattle.std.proofs.lemmas.List.Sums.{take_while-cons}
use Rattle.std.proofs.Math.Bool.{and_comm, or-true}
use Rattle.sercos_idn.specs.Commands.{to_cancel}
use Rattle.sercos_command.specs.declared.commands.SetCommand.{SetCommand}
use Rattle.sercos_command.specs.Settings.{ends_well, has_ended}
use Rattle.sercos_command.specs.Calls.{CommandCall, Wrote, Other, Reset, CommandWrite, writes_to_command, sets, set_by, is_set, setting_by, setting_of, spares_check, passes_check, is_passed, CommandHistory, command_numbers, has_command_ended, change_in}
use Rattle.sercos_command.specs.Kept.{find_set, without, with_set, are_distinct, settings, passed_so_far}
use Rattle.sercos_command.proofs.SetLemmas.{distinct_without, distinct_appended}

-- THE SETTINGS. After a cancel
find-without : (raw other : ℕ) (set : List SetCommand) → find_set raw (without other set) ≡ cond (other == raw) None (find_set raw set)
find-without raw other [] = by (other == raw)
  where
    nothing : Option SetCommand
    nothing = None

    by : (same : Bool) → nothing ≡ cond same nothing nothing
    by true = refl
    by false = refl
find-without raw other (s ∷ set) = by (s.idn.raw == raw) (s.idn.raw == other) (other == raw) refl refl refl (find-without raw other set)
  where
    by : (found gone same : Bool) → (s.idn.raw == raw) ≡ found → (s.idn.raw == other) ≡ gone → (other == raw) ≡ same
        → find_set raw (without other set) ≡ cond same None (find_set raw set)
        → find_set raw (cond (not gone) (s ∷ without other set) (without other set)) ≡ cond same None
        (cond found (Some s) (find_set raw set))
    by true true true e f g more = more
    by true false false e f g more = rw e refl
    by false false true e f g more = rw e more
    by false false false e f g more = rw e more
    by false true false e f g more = more
    by true true false e f g more = absurd (grind (arith, nat_tests, e, f, g))
    by true false true e f g more = absurd (grind (arith, nat_tests, e, f, g))
    by false true true e f g more = absurd (grind (arith, nat_tests, e, f, g))

-- after a setting
find-appended : (raw : ℕ) (s : SetCommand) (set : List SetCommand) → find_set raw (set ++ s ∷ []) ≡ cond (is_some (find_set raw set))
    (find_set raw set) (cond (s.idn.raw == raw) (Some s) None)
find-appended raw s [] = refl
find-appended raw s (t ∷ set) = by (t.idn.raw == raw) (find-appended raw s set)
  where
    by : (found : Bool) → find_set raw (set ++ s ∷ []) ≡ cond (is_some (find_set raw set)) (find_set raw set)
        (cond (s.idn.raw == raw) (Some s) None)
        → cond found (Some t) (find_set raw (set ++ s ∷ []))
        ≡ cond (is_some (cond found (Some t) (find_set raw set))) (cond found (Some t) (find_set raw set))
        (cond (s.idn.raw == raw) (Some s) None)
    by true more = refl
    by false more = more

find-with_set : (raw : ℕ) (s : SetCommand) (set : List SetCommand)
    → find_set raw (with_set s set) ≡ cond (is_some (find_set raw set)) (find_set raw set) (cond (s.idn.raw == raw) (Some s) None)
find-with_set raw s set = by (is_some (find_set s.idn.raw set)) (s.idn.raw == raw) refl refl
  where
    kept : (o : Option SetCommand) → o ≡ cond (is_some o) o None
    kept None = refl
    kept (Some t) = refl

    found : (o p : Option SetCommand) → is_some o ≡ true → o ≡ cond (is_some o) o p
    found None p e = cc
    found (Some t) p e = refl

    by : (known same : Bool) → is_some (find_set s.idn.raw set) ≡ known → (s.idn.raw == raw) ≡ same
        → find_set raw (cond known set (set ++ s ∷ [])) ≡ cond (is_some (find_set raw set)) (find_set raw set) (cond same (Some s) None)
    by true false e f = kept (find_set raw set)
    by true true e f =
        let is : s.idn.raw ≡ raw = grind (arith, nat_tests, f) in
        found (find_set raw set) (Some s) (rw is at e)
    by false same e f = find-appended raw s set ∙ ap (λ (b : Bool). cond (is_some (find_set raw set)) (find_set raw set)
        (cond b (Some s) None)) f

-- the last of a list with one more before it
last-cons : {A : Type 0} (x : A) (xs : List A) → last_or None (x ∷ xs) ≡ cond (is_some (last_or None xs)) (last_or None xs) (Some x)
last-cons x [] = refl
last-cons x (y ∷ xs) = some y xs (Some x)
  where
    some : {A : Type 0} (y : A) (xs : List A) (o : Option A) → last_or (Some y) xs ≡ cond (is_some (last_or (Some y) xs))
        (last_or (Some y) xs) o
    some y [] o = refl
    some y (z ∷ xs) o = some z xs o

pub find-settings : (rate raw : ℕ) (h : List CommandCall) → find_set raw (settings rate h) ≡ setting_of rate raw h
find-settings rate raw [] = refl
find-settings rate raw (Reset ∷ h) = refl
find-settings rate raw (Other cycle ∷ h) = find-settings rate raw h
find-settings rate raw (Wrote other value cycle blocks ∷ h) = by (value == to_cancel) refl (find-settings rate raw h)
  where
    one : CommandWrite
    one = record { value = value; cycle = cycle; blocks = blocks }

    s : SetCommand
    s = record { idn = record { raw = other }; cycle = cycle; well = ends_well rate other blocks }

    by : (cancels : Bool) → (value == to_cancel) ≡ cancels → find_set raw (settings rate h) ≡ setting_of rate raw h → find_set raw
        (cond cancels (without other (settings rate h)) (with_set s (settings rate h)))
        ≡ option_map (setting_by rate raw) (last_or None (take_while sets
        (cond (other == raw) (one ∷ writes_to_command raw h) (writes_to_command raw h))))
    by true e more = find-without raw other (settings rate h) ∙ which (other == raw)
      where
        which : (same : Bool) → cond same None (find_set raw (settings rate h))
            ≡ option_map (setting_by rate raw) (last_or None (take_while sets
            (cond same (one ∷ writes_to_command raw h) (writes_to_command raw h))))
        which true = rw (take_while-cons sets one (writes_to_command raw h)) (rw e refl)
        which false = more
    by false e more = find-with_set raw s (settings rate h) ∙ which (other == raw) refl
      where
        which : (same : Bool) → (other == raw) ≡ same → cond (is_some (find_set raw (settings rate h))) (find_set raw (settings rate h))
            (cond same (Some s) None)
            ≡ option_map (setting_by rate raw) (last_or None (take_while sets
            (cond same (one ∷ writes_to_command raw h) (writes_to_command raw h))))
        which true f = joined ∙ sym (rw (take_while-cons sets one (writes_to_command raw h))
            (rw e (ap (option_map (setting_by rate raw)) (last-cons one (take_while sets (writes_to_command raw h))))))
          where
            is : other ≡ raw
            is = grind (arith, nat_tests, f)

            over : (o : Option CommandWrite) → cond (is_some (option_map (setting_by rate raw) o)) (option_map (setting_by rate raw) o)
                (Some (setting_by rate raw one)) ≡ option_map (setting_by rate raw) (cond (is_some o) o (Some one))
            over None = refl
            over (Some w) = refl

            joined : cond (is_some (find_set raw (settings rate h))) (find_set raw (settings rate h)) (Some s)
                ≡ option_map (setting_by rate raw) (cond (is_some (set_by raw h)) (set_by raw h) (Some one))
            joined = rw (more, is) (over (set_by raw h))
        which false f = kept (find_set raw (settings rate h)) ∙ more
          where
            kept : (o : Option SetCommand) → cond (is_some o) o None ≡ o
            kept None = refl
            kept (Some t) = refl

pub is_none-settings : (rate raw : ℕ) (h : List CommandCall) → is_none (find_set raw (settings rate h)) ≡ not (is_set raw h)
is_none-settings rate raw h = ap is_none (find-settings rate raw h) ∙ by (set_by raw h)
  where
    by : (o : Option CommandWrite) → is_none (option_map (setting_by rate raw) o) ≡ not (is_some o)
    by None = refl
    by (Some w) = refl

-- THE CHECKS. What is said of each place of a list holds of the first, or of a later one.
any-same : {X : Type 0} (f g : X → Bool) → ((x : X) → f x ≡ g x) → (xs : List X) → list_any f xs ≡ list_any g xs
any-same f g same [] = refl
any-same f g same (x ∷ xs) = rw (same x, any-same f g same xs) refl

any-later : (f : ℕ → Bool) (a n : ℕ) → list_any f (range_with_len (suc a) n) ≡ list_any (λ k. f (suc k)) (range_with_len a n)
any-later f a zero = refl
any-later f a (suc n) = let next : suc a + 1 ≡ suc (a + 1) = omega arith in rw (next, any-later f (a + 1) n) refl

-- so it is of a list with one call more
passed-more : (rate time check cycle : ℕ) (call : CommandCall) (h : List CommandCall) → is_passed rate time check (call ∷ h) cycle
    ≡ (passes_check rate time check cycle [] (call ∷ h)
    || list_any (λ k. passes_check rate time check cycle (call ∷ take k h) (drop k h)) (range_with_len 0 (length h)))
passed-more rate time check cycle call h =
    ap (λ (b : Bool). passes_check rate time check cycle [] (call ∷ h) || b)
    (any-later (λ k. passes_check rate time check cycle (take k (call ∷ h)) (drop k (call ∷ h))) 0 (length h))

-- a later call that undoes each check
undone : (a b c d : Bool) → (a && (b && (c && (d && false)))) ≡ false
undone true true true true = refl
undone true true true false = refl
undone true true false d = refl
undone true false c d = refl
undone false b c d = refl

undoes : (rate time check cycle : ℕ) (call : CommandCall) → ((end : ℕ) → spares_check check end call ≡ false) → (since before : List CommandCall)
    → passes_check rate time check cycle (call ∷ since) before ≡ false
undoes rate time check cycle call ends since [] = refl
undoes rate time check cycle call ends since (Reset ∷ before) = refl
undoes rate time check cycle call ends since (Other other ∷ before) = refl
undoes rate time check cycle call ends since (Wrote raw value at blocks ∷ before) =
    rw (ends (at + time)) (undone (raw == check) (not (value == to_cancel)) (not (is_set check before)) (nat_le (at + time) cycle))

none-any : {X : Type 0} (f : X → Bool) → ((x : X) → f x ≡ false) → (xs : List X) → list_any f xs ≡ false
none-any f none [] = refl
none-any f none (x ∷ xs) = rw (none x, none-any f none xs) refl

-- a later call that leaves each check, and a cancel, which leaves those that have ended
left : (rate time check cycle : ℕ) (call : CommandCall) → ((end : ℕ) → spares_check check end call ≡ true) → (since before : List CommandCall)
    → passes_check rate time check cycle (call ∷ since) before ≡ passes_check rate time check cycle since before
left rate time check cycle call stays since [] = refl
left rate time check cycle call stays since (Reset ∷ before) = refl
left rate time check cycle call stays since (Other other ∷ before) = refl
left rate time check cycle call stays since (Wrote raw value at blocks ∷ before) = rw (stays (at + time)) refl

cancelled : (rate time check cycle end : ℕ) (call : CommandCall) → ((n : ℕ) → spares_check check n call ≡ nat_le n end)
    → (since before : List CommandCall)
    → passes_check rate time check cycle (call ∷ since) before ≡ passes_check rate time check (min cycle end) since before
cancelled rate time check cycle end call stays since [] = refl
cancelled rate time check cycle end call stays since (Reset ∷ before) = refl
cancelled rate time check cycle end call stays since (Other other ∷ before) = refl
cancelled rate time check cycle end call stays since (Wrote raw value at blocks ∷ before) =
    rw (stays (at + time)) (ap (λ (b : Bool). (raw == check) && (not (value == to_cancel) && (not (is_set check before) && b)))
    (both (list_all (spares_check check (at + time)) since)))
  where
    both : (rest : Bool) → (nat_le (at + time) cycle && ((nat_le (at + time) end && rest) && ends_well rate check blocks))
        ≡ (nat_le (at + time) (min cycle end) && (rest && ends_well rate check blocks))
    both true = grind (arith, nat_tests)
    both false = grind (arith, nat_tests)

-- THE RECURSION is what the calls say.
pub is_passed-kept : (rate time check : ℕ) (h : List CommandCall) (cycle : ℕ) → is_passed rate time check h cycle
    ≡ passed_so_far rate time check h cycle
is_passed-kept rate time check [] cycle = refl
is_passed-kept rate time check (Reset ∷ h) cycle =
    passed-more rate time check cycle Reset h ∙ none-any (λ k. passes_check rate time check cycle (Reset ∷ take k h) (drop k h))
    (λ k. undoes rate time check cycle Reset (λ n. refl) (take k h) (drop k h)) (range_with_len 0 (length h))
is_passed-kept rate time check (Other c ∷ h) cycle =
    passed-more rate time check cycle (Other c) h ∙ none-any (λ k. passes_check rate time check cycle (Other c ∷ take k h) (drop k h))
    (λ k. undoes rate time check cycle (Other c) (λ n. refl) (take k h) (drop k h)) (range_with_len 0 (length h))
is_passed-kept rate time check (Wrote raw value c blocks ∷ h) cycle =
    passed-more rate time check cycle (Wrote raw value c blocks) h ∙ by (raw == check) (value == to_cancel) refl refl
    (is_passed-kept rate time check h cycle) (is_passed-kept rate time check h (min cycle c))
  where
    one : CommandCall
    one = Wrote raw value c blocks

    since : ℕ → Bool
    since k = passes_check rate time check cycle (one ∷ take k h) (drop k h)

    stays : (same cancels : Bool) → (raw == check) ≡ same → (value == to_cancel) ≡ cancels → (same && cancels) ≡ false → (end : ℕ)
        → spares_check check end one ≡ true
    stays same cancels e f not_both end = rw (e, f) (by same cancels not_both)
      where
        by : (same cancels : Bool) → (same && cancels) ≡ false → (not (same && cancels) || nat_le end c) ≡ true
        by true true not_both = cc
        by true false not_both = refl
        by false cancels not_both = refl

    by : (same cancels : Bool) → (raw == check) ≡ same → (value == to_cancel) ≡ cancels
        → is_passed rate time check h cycle ≡ passed_so_far rate time check h cycle
        → is_passed rate time check h (min cycle c) ≡ passed_so_far rate time check h (min cycle c)
        → ((same && (not cancels && (not (is_set check h) && (nat_le (c + time) cycle && (true && ends_well rate check blocks)))))
        || list_any (λ k. passes_check rate time check cycle (one ∷ take k h) (drop k h)) (range_with_len 0 (length h)))
        ≡ cond same (cond cancels (passed_so_far rate time check h (min cycle c))
        ((is_none (find_set check (settings rate h)) && (ends_well rate check blocks && nat_le (c + time) cycle))
        || passed_so_far rate time check h cycle)) (passed_so_far rate time check h cycle)
    by false cancels e f now early =
        any-same since (λ k. passes_check rate time check cycle (take k h) (drop k h))
        (λ k. left rate time check cycle one (stays false cancels e f refl) (take k h) (drop k h)) (range_with_len 0 (length h)) ∙ now
    by true true e f now early =
        any-same since (λ k. passes_check rate time check (min cycle c) (take k h) (drop k h))
        (λ k. cancelled rate time check cycle c one (λ n. rw (e, f) refl) (take k h) (drop k h)) (range_with_len 0 (length h)) ∙ early
    by true false e f now early =
        rw (is_none-settings rate check h, and_comm (nat_le (c + time) cycle) (ends_well rate check blocks))
        (ap (λ (b : Bool). (not (is_set check h) && (ends_well rate check blocks && nat_le (c + time) cycle)) || b)
        (any-same since (λ k. passes_check rate time check cycle (take k h) (drop k h))
        (λ k. left rate time check cycle one (stays true false e f refl) (take k h) (drop k h)) (range_with_len 0 (length h)) ∙ now))

-- THE CHANGE BIT
distinct_settings : (rate : ℕ) (h : List CommandCall) → are_distinct (settings rate h) ≡ true
unfolding are_distinct
distinct_settings rate [] = refl
distinct_settings rate (Reset ∷ h) = refl
distinct_settings rate (Other cycle ∷ h) = distinct_settings rate h
distinct_settings rate (Wrote raw value cycle blocks ∷ h) = by (value == to_cancel) (find_set raw (settings rate h)) refl
    (distinct_settings rate h)
  where
    s : SetCommand
    s = record { idn = record { raw = raw }; cycle = cycle; well = ends_well rate raw blocks }

    by : (cancels : Bool) (o : Option SetCommand) → find_set raw (settings rate h) ≡ o → are_distinct (settings rate h) ≡ true
        → are_distinct (cond cancels (without raw (settings rate h)) (cond (is_some o) (settings rate h) (settings rate h ++ s ∷ [])))
        ≡ true
    by true o e distinct = distinct_without raw (settings rate h) distinct
    by false None e distinct = distinct_appended s (settings rate h) e distinct
    by false (Some t) e distinct = distinct

-- whether the setting of a command has ended
abbrev ended_by : ℕ → ℕ → Option SetCommand → Bool
ended_by time cycle o = unwrap_or (option_map (has_ended time cycle) o) false

-- a setting that has ended is found by its number
found_ended : (time cycle : ℕ) (set : List SetCommand) → are_distinct set ≡ true → list_any (has_ended time cycle) set ≡ true
    → (raw : ℕ) × (ended_by time cycle (find_set raw set) ≡ true)
unfolding are_distinct
found_ended time cycle [] distinct any = absurd (false≢true any)
found_ended time cycle (s ∷ set) distinct any =
    let (new, rest) = and_parts (is_none (find_set s.idn.raw set)) (are_distinct set) distinct in
    by (has_ended time cycle s) refl new any (found_ended time cycle set rest)
  where
    by : (ended : Bool) → has_ended time cycle s ≡ ended → is_none (find_set s.idn.raw set) ≡ true
        → (ended || list_any (has_ended time cycle) set) ≡ true
        → (list_any (has_ended time cycle) set ≡ true → (raw : ℕ) × (ended_by time cycle (find_set raw set) ≡ true))
        → (raw : ℕ) × (ended_by time cycle (find_set raw (s ∷ set)) ≡ true)
    by true e new any more = let same : (s.idn.raw == s.idn.raw) ≡ true = grind (arith, nat_tests) in (s.idn.raw, rw same e)
    by false e new any more = let (raw, is) = more any in (raw, which raw (s.idn.raw == raw) refl is)
      where
        nothing : (o : Option SetCommand) → is_none o ≡ true → ended_by time cycle o ≡ true → ⊥
        nothing None none is = false≢true is
        nothing (Some t) none is = false≢true none

        which : (raw : ℕ) (same : Bool) → (s.idn.raw == raw) ≡ same → ended_by time cycle (find_set raw set) ≡ true
            → ended_by time cycle (cond same (Some s) (find_set raw set)) ≡ true
        which raw false f is = is
        which raw true f is =
            let same : raw ≡ s.idn.raw = grind (arith, nat_tests, f) in
            absurd (nothing (find_set s.idn.raw set) new (rw same at is))

-- and it is one of the settings
any_found : (time cycle raw : ℕ) (set : List SetCommand) → ended_by time cycle (find_set raw set) ≡ true → list_any
    (has_ended time cycle) set ≡ true
any_found time cycle raw [] is = absurd (false≢true is)
any_found time cycle raw (s ∷ set) is = by (s.idn.raw == raw) is (any_found time cycle raw set)
  where
    by : (same : Bool) → ended_by time cycle (cond same (Some s) (find_set raw set)) ≡ true
        → (ended_by time cycle (find_set raw set) ≡ true → list_any (has_ended time cycle) set ≡ true)
        → (has_ended time cycle s || list_any (has_ended time cycle) set) ≡ true
    by true is more = rw is refl
    by false is more = rw (more is) (or-true (has_ended time cycle s))

any_number : (time cycle : ℕ) (set : List SetCommand) (numbers : List ℕ) → list_any
    (λ raw. ended_by time cycle (find_set raw set)) numbers ≡ true
    → list_any (has_ended time cycle) set ≡ true
any_number time cycle set [] any = absurd (false≢true any)
any_number time cycle set (raw ∷ numbers) any = by (ended_by time cycle (find_set raw set)) refl any (any_number time cycle set numbers)
  where
    by : (ended : Bool) → ended_by time cycle (find_set raw set) ≡ ended
        → (ended || list_any (λ raw. ended_by time cycle (find_set raw set)) numbers) ≡ true
        → (list_any (λ raw. ended_by time cycle (find_set raw set)) numbers ≡ true → list_any (has_ended time cycle) set ≡ true)
        → list_any (has_ended time cycle) set ≡ true
    by true e any more = any_found time cycle raw set e
    by false e any more = more any

-- a command that is set was written to
was_written : (test : ℕ → Bool) (raw : ℕ) (h : List CommandCall) → is_set raw h ≡ true → test raw ≡ true → list_any test (command_numbers h) ≡ true
was_written test raw [] set is = absurd (false≢true set)
was_written test raw (Reset ∷ h) set is = absurd (false≢true set)
was_written test raw (Other cycle ∷ h) set is = was_written test raw h set is
was_written test raw (Wrote other value cycle blocks ∷ h) set is = by (other == raw) refl set (λ set. was_written test raw h set is)
  where
    by : (same : Bool) → (other == raw) ≡ same
        → is_some (last_or None (take_while sets
        (cond same (record { value = value; cycle = cycle; blocks = blocks } ∷ writes_to_command raw h) (writes_to_command raw h)))) ≡ true
        → (is_set raw h ≡ true → list_any test (command_numbers h) ≡ true)
        → (test other || list_any test (command_numbers h)) ≡ true
    by true e set more = let same : other ≡ raw = grind (arith, nat_tests, e) in rw same (rw is refl)
    by false e set more = rw (more set) (or-true (test other))

same_tests : (a b : Bool) → (a ≡ true → b ≡ true) → (b ≡ true → a ≡ true) → a ≡ b
same_tests true b one two = sym (one refl)
same_tests false true one two = two refl
same_tests false false one two = refl

pub change-settings : (c : CommandHistory) (cycle : ℕ) → list_any (has_ended c.time cycle) (settings c.rate c.calls) ≡ change_in c cycle
change-settings c cycle =
    same_tests (list_any (has_ended c.time cycle) set) (change_in c cycle)
    (λ any. let (raw, is) = found_ended c.time cycle set (distinct_settings c.rate c.calls) any in
    let ended : has_command_ended c raw cycle ≡ true = rw find-settings at is in
    was_written (λ raw. has_command_ended c raw cycle) raw c.calls (set_if raw (set_by raw c.calls) ended) ended)
    (λ any. any_number c.time cycle set (command_numbers c.calls)
    (sym (any-same (λ raw. has_command_ended c raw cycle) (λ raw. ended_by c.time cycle (find_set raw set))
    (λ raw. ap (ended_by c.time cycle) (sym (find-settings c.rate raw c.calls))) (command_numbers c.calls)) ∙ any))
  where
    set : List SetCommand
    set = settings c.rate c.calls

    set_if : (raw : ℕ) (o : Option CommandWrite) → ended_by c.time cycle (option_map (setting_by c.rate raw) o) ≡ true → is_some o ≡ true
    set_if raw None is = absurd (false≢true is)
    set_if raw (Some w) is = refl
