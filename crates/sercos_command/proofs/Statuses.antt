-- What is set, and what its data status is.
use Rattle.std.proofs.Common.{◌≡◌, ◌+◌, ◌==◌, ◌≢◌, nat_le, Bool, true, false, cond, not, List, [], ◌∷◌, ◌++◌, Option, Some, None, is_some, option_map, refl, arith}
use Rattle.std.specs.List.{last_or, list_all, take_while}
use Rattle.std.proofs.lemmas.Bool.{false≢true}
use Rattle.std.proofs.lemmas.Bool.Decides.{nat_tests}
use Rattle.std.proofs.lemmas.List.Sums.{take_while-cons}
use Rattle.sercos_idn.specs.Commands.{to_cancel}
use Rattle.sercos_command.specs.Settings.{status_by}
use Rattle.sercos_command.specs.Calls.{CommandWrite, writes_to_command, sets, set_by, is_set, setting_by}
use Rattle.sercos_command.specs.Laws.{IsSet, SetByNewest, is_unset, SetByFirst, HasStatus, StatusSays}

-- a list that begins with one has a last one
last_there : {A : Type 0} (x : A) (xs : List A) → is_some (last_or (Some x) xs) ≡ true
last_there x [] = refl
last_there x (y ∷ xs) = last_there y xs

pub set_by_newest : SetByNewest
set_by_newest raw h = (λ set. to (writes_to_command raw h) refl set, λ is. from is)
  where
    to : (writes : List CommandWrite) → writes_to_command raw h ≡ writes → is_some
        (last_or None (take_while sets writes)) ≡ true → IsSet raw h
    to [] e set = absurd (false≢true set)
    to (w ∷ writes) e set = by (w.value == to_cancel) refl (rw take_while-cons at set)
      where
        by : (cancels : Bool) → (w.value == to_cancel) ≡ cancels
            → is_some (last_or None (cond (not (w.value == to_cancel)) (w ∷ take_while sets writes) []))
            ≡ true → IsSet raw h
        by true f set = absurd (false≢true (rw f at set))
        by false f set = record { newest = w; before = writes; writes = e; value = grind (arith, nat_tests, f) }

    from : IsSet raw h → is_set raw h ≡ true
    from is =
        let other : (is.newest.value == to_cancel) ≡ false = let value = is.value in grind (arith, nat_tests, value) in
        rw (is.writes, take_while-cons, other) (last_there is.newest (take_while sets is.before))

-- if no write is kept, there is no write, or the newest one writes 0
none_kept : (writes : List CommandWrite) → take_while sets writes ≡ [] → is_unset writes ≡ true
none_kept [] none = refl
none_kept (y ∷ writes) none = by (y.value == to_cancel) (rw take_while-cons at none)
  where
    by : (cancels : Bool) → cond (not cancels) (y ∷ take_while sets writes) [] ≡ [] → cancels ≡ true
    by true none = refl
    by false none = cc

-- the last of the writes that a 0 doesn't end
last_set : (writes : List CommandWrite) (w : CommandWrite) → last_or None (take_while sets writes) ≡ Some w
    → (later : List CommandWrite) × (earlier : List CommandWrite) × (writes ≡ later ++ w ∷ earlier) × (list_all sets later ≡ true)
    × (w.value ≢ 0) × (is_unset earlier ≡ true)
last_set [] w is = cc
last_set (x ∷ writes) w is = by (x.value == to_cancel) refl (rw take_while-cons at is) (last_set writes w)
  where
    kept : (rest : List CommandWrite) → take_while sets writes ≡ rest → last_or None (x ∷ rest) ≡ Some w → (x.value == to_cancel) ≡ false
        → (last_or None (take_while sets writes) ≡ Some w
        → (later : List CommandWrite) × (earlier : List CommandWrite) × (writes ≡ later ++ w ∷ earlier) × (list_all sets later ≡ true)
        × (w.value ≢ 0) × (is_unset earlier ≡ true))
        → (later : List CommandWrite) × (earlier : List CommandWrite) × (x ∷ writes ≡ later ++ w ∷ earlier) × (list_all sets later ≡ true)
        × (w.value ≢ 0) × (is_unset earlier ≡ true)
    kept [] e is f more =
        let same : x ≡ w = cc in
        ([], writes, rw same refl, refl, rw (← same) (grind (arith, nat_tests, f)), none_kept writes e)
    kept (y ∷ rest) e is f more =
        let (later, earlier, split, all, value, before) = more (rw e is) in
        (x ∷ later, earlier, rw split refl, rw f all, value, before)

    by : (cancels : Bool) → (x.value == to_cancel) ≡ cancels
        → last_or None (cond (not (x.value == to_cancel)) (x ∷ take_while sets writes) []) ≡ Some w
        → (last_or None (take_while sets writes) ≡ Some w
        → (later : List CommandWrite) × (earlier : List CommandWrite) × (writes ≡ later ++ w ∷ earlier) × (list_all sets later ≡ true)
        × (w.value ≢ 0) × (is_unset earlier ≡ true))
        → (later : List CommandWrite) × (earlier : List CommandWrite) × (x ∷ writes ≡ later ++ w ∷ earlier) × (list_all sets later ≡ true)
        × (w.value ≢ 0) × (is_unset earlier ≡ true)
    by true f is more = let none : last_or None [] ≡ Some w = rw f at is in cc
    by false f is more = kept (take_while sets writes) refl (rw f at is) f more

pub set_by_first : SetByFirst
set_by_first raw h w is =
    let (later, earlier, split, all, value, before) = last_set (writes_to_command raw h) w is in
    record { later = later; earlier = earlier; writes = split; no_cancel_later = all; value = value; unset_before = before }

pub status_says : StatusSays
status_says c raw cycle = (λ unset. none (set_by raw c.calls) unset, λ w is. some w is)
  where
    none : (o : Option CommandWrite) → is_some o ≡ false → status_by c.time (option_map (setting_by c.rate raw) o) cycle ≡ 0
    none None unset = refl
    none (Some w) unset = absurd (cc)

    some : (w : CommandWrite) → set_by raw c.calls ≡ Some w → HasStatus c raw w cycle
    some w is = record {
      runs = λ early. let e : nat_le (w.cycle + c.time) cycle ≡ false = grind (arith, nat_tests, early) in rw (is, e) refl;
      ends = λ late well. let e : nat_le (w.cycle + c.time) cycle ≡ true = grind (arith, nat_tests, late) in rw (is, e, well) refl;
      fails = λ late fails. let e : nat_le (w.cycle + c.time) cycle ≡ true = grind (arith, nat_tests, late) in rw (is, e, fails) refl;
    }
