-- The stop of the last entry of four bytes is found from the last drive on.
use Rattle.std.proofs.Common.{◌≡◌, ℕ, ◌+◌, ◌==◌, Bool, true, false, cond, if◌then◌else◌, List, [], ◌∷◌, ◌++◌, Option, Some, None, is_some, option_map, refl, ◌∙◌, ap}
use Rattle.std.specs.List.{filter, last_or}
use Rattle.sercos_idn.specs.declared.idn.Idn.{Idn}
use Rattle.sercos_step.specs.declared.request.Outcome.{Outcome}
use Rattle.sercos_trace.specs.declared.events.Stop.{Stop}
use Rattle.sercos_seat.specs.Ring.{MemberView}
use Rattle.sercos_seat.specs.Agenda.{len_or_none, mdt_attributes, RecordEntry, record_entries, entries_from, has_four_bytes, stop_of_entry, last_long_stop}
use Rattle.sercos_seat.specs.Seats.{last_long, long_stop, last_long_from}

-- the last that passes a test
last_some : {A : Type 0} (y : A) (xs : List A) → last_or (Some y) xs ≡ cond (is_some (last_or None xs)) (last_or None xs) (Some y)
last_some y [] = refl
last_some y (x ∷ xs) = some x xs (Some y)
  where
    some : {A : Type 0} (x : A) (xs : List A) (o : Option A) → last_or (Some x) xs ≡ cond (is_some (last_or (Some x) xs))
        (last_or (Some x) xs) o
    some x [] o = refl
    some x (z ∷ xs) o = some z xs o

last_append : {A : Type 0} (p : A → Bool) (xs ys : List A)
    → last_or None (filter p (xs ++ ys)) ≡ cond (is_some (last_or None (filter p ys))) (last_or None (filter p ys))
    (last_or None (filter p xs))
last_append p [] ys = kept (last_or None (filter p ys))
  where
    kept : {A : Type 0} (o : Option A) → o ≡ cond (is_some o) o None
    kept None = refl
    kept (Some x) = refl
last_append p (x ∷ xs) ys = by (p x) (last_append p xs ys)
  where
    by : (b : Bool) → last_or None (filter p (xs ++ ys)) ≡ cond (is_some (last_or None (filter p ys))) (last_or None (filter p ys))
        (last_or None (filter p xs))
        → last_or None (cond b (x ∷ filter p (xs ++ ys)) (filter p (xs ++ ys)))
        ≡ cond (is_some (last_or None (filter p ys))) (last_or None (filter p ys)) (last_or None (cond b (x ∷ filter p xs) (filter p xs)))
    by false more = more
    by true more = last_some x (filter p (xs ++ ys)) ∙ rw (more, last_some x (filter p xs))
        (over (last_or None (filter p ys)) (last_or None (filter p xs)))
      where
        over : (o q : Option _) → cond (is_some (cond (is_some o) o q)) (cond (is_some o) o q) (Some x) ≡ cond (is_some o) o
            (cond (is_some q) q (Some x))
        over None q = refl
        over (Some y) q = refl

-- one drive's entries
long_in_record : (address : ℕ) (idns : List Idn) (words : List ℕ)
    → option_map stop_of_entry (last_or None (filter has_four_bytes (record_entries address idns words))) ≡ long_stop address
    (last_long idns words)
long_in_record address [] words = refl
long_in_record address (i ∷ idns) [] = refl
long_in_record address (i ∷ idns) (word ∷ words) = by (len_or_none word == 4) (long_in_record address idns words)
  where
    one : RecordEntry
    one = record { address = address; idn = i; word = word }

    rest : List RecordEntry
    rest = filter has_four_bytes (record_entries address idns words)

    over : (long : Bool) (o : Option RecordEntry) (q : Option (Idn × ℕ)) → option_map stop_of_entry o ≡ long_stop address q
        → option_map stop_of_entry (cond (is_some o) o (cond long (Some one) None)) ≡ long_stop address
        (if is_some q then q else (if long then Some (i, word) else None))
    over true None None same = refl
    over false None None same = refl
    over long (Some e) None same = absurd (cc)
    over long None (Some f) same = absurd (cc)
    over long (Some e) (Some f) same = same

    by : (long : Bool) → option_map stop_of_entry (last_or None rest) ≡ long_stop address (last_long idns words)
        → option_map stop_of_entry (last_or None (cond long (one ∷ rest) rest))
        ≡ long_stop address (if is_some (last_long idns words) then last_long idns words else (if long then Some (i, word) else None))
    by true same = rw (last_some one rest) (over true (last_or None rest) (last_long idns words) same)
    by false same = same ∙ ap (long_stop address) (kept (last_long idns words))
      where
        kept : (o : Option (Idn × ℕ)) → o ≡ (if is_some o then o else None)
        kept None = refl
        kept (Some f) = refl

pub last_long_stop-from : (drives : List MemberView) (k : ℕ) (outcomes : ℕ → List Outcome) → last_long_stop drives k outcomes
    ≡ last_long_from drives k outcomes
last_long_stop-from [] k outcomes = refl
last_long_stop-from (d ∷ drives) k outcomes =
    ap (option_map stop_of_entry) (last_append has_four_bytes here (entries_from drives (k + 1) outcomes))
    ∙ over (last_or None (filter has_four_bytes (entries_from drives (k + 1) outcomes))) (last_or None (filter has_four_bytes here))
    (last_long_from drives (k + 1) outcomes) (last_long_stop-from drives (k + 1) outcomes)
    ∙ ap (λ (x : Option Stop). if is_some (last_long_from drives (k + 1) outcomes) then last_long_from drives (k + 1) outcomes else x)
    (long_in_record d.address d.mdt (mdt_attributes d (outcomes k)))
  where
    here : List RecordEntry
    here = record_entries d.address d.mdt (mdt_attributes d (outcomes k))

    over : (o q : Option RecordEntry) (x : Option Stop) → option_map stop_of_entry o ≡ x
        → option_map stop_of_entry (cond (is_some o) o q) ≡ (if is_some x then x else option_map stop_of_entry q)
    over None q None same = refl
    over (Some e) q None same = absurd (cc)
    over None q (Some y) same = absurd (cc)
    over (Some e) q (Some y) same = same
