-- A text in parts, with a mark before each line.
use Rattle.std.proofs.Common.{◌≡◌, ℕ, zero, suc, true, ◌+◌, ◌<◌, ◌≤◌, List, [], ◌∷◌, ◌++◌, length, take, drop, get_or, Result, Ok, Err, OnOk, OnErr, IsOk, IsErr, refl, sym, ap, ◌∙◌, subst, arith, length-append, append_assoc, ◌⊎◌, inl, inr}
use Rattle.std.specs.List.{flat_map}
use Rattle.std.proofs.lemmas.List.{at_drop_more, at_drop_all, append-nil}
use Rattle.std.specs.Io.KnownBytes.{Appends}
use Rattle.std.proofs.lemmas.Bool.{cases_lt}
use Rattle.std.proofs.KnownBytes.{Appends-nil, Appends-trans}
use Rattle.sercos_model.specs.Streams.{HasCause}
use Rattle.sercos_model.proofs.KnownBytes.{Appends-prefix, Appends-front}
use Rattle.sercos_timing.specs.Views.{WishesView, PlanView}
use Rattle.sercos_trace.specs.Texts.{slot_text, slots_text}
use Rattle.sercos_trace.specs.Written as plain
use Rattle.sercos_trace.proofs.WriteLemmas.{ok_of, err_of, cause_of, room_of, left_of}
use Rattle.sercos_trace.specs.Marked.{marked, marked_from, begins_after, AreLines, NoFeed}
use Rattle.sercos_trace.specs.MarkedWritten.{Seen, HasTaken, HasFailed, Writes}
use Rattle.sercos_trace.proofs.MarkLemmas.{line_marked, marked_parts, marked_then, marked_none, marked_by_none, lines_then, no_lines, lines_one}

pub taken_none : (a : Seen) → HasTaken a a []
taken_none a = record {
  mark_is = refl;
  lines = no_lines;
  taken = subst (Appends a.held a.held) (sym (marked_none a.mark)) (Appends-nil a.held);
  faultless = refl;
  room_left = omega arith;
}

parts_length : (mark text more : List ℕ) → AreLines text → length (marked mark (text ++ more)) ≡ length (marked mark text) + length (marked mark more)
parts_length mark text more whole = ap length (marked_then mark text more whole) ∙ length-append (marked mark text) (marked mark more)

pub taken_then : (a b c : Seen) (text more : List ℕ) → HasTaken a b text → HasTaken b c more → HasTaken a c (text ++ more)
taken_then a b c text more p q = record {
  mark_is = q.mark_is ∙ p.mark_is;
  lines = lines_then text more p.lines q.lines;
  taken =
      let next : Appends b.held c.held (marked a.mark more) = subst (λ m. Appends b.held c.held (marked m more)) p.mark_is q.taken in
      subst (Appends a.held c.held) (sym (marked_then a.mark text more p.lines)) (Appends-trans a.held b.held c.held (marked a.mark text) (marked a.mark more) p.taken next);
  faultless = q.faultless ∙ p.faultless;
  room_left =
      let next : b.room ≤ c.room + length (marked a.mark more) = subst (λ m. b.room ≤ c.room + length (marked m more)) p.mark_is q.room_left in
      let sum = parts_length a.mark text more p.lines in
      omega (arith, p.room_left, next, sum);
}

-- a failure in the first part, and in what comes after it
front_of : (mark text more : List ℕ) → marked mark (text ++ more) ≡ marked mark text ++ marked_from (begins_after true text) mark more
unfolding marked
front_of mark text more = marked_parts true mark text more

pub failed_early : (a b : Seen) (text more : List ℕ) → HasFailed a b text → HasFailed a b (text ++ more)
failed_early a b text more p =
    let rest : List ℕ = marked_from (begins_after true text) a.mark more in
    let sum = ap length (front_of a.mark text more) ∙ length-append (marked a.mark text) rest in
    record {
      mark_is = p.mark_is;
      count = p.count;
      few = omega (arith, p.few, sum);
      taken = subst (λ t. Appends a.held b.held (take p.count t)) (sym (front_of a.mark text more)) (Appends-front a.held b.held (marked a.mark text) rest p.count (omega (arith, p.few)) p.taken);
      cause = p.cause;
      full = omega (arith, p.full, sum);
      room_left = omega (arith, p.room_left, sum);
    }

pub failed_later : (a b c : Seen) (text more : List ℕ) → HasTaken a b text → HasFailed b c more → HasFailed a c (text ++ more)
failed_later a b c text more p q =
    let sum = parts_length a.mark text more p.lines in
    let few : q.count < length (marked a.mark more) = subst (λ m. q.count < length (marked m more)) p.mark_is q.few in
    let full : b.room < length (marked a.mark more) = subst (λ m. b.room < length (marked m more)) p.mark_is q.full in
    let left : b.room ≤ c.room + length (marked a.mark more) = subst (λ m. b.room ≤ c.room + length (marked m more)) p.mark_is q.room_left in
    record {
      mark_is = q.mark_is ∙ p.mark_is;
      count = length (marked a.mark text) + q.count;
      few = omega (arith, few, sum);
      taken =
          let next : Appends b.held c.held (take q.count (marked a.mark more)) = subst (λ m. Appends b.held c.held (take q.count (marked m more))) p.mark_is q.taken in
          subst (λ t. Appends a.held c.held (take (length (marked a.mark text) + q.count) t)) (sym (marked_then a.mark text more p.lines))
          (Appends-prefix a.held b.held c.held (marked a.mark text) (marked a.mark more) q.count p.taken next);
      cause = rw p.faultless at q.cause;
      full = omega (arith, full, p.room_left, sum);
      room_left = omega (arith, p.room_left, left, sum);
    }

-- the sink alone
abbrev pub plain_of : Seen → plain.Seen
plain_of a = record { held = a.held; faults = a.faults; room = a.room }

-- a line that was written whole after its mark
marked_written : {T E : Type 0} (a b : Seen) (r : Result T E) (line : List ℕ) → b.mark ≡ a.mark
    → plain.Writes (plain_of a) (plain_of b) r (marked a.mark (line ++ 10 ∷ []))
    → Writes a b r (line ++ 10 ∷ [])
marked_written a b (Ok x) line same w = record { mark_is = same; lines = lines_one true line; taken = w.taken; faultless = w.faultless; room_left = w.room_left }
marked_written a b (Err e) line same w = record { mark_is = same; count = w.count; few = w.few; taken = w.taken; cause = w.cause; full = w.full; room_left = w.room_left }

pub line_written : {T E : Type 0} (a b : Seen) (r : Result T E) (line : List ℕ) → NoFeed line → b.mark ≡ a.mark
    → plain.Writes (plain_of a) (plain_of b) r (a.mark ++ (line ++ 10 ∷ [])) → Writes a b r (line ++ 10 ∷ [])
line_written a b r line none same w = marked_written a b r line same (subst (plain.Writes (plain_of a) (plain_of b) r) (sym (line_marked a.mark line none)) w)

-- A loop that writes the texts of a list's items: so much was taken, and the rest of the whole text is that of the items left.
next_text : {X : Type 0} (f : X → List ℕ) (xs : List X) (i : ℕ) (d : X) → i < length xs → flat_map f (drop i xs) ≡ f (get_or xs i d) ++ flat_map f (drop (i + 1) xs)
next_text f xs i d inside = at_drop_more (flat_map f) xs i d inside

-- within a list the default doesn't matter
pub same_item : {X : Type 0} (xs : List X) (i : ℕ) (d e : X) → i < length xs → get_or xs i d ≡ get_or xs i e
same_item [] i d e inside = absurd (omega (arith, inside))
same_item (x ∷ xs) zero d e inside = refl
same_item (x ∷ xs) (suc i) d e inside = same_item xs i d e (omega (arith, inside))

pub loop_next : {X : Type 0} (f : X → List ℕ) (xs : List X) (i : ℕ) (x : X) (front whole : List ℕ) → i < length xs → x ≡ get_or xs i x → front ++ flat_map f (drop i xs) ≡ whole
    → (front ++ f x) ++ flat_map f (drop (i + 1) xs) ≡ whole
loop_next f xs i x front whole inside here is =
    let next : flat_map f (drop i xs) ≡ f x ++ flat_map f (drop (i + 1) xs) = next_text f xs i x inside ∙ ap (λ y. f y ++ flat_map f (drop (i + 1) xs)) (sym here) in
    append_assoc front (f x) _ ∙ ap (λ t. front ++ t) (sym next) ∙ is

pub loop_failed : {X : Type 0} (a b c : Seen) (f : X → List ℕ) (xs : List X) (i : ℕ) (x : X) (front whole : List ℕ) → i < length xs → x ≡ get_or xs i x → front ++ flat_map f (drop i xs) ≡ whole
    → HasTaken a b front → HasFailed b c (f x) → HasFailed a c whole
loop_failed a b c f xs i x front whole inside here is taken failed =
    subst (HasFailed a c) (sym (append_assoc front (f x) _) ∙ loop_next f xs i x front whole inside here is)
    (failed_later a b c front (f x ++ flat_map f (drop (i + 1) xs)) taken (failed_early b c (f x) _ failed))

pub loop_end : {X : Type 0} (a b : Seen) (f : X → List ℕ) (xs : List X) (i : ℕ) (front whole : List ℕ) → length xs ≤ i → front ++ flat_map f (drop i xs) ≡ whole → HasTaken a b front → HasTaken a b whole
loop_end a b f xs i front whole ended is taken =
    let none : flat_map f (drop i xs) ≡ [] = at_drop_all (flat_map f) xs i ended in
    subst (HasTaken a b) (sym (append-nil front) ∙ ap (λ t. front ++ t) (sym none) ∙ is) taken

-- the answer of a call that hands on a failure
pub failed_is : {T E : Type 0} (a b : Seen) (r : Result T E) (text : List ℕ) → IsErr r → HasFailed a b text → Writes a b r text
failed_is {T = T} {E = E} a b (Ok x) text is failed = absurd (never is)
  where
    never : IsErr {T = T} {E = E} (Ok x) → ⊥
    never is = cc
failed_is a b (Err e) text is failed = failed

pub writes_then : {T E : Type 0} (a b c : Seen) (r : Result T E) (text more : List ℕ) → HasTaken a b text → Writes b c r more → Writes a c r (text ++ more)
writes_then a b c (Ok x) text more taken written = taken_then a b c text more taken written
writes_then a b c (Err e) text more taken failed = failed_later a b c text more taken failed

-- the slots of the first drives
slots_failed_by : (a b : Seen) (cycle : ℕ) (w : WishesView) (p : PlanView) (n m : ℕ) → (m ≡ suc n) ⊎ (m ≤ n) → (m ≤ n → HasFailed a b (slots_text cycle w p m) → HasFailed a b (slots_text cycle w p n))
    → HasFailed a b (slots_text cycle w p m) → HasFailed a b (slots_text cycle w p (suc n))
slots_failed_by a b cycle w p n m (inl same) rest failed = rw same at failed
slots_failed_by a b cycle w p n m (inr below) rest failed = failed_early a b (slots_text cycle w p n) (slot_text cycle w p n) (rest below failed)

pub slots_failed : (a b : Seen) (cycle : ℕ) (w : WishesView) (p : PlanView) (n m : ℕ) → m ≤ n → HasFailed a b (slots_text cycle w p m) → HasFailed a b (slots_text cycle w p n)
slots_failed a b cycle w p zero m within failed = let none : m ≡ 0 = omega (arith, within) in rw none at failed
slots_failed a b cycle w p (suc n) m within failed =
    slots_failed_by a b cycle w p n m (elim (cases_lt n m) [
      | inl above ↦ inl (omega (arith, within, above))
      | inr below ↦ inr (omega (arith, below))
    ]) (slots_failed a b cycle w p n m) failed

pub slot_failed : (a b c : Seen) (cycle : ℕ) (w : WishesView) (p : PlanView) (k n : ℕ) → k < n → HasTaken a b (slots_text cycle w p k) → HasFailed b c (slot_text cycle w p k) → HasFailed a c (slots_text cycle w p n)
slot_failed a b c cycle w p k n inside taken failed =
    slots_failed a c cycle w p n (suc k) (omega (arith, inside)) (failed_later a b c (slots_text cycle w p k) (slot_text cycle w p k) taken failed)

pub slots_more : (a b c : Seen) (cycle : ℕ) (w : WishesView) (p : PlanView) (k : ℕ) → HasTaken a b (slots_text cycle w p k) → HasTaken b c (slot_text cycle w p k) → HasTaken a c (slots_text cycle w p (k + 1))
slots_more a b c cycle w p k taken more =
    let next : suc k ≡ k + 1 = omega arith in
    subst (λ n. HasTaken a c (slots_text cycle w p n)) next (taken_then a b c (slots_text cycle w p k) (slot_text cycle w p k) taken more)

pub taken_nothing : (a : Seen) (text : List ℕ) → text ≡ [] → HasTaken a a text
taken_nothing a text none = subst (HasTaken a a) (sym none) (taken_none a)

-- with no mark the text is as it is
as_it_is : (mark text : List ℕ) → mark ≡ [] → marked mark text ≡ text
unfolding marked
as_it_is mark text none = rw none (marked_by_none true text)

pub unmarked : {T E : Type 0} (a b : Seen) (r : Result T E) (text : List ℕ) → a.mark ≡ [] → Writes a b r text → plain.Writes (plain_of a) (plain_of b) r text
unmarked a b (Ok x) text none w = let same = as_it_is a.mark text none in record {
  taken = subst (Appends a.held b.held) same w.taken;
  faultless = w.faultless;
  room_left = subst (λ t. a.room ≤ b.room + length t) same w.room_left;
}
unmarked a b (Err e) text none w = let same = as_it_is a.mark text none in record {
  count = w.count;
  few = subst (λ t. w.count < length t) same w.few;
  taken = subst (λ t. Appends a.held b.held (take w.count t)) same w.taken;
  cause = w.cause;
  full = subst (λ t. a.room < length t) same w.full;
  room_left = subst (λ t. a.room ≤ b.room + length t) same w.room_left;
}

-- the clauses of a public call without marks, one by one
pub unmarked_ok : {T E : Type 0} (a b : Seen) (r : Result T E) (text : List ℕ) → a.mark ≡ [] → Writes a b r text → OnOk r (Appends a.held b.held text)
unmarked_ok a b r text none w = ok_of (plain_of a) (plain_of b) r text (unmarked a b r text none w)

pub unmarked_err : {T E : Type 0} (a b : Seen) (r : Result T E) (text : List ℕ) → a.mark ≡ [] → Writes a b r text → OnErr r ((count : ℕ) × (count < length text) × Appends a.held b.held (take count text))
unmarked_err a b r text none w = err_of (plain_of a) (plain_of b) r text (unmarked a b r text none w)

pub unmarked_cause : {T E : Type 0} (a b : Seen) (r : Result T E) (text : List ℕ) → a.mark ≡ [] → Writes a b r text → HasCause a.faults b.faults r
unmarked_cause a b r text none w = cause_of (plain_of a) (plain_of b) r text (unmarked a b r text none w)

pub unmarked_room : {T E : Type 0} (a b : Seen) (r : Result T E) (text : List ℕ) → a.mark ≡ [] → Writes a b r text → length text ≤ a.room → IsOk r
unmarked_room a b r text none w = room_of (plain_of a) (plain_of b) r text (unmarked a b r text none w)

pub unmarked_left : {T E : Type 0} (a b : Seen) (r : Result T E) (text : List ℕ) → a.mark ≡ [] → Writes a b r text → a.room ≤ b.room + length text
unmarked_left a b r text none w = left_of (plain_of a) (plain_of b) r text (unmarked a b r text none w)
