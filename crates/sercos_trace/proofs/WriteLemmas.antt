-- A text in parts.
use Rattle.std.proofs.Common.{ℕ, ◌+◌, ◌<◌, ◌≤◌, List, [], ◌++◌, length, take, Result, Ok, Err, OnOk, OnErr, IsOk, IsErr, refl, ◌∙◌, arith, length-append, inl, inr}
use Rattle.std.specs.Io.KnownBytes.{Appends}
use Rattle.std.proofs.lemmas.Bool.{cases_lt}
use Rattle.std.proofs.KnownBytes.{Appends-nil, Appends-trans}
use Rattle.sercos_model.specs.Streams.{HasCause}
use Rattle.sercos_model.proofs.KnownBytes.{Appends-prefix, Appends-front}
use Rattle.sercos_trace.specs.Written.{Seen, HasTaken, HasFailed, Writes}

pub taken_none : (a : Seen) → HasTaken a a []
taken_none a = record { taken = Appends-nil a.held; faultless = refl; room_left = omega arith }

pub taken_then : (a b c : Seen) (text more : List ℕ) → HasTaken a b text → HasTaken b c more → HasTaken a c (text ++ more)
taken_then a b c text more p q = record {
  taken = Appends-trans a.held b.held c.held text more p.taken q.taken;
  faultless = q.faultless ∙ p.faultless;
  room_left = omega (arith, p.room_left, q.room_left, length-append text more);
}

-- a failure in the first part, and in what comes after it
pub failed_early : (a b : Seen) (text more : List ℕ) → HasFailed a b text → HasFailed a b (text ++ more)
failed_early a b text more p = record {
  count = p.count;
  few = omega (arith, p.few, length-append text more);
  taken = Appends-front a.held b.held text more p.count (omega (arith, p.few)) p.taken;
  cause = p.cause;
  full = omega (arith, p.full, length-append text more);
  room_left = omega (arith, p.room_left, length-append text more);
}

pub failed_later : (a b c : Seen) (text more : List ℕ) → HasTaken a b text → HasFailed b c more → HasFailed a c (text ++ more)
failed_later a b c text more p q = record {
  count = length text + q.count;
  few = omega (arith, q.few, length-append text more);
  taken = Appends-prefix a.held b.held c.held text more q.count p.taken q.taken;
  cause = rw p.faultless at q.cause;
  full = omega (arith, q.full, p.room_left, length-append text more);
  room_left = omega (arith, p.room_left, q.room_left, length-append text more);
}

-- what one call says of a whole text
pub writes_all : {T E : Type 0} (a b : Seen) (r : Result T E) (text : List ℕ) → OnOk r (Appends a.held b.held text)
    → OnErr r ((count : ℕ) × (count < length text) × Appends a.held b.held (take count text)) → HasCause a.faults b.faults r
    → (length text ≤ a.room → IsOk r) → a.room ≤ b.room + length text → Writes a b r text
writes_all a b (Ok x) text ok err cause room left = record { taken = ok; faultless = cause; room_left = left }
writes_all {T = T} {E = E} a b (Err e) text ok err cause room left = record { count = err.0; few = err.1; taken = err.2; cause = cause; full = short; room_left = left }
  where
    fails : IsOk {T = T} {E = E} (Err e) → ⊥
    fails is = cc

    short : a.room < length text
    short = elim (cases_lt (length text) (a.room + 1)) [
      | inl fits ↦ absurd (fails (room (omega arith)))
      | inr above ↦ omega arith
    ]

-- the answer of a call that hands on a failure
pub failed_is : {T E : Type 0} (a b : Seen) (r : Result T E) (text : List ℕ) → IsErr r → HasFailed a b text → Writes a b r text
failed_is {T = T} {E = E} a b (Ok x) text is failed = absurd (never is)
  where
    never : IsErr {T = T} {E = E} (Ok x) → ⊥
    never is = cc
failed_is a b (Err e) text is failed = failed

pub writes_then : {T E : Type 0} (a b c : Seen) (r : Result T E) (text more : List ℕ) → HasTaken a b text → Writes b c r more → Writes a c r (text ++ more)
writes_then a b c (Ok x) text more taken written = taken_then a b c text more taken written
writes_then a b c (Err e) text more taken failed = failed_later a b c text more taken failed

-- the clauses of a public call, one by one
pub ok_of : {T E : Type 0} (a b : Seen) (r : Result T E) (text : List ℕ) → Writes a b r text → OnOk r (Appends a.held b.held text)
ok_of a b (Ok x) text w = w.taken
ok_of a b (Err e) text w = tt

pub err_of : {T E : Type 0} (a b : Seen) (r : Result T E) (text : List ℕ) → Writes a b r text → OnErr r ((count : ℕ) × (count < length text) × Appends a.held b.held (take count text))
err_of a b (Ok x) text w = tt
err_of a b (Err e) text w = (w.count, w.few, w.taken)

pub cause_of : {T E : Type 0} (a b : Seen) (r : Result T E) (text : List ℕ) → Writes a b r text → HasCause a.faults b.faults r
cause_of a b (Ok x) text w = w.faultless
cause_of a b (Err e) text w = w.cause

pub room_of : {T E : Type 0} (a b : Seen) (r : Result T E) (text : List ℕ) → Writes a b r text → length text ≤ a.room → IsOk r
room_of a b (Ok x) text w fits = refl
room_of a b (Err e) text w fits = absurd (omega (arith, w.full, fits))

pub left_of : {T E : Type 0} (a b : Seen) (r : Result T E) (text : List ℕ) → Writes a b r text → a.room ≤ b.room + length text
left_of a b (Ok x) text w = w.room_left
left_of a b (Err e) text w = w.room_left
