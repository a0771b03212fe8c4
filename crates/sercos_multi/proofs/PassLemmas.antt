-- Rings that pass a moment one after the other, and go on from moment to moment.
use Rattle.std.proofs.Common.{◌≡◌, ℕ, suc, ◌+◌, ◌-◌, ◌<◌, ◌≤◌, ◌==◌, ◌⊎◌, inl, inr, Bool, true, false, ◌&&◌, ◌||◌, if◌then◌else◌, min, List, [], ◌∷◌, ◌++◌, length, take, drop, map, get_or, Option, Some, None, IfSome, Result, Ok, Err, IsErr, refl, sym, ◌∙◌, ap, subst, arith, append_assoc}
use Rattle.std.specs.Prelude.{nat_lt}
use Rattle.std.specs.List.{All, flat_map, list_all, sum_by}
use Rattle.std.proofs.Math.ListN.{set}
use Rattle.std.proofs.lemmas.Bool.{cases_lt, or_parts, or_cases}
use Rattle.std.proofs.lemmas.Bool.Decides.{nat_tests}
use Rattle.std.proofs.lemmas.List.{length-map}
use Rattle.std.proofs.lemmas.List.Elements.{All-from_get_or}
use Rattle.sercos_timing.specs.Views.{WishesView}
use Rattle.sercos_timing.specs.Valid.{IsOrder}
use Rattle.sercos_block.specs.Views.{RingView}
use Rattle.sercos_block.specs.Rings.{wishes_of, wish_of}
use Rattle.sercos_script.specs.Links.{Carry, Restarts}
use Rattle.sercos_trace.specs.Written.{Seen, HasTaken, HasFailed, Writes}
use Rattle.sercos_trace.specs.Texts.{header_text}
use Rattle.sercos_trace.specs.Marked.{marked}
use Rattle.sercos_trace.specs.MarkedWritten as with_marks
use Rattle.sercos_trace.proofs.WriteLemmas.{taken_none, taken_then, failed_early, failed_later, writes_then}
use Rattle.sercos_multi.specs.declared.part.Part.{Part}
use Rattle.sercos_multi.specs.Merged.{Voice, all_timed, begun, head_lines, is_timed, lines_at, mark_of, over_by, rest_text, together_line}
use Rattle.sercos_multi.specs.Going as going
use Rattle.sercos_multi.specs.Going.{AreFrom, Begins, Each, IsFrom, here_text, passed, timed_count}
use Rattle.sercos_multi.specs.Parts.{AllAt, AreOn, ArePassing, IsAt, IsEarliest, PassAll}
use Rattle.sercos_multi.specs.Sooner.{sooner, soonest}
use Rattle.sercos_multi.proofs.ListLemmas.{Turn, turn, turn_of, all_length, mapped_all, taken_all, text_next, text_whole, each_at, each_push, some_push, some_last, each_less}
use Rattle.sercos_multi.proofs.PartLemmas.{plain_of, unmarked_writes}
use Rattle.sercos_multi.proofs.MomentLemmas.{done_rest, turn_rest, over_all, over_same, from_next}

-- ---- one ring after the other
pub passing_none : {L : Type 0} (carry_of : L → Carry) (restart_of : L → Restarts) (time moment : ℕ) (parts : List (Part L)) (a : Seen) (voices : List Voice) → AllAt carry_of restart_of parts voices
    → ArePassing carry_of restart_of time moment parts a a true 0 voices
passing_none carry_of restart_of time moment parts a voices all = record { at = all; taken = taken_none a; timed_is = refl }

pub passing_turn : {L : Type 0} (carry_of : L → Carry) (restart_of : L → Restarts) (time moment : ℕ) (parts : List (Part L)) (a b : Seen) (timed : Bool) (k : ℕ) (voices : List Voice) (x : Part L)
    → k < length parts → x ≡ get_or parts k x → ArePassing carry_of restart_of time moment parts a b timed k voices → Turn (IsAt carry_of restart_of) (passed time moment) parts voices k x
passing_turn carry_of restart_of time moment parts a b timed k voices x below same passing = turn (IsAt carry_of restart_of) (passed time moment) parts voices k x below same passing.at

timed_next : (p : Voice → Bool) (front : List Voice) (v : Voice) → list_all p (front ++ v ∷ []) ≡ (list_all p front && p v)
timed_next p [] v = and_true (p v)
  where
    and_true : (b : Bool) → (b && true) ≡ b
    and_true true = refl
    and_true false = refl
timed_next p (u ∷ front) v = ap (λ b. p u && b) (timed_next p front v) ∙ and_assoc (p u) (list_all p front) (p v)
  where
    and_assoc : (x y z : Bool) → (x && (y && z)) ≡ ((x && y) && z)
    and_assoc true y z = refl
    and_assoc false y z = refl

pub passing_next : {L : Type 0} (carry_of : L → Carry) (restart_of : L → Restarts) (time moment : ℕ) (parts : List (Part L)) (a b c : Seen) (timed one : Bool) (k : ℕ) (voices : List Voice) (x x' : Part L)
    → ArePassing carry_of restart_of time moment parts a b timed k voices → (t : Turn (IsAt carry_of restart_of) (passed time moment) parts voices k x)
    → IsAt carry_of restart_of x' (passed time moment t.item) → HasTaken b c (lines_at time moment t.item) → one ≡ is_timed (begun time moment t.item)
    → ArePassing carry_of restart_of time moment (set parts k x') a c (timed && one) (k + 1) voices
passing_next carry_of restart_of time moment parts a b c timed one k voices x x' passing t at taken is =
    let next : suc k ≡ k + 1 = omega arith in
    subst (λ n. ArePassing carry_of restart_of time moment (set parts k x') a c (timed && one) n voices) next (record {
      at = t.next x' at;
      taken = subst (HasTaken a c) (sym (text_next (lines_at time moment) voices k t.item t.last)) (taken_then a b c (flat_map (lines_at time moment) (take k voices)) (lines_at time moment t.item) passing.taken taken);
      timed_is =
          ap (λ s. s && one) passing.timed_is ∙ ap (λ s. all_timed time (take k voices) moment && s) is
          ∙ sym (timed_next (λ v. is_timed (begun time moment v)) (take k voices) t.item)
          ∙ sym (ap (λ l. all_timed time l moment) t.last);
    })

pub passing_from : (moment : ℕ) {L : Type 0} (carry_of : L → Carry) (restart_of : L → Restarts) (time : ℕ) (parts : List (Part L)) (k : ℕ) (voices : List Voice) (x : Part L)
    → (t : Turn (IsAt carry_of restart_of) (passed time moment) parts voices k x) → AreFrom moment voices → IsFrom moment t.item
passing_from moment carry_of restart_of time parts k voices x t from = each_at (IsFrom moment) voices k t.item (drop (suc k) voices) from t.rest

pub pass_failed : {L E : Type 0} (carry_of : L → Carry) (restart_of : L → Restarts) (time moment : ℕ) (new : List (Part L)) (a b : Seen) (r : Result Bool E) (voices : List Voice) (text : List ℕ)
    → IsErr r → HasFailed a b text → PassAll carry_of restart_of time moment new a b r voices text
pass_failed {E = E} carry_of restart_of time moment new a b (Ok x) voices text is failed = absurd (never x is)
  where
    never : (x : Bool) → IsErr {E = E} (Ok x) → ⊥
    never x is = cc
pass_failed carry_of restart_of time moment new a b (Err e) voices text is failed = record { at = tt; written = failed; timed = tt }

pub passing_failed : {L : Type 0} (carry_of : L → Carry) (restart_of : L → Restarts) (time moment : ℕ) (parts : List (Part L)) (a b c : Seen) (timed : Bool) (k : ℕ) (voices : List Voice) (x : Part L)
    → ArePassing carry_of restart_of time moment parts a b timed k voices → (t : Turn (IsAt carry_of restart_of) (passed time moment) parts voices k x) → HasFailed b c (lines_at time moment t.item)
    → HasFailed a c (flat_map (lines_at time moment) voices)
passing_failed carry_of restart_of time moment parts a b c timed k voices x passing t failed =
    subst (HasFailed a c) (sym (text_whole (lines_at time moment) voices k t.item t.last))
    (failed_later a b c (flat_map (lines_at time moment) (take k voices)) (lines_at time moment t.item ++ flat_map (lines_at time moment) (drop (suc k) voices)) passing.taken
    (failed_early b c (lines_at time moment t.item) (flat_map (lines_at time moment) (drop (suc k) voices)) failed))

pub passing_done : {L E : Type 0} (carry_of : L → Carry) (restart_of : L → Restarts) (time moment : ℕ) (parts old : List (Part L)) (a b : Seen) (timed : Bool) (k : ℕ) (voices : List Voice)
    → AllAt carry_of restart_of old voices → length old ≤ k → ArePassing carry_of restart_of time moment parts a b timed k voices
    → PassAll {E = E} carry_of restart_of time moment parts a b (Ok timed) voices (flat_map (lines_at time moment) voices)
passing_done carry_of restart_of time moment parts old a b timed k voices all count passing =
    let few : length voices ≤ k = let same = all_length (IsAt carry_of restart_of) old voices all in omega (arith, same, count) in
    record {
      at = subst (AllAt carry_of restart_of parts) (mapped_all (passed time moment) voices k few) passing.at;
      written = subst (λ l. HasTaken a b (flat_map (lines_at time moment) l)) (taken_all voices k few) passing.taken;
      timed = passing.timed_is ∙ ap (λ l. all_timed time l moment) (taken_all voices k few);
    }

-- the line of the moment comes before
pub moment_then : {L E : Type 0} (carry_of : L → Carry) (restart_of : L → Restarts) (time moment : ℕ) (new : List (Part L)) (a b c : Seen) (r : Result Bool E) (voices : List Voice) (first text : List ℕ)
    → HasTaken a b first → PassAll carry_of restart_of time moment new b c r voices text → PassAll carry_of restart_of time moment new a c r voices (first ++ text)
moment_then carry_of restart_of time moment new a b c r voices first text taken all = record {
  at = all.at;
  written = writes_then a b c r first text taken all.written;
  timed = all.timed;
}

-- ---- the first moment

-- a ring that doesn't count
earliest_same : (best : Option ℕ) (front : List Voice) (v : Voice) → IsEarliest best front → length v.later ≡ 0 → IsEarliest best (front ++ v ∷ [])
earliest_same None front v is none = each_push (λ v. length v.later ≡ 0) front v is none
earliest_same (Some moment) front v is none =
    (each_push (IsFrom moment) front v is.0 (λ some. absurd (omega (arith, none, some))), some_push (Begins moment) front v is.1)

earliest_one : (best : Option ℕ) (front : List Voice) (v : Voice) → IsEarliest best front → 0 < length v.later → IsEarliest (soonest best v.at) (front ++ v ∷ [])
earliest_one None front v is some =
    (each_push (IsFrom v.at) front v (each_less (λ u. length u.later ≡ 0) (IsFrom v.at) front (λ u none more. absurd (omega (arith, none, more))) is) (λ more. omega arith), some_last (Begins v.at) front v (some, refl))
earliest_one (Some other) front v is some = elim (cases_lt v.at other) [
  | inl below ↦
      let least : v.at ≡ min v.at other = omega (arith, below) in
      subst (λ m. IsEarliest (Some m) (front ++ v ∷ [])) least
      (each_push (IsFrom v.at) front v (each_less (IsFrom other) (IsFrom v.at) front (λ u from more. let above = from more in omega (arith, above, below)) is.0) (λ more. omega arith), some_last (Begins v.at) front v (some, refl))
  | inr above ↦
      let least : other ≡ min v.at other = omega (arith, above) in
      subst (λ m. IsEarliest (Some m) (front ++ v ∷ [])) least (each_push (IsFrom other) front v is.0 (λ more. above), some_push (Begins other) front v is.1)
]

earliest_step : (best : Option ℕ) (front : List Voice) (v : Voice) (left at from : ℕ) → length v.later ≡ left → v.at ≡ at → IsFrom from v → IsEarliest best front
    → IsEarliest (sooner best left at from) (front ++ v ∷ [])
earliest_step best front v left at from left_is at_is after is = by ((left == 0) || nat_lt at from) refl
  where
    none : (left == 0) ≡ true → length v.later ≡ 0
    none is = let zero_is : left ≡ 0 = grind (arith, nat_tests) in omega (arith, left_is, zero_is)

    early : nat_lt at from ≡ true → length v.later ≡ 0
    early is = let below : at < from = grind (arith, nat_tests) in elim (cases_lt 0 (length v.later)) [
      | inl some ↦ absurd (let above = after some in omega (arith, above, at_is, below))
      | inr nothing ↦ omega (arith, nothing)
    ]

    some : (left == 0) ≡ false → 0 < length v.later
    some is = let more : 0 < left = grind (arith, nat_tests) in omega (arith, left_is, more)

    by : (b : Bool) → ((left == 0) || nat_lt at from) ≡ b → IsEarliest (if b then best else soonest best at) (front ++ v ∷ [])
    by true why = earliest_same best front v is (elim (or_cases (left == 0) (nat_lt at from) why) [ inl a ↦ none a | inr b ↦ early b ])
    by false why = subst (λ m. IsEarliest (soonest best m) (front ++ v ∷ [])) at_is (earliest_one best front v is (some (or_parts (left == 0) (nat_lt at from) why).0))

pub earliest_next : {L : Type 0} (carry_of : L → Carry) (restart_of : L → Restarts) (parts : List (Part L)) (voices : List Voice) (k from : ℕ) (x : Part L) (best best' : Option ℕ)
    → k < length parts → x ≡ get_or parts k x → AllAt carry_of restart_of parts voices → AreFrom from voices → IsEarliest best (take k voices) → best' ≡ sooner best x.left x.at from → IsEarliest best' (take (k + 1) voices)
earliest_next carry_of restart_of parts voices k from x best best' below same all after is next =
    let t = turn_of (IsAt carry_of restart_of) parts voices k x below same all in
    let one = earliest_step best (take k voices) t.item x.left x.at from t.is.left_is t.is.at_is (each_at (IsFrom from) voices k t.item (drop (suc k) voices) after t.rest) is in
    let count : suc k ≡ k + 1 = omega arith in
    subst (λ n. IsEarliest best' (take n voices)) count (subst (IsEarliest best') (sym t.last) (subst (λ b. IsEarliest b (take k voices ++ t.item ∷ [])) (sym next) one))

pub earliest_done : {L : Type 0} (carry_of : L → Carry) (restart_of : L → Restarts) (parts : List (Part L)) (voices : List Voice) (k : ℕ) (best : Option ℕ) → AllAt carry_of restart_of parts voices → length parts ≤ k → IsEarliest best (take k voices) → IsEarliest best voices
earliest_done carry_of restart_of parts voices k best all count is =
    let few : length voices ≤ k = let same = all_length (IsAt carry_of restart_of) parts voices all in omega (arith, same, count) in
    subst (IsEarliest best) (taken_all voices k few) is

-- it is before 50,000,000
pub soon_one : {L : Type 0} (carry_of : L → Carry) (restart_of : L → Restarts) (x : Part L) (v : Voice) (best : Option ℕ) (from : ℕ) → IsAt carry_of restart_of x v → IfSome best (λ m. m < 50000000) → IfSome (sooner best x.left x.at from) (λ m. m < 50000000)
soon_one carry_of restart_of x v best from is before = by ((x.left == 0) || nat_lt x.at from) refl
  where
    least : (best : Option ℕ) → IfSome best (λ m. m < 50000000) → x.at < 50000000 → IfSome (soonest best x.at) (λ m. m < 50000000)
    least None before below = below
    least (Some other) before below = omega (arith, before, below)

    by : (b : Bool) → ((x.left == 0) || nat_lt x.at from) ≡ b → IfSome (if b then best else soonest best x.at) (λ m. m < 50000000)
    by true why = before
    by false why =
        let more : 0 < x.left = let test = (or_parts (x.left == 0) (nat_lt x.at from) why).0 in grind (arith, nat_tests, test) in
        let soon = is.soon in let most = is.most in
        least best before (omega (arith, more, soon, most))

-- ---- from moment to moment
pub on_begun : {L : Type 0} (carry_of : L → Carry) (restart_of : L → Restarts) (time : ℕ) (parts : List (Part L)) (a : Seen) (voices : List Voice) → AllAt carry_of restart_of parts voices → 0 < length voices
    → AreOn carry_of restart_of time 0 0 parts a a (rest_text time voices 0 (sum_by (over_by time) voices) 0)
unfolding Each
on_begun carry_of restart_of time parts a voices all some = record {
  voices = voices;
  left = sum_by (over_by time) voices;
  front = [];
  at = all;
  all_from = from_0 voices;
  some = some;
  sum = omega arith;
  whole = refl;
  taken = taken_none a;
}
  where
    from_0 : (voices : List Voice) → AreFrom 0 voices
    from_0 [] = tt
    from_0 (v ∷ voices) = (λ more. omega arith, from_0 voices)

begins_from : (from e : ℕ) (voices : List Voice) → AreFrom from voices → going.Some (Begins e) voices → from ≤ e
unfolding Each going.Some
begins_from from e [] all none = absurd none
begins_from from e (v ∷ voices) all (inl one) = let above = all.0 one.0 in let here = one.1 in omega (arith, above, here)
begins_from from e (v ∷ voices) all (inr some) = begins_from from e voices all.1 some

pub earliest_above : (from e : ℕ) (voices : List Voice) → AreFrom from voices → IsEarliest (Some e) voices → from ≤ e
earliest_above from e voices all is = begins_from from e voices all is.1

-- what the search of the first moment says of the rings that it is given
pub earliest_of : {L : Type 0} (carry_of : L → Carry) (restart_of : L → Restarts) (from : ℕ) (slice parts : List (Part L)) (found answer : Option ℕ) (voices : List Voice)
    → ((voices : List Voice) → AllAt carry_of restart_of slice voices → AreFrom from voices → IsEarliest found voices) → slice ≡ parts → found ≡ answer → AllAt carry_of restart_of parts voices → AreFrom from voices → IsEarliest answer voices
earliest_of carry_of restart_of from slice parts found answer voices law same is all after =
    subst (λ o. IsEarliest o voices) is (law voices (subst (λ l. AllAt carry_of restart_of l voices) (sym same) all) after)

-- the text at the next moment, and after it
pub record IsStep (time from e count : ℕ) (voices : List Voice) (left : ℕ) : Type 0 where
  pub next : ℕ
  pub text : rest_text time voices from left count ≡ here_text time voices e ++ rest_text time (map (passed time e) voices) (e + 1) next (count + timed_count (all_timed time voices e))
  pub sum : e + 1 + next ≡ sum_by (over_by time) (map (passed time e) voices)
  pub above : from ≤ e

pub step_of : (time from e count left : ℕ) (voices : List Voice) → 0 < time → from + left ≡ sum_by (over_by time) voices → AreFrom from voices → IsEarliest (Some e) voices → IsStep time from e count voices left
step_of time from e count left voices positive sum all is =
    let above = begins_from from e voices all is.1 in
    let below = over_all time e voices positive is.1 in
    let same = over_same time e voices in
    record {
      next = left - (e - from) - 1;
      text = turn_rest time from e (left - (e - from) - 1) (e - from) left count voices (omega (arith, above)) (omega (arith, above, below, sum)) is.0 is.1;
      sum = omega (arith, above, below, sum, same);
      above = above;
    }

pub on_next : {L : Type 0} (carry_of : L → Carry) (restart_of : L → Restarts) (time from e count count' : ℕ) (parts new : List (Part L)) (a b c : Seen) (text : List ℕ)
    → 0 < time → (on : AreOn carry_of restart_of time from count parts a b text) → IsEarliest (Some e) on.voices → AllAt carry_of restart_of new (map (passed time e) on.voices) → HasTaken b c (here_text time on.voices e)
    → count' ≡ count + timed_count (all_timed time on.voices e) → AreOn carry_of restart_of time (e + 1) count' new a c text
on_next carry_of restart_of time from e count count' parts new a b c text positive on is at taken counted =
    let step = step_of time from e count on.left on.voices positive on.sum on.all_from is in
    record {
      voices = map (passed time e) on.voices;
      left = step.next;
      front = on.front ++ here_text time on.voices e;
      at = at;
      all_from = from_next time e on.voices positive is.0;
      some = let same = length-map on.voices (passed time e) in let more = on.some in omega (arith, same, more);
      sum = step.sum;
      whole =
          ap (λ n. (on.front ++ here_text time on.voices e) ++ rest_text time (map (passed time e) on.voices) (e + 1) step.next n) counted
          ∙ append_assoc on.front (here_text time on.voices e) (rest_text time (map (passed time e) on.voices) (e + 1) step.next (count + timed_count (all_timed time on.voices e)))
          ∙ ap (λ t. on.front ++ t) (sym step.text) ∙ on.whole;
      taken = taken_then a b c on.front (here_text time on.voices e) on.taken taken;
    }

pub on_failed : {L : Type 0} (carry_of : L → Carry) (restart_of : L → Restarts) (time from e count : ℕ) (parts : List (Part L)) (a b c : Seen) (text : List ℕ)
    → 0 < time → (on : AreOn carry_of restart_of time from count parts a b text) → IsEarliest (Some e) on.voices → HasFailed b c (here_text time on.voices e) → HasFailed a c text
on_failed carry_of restart_of time from e count parts a b c text positive on is failed =
    let step = step_of time from e count on.left on.voices positive on.sum on.all_from is in
    subst (HasFailed a c) (ap (λ t. on.front ++ t) (sym step.text) ∙ on.whole)
    (failed_later a b c on.front (here_text time on.voices e ++ rest_text time (map (passed time e) on.voices) (e + 1) step.next (count + timed_count (all_timed time on.voices e))) on.taken (failed_early b c (here_text time on.voices e) _ failed))

pub on_ended : {L T E : Type 0} (carry_of : L → Carry) (restart_of : L → Restarts) (time from count : ℕ) (parts : List (Part L)) (a b c : Seen) (r : Result T E) (text : List ℕ)
    → (on : AreOn carry_of restart_of time from count parts a b text) → IsEarliest None on.voices → Writes b c r (together_line count) → Writes a c r text
on_ended carry_of restart_of time from count parts a b c r text on is written =
    subst (Writes a c r) (ap (λ t. on.front ++ t) (sym (done_rest time from on.left count on.voices on.some is)) ∙ on.whole)
    (writes_then a b c r on.front (together_line count) on.taken written)

pub writes_failed : {T E : Type 0} (a b : Seen) (r : Result T E) (text : List ℕ) → IsErr r → HasFailed a b text → Writes a b r text
writes_failed {T = T} {E = E} a b (Ok x) text is failed = absurd (never is)
  where
    never : IsErr {T = T} {E = E} (Ok x) → ⊥
    never is = cc
writes_failed a b (Err e) text is failed = failed

-- ---- the heads
pub order_within : (w : WishesView) (r : RingView) → w ≡ wishes_of r → IsOrder r.order (length r.drives) → All (λ place. place < length w.drives) w.order
unfolding wishes_of
order_within w r is order =
    subst (λ v. All (λ place. place < length v.drives) v.order) (sym is)
    (All-from_get_or (λ place. place < length (map wish_of r.drives)) r.order 0 (λ i inside. let below = order.within i inside in let count = length-map r.drives wish_of in omega (arith, below, count)))

pub head_written : {L T E : Type 0} (carry_of : L → Carry) (restart_of : L → Restarts) (p : Part L) (v : Voice) (a b : with_marks.Seen) (r : Result T E) → IsAt carry_of restart_of p v → a.mark ≡ p.mark
    → with_marks.Writes a b r (header_text p.wishes) → Writes (plain_of a) (plain_of b) r (head_lines v)
head_written carry_of restart_of p v a b r is same written =
    subst (Writes (plain_of a) (plain_of b) r) (ap (λ m. marked m (header_text p.wishes)) (same ∙ is.mark_is) ∙ sym (ap (λ w. marked (mark_of v.number) (header_text w)) is.voice_wishes))
    (unmarked_writes a b r (header_text p.wishes) written)

pub heads_next : {L : Type 0} (carry_of : L → Carry) (restart_of : L → Restarts) (parts : List (Part L)) (a b c : Seen) (k : ℕ) (voices : List Voice) (x : Part L) → (t : Turn (IsAt carry_of restart_of) (λ v. v) parts voices k x)
    → HasTaken a b (flat_map head_lines (take k voices)) → HasTaken b c (head_lines t.item) → HasTaken a c (flat_map head_lines (take (k + 1) voices))
heads_next carry_of restart_of parts a b c k voices x t taken more =
    let next : suc k ≡ k + 1 = omega arith in
    subst (λ n. HasTaken a c (flat_map head_lines (take n voices))) next
    (subst (HasTaken a c) (sym (text_next head_lines voices k t.item t.last)) (taken_then a b c (flat_map head_lines (take k voices)) (head_lines t.item) taken more))

pub heads_failed : {L : Type 0} (carry_of : L → Carry) (restart_of : L → Restarts) (parts : List (Part L)) (a b c : Seen) (k : ℕ) (voices : List Voice) (x : Part L) → (t : Turn (IsAt carry_of restart_of) (λ v. v) parts voices k x)
    → HasTaken a b (flat_map head_lines (take k voices)) → HasFailed b c (head_lines t.item) → HasFailed a c (flat_map head_lines voices)
heads_failed carry_of restart_of parts a b c k voices x t taken failed =
    subst (HasFailed a c) (sym (text_whole head_lines voices k t.item t.last))
    (failed_later a b c (flat_map head_lines (take k voices)) (head_lines t.item ++ flat_map head_lines (drop (suc k) voices)) taken (failed_early b c (head_lines t.item) (flat_map head_lines (drop (suc k) voices)) failed))

pub heads_done : {L : Type 0} (carry_of : L → Carry) (restart_of : L → Restarts) (parts : List (Part L)) (a b : Seen) (k : ℕ) (voices : List Voice) → AllAt carry_of restart_of parts voices → length parts ≤ k
    → HasTaken a b (flat_map head_lines (take k voices)) → HasTaken a b (flat_map head_lines voices)
heads_done carry_of restart_of parts a b k voices all count taken =
    let few : length voices ≤ k = let same = all_length (IsAt carry_of restart_of) parts voices all in omega (arith, same, count) in
    subst (λ l. HasTaken a b (flat_map head_lines l)) (taken_all voices k few) taken
