-- The moments of rings, one after the other.
use Rattle.std.proofs.Common.{◌≡◌, ℕ, zero, suc, ◌+◌, ◌<◌, ◌≤◌, ◌==◌, inl, inr, Bool, true, false, ◌||◌, if◌then◌else◌, List, [], ◌∷◌, ◌++◌, length, map, refl, sym, ◌∙◌, ap, arith, append_assoc}
use Rattle.std.specs.Prelude.{nat_le}
use Rattle.std.specs.List.{filter, flat_map, list_all, list_any, range_with_len, sum_by}
use Rattle.std.proofs.lemmas.Bool.Decides.{nat_tests}
use Rattle.std.proofs.lemmas.Bool.{cases_lt}
use Rattle.std.proofs.lemmas.List.Sums.{sum_by-cons}
use Rattle.sercos_trace.specs.Views.{CycleView}
use Rattle.sercos_multi.specs.Going.{Each, Some, gone_on, passed, AreFrom, Begins, here_text, timed_count}
use Rattle.sercos_multi.specs.Merged.{Voice, span, from_moment, begun, is_cycle, is_timed, lines_at, moment_line, moment_text, all_timed, together, together_line, over_by, rest_text}

other : (a b : ℕ) → a < b → (a == b) ≡ false
other a b below = grind (arith, nat_tests)

other' : (a b : ℕ) → b < a → (a == b) ≡ false
other' a b above = grind (arith, nat_tests)

-- before the first cycle none begins
pub none_before : (time at : ℕ) (later : List CycleView) (moment : ℕ) → moment < at → from_moment time at later moment ≡ []
unfolding from_moment
none_before time at [] moment before = refl
none_before time at (t ∷ later) moment before =
    rw (other' at moment before) (none_before time (at + span time t.phase) later moment (omega (arith, before)))

-- what is the same of it at a later moment
pub record IsSameAt (time moment : ℕ) (u v : Voice) : Type 0 where
  pub number : u.number ≡ v.number
  pub begun_is : begun time moment u ≡ begun time moment v
  pub text : lines_at time moment u ≡ lines_at time moment v

gone_same : (time at moment : ℕ) (v : Voice) (later : List CycleView) → v.later ≡ later → v.at < moment → IsSameAt time moment (gone_on time v later) v
unfolding gone_on from_moment
gone_same time at moment v [] is before = record { number = refl; begun_is = rw is refl; text = rw is refl }
gone_same time at moment v (t ∷ later) is before = record { number = refl; begun_is = rw (is, other v.at moment before) refl; text = rw (is, other v.at moment before) refl }

pub passed_same : (time e moment : ℕ) (v : Voice) → e < moment → IsSameAt time moment (passed time e v) v
unfolding passed
passed_same time e moment v before = by (v.at == e) refl
  where
    same : (v.at == e) ≡ true → v.at ≡ e
    same is = grind (arith, nat_tests)

    by : (b : Bool) → (v.at == e) ≡ b → IsSameAt time moment (if b then gone_on time v v.later else v) v
    by true is = gone_same time v.at moment v v.later refl (let here = same is in omega (arith, here, before))
    by false is = record { number = refl; begun_is = refl; text = refl }

-- over all rings
texts_same : {X : Type 0} (f : X → List ℕ) (g : X → X) (xs : List X) → ((x : X) → f (g x) ≡ f x) → flat_map f (map g xs) ≡ flat_map f xs
texts_same f g [] same = refl
texts_same f g (x ∷ xs) same = rw (same x, texts_same f g xs same) refl

any_same : {X : Type 0} (p : X → Bool) (g : X → X) (xs : List X) → ((x : X) → p (g x) ≡ p x) → list_any p (map g xs) ≡ list_any p xs
any_same p g [] same = refl
any_same p g (x ∷ xs) same = rw (same x, any_same p g xs same) refl

all_same : {X : Type 0} (p : X → Bool) (g : X → X) (xs : List X) → ((x : X) → p (g x) ≡ p x) → list_all p (map g xs) ≡ list_all p xs
all_same p g [] same = refl
all_same p g (x ∷ xs) same = rw (same x, all_same p g xs same) refl

moment_same : (time e moment : ℕ) (voices : List Voice) → e < moment → moment_text time (map (passed time e) voices) moment ≡ moment_text time voices moment
moment_same time e moment voices before =
    rw (any_same (λ v. is_cycle (begun time moment v)) (passed time e) voices (λ v. ap is_cycle (passed_same time e moment v before).begun_is), texts_same (lines_at time moment) (passed time e) voices (λ v. (passed_same time e moment v before).text)) refl

timed_same : (time e moment : ℕ) (voices : List Voice) → e < moment → all_timed time (map (passed time e) voices) moment ≡ all_timed time voices moment
timed_same time e moment voices before = all_same (λ v. is_timed (begun time moment v)) (passed time e) voices (λ v. ap is_timed (passed_same time e moment v before).begun_is)

-- over a range of moments
pub range_same : (f g : ℕ → List ℕ) (m n : ℕ) → ((k : ℕ) → m ≤ k → f k ≡ g k) → flat_map f (range_with_len m n) ≡ flat_map g (range_with_len m n)
range_same f g m zero same = refl
range_same f g m (suc n) same =
    ap (λ t. t ++ flat_map f (range_with_len (m + 1) n)) (same m (omega arith)) ∙ ap (λ t. g m ++ t) (range_same f g (m + 1) n (λ k above. same k (omega (arith, above))))

count_same : (p q : ℕ → Bool) (m n : ℕ) → ((k : ℕ) → m ≤ k → p k ≡ q k) → length (filter p (range_with_len m n)) ≡ length (filter q (range_with_len m n))
count_same p q m zero same = refl
count_same p q m (suc n) same =
    ap (λ (b : Bool). length (if b then m ∷ filter p (range_with_len (m + 1) n) else filter p (range_with_len (m + 1) n))) (same m (omega arith))
    ∙ by (q m) (count_same p q (m + 1) n (λ k above. same k (omega (arith, above))))
  where
    by : (b : Bool) → length (filter p (range_with_len (m + 1) n)) ≡ length (filter q (range_with_len (m + 1) n))
        → length (if b then m ∷ filter p (range_with_len (m + 1) n) else filter p (range_with_len (m + 1) n)) ≡ length (if b then m ∷ filter q (range_with_len (m + 1) n) else filter q (range_with_len (m + 1) n))
    by true rest = ap suc rest
    by false rest = rest

-- moments at which nothing is
skip_texts : (f : ℕ → List ℕ) (m k n t : ℕ) → t ≡ k + n → ((i : ℕ) → m ≤ i → i < m + k → f i ≡ []) → flat_map f (range_with_len m t) ≡ flat_map f (range_with_len (m + k) n)
skip_texts f m zero n t is none = let same : m ≡ m + 0 = omega arith in let len : t ≡ n = omega (arith, is) in ap (λ i. flat_map f (range_with_len m i)) len ∙ ap (λ i. flat_map f (range_with_len i n)) same
skip_texts f m (suc k) n t is none =
    let same : m + 1 + k ≡ m + suc k = omega arith in
    let len : t ≡ suc (k + n) = omega (arith, is) in
    ap (λ i. flat_map f (range_with_len m i)) len
    ∙ ap (λ x. x ++ flat_map f (range_with_len (m + 1) (k + n))) (none m (omega arith) (omega arith))
    ∙ skip_texts f (m + 1) k n (k + n) refl (λ i above below. none i (omega (arith, above)) (omega (arith, below)))
    ∙ ap (λ i. flat_map f (range_with_len i n)) same

skip_count : (p : ℕ → Bool) (m k n t : ℕ) → t ≡ k + n → ((i : ℕ) → m ≤ i → i < m + k → p i ≡ false) → length (filter p (range_with_len m t)) ≡ length (filter p (range_with_len (m + k) n))
skip_count p m zero n t is none = let same : m ≡ m + 0 = omega arith in let len : t ≡ n = omega (arith, is) in ap (λ i. length (filter p (range_with_len m i))) len ∙ ap (λ i. length (filter p (range_with_len i n))) same
skip_count p m (suc k) n t is none =
    let same : m + 1 + k ≡ m + suc k = omega arith in
    let len : t ≡ suc (k + n) = omega (arith, is) in
    ap (λ i. length (filter p (range_with_len m i))) len
    ∙ ap (λ (b : Bool). length (if b then m ∷ filter p (range_with_len (m + 1) (k + n)) else filter p (range_with_len (m + 1) (k + n)))) (none m (omega arith) (omega arith))
    ∙ skip_count p (m + 1) k n (k + n) refl (λ i above below. none i (omega (arith, above)) (omega (arith, below)))
    ∙ ap (λ i. length (filter p (range_with_len i n))) same

-- What is so of each ring, and of one of them.
pub each_map : {X Y : Type 0} (P : X → Type 0) (Q : Y → Type 0) (g : X → Y) (xs : List X) → ((x : X) → P x → Q (g x)) → Each P xs → Each Q (map g xs)
unfolding Each
each_map P Q g [] law all = tt
each_map P Q g (x ∷ xs) law all = (law x all.0, each_map P Q g xs law all.1)

pub each_as : {X : Type 0} (P Q : X → Type 0) (xs : List X) → ((x : X) → P x → Q x) → Each P xs → Each Q xs
unfolding Each
each_as P Q [] law all = tt
each_as P Q (x ∷ xs) law all = (law x all.0, each_as P Q xs law all.1)

-- no ring begins a cycle at a moment
silent_any : (time moment : ℕ) (voices : List Voice) → Each (λ v. begun time moment v ≡ []) voices → list_any (λ v. is_cycle (begun time moment v)) voices ≡ false
unfolding Each is_cycle
silent_any time moment [] none = refl
silent_any time moment (v ∷ voices) none = rw none.0 (silent_any time moment voices none.1)

silent_text : (time moment : ℕ) (voices : List Voice) → Each (λ v. begun time moment v ≡ []) voices → moment_text time voices moment ≡ []
silent_text time moment voices none = rw (silent_any time moment voices none) refl

silent_timed : (time moment : ℕ) (voices : List Voice) → 0 < length voices → Each (λ v. begun time moment v ≡ []) voices → all_timed time voices moment ≡ false
unfolding Each is_timed
silent_timed time moment [] some none = absurd (omega (arith, some))
silent_timed time moment (v ∷ voices) some none = rw none.0 refl

silent_one : (time e i : ℕ) (v : Voice) → i < e → (0 < length v.later → e ≤ v.at) → begun time i v ≡ []
unfolding from_moment
silent_one time e i v before from = by v.later refl
  where
    by : (later : List CycleView) → v.later ≡ later → from_moment time v.at later i ≡ []
    by [] is = refl
    by (t ∷ later) is =
        let some : 0 < length v.later = rw is (omega arith) in
        let above = from some in
        none_before time v.at (t ∷ later) i (omega (arith, before, above))

silent : (time e i : ℕ) (voices : List Voice) → i < e → AreFrom e voices → Each (λ v. begun time i v ≡ []) voices
silent time e i voices before from = each_as _ _ voices (λ v law. silent_one time e i v before law) from

begins_one : (time e : ℕ) (v : Voice) → Begins e v → is_cycle (begun time e v) ≡ true
unfolding from_moment is_cycle
begins_one time e v is = by v.later refl
  where
    by : (later : List CycleView) → v.later ≡ later → is_cycle (from_moment time v.at later e) ≡ true
    by [] none = let some : 0 < length v.later = is.0 in absurd (let nothing : length v.later ≡ 0 = ap length none in omega (arith, some, nothing))
    by (t ∷ later) some = let here : (v.at == e) ≡ true = grind (arith, nat_tests, is.1) in rw here refl

begins_any : (time e : ℕ) (voices : List Voice) → Some (Begins e) voices → list_any (λ v. is_cycle (begun time e v)) voices ≡ true
unfolding Some
begins_any time e [] none = absurd none
begins_any time e (v ∷ voices) (inl is) = rw (begins_one time e v is) refl
begins_any time e (v ∷ voices) (inr is) = rw (begins_any time e voices is) (or_true (is_cycle (begun time e v)))
  where
    or_true : (b : Bool) → (b || true) ≡ true
    or_true true = refl
    or_true false = refl

-- the moment is before all is over
over_one : (time e : ℕ) (v : Voice) → 0 < time → Begins e v → e < over_by time v
over_one time e v some is = by v.later refl
  where
    span_some : (t : CycleView) → 0 < span time t.phase
    span_some t = each (nat_le t.phase 2)
      where
        each : (b : Bool) → 0 < (if b then 1000 else time)
        each true = omega arith
        each false = some

    by : (later : List CycleView) → v.later ≡ later → e < v.at + sum_by (λ (t : CycleView). span time t.phase) later
    by [] none = let some : 0 < length v.later = is.0 in absurd (let nothing : length v.later ≡ 0 = ap length none in omega (arith, some, nothing))
    by (t ∷ later) same = let here = is.1 in let more = span_some t in let sum = sum_by-cons (λ (t : CycleView). span time t.phase) t later in omega (arith, here, more, sum)

pub over_all : (time e : ℕ) (voices : List Voice) → 0 < time → Some (Begins e) voices → e < sum_by (over_by time) voices
unfolding Some
over_all time e [] positive none = absurd none
over_all time e (v ∷ voices) positive (inl is) = let one = over_one time e v positive is in let sum = sum_by-cons (over_by time) v voices in omega (arith, one, sum)
over_all time e (v ∷ voices) positive (inr is) = let rest = over_all time e voices positive is in let sum = sum_by-cons (over_by time) v voices in omega (arith, rest, sum)

-- and what a ring keeps over a moment
gone_over : (time : ℕ) (v : Voice) (later : List CycleView) → v.later ≡ later → over_by time (gone_on time v later) ≡ over_by time v
unfolding gone_on
gone_over time v [] is = rw is refl
gone_over time v (t ∷ later) is = let sum = sum_by-cons (λ (t : CycleView). span time t.phase) t later in let whole = ap (λ l. v.at + sum_by (λ (t : CycleView). span time t.phase) l) is in omega (arith, sum, whole)

passed_over : (time e : ℕ) (v : Voice) → over_by time (passed time e v) ≡ over_by time v
unfolding passed
passed_over time e v = by (v.at == e)
  where
    by : (b : Bool) → over_by time (if b then gone_on time v v.later else v) ≡ over_by time v
    by true = gone_over time v v.later refl
    by false = refl

pub over_same : (time e : ℕ) (voices : List Voice) → sum_by (over_by time) (map (passed time e) voices) ≡ sum_by (over_by time) voices
over_same time e [] = refl
over_same time e (v ∷ voices) =
    let one = passed_over time e v in let rest = over_same time e voices in
    let old = sum_by-cons (over_by time) v voices in let new = sum_by-cons (over_by time) (passed time e v) (map (passed time e) voices) in omega (arith, one, rest, old, new)

passed_from : (time e : ℕ) (v : Voice) → 0 < time → (0 < length v.later → e ≤ v.at) → 0 < length (passed time e v).later → e + 1 ≤ (passed time e v).at
unfolding passed gone_on
passed_from time e v positive from = by (v.at == e) refl
  where
    gone : (later : List CycleView) → v.at ≡ e → 0 < length (gone_on time v later).later → e + 1 ≤ (gone_on time v later).at
    gone [] here some = absurd (omega (arith, some))
    gone (t ∷ later) here some = each (nat_le t.phase 2)
      where
        each : (b : Bool) → e + 1 ≤ v.at + (if b then 1000 else time)
        each true = omega (arith, here)
        each false = omega (arith, here, positive)

    by : (b : Bool) → (v.at == e) ≡ b → 0 < length (if b then gone_on time v v.later else v).later → e + 1 ≤ (if b then gone_on time v v.later else v).at
    by true is some = gone v.later (grind (arith, nat_tests, is)) some
    by false is some = let above = from some in let apart : v.at ≡ e → ⊥ = λ same. not_same same in beyond apart above
      where
        not_same : v.at ≡ e → ⊥
        not_same same = let here : (v.at == e) ≡ true = grind (arith, nat_tests, same) in let never : true ≡ false = sym here ∙ is in absurd (cc)

        beyond : (v.at ≡ e → ⊥) → e ≤ v.at → e + 1 ≤ v.at
        beyond apart above = elim (cases_lt e v.at) [
          | inl lt ↦ omega (arith, lt)
          | inr ge ↦ absurd (apart (omega (arith, above, ge)))
        ]

pub from_next : (time e : ℕ) (voices : List Voice) → 0 < time → AreFrom e voices → AreFrom (e + 1) (map (passed time e) voices)
from_next time e voices positive from = each_map _ _ (passed time e) voices (λ v law. passed_from time e v positive law) from

-- One moment: the text from a moment on is that of the next moment at which a ring begins a cycle, and the text after it.
count_first : (p : ℕ → Bool) (m n : ℕ) → length (filter p (range_with_len m (suc n))) ≡ timed_count (p m) + length (filter p (range_with_len (m + 1) n))
unfolding timed_count
count_first p m n = by (p m)
  where
    by : (b : Bool) → length (if b then m ∷ filter p (range_with_len (m + 1) n) else filter p (range_with_len (m + 1) n)) ≡ (if b then 1 else 0) + length (filter p (range_with_len (m + 1) n))
    by true = omega arith
    by false = omega arith

turn_texts : (time m e n k t : ℕ) (voices : List Voice) → e ≡ m + k → t ≡ k + suc n → AreFrom e voices
    → flat_map (moment_text time voices) (range_with_len m t) ≡ moment_text time voices e ++ flat_map (moment_text time (map (passed time e) voices)) (range_with_len (e + 1) n)
turn_texts time m e n k t voices is len from =
    skip_texts (moment_text time voices) m k (suc n) t len (λ i above below. silent_text time i voices (silent time e i voices (omega (arith, below, is)) from))
    ∙ ap (λ i. flat_map (moment_text time voices) (range_with_len i (suc n))) (sym is)
    ∙ ap (λ x. moment_text time voices e ++ x) (sym (range_same (moment_text time (map (passed time e) voices)) (moment_text time voices) (e + 1) n (λ i above. moment_same time e i voices (omega (arith, above)))))

turn_count : (time m e n k t : ℕ) (voices : List Voice) → e ≡ m + k → t ≡ k + suc n → 0 < length voices → AreFrom e voices
    → together time voices m t ≡ timed_count (all_timed time voices e) + together time (map (passed time e) voices) (e + 1) n
turn_count time m e n k t voices is len more from =
    skip_count (all_timed time voices) m k (suc n) t len (λ i above below. silent_timed time i voices more (silent time e i voices (omega (arith, below, is)) from))
    ∙ ap (λ i. length (filter (all_timed time voices) (range_with_len i (suc n)))) (sym is)
    ∙ count_first (all_timed time voices) e n
    ∙ ap (λ c. timed_count (all_timed time voices e) + c) (sym (count_same (all_timed time (map (passed time e) voices)) (all_timed time voices) (e + 1) n (λ i above. timed_same time e i voices (omega (arith, above)))))

here_is : (time e : ℕ) (voices : List Voice) → Some (Begins e) voices → moment_text time voices e ≡ here_text time voices e
unfolding here_text
here_is time e voices some = ap (λ (b : Bool). if b then moment_line e ++ flat_map (lines_at time e) voices else []) (begins_any time e voices some)

pub turn_rest : (time m e n k t count : ℕ) (voices : List Voice) → e ≡ m + k → t ≡ k + suc n → AreFrom e voices → Some (Begins e) voices
    → rest_text time voices m t count ≡ here_text time voices e ++ rest_text time (map (passed time e) voices) (e + 1) n (count + timed_count (all_timed time voices e))
unfolding Some
turn_rest time m e n k t count voices is len from some =
    let texts = turn_texts time m e n k t voices is len from in
    let counts = turn_count time m e n k t voices is len (some_more voices some) from in
    ap (λ x. x ++ together_line (count + together time voices m t)) (texts ∙ ap (λ x. x ++ flat_map (moment_text time (map (passed time e) voices)) (range_with_len (e + 1) n)) (here_is time e voices some))
    ∙ append_assoc (here_text time voices e) (flat_map (moment_text time (map (passed time e) voices)) (range_with_len (e + 1) n)) (together_line (count + together time voices m t))
    ∙ ap (λ c. here_text time voices e ++ (flat_map (moment_text time (map (passed time e) voices)) (range_with_len (e + 1) n) ++ together_line c)) (sum_is counts)
  where
    some_more : (voices : List Voice) → Some (Begins e) voices → 0 < length voices
    some_more [] none = absurd none
    some_more (v ∷ voices) some = omega arith

    sum_is : together time voices m t ≡ timed_count (all_timed time voices e) + together time (map (passed time e) voices) (e + 1) n
        → count + together time voices m t ≡ count + timed_count (all_timed time voices e) + together time (map (passed time e) voices) (e + 1) n
    sum_is same = omega (arith, same)

-- no ring has a cycle left
done_one : (time i : ℕ) (v : Voice) → length v.later ≡ 0 → begun time i v ≡ []
unfolding from_moment
done_one time i v none = by v.later refl
  where
    by : (later : List CycleView) → v.later ≡ later → from_moment time v.at later i ≡ []
    by [] is = refl
    by (t ∷ later) is = absurd (let some = ap length is in omega (arith, some, none))

pub done_rest : (time m n count : ℕ) (voices : List Voice) → 0 < length voices → Each (λ v. length v.later ≡ 0) voices → rest_text time voices m n count ≡ together_line count
done_rest time m n count voices more none =
    let quiet : (i : ℕ) → Each (λ v. begun time i v ≡ []) voices = λ i. each_as _ _ voices (λ v law. done_one time i v law) none in
    let texts : flat_map (moment_text time voices) (range_with_len m n) ≡ [] = skip_texts (moment_text time voices) m n 0 n (omega arith) (λ i above below. silent_text time i voices (quiet i)) in
    let counts : together time voices m n ≡ 0 = skip_count (all_timed time voices) m n 0 n (omega arith) (λ i above below. silent_timed time i voices more (quiet i)) in
    ap (λ x. x ++ together_line (count + together time voices m n)) texts ∙ ap (λ c. together_line c) (sum_is counts)
  where
    sum_is : together time voices m n ≡ 0 → count + together time voices m n ≡ count
    sum_is same = omega (arith, same)
