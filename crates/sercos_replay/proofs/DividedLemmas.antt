-- The line that divides an input, found line by line.
use Rattle.std.proofs.Common.{◌≡◌, ℕ, suc, ◌+◌, ◌-◌, ◌<◌, ◌≤◌, Bool, true, false, List, [], ◌∷◌, length, Option, Some, None, refl, sym, ◌∙◌, ap, arith}
use Rattle.std.specs.Prelude.{option_map}
use Rattle.std.specs.List.{after_first}
use Rattle.sercos_replay.specs.Divided.{is_feed, begins_capture, capture_place}
use Rattle.sercos_trace.proofs.FeedLemmas.{after_feed, after_short}
use Rattle.sercos_answer.proofs.CutLemmas.{after_first-more}

-- a place counted from k bytes earlier on
abbrev pub shifted : ℕ → Option ℕ → Option ℕ
shifted k o = option_map (λ (p : ℕ). p + k) o

shift_one : (o : Option ℕ) → option_map suc o ≡ shifted 1 o
shift_one None = refl
shift_one (Some p) = ap (λ (n : ℕ). Some n) (omega arith)

shift_suc : (k : ℕ) (o : Option ℕ) → option_map suc (shifted k o) ≡ shifted (suc k) o
shift_suc k None = refl
shift_suc k (Some p) = ap (λ (n : ℕ). Some n) (omega arith)

shift_sum : (a b : ℕ) (o : Option ℕ) → shifted a (shifted b o) ≡ shifted (b + a) o
shift_sum a b None = refl
shift_sum a b (Some p) = ap (λ (n : ℕ). Some n) (omega arith)

-- within a line that doesn't count, the place is found after it
after_place : (text : List ℕ) (k : ℕ) → k + length (after_first is_feed text) ≡ length text → capture_place false text ≡ shifted k (capture_place true (after_first is_feed text))
unfolding capture_place
after_place [] k is = refl
after_place (byte ∷ bytes) k is = by (is_feed byte) refl (after_place bytes)
  where
    by : (feed : Bool) → is_feed byte ≡ feed → ((k : ℕ) → k + length (after_first is_feed bytes) ≡ length bytes → capture_place false bytes ≡ shifted k (capture_place true (after_first is_feed bytes)))
        → capture_place false (byte ∷ bytes) ≡ shifted k (capture_place true (after_first is_feed (byte ∷ bytes)))
    by true e rest =
        let here : k + length bytes ≡ suc (length bytes) = ap (λ (x : List ℕ). k + length x) (sym (after_feed byte bytes e)) ∙ is in
        let one : k ≡ 1 = omega (arith, here) in
        rw (after_feed byte bytes e, one, e) (shift_one (capture_place true bytes))
    by false e rest =
        let here : k + length (after_first is_feed bytes) ≡ suc (length bytes) = ap (λ (x : List ℕ). k + length x) (sym (after_first-more byte bytes e)) ∙ is in
        let short = after_short bytes in
        let one : k ≡ suc (k - 1) = omega (arith, here, short) in
        let less : (k - 1) + length (after_first is_feed bytes) ≡ length bytes = omega (arith, here, short) in
        rw (after_first-more byte bytes e, e, rest (k - 1) less) (shift_suc (k - 1) (capture_place true (after_first is_feed bytes)) ∙ ap (λ (n : ℕ). shifted n (capture_place true (after_first is_feed bytes))) (sym one))

other_line : (text : List ℕ) → 0 < length text → begins_capture text ≡ false → capture_place true text ≡ capture_place false text
unfolding capture_place
other_line [] some e = absurd (omega arith)
other_line (byte ∷ bytes) some e = rw e refl

this_line : (text : List ℕ) → 0 < length text → begins_capture text ≡ true → capture_place true text ≡ Some 0
unfolding capture_place
this_line [] some e = absurd (omega arith)
this_line (byte ∷ bytes) some e = rw e refl

no_line : (text : List ℕ) → length text ≡ 0 → capture_place true text ≡ None
unfolding capture_place
no_line [] none = refl
no_line (byte ∷ bytes) none = absurd (omega (arith, none))

-- What is left of a text has the line that is sought.
pub record IsSought (rest text : List ℕ) : Type 0 where
  pub place : capture_place true text ≡ shifted (length text - length rest) (capture_place true rest)
  pub few : length rest ≤ length text

pub sought-begun : (text : List ℕ) → IsSought text text
sought-begun text = record {
  place = by (capture_place true text) (length text - length text) (omega arith);
  few = omega arith;
}
  where
    by : (o : Option ℕ) (k : ℕ) → k ≡ 0 → o ≡ shifted k o
    by None k none = refl
    by (Some p) k none = ap (λ (n : ℕ). Some n) (omega (arith, none))

pub sought-more : (rest others text : List ℕ) → IsSought rest text → 0 < length rest → others ≡ after_first is_feed rest → begins_capture rest ≡ false → IsSought others text
sought-more rest others text now some is other =
    let few = now.few in
    let short = after_short rest in
    rw is (record {
      place =
          now.place
          ∙ ap (shifted (length text - length rest)) (other_line rest some other ∙ after_place rest (length rest - length (after_first is_feed rest)) (omega (arith, short)))
          ∙ shift_sum (length text - length rest) (length rest - length (after_first is_feed rest)) (capture_place true (after_first is_feed rest))
          ∙ ap (λ (n : ℕ). shifted n (capture_place true (after_first is_feed rest))) (omega (arith, few, short));
      few = omega (arith, few, short);
    })

pub sought-found : (rest text : List ℕ) (k : ℕ) → IsSought rest text → 0 < length rest → begins_capture rest ≡ true → k ≡ length text - length rest → Some k ≡ capture_place true text
sought-found rest text k now some this is =
    sym (now.place ∙ ap (shifted (length text - length rest)) (this_line rest some this) ∙ ap (λ (n : ℕ). Some n) (omega (arith, is)))

pub sought-none : (rest text : List ℕ) → IsSought rest text → length rest ≡ 0 → None ≡ capture_place true text
sought-none rest text now none = sym (now.place ∙ ap (shifted (length text - length rest)) (no_line rest none))
