-- The search for the closing flag, bit by bit and many bits at once.
use Rattle.std.proofs.Common.{◌≡◌, ◌≢◌, ℕ, zero, suc, ◌+◌, ◌<◌, ◌≤◌, ◌==◌, ◌&&◌, Bool, true, false, cond, List, [], ◌∷◌, ◌++◌, inl, inr, length, get_or, refl, sym, ap, ◌∙◌, arith, length-append, append_assoc}
use Rattle.std.proofs.lemmas.List.{append-nil}
use Rattle.std.proofs.lemmas.Bool.{cases_eq, eq-eqb, ne_eqb, eqb-false, or_parts}
use Rattle.std.proofs.Math.Bool.{and-true, and_assoc}
use Rattle.std.specs.Bool.{beq}
use Rattle.sercos_model.specs.Frames.{flag}
use Rattle.sercos_hdlc.specs.Reason.{opens, six_place, ends_in_five, unstuffed}
use Rattle.sercos_hdlc.specs.Sought.{ones_then, agree, ones_after, has_six, dropped_after, IsBehindZero, IsSought}
use Rattle.sercos_hdlc.proofs.RunLemmas.{ones_then-true, six_place-ones_then_false, ends_in_five-ones_then_false, ends_in_five-few, ends_in_five-five}

ones_then-end : (k : ℕ) → ones_then k [] ++ (true ∷ []) ≡ ones_then (suc k) []
ones_then-end zero = refl
ones_then-end (suc k) = ap (λ x. true ∷ x) (ones_then-end k)

length-ones_then : (k : ℕ) (bits : List Bool) → length (ones_then k bits) ≡ k + length bits
length-ones_then zero bits = omega arith
length-ones_then (suc k) bits = omega (arith, length-ones_then k bits)

-- before the first bit
pub IsSought-none : IsSought [] 0 false []
IsSought-none = record {
  few = omega arith;
  six = λ more. omega arith;
  gives = λ more. refl;
  ends = λ more. refl;
  last_zero = inl refl;
}

one_later : (bits : List Bool) (k : ℕ) (dropped : Bool) (plain : List Bool) → IsBehindZero bits k dropped plain → IsBehindZero (bits ++ true ∷ []) (suc k) dropped (plain ++ true ∷ [])
one_later bits k dropped plain h = record {
  body = h.body;
  whole = ap (λ b. b ++ true ∷ []) h.whole ∙ append_assoc h.body (false ∷ ones_then k []) (true ∷ []) ∙ ap (λ b. h.body ++ false ∷ b) (ones_then-end k);
  ends = h.ends;
  before = ap (λ b. b ++ true ∷ []) h.before ∙ append_assoc (unstuffed 0 h.body) (cond dropped [] (false ∷ []) ++ ones_then k []) (true ∷ []) ∙ ap (λ b. unstuffed 0 h.body ++ b) (append_assoc (cond dropped [] (false ∷ [])) (ones_then k []) (true ∷ []) ∙ ap (λ b. cond dropped [] (false ∷ []) ++ b) (ones_then-end k));
}

-- a one that isn't the sixth
pub IsSought-one : {bits : List Bool} {k : ℕ} {dropped : Bool} {plain : List Bool} → IsSought bits k dropped plain → k < 5 → IsSought (bits ++ true ∷ []) (suc k) dropped (plain ++ true ∷ [])
unfolding unstuffed
IsSought-one {bits = bits} {k = k} {dropped = dropped} {plain = plain} h few =
    let long = length-append bits (true ∷ []) in
    record {
      few = omega arith;
      six = λ more. let e = h.six (true ∷ more) in rw (append_assoc bits (true ∷ []) more) (omega (arith, e, ap six_place (ones_then-true k more), long));
      gives = λ more. rw (append_assoc bits (true ∷ []) more, append_assoc plain (true ∷ []) (unstuffed (suc k) more)) (h.gives (true ∷ more));
      ends = λ more. rw (append_assoc bits (true ∷ []) more) (h.ends (true ∷ more) ∙ ap ends_in_five (ones_then-true k more));
      last_zero = elim h.last_zero [
        | inl all ↦ inl (omega (arith, all, long))
        | inr behind ↦ inr (one_later bits k dropped plain behind)
      ];
    }

-- a zero
ends_five : (bits : List Bool) (k : ℕ) → k ≤ 5 → ends_in_five bits ≡ ends_in_five (ones_then k []) → ends_in_five bits ≡ (k == 5)
ends_five bits k few h =
    elim (cases_eq k 5) [
      | inl five ↦ h ∙ ap (λ n. ends_in_five (ones_then n [])) five ∙ ends_in_five-five ∙ sym (eq-eqb k 5 five)
      | inr other ↦ let less : k < 5 = omega arith in h ∙ ends_in_five-few k less ∙ sym (ne_eqb k 5 other)
    ]

given_zero : (five : Bool) (plain bits : List Bool) → plain ++ cond five bits (false ∷ bits) ≡ (plain ++ cond five [] (false ∷ [])) ++ bits
given_zero true plain bits = ap (λ b. b ++ bits) (sym (append-nil plain))
given_zero false plain bits = sym (append_assoc plain (false ∷ []) bits)

pub IsSought-zero : {bits : List Bool} {k : ℕ} {dropped : Bool} {plain : List Bool} → IsSought bits k dropped plain → IsSought (bits ++ false ∷ []) 0 (k == 5) (plain ++ cond (k == 5) [] (false ∷ []))
unfolding unstuffed
IsSought-zero {bits = bits} {k = k} {plain = plain} h =
    let long = length-append bits (false ∷ []) in
    let here : plain ≡ unstuffed 0 bits = sym (append-nil plain) ∙ sym (h.gives []) ∙ ap (unstuffed 0) (append-nil bits) in
    record {
      few = omega arith;
      six = λ more. let e = h.six (false ∷ more) in rw (append_assoc bits (false ∷ []) more) (omega (arith, e, six_place-ones_then_false k more h.few, long));
      gives = λ more. rw (append_assoc bits (false ∷ []) more) (h.gives (false ∷ more) ∙ given_zero (k == 5) plain (unstuffed 0 more));
      ends = λ more. rw (append_assoc bits (false ∷ []) more) (h.ends (false ∷ more) ∙ ends_in_five-ones_then_false k more h.few);
      last_zero = inr (record {
        body = bits;
        whole = refl;
        ends = ends_five bits k h.few (ap ends_in_five (sym (append-nil bits)) ∙ h.ends []);
        before = ap (λ b. b ++ cond (k == 5) [] (false ∷ [])) here ∙ ap (λ b. unstuffed 0 bits ++ b) (sym (append-nil (cond (k == 5) [] (false ∷ []))));
      });
    }

-- many bits, none of which is a sixth one
pub IsSought-more : (more : List Bool) {bits : List Bool} {k : ℕ} {dropped : Bool} {plain : List Bool} → IsSought bits k dropped plain → has_six k more ≡ false → IsSought (bits ++ more) (ones_after k more) (dropped_after k dropped more) (plain ++ unstuffed k more)
unfolding ones_after has_six dropped_after unstuffed
IsSought-more [] {bits = bits} {plain = plain} h none = rw (append-nil bits, append-nil plain) h
IsSought-more (true ∷ more) {bits = bits} {k = k} {plain = plain} h none =
    let parts = or_parts (k == 5) (has_six (suc k) more) none in
    let other : k ≢ 5 = eqb-false k 5 parts.0 in
    let less : k < 5 = omega (arith, h.few) in
    rw (← append_assoc bits (true ∷ []) more, ← append_assoc plain (true ∷ []) (unstuffed (suc k) more)) (IsSought-more more (IsSought-one h less) parts.1)
IsSought-more (false ∷ more) {bits = bits} {k = k} {plain = plain} h none =
    rw (← append_assoc bits (false ∷ []) more, given_zero (k == 5) plain (unstuffed 0 more)) (IsSought-more more (IsSought-zero h) none)

pub length-unstuffed : (k : ℕ) (bits : List Bool) → length (unstuffed k bits) ≤ length bits
unfolding unstuffed
length-unstuffed k [] = omega arith
length-unstuffed k (true ∷ bits) = omega (arith, length-unstuffed (suc k) bits)
length-unstuffed k (false ∷ bits) =
    elim (cases_eq k 5) [
      | inl five ↦ rw (eq-eqb k 5 five) (omega (arith, length-unstuffed 0 bits))
      | inr other ↦ rw (ne_eqb k 5 other) (omega (arith, length-unstuffed 0 bits))
    ]

-- one more bit agrees with the others, or comes after them
pub agree-next : (bits others : List Bool) (bit : Bool) → length bits < length others → agree (bits ++ bit ∷ []) others ≡ (agree bits others && beq bit (get_or others (length bits) false))
unfolding agree
agree-next [] [] bit inside = absurd (omega arith)
agree-next [] (other ∷ others) true inside = and-true (beq true other)
agree-next [] (other ∷ others) false inside = and-true (beq false other)
agree-next (one ∷ bits) [] bit inside = absurd (omega arith)
agree-next (one ∷ bits) (other ∷ others) bit inside =
    ap (λ v. beq one other && v) (agree-next bits others bit (omega arith)) ∙ sym (and_assoc (beq one other) (agree bits others) (beq bit (get_or others (length bits) false)))

pub agree-behind : (bits others : List Bool) (bit : Bool) → length others ≤ length bits → agree (bits ++ bit ∷ []) others ≡ agree bits others
unfolding agree
agree-behind [] [] bit past = refl
agree-behind [] (other ∷ others) bit past = absurd (omega arith)
agree-behind (one ∷ bits) [] bit past = refl
agree-behind (one ∷ bits) (other ∷ others) bit past = ap (λ v. beq one other && v) (agree-behind bits others bit (omega arith))

pub agree-more : (bits others more : List Bool) → length others ≤ length bits → agree (bits ++ more) others ≡ agree bits others
unfolding agree
agree-more [] [] [] past = refl
agree-more [] [] (bit ∷ more) past = refl
agree-more [] (other ∷ others) more past = absurd (omega arith)
agree-more (one ∷ bits) [] more past = refl
agree-more (one ∷ bits) (other ∷ others) more past = ap (λ v. beq one other && v) (agree-more bits others more (omega arith))

-- what agrees with the flag and is as long begins with it
pub opens-agree : (bits : List Bool) → 8 ≤ length bits → opens bits ≡ agree bits flag
unfolding agree
opens-agree (false ∷ true ∷ true ∷ true ∷ true ∷ true ∷ true ∷ false ∷ []) long = refl
opens-agree (false ∷ true ∷ true ∷ true ∷ true ∷ true ∷ true ∷ false ∷ bit ∷ bits) long = refl
opens-agree [] long = absurd (omega arith)
opens-agree (false ∷ []) long = absurd (omega arith)
opens-agree (false ∷ true ∷ []) long = absurd (omega arith)
opens-agree (false ∷ true ∷ true ∷ []) long = absurd (omega arith)
opens-agree (false ∷ true ∷ true ∷ true ∷ []) long = absurd (omega arith)
opens-agree (false ∷ true ∷ true ∷ true ∷ true ∷ []) long = absurd (omega arith)
opens-agree (false ∷ true ∷ true ∷ true ∷ true ∷ true ∷ []) long = absurd (omega arith)
opens-agree (false ∷ true ∷ true ∷ true ∷ true ∷ true ∷ true ∷ []) long = absurd (omega arith)
opens-agree _ long = refl

pub opens-short : (bits : List Bool) → length bits < 8 → opens bits ≡ false
opens-short (false ∷ true ∷ true ∷ true ∷ true ∷ true ∷ true ∷ false ∷ bits) short = absurd (omega arith)
opens-short _ short = refl
