-- The rules for reasons, and frames: no rule applies exactly where the bits are a frame of what they contain.
use Rattle.std.proofs.Common.{◌≡◌, ◌≢◌, ℕ, suc, ◌+◌, ◌-◌, ◌/◌, ◌%◌, ◌<◌, ◌≤◌, Bool, true, false, not, eqb, ltb, leb, List, [], ◌∷◌, ◌++◌, length, take, drop, get_or, Option, Some, None, Result, Ok, Err, IfOk, refl, sym, ap, subst, ◌∙◌, arith, ⊎_elim}
use Rattle.std.specs.Option.{option_or}
use Rattle.std.specs.Result.{result_err}
use Rattle.std.proofs.lemmas.List.{take_at, length-take-le, length-drop, length-append, get_or-drop, take-append-drop, get_or-append-add}
use Rattle.std.proofs.lemmas.Bool.{cases_Bool, cases_eq, eqb-false, ltb-false, leb-false, eqb-true, not-false, or_parts, ne_eqb, le-ltb, lt-leb, eq-eqb, or_from}
use Rattle.sercos_model.specs.Bits.{low_bits, AreBytes}
use Rattle.sercos_model.specs.CheckSequence.{fcs_of}
use Rattle.sercos_model.specs.Frames.{flag, IsStuffed, IsFrame, plain_of}
use Rattle.sercos_hdlc.specs.Reason.{opens, begins_with_six, ends_in_five, six_place, unstuffed, ones_at, closing_at, body, plain, content_of, found_in, given, no_close, runs_on, zero_missing, short, long, check_differs, after, unclosed, unreadable, reason_of}
use Rattle.sercos_hdlc.specs.declared.bad_frame.BadFrame.{BadFrame}
use Rattle.sercos_hdlc.specs.declared.bad_frame.BadFrame.TheVariants as bad
use Rattle.sercos_model.proofs.BitLemmas.{bits_of-bytes_of, length-bytes_of, AreBytes-bytes_of, low_bits-number_of}
use Rattle.sercos_model.proofs.FrameLemmas.{length-plain_of, content-plain_of, check-plain_of}
use Rattle.sercos_hdlc.proofs.RunLemmas.{six_place-here, six_place-next, six_place-le, six_place-take, six_place-none_before}
use Rattle.sercos_hdlc.proofs.StuffLemmas.{unstuffed-IsStuffed, six_place-IsStuffed, ends_in_five-IsStuffed, IsStuffed-unstuffed}

-- where no rule of a sequence applies, neither its first does nor one of the others
given_or_none : (test : Bool) (reason : BadFrame) (others : Option BadFrame) → option_or (given test reason) others ≡ None → (test ≡ false) × (others ≡ None)
unfolding given
given_or_none true reason others h = cc
given_or_none false reason others h = (refl, h)

given_none : (test : Bool) (reason : BadFrame) → given test reason ≡ None → test ≡ false
unfolding given
given_none true reason h = cc
given_none false reason h = refl

-- and where neither does, none applies
none_given_or : (test : Bool) (reason : BadFrame) (others : Option BadFrame) → test ≡ false → others ≡ None → option_or (given test reason) others ≡ None
unfolding given
none_given_or true reason others h k = cc
none_given_or false reason others h k = k

none_given : (test : Bool) (reason : BadFrame) → test ≡ false → given test reason ≡ None
unfolding given
none_given true reason h = cc
none_given false reason h = refl

option_or_none : (first others : Option BadFrame) → option_or first others ≡ None → (first ≡ None) × (others ≡ None)
option_or_none None others h = (refl, h)
option_or_none (Some reason) others h = cc

-- what begins with the flag
opens_is : (bits : List Bool) → opens bits ≡ true → bits ≡ flag ++ drop 8 bits
opens_is (false ∷ true ∷ true ∷ true ∷ true ∷ true ∷ true ∷ false ∷ bits) h = refl
opens_is _ h = cc

-- six ones and a zero, after a bit with which they make no longer run, are the flag
flag_is : (bit : Bool) (bits : List Bool) → begins_with_six (bit ∷ bits) ≡ false → begins_with_six bits ≡ true → length bits ≡ 7 → get_or bits 6 false ≡ false → bit ∷ bits ≡ flag
unfolding begins_with_six
flag_is false (true ∷ true ∷ true ∷ true ∷ true ∷ true ∷ false ∷ []) before six seven last = refl
flag_is bit (true ∷ true ∷ true ∷ true ∷ true ∷ true ∷ []) before six seven last = absurd (omega arith)
flag_is bit (true ∷ true ∷ true ∷ true ∷ true ∷ true ∷ a ∷ b ∷ bits) before six seven last = absurd (omega arith)
flag_is _ _ before six seven last = cc

-- what ends in its first six ones and a zero ends in the flag
closing_is : (bits : List Bool) → 0 < six_place bits → length bits ≡ six_place bits + 7 → get_or bits (six_place bits + 6) false ≡ false → bits ≡ take (six_place bits - 1) bits ++ flag
closing_is [] behind ends last = absurd (omega arith)
closing_is (bit ∷ bits) behind ends last =
    ⊎_elim (λ six. absurd (omega (arith, six_place-here (bit ∷ bits) six))) (λ none.
    let next = six_place-next bit bits none in
    let last_of_rest : get_or bits (six_place bits + 6) false ≡ false = ap (λ n. get_or (bit ∷ bits) n false) (let e : suc (six_place bits + 6) ≡ six_place (bit ∷ bits) + 6 = omega arith in e) ∙ last in
    ⊎_elim
    (λ here. flag_is bit bits none (six_place-none_before bits (omega arith) here) (omega arith) (ap (λ n. get_or bits (n + 6) false) (sym here) ∙ last_of_rest) ∙ ap (λ n. take n (bit ∷ bits) ++ flag) (let e : 0 ≡ six_place (bit ∷ bits) - 1 = omega arith in e))
    (λ later. ap (λ b. bit ∷ b) (closing_is bits (omega arith) (omega arith) last_of_rest) ∙ ap (λ n. take n (bit ∷ bits) ++ flag) (let e : suc (six_place bits - 1) ≡ six_place (bit ∷ bits) - 1 = omega arith in e))
    (cases_eq (six_place bits) 0))
    (cases_Bool (begins_with_six (bit ∷ bits)))

-- the bits between two flags, where no rule on flags applies
record IsFlagged (bits : List Bool) : Type 0 where
  pub whole : bits ≡ flag ++ body bits ++ flag
  pub no_six : six_place (body bits) ≡ length (body bits)

-- where no rule on flags applies and nothing follows the closing flag, the bits stand between two flags
flagged : (bits : List Bool) → unclosed bits ≡ None → length bits ≤ closing_at bits + 8 → IsFlagged bits
unfolding unclosed
flagged bits h ends =
    let opened = given_or_none (not (opens bits)) bad.NoOpen (option_or (no_close bits) (runs_on bits)) h in
    let closed = given_or_none (leb (length bits) (ones_at bits + 6)) (bad.NoClose (length bits)) (runs_on bits) opened.1 in
    let held = or_parts (eqb (ones_at bits) 8) (get_or bits (ones_at bits + 6) false) (given_none _ _ closed.1) in
    let room = leb-false (length bits) (ones_at bits + 6) closed.0 in
    let apart = eqb-false (ones_at bits) 8 held.0 in
    let rest_length = length-drop 8 bits in
    let last : get_or (drop 8 bits) (six_place (drop 8 bits) + 6) false ≡ false = get_or-drop 8 bits (six_place (drop 8 bits) + 6) false ∙ ap (λ n. get_or bits n false) (let e : 8 + (six_place (drop 8 bits) + 6) ≡ ones_at bits + 6 = omega arith in e) ∙ held.1 in
    let body_is : take (six_place (drop 8 bits) - 1) (drop 8 bits) ≡ body bits = ap (λ n. take n (drop 8 bits)) (let e : six_place (drop 8 bits) - 1 ≡ closing_at bits - 8 = omega arith in e) in
    record {
      whole = opens_is bits (not-false _ opened.0) ∙ ap (λ b. flag ++ b) (closing_is (drop 8 bits) (omega arith) (omega arith) last ∙ ap (λ b. b ++ flag) body_is);
      no_six = subst (λ b. six_place b ≡ length b) body_is (six_place-take (six_place (drop 8 bits) - 1) (drop 8 bits) (omega arith) ∙ sym (length-take-le (six_place (drop 8 bits) - 1) (drop 8 bits) (omega (arith, six_place-le (drop 8 bits)))));
    }

-- plain bits of which no rule speaks
record IsReadable (bits : List Bool) : Type 0 where
  pub whole_bytes : length bits % 8 ≡ 0
  pub low : 3 ≤ length bits / 8
  pub high : length bits / 8 ≤ 2050
  pub checked : found_in bits ≡ fcs_of (content_of bits)

readable : (bits : List Bool) → unreadable bits ≡ None → IsReadable bits
unfolding unreadable
readable bits h =
    let whole = given_or_none (not (eqb (length bits % 8) 0)) (bad.Ragged (length bits)) (option_or (short bits) (option_or (long bits) (check_differs bits))) h in
    let low = given_or_none (ltb (length bits / 8) 3) (bad.Short (length bits / 8)) (option_or (long bits) (check_differs bits)) whole.1 in
    let high = given_or_none (ltb 2050 (length bits / 8)) (bad.Long (length bits / 8)) (check_differs bits) low.1 in
    let check = given_none (not (eqb (found_in bits) (fcs_of (content_of bits)))) _ high.1 in
    record {
      whole_bytes = eqb-true _ _ (not-false _ whole.0);
      low = ltb-false _ _ low.0;
      high = ltb-false _ _ high.0;
      checked = eqb-true _ _ (not-false _ check);
    }

-- such bits are those of their content and its check sequence
plain_of-content_of : (bits : List Bool) → IsReadable bits → plain_of (content_of bits) ≡ bits
plain_of-content_of bits h =
    let front = length-take-le (length bits - 16) bits (omega arith) in
    let front_bytes : length (take (length bits - 16) bits) % 8 ≡ 0 = omega (arith, h.low, h.whole_bytes) in
    let sixteen : length (drop (length bits - 16) bits) ≡ 16 = omega (arith, h.low, length-drop (length bits - 16) bits) in
    let back : low_bits 16 (fcs_of (content_of bits)) ≡ drop (length bits - 16) bits = ap (low_bits 16) (sym h.checked) ∙ ap (λ n. low_bits n (found_in bits)) (sym sixteen) ∙ low_bits-number_of (drop (length bits - 16) bits) in
    ap (λ b. b ++ low_bits 16 (fcs_of (content_of bits))) (bits_of-bytes_of (take (length bits - 16) bits) front_bytes) ∙ ap (λ b. take (length bits - 16) bits ++ b) back ∙ take-append-drop (length bits - 16) bits

-- the check sequence that was found, and the one that was wanted
pub check_differs-other : (bits : List Bool) (found wanted : ℕ) → found ≡ found_in bits → wanted ≡ fcs_of (content_of bits) → found ≢ wanted → Some (bad.Check found wanted) ≡ check_differs bits
unfolding given
check_differs-other bits found wanted is_found is_wanted other =
    let differ : eqb (found_in bits) (fcs_of (content_of bits)) ≡ false = ne_eqb (found_in bits) (fcs_of (content_of bits)) (λ same. other (is_found ∙ same ∙ sym is_wanted)) in
    rw (is_found, is_wanted, differ)

pub check_differs-same : (bits : List Bool) (found wanted : ℕ) → found ≡ found_in bits → wanted ≡ fcs_of (content_of bits) → found ≡ wanted → None ≡ check_differs bits
check_differs-same bits found wanted is_found is_wanted same =
    sym (none_given _ _ (ap not (eq-eqb (found_in bits) (fcs_of (content_of bits)) (sym is_found ∙ same ∙ is_wanted))))

-- bits to which no rule applies are a frame of their content
pub IsFrame-reason_none : (bits : List Bool) → reason_of bits ≡ None → IsFrame (content_of (plain bits)) bits
unfolding reason_of
IsFrame-reason_none bits h =
    let flags = option_or_none (unclosed bits) (option_or (zero_missing bits) (option_or (unreadable (plain bits)) (after bits))) h in
    let zeros = given_or_none (ends_in_five (body bits)) (bad.Abort (closing_at bits)) (option_or (unreadable (plain bits)) (after bits)) flags.1 in
    let rest = option_or_none (unreadable (plain bits)) (after bits) zeros.1 in
    let flagged_bits = flagged bits flags.0 (ltb-false (closing_at bits + 8) (length bits) (given_none _ _ rest.1)) in
    let plain_bits = readable (plain bits) rest.0 in
    let count = length-bytes_of (take (length (plain bits) - 16) (plain bits)) in
    let front = length-take-le (length (plain bits) - 16) (plain bits) (omega arith) in
    record {
      bytes = AreBytes-bytes_of _;
      some = omega (arith, plain_bits.low);
      fits = omega (arith, plain_bits.high);
      out = body bits;
      stuffed = subst (λ p. IsStuffed 0 p (body bits)) (sym (plain_of-content_of (plain bits) plain_bits)) (IsStuffed-unstuffed 0 (body bits) (omega arith) (omega (arith, flagged_bits.no_six)) zeros.0);
      whole = flagged_bits.whole;
    }

both_none : (first others : Option BadFrame) → first ≡ None → others ≡ None → option_or first others ≡ None
both_none first others h k = rw (h, k)

-- no rule speaks of the bits of a content and its check sequence
unreadable-plain_of : (content : List ℕ) → AreBytes content → 0 < length content → length content ≤ 2048 → unreadable (plain_of content) ≡ None
unfolding unreadable
unreadable-plain_of content bytes some fits =
    let count = length-plain_of content in
    let check : found_in (plain_of content) ≡ fcs_of (content_of (plain_of content)) = check-plain_of content ∙ ap fcs_of (sym (content-plain_of content bytes)) in
    none_given_or _ _ _ (ap not (eq-eqb (length (plain_of content) % 8) 0 (omega arith))) (none_given_or _ _ _ (le-ltb (length (plain_of content) / 8) 3 (omega arith)) (none_given_or _ _ _ (le-ltb 2050 (length (plain_of content) / 8) (omega arith)) (none_given _ _ (ap not (eq-eqb (found_in (plain_of content)) _ check)))))

-- a stuffed list between two flags
module _ (plain_bits out : List Bool) (stuffed : IsStuffed 0 plain_bits out) where
  framed_bits : List Bool
  framed_bits = flag ++ out ++ flag

  ones_at-framed : ones_at framed_bits ≡ length out + 9
  unfolding framed_bits
  ones_at-framed = omega (arith, six_place-IsStuffed [] stuffed)

  length-framed : length framed_bits ≡ length out + 16
  unfolding framed_bits
  length-framed = omega (arith, length-append out flag)

  body-framed : body framed_bits ≡ out
  unfolding framed_bits
  body-framed =
      let end : closing_at framed_bits - 8 ≡ length out = omega (arith, six_place-IsStuffed [] stuffed) in
      ap (λ n. take n (out ++ flag)) end ∙ take_at out flag (length out) refl

  unclosed-framed : unclosed framed_bits ≡ None
  unfolding framed_bits unclosed given
  unclosed-framed =
      let last : get_or framed_bits (ones_at framed_bits + 6) false ≡ false = ap (λ n. get_or framed_bits n false) (let e : ones_at framed_bits + 6 ≡ length (flag ++ out) + 7 = omega (arith, ones_at-framed) in e) ∙ get_or-append-add (flag ++ out) flag 7 false in
      let room : length framed_bits ≡ length out + 16 = length-framed in
      none_given_or _ _ _ (lt-leb (length framed_bits) (ones_at framed_bits + 6) (omega (arith, ones_at-framed))) (none_given _ _ (or_from (eqb (ones_at framed_bits) 8) _ (ne_eqb _ 8 (omega (arith, ones_at-framed))) last))

framed : (content : List ℕ) (out : List Bool) → AreBytes content → 0 < length content → length content ≤ 2048 → IsStuffed 0 (plain_of content) out → (reason_of (flag ++ out ++ flag) ≡ None) × (content_of (plain (flag ++ out ++ flag)) ≡ content)
unfolding reason_of framed_bits
framed content out bytes some fits stuffed =
    let p = plain_of content in
    let plain_is = ap (unstuffed 0) (body-framed p out stuffed) ∙ unstuffed-IsStuffed stuffed in
    let ends = ap ends_in_five (body-framed p out stuffed) ∙ ends_in_five-IsStuffed stuffed in
    let readable_bits = ap unreadable plain_is ∙ unreadable-plain_of content bytes some fits in
    let none_after = none_given _ (bad.After (closing_at (flag ++ out ++ flag) + 8)) (le-ltb (closing_at (flag ++ out ++ flag) + 8) (length (flag ++ out ++ flag)) (omega (arith, ones_at-framed p out stuffed, length-framed p out stuffed))) in
    (both_none _ _ (unclosed-framed p out stuffed) (none_given_or _ (bad.Abort (closing_at (flag ++ out ++ flag))) _ ends (both_none _ _ readable_bits none_after)), ap content_of plain_is ∙ content-plain_of content bytes)

-- no rule applies to a frame, and its content is what the bits contain
pub reason_of-IsFrame : (content : List ℕ) (bits : List Bool) → IsFrame content bits → (reason_of bits ≡ None) × (content_of (plain bits) ≡ content)
reason_of-IsFrame content bits h =
    subst (λ b. (reason_of b ≡ None) × (content_of (plain b) ≡ content)) (sym h.whole) (framed content h.out h.bytes h.some h.fits h.stuffed)

-- an answer that is the first reason where there is one, and else the content, is right
pub IsFrame-content : {A : Type 0} (answer : Result A BadFrame) (bits : List Bool) (of : A → List ℕ) → result_err answer ≡ reason_of bits
    → IfOk answer (λ a. of a ≡ content_of (plain bits)) → IfOk answer (λ a. IsFrame (of a) bits)
IsFrame-content (Ok a) bits of reason content =
    subst (λ bytes. IsFrame bytes bits) (sym content) (IsFrame-reason_none bits (sym reason))
IsFrame-content (Err bad) bits of reason content = tt
