-- The parts of an input, line by line.
use Rattle.std.proofs.Common.{◌≡◌, ℕ, zero, suc, ◌+◌, ◌-◌, ◌<◌, ◌≤◌, Bool, true, false, if◌then◌else◌, List, [], ◌∷◌, ◌++◌, length, take, drop, refl, sym, ◌∙◌, ap, subst, arith, append_assoc, append-nil}
use Rattle.std.proofs.Math.Seq.{take-add}
use Rattle.std.specs.List.{after_first}
use Rattle.sercos_answer.specs.Lines.{with_front}
use Rattle.sercos_trace.specs.Marked.{is_feed}
use Rattle.sercos_trace.proofs.FeedLemmas.{after_short, after_feed}
use Rattle.sercos_answer.proofs.CutLemmas.{after_first-more}
use Rattle.sercos_multi.specs.Divided.{lines_in, is_next, onto, parts_in, parts_of}
use Rattle.sercos_multi.proofs.ListLemmas.{taken_all, dropped_all}

-- the first line, with its line feed
rest_line : (byte : ℕ) (bytes : List ℕ) (len : ℕ) → len + length (after_first is_feed bytes) ≡ length bytes → with_front byte (lines_in bytes) ≡ (byte ∷ take len bytes) ∷ lines_in (drop len bytes)
unfolding lines_in
rest_line byte [] len is = let none : len ≡ 0 = omega (arith, is) in rw none refl
rest_line byte (c ∷ bytes) len is = by (is_feed c) refl (rest_line c bytes)
  where
    by : (feed : Bool) → is_feed c ≡ feed → ((len : ℕ) → len + length (after_first is_feed bytes) ≡ length bytes → with_front c (lines_in bytes) ≡ (c ∷ take len bytes) ∷ lines_in (drop len bytes))
        → with_front byte (if is_feed c then (c ∷ []) ∷ lines_in bytes else with_front c (lines_in bytes)) ≡ (byte ∷ take len (c ∷ bytes)) ∷ lines_in (drop len (c ∷ bytes))
    by true e rest =
        let here : len + length bytes ≡ suc (length bytes) = ap (λ (x : List ℕ). len + length x) (sym (after_feed c bytes e)) ∙ is in
        let one : len ≡ 1 = omega (arith, here) in
        rw (e, one) refl
    by false e rest =
        let here : len + length (after_first is_feed bytes) ≡ suc (length bytes) = ap (λ (x : List ℕ). len + length x) (sym (after_first-more c bytes e)) ∙ is in
        let short = after_short bytes in
        let one : len ≡ suc (len - 1) = omega (arith, here, short) in
        let less : (len - 1) + length (after_first is_feed bytes) ≡ length bytes = omega (arith, here, short) in
        rw (e, one) (ap (with_front byte) (rest (len - 1) less))

first_line : (text : List ℕ) (len : ℕ) → 0 < length text → len + length (after_first is_feed text) ≡ length text → lines_in text ≡ take len text ∷ lines_in (drop len text)
unfolding lines_in
first_line [] len some is = absurd (omega (arith, some))
first_line (byte ∷ bytes) len some is = by (is_feed byte) refl
  where
    by : (feed : Bool) → is_feed byte ≡ feed → (if is_feed byte then (byte ∷ []) ∷ lines_in bytes else with_front byte (lines_in bytes)) ≡ take len (byte ∷ bytes) ∷ lines_in (drop len (byte ∷ bytes))
    by true e =
        let here : len + length bytes ≡ suc (length bytes) = ap (λ (x : List ℕ). len + length x) (sym (after_feed byte bytes e)) ∙ is in
        let one : len ≡ 1 = omega (arith, here) in
        rw (e, one) refl
    by false e =
        let here : len + length (after_first is_feed bytes) ≡ suc (length bytes) = ap (λ (x : List ℕ). len + length x) (sym (after_first-more byte bytes e)) ∙ is in
        let short = after_short bytes in
        let one : len ≡ suc (len - 1) = omega (arith, here, short) in
        let less : (len - 1) + length (after_first is_feed bytes) ≡ length bytes = omega (arith, here, short) in
        rw (e, one) (rest_line byte bytes (len - 1) less)

-- parts with a text before them
onto_both : (a b : List ℕ) (parts : List (List ℕ)) → onto a (onto b parts) ≡ onto (a ++ b) parts
unfolding onto
onto_both a b [] = refl
onto_both a b (part ∷ parts) = ap (λ x. x ∷ parts) (sym (append_assoc a b part))

onto_none : (lines : List (List ℕ)) → onto [] (parts_in lines) ≡ parts_in lines
unfolding onto parts_in
onto_none [] = refl
onto_none (line ∷ lines) = by (is_next line)
  where
    by : (b : Bool) → onto [] (if b then [] ∷ parts_in lines else onto line (parts_in lines)) ≡ (if b then [] ∷ parts_in lines else onto line (parts_in lines))
    by true = refl
    by false = onto_both [] line (parts_in lines)

parts_some : (lines : List (List ℕ)) → 0 < length (parts_in lines)
unfolding onto parts_in
parts_some [] = omega arith
parts_some (line ∷ lines) = by (is_next line)
  where
    onto_some : (front : List ℕ) (parts : List (List ℕ)) → 0 < length (onto front parts)
    onto_some front [] = omega arith
    onto_some front (part ∷ parts) = omega arith

    by : (b : Bool) → 0 < length (if b then [] ∷ parts_in lines else onto line (parts_in lines))
    by true = omega arith
    by false = onto_some line (parts_in lines)

onto_count : (front : List ℕ) (parts : List (List ℕ)) → 0 < length parts → length (onto front parts) ≡ length parts
unfolding onto
onto_count front [] some = absurd (omega (arith, some))
onto_count front (part ∷ parts) some = refl

dropped_none : (n : ℕ) (none : List ℕ) → none ≡ [] → drop n none ≡ []
dropped_none zero none is = is
dropped_none (suc n) none is = rw is refl

dropped : (a b : ℕ) (text : List ℕ) → drop (a + b) text ≡ drop b (drop a text)
dropped zero b text = let same : 0 + b ≡ b = omega arith in ap (λ n. drop n text) same
dropped (suc a) b [] = dropped_none (suc a + b) [] refl ∙ sym (dropped_none b [] refl)
dropped (suc a) b (x ∷ text) = let same : suc a + b ≡ suc (a + b) = omega arith in ap (λ n. drop n (x ∷ text)) same ∙ dropped a b text

-- ---- what is found so far
-- the rest after `at` bytes begins a line, and this is the line
pub record IsLine (text : List ℕ) (at len : ℕ) : Type 0 where
  pub some : 0 < length (drop at text)
  pub len_is : len ≡ length (drop at text) - length (after_first is_feed (drop at text))

parts_here : (text : List ℕ) (at len : ℕ) → IsLine text at len
    → parts_of (drop at text) ≡ (if is_next (take len (drop at text)) then [] ∷ parts_of (drop (at + len) text) else onto (take len (drop at text)) (parts_of (drop (at + len) text)))
unfolding parts_of parts_in
parts_here text at len is =
    let short = after_short (drop at text) in
    let len_is = is.len_is in
    let all : len + length (after_first is_feed (drop at text)) ≡ length (drop at text) = omega (arith, len_is, short) in
    ap parts_in (first_line (drop at text) len is.some all)
    ∙ ap (λ (rest : List ℕ). if is_next (take len (drop at text)) then [] ∷ parts_in (lines_in rest) else onto (take len (drop at text)) (parts_in (lines_in rest))) (sym (dropped at len text))

abbrev pub Cuts : List ℕ → ℕ → Type 0
Cuts text at = parts_of text ≡ onto (take at text) (parts_of (drop at text))

pub cut_begun : (text : List ℕ) → Cuts text 0
unfolding parts_of
cut_begun text = sym (onto_none (lines_in text))

pub cut_more : (text : List ℕ) (at len : ℕ) → Cuts text at → IsLine text at len → is_next (take len (drop at text)) ≡ false → Cuts text (at + len)
cut_more text at len cuts is other =
    cuts ∙ ap (onto (take at text)) (parts_here text at len is ∙ ap (λ (b : Bool). if b then [] ∷ parts_of (drop (at + len) text) else onto (take len (drop at text)) (parts_of (drop (at + len) text))) other)
    ∙ onto_both (take at text) (take len (drop at text)) (parts_of (drop (at + len) text)) ∙ ap (λ front. onto front (parts_of (drop (at + len) text))) (sym (take-add at len text))

pub cut_found : (text : List ℕ) (at len : ℕ) → Cuts text at → IsLine text at len → is_next (take len (drop at text)) ≡ true → parts_of text ≡ take at text ∷ parts_of (drop len (drop at text))
unfolding onto
cut_found text at len cuts is next =
    cuts ∙ ap (onto (take at text)) (parts_here text at len is ∙ ap (λ (b : Bool). if b then [] ∷ parts_of (drop (at + len) text) else onto (take len (drop at text)) (parts_of (drop (at + len) text))) next)
    ∙ ap (λ x. x ∷ parts_of (drop (at + len) text)) (append-nil (take at text)) ∙ ap (λ rest. take at text ∷ parts_of rest) (dropped at len text)

pub cut_end : (text : List ℕ) (at : ℕ) → Cuts text at → length text ≤ at → parts_of text ≡ text ∷ []
unfolding onto parts_of parts_in lines_in
cut_end text at cuts all =
    cuts ∙ ap (λ rest. onto (take at text) (parts_in (lines_in rest))) (dropped_all text at all) ∙ ap (λ x. x ∷ []) (append-nil (take at text) ∙ taken_all text at all)

-- counted so far
pub record IsCounted (text : List ℕ) (at count : ℕ) : Type 0 where
  pub sum : length (parts_of text) + 1 ≡ count + length (parts_of (drop at text))
  pub few : count ≤ at + 1

pub counted_begun : (text : List ℕ) → IsCounted text 0 1
counted_begun text = record { sum = omega arith; few = omega arith }

pub counted_more : (text : List ℕ) (at len count : ℕ) → IsCounted text at count → IsLine text at len → is_next (take len (drop at text)) ≡ false → 0 < len → IsCounted text (at + len) count
unfolding parts_of
counted_more text at len count now is other some =
    let here = ap length (parts_here text at len is ∙ ap (λ (b : Bool). if b then [] ∷ parts_of (drop (at + len) text) else onto (take len (drop at text)) (parts_of (drop (at + len) text))) other)
    ∙ onto_count (take len (drop at text)) (parts_of (drop (at + len) text)) (parts_some (lines_in (drop (at + len) text))) in
    let sum = now.sum in let few = now.few in
    record { sum = omega (arith, sum, here); few = omega (arith, few) }

pub counted_next : (text : List ℕ) (at len count : ℕ) → IsCounted text at count → IsLine text at len → is_next (take len (drop at text)) ≡ true → 0 < len → IsCounted text (at + len) (count + 1)
counted_next text at len count now is next some =
    let here = ap length (parts_here text at len is ∙ ap (λ (b : Bool). if b then [] ∷ parts_of (drop (at + len) text) else onto (take len (drop at text)) (parts_of (drop (at + len) text))) next) in
    let sum = now.sum in let few = now.few in
    record { sum = omega (arith, sum, here); few = omega (arith, few, some) }

pub counted_end : (text : List ℕ) (at count : ℕ) → IsCounted text at count → length text ≤ at → count ≡ length (parts_of text)
unfolding parts_of parts_in lines_in
counted_end text at count now all =
    let one : length (parts_in (lines_in (drop at text))) ≡ 1 = ap (λ rest. length (parts_in (lines_in rest))) (dropped_all text at all) in
    let sum = now.sum in omega (arith, sum, one)

-- from what the calls in the loop say
pub line_is : (text : List ℕ) (at len : ℕ) (rest : List ℕ) → rest ≡ drop at text → 0 < length rest → len ≡ length rest - length (after_first is_feed rest) → IsLine text at len
line_is text at len rest is some len_is = record {
  some = subst (λ r. 0 < length r) is some;
  len_is = len_is ∙ ap (λ (r : List ℕ). length r - length (after_first is_feed r)) is;
}

pub next_is : (text : List ℕ) (at len : ℕ) (rest line : List ℕ) (b : Bool) → rest ≡ drop at text → line ≡ take len rest → is_next line ≡ b → is_next (take len (drop at text)) ≡ b
next_is text at len rest line b is line_is test = sym (ap (λ r. is_next (take len r)) is) ∙ sym (ap is_next line_is) ∙ test

pub counted_by : (text : List ℕ) (at len count count' : ℕ) (b : Bool) → IsCounted text at count → IsLine text at len → is_next (take len (drop at text)) ≡ b → 0 < len → count' ≡ (if b then count + 1 else count) → IsCounted text (at + len) count'
counted_by text at len count count' true now is next some more = subst (IsCounted text (at + len)) (sym more) (counted_next text at len count now is next some)
counted_by text at len count count' false now is other some more = subst (IsCounted text (at + len)) (sym more) (counted_more text at len count now is other some)

drop_length : (n : ℕ) (text : List ℕ) → n ≤ length text → n + length (drop n text) ≡ length text
drop_length zero text within = omega arith
drop_length (suc n) [] within = absurd (omega (arith, within))
drop_length (suc n) (x ∷ text) within = let rest = drop_length n text (omega (arith, within)) in omega (arith, rest)

pub within_is : (text : List ℕ) (at len : ℕ) (rest : List ℕ) → rest ≡ drop at text → at ≤ length text → len ≤ length rest → at + len ≤ length text
within_is text at len rest is within bound = let sum = drop_length at text within in let same = ap length is in omega (arith, sum, same, bound)

pub found_is : (text : List ℕ) (at len : ℕ) (front after rest : List ℕ) → Cuts text at → IsLine text at len → is_next (take len (drop at text)) ≡ true → front ≡ take at text → rest ≡ drop at text → after ≡ drop len rest
    → parts_of text ≡ front ∷ parts_of after
found_is text at len front after rest cuts is test front_is rest_is after_is =
    cut_found text at len cuts is test ∙ ap (λ x. x ∷ parts_of (drop len (drop at text))) (sym front_is) ∙ ap (λ x. front ∷ parts_of x) (sym (after_is ∙ ap (drop len) rest_is))
