-- The lines of one ring in a merged text.
use Rattle.std.proofs.Common.{◌≡◌, ℕ, ◌+◌, ◌==◌, Bool, true, false, if◌then◌else◌, List, [], ◌∷◌, ◌++◌, map, decimal, refl, sym, ◌∙◌, ap, subst, arith}
use Rattle.std.specs.List.{flat_map}
use Rattle.std.proofs.lemmas.Bool.Decides.{nat_tests}
use Rattle.std.proofs.lemmas.Grind.{flat_map-append}
use Rattle.sercos_text.specs.Templates.{field_of, line_text, part_left, part_text, value_text}
use Rattle.sercos_trace.specs.Marked.{is_feed, marked, marked_from, begins_after, AreLines, NoFeed}
use Rattle.sercos_answer.specs.Lines.{with_front}
use Rattle.sercos_multi.specs.Divided.{lines_in}
use Rattle.sercos_multi.specs.Merged.{moment_line, together_line}
use Rattle.sercos_multi.specs.OwnLines.{own_line, own_lines}
use Rattle.sercos_trace.proofs.FeedLemmas.{NoFeed-append, decimal_no_feed}
use Rattle.sercos_trace.proofs.MarkLemmas.{lines_one}

-- a text that isn't empty has a line
record HasLine (text : List ℕ) : Type 0 where
  first : List ℕ
  rest : List (List ℕ)
  is : lines_in text ≡ first ∷ rest

has_line : (y : ℕ) (ys : List ℕ) → HasLine (y ∷ ys)
unfolding lines_in
has_line y ys = by (is_feed y) (lines_in ys) refl
  where
    by : (feed : Bool) (ls : List (List ℕ)) → lines_in (y ∷ ys) ≡ (if feed then (y ∷ []) ∷ ls else with_front y ls) → HasLine (y ∷ ys)
    by true ls is = record { first = y ∷ []; rest = ls; is = is }
    by false [] is = record { first = y ∷ []; rest = []; is = is }
    by false (l ∷ ls) is = record { first = y ∷ l; rest = ls; is = is }

-- the lines of two texts, the first one of whole lines
pub front_first : (x : ℕ) (a : List ℕ) (more : List (List ℕ)) → begins_after false a ≡ true → with_front x (lines_in a ++ more) ≡ with_front x (lines_in a) ++ more
unfolding begins_after
front_first x [] more whole = absurd (cc)
front_first x (y ∷ ys) more whole =
    let h = has_line y ys in
    ap (λ l. with_front x (l ++ more)) h.is ∙ sym (ap (λ l. with_front x l ++ more) h.is)

pub lines_parts : (begins : Bool) (a b : List ℕ) → begins_after begins a ≡ true → lines_in (a ++ b) ≡ lines_in a ++ lines_in b
unfolding lines_in begins_after
lines_parts begins [] b whole = refl
lines_parts begins (x ∷ a) b whole = by (is_feed x) whole (lines_parts (is_feed x) a b whole)
  where
    by : (feed : Bool) → begins_after feed a ≡ true → lines_in (a ++ b) ≡ lines_in a ++ lines_in b
        → (if feed then (x ∷ []) ∷ lines_in (a ++ b) else with_front x (lines_in (a ++ b))) ≡ (if feed then (x ∷ []) ∷ lines_in a else with_front x (lines_in a)) ++ lines_in b
    by true so rest = ap (λ l. (x ∷ []) ∷ l) rest
    by false so rest = ap (with_front x) rest ∙ front_first x a (lines_in b) so

pub own_parts : (mark a b : List ℕ) → AreLines a → own_lines mark (a ++ b) ≡ own_lines mark a ++ own_lines mark b
unfolding own_lines
own_parts mark a b whole = ap (flat_map (own_line mark)) (lines_parts true a b whole) ∙ flat_map-append (own_line mark) (lines_in a) (lines_in b)

pub own_none : (mark : List ℕ) → own_lines mark [] ≡ []
unfolding own_lines lines_in
own_none mark = refl

-- ---- the lines of a text with marks; a mark is a digit and a space

abbrev pub one_mark : ℕ → List ℕ
one_mark a = a ∷ 32 ∷ []

abbrev with_mark : ℕ → List ℕ → List ℕ
with_mark a line = a ∷ 32 ∷ line

abbrev rest_marked : ℕ → List (List ℕ) → List (List ℕ)
rest_marked a [] = []
rest_marked a (l ∷ ls) = l ∷ map (with_mark a) ls

front_rest : (a x : ℕ) (ls : List (List ℕ)) → with_front x (rest_marked a ls) ≡ rest_marked a (with_front x ls)
front_rest a x [] = refl
front_rest a x (l ∷ ls) = refl

record MarkedLines (a : ℕ) (text : List ℕ) : Type 0 where
  within : lines_in (marked_from false (one_mark a) text) ≡ rest_marked a (lines_in text)
  before : lines_in (marked_from true (one_mark a) text) ≡ map (with_mark a) (lines_in text)

marked_front : (a : ℕ) (text l : List ℕ) (ls : List (List ℕ)) → (a == 10) ≡ false → lines_in text ≡ rest_marked a (l ∷ ls) → lines_in (a ∷ 32 ∷ text) ≡ map (with_mark a) (l ∷ ls)
unfolding lines_in
marked_front a text l ls test is = rw test (ap (λ q. with_front a (with_front 32 q)) is)

marked_lines : (a : ℕ) (text : List ℕ) → (a == 10) ≡ false → MarkedLines a text
unfolding lines_in marked_from
marked_lines a [] test = record { within = refl; before = refl }
marked_lines a (x ∷ xs) test =
    let rest = marked_lines a xs test in
    let h = has_line x xs in
    let inner = by (is_feed x) rest.within rest.before in
    record {
      within = inner;
      before = marked_front a (x ∷ marked_from (is_feed x) (one_mark a) xs) h.first h.rest test (inner ∙ ap (rest_marked a) h.is) ∙ sym (ap (map (with_mark a)) h.is);
    }
  where
    by : (feed : Bool) → lines_in (marked_from false (one_mark a) xs) ≡ rest_marked a (lines_in xs) → lines_in (marked_from true (one_mark a) xs) ≡ map (with_mark a) (lines_in xs)
        → (if feed then (x ∷ []) ∷ lines_in (marked_from feed (one_mark a) xs) else with_front x (lines_in (marked_from feed (one_mark a) xs))) ≡ rest_marked a (if feed then (x ∷ []) ∷ lines_in xs else with_front x (lines_in xs))
    by true within before = ap (λ l. (x ∷ []) ∷ l) before
    by false within before = ap (with_front x) within ∙ front_rest a x (lines_in xs)

own_map : (a : ℕ) (ls : List (List ℕ)) → flat_map (own_line (one_mark a)) (map (with_mark a) ls) ≡ flat_map (λ l. l) ls
unfolding own_line
own_map a [] = refl
own_map a (l ∷ ls) = let same : (a == a) ≡ true = grind (arith, nat_tests) in rw same (ap (λ t. l ++ t) (own_map a ls))

other_map : (a b : ℕ) (ls : List (List ℕ)) → (b == a) ≡ false → flat_map (own_line (one_mark a)) (map (with_mark b) ls) ≡ []
unfolding own_line
other_map a b [] test = refl
other_map a b (l ∷ ls) test = rw test (other_map a b ls test)

lines_joined : (text : List ℕ) → flat_map (λ l. l) (lines_in text) ≡ text
unfolding lines_in
lines_joined [] = refl
lines_joined (x ∷ xs) = by (is_feed x) (lines_in xs) (lines_joined xs)
  where
    by : (feed : Bool) (ls : List (List ℕ)) → flat_map (λ l. l) ls ≡ xs → flat_map (λ l. l) (if feed then (x ∷ []) ∷ ls else with_front x ls) ≡ x ∷ xs
    by true ls rest = ap (λ t. x ∷ t) rest
    by false [] rest = ap (λ t. x ∷ t) rest
    by false (l ∷ ls) rest = ap (λ t. x ∷ t) rest

pub own_marked : (a : ℕ) (text : List ℕ) → (a == 10) ≡ false → own_lines (one_mark a) (marked (one_mark a) text) ≡ text
unfolding own_lines marked
own_marked a text test = ap (flat_map (own_line (one_mark a))) (marked_lines a text test).before ∙ own_map a (lines_in text) ∙ lines_joined text

pub other_marked : (a b : ℕ) (text : List ℕ) → (b == 10) ≡ false → (b == a) ≡ false → own_lines (one_mark a) (marked (one_mark b) text) ≡ []
unfolding own_lines marked
other_marked a b text test other = ap (flat_map (own_line (one_mark a))) (marked_lines b text test).before ∙ other_map a b (lines_in text) other

marked_begins : (a : ℕ) (begins : Bool) (text : List ℕ) → begins_after begins (marked_from begins (one_mark a) text) ≡ begins_after begins text
unfolding begins_after marked_from
marked_begins a begins [] = refl
marked_begins a true (x ∷ xs) = marked_begins a (is_feed x) xs
marked_begins a false (x ∷ xs) = marked_begins a (is_feed x) xs

pub marked_whole : (a : ℕ) (text : List ℕ) → AreLines text → AreLines (marked (one_mark a) text)
unfolding marked
marked_whole a text whole = marked_begins a true text ∙ whole

-- ---- lines of no ring

one_line : (line : List ℕ) → NoFeed line → lines_in (line ++ 10 ∷ []) ≡ (line ++ 10 ∷ []) ∷ []
unfolding lines_in
one_line [] none = refl
one_line (byte ∷ line) none = rw (none.0, one_line line none.1) refl

moment_is : (n : ℕ) → moment_line n ≡ (116 ∷ 32 ∷ decimal n ++ []) ++ 10 ∷ []
unfolding line_text part_text part_left field_of value_text
moment_is n = refl

together_is : (n : ℕ) → together_line n ≡ (116 ∷ 111 ∷ 103 ∷ 101 ∷ 116 ∷ 104 ∷ 101 ∷ 114 ∷ 32 ∷ decimal n ++ []) ++ 10 ∷ []
unfolding line_text part_text part_left field_of value_text
together_is n = refl

-- a line that begins with a `t` is no ring's
no_own : (a : ℕ) (line : List ℕ) → NoFeed line → (116 == a) ≡ false → own_lines (one_mark a) ((116 ∷ line) ++ 10 ∷ []) ≡ []
unfolding own_lines own_line
no_own a line none test = ap (flat_map (own_line (one_mark a))) (one_line (116 ∷ line) (refl, none)) ∙ rw test refl

pub moment_own : (a n : ℕ) → (116 == a) ≡ false → own_lines (one_mark a) (moment_line n) ≡ []
moment_own a n test = ap (own_lines (one_mark a)) (moment_is n) ∙ no_own a (32 ∷ decimal n ++ []) (refl, NoFeed-append (decimal n) [] (decimal_no_feed n) tt) test

pub together_own : (a n : ℕ) → (116 == a) ≡ false → own_lines (one_mark a) (together_line n) ≡ []
together_own a n test =
    ap (own_lines (one_mark a)) (together_is n)
    ∙ no_own a (111 ∷ 103 ∷ 101 ∷ 116 ∷ 104 ∷ 101 ∷ 114 ∷ 32 ∷ decimal n ++ []) (refl, (refl, (refl, (refl, (refl, (refl, (refl, (refl, NoFeed-append (decimal n) [] (decimal_no_feed n) tt)))))))) test

pub moment_whole : (n : ℕ) → AreLines (moment_line n)
moment_whole n = subst AreLines (sym (moment_is n)) (lines_one true (116 ∷ 32 ∷ decimal n ++ []))
