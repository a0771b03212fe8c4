-- The verdict on a capture, line by line.
use Rattle.std.proofs.Common.{◌≡◌, ℕ, ◌+◌, ◌<◌, ◌≤◌, ◌↔◌, inl, inr, Bool, true, false, not, List, [], ◌∷◌, length, map, Option, Some, None, refl, sym, ◌∙◌, ap, subst, arith}
use Rattle.std.specs.Option.{option_or, option_map}
use Rattle.std.proofs.lemmas.Bool.{false≢true}
use Rattle.std.proofs.lemmas.Bool.Decides.{same_from_decides}
use Rattle.std.proofs.lemmas.List.{length-map}
use Rattle.std.proofs.lemmas.Option.{none-some}
use Rattle.sercos_model.proofs.OptionLemmas.{option_or-none}
use Rattle.sercos_trace.specs.declared.reading.BadLine.{BadLine}
use Rattle.sercos_trace.specs.declared.reading.Line.{Line}
use Rattle.sercos_trace.specs.declared.reading.Line.TheVariants as line
use Rattle.sercos_trace.specs.Kinds.{all_kinds, kinds_fault}
use Rattle.sercos_trace.specs.Lines.{line_in}
use Rattle.sercos_check.specs.declared.trouble.Trouble.{Trouble}
use Rattle.sercos_check.specs.declared.trouble.Trouble.TheVariants as trouble
use Rattle.sercos_check.specs.Shape.{HasShape, has_head}
use Rattle.sercos_check.specs.Tests.{can_follow, TellsFollowing}
use Rattle.sercos_check.specs.Verdicts.{plain, rule_broken, IsClean, IsTrouble, IsWhole, IsRefused, IsShapeFault, ArePlainClean, ArePlainFaults, IsPlainHead, BreakRules, CheckerState, CheckerStandsFor}
use Rattle.sercos_checking.specs.declared.verdict.Verdict.TheVariants as verdict
use Rattle.sercos_answer.specs.Lines.{lines_of}
use Rattle.sercos_checking.specs.Checking.{read_as, grammar_fault, shape_fault, column_of, capture_fault, first_violation, verdict_by, verdict_of}
use Rattle.sercos_checking.specs.Taken.{HasTaken, violation_in, verdict_after, verdict_on}
use Rattle.sercos_answer.proofs.CutLemmas.{Cut, lines_of-cut}

-- ---- a text, read

pub read_good : (text : List ℕ) (l : Line) → Some l ≡ line_in text → read_as text ≡ l
unfolding read_as
read_good text l e = rw (← e) refl

abbrev bad_at : ℕ → BadLine
bad_at place = record { column = place + 1 }

pub grammar-none : (text : List ℕ) → None ≡ option_map bad_at (kinds_fault all_kinds text) → grammar_fault text ≡ None
unfolding grammar_fault
grammar-none text e = by (kinds_fault all_kinds text) e
  where
    by : (o : Option ℕ) → None ≡ option_map bad_at o → option_map (λ (place : ℕ). place + 1) o ≡ None
    by None e = refl
    by (Some place) e = absurd (none-some _ e)

pub grammar-bad : (text : List ℕ) (bad : BadLine) → Some bad ≡ option_map bad_at (kinds_fault all_kinds text) → grammar_fault text ≡ Some bad.column
unfolding grammar_fault
grammar-bad text bad e = by (kinds_fault all_kinds text) e
  where
    by : (o : Option ℕ) → Some bad ≡ option_map bad_at o → option_map (λ (place : ℕ). place + 1) o ≡ Some bad.column
    by None e = absurd (none-some _ (sym e))
    by (Some place) e = sym (ap (option_map (λ (b : BadLine). b.column)) e)

-- ---- where it is refused

pub column-bad : (before : List Line) (text : List ℕ) (column : ℕ) → grammar_fault text ≡ Some column → column_of before text ≡ Some column
unfolding column_of
column-bad before text column e = rw e refl

pub column-misplaced : (before : List Line) (text : List ℕ) (l : Line) → grammar_fault text ≡ None → read_as text ≡ l → can_follow before l ≡ false → column_of before text ≡ Some 1
unfolding column_of shape_fault
column-misplaced before text l e is cannot = rw (e, is, cannot) refl

pub column-none : (before : List Line) (text : List ℕ) (l : Line) → grammar_fault text ≡ None → read_as text ≡ l → can_follow before l ≡ true → column_of before text ≡ None
unfolding column_of shape_fault
column-none before text l e is can = rw (e, is, can) refl

-- a checker of plain lines tests whether a line can follow
pub follow_test : TellsFollowing → ArePlainClean → (before : List Line) (l : Line) (ok : Bool) → HasShape before → ((ok ≡ true) ↔ IsClean (map plain (l ∷ before))) → ok ≡ can_follow before l
follow_test tells clean before l ok shaped is =
    same_from_decides ok (can_follow before l)
    (λ e. ((clean (l ∷ before)).0 (is.0 e)).0, λ can. is.1 ((clean (l ∷ before)).1 (can, shaped)))
    (tells before l)

pub other_plain : (l : Line) → ((cycle : ℕ) (sent : _) → l ≡ line.Telegram cycle sent → ⊥) → plain l ≡ l
other_plain line.Version not = refl
other_plain (line.Ring rate cycle control gap drives) not = refl
other_plain (line.Drive wish) not = refl
other_plain (line.Order addresses) not = refl
other_plain (line.Telegram cycle sent) not = absurd (not cycle sent refl)
other_plain line.Other not = refl
other_plain line.End not = refl

-- ---- after the last line

no_shape_fault : (lines : List Line) (t : Trouble) → HasShape lines → IsShapeFault lines t → ⊥
no_shape_fault [] t shaped fault = fault
no_shape_fault (l ∷ before) t shaped (inl earlier) = no_shape_fault before t shaped.1 earlier
no_shape_fault (l ∷ before) (trouble.Grammar number) shaped (inr first) = first.1.0 shaped.0
no_shape_fault (l ∷ before) (trouble.Violation number rule) shaped (inr first) = first.1

-- a fault of plain lines is a head that ends early
pub shape_ended : ArePlainFaults → IsPlainHead → (lines : List Line) (t : Trouble) → HasShape lines → IsRefused (map plain lines) t → verdict_on t ≡ verdict_after lines
unfolding verdict_on verdict_after verdict_by
shape_ended faults head lines t shaped (inl first) = absurd (no_shape_fault lines t shaped ((faults lines t).0 first))
shape_ended faults head lines t shaped (inr short) =
    rw (short.2, length-map lines plain, sym (head lines) ∙ short.1) refl

clean_none : (lines : List Line) → IsClean lines → violation_in lines ≡ None
unfolding violation_in
clean_none [] clean = refl
clean_none (l ∷ before) clean = rw (clean_none before clean.0, clean.2) refl

trouble_some : (lines : List Line) (number rule : ℕ) → IsTrouble lines (trouble.Violation number rule) → violation_in lines ≡ Some (number, rule)
unfolding violation_in
trouble_some [] number rule first = absurd first
trouble_some (l ∷ before) number rule (inl earlier) = rw (trouble_some before number rule earlier) refl
trouble_some (l ∷ before) number rule (inr first) = rw (clean_none before first.0, first.1.1, first.1.2) refl

pub clean_ended : (lines : List Line) (number : ℕ) → has_head lines ≡ true → IsWhole lines number → verdict.Clean number ≡ verdict_after lines
unfolding verdict_after verdict_by
clean_ended lines number head whole = rw (clean_none lines whole.0, head, whole.2) refl

pub broken_ended : BreakRules → (lines : List Line) (t : Trouble) → has_head lines ≡ true → HasShape lines → IsRefused lines t → verdict_on t ≡ verdict_after lines
unfolding verdict_on verdict_after verdict_by
broken_ended rules lines (trouble.Grammar number) head shaped (inl first) = absurd (rules lines number shaped first)
broken_ended rules lines (trouble.Violation number rule) head shaped (inl first) = rw (trouble_some lines number rule first, head) refl
broken_ended rules lines t head shaped (inr short) = absurd (false≢true (sym short.1 ∙ head))

-- ---- the lines, one by one

-- What the checkers have taken of a text, and what is left of it: these lines and the rest give the verdict.
pub record Taking (shape rules : CheckerState) (number : ℕ) (rest text : List ℕ) : Type 0 where
  pub before : List Line
  pub taken : HasTaken shape rules before
  pub number_is : number ≡ length before + 1
  pub fault : capture_fault before (lines_of rest) ≡ capture_fault [] (lines_of text)
  pub violation : option_or (violation_in before) (first_violation before (lines_of rest)) ≡ first_violation [] (lines_of text)
  pub count : length before + length (lines_of rest) ≡ length (lines_of text)
  pub few : length before + length rest ≤ length text

pub taking-begun : (shape rules : CheckerState) (text : List ℕ) → CheckerStandsFor shape [] → CheckerStandsFor rules [] → Taking shape rules 1 text text
unfolding violation_in
taking-begun shape rules text shape_stands rules_stand = record {
  before = [];
  taken = record { shape_stands = shape_stands; rules_stand = rules_stand; shaped = tt };
  number_is = refl;
  fault = refl;
  violation = refl;
  count = omega arith;
  few = omega arith;
}

or_or : {A : Type 0} (a b c : Option A) → option_or (option_or a b) c ≡ option_or a (option_or b c)
or_or None b c = refl
or_or (Some x) b c = refl

fault-more : (before : List Line) (rest line others : List ℕ) → Cut rest line others → column_of before line ≡ None → capture_fault before (lines_of rest) ≡ capture_fault (read_as line ∷ before) (lines_of others)
unfolding capture_fault
fault-more before rest line others cut good = rw (lines_of-cut rest line others cut, good) refl

violation-more : (before : List Line) (rest line others : List ℕ) → Cut rest line others
    → option_or (violation_in before) (first_violation before (lines_of rest)) ≡ option_or (violation_in (read_as line ∷ before)) (first_violation (read_as line ∷ before) (lines_of others))
unfolding violation_in first_violation
violation-more before rest line others cut =
    rw (lines_of-cut rest line others cut)
    (sym (or_or (violation_in before) (option_map (λ rule. (length before + 1, rule)) (rule_broken before (read_as line))) (first_violation (read_as line ∷ before) (lines_of others))))

pub taking-more : (shape rules shape' rules' : CheckerState) (number : ℕ) (rest line others text : List ℕ) (now : Taking shape rules number rest text) → Cut rest line others → length others < length rest
    → None ≡ column_of now.before line → HasTaken shape' rules' (read_as line ∷ now.before) → Taking shape' rules' (number + 1) others text
taking-more shape rules shape' rules' number rest line others text now cut shorter good taken =
    let is = now.number_is in
    let count = now.count in
    let few = now.few in
    let more : length (lines_of rest) ≡ length (lines_of others) + 1 = ap length (lines_of-cut rest line others cut) ∙ omega arith in
    record {
      before = read_as line ∷ now.before;
      taken = taken;
      number_is = omega (arith, is);
      fault = sym (fault-more now.before rest line others cut (sym good)) ∙ now.fault;
      violation = sym (violation-more now.before rest line others cut) ∙ now.violation;
      count = omega (arith, count, more);
      few = omega (arith, few, shorter);
    }

fault-here : (before : List Line) (rest line others : List ℕ) (column : ℕ) → Cut rest line others → column_of before line ≡ Some column → capture_fault before (lines_of rest) ≡ Some (length before + 1, column)
unfolding capture_fault
fault-here before rest line others column cut bad = rw (lines_of-cut rest line others cut, bad) refl

refused_by : (text : List ℕ) (number column : ℕ) → capture_fault [] (lines_of text) ≡ Some (number, column) → verdict.Refused number column ≡ verdict_of text
unfolding verdict_of verdict_by
refused_by text number column fault = rw fault refl

pub taking-refused : (shape rules : CheckerState) (number column : ℕ) (rest line others text : List ℕ) (now : Taking shape rules number rest text) → Cut rest line others
    → Some column ≡ column_of now.before line → verdict.Refused number column ≡ verdict_of text
taking-refused shape rules number column rest line others text now cut bad =
    rw now.number_is (refused_by text _ column (sym now.fault ∙ fault-here now.before rest line others column cut (sym bad)))

ended-by : (before : List Line) (texts : List (List ℕ)) (text : List ℕ) → texts ≡ [] → capture_fault before texts ≡ capture_fault [] (lines_of text)
    → option_or (violation_in before) (first_violation before texts) ≡ first_violation [] (lines_of text) → length before ≡ length (lines_of text)
    → verdict_after before ≡ verdict_of text
unfolding verdict_after verdict_of capture_fault first_violation
ended-by before texts text none fault violation count =
    let f : capture_fault before [] ≡ capture_fault [] (lines_of text) = subst (λ t. capture_fault before t ≡ capture_fault [] (lines_of text)) none fault in
    let v : option_or (violation_in before) (first_violation before []) ≡ first_violation [] (lines_of text) =
    subst (λ t. option_or (violation_in before) (first_violation before t) ≡ first_violation [] (lines_of text)) none violation in
    rw (← f, ← v, ← count, option_or-none (violation_in before)) refl

no_lines : (rest : List ℕ) → length rest ≡ 0 → lines_of rest ≡ []
unfolding lines_of
no_lines [] none = refl
no_lines (byte ∷ rest) none = absurd (omega (arith, none))

pub taking-ended : (shape rules : CheckerState) (number : ℕ) (rest text : List ℕ) (now : Taking shape rules number rest text) → length rest ≡ 0 → verdict_after now.before ≡ verdict_of text
taking-ended shape rules number rest text now none =
    let empty = no_lines rest none in
    let count = now.count in
    let zero_left : length (lines_of rest) ≡ 0 = ap length empty in
    ended-by now.before (lines_of rest) text empty now.fault now.violation (omega (arith, count, zero_left))

-- how many lines the checkers have taken
pub taking-shape_count : (shape rules : CheckerState) (number : ℕ) (rest text : List ℕ) (now : Taking shape rules number rest text) → shape.lines ≤ length text
taking-shape_count shape rules number rest text now =
    let count = now.taken.shape_stands.count in
    let same = length-map now.before plain in
    let few = now.few in
    omega (arith, count, same, few)

pub taking-rules_count : (shape rules : CheckerState) (number : ℕ) (rest text : List ℕ) (now : Taking shape rules number rest text) → rules.lines ≤ length text
taking-rules_count shape rules number rest text now =
    let count = now.taken.rules_stand.count in
    let few = now.few in
    omega (arith, count, few)

pub taking-number : (shape rules : CheckerState) (number : ℕ) (rest text : List ℕ) (now : Taking shape rules number rest text) → number ≤ length text + 1
taking-number shape rules number rest text now =
    let is = now.number_is in
    let few = now.few in
    omega (arith, is, few)
