-- Parts of a text that a check of captures passes.
use Rattle.sercos_law_trace.proofs.Words.{inr, inl, cases_Option, ◌≡◌, ℕ, pos, ◌+◌, List, [], ◌∷◌, ◌++◌, length, Option, Some, None, refl, sym, ◌∙◌, ap, append_assoc, append-nil, All, flat_map, All-head, All-tail, tail_text, IsTail, addresses_in, Value, AreOf, line_fault, line_text, numbers_in, signed_by, bytes_by, LineKind, Line, template_of, tail_for, all_kinds, line_of, line_with, line_by, line_as, line_in, ReadsBack, CanFollow, TellsFollowing, rule_broken, read_as, column_of, read_good, column-none, or-none, NoFeed, NoFeed-append, lines_of-line, line_no_feed, tail_no_feed, template_no_feed, later, kinds_fault, first_kind, grammar_fault, capture_fault, first_violation}
use Rattle.std.specs.Option.{option_map}
use Rattle.sercos_answer.specs.Lines as answer

-- where some lines have come, it leads to lines of another kind
pub record Goes (text : List ℕ) (J : List Line → Type 0) (before : List Line) : Type 0 where
  pub after : List Line
  pub fault : (rest : List ℕ) → capture_fault before (answer.lines_of (text ++ rest)) ≡ capture_fault after (answer.lines_of rest)
  pub violation : (rest : List ℕ) → first_violation before (answer.lines_of (text ++ rest)) ≡ first_violation after (answer.lines_of rest)
  pub holds : J after

abbrev pub Leads : List ℕ → (List Line → Type 0) → (List Line → Type 0) → Type 0
Leads text I J = (before : List Line) → I before → Goes text J before

pub leads_none : (I : List Line → Type 0) → Leads [] I I
leads_none I before is = record { after = before; fault = λ rest. refl; violation = λ rest. refl; holds = is }

pub leads_both : (a b : List ℕ) (I J K : List Line → Type 0) → Leads a I J → Leads b J K → Leads (a ++ b) I K
leads_both a b I J K one two before is =
    let here = one before is in
    let there = two here.after here.holds in
    record {
      after = there.after;
      fault = λ rest. ap (λ text. capture_fault before (answer.lines_of text)) (append_assoc a b rest) ∙ here.fault (b ++ rest) ∙ there.fault rest;
      violation = λ rest. ap (λ text. first_violation before (answer.lines_of text)) (append_assoc a b rest) ∙ here.violation (b ++ rest) ∙ there.violation rest;
      holds = there.holds;
    }

pub leads_all : {X : Type 0} (f : X → List ℕ) (P : X → Type 0) (I : List Line → Type 0) → ((x : X) → P x → Leads (f x) I I) → (xs : List X) → All P xs → Leads (flat_map f xs) I I
leads_all f P I each [] all = leads_none I
leads_all f P I each (x ∷ xs) all = leads_both (f x) (flat_map f xs) I I I (each x (All-head P x xs all)) (leads_all f P I each xs (All-tail P x xs all))

-- A LINE that is read has no fault of grammar.
found_none : (kinds : List LineKind) (text : List ℕ) (k : LineKind) → first_kind kinds text ≡ Some k → kinds_fault kinds text ≡ None
unfolding first_kind kinds_fault later
found_none [] text k found = cc
found_none (one ∷ kinds) text k found = elim (cases_Option (line_fault (tail_for one) (template_of one) text)) [
  | inl none ↦ rw none
  | inr (place, some) ↦ rw some (ap (later (Some place)) (found_none kinds text k (rw some at found)))
]

grammar_none : (text : List ℕ) (l : Line) → line_in text ≡ Some l → grammar_fault text ≡ None
unfolding grammar_fault
grammar_none text l is = ap (option_map (λ (place : ℕ). place + 1)) (by (first_kind all_kinds text) refl is)
  where
    by : (o : Option LineKind) → first_kind all_kinds text ≡ o → option_map (λ (k : LineKind). line_as k text) o ≡ Some l → kinds_fault all_kinds text ≡ None
    by None found is = cc
    by (Some k) found is = found_none all_kinds text k found

fault_so : (before : List Line) (text : List ℕ) (l : Line) (texts : List (List ℕ)) → read_as text ≡ l → column_of before text ≡ None → capture_fault before (text ∷ texts) ≡ capture_fault (l ∷ before) texts
unfolding capture_fault
fault_so before text l texts is none =
    or-none (option_map (λ (column : ℕ). (length before + 1, column)) (column_of before text)) (capture_fault (read_as text ∷ before) texts) (ap (option_map (λ (column : ℕ). (length before + 1, column))) none)
    ∙ ap (λ (x : Line). capture_fault (x ∷ before) texts) is

violation_so : (before : List Line) (text : List ℕ) (l : Line) (texts : List (List ℕ)) → read_as text ≡ l → rule_broken before l ≡ None → first_violation before (text ∷ texts) ≡ first_violation (l ∷ before) texts
unfolding first_violation
violation_so before text l texts is none =
    or-none (option_map (λ (rule : ℕ). (length before + 1, rule)) (rule_broken before (read_as text))) (first_violation (read_as text ∷ before) texts)
    (ap (option_map (λ (rule : ℕ). (length before + 1, rule))) (ap (rule_broken before) is ∙ none))
    ∙ ap (λ (x : Line). first_violation (x ∷ before) texts) is

pub line_passes : TellsFollowing → (J : List Line → Type 0) (text : List ℕ) (l : Line) (before : List Line) → NoFeed text → line_in text ≡ Some l → CanFollow before l → rule_broken before l ≡ None → J (l ∷ before) → Goes (text ++ 10 ∷ []) J before
line_passes tells J text l before plain is can kept holds =
    let read = read_good text l (sym is) in
    let none = column-none before text l (grammar_none text l is) read ((tells before l).1 can) in
    record {
      after = l ∷ before;
      fault = λ rest. ap (λ all. capture_fault before (answer.lines_of all)) (append_assoc text (10 ∷ []) rest) ∙ ap (capture_fault before) (lines_of-line text rest plain) ∙ fault_so before text l (answer.lines_of rest) read none;
      violation = λ rest. ap (λ all. first_violation before (answer.lines_of all)) (append_assoc text (10 ∷ []) rest) ∙ ap (first_violation before) (lines_of-line text rest plain) ∙ violation_so before text l (answer.lines_of rest) read kept;
      holds = holds;
    }

-- a line of a kind, as it is written
abbrev pub line_for : LineKind → List Value → List ℕ → Line
line_for k values items = line_by k (numbers_in values) (signed_by (pos 0) values) (bytes_by [] values) (addresses_in (tail_for k) items)

pub with_passes : TellsFollowing → ReadsBack → (J : List Line → Type 0) (k : LineKind) (values : List Value) (items : List ℕ) (l : Line) (before : List Line) → AreOf (template_of k) values → IsTail (tail_for k) items
    → line_for k values items ≡ l → CanFollow before l → rule_broken before l ≡ None → J (l ∷ before) → Goes (line_with k values items) J before
with_passes tells law J k values items l before are tail is can kept holds =
    line_passes tells J (line_text (template_of k) values ++ tail_text (tail_for k) items) l before
    (NoFeed-append (line_text (template_of k) values) (tail_text (tail_for k) items) (line_no_feed (template_of k) values (template_no_feed k)) (tail_no_feed (tail_for k) items))
    (law k values items are tail ∙ ap Some is) can kept holds

-- a line without a tail
pub of_passes : TellsFollowing → ReadsBack → (J : List Line → Type 0) (k : LineKind) (values : List Value) (l : Line) (before : List Line) → AreOf (template_of k) values → IsTail (tail_for k) [] → tail_text (tail_for k) [] ≡ []
    → line_for k values [] ≡ l → CanFollow before l → rule_broken before l ≡ None → J (l ∷ before) → Goes (line_of k values) J before
of_passes tells law J k values l before are tail none is can kept holds =
    line_passes tells J (line_text (template_of k) values) l before (line_no_feed (template_of k) values (template_no_feed k))
    (ap line_in (sym (append-nil (line_text (template_of k) values)) ∙ ap (λ (t : List ℕ). line_text (template_of k) values ++ t) (sym none)) ∙ law k values [] are tail ∙ ap Some is) can kept holds
