-- No text is a line of two kinds, so a line that is written is read back as its kind.
use Rattle.std.proofs.Common.{◌≡◌, ℕ, ◌==◌, ◌&&◌, not, nat_lt, cond, Bool, true, false, List, [], ◌∷◌, ◌++◌, length, slice_index, take, drop, Option, Some, None, is_none, refl, sym, ap, ◌∙◌, arith}
use Rattle.std.specs.List.{list_all}
use Rattle.std.specs.Prelude.{pos, option_map}
use Rattle.std.proofs.lemmas.Bool.{and_parts}
use Rattle.std.proofs.lemmas.Bool.Decides.{nat_tests}
use Rattle.sercos_model.proofs.FaultLemmas.{none_of-or, none_of-then, none_of-map}
use Rattle.sercos_text.specs.declared.tail.Tail.{Tail}
use Rattle.sercos_text.specs.Tails.{tail_text, addresses_in, IsTail}
use Rattle.sercos_text.specs.Templates.{field_of, byte_fault, part_fault, part_len, line_fault, line_text, Value, AreOf, IsLine, is_template, values_of, items_of, numbers_in, signed_by, bytes_by}
use Rattle.sercos_trace.specs.declared.kind.LineKind.{LineKind}
use Rattle.sercos_trace.specs.declared.kind.LineKind.TheVariants as kind
use Rattle.sercos_trace.specs.Kinds.{template_of, tail_for, all_kinds, first_kind}
use Rattle.sercos_trace.specs.Lines.{line_by, line_as, line_in}
use Rattle.sercos_trace.proofs.KindLemmas.{templates}

-- two templates have the same letters up to a place where both have a byte of their own
unfoldable are_apart : List ℕ → List ℕ → Bool
are_apart (a ∷ s) (b ∷ t) = cond (a == b) (are_apart s t) (is_none (field_of a) && is_none (field_of b))
are_apart _ _ = false

byte_at : (letter : ℕ) (text : List ℕ) → part_fault None letter text ≡ None → slice_index text 0 ≡ letter
unfolding part_fault byte_fault
byte_at letter text none = same (slice_index text 0) (length text) (none_of-then (not (nat_lt 0 (length text) && (slice_index text 0 == letter))) 0 none)
  where
    same : (c len : ℕ) → not (nat_lt 0 len && (c == letter)) ≡ false → c ≡ letter
    same c len fails = grind (arith, nat_tests)

is_plain : {A : Type 0} (o : Option A) → is_none o ≡ true → o ≡ None
is_plain None is = refl
is_plain (Some x) is = cc

-- so no text is a line of both
apart : (tail other : Tail) (s t text : List ℕ) → are_apart s t ≡ true → line_fault tail s text ≡ None → line_fault other t text ≡ None → ⊥
unfolding are_apart line_fault
apart tail other [] t text are none also = cc
apart tail other (a ∷ s) [] text are none also = cc
apart tail other (a ∷ s) (b ∷ t) text are none also =
    let here = none_of-or (part_fault (field_of a) a text) _ none in
    let there = none_of-or (part_fault (field_of b) b text) _ also in
    let rest = none_of-map _ (line_fault tail s (drop (part_len (field_of a) text) text)) here.1 in
    let others = none_of-map _ (line_fault other t (drop (part_len (field_of b) text) text)) there.1 in
    by (a == b) refl are here.0 there.0 rest others (λ x same one two. apart tail other s t x same one two)
  where
    same : (a == b) ≡ true → a ≡ b
    same is = grind (arith, nat_tests)

    differ : (a == b) ≡ false → a ≡ b → ⊥
    differ is e = grind (arith, nat_tests)

    by : (test : Bool) → (a == b) ≡ test → cond test (are_apart s t) (is_none (field_of a) && is_none (field_of b)) ≡ true
        → part_fault (field_of a) a text ≡ None → part_fault (field_of b) b text ≡ None
        → line_fault tail s (drop (part_len (field_of a) text) text) ≡ None → line_fault other t (drop (part_len (field_of b) text) text) ≡ None
        → ((x : List ℕ) → are_apart s t ≡ true → line_fault tail s x ≡ None → line_fault other t x ≡ None → ⊥) → ⊥
    by true is are one two rest others left = left (drop (part_len (field_of b) text) text) are (rw (same is) at rest) others
    by false is are one two rest others left =
        let plain = and_parts (is_none (field_of a)) (is_none (field_of b)) are in
        let first = byte_at a text (rw (is_plain (field_of a) plain.0) at one) in
        let second = byte_at b text (rw (is_plain (field_of b) plain.1) at two) in
        differ is (sym first ∙ second)

-- a kind that is apart from all kinds before it is the first of a line of it
first_by : (k kind : LineKind) (text : List ℕ) (o : Option ℕ) (rest : Option LineKind) → line_fault (tail_for k) (template_of k) text ≡ o → are_apart (template_of k) (template_of kind) ≡ true
    → line_fault (tail_for kind) (template_of kind) text ≡ None → rest ≡ Some kind → cond (is_none o) (Some k) rest ≡ Some kind
first_by k kind text None rest is are none next = absurd (apart (tail_for k) (tail_for kind) (template_of k) (template_of kind) text are is none)
first_by k kind text (Some place) rest is are none next = next

first_after : (before : List LineKind) (kind : LineKind) (rest : List LineKind) (text : List ℕ) → list_all (λ k. are_apart (template_of k) (template_of kind)) before ≡ true
    → line_fault (tail_for kind) (template_of kind) text ≡ None → first_kind (before ++ kind ∷ rest) text ≡ Some kind
unfolding first_kind
first_after [] kind rest text are none = rw none refl
first_after (k ∷ before) kind rest text are none =
    let (here, others) = and_parts (are_apart (template_of k) (template_of kind)) (list_all (λ k. are_apart (template_of k) (template_of kind)) before) are in
    first_by k kind text (line_fault (tail_for k) (template_of k) text) _ refl here none (first_after before kind rest text others none)

pub first_of : (kind : LineKind) (text : List ℕ) → line_fault (tail_for kind) (template_of kind) text ≡ None → first_kind all_kinds text ≡ Some kind
unfolding are_apart template_of field_of
first_of kind.At text none = first_after (take 0 all_kinds) kind.At (drop 1 all_kinds) text refl none
first_of kind.Mst text none = first_after (take 1 all_kinds) kind.Mst (drop 2 all_kinds) text refl none
first_of kind.Mdt text none = first_after (take 2 all_kinds) kind.Mdt (drop 3 all_kinds) text refl none
first_of kind.Version text none = first_after (take 3 all_kinds) kind.Version (drop 4 all_kinds) text refl none
first_of kind.Ring text none = first_after (take 4 all_kinds) kind.Ring (drop 5 all_kinds) text refl none
first_of kind.Drive text none = first_after (take 5 all_kinds) kind.Drive (drop 6 all_kinds) text refl none
first_of kind.Order text none = first_after (take 6 all_kinds) kind.Order (drop 7 all_kinds) text refl none
first_of kind.Phase text none = first_after (take 7 all_kinds) kind.Phase (drop 8 all_kinds) text refl none
first_of kind.Complete text none = first_after (take 8 all_kinds) kind.Complete (drop 9 all_kinds) text refl none
first_of kind.Refused text none = first_after (take 9 all_kinds) kind.Refused (drop 10 all_kinds) text refl none
first_of kind.Broken text none = first_after (take 10 all_kinds) kind.Broken (drop 11 all_kinds) text refl none
first_of kind.Plan text none = first_after (take 11 all_kinds) kind.Plan (drop 12 all_kinds) text refl none
first_of kind.Slot text none = first_after (take 12 all_kinds) kind.Slot (drop 13 all_kinds) text refl none
first_of kind.NoFit text none = first_after (take 13 all_kinds) kind.NoFit (drop 14 all_kinds) text refl none
first_of kind.RuleAt text none = first_after (take 14 all_kinds) kind.RuleAt (drop 15 all_kinds) text refl none
first_of kind.RuleSum text none = first_after (take 15 all_kinds) kind.RuleSum (drop 16 all_kinds) text refl none
first_of kind.StopRefused text none = first_after (take 16 all_kinds) kind.StopRefused (drop 17 all_kinds) text refl none
first_of kind.StopConfig text none = first_after (take 17 all_kinds) kind.StopConfig (drop 18 all_kinds) text refl none
first_of kind.Check127 text none = first_after (take 18 all_kinds) kind.Check127 (drop 19 all_kinds) text refl none
first_of kind.Check128 text none = first_after (take 19 all_kinds) kind.Check128 (drop 20 all_kinds) text refl none
first_of kind.FallMst text none = first_after (take 20 all_kinds) kind.FallMst (drop 21 all_kinds) text refl none
first_of kind.FallAt text none = first_after (take 21 all_kinds) kind.FallAt (drop 22 all_kinds) text refl none
first_of kind.FallStep text none = first_after (take 22 all_kinds) kind.FallStep (drop 23 all_kinds) text refl none
first_of kind.FallRestart text none = first_after (take 23 all_kinds) kind.FallRestart (drop 24 all_kinds) text refl none
first_of kind.End text none = first_after (take 24 all_kinds) kind.End (drop 25 all_kinds) text refl none

-- the laws on lines of a template, as the crate of templates states them
pub record LineLaws : Type 0 where
  pub taken : (tail : Tail) (template line items : List ℕ) (values : List Value) → is_template template ≡ true → IsLine tail template values items line → line_fault tail template line ≡ None
  pub values : (tail : Tail) (template line items : List ℕ) (values : List Value) → is_template template ≡ true → IsLine tail template values items line → values_of template line ≡ values
  pub items : (tail : Tail) (template line items : List ℕ) (values : List Value) → is_template template ≡ true → IsLine tail template values items line → items_of tail template line ≡ items
  pub written : (tail : Tail) (template items : List ℕ) (values : List Value) → AreOf template values → IsTail tail items → IsLine tail template values items (line_text template values ++ tail_text tail items)

pub read_back : LineLaws → (kind : LineKind) (values : List Value) (items : List ℕ) → AreOf (template_of kind) values → IsTail (tail_for kind) items
    → line_in (line_text (template_of kind) values ++ tail_text (tail_for kind) items)
    ≡ Some (line_by kind (numbers_in values) (signed_by (pos 0) values) (bytes_by [] values) (addresses_in (tail_for kind) items))
read_back laws kind values items are listed =
    let text : List ℕ = line_text (template_of kind) values ++ tail_text (tail_for kind) items in
    let is = laws.written (tail_for kind) (template_of kind) items values are listed in
    let none = laws.taken (tail_for kind) (template_of kind) text items values (templates kind) is in
    let given = laws.values (tail_for kind) (template_of kind) text items values (templates kind) is in
    let kept = laws.items (tail_for kind) (template_of kind) text items values (templates kind) is in
    ap (option_map (λ (k : LineKind). line_as k text)) (first_of kind text none) ∙ rw (given, kept) refl
