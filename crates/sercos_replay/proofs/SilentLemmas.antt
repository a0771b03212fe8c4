-- A line other than that of a telegram is read as no telegram.
use Rattle.std.proofs.Common.{◌≡◌, ℕ, ℤ, Bool, true, false, not, ◌&&◌, ◌==◌, nat_lt, if◌then◌else◌, List, [], ◌∷◌, ◌++◌, length, drop, slice_index, Option, Some, None, is_none, refl, ap, sym, ◌∙◌, unwrap_or}
use Rattle.std.specs.Prelude.{option_map}
use Rattle.std.proofs.lemmas.Bool.{false≢true}
use Rattle.std.specs.Bool.{then_some}
use Rattle.std.specs.Option.{option_or}
use Rattle.std.specs.List.{list_all}
use Rattle.sercos_text.specs.declared.tail.Tail.{Tail}
use Rattle.sercos_text.specs.Fields.{behind}
use Rattle.sercos_text.specs.Templates.{Value, field_of, line_fault, part_fault, part_len, byte_fault, part_text, part_left, line_text}
use Rattle.sercos_trace.specs.declared.kind.LineKind.{LineKind}
use Rattle.sercos_trace.specs.declared.kind.LineKind.TheVariants as kind
use Rattle.sercos_trace.specs.declared.reading.Line.{Line}
use Rattle.sercos_trace.specs.declared.reading.Line.TheVariants as line
use Rattle.sercos_trace.specs.Kinds.{template_of, tail_for, first_kind, all_kinds}
use Rattle.sercos_trace.specs.Lines.{line_by, line_as}
use Rattle.sercos_checking.specs.Checking.{read_as}
use Rattle.sercos_replay.specs.Captured.{telegrams}

abbrev pub is_telegram : LineKind → Bool
is_telegram kind.At = true
is_telegram kind.Mst = true
is_telegram kind.Mdt = true
is_telegram _ = false

-- what a text doesn't begin with
pub record IsOther (text : List ℕ) : Type 0 where
  pub at : (slice_index text 0 == 97) ≡ false
  pub mst : (slice_index text 0 == 109) ≡ false
  pub mdt : ((slice_index text 0 == 100) && (slice_index (drop 1 text) 0 == 32)) ≡ false

begins_other : (k : LineKind) (values : List Value) (more : List ℕ) → is_telegram k ≡ false → IsOther (line_text (template_of k) values ++ more)
unfolding template_of line_text field_of part_text part_left
begins_other kind.Version values more other = record { at = refl; mst = refl; mdt = refl }
begins_other kind.Ring values more other = record { at = refl; mst = refl; mdt = refl }
begins_other kind.Drive values more other = record { at = refl; mst = refl; mdt = refl }
begins_other kind.Order values more other = record { at = refl; mst = refl; mdt = refl }
begins_other kind.Mst values more other = absurd (false≢true (sym other))
begins_other kind.Phase values more other = record { at = refl; mst = refl; mdt = refl }
begins_other kind.At values more other = absurd (false≢true (sym other))
begins_other kind.Mdt values more other = absurd (false≢true (sym other))
begins_other kind.Complete values more other = record { at = refl; mst = refl; mdt = refl }
begins_other kind.Refused values more other = record { at = refl; mst = refl; mdt = refl }
begins_other kind.Broken values more other = record { at = refl; mst = refl; mdt = refl }
begins_other kind.Plan values more other = record { at = refl; mst = refl; mdt = refl }
begins_other kind.Slot values more other = record { at = refl; mst = refl; mdt = refl }
begins_other kind.NoFit values more other = record { at = refl; mst = refl; mdt = refl }
begins_other kind.RuleAt values more other = record { at = refl; mst = refl; mdt = refl }
begins_other kind.RuleSum values more other = record { at = refl; mst = refl; mdt = refl }
begins_other kind.StopRefused values more other = record { at = refl; mst = refl; mdt = refl }
begins_other kind.StopConfig values more other = record { at = refl; mst = refl; mdt = refl }
begins_other kind.Check127 values more other = record { at = refl; mst = refl; mdt = refl }
begins_other kind.Check128 values more other = record { at = refl; mst = refl; mdt = refl }
begins_other kind.FallMst values more other = record { at = refl; mst = refl; mdt = refl }
begins_other kind.FallAt values more other = record { at = refl; mst = refl; mdt = refl }
begins_other kind.FallStep values more other = record { at = refl; mst = refl; mdt = refl }
begins_other kind.FallRestart values more other = record { at = refl; mst = refl; mdt = refl }
begins_other kind.End values more other = record { at = refl; mst = refl; mdt = refl }

-- a text that begins otherwise isn't a line of a kind
byte_refused : (long test : Bool) → test ≡ false → is_none {T = ℕ} (then_some (not (long && test)) 0) ≡ false
byte_refused true test is = rw is refl
byte_refused false test is = refl

or_refused : (first second : Option ℕ) → is_none first ≡ false → is_none (option_or first second) ≡ false
or_refused None second is = absurd (cc)
or_refused (Some place) second is = refl

or_refused_later : (first second : Option ℕ) (bytes : ℕ) → is_none second ≡ false → is_none (option_or first (behind bytes second)) ≡ false
or_refused_later None None bytes is = absurd (cc)
or_refused_later None (Some place) bytes is = refl
or_refused_later (Some place) second bytes is = refl

refused_first : (kind : Tail) (letter : ℕ) (template text : List ℕ) → field_of letter ≡ None → (slice_index text 0 == letter) ≡ false → is_none (line_fault kind (letter ∷ template) text) ≡ false
unfolding line_fault part_fault byte_fault
refused_first kind letter template text plain differs = rw plain (or_refused _ _ (byte_refused (nat_lt 0 (length text)) (slice_index text 0 == letter) differs))

refused_second : (kind : Tail) (letter other : ℕ) (template text : List ℕ) → field_of letter ≡ None → field_of other ≡ None → (slice_index (drop 1 text) 0 == other) ≡ false
    → is_none (line_fault kind (letter ∷ other ∷ template) text) ≡ false
unfolding line_fault part_len
refused_second kind letter other template text plain plain' differs = rw plain (or_refused_later _ _ 1 (refused_first kind other template (drop 1 text) plain' differs))

-- the kind of a line of another kind isn't that of a telegram
first_other : (kinds : List LineKind) (text : List ℕ) (k : LineKind) → list_all (λ (k : LineKind). not (is_telegram k)) kinds ≡ true → first_kind kinds text ≡ Some k → is_telegram k ≡ false
unfolding first_kind
first_other [] text k none is = absurd (cc)
first_other (one ∷ kinds) text k none is = by (is_none (line_fault (tail_for one) (template_of one) text)) (is_telegram one) refl none is (λ rest later. first_other kinds text k rest later)
  where
    by : (here said : Bool) → is_telegram one ≡ said → (not said && list_all (λ (k : LineKind). not (is_telegram k)) kinds) ≡ true → (if here then Some one else first_kind kinds text) ≡ Some k
        → (list_all (λ (k : LineKind). not (is_telegram k)) kinds ≡ true → first_kind kinds text ≡ Some k → is_telegram k ≡ false) → is_telegram k ≡ false
    by here true said none is later = absurd (cc)
    by true false said none is later = let same : one ≡ k = cc in ap is_telegram (sym same) ∙ said
    by false false said none is later = later none is

other_line : (k : LineKind) (numbers : List ℕ) (start : ℤ) (list addresses : List ℕ) (before : List Line) → is_telegram k ≡ false → telegrams (line_by k numbers start list addresses ∷ before) ≡ telegrams before
unfolding line_by telegrams
other_line kind.Version numbers start list addresses before other = refl
other_line kind.Ring numbers start list addresses before other = refl
other_line kind.Drive numbers start list addresses before other = refl
other_line kind.Order numbers start list addresses before other = refl
other_line kind.Mst numbers start list addresses before other = absurd (false≢true (sym other))
other_line kind.Phase numbers start list addresses before other = refl
other_line kind.At numbers start list addresses before other = absurd (false≢true (sym other))
other_line kind.Mdt numbers start list addresses before other = absurd (false≢true (sym other))
other_line kind.Complete numbers start list addresses before other = refl
other_line kind.Refused numbers start list addresses before other = refl
other_line kind.Broken numbers start list addresses before other = refl
other_line kind.Plan numbers start list addresses before other = refl
other_line kind.Slot numbers start list addresses before other = refl
other_line kind.NoFit numbers start list addresses before other = refl
other_line kind.RuleAt numbers start list addresses before other = refl
other_line kind.RuleSum numbers start list addresses before other = refl
other_line kind.StopRefused numbers start list addresses before other = refl
other_line kind.StopConfig numbers start list addresses before other = refl
other_line kind.Check127 numbers start list addresses before other = refl
other_line kind.Check128 numbers start list addresses before other = refl
other_line kind.FallMst numbers start list addresses before other = refl
other_line kind.FallAt numbers start list addresses before other = refl
other_line kind.FallStep numbers start list addresses before other = refl
other_line kind.FallRestart numbers start list addresses before other = refl
other_line kind.End numbers start list addresses before other = refl

-- the kinds that aren't those of telegrams
abbrev others : List LineKind
others = kind.Version ∷ kind.Ring ∷ kind.Drive ∷ kind.Order ∷ kind.Phase ∷ kind.Complete ∷ kind.Refused ∷ kind.Broken ∷ kind.Plan ∷ kind.Slot ∷ kind.NoFit ∷ kind.RuleAt ∷ kind.RuleSum ∷ kind.StopRefused ∷ kind.StopConfig ∷ kind.Check127 ∷ kind.Check128 ∷ kind.FallMst ∷ kind.FallAt ∷ kind.FallStep ∷ kind.FallRestart ∷ kind.End ∷ []

-- one kind more that a line isn't of
not_this : (one : LineKind) (kinds : List LineKind) (text : List ℕ) → is_none (line_fault (tail_for one) (template_of one) text) ≡ false → first_kind (one ∷ kinds) text ≡ first_kind kinds text
unfolding first_kind
not_this one kinds text is = rw is refl

at_refused : (text : List ℕ) → IsOther text → is_none (line_fault (tail_for kind.At) (template_of kind.At) text) ≡ false
unfolding template_of field_of
at_refused text is = refused_first (tail_for kind.At) 97 _ text refl is.at

mst_refused : (text : List ℕ) → IsOther text → is_none (line_fault (tail_for kind.Mst) (template_of kind.Mst) text) ≡ false
unfolding template_of field_of
mst_refused text is = refused_first (tail_for kind.Mst) 109 _ text refl is.mst

mdt_refused : (text : List ℕ) → IsOther text → is_none (line_fault (tail_for kind.Mdt) (template_of kind.Mdt) text) ≡ false
unfolding template_of field_of
mdt_refused text is = by (slice_index text 0 == 100) refl is.mdt
  where
    by : (b : Bool) → (slice_index text 0 == 100) ≡ b → (b && (slice_index (drop 1 text) 0 == 32)) ≡ false → is_none (line_fault (tail_for kind.Mdt) (template_of kind.Mdt) text) ≡ false
    by true first second = refused_second (tail_for kind.Mdt) 100 32 _ text refl refl second
    by false first second = refused_first (tail_for kind.Mdt) 100 _ text refl first

past_telegrams : (text : List ℕ) → IsOther text → first_kind all_kinds text ≡ first_kind others text
past_telegrams text is =
    not_this kind.At (kind.Mst ∷ kind.Mdt ∷ others) text (at_refused text is)
    ∙ not_this kind.Mst (kind.Mdt ∷ others) text (mst_refused text is)
    ∙ not_this kind.Mdt others text (mdt_refused text is)

silent_as : (text : List ℕ) (found : Option LineKind) (before : List Line) → ((k : LineKind) → found ≡ Some k → is_telegram k ≡ false)
    → telegrams (unwrap_or (option_map (λ kind. line_as kind text) found) line.Other ∷ before) ≡ telegrams before
unfolding telegrams
silent_as text None before other = refl
silent_as text (Some k) before other = other_line k _ _ _ _ before (other k refl)

-- so it is read as no telegram
pub silent_text : (text : List ℕ) (before : List Line) → IsOther text → telegrams (read_as text ∷ before) ≡ telegrams before
unfolding read_as
silent_text text before is = silent_as text (first_kind all_kinds text) before (λ k found. first_other others text k refl (sym (past_telegrams text is) ∙ found))

pub silent_kind : (k : LineKind) (values : List Value) (more : List ℕ) (before : List Line) → is_telegram k ≡ false → telegrams (read_as (line_text (template_of k) values ++ more) ∷ before) ≡ telegrams before
silent_kind k values more before other = silent_text (line_text (template_of k) values ++ more) before (begins_other k values more other)
