-- The contents of a line of a trace, as it is read.
use Rattle.std.specs.Prelude.{◌≡◌, ℕ, ℤ, pos, ◌≤◌, ◌<◌, List, [], ◌∷◌, ◌++◌, length, slice_index, Option, Some, None, option_map}
use Rattle.sercos_telegram.specs.declared.layout.Kind.{Kind}
use Rattle.sercos_telegram.specs.declared.layout.Kind.TheVariants as telegram
use Rattle.sercos_timing.specs.declared.wishes.Wish.{Wish}
use Rattle.sercos_text.specs.declared.template.Field.{Field}
use Rattle.sercos_text.specs.declared.template.Field.TheVariants.{Number}
use Rattle.sercos_text.specs.Tails.{addresses_in, tail_text, IsTail}
use Rattle.sercos_text.specs.Templates.{field_of, Value, AreOf, line_fault, line_text, values_of, items_of, numbers_in, signed_by, bytes_by}
use Rattle.sercos_trace.specs.declared.kind.LineKind.{LineKind}
use Rattle.sercos_trace.specs.declared.kind.LineKind.TheVariants as kind
use Rattle.sercos_trace.specs.declared.reading.Line.{Line}
use Rattle.sercos_trace.specs.declared.reading.Line.TheVariants as line
use Rattle.sercos_trace.specs.Kinds.{template_of, tail_for, all_kinds, first_kind}

-- the planner's input of a drive, from the ten numbers of its line
abbrev pub wish_by : List ℕ → Wish
wish_by numbers = record {
  address = slice_index numbers 0;
  slave = slice_index numbers 1;
  times = record {
    t1min = slice_index numbers 2;
    tatmt = slice_index numbers 3;
    t4min = slice_index numbers 4;
    tatat = slice_index numbers 5;
    tmtsy = slice_index numbers 6;
    tmtsg = slice_index numbers 7;
  };
  at_len = slice_index numbers 8;
  record_len = slice_index numbers 9;
}

-- the line of a kind, from its unsigned numbers, its signed number, its bytes, and its addresses
unfoldable pub line_by : LineKind → List ℕ → ℤ → List ℕ → List ℕ → Line
line_by kind.Version numbers signed bytes addresses = line.Version
line_by kind.Ring numbers signed bytes addresses =
    line.Ring (slice_index numbers 0) (slice_index numbers 1) (slice_index numbers 2) (slice_index numbers 3) (slice_index numbers 4)
line_by kind.Drive numbers signed bytes addresses = line.Drive (wish_by numbers)
line_by kind.Order numbers signed bytes addresses = line.Order (record { items = addresses })
line_by kind.Mst numbers signed bytes addresses =
    line.Telegram (slice_index numbers 0) (record { kind = telegram.Mst; start = signed; bits = slice_index numbers 1; content = bytes })
line_by kind.At numbers signed bytes addresses =
    line.Telegram (slice_index numbers 0) (record { kind = telegram.At; start = signed; bits = slice_index numbers 1; content = bytes })
line_by kind.Mdt numbers signed bytes addresses =
    line.Telegram (slice_index numbers 0) (record { kind = telegram.Mdt; start = signed; bits = slice_index numbers 1; content = bytes })
line_by kind.End numbers signed bytes addresses = line.End
line_by _ numbers signed bytes addresses = line.Other

-- the kind of telegram that a line of this kind has, if it has one
unfoldable pub telegram_kind : LineKind → Option Kind
telegram_kind kind.Mst = Some telegram.Mst
telegram_kind kind.At = Some telegram.At
telegram_kind kind.Mdt = Some telegram.Mdt
telegram_kind _ = None

-- a text, read as a line of a kind
abbrev pub line_as : LineKind → List ℕ → Line
line_as kind text =
    line_by kind (numbers_in (values_of (template_of kind) text)) (signed_by (pos 0) (values_of (template_of kind) text))
    (bytes_by [] (values_of (template_of kind) text)) (addresses_in (tail_for kind) (items_of (tail_for kind) (template_of kind) text))

-- a text without its line feed, read as a line of a trace; none if it isn't one
abbrev pub line_in : List ℕ → Option Line
line_in text = option_map (λ kind. line_as kind text) (first_kind all_kinds text)

-- the numbers are at most these bounds, one by one
abbrev pub AreWithin : List ℕ → List ℕ → Type 0
AreWithin [] [] = Unit {0}
AreWithin (n ∷ numbers) (bound ∷ bounds) = (n ≤ bound) × AreWithin numbers bounds
AreWithin _ _ = ⊥

-- the bounds of the unsigned numbers of a template, field by field
unfoldable pub bound_by : Option Field → List ℕ
bound_by (Some (Number most)) = most ∷ []
bound_by _ = []

unfoldable pub bounds_of : List ℕ → List ℕ
bounds_of [] = []
bounds_of (letter ∷ template) = bound_by (field_of letter) ++ bounds_of template

-- there is a number at an index, and it is within a bound
abbrev pub IsNumber : List ℕ → ℕ → ℕ → Type 0
IsNumber numbers index bound = (index < length numbers) × (slice_index numbers index ≤ bound)

-- A line written from values of its kind's fields, and from items of its tail, is read back as a
-- line of that kind with these values and items.
abbrev pub ReadsBack : Type 0
ReadsBack = (kind : LineKind) (values : List Value) (items : List ℕ) → AreOf (template_of kind) values → IsTail (tail_for kind) items →
    line_in (line_text (template_of kind) values ++ tail_text (tail_for kind) items)
    ≡ Some (line_by kind (numbers_in values) (signed_by (pos 0) values) (bytes_by [] values) (addresses_in (tail_for kind) items))

-- A text that fits the template of a kind is a line of that kind, and of no other.
abbrev pub HasOneKind : Type 0
HasOneKind = (kind : LineKind) (text : List ℕ) → line_fault (tail_for kind) (template_of kind) text ≡ None →
    first_kind all_kinds text ≡ Some kind
