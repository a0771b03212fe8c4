-- Line feeds: a line of a template has none within it.
use Rattle.std.proofs.Common.{◌≡◌, ℕ, ℤ, pos, negsuc, zero, suc, ◌+◌, ◌/◌, ◌%◌, ◌≤◌, Bool, true, false, not, ◌&&◌, ◌==◌, nat_lt, if◌then◌else◌, List, [], ◌∷◌, ◌++◌, length, slice_index, decimal, Option, Some, None, refl, sym, ap, subst, ◌∙◌, arith}
use Rattle.std.specs.List.{after_first, list_all, position_or_len}
use Rattle.std.specs.Fmt.{digits, digits_onto, digit_glyph, signed_decimal}
use Rattle.std.proofs.lemmas.Bool.Decides.{nat_tests}
use Rattle.sercos_answer.proofs.CutLemmas.{after_first-more}
use Rattle.hex.specs.Hex.{encode_with, lower_digits}
use Rattle.sercos_idn.specs.Idns.{idn_text, set_of, number_of, four_digits}
use Rattle.sercos_text.specs.declared.list.Item.{Item}
use Rattle.sercos_text.specs.declared.list.Item.TheVariants.{Address, Ident}
use Rattle.sercos_text.specs.declared.tail.Tail.{Tail}
use Rattle.sercos_text.specs.declared.tail.Tail.TheVariants as tail
use Rattle.sercos_text.specs.declared.template.Field.{Field}
use Rattle.sercos_text.specs.Lists.{item_text, list_text}
use Rattle.sercos_text.specs.Tails.{tail_text, idents_text}
use Rattle.sercos_text.specs.Templates.{Value, field_of, hex_text, value_text, part_text, part_left, line_text}
use Rattle.sercos_text.specs.Templates.Value.{number, signed, bytes, ident}
use Rattle.sercos_answer.specs.Lines.{lines_of}
use Rattle.sercos_trace.specs.declared.kind.LineKind.{LineKind}
use Rattle.sercos_trace.specs.declared.kind.LineKind.TheVariants as kind
use Rattle.sercos_trace.specs.Kinds.{template_of}
use Rattle.sercos_trace.specs.Marked.{NoFeed, is_feed}

pub NoFeed-from : (text : List ℕ) → list_all (λ byte. not (byte == 10)) text ≡ true → NoFeed text
NoFeed-from [] all = tt
NoFeed-from (byte ∷ text) all = by (byte == 10) refl all (NoFeed-from text)
  where
    by : (feed : Bool) → (byte == 10) ≡ feed → (not feed && list_all (λ byte. not (byte == 10)) text) ≡ true → (list_all (λ byte. not (byte == 10)) text ≡ true → NoFeed text) → ((byte == 10) ≡ false) × NoFeed text
    by true is all later = absurd (cc)
    by false is all later = (is, later all)

pub NoFeed-append : (a b : List ℕ) → NoFeed a → NoFeed b → NoFeed (a ++ b)
NoFeed-append [] b none more = more
NoFeed-append (byte ∷ a) b none more = (none.0, NoFeed-append a b none.1 more)

-- a line is cut off the text before the rest
pub lines_of-line : (line rest : List ℕ) → NoFeed line → lines_of (line ++ 10 ∷ rest) ≡ line ∷ lines_of rest
unfolding lines_of
lines_of-line [] rest none = refl
lines_of-line (byte ∷ line) rest none = rw (none.0, lines_of-line line rest none.1) refl

digit_no_feed : (d : ℕ) → (digit_glyph false d == 10) ≡ false
digit_no_feed d = by (nat_lt d 10)
  where
    by : (b : Bool) → ((if b then 48 + d else 87 + d) == 10) ≡ false
    by true = grind (arith, nat_tests)
    by false = grind (arith, nat_tests)

digits_no_feed : (k n : ℕ) (acc : List ℕ) → NoFeed acc → NoFeed (digits_onto k 10 false n acc)
digits_no_feed zero n acc none = none
digits_no_feed (suc k) n acc none = by (n / 10 == 0) (digits_no_feed k (n / 10) (digit_glyph false (n % 10) ∷ acc) (digit_no_feed (n % 10), none))
  where
    by : (b : Bool) → NoFeed (digits_onto k 10 false (n / 10) (digit_glyph false (n % 10) ∷ acc)) → NoFeed (if b then digit_glyph false (n % 10) ∷ acc else digits_onto k 10 false (n / 10) (digit_glyph false (n % 10) ∷ acc))
    by true later = (digit_no_feed (n % 10), none)
    by false later = later

pub decimal_no_feed : (n : ℕ) → NoFeed (decimal n)
unfolding digits
decimal_no_feed n = digits_no_feed 64 n [] tt

signed_no_feed : (z : ℤ) → NoFeed (signed_decimal z)
signed_no_feed (pos n) = decimal_no_feed n
signed_no_feed (negsuc n) = (refl, decimal_no_feed (suc n))

-- a byte of a table without a line feed, or the byte 0 past its end
entry_no_feed : (table : List ℕ) (i : ℕ) → NoFeed table → (slice_index table i == 10) ≡ false
entry_no_feed [] i none = refl
entry_no_feed (byte ∷ table) zero none = none.0
entry_no_feed (byte ∷ table) (suc i) none = entry_no_feed table i none.1

hex_no_feed : (list : List ℕ) → NoFeed (encode_with lower_digits list)
unfolding encode_with
hex_no_feed [] = tt
hex_no_feed (byte ∷ list) = (entry_no_feed lower_digits (byte / 16) table, (entry_no_feed lower_digits (byte % 16) table, hex_no_feed list))
  where
    table : NoFeed lower_digits
    table = NoFeed-from lower_digits refl

hex_text_no_feed : (list : List ℕ) → NoFeed (hex_text list)
unfolding hex_text
hex_text_no_feed [] = (refl, tt)
hex_text_no_feed (byte ∷ list) = hex_no_feed (byte ∷ list)

above_no_feed : (n : ℕ) → (48 + n == 10) ≡ false
above_no_feed n = grind (arith, nat_tests)

letter_no_feed : (b : Bool) → ((if b then 83 else 80) == 10) ≡ false
letter_no_feed true = refl
letter_no_feed false = refl

idn_no_feed : (raw : ℕ) → NoFeed (idn_text raw)
unfolding idn_text four_digits
idn_no_feed raw = (
  letter_no_feed (nat_lt raw 32768),
  (
    refl,
    (
      above_no_feed (set_of raw),
      (
        refl,
        (
          above_no_feed (number_of raw / 1000),
          (
            above_no_feed (number_of raw / 100 % 10),
            (above_no_feed (number_of raw / 10 % 10), (above_no_feed (number_of raw % 10), tt)),
          ),
        ),
      ),
    ),
  ),
)

item_no_feed : (item : Item) (value : ℕ) → NoFeed (item_text item value)
unfolding item_text
item_no_feed Address value = decimal_no_feed value
item_no_feed Ident raw = idn_no_feed raw

pub list_no_feed : (item : Item) (values : List ℕ) → NoFeed (list_text item values)
unfolding list_text
list_no_feed item [] = tt
list_no_feed item (value ∷ values) = (refl, NoFeed-append (item_text item value) (list_text item values) (item_no_feed item value) (list_no_feed item values))

pub idents_no_feed : (raws : List ℕ) → NoFeed (idents_text raws)
unfolding idents_text
idents_no_feed [] = (refl, (refl, tt))
idents_no_feed (raw ∷ raws) = list_no_feed Ident (raw ∷ raws)

pub tail_no_feed : (kind : Tail) (items : List ℕ) → NoFeed (tail_text kind items)
unfolding tail_text
tail_no_feed tail.End items = tt
tail_no_feed tail.Addresses items = list_no_feed Address items
tail_no_feed tail.Idents items = idents_no_feed items

value_no_feed : (value : Value) → NoFeed (value_text value)
unfolding value_text
value_no_feed (number n) = decimal_no_feed n
value_no_feed (signed z) = signed_no_feed z
value_no_feed (bytes list) = hex_text_no_feed list
value_no_feed (ident raw) = item_no_feed Ident raw

part_no_feed : (field : Option Field) (letter : ℕ) (values : List Value) → (letter == 10) ≡ false → NoFeed (part_text field letter values)
unfolding part_text
part_no_feed None letter values none = (none, tt)
part_no_feed (Some field) letter [] none = tt
part_no_feed (Some field) letter (value ∷ values) none = value_no_feed value

pub line_no_feed : (template : List ℕ) (values : List Value) → NoFeed template → NoFeed (line_text template values)
unfolding line_text
line_no_feed [] values none = tt
line_no_feed (letter ∷ template) values none =
    NoFeed-append (part_text (field_of letter) letter values) (line_text template (part_left (field_of letter) values)) (part_no_feed (field_of letter) letter values none.0) (line_no_feed template (part_left (field_of letter) values) none.1)

-- no template has a line feed
pub template_no_feed : (k : LineKind) → NoFeed (template_of k)
unfolding template_of
template_no_feed kind.Version = NoFeed-from (template_of kind.Version) refl
template_no_feed kind.Ring = NoFeed-from (template_of kind.Ring) refl
template_no_feed kind.Drive = NoFeed-from (template_of kind.Drive) refl
template_no_feed kind.Order = NoFeed-from (template_of kind.Order) refl
template_no_feed kind.Mst = NoFeed-from (template_of kind.Mst) refl
template_no_feed kind.Phase = NoFeed-from (template_of kind.Phase) refl
template_no_feed kind.At = NoFeed-from (template_of kind.At) refl
template_no_feed kind.Mdt = NoFeed-from (template_of kind.Mdt) refl
template_no_feed kind.Complete = NoFeed-from (template_of kind.Complete) refl
template_no_feed kind.Refused = NoFeed-from (template_of kind.Refused) refl
template_no_feed kind.Broken = NoFeed-from (template_of kind.Broken) refl
template_no_feed kind.Plan = NoFeed-from (template_of kind.Plan) refl
template_no_feed kind.Slot = NoFeed-from (template_of kind.Slot) refl
template_no_feed kind.NoFit = NoFeed-from (template_of kind.NoFit) refl
template_no_feed kind.RuleAt = NoFeed-from (template_of kind.RuleAt) refl
template_no_feed kind.RuleSum = NoFeed-from (template_of kind.RuleSum) refl
template_no_feed kind.StopRefused = NoFeed-from (template_of kind.StopRefused) refl
template_no_feed kind.StopConfig = NoFeed-from (template_of kind.StopConfig) refl
template_no_feed kind.Check127 = NoFeed-from (template_of kind.Check127) refl
template_no_feed kind.Check128 = NoFeed-from (template_of kind.Check128) refl
template_no_feed kind.FallMst = NoFeed-from (template_of kind.FallMst) refl
template_no_feed kind.FallAt = NoFeed-from (template_of kind.FallAt) refl
template_no_feed kind.FallStep = NoFeed-from (template_of kind.FallStep) refl
template_no_feed kind.FallRestart = NoFeed-from (template_of kind.FallRestart) refl
template_no_feed kind.End = NoFeed-from (template_of kind.End) refl

-- a template that was filled in
pub filled_no_feed : (k : LineKind) (values : List Value) (template old new : List ℕ) → template ≡ template_of k → old ≡ [] → new ≡ old ++ line_text template values → NoFeed new
filled_no_feed k values template old new is none filled =
    subst NoFeed (sym (filled ∙ ap (λ (t : List ℕ). t ++ line_text template values) none ∙ ap (λ (t : List ℕ). line_text t values) is))
    (line_no_feed (template_of k) values (template_no_feed k))

-- the text after the first line feed
pub after_feed : (byte : ℕ) (text : List ℕ) → is_feed byte ≡ true → after_first is_feed (byte ∷ text) ≡ text
after_feed byte text e = rw e refl

pub after_short : (text : List ℕ) → length (after_first is_feed text) ≤ length text
after_short [] = omega arith
after_short (byte ∷ text) = by (is_feed byte) refl (after_short text)
  where
    by : (feed : Bool) → is_feed byte ≡ feed → length (after_first is_feed text) ≤ length text → length (after_first is_feed (byte ∷ text)) ≤ length (byte ∷ text)
    by true e rest = rw (after_feed byte text e) (omega arith)
    by false e rest = rw (after_first-more byte text e) (omega (arith, rest))
