-- A line of `show` has no fault exactly where it is `KIND COUNT HEX` of some bits, and it gives these.
use Rattle.std.proofs.Common.{◌≡◌, ℕ, suc, ◌+◌, ◌<◌, ◌≤◌, Bool, true, false, not, cond, ◌==◌, inl, inr, nat_eq, List, [], ◌∷◌, ◌++◌, length, drop, get_or, Option, Some, None, refl, sym, ap, ◌∙◌, arith, codes, decimal, append_assoc, length-append}
use Rattle.std.specs.Bool.{then_some}
use Rattle.std.specs.List.{common_prefix_len, find}
use Rattle.std.proofs.lemmas.Bool.{cases_lt}
use Rattle.std.proofs.lemmas.Bool.Decides.{nat_tests}
use Rattle.std.proofs.lemmas.List.{get_or_past, get_or_at, drop_more, drop_at}
use Rattle.sercos_show.specs.Line.{kind_text, shared_with, kind_of, fault_by, bits_by, count_fault, count_text, hex_text, hex_fault, hex_bits, numbers_fault, numbers_bits, line_fault, line_bits}
use Rattle.sercos_text.specs.Fields.{number_len, number_of, number_fault}
use Rattle.sercos_show.specs.declared.line.LineKind.{LineKind}
use Rattle.sercos_show.specs.declared.line.LineKind.TheVariants.{Raw, Mst, Single, At}
use Rattle.std.proofs.Math.Seq.{drop-append_seam}
use Rattle.std.proofs.lemmas.Option.{same_Some}
use Rattle.sercos_show.specs.SpelledLine.{IsLine}
use Rattle.sercos_show.proofs.LineLemmas.{common_prefix_len-nil}
use Rattle.sercos_model.proofs.FaultLemmas.{none_of-or, none_of-then, none_of-map}
use Rattle.sercos_text.proofs.ValueLaws.{IsGood, IsGood-number_fault, number_fault-IsGood, number_spelled, reads_number}
use Rattle.sercos_show.proofs.HexLines.{IsHexOf-hex_fault, hex_fault-IsHexOf}

-- the kind

shared_step : (c byte shared wanted : ℕ) → suc wanted ≤ cond (nat_eq c byte) (1 + shared) 0 → (c ≡ byte) × (wanted ≤ shared)
shared_step c byte shared wanted all = (grind (arith, nat_tests), grind (arith, nat_tests))

pub shared_all : (line kind : List ℕ) → length kind ≤ common_prefix_len nat_eq line kind → line ≡ kind ++ drop (length kind) line
shared_all line [] all = refl
shared_all [] (byte ∷ kind) all = absurd (omega arith)
shared_all (c ∷ line) (byte ∷ kind) all =
    let step = shared_step c byte (common_prefix_len nat_eq line kind) (length kind) all in
    rw (step.0) (ap (λ rest. byte ∷ rest) (shared_all line kind step.1))

-- COUNT and the space after it, without a fault
pub record IsGoodCount (text : List ℕ) : Type 0 where
  pub number : IsGood 19696 text
  pub space : get_or text (number_len text) 0 ≡ 32

pub IsGoodCount-count_fault : (text : List ℕ) → count_fault text ≡ None → IsGoodCount text
unfolding count_fault
IsGoodCount-count_fault text none =
    let digits : ℕ = number_len text in
    let is = none_of-or (number_fault 19696 text) (then_some (not (get_or text digits 0 == 32)) digits) none in
    record { number = IsGood-number_fault 19696 text is.0; space = is_space (get_or text digits 0) (none_of-then _ digits is.1) }
  where
    is_space : (byte : ℕ) → not (byte == 32) ≡ false → byte ≡ 32
    is_space byte fails = grind (arith, nat_tests)

count_fault-IsGoodCount : (text : List ℕ) → IsGoodCount text → count_fault text ≡ None
unfolding count_fault
count_fault-IsGoodCount text good = rw (number_fault-IsGood 19696 text good.number, good.space) refl

pub inside_text : (text : List ℕ) (place : ℕ) → get_or text place 0 ≡ 32 → place < length text
inside_text text place space = elim (cases_lt place (length text)) [
  | inl inside ↦ inside
  | inr past ↦ absurd (omega (arith, get_or_past text place 0 past, space))
]

pub text_of_count : (text : List ℕ) → IsGoodCount text → text ≡ decimal (number_of text) ++ codes " " ++ hex_text text
text_of_count text good =
    let digits : ℕ = number_len text in
    let rest : drop digits text ≡ codes " " ++ hex_text text = drop_more text digits 0 (inside_text text digits good.space) ∙ ap (λ byte. byte ∷ hex_text text) good.space in
    number_spelled 19696 text (omega arith) good.number ∙ ap (λ more. decimal (number_of text) ++ more) rest ∙ sym (append_assoc (decimal (number_of text)) (codes " ") (hex_text text))

-- what COUNT, a space and HEX are read as
pub record ReadsCount (text : List ℕ) (count : ℕ) (hex : List ℕ) : Type 0 where
  pub good : IsGoodCount text
  pub number : number_of text ≡ count
  pub rest : hex_text text ≡ hex

pub reads_count : (count : ℕ) (hex : List ℕ) → count ≤ 19696 → ReadsCount (decimal count ++ codes " " ++ hex) count hex
reads_count count hex most =
    let front : List ℕ = decimal count in
    let reads = reads_number count (32 ∷ hex) (omega arith) refl in
    let rest : hex_text (front ++ 32 ∷ hex) ≡ hex = rw (reads.len, ← append_assoc front (codes " ") hex) (drop_at (front ++ codes " ") hex (length front + 1) (length-append front (codes " "))) in
    rw (append_assoc front (codes " ") hex) (record {
      good = record {
        number = record { some = reads.some; lead = reads.lead; most_is = omega (arith, reads.number) };
        space = rw reads.len (get_or_at front 32 hex 0 (length front) refl);
      };
      number = reads.number;
      rest = rest;
    })

-- what is found passes
found_passes : {A : Type 0} (p : A → Bool) (y : A) (xs : List A) (x : A) (test : Bool) → p y ≡ test → cond test (Some y) (find p xs) ≡ Some x → (find p xs ≡ Some x → p x ≡ true) → p x ≡ true
found_passes p y xs x true is found rest = let same : y ≡ x = same_Some _ _ found in rw (← same) is
found_passes p y xs x false is found rest = rest found

find_passes : {A : Type 0} (p : A → Bool) (xs : List A) (x : A) → find p xs ≡ Some x → p x ≡ true
find_passes p [] x found = absurd (cc)
find_passes p (y ∷ xs) x found = found_passes p y xs x (p y) refl found (λ rest. find_passes p xs x rest)

-- the kind that a line is of
pub kind_found : (line : List ℕ) (kind : LineKind) → kind_of line ≡ Some kind → length (kind_text kind) ≤ shared_with line kind
unfolding kind_of
kind_found line kind found = grind (arith, nat_tests, find_passes (λ kind. shared_with line kind == length (kind_text kind)) (Raw ∷ Mst ∷ Single ∷ At ∷ []) kind found)

-- a line of a kind is of that kind
pub kind_taken : (kind : LineKind) (text : List ℕ) → kind_of (kind_text kind ++ text) ≡ Some kind
unfolding kind_of
kind_taken Raw text = rw (common_prefix_len-nil text) refl
kind_taken Mst text = rw (common_prefix_len-nil text) refl
kind_taken Single text = rw (common_prefix_len-nil text) refl
kind_taken At text = rw (common_prefix_len-nil text) refl

pub numbers_taken : (text : List ℕ) (count : ℕ) (hex : List ℕ) → ReadsCount text count hex → hex_fault count hex ≡ None → (numbers_fault text ≡ None) × (numbers_bits text ≡ hex_bits count hex)
unfolding numbers_fault numbers_bits
numbers_taken text count hex reads none =
    (rw (count_fault-IsGoodCount text reads.good, reads.number, reads.rest, none) refl, rw (reads.number, reads.rest) refl)

regrouped : (kind count space hex : List ℕ) → kind ++ (count ++ space ++ hex) ≡ kind ++ count ++ space ++ hex
regrouped kind count space hex = simp append_assoc refl

-- a line of a kind whose numbers have no fault spells the bits that it gives
numbers_spelled : (kind : LineKind) (line : List ℕ) → length (kind_text kind) ≤ shared_with line kind → numbers_fault (count_text kind line) ≡ None → IsLine kind line (numbers_bits (count_text kind line))
unfolding numbers_fault numbers_bits
numbers_spelled kind line shared none =
    let text : List ℕ = count_text kind line in
    let text_is = none_of-or (count_fault text) _ none in
    let whole = shared_all line (kind_text kind) shared in
    let count = IsGoodCount-count_fault text text_is.0 in
    let hex = IsHexOf-hex_fault (number_of text) (hex_text text) (none_of-map _ (hex_fault (number_of text) (hex_text text)) text_is.1) in
    record {
      fits = omega (arith, hex.1, count.number.most_is);
      hex = hex_text text;
      spelled = hex.0;
      whole = rw (hex.1) (whole ∙ ap (λ rest. kind_text kind ++ rest) (text_of_count text count) ∙ regrouped (kind_text kind) (decimal (number_of text)) (codes " ") (hex_text text));
    }

spelled_by : (line : List ℕ) (found : Option LineKind) → kind_of line ≡ found → fault_by found line ≡ None → (kind : LineKind) × (kind_of line ≡ Some kind) × IsLine kind line (bits_by found line)
unfolding fault_by bits_by
spelled_by line None is none = absurd (cc)
spelled_by line (Some kind) is none =
    (kind, is, numbers_spelled kind line (kind_found line kind is) (none_of-map _ (numbers_fault (count_text kind line)) none))

-- a line without a fault spells the bits that it gives
pub line_spelled : (line : List ℕ) → line_fault line ≡ None → (kind : LineKind) × (kind_of line ≡ Some kind) × IsLine kind line (line_bits line)
unfolding line_fault line_bits
line_spelled line none = spelled_by line (kind_of line) refl none

-- what spells bits has no fault, and gives them
pub line_taken : (kind : LineKind) (line : List ℕ) (bits : List Bool) → IsLine kind line bits → (line_fault line ≡ None) × (kind_of line ≡ Some kind) × (line_bits line ≡ bits)
unfolding line_fault line_bits fault_by bits_by
line_taken kind line bits is =
    let text : List ℕ = decimal (length bits) ++ codes " " ++ is.hex in
    let hex = hex_fault-IsHexOf is.hex bits is.spelled in
    let numbers = numbers_taken text (length bits) is.hex (reads_count (length bits) is.hex is.fits) hex.0 in
    let whole : line ≡ kind_text kind ++ text = is.whole ∙ sym (regrouped (kind_text kind) (decimal (length bits)) (codes " ") is.hex) in
    let kind_is : kind_of (kind_text kind ++ text) ≡ Some kind = kind_taken kind text in
    let rest : count_text kind (kind_text kind ++ text) ≡ text = drop-append_seam (kind_text kind) text in
    rw whole (rw (kind_is, rest, numbers.0) refl, kind_is, rw (kind_is, rest) (numbers.1 ∙ hex.1))
