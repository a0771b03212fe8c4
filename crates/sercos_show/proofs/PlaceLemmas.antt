-- What the place of a refused line says of it: how far a text goes on without a fault, part by part.
use Rattle.std.proofs.Common.{◌≡◌, ℕ, zero, suc, ◌+◌, ◌-◌, ◌*◌, ◌^◌, ◌<◌, ◌≤◌, ◌⊎◌, inl, inr, max, nat_eq, nat_lt, nat_le, Bool, true, false, not, cond, ◌==◌, ◌&&◌, List, [], ◌∷◌, ◌++◌, length, take, drop, get_or, replicate, Option, Some, None, refl, sym, ◌∙◌, ap, subst, arith, codes, decimal, append_assoc, length-append, length-drop}
use Rattle.std.specs.Bool.{then_some}
use Rattle.std.specs.Char.{is_ascii_digit, is_ascii_hexdigit}
use Rattle.std.specs.List.{prefix_len, common_prefix_len}
use Rattle.std.specs.Option.{option_or}
use Rattle.std.specs.Str.Parse.{digits_value}
use Rattle.std.proofs.Math.Nat.{pow-suc}
use Rattle.std.proofs.Math.Seq.{take-add, drop-append_seam, take-append_seam}
use Rattle.std.proofs.lemmas.Bool.{false≢true, cases_lt}
use Rattle.std.proofs.lemmas.Bool.Decides.{nat_tests}
use Rattle.std.proofs.lemmas.List.{get_or-take, get_or-drop, get_or_past, get_or_append_left, get_or-append_right, get_or-replicate, length-take, length-take-le, length-replicate, take-append-drop, take-take, take_at, take_all, take_more, drop-take}
use Rattle.std.proofs.lemmas.List.Sums.{prefix_len_passes, prefix_len_stops, prefix_len_is, prefix_len-le-length, common_prefix_len-le}
use Rattle.std.proofs.lemmas.Option.{same_Some}
use Rattle.sercos_text.specs.Fields.{behind, number_len, number_of, number_fault, pairs_of}
use Rattle.sercos_show.specs.declared.line.LineKind.{LineKind}
use Rattle.sercos_show.specs.declared.line.LineKind.TheVariants.{Raw, Mst, Single, At}
use Rattle.sercos_show.specs.Line.{byte_of, wanted_digits, has_spare, kind_text, shared_with, kind_of, kind_fault, fault_by, count_fault, count_text, dash_fault, digits_fault, hex_fault, hex_text, numbers_fault, line_fault, line_bits}
use Rattle.sercos_show.specs.Places.{BeginsLine, HasDigit, IsRefusedAt}
use Rattle.sercos_show.specs.Places.IsRefusedAt.{at_byte, at_end, too_large, in_pair}
use Rattle.sercos_model.proofs.FaultLemmas.{none_of-or, none_of-map, at_least}
use Rattle.sercos_text.proofs.ValueLaws.{IsGood, IsGood-number_fault, number_front}
use Rattle.sercos_show.proofs.HexLines.{AreGoodDigits-digits_fault, digits_fault-AreGoodDigits, dash_fault-dash, hex_fault-some, hex_fault-IsHexOf, small-has_spare, bytes_before}
use Rattle.sercos_show.proofs.SpelledLines.{IsGoodCount, IsGoodCount-count_fault, reads_count, numbers_taken, inside_text, shared_all, kind_taken, kind_found, line_spelled, line_taken}
use Rattle.sercos_show.proofs.WrittenLines.{written_hex}
use Rattle.hex.proofs.OnLiterals.{hex_on_literals}

either : (o rest : Option ℕ) (p : ℕ) → option_or o rest ≡ Some p → (o ≡ Some p) ⊎ ((o ≡ None) × (rest ≡ Some p))
either (Some x) rest p e = inl e
either None rest p e = inr (refl, e)

-- which rule of a chain finds a fault
then_is : (test : Bool) (x p : ℕ) → then_some test x ≡ Some p → (test ≡ true) × (x ≡ p)
then_is true x p e = (refl, same_Some _ _ e)
then_is false x p e = cc

then_not : (test : Bool) (x : ℕ) → then_some test x ≡ None → test ≡ false
then_not true x e = cc
then_not false x e = refl

behind_is : (n : ℕ) (o : Option ℕ) (p : ℕ) → behind n o ≡ Some p → (q : ℕ) × (o ≡ Some q) × (n + q ≡ p)
behind_is n (Some q) p e = (q, refl, same_Some _ _ e)
behind_is n None p e = cc

-- two texts that share their first n bytes
record Shares (n : ℕ) (text other : List ℕ) : Type 0 where
  fits : n ≤ length text
  same : take n other ≡ take n text

shares_long : {n : ℕ} {text other : List ℕ} → Shares n text other → n ≤ length other
shares_long {n} {text} {other} s = omega (arith, length-take n other, ap length s.same, length-take-le n text s.fits)

shares_at : {n : ℕ} {text other : List ℕ} → Shares n text other → (k : ℕ) → k < n → get_or other k 0 ≡ get_or text k 0
shares_at {n} {text} {other} s k low = sym (get_or-take n other k 0 low) ∙ ap (λ l. get_or l k 0) s.same ∙ get_or-take n text k 0 low

shares_less : {n : ℕ} {text other : List ℕ} → Shares n text other → (m : ℕ) → m ≤ n → Shares m text other
shares_less {n} {text} {other} s m most =
    record { fits = omega (arith, s.fits, most); same = sym (take-take m n other most) ∙ ap (take m) s.same ∙ take-take m n text most }

shares_drop : (m q : ℕ) (text other : List ℕ) → Shares (m + q) text other → Shares q (drop m text) (drop m other)
shares_drop m q text other s =
    record { fits = omega (arith, s.fits, length-drop m text); same = sym (drop-take m q other) ∙ ap (drop m) s.same ∙ drop-take m q text }

-- bytes that pass a test, and the one at which they end
ends_at : (p : ℕ → Bool) (text : List ℕ) → p 0 ≡ false → p (get_or text (prefix_len p text) 0) ≡ false
ends_at p text none = elim (cases_lt (prefix_len p text) (length text)) [
  | inl inside ↦ prefix_len_stops p text 0 inside
  | inr past ↦ ap p (get_or_past text (prefix_len p text) 0 past) ∙ none
]

same_len : (p : ℕ → Bool) (text other : List ℕ) → Shares (suc (prefix_len p text)) text other → prefix_len p other ≡ prefix_len p text
same_len p text other s =
    prefix_len_is p other (prefix_len p text) 0 (omega (arith, shares_long s))
    (λ k low. ap p (shares_at s k (omega (arith, low))) ∙ prefix_len_passes p text k 0 low)
    (λ _. ap p (shares_at s (prefix_len p text) (omega arith)) ∙ prefix_len_stops p text 0 (omega (arith, s.fits)))

clash : {b : Bool} → b ≡ true → b ≡ false → ⊥
clash is fails = false≢true (sym fails ∙ is)

first_of : (text : List ℕ) → 0 < length text → take 1 text ≡ get_or text 0 0 ∷ []
first_of [] some = absurd (omega arith)
first_of (byte ∷ text) some = refl

-- The first q bytes of a text begin one without a fault, and with the byte after them they begin none.
record Splits (fault : List ℕ → Option ℕ) (text : List ℕ) (q : ℕ) : Type 0 where
  within : q ≤ length text
  rest : List ℕ
  begins : fault (take q text ++ rest) ≡ None
  stops : (other : List ℕ) → Shares (suc q) text other → fault other ≡ None → ⊥

data Placed (fault : List ℕ → Option ℕ) (text : List ℕ) : ℕ → Type 0 where
  placed : (p : ℕ) → Splits fault text p → Placed fault text p
  later : (p : ℕ) → HasDigit text p → HasDigit text (suc p) → Splits fault text (suc p) → Placed fault text p

-- ---- HEX

positive : (x : ℕ) → 0 < 2 ^ x
positive zero = omega arith
positive (suc x) = omega (arith, pow-suc 2 x, positive x)

zeros_spare : (count : ℕ) → has_spare count (byte_of 48 48) ≡ false
unfolding byte_of pairs_of hex_on_literals
zeros_spare count = small-has_spare count 0 (positive (count - 8 * bytes_before count))

-- the first m digits, filled with zeros
abbrev filled : ℕ → List ℕ → ℕ → List ℕ
filled count text m = take m text ++ replicate (wanted_digits count - m) 48

filled_left : (count : ℕ) (text : List ℕ) (m k : ℕ) → m ≤ length text → k < m → get_or (filled count text m) k 0 ≡ get_or text k 0
filled_left count text m k fits low =
    get_or_append_left (take m text) (replicate (wanted_digits count - m) 48) 0 k (omega (arith, length-take-le m text fits, low)) ∙ get_or-take m text k 0 low

filled_right : (count : ℕ) (text : List ℕ) (m k : ℕ) → m ≤ length text → m ≤ k → k < wanted_digits count → get_or (filled count text m) k 0 ≡ 48
filled_right count text m k fits high low =
    get_or-append_right (take m text) (replicate (wanted_digits count - m) 48) m k 0 (length-take-le m text fits) high ∙ get_or-replicate (wanted_digits count - m) (k - m) 48 0 (omega (arith, high, low))

-- they have no fault if the last pair shows no bit after the last one
filled_good : (count : ℕ) (text : List ℕ) (m high low : ℕ) → 2 ≤ wanted_digits count → m ≤ prefix_len is_ascii_hexdigit text → m ≤ wanted_digits count
    → get_or (filled count text m) (wanted_digits count - 2) 0 ≡ high → get_or (filled count text m) (wanted_digits count - 2 + 1) 0 ≡ low
    → has_spare count (byte_of high 48) ≡ false → has_spare count (byte_of high low) ≡ false → digits_fault count (filled count text m) ≡ None
filled_good count text m high low two digits most high_is low_is least last =
    digits_fault-AreGoodDigits count (filled count text m) two (record { long = long; all = all ∙ sym long; least = rw high_is least; last = rw (high_is, low_is) last })
  where
    fits : m ≤ length text
    fits = omega (arith, digits, prefix_len-le-length is_ascii_hexdigit text)

    long : length (filled count text m) ≡ wanted_digits count
    long = omega (arith, length-append (take m text) (replicate (wanted_digits count - m) 48), length-take-le m text fits, length-replicate {A = ℕ} (wanted_digits count - m) 48, most)

    passes : (k : ℕ) → k < wanted_digits count → is_ascii_hexdigit (get_or (filled count text m) k 0) ≡ true
    passes k inside = elim (cases_lt k m) [
      | inl before ↦ ap is_ascii_hexdigit (filled_left count text m k fits before) ∙ prefix_len_passes is_ascii_hexdigit text k 0 (omega (arith, before, digits))
      | inr after ↦ ap is_ascii_hexdigit (filled_right count text m k fits after inside)
    ]

    all : prefix_len is_ascii_hexdigit (filled count text m) ≡ wanted_digits count
    all = prefix_len_is is_ascii_hexdigit (filled count text m) (wanted_digits count) 0 (omega (arith, long)) passes (λ inside. absurd (omega (arith, inside, long)))

-- a byte that is no digit, before the last digit
no_digit : (count : ℕ) (text other : List ℕ) → prefix_len is_ascii_hexdigit text < wanted_digits count → Shares (suc (prefix_len is_ascii_hexdigit text)) text other → digits_fault count other ≡ None → ⊥
no_digit count text other few s none =
    let good = AreGoodDigits-digits_fault count other none in
    let d : ℕ = prefix_len is_ascii_hexdigit text in
    clash (sym (ap is_ascii_hexdigit (shares_at s d (omega arith))) ∙ prefix_len_passes is_ascii_hexdigit other d 0 (omega (arith, good.all, good.long, few))) (ends_at is_ascii_hexdigit text refl)

digits_placed : (count : ℕ) (text : List ℕ) (p : ℕ) → 2 ≤ wanted_digits count → digits_fault count text ≡ Some p → Placed (digits_fault count) text p
unfolding digits_fault
digits_placed count text p two is = elim (either (then_some (nat_le digits last) digits) _ p is) [
  | inl e ↦
      let found = then_is (nat_le digits last) digits p e in
      let few : digits ≤ last = le found.0 in
      subst (Placed (digits_fault count) text) found.1 (placed digits (record { within = short; rest = zeros digits; begins = early digits (omega arith) few; stops = λ other s none. no_digit count text other (omega (arith, few, two)) s none }))
  | inr (first, more) ↦
      let enough : last < digits = above (then_not (nat_le digits last) digits first) in
      elim (either (then_some (has_spare count (byte_of high 48)) last) _ p more) [
        | inl e ↦
            let found = then_is (has_spare count (byte_of high 48)) last p e in
            subst (Placed (digits_fault count) text) found.1 (placed last (record {
              within = omega (arith, enough, short);
              rest = zeros last;
              begins = early last (omega (arith, enough)) (omega arith);
              stops = λ other s none. clash found.0 (rw (← shares_at s last (omega arith)) ((AreGoodDigits-digits_fault count other none).least));
            }))
        | inr (second, more) ↦
            let least = then_not (has_spare count (byte_of high 48)) last second in
            elim (either (then_some (nat_lt digits wanted) digits) _ p more) [
              | inl e ↦
                  let found = then_is (nat_lt digits wanted) digits p e in
                  let few : digits < wanted = lt found.0 in
                  subst (Placed (digits_fault count) text) found.1 (placed digits (record {
                    within = short;
                    rest = zeros digits;
                    begins = half digits (omega (arith, few, enough)) (omega arith) least;
                    stops = λ other s none. no_digit count text other few s none;
                  }))
              | inr (third, more) ↦
                  let whole : wanted ≤ digits = at_least digits wanted (then_not (nat_lt digits wanted) digits third) in
                  elim (either (then_some (has_spare count (byte_of high low)) last) _ p more) [
                    | inl e ↦
                        let found = then_is (has_spare count (byte_of high low)) last p e in
                        let next : suc last ≡ last + 1 = omega arith in
                        subst (Placed (digits_fault count) text) found.1 (later last
                        (prefix_len_passes is_ascii_hexdigit text last 0 enough)
                        (prefix_len_passes is_ascii_hexdigit text (suc last) 0 (omega (arith, whole, two)))
                        (record {
                          within = omega (arith, enough, short);
                          rest = zeros (suc last);
                          begins = half (suc last) (omega (arith, two)) (omega (arith, enough)) least;
                          stops = λ other s none. clash found.0 (rw (← shares_at s last (omega arith), ← shares_at s (last + 1) (omega arith)) ((AreGoodDigits-digits_fault count other none).last));
                        }))
                    | inr (fourth, more) ↦
                        let found = then_is (nat_lt wanted (length text)) wanted p more in
                        subst (Placed (digits_fault count) text) found.1 (placed wanted (record {
                          within = omega (arith, whole, short);
                          rest = zeros wanted;
                          begins = filled_good count text wanted high low two whole (omega arith) (filled_left count text wanted last (omega (arith, whole, short)) (omega (arith, two))) (filled_left count text wanted (last + 1) (omega (arith, whole, short)) (omega (arith, two))) least (then_not (has_spare count (byte_of high low)) last fourth);
                          stops = λ other s none. absurd (omega (arith, (AreGoodDigits-digits_fault count other none).long, shares_long s));
                        }))
                  ]
            ]
      ]
]
  where
    wanted : ℕ
    wanted = wanted_digits count

    digits : ℕ
    digits = prefix_len is_ascii_hexdigit text

    last : ℕ
    last = wanted - 2

    high : ℕ
    high = get_or text last 0

    low : ℕ
    low = get_or text (last + 1) 0

    zeros : ℕ → List ℕ
    zeros m = replicate (wanted - m) 48

    short : digits ≤ length text
    short = prefix_len-le-length is_ascii_hexdigit text

    le : {a b : ℕ} → nat_le a b ≡ true → a ≤ b
    le {a} {b} test = grind (arith, nat_tests)

    above : {a b : ℕ} → nat_le a b ≡ false → b < a
    above {a} {b} test = grind (arith, nat_tests)

    lt : {a b : ℕ} → nat_lt a b ≡ true → a < b
    lt {a} {b} test = grind (arith, nat_tests)

    early : (m : ℕ) → m ≤ digits → m ≤ last → digits_fault count (filled count text m) ≡ None
    early m within before =
        filled_good count text m 48 48 two within (omega (arith, before)) (filled_right count text m last (omega (arith, within, short)) before (omega (arith, two)))
        (filled_right count text m (last + 1) (omega (arith, within, short)) (omega (arith, before)) (omega (arith, two))) (zeros_spare count) (zeros_spare count)

    half : (m : ℕ) → m ≡ last + 1 → m ≤ digits → has_spare count (byte_of high 48) ≡ false → digits_fault count (filled count text m) ≡ None
    half m at within least =
        filled_good count text m high 48 two within (omega (arith, at, two)) (filled_left count text m last (omega (arith, within, short)) (omega (arith, at)))
        (filled_right count text m (last + 1) (omega (arith, within, short)) (omega (arith, at)) (omega (arith, two))) least least

dash_placed : (text : List ℕ) (p : ℕ) → dash_fault text ≡ Some p → Placed dash_fault text p
unfolding dash_fault
dash_placed text p is = elim (either (then_some (not (get_or text 0 0 == 45)) 0) _ p is) [
  | inl e ↦
      let found = then_is (not (get_or text 0 0 == 45)) 0 p e in
      subst (Placed dash_fault text) found.1 (placed 0 (record {
        within = omega arith;
        rest = codes "-";
        begins = refl;
        stops = λ other s none. other_byte (get_or text 0 0) found.0 (sym (shares_at s 0 (omega arith)) ∙ ap (λ l. get_or l 0 0) (dash_fault-dash other none));
      }))
  | inr (first, more) ↦
      let found = then_is (nat_lt 1 (length text)) 1 p more in
      let some : 1 < length text = lt found.0 in
      let dash : take 1 text ≡ codes "-" = first_of text (omega (arith, some)) ∙ ap (λ byte. byte ∷ []) (same_byte (get_or text 0 0) (then_not (not (get_or text 0 0 == 45)) 0 first)) in
      subst (Placed dash_fault text) found.1 (placed 1 (record {
        within = omega (arith, some);
        rest = [];
        begins = rw dash refl;
        stops = λ other s none. absurd (omega (arith, ap length (dash_fault-dash other none), shares_long s));
      }))
]
  where
    other_byte : (byte : ℕ) → not (byte == 45) ≡ true → byte ≡ 45 → ⊥
    other_byte byte test same = absurd (grind (arith, nat_tests))

    same_byte : (byte : ℕ) → not (byte == 45) ≡ false → byte ≡ 45
    same_byte byte test = grind (arith, nat_tests)

    lt : nat_lt 1 (length text) ≡ true → 1 < length text
    lt test = grind (arith, nat_tests)

-- a part whose fault is that of another rule
splits_as : {f g : List ℕ → Option ℕ} {text : List ℕ} {q : ℕ} → ((t : List ℕ) → g t ≡ f t) → Splits f text q → Splits g text q
splits_as {f} {g} {text} {q} same s =
    record { within = s.within; rest = s.rest; begins = same (take q text ++ s.rest) ∙ s.begins; stops = λ other sh none. s.stops other sh (sym (same other) ∙ none) }

placed_as : {f g : List ℕ → Option ℕ} {text : List ℕ} {p : ℕ} → ((t : List ℕ) → g t ≡ f t) → Placed f text p → Placed g text p
placed_as same (placed p s) = placed p (splits_as same s)
placed_as same (later p first second s) = later p first second (splits_as same s)

hex_placed : (count : ℕ) (text : List ℕ) (p : ℕ) → hex_fault count text ≡ Some p → Placed (hex_fault count) text p
unfolding hex_fault
hex_placed zero text p is = dash_placed text p is
hex_placed (suc count) text p is =
    placed_as (λ t. hex_fault-some (suc count) t (omega arith)) (digits_placed (suc count) text p (unfold wanted_digits in omega arith) (sym (hex_fault-some (suc count) text (omega arith)) ∙ is))

-- ---- COUNT HEX

record AreNumbers (text : List ℕ) : Type 0 where
  count : IsGoodCount text
  hex : hex_fault (number_of text) (hex_text text) ≡ None

numbers_parts : (text : List ℕ) → numbers_fault text ≡ None → AreNumbers text
unfolding numbers_fault
numbers_parts text none =
    let parts = none_of-or (count_fault text) _ none in
    record { count = IsGoodCount-count_fault text parts.0; hex = none_of-map _ (hex_fault (number_of text) (hex_text text)) parts.1 }

-- the numbers of no bits
no_bits : numbers_fault (codes "0 -") ≡ None
unfolding numbers_fault count_fault number_fault hex_fault dash_fault
no_bits = refl

-- HEX after its COUNT
numbers_good : (count : ℕ) (hex : List ℕ) → count ≤ 19696 → hex_fault count hex ≡ None → numbers_fault (decimal count ++ codes " " ++ hex) ≡ None
numbers_good count hex most none = (numbers_taken (decimal count ++ codes " " ++ hex) count hex (reads_count count hex most) none).0

some_hex : (count : ℕ) → (hex : List ℕ) × (hex_fault count hex ≡ None)
some_hex count =
    let bits : List Bool = replicate count false in
    let hex = written_hex bits in
    (hex.0, rw (length-replicate count false) at (hex_fault-IsHexOf hex.0 bits hex.1).0)

no_number : (text : List ℕ) → number_len text ≡ 0 → Splits numbers_fault text 0
no_number text none = record {
  within = omega arith;
  rest = codes "0 -";
  begins = no_bits;
  stops = λ other s good.
      let number = (numbers_parts other good).count.number in
      clash (sym (ap is_ascii_digit (shares_at s 0 (omega arith))) ∙ prefix_len_passes is_ascii_digit other 0 0 number.some) (ap (λ k. is_ascii_digit (get_or text k 0)) (sym none) ∙ ends_at is_ascii_digit text refl);
}

zero_first : (text : List ℕ) → get_or text 0 0 ≡ 48 → 1 < number_len text → Splits numbers_fault text 1
zero_first text zeros many = record {
  within = omega (arith, many, prefix_len-le-length is_ascii_digit text);
  rest = codes " -";
  begins = rw (first_of text (omega (arith, many, prefix_len-le-length is_ascii_digit text)), zeros) no_bits;
  stops = λ other s good.
      let number = (numbers_parts other good).count.number in
      let one : number_len other ≡ 1 = omega (arith, number.some, number.lead (shares_at s 0 (omega arith) ∙ zeros)) in
      clash (ap is_ascii_digit (shares_at s 1 (omega arith)) ∙ prefix_len_passes is_ascii_digit text 1 0 many) (ap (λ k. is_ascii_digit (get_or other k 0)) (sym one) ∙ ends_at is_ascii_digit other refl);
}

no_space : (text : List ℕ) → IsGood 19696 text → (get_or text (number_len text) 0 ≡ 32 → ⊥) → Splits numbers_fault text (number_len text)
no_space text good other_byte =
    let hex = some_hex (number_of text) in
    record {
      within = prefix_len-le-length is_ascii_digit text;
      rest = codes " " ++ hex.0;
      begins = ap (λ front. numbers_fault (front ++ (codes " " ++ hex.0))) (sym (number_front 19696 text (omega arith) good)) ∙ ap numbers_fault (sym (append_assoc (decimal (number_of text)) (codes " ") hex.0)) ∙ numbers_good (number_of text) hex.0 good.most_is hex.1;
      stops = λ other s none.
          let count = (numbers_parts other none).count in
          let len = same_len is_ascii_digit text other s in
          other_byte (sym (shares_at s (number_len text) (omega arith)) ∙ ap (λ k. get_or other k 0) (sym len) ∙ count.space);
    }

-- HEX split after COUNT and its space
numbers_split : (text : List ℕ) (q : ℕ) → IsGoodCount text → Splits (hex_fault (number_of text)) (hex_text text) q → Splits numbers_fault text (number_len text + 1 + q)
numbers_split text q good s = record { within = omega (arith, s.within, length-drop m text, inside); rest = s.rest; begins = begins; stops = stops }
  where
    m : ℕ
    m = number_len text + 1

    count : ℕ
    count = number_of text

    inside : number_len text < length text
    inside = inside_text text (number_len text) good.space

    front : take m text ≡ decimal count ++ codes " "
    front = take_more text (number_len text) 0 inside ∙ ap (λ byte. take (number_len text) text ++ byte ∷ []) good.space ∙ ap (λ l. l ++ codes " ") (sym (number_front 19696 text (omega arith) good.number))

    whole : take (m + q) text ++ s.rest ≡ decimal count ++ codes " " ++ (take q (hex_text text) ++ s.rest)
    whole = ap (λ l. l ++ s.rest) (take-add m q text ∙ ap (λ l. l ++ take q (hex_text text)) front) ∙ append_assoc (decimal count ++ codes " ") (take q (hex_text text)) s.rest

    begins : numbers_fault (take (m + q) text ++ s.rest) ≡ None
    begins = ap numbers_fault whole ∙ numbers_good count (take q (hex_text text) ++ s.rest) good.number.most_is s.begins

    stops : (other : List ℕ) → Shares (suc (m + q)) text other → numbers_fault other ≡ None → ⊥
    stops other sh none =
        let parts = numbers_parts other none in
        let len : number_len other ≡ number_len text = same_len is_ascii_digit text other (shares_less sh (suc (number_len text)) (omega arith)) in
        let number : number_of other ≡ count = rw len (ap (digits_value 10) ((shares_less sh (number_len text) (omega arith)).same)) in
        let more : suc (m + q) ≡ m + suc q = omega arith in
        let rest : hex_fault count (drop m other) ≡ None = rw (number, len) at parts.hex in
        s.stops (drop m other) (shares_drop m (suc q) text other (rw more at sh)) rest

-- where COUNT HEX is refused, and its exception
data Judged (text : List ℕ) : ℕ → Type 0 where
  judged : (p : ℕ) → Placed numbers_fault text p → Judged text p
  above : 19696 < number_of text → Judged text 0

count_judged : (text : List ℕ) (p : ℕ) → count_fault text ≡ Some p → Judged text p
unfolding count_fault number_fault
count_judged text p is = elim (either (number_fault 19696 text) _ p is) [
  | inl number ↦ elim (either (then_some (n == 0) 0) _ p number) [
    | inl e ↦
        let found = then_is (n == 0) 0 p e in
        subst (Judged text) found.1 (judged 0 (placed 0 (no_number text (none_is n found.0))))
    | inr (some, more) ↦ elim (either (then_some ((get_or text 0 0 == 48) && nat_lt 1 n) 1) _ p more) [
      | inl e ↦
          let found = then_is ((get_or text 0 0 == 48) && nat_lt 1 n) 1 p e in
          let zeros = zeros_is (get_or text 0 0) n found.0 in
          subst (Judged text) found.1 (judged 1 (placed 1 (zero_first text zeros.0 zeros.1)))
      | inr (lead, more) ↦
          let found = then_is (nat_lt 19696 (number_of text)) 0 p more in
          subst (Judged text) found.1 (above (more_is (number_of text) found.0))
    ]
  ]
  | inr (good, more) ↦
      let found = then_is (not (get_or text n 0 == 32)) n p more in
      subst (Judged text) found.1 (judged n (placed n (no_space text (IsGood-number_fault 19696 text good) (other_is (get_or text n 0) found.0))))
]
  where
    n : ℕ
    n = number_len text

    none_is : (k : ℕ) → (k == 0) ≡ true → k ≡ 0
    none_is k test = grind (arith, nat_tests)

    zeros_is : (byte k : ℕ) → ((byte == 48) && nat_lt 1 k) ≡ true → (byte ≡ 48) × (1 < k)
    zeros_is byte k test = (grind (arith, nat_tests), grind (arith, nat_tests))

    more_is : (k : ℕ) → nat_lt 19696 k ≡ true → 19696 < k
    more_is k test = grind (arith, nat_tests)

    other_is : (byte : ℕ) → not (byte == 32) ≡ true → byte ≡ 32 → ⊥
    other_is byte test same = absurd (grind (arith, nat_tests))

has_digit_behind : (m p : ℕ) (text : List ℕ) → HasDigit (drop m text) p → HasDigit text (m + p)
has_digit_behind m p text digit = ap is_ascii_hexdigit (sym (get_or-drop m text p 0)) ∙ digit

-- a part after m bytes
placed_behind : (f g : List ℕ → Option ℕ) (m p : ℕ) (text : List ℕ) → ((q : ℕ) → Splits f (drop m text) q → Splits g text (m + q)) → Placed f (drop m text) p → Placed g text (m + p)
placed_behind f g m _ text lift (placed p s) = placed (m + p) (lift p s)
placed_behind f g m _ text lift (later p first second s) =
    let next : m + suc p ≡ suc (m + p) = omega arith in
    later (m + p) (has_digit_behind m p text first) (subst (HasDigit text) next (has_digit_behind m (suc p) text second)) (subst (Splits g text) next (lift (suc p) s))

numbers_judged : (text : List ℕ) (p : ℕ) → numbers_fault text ≡ Some p → Judged text p
unfolding numbers_fault
numbers_judged text p is = elim (either (count_fault text) _ p is) [
  | inl count ↦ count_judged text p count
  | inr (count, more) ↦
      let good = IsGoodCount-count_fault text count in
      let (q, hex, sum) = behind_is (number_len text + 1) (hex_fault (number_of text) (hex_text text)) p more in
      subst (Judged text) sum (judged (number_len text + 1 + q) (placed_behind (hex_fault (number_of text)) numbers_fault (number_len text + 1) q text (λ r s. numbers_split text r good s) (hex_placed (number_of text) (hex_text text) q hex)))
]

-- ---- KIND COUNT HEX

line_good : (kind : LineKind) (text : List ℕ) → numbers_fault text ≡ None → line_fault (kind_text kind ++ text) ≡ None
unfolding line_fault fault_by
line_good kind text none = rw (kind_taken kind text, drop-append_seam (kind_text kind) text, none) refl

line_parts : (kind : LineKind) (line : List ℕ) → take (length (kind_text kind)) line ≡ kind_text kind → line_fault line ≡ None → numbers_fault (count_text kind line) ≡ None
unfolding line_fault fault_by
line_parts kind line front none =
    let whole : line ≡ kind_text kind ++ count_text kind line = sym (take-append-drop (length (kind_text kind)) line) ∙ ap (λ l. l ++ count_text kind line) front in
    let found : kind_of line ≡ Some kind = ap kind_of whole ∙ kind_taken kind (count_text kind line) in
    none_of-map _ (numbers_fault (count_text kind line)) (rw found at none)

front_of : (kind : LineKind) (line : List ℕ) → length (kind_text kind) ≤ shared_with line kind → take (length (kind_text kind)) line ≡ kind_text kind
front_of kind line shared = ap (take (length (kind_text kind))) (shared_all line (kind_text kind) shared) ∙ take-append_seam (kind_text kind) (count_text kind line)

line_split : (kind : LineKind) (line : List ℕ) (q : ℕ) → length (kind_text kind) ≤ shared_with line kind → Splits numbers_fault (count_text kind line) q → Splits line_fault line (length (kind_text kind) + q)
line_split kind line q shared s = record {
  within = omega (arith, s.within, length-drop m line, shared, (common_prefix_len-le nat_eq line (kind_text kind)).0);
  rest = s.rest;
  begins = ap line_fault whole ∙ line_good kind (take q (count_text kind line) ++ s.rest) s.begins;
  stops = λ other sh none.
      let more : suc (m + q) ≡ m + suc q = omega arith in
      s.stops (count_text kind other) (shares_drop m (suc q) line other (rw more at sh)) (line_parts kind other ((shares_less sh m (omega arith)).same ∙ front) none);
}
  where
    m : ℕ
    m = length (kind_text kind)

    front : take m line ≡ kind_text kind
    front = front_of kind line shared

    whole : take (m + q) line ++ s.rest ≡ kind_text kind ++ (take q (count_text kind line) ++ s.rest)
    whole = ap (λ l. l ++ s.rest) (take-add m q line ∙ ap (λ l. l ++ take q (count_text kind line)) front) ∙ append_assoc (kind_text kind) (take q (count_text kind line)) s.rest

-- a line of no kind
shared_front : (line kind : List ℕ) → take (common_prefix_len nat_eq line kind) line ≡ take (common_prefix_len nat_eq line kind) kind
shared_front [] kind = refl
shared_front (c ∷ line) [] = refl
shared_front (c ∷ line) (byte ∷ kind) = by (nat_eq c byte) refl (shared_front line kind)
  where
    by : (test : Bool) → nat_eq c byte ≡ test → take (common_prefix_len nat_eq line kind) line ≡ take (common_prefix_len nat_eq line kind) kind → take (cond test (1 + common_prefix_len nat_eq line kind) 0) (c ∷ line) ≡ take (cond test (1 + common_prefix_len nat_eq line kind) 0) (byte ∷ kind)
    by false e more = refl
    by true e more =
        let same : c ≡ byte = grind (arith, nat_tests) in
        let on : 1 + common_prefix_len nat_eq line kind ≡ suc (common_prefix_len nat_eq line kind) = omega arith in
        rw (on, same) (ap (λ l. byte ∷ l) more)

shared_differs : (line kind : List ℕ) → common_prefix_len nat_eq line kind < length line → common_prefix_len nat_eq line kind < length kind → get_or line (common_prefix_len nat_eq line kind) 0 ≡ get_or kind (common_prefix_len nat_eq line kind) 0 → ⊥
shared_differs [] kind low high same = absurd (omega arith)
shared_differs (c ∷ line) [] low high same = absurd (omega arith)
shared_differs (c ∷ line) (byte ∷ kind) low high same = by (nat_eq c byte) refl (shared_differs line kind) low high same
  where
    by : (test : Bool) → nat_eq c byte ≡ test → (common_prefix_len nat_eq line kind < length line → common_prefix_len nat_eq line kind < length kind → get_or line (common_prefix_len nat_eq line kind) 0 ≡ get_or kind (common_prefix_len nat_eq line kind) 0 → ⊥)
        → cond test (1 + common_prefix_len nat_eq line kind) 0 < length (c ∷ line) → cond test (1 + common_prefix_len nat_eq line kind) 0 < length (byte ∷ kind)
        → get_or (c ∷ line) (cond test (1 + common_prefix_len nat_eq line kind) 0) 0 ≡ get_or (byte ∷ kind) (cond test (1 + common_prefix_len nat_eq line kind) 0) 0 → ⊥
    by false e more low high same = absurd (grind (arith, nat_tests))
    by true e more low high same =
        let on : 1 + common_prefix_len nat_eq line kind ≡ suc (common_prefix_len nat_eq line kind) = omega arith in
        more (omega arith) (omega arith) (rw on at same)

cond_none : {A : Type 0} (test : Bool) (x : A) (rest : Option A) → cond test (Some x) rest ≡ None → (test ≡ false) × (rest ≡ None)
cond_none true x rest e = cc
cond_none false x rest e = (refl, e)

below_end : (a b : ℕ) → (a == b) ≡ false → a ≤ b → a < b
below_end a b fails most = grind (arith, nat_tests)

kind_none : (line : List ℕ) → kind_of line ≡ None → (kind : LineKind) → shared_with line kind < length (kind_text kind)
unfolding kind_of
kind_none line none kind =
    let raw = cond_none (shared_with line Raw == length (kind_text Raw)) Raw _ none in
    let mst = cond_none (shared_with line Mst == length (kind_text Mst)) Mst _ raw.1 in
    let single = cond_none (shared_with line Single == length (kind_text Single)) Single _ mst.1 in
    let at = cond_none (shared_with line At == length (kind_text At)) At None single.1 in
    below_end (shared_with line kind) (length (kind_text kind)) (passes kind raw.0 mst.0 single.0 at.0) (common_prefix_len-le nat_eq line (kind_text kind)).1
  where
    Fails : LineKind → Type 0
    Fails k = (shared_with line k == length (kind_text k)) ≡ false

    passes : (k : LineKind) → Fails Raw → Fails Mst → Fails Single → Fails At → Fails k
    passes Raw raw mst single at = raw
    passes Mst raw mst single at = mst
    passes Single raw mst single at = single
    passes At raw mst single at = at

-- the first p bytes begin a line
Goes : List ℕ → ℕ → Type 0
Goes line p = (rest : List ℕ) × (line_fault (take p line ++ rest) ≡ None)

kind_goes : (line : List ℕ) (kind : LineKind) → Goes line (shared_with line kind)
unfolding Goes
kind_goes line kind =
    let p : ℕ = shared_with line kind in
    (drop p (kind_text kind) ++ codes "0 -", ap line_fault (ap (λ l. l ++ (drop p (kind_text kind) ++ codes "0 -")) (shared_front line (kind_text kind)) ∙ sym (append_assoc (take p (kind_text kind)) (drop p (kind_text kind)) (codes "0 -")) ∙ ap (λ l. l ++ codes "0 -") (take-append-drop p (kind_text kind))) ∙ line_good kind (codes "0 -") no_bits)

later_of : (P : ℕ → Type 0) (a b : ℕ) → P a → P b → P (max a b)
later_of P a b first second = elim (cases_lt a b) [
  | inl less ↦ subst P (the_last less) second
  | inr more ↦ subst P (the_first more) first
]
  where
    the_last : a < b → b ≡ max a b
    the_last less = omega (arith, less)

    the_first : b ≤ a → a ≡ max a b
    the_first more = omega (arith, more)

kind_split : (line : List ℕ) → kind_of line ≡ None → Splits line_fault line (kind_fault line)
unfolding Goes kind_fault
kind_split line none = record { within = omega (arith, shared Raw, shared Mst, shared Single, shared At); rest = goes.0; begins = goes.1; stops = stops }
  where
    shared : (kind : LineKind) → shared_with line kind ≤ length line
    shared kind = (common_prefix_len-le nat_eq line (kind_text kind)).0

    goes : Goes line (kind_fault line)
    goes = later_of (Goes line) _ _ (later_of (Goes line) _ _ (later_of (Goes line) _ _ (kind_goes line Raw) (kind_goes line Mst)) (kind_goes line Single)) (kind_goes line At)

    most : (kind : LineKind) → shared_with line kind ≤ kind_fault line
    most Raw = omega arith
    most Mst = omega arith
    most Single = omega arith
    most At = omega arith

    stops : (other : List ℕ) → Shares (suc (kind_fault line)) line other → line_fault other ≡ None → ⊥
    stops other sh good =
        let (kind, found, _) = line_spelled other good in
        let s : ℕ = shared_with line kind in
        let within = most kind in
        let whole = shared_all other (kind_text kind) (kind_found other kind found) in
        shared_differs line (kind_text kind) (omega (arith, within, sh.fits)) (kind_none line none kind)
        (sym (shares_at sh s (omega (arith, within))) ∙ ap (λ l. get_or l s 0) whole ∙ get_or_append_left (kind_text kind) (count_text kind other) 0 s (kind_none line none kind))

-- ---- the law

begun : (bytes rest : List ℕ) → line_fault (bytes ++ rest) ≡ None → BeginsLine bytes
begun bytes rest good =
    let (kind, _, is) = line_spelled (bytes ++ rest) good in
    record { rest = rest; kind = kind; bits = line_bits (bytes ++ rest); is = is }

split_begins : {line : List ℕ} {q : ℕ} → Splits line_fault line q → BeginsLine (take q line)
split_begins {line} {q} s = begun (take q line) s.rest s.begins

split_stops : {line : List ℕ} {q : ℕ} → Splits line_fault line q → q < length line → BeginsLine (take (suc q) line) → ⊥
split_stops {line} {q} s inside b =
    let fits : suc q ≤ length line = omega (arith, inside) in
    s.stops (take (suc q) line ++ b.rest) (record { fits = fits; same = take_at (take (suc q) line) b.rest (suc q) (length-take-le (suc q) line fits) }) (line_taken b.kind (take (suc q) line ++ b.rest) b.bits b.is).0

refused : (line : List ℕ) (p : ℕ) → line_fault line ≡ Some p → Placed line_fault line p → IsRefusedAt line p
refused line _ is (placed p s) = elim (cases_lt p (length line)) [
  | inl inside ↦ at_byte p inside (split_begins s) (split_stops s inside)
  | inr past ↦
      let end : p ≡ length line = omega (arith, past, s.within) in
      subst (IsRefusedAt line) (sym end) (at_end (subst BeginsLine (take_all p line past) (split_begins s)) (λ kind bits spelled. absurd (none_some (sym (line_taken kind line bits spelled).0 ∙ is))))
]
  where
    none_some : {x : ℕ} → None ≡ Some x → ⊥
    none_some e = cc
refused line _ is (later p first second s) = in_pair p first second (split_begins s) (split_stops s (elim (cases_lt (suc p) (length line)) [
  | inl inside ↦ inside
  | inr past ↦ absurd (clash second (ap is_ascii_hexdigit (get_or_past line (suc p) 0 past)))
]))

pub refused_at : (line : List ℕ) (p : ℕ) → line_fault line ≡ Some p → IsRefusedAt line p
unfolding line_fault fault_by
refused_at line p is = by (kind_of line) refl is
  where
    by_numbers : (kind : LineKind) (q : ℕ) → kind_of line ≡ Some kind → Judged (count_text kind line) q → line_fault line ≡ Some (length (kind_text kind) + q) → IsRefusedAt line (length (kind_text kind) + q)
    by_numbers kind _ found (judged q place) same =
        refused line (length (kind_text kind) + q) same (placed_behind numbers_fault line_fault (length (kind_text kind)) q line (λ r s. line_split kind line r (kind_found line kind found) s) place)
    by_numbers kind _ found (above more) same =
        let none : length (kind_text kind) ≡ length (kind_text kind) + 0 = omega arith in
        subst (IsRefusedAt line) none (too_large kind (record { rest = count_text kind line; above = more; whole = shared_all line (kind_text kind) (kind_found line kind found) })
        (begun (kind_text kind) (codes "0 -") (line_good kind (codes "0 -") no_bits)))

    by : (found : Option LineKind) → kind_of line ≡ found → fault_by found line ≡ Some p → IsRefusedAt line p
    by None none e = refused line p is (subst (Placed line_fault line) (same_Some _ _ e) (placed (kind_fault line) (kind_split line none)))
    by (Some kind) found e =
        let (q, numbers, sum) = behind_is (length (kind_text kind)) (numbers_fault (count_text kind line)) p e in
        subst (IsRefusedAt line) sum (by_numbers kind q found (numbers_judged (count_text kind line) q numbers) (is ∙ ap Some (sym sum)))
