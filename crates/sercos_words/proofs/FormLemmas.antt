-- Lemmas on the words of the commands.
use Rattle.std.proofs.Common.{◌≡◌, ◌≢◌, codes, subst, ◌⊎◌, inl, inr, ℕ, zero, suc, ◌+◌, ◌-◌, ◌<◌, ◌≤◌, Bool, true, false, cond, List, [], ◌∷◌, ◌++◌, length, drop, decimal, Option, Some, None, refl, sym, ap, ◌∙◌, arith, slice_get, append-nil}
use Rattle.std.specs.Prelude.{IfSome, option_map}
use Rattle.std.specs.Borrow.{Bor}
use Rattle.std.specs.List.{find, range_with_len}
use Rattle.std.specs.Str.{bytes_eq}
use Rattle.std.proofs.lemmas.Fmt.{decimal_injective}
use Rattle.std.proofs.lemmas.Bool.{cases_lt}
use Rattle.std.proofs.lemmas.List.{drop_all}
use Rattle.std.proofs.lemmas.Slice.Eq.{bytes_eq-Decides}
use Rattle.sercos_text.specs.Fields.{number_fault, number_len, number_of}
use Rattle.sercos_text.proofs.ValueLaws.{IsGood-number_fault, number_fault-IsGood, number_spelled, ReadsNumber, reads_number}
use Rattle.clap.specs.Words.{App, first_of, first_value, found_of, fault_of, is_simple, is_simple_and_free, matches_of, rows_of, HasKind, HasMatchesOf, IsAmong, kind_of}
use Rattle.clap.specs.declared.error.Error.{Error}
use Rattle.clap.specs.declared.error.kind.ErrorKind.TheVariants as kind
use Rattle.clap.specs.declared.parser.matches.ArgMatches.{ArgMatches}
use Rattle.clap.proofs.WalkLemmas.{first_value-rows}
use Rattle.sercos_words.specs.CommandLine.{command_line}
use Rattle.sercos_words.specs.Form.{number_named, plain_form, form_of, without_dashes}
use Rattle.sercos_words.proofs.WordsRead.{Reads, words_read, line_is_simple, line_is_plain}
use Rattle.sercos_words.proofs.WordsRead.Reads.{taken_words, refused_words}
use Rattle.sercos_words.specs.declared.form.Form.{Form}

-- what is found in a range passes, and is in it
record IsFoundIn (p : ℕ → Bool) (a n x : ℕ) : Type 0 where
  passes : p x ≡ true
  above : a ≤ x
  below : x < a + n

found_in_range : (p : ℕ → Bool) (a n x : ℕ) → find p (range_with_len a n) ≡ Some x → IsFoundIn p a n x
found_in_range p a zero x is = absurd (cc)
found_in_range p a (suc n) x is = by_test (p a) refl is (λ later. found_in_range p (a + 1) n x later)
  where
    by_test : (test : Bool) → p a ≡ test → cond test (Some a) (find p (range_with_len (a + 1) n)) ≡ Some x → (find p (range_with_len (a + 1) n) ≡ Some x → IsFoundIn p (a + 1) n x) → IsFoundIn p a (suc n) x
    by_test true passes is later = let same : a ≡ x = cc in record { passes = rw (← same) passes; above = omega (arith, same); below = omega (arith, same) }
    by_test false fails is later =
        let found = later is in
        record { passes = found.passes; above = omega (arith, found.above); below = omega (arith, found.below) }

-- the one number of a range that passes is found
one_in_range : (p : ℕ → Bool) (a n x : ℕ) → IsFoundIn p a n x → ((y : ℕ) → y < a + n → p y ≡ true → y ≡ x) → find p (range_with_len a n) ≡ Some x
one_in_range p a zero x is only = absurd (omega (arith, is.above, is.below))
one_in_range p a (suc n) x is only = by_test (p a) refl (λ further. one_in_range p (a + 1) n x further (λ y below passes. only y (omega (arith, below)) passes))
  where
    later : (a < x) ⊎ (x ≤ a) → p a ≡ false → a + 1 ≤ x
    later (inl below) fails = omega (arith, below)
    later (inr above) fails = let same : a ≡ x = omega (arith, above, is.above) in let bad : true ≡ false = sym is.passes ∙ rw (← same) fails in absurd (cc)

    by_test : (test : Bool) → p a ≡ test → (IsFoundIn p (a + 1) n x → find p (range_with_len (a + 1) n) ≡ Some x) → cond test (Some a) (find p (range_with_len (a + 1) n)) ≡ Some x
    by_test true passes more = ap Some (only a (omega arith) passes)
    by_test false fails more = more (record { passes = is.passes; above = later (cases_lt a x) fails; below = omega (arith, is.below) })

-- a word names one of these numbers exactly where it is that number's text
pub names_number : (first last : ℕ) (word : List ℕ) (n : ℕ) → word ≡ decimal n → first ≤ n → n ≤ last → last ≤ 255 → number_named first last word ≡ Some n
unfolding number_named
names_number first last word n is above below small =
    one_in_range (λ n. bytes_eq word (decimal n)) first (last + 1 - first) n
    (record { passes = (bytes_eq-Decides word (decimal n)).1 is; above = above; below = omega (arith, above, below) })
    (λ y within passes. decimal_injective y n (omega (arith, within, above, below, small)) (omega (arith, below, small)) (sym ((bytes_eq-Decides word (decimal y)).0 passes) ∙ is))

pub number_named-is : (first last : ℕ) (word : List ℕ) (n : ℕ) → number_named first last word ≡ Some n → (word ≡ decimal n) × (first ≤ n) × (n ≤ last)
unfolding number_named
number_named-is first last word n is =
    let found = found_in_range (λ n. bytes_eq word (decimal n)) first (last + 1 - first) n is in
    ((bytes_eq-Decides word (decimal n)).0 found.passes, found.above, omega (arith, found.above, found.below))

-- a word that is a number without a fault, and nothing more
pub number_read : (first last : ℕ) (word : List ℕ) (len n : ℕ) → last ≤ 255 → None ≡ number_fault last word → len ≡ number_len word → n ≡ number_of word → len ≡ length word → first ≤ n → Some n ≡ number_named first last word
number_read first last word len n small none len_is n_is whole some =
    let good = IsGood-number_fault last word (sym none) in
    let rest : drop (number_len word) word ≡ [] = drop_all (number_len word) word (omega (arith, len_is, whole)) in
    let text : word ≡ decimal n = number_spelled last word (omega (arith, small)) good ∙ ap (λ t. decimal (number_of word) ++ t) rest ∙ append-nil (decimal (number_of word)) ∙ ap decimal (sym n_is) in
    sym (names_number first last word n text some (omega (arith, n_is, good.most_is)) small)

-- what a word that names a number is read as
pub record ReadsNamed (first last : ℕ) (word : List ℕ) : Type 0 where
  none : number_fault last word ≡ None
  whole : number_len word ≡ length word
  some : first ≤ number_of word

reads_named : (first last : ℕ) (word : List ℕ) (n : ℕ) → last ≤ 255 → number_named first last word ≡ Some n → ReadsNamed first last word
reads_named first last word n small is =
    let named = number_named-is first last word n is in
    let text : decimal n ++ [] ≡ word = append-nil (decimal n) ∙ sym named.0 in
    let reads : ReadsNumber word n = subst (λ t. ReadsNumber t n) text (reads_number n [] (omega (arith, named.2, small)) refl) in
    record {
      none = number_fault-IsGood last word (record { some = reads.some; lead = reads.lead; most_is = omega (arith, reads.number, named.2) });
      whole = reads.len ∙ ap length (sym named.0);
      some = omega (arith, reads.number, named.1);
    }

-- a word that isn't so names none
pub none_named : (first last : ℕ) (word : List ℕ) → last ≤ 255 → (ReadsNamed first last word → ⊥) → None ≡ number_named first last word
none_named first last word small differs = by_name (number_named first last word) refl
  where
    by_name : (o : Option ℕ) → number_named first last word ≡ o → None ≡ o
    by_name None is = refl
    by_name (Some n) is = absurd (differs (reads_named first last word n small is))

pub none_named_at_fault : (first last : ℕ) (word : List ℕ) (place : ℕ) → last ≤ 255 → Some place ≡ number_fault last word → None ≡ number_named first last word
none_named_at_fault first last word place small fault = none_named first last word small (λ reads. let bad : Some place ≡ None = fault ∙ reads.none in cc)

pub none_named_before_rest : (first last : ℕ) (word : List ℕ) (len : ℕ) → last ≤ 255 → len ≡ number_len word → (len ≡ length word → ⊥) → None ≡ number_named first last word
none_named_before_rest first last word len small is differs = none_named first last word small (λ reads. differs (is ∙ reads.whole))

pub none_named_before_first : (first last : ℕ) (word : List ℕ) (n : ℕ) → last ≤ 255 → n ≡ number_of word → (first ≤ n → ⊥) → None ≡ number_named first last word
none_named_before_first first last word n small is none = none_named first last word small (λ reads. none (omega (arith, is, reads.some)))

-- the form of the values that there are
pub form_by : (word number : Option (Bor (List ℕ))) (form : Option Form) (done : List (List ℕ)) → option_map (λ s. s.now) word ≡ slice_get done 0 → option_map (λ s. s.now) number ≡ slice_get done 1 → length done ≤ 2
    → (word ≡ None → form ≡ None)
    → IfSome word (λ w. number ≡ None → form ≡ plain_form (w.now ∷ []))
    → IfSome word (λ w. IfSome number (λ n. form ≡ plain_form (w.now ∷ n.now ∷ [])))
    → form ≡ plain_form done
unfolding plain_form
form_by None number form [] first second few none one two = none refl
form_by None number form (a ∷ done) first second few none one two = absurd (cc)
form_by (Some w) number form [] first second few none one two = absurd (cc)
form_by (Some w) None form (a ∷ []) first second few none one two = let same : w.now ≡ a = cc in one refl ∙ ap (λ x. plain_form (x ∷ [])) same
form_by (Some w) (Some n) form (a ∷ []) first second few none one two = absurd (cc)
form_by (Some w) None form (a ∷ b ∷ done) first second few none one two = absurd (cc)
form_by (Some w) (Some n) form (a ∷ b ∷ []) first second few none one two =
    let same : w.now ≡ a = cc in
    let same' : n.now ≡ b = cc in
    two ∙ ap (λ x. plain_form (x ∷ n.now ∷ [])) same ∙ ap (λ y. plain_form (a ∷ y ∷ [])) same'
form_by (Some w) (Some n) form (a ∷ b ∷ c ∷ done) first second few none one two = absurd (omega arith)

-- what a parse that succeeded says of the words
pub form_of-taken : (app : App) (words : List (List ℕ)) (m : ArgMatches) (word number : Option (Bor (List ℕ))) (form : Option Form) → app ≡ command_line
    → (is_simple_and_free app ≡ true → fault_of app words ≡ []) → HasMatchesOf app words m
    → option_map (λ s. s.now) word ≡ first_value (found_of m) (codes "command")
    → option_map (λ s. s.now) number ≡ first_value (found_of m) (codes "number")
    → (word ≡ None → form ≡ None)
    → IfSome word (λ w. number ≡ None → form ≡ plain_form (w.now ∷ []))
    → IfSome word (λ w. IfSome number (λ n. form ≡ plain_form (w.now ∷ n.now ∷ [])))
    → form ≡ form_of words
unfolding form_of
form_of-taken app words m word number form is passes has first second none one two = by_words (words_read words)
  where
    no_fault : fault_of command_line words ≡ []
    no_fault = ap (λ a. fault_of a words) (sym is) ∙ passes (ap is_simple_and_free is ∙ line_is_simple)

    rows : rows_of (found_of m) ≡ matches_of command_line words
    rows = (has (ap is_simple is ∙ line_is_plain)).0 ∙ ap (λ a. matches_of a words) is

    by_words : Reads words → form ≡ plain_form (without_dashes words)
    by_words (taken_words t) =
        form_by word number form (without_dashes words)
        (first ∙ first_value-rows (found_of m) (codes "command") ∙ ap (first_of (codes "command")) rows ∙ t.command)
        (second ∙ first_value-rows (found_of m) (codes "number") ∙ ap (first_of (codes "number")) rows ∙ t.number)
        t.few none one two
    by_words (refused_words k fault no_form) = let bad : k ∷ [] ≡ [] = sym fault ∙ no_fault in absurd (cc)

-- and one that failed, but not by memory
pub form_of-refused : (app : App) (words : List (List ℕ)) (e : Error) → app ≡ command_line
    → (is_simple_and_free app ≡ true → HasKind (fault_of app words) e) → (kind_of e ≡ kind.OutOfMemory → ⊥) → None ≡ form_of words
form_of-refused app words e is fails other = by_words (words_read words)
  where
    has : HasKind (fault_of command_line words) e
    has = subst (λ a. HasKind (fault_of a words) e) is (fails (ap is_simple_and_free is ∙ line_is_simple))

    by_kind : fault_of command_line words ≡ [] → HasKind (fault_of command_line words) e → ⊥
    by_kind none (inl memory) = other memory
    by_kind none (inr among) = subst (IsAmong (kind_of e)) none among

    by_words : Reads words → None ≡ form_of words
    by_words (taken_words t) = absurd (by_kind t.passes has)
    by_words (refused_words k fault no_form) = sym no_form

-- ---- words by their number

some_same : {v w : List ℕ} → Some v ≡ Some w → v ≡ w
some_same e = cc

pub words_one : (words : List (List ℕ)) (a : List ℕ) → length words ≡ 1 → slice_get words 0 ≡ Some a → a ∷ [] ≡ words
words_one [] a long first = absurd (omega arith)
words_one (v ∷ []) a long first = ap (λ x. x ∷ []) (sym (some_same first))
words_one (v ∷ w ∷ words) a long first = absurd (omega arith)

pub words_two : (words : List (List ℕ)) (a b : List ℕ) → length words ≡ 2 → slice_get words 0 ≡ Some a → slice_get words 1 ≡ Some b → a ∷ b ∷ [] ≡ words
words_two [] a b long first second = absurd (omega arith)
words_two (v ∷ words) a b long first second =
    ap (λ x. x ∷ b ∷ []) (sym (some_same first)) ∙ ap (λ xs. v ∷ xs) (words_one words b (omega (arith, long)) second)

pub words_three : (words : List (List ℕ)) (a b c : List ℕ) → length words ≡ 3 → slice_get words 0 ≡ Some a → slice_get words 1 ≡ Some b → slice_get words 2 ≡ Some c → a ∷ b ∷ c ∷ [] ≡ words
words_three [] a b c long first second third = absurd (omega arith)
words_three (v ∷ words) a b c long first second third =
    ap (λ x. x ∷ b ∷ c ∷ []) (sym (some_same first)) ∙ ap (λ xs. v ∷ xs) (words_two words b c (omega (arith, long)) second third)

several : (u v w : Bool) (x y z t : List ℕ) (words : List (List ℕ)) → plain_form (cond u (y ∷ z ∷ t ∷ words) (x ∷ cond v (z ∷ t ∷ words) (y ∷ cond w (t ∷ words) (z ∷ without_dashes (t ∷ words))))) ≡ None
unfolding plain_form
several true v w x y z t words = refl
several false true w x y z t words = refl
several false false true x y z t words = refl
several false false false x y z t words = refl

pub form_of-other : (words : List (List ℕ)) → length words ≢ 1 → length words ≢ 2 → length words ≢ 3 → None ≡ form_of words
unfolding form_of without_dashes plain_form
form_of-other [] one two three = refl
form_of-other (v ∷ []) one two three = absurd (omega arith)
form_of-other (v ∷ w ∷ []) one two three = absurd (omega arith)
form_of-other (v ∷ w ∷ x ∷ []) one two three = absurd (omega arith)
form_of-other (x ∷ y ∷ z ∷ t ∷ words) one two three = sym (several (bytes_eq x (codes "--")) (bytes_eq y (codes "--")) (bytes_eq z (codes "--")) x y z t words)
