-- What `clap` makes of the words of a command. Where it takes them, their values are the words without the first `--`;
-- where it refuses one, the words are in no form.
use Rattle.std.proofs.Common.{◌≡◌, ℕ, zero, suc, ◌+◌, ◌-◌, ◌<◌, ◌≤◌, decimal, get_or, ◌==◌, Bool, true, false, not, append-nil, append_assoc, cond, List, [], ◌∷◌, ◌++◌, length, Option, Some, None, is_some, refl, sym, ap, ◌∙◌, arith, codes, slice_get}
use Rattle.std.specs.Prelude.{option_and_then, option_map, fold}
use Rattle.std.specs.Str.{bytes_eq, chars}
use Rattle.std.specs.List.{slice_index_or, find, range_with_len}
use Rattle.std.proofs.lemmas.Slice.Eq.{bytes_eq-Decides}
use Rattle.std.proofs.lemmas.Fmt.{decimal_digit, first_decimal}
use Rattle.sercos_words.specs.declared.form.Form.TheVariants.{Gen, Replay}
use Rattle.clap.specs.declared.parser.matches.ValueSource.TheVariants.{CommandLine}
use Rattle.clap.specs.Lexer.{long_of, long_of_rest, short_of, short_of_rest, strip_byte}
use Rattle.sercos_words.specs.Form.{without_dashes, plain_form, form_of, word_form, number_form, gen_form, replay_form, number_named}
use Rattle.clap.specs.declared.error.kind.ErrorKind.{ErrorKind}
use Rattle.std.proofs.lemmas.Bool.Decides.{nat_tests}
use Rattle.clap.specs.Words.{Row, Rule, Shape, Text, first_of, is_simple, matches_of, new_rule, fault_of, is_simple_and_free, Kinds, built}
use Rattle.clap.specs.Walk.{Held, Walk, idle, walked, reading_by, bundle_met, settled, finished}
use Rattle.clap.specs.Faults.{walk_fault, turn_fault, settle_fault, defaults_fault, check_fault, entered_fault, flags_fault}
use Rattle.clap.specs.Kinds.{or_else}
use Rattle.sercos_words.specs.CommandLine.{command_line}
use Rattle.clap.specs.Simple.{entered}
use Rattle.clap.specs.declared.error.kind.ErrorKind.TheVariants as kind
use Rattle.clap.proofs.OnLiterals.{clap_on_literals}

pub line_is_simple : is_simple_and_free command_line ≡ true
unfolding clap_on_literals
line_is_simple = refl

pub line_is_plain : is_simple command_line ≡ true
unfolding clap_on_literals
line_is_plain = refl

-- the command that building makes, and its two positional words
abbrev top : Shape
top = (built command_line).top

abbrev rules : List Rule
rules = top.rules

abbrev held : List Row → Option (Text × List Text) → Held
held rows pending = record { rows = rows; pending = pending; skip = 0 }

-- what is found for the first value
abbrev first_row : Text → Row
first_row first = record { id = codes "command"; values = first ∷ []; count = None; source = Some CommandLine; reading = reading_by (slice_index_or rules 0 (new_rule [])) }

-- between two words: after no value, one, or two, and whether a word `--` came
abbrev before : Bool → Walk
before dashes = record { held = held [] None; waiting = idle; position = 1; is_trailing = dashes; stopped = None }

abbrev after_one : Bool → Text → Walk
after_one dashes first = record { held = held [] (Some (codes "command", first ∷ [])); waiting = idle; position = 2; is_trailing = dashes; stopped = None }

abbrev after_two : Bool → Text → Text → Walk
after_two dashes first second = record { held = held (first_row first ∷ []) (Some (codes "number", second ∷ [])); waiting = idle; position = 3; is_trailing = dashes; stopped = None }

-- one turn of the walk
record Turns (w : Walk) (word : Text) (w' : Walk) : Type 0 where
  to : walked rules [] w word ≡ w'
  passes : turn_fault top [] w word ≡ []

-- a word that is a value: the first or the second one, or one too many
record IsValue (dashes : Bool) (word : Text) : Type 0 where
  first : Turns (before dashes) word (after_one dashes word)
  second : (a : Text) → Turns (after_one dashes a) word (after_two dashes a word)
  third : (a b : Text) → turn_fault top [] (after_two dashes a b) word ≡ kind.UnknownArgument ∷ []

-- a word that is a flag, which the command line doesn't have
record IsFlag (word : Text) : Type 0 where
  first : turn_fault top [] (before false) word ≡ kind.UnknownArgument ∷ []
  second : (a : Text) → turn_fault top [] (after_one false a) word ≡ kind.UnknownArgument ∷ []
  third : (a b : Text) → turn_fault top [] (after_two false a b) word ≡ kind.UnknownArgument ∷ []

-- the first word `--`
record IsDashes (word : Text) : Type 0 where
  first : Turns (before false) word (before true)
  second : (a : Text) → Turns (after_one false a) word (after_one true a)
  third : (a b : Text) → Turns (after_two false a b) word (after_two true a b)

value_after_dashes : (word : Text) → IsValue true word
unfolding walked
value_after_dashes word = record {
  first = record { to = refl; passes = refl };
  second = λ a. record { to = refl; passes = refl };
  third = λ a b. refl;
}

-- a word that is no flag, and not `--`
record IsPlainWord (word : Text) : Type 0 where
  no_dashes : bytes_eq word (codes "--") ≡ false
  no_long : long_of word ≡ None
  no_short : short_of word ≡ None

plain_value : (word : Text) → IsPlainWord word → IsValue false word
unfolding walked
plain_value word is = record {
  first = record { to = rw (is.no_dashes, is.no_long, is.no_short) refl; passes = rw (is.no_dashes, is.no_long, is.no_short) refl };
  second = λ a. record { to = rw (is.no_dashes, is.no_long, is.no_short) refl; passes = rw (is.no_dashes, is.no_long, is.no_short) refl };
  third = λ a b. rw (is.no_dashes, is.no_long, is.no_short) refl;
}

is_dashes : (word : Text) → bytes_eq word (codes "--") ≡ true → IsDashes word
unfolding walked
is_dashes word is = record {
  first = record { to = rw is refl; passes = rw is refl };
  second = λ a. record { to = rw is refl; passes = rw is refl };
  third = λ a b. record { to = rw is refl; passes = rw is refl };
}

long_flag : (word : Text) (p : Text × Option Text) → bytes_eq word (codes "--") ≡ false → long_of word ≡ Some p → IsFlag word
unfolding walked
long_flag word p no_dashes long = record {
  first = rw (no_dashes, long) refl;
  second = λ a. rw (no_dashes, long) refl;
  third = λ a b. rw (no_dashes, long) refl;
}

-- `-x`: a flag, if x begins with a character
short_flag : (word : Text) (x : ℕ) (xs : Text) (c : ℕ) → bytes_eq word (codes "--") ≡ false → long_of word ≡ None → short_of word ≡ Some (x ∷ xs) → slice_get (chars (x ∷ xs)) 0 ≡ Some c → IsFlag word
unfolding walked bundle_met flags_fault
short_flag word x xs c no_dashes no_long short char = record {
  first = rw (no_dashes, no_long, short, char) refl;
  second = λ a. rw (no_dashes, no_long, short, char) refl;
  third = λ a b. rw (no_dashes, no_long, short, char) refl;
}

-- text without a character doesn't occur, and would be a value
short_value : (word : Text) (x : ℕ) (xs : Text) → bytes_eq word (codes "--") ≡ false → long_of word ≡ None → short_of word ≡ Some (x ∷ xs) → slice_get (chars (x ∷ xs)) 0 ≡ None → IsValue false word
unfolding walked bundle_met flags_fault
short_value word x xs no_dashes no_long short char = record {
  first = record { to = rw (no_dashes, no_long, short, char) refl; passes = rw (no_dashes, no_long, short, char) refl };
  second = λ a. record { to = rw (no_dashes, no_long, short, char) refl; passes = rw (no_dashes, no_long, short, char) refl };
  third = λ a b. rw (no_dashes, no_long, short, char) refl;
}

-- ---- what a word is

data WordKind (word : Text) : Type 0 where
  dashes_word : bytes_eq word (codes "--") ≡ true → IsDashes word → WordKind word
  value_word : bytes_eq word (codes "--") ≡ false → IsValue false word → WordKind word
  flag : bytes_eq word (codes "--") ≡ false → get_or word 0 0 ≡ 45 → IsFlag word → WordKind word

first_of_stripped : (word : Text) → is_some (strip_byte 45 word) ≡ true → get_or word 0 0 ≡ 45
first_of_stripped [] some = absurd (cc)
first_of_stripped (c ∷ rest) some = go (c == 45) refl some
  where
    go : (test : Bool) → (c == 45) ≡ test → is_some (cond test (Some rest) None) ≡ true → c ≡ 45
    go true is some = grind (arith, nat_tests)
    go false is some = absurd (cc)

long_begins : (word : Text) (p : Text × Option Text) → long_of word ≡ Some p → get_or word 0 0 ≡ 45
long_begins word p is = first_of_stripped word (stripped (strip_byte 45 word) is)
  where
    stripped : (o : Option Text) → option_and_then long_of_rest (option_and_then (strip_byte 45) o) ≡ Some p → is_some o ≡ true
    stripped None is = absurd (cc)
    stripped (Some rest) is = refl

short_begins : (word flags : Text) → short_of word ≡ Some flags → get_or word 0 0 ≡ 45
short_begins word flags is = first_of_stripped word (stripped (strip_byte 45 word) is)
  where
    stripped : (o : Option Text) → option_and_then short_of_rest o ≡ Some flags → is_some o ≡ true
    stripped None is = absurd (cc)
    stripped (Some rest) is = refl

-- what follows a hyphen is some text
short_some : (word : Text) → short_of word ≡ Some [] → ⊥
short_some word is = stripped (strip_byte 45 word) is
  where
    by_test : (test : Bool) (x : ℕ) (xs : Text) → cond test None (Some (x ∷ xs)) ≡ Some [] → ⊥
    by_test true x xs is = cc
    by_test false x xs is = cc

    stripped : (o : Option Text) → option_and_then short_of_rest o ≡ Some [] → ⊥
    stripped None is = cc
    stripped (Some []) is = cc
    stripped (Some (x ∷ xs)) is = by_test (x == 45) x xs is

kind_of_word : (word : Text) → WordKind word
kind_of_word word = by_dashes (bytes_eq word (codes "--")) refl
  where
    by_char : bytes_eq word (codes "--") ≡ false → long_of word ≡ None → (x : ℕ) (xs : Text) → short_of word ≡ Some (x ∷ xs) → (o : Option ℕ) → slice_get (chars (x ∷ xs)) 0 ≡ o → WordKind word
    by_char other no_long x xs short None char = value_word other (short_value word x xs other no_long short char)
    by_char other no_long x xs short (Some c) char = flag other (short_begins word (x ∷ xs) short) (short_flag word x xs c other no_long short char)

    by_short : bytes_eq word (codes "--") ≡ false → long_of word ≡ None → (o : Option Text) → short_of word ≡ o → WordKind word
    by_short other no_long None short = value_word other (plain_value word (record { no_dashes = other; no_long = no_long; no_short = short }))
    by_short other no_long (Some []) short = absurd (short_some word short)
    by_short other no_long (Some (x ∷ xs)) short = by_char other no_long x xs short (slice_get (chars (x ∷ xs)) 0) refl

    by_long : bytes_eq word (codes "--") ≡ false → (o : Option (Text × Option Text)) → long_of word ≡ o → WordKind word
    by_long other None long = by_short other long (short_of word) refl
    by_long other (Some p) long = flag other (long_begins word p long) (long_flag word p other long)

    by_dashes : (test : Bool) → bytes_eq word (codes "--") ≡ test → WordKind word
    by_dashes true is = dashes_word is (is_dashes word is)
    by_dashes false is = by_long is (long_of word) refl

-- ---- the walk over all words

record Runs (w : Walk) (words : List Text) (w' : Walk) : Type 0 where
  to : fold (walked rules []) w words ≡ w'
  passes : walk_fault top [] w words ≡ []

runs_none : (w : Walk) → Runs w [] w
unfolding walk_fault
runs_none w = record { to = refl; passes = refl }

runs_more : (w w1 w2 : Walk) (word : Text) (rest : List Text) → Turns w word w1 → Runs w1 rest w2 → Runs w (word ∷ rest) w2
unfolding walk_fault
runs_more w w1 w2 word rest turn runs = record {
  to = rw turn.to runs.to;
  passes = rw (turn.passes, turn.to) runs.passes;
}

stops : (w : Walk) (word : Text) (rest : List Text) (k : ErrorKind) → turn_fault top [] w word ≡ k ∷ [] → walk_fault top [] w (word ∷ rest) ≡ k ∷ []
unfolding walk_fault
stops w word rest k fault = rw fault refl

stops_later : (w w1 : Walk) (word : Text) (rest : List Text) (k : ErrorKind) → Turns w word w1 → walk_fault top [] w1 rest ≡ k ∷ [] → walk_fault top [] w (word ∷ rest) ≡ k ∷ []
unfolding walk_fault
stops_later w w1 word rest k turn fault = rw (turn.passes, turn.to) fault

-- where the walk stands after some values
unfoldable state : Bool → List Text → Walk
state dashes (a ∷ []) = after_one dashes a
state dashes (a ∷ b ∷ []) = after_two dashes a b
state dashes _ = before dashes

-- all values, where these came before the rest of the words
unfoldable all_values : Bool → List Text → List Text → List Text
all_values dashes done rest = done ++ cond dashes rest (without_dashes rest)

-- how the walk goes over the rest of the words
data Goes (dashes : Bool) (done rest : List Text) : Type 0 where
  taken : (dashes' : Bool) → Runs (state dashes done) rest (state dashes' (all_values dashes done rest)) → length (all_values dashes done rest) ≤ 2 → Goes dashes done rest
  refused : (k : ErrorKind) → walk_fault top [] (state dashes done) rest ≡ k ∷ [] → plain_form (all_values dashes done rest) ≡ None → Goes dashes done rest

all_none : (dashes : Bool) (done : List Text) → all_values dashes done [] ≡ done
unfolding all_values without_dashes
all_none true done = append-nil done
all_none false done = append-nil done

ends : (dashes : Bool) (done : List Text) → length done ≤ 2 → Goes dashes done []
ends dashes done few =
    let all = all_none dashes done in
    taken dashes (rw all (runs_none (state dashes done))) (rw all few)

goes_on : (dashes dashes' : Bool) (done done' rest : List Text) (word : Text) → Turns (state dashes done) word (state dashes' done') → all_values dashes done (word ∷ rest) ≡ all_values dashes' done' rest → Goes dashes' done' rest → Goes dashes done (word ∷ rest)
goes_on dashes dashes' done done' rest word turn same (taken to runs few) =
    taken to (rw same (runs_more _ _ _ word rest turn runs)) (rw same few)
goes_on dashes dashes' done done' rest word turn same (refused k fault none) =
    refused k (stops_later _ _ word rest k turn fault) (rw same none)

-- the values, where the next word is a value, or the first `--`
value_more : (dashes : Bool) (done rest : List Text) (word : Text) → cond dashes true (not (bytes_eq word (codes "--"))) ≡ true → all_values dashes done (word ∷ rest) ≡ all_values dashes (done ++ word ∷ []) rest
unfolding all_values without_dashes
value_more true done rest word is = sym (append_assoc done (word ∷ []) rest)
value_more false done rest word is = by_test (bytes_eq word (codes "--")) is
  where
    by_test : (test : Bool) → not test ≡ true → done ++ cond test rest (word ∷ without_dashes rest) ≡ (done ++ word ∷ []) ++ without_dashes rest
    by_test false is = sym (append_assoc done (word ∷ []) (without_dashes rest))
    by_test true is = absurd (cc)

dashes_more : (done rest : List Text) (word : Text) → bytes_eq word (codes "--") ≡ true → all_values false done (word ∷ rest) ≡ all_values true done rest
unfolding all_values without_dashes
dashes_more done rest word is = rw is refl

three_values : (dashes : Bool) (a b c : Text) (rest : List Text) → plain_form (all_values dashes (a ∷ b ∷ c ∷ []) rest) ≡ None
unfolding all_values plain_form
three_values dashes a b c rest = refl

too_many : (dashes : Bool) (a b c : Text) (rest : List Text) → cond dashes true (not (bytes_eq c (codes "--"))) ≡ true → plain_form (all_values dashes (a ∷ b ∷ []) (c ∷ rest)) ≡ None
too_many dashes a b c rest is = rw (value_more dashes (a ∷ b ∷ []) rest c is) (three_values dashes a b c rest)

-- ---- a word that begins with a hyphen is no word of a form

other_word : (word t : Text) → get_or word 0 0 ≡ 45 → (get_or t 0 0 ≡ 45 → ⊥) → bytes_eq word t ≡ false
other_word word t begins differ = go (bytes_eq word t) refl
  where
    go : (test : Bool) → bytes_eq word t ≡ test → test ≡ false
    go true is = let same : word ≡ t = (bytes_eq-Decides word t).0 is in absurd (differ (sym (ap (λ x. get_or x 0 0) same) ∙ begins))
    go false is = refl

none_in_range : (p : ℕ → Bool) (a n : ℕ) → ((x : ℕ) → a ≤ x → x < a + n → p x ≡ false) → find p (range_with_len a n) ≡ None
none_in_range p a zero none = refl
none_in_range p a (suc n) none = rw (none a (omega arith) (omega arith)) (none_in_range p (a + 1) n (λ x above below. none x (omega arith) (omega arith)))

no_hyphen : (n : ℕ) → n ≤ 255 → get_or (decimal n) 0 0 ≡ 45 → ⊥
no_hyphen zero small is = omega (arith, is, ap (λ digits. get_or digits 0 0) (decimal_digit 0 (omega arith)))
no_hyphen (suc n) small is = omega (arith, is, first_decimal (suc n) (omega arith) (omega (arith, small)))

no_number : (first last : ℕ) (word : Text) → last ≤ 255 → get_or word 0 0 ≡ 45 → number_named first last word ≡ None
unfolding number_named
no_number first last word small begins = none_in_range (λ n. bytes_eq word (decimal n)) first (last + 1 - first) (λ n above below.
    other_word word (decimal n) begins (no_hyphen n (omega (arith, small, above, below))))

no_form_of_number : (a word : Text) → get_or word 0 0 ≡ 45 → number_form a word ≡ None
unfolding number_form gen_form replay_form
no_form_of_number a word begins = by_test (bytes_eq a (codes "gen")) (bytes_eq a (codes "replay"))
  where
    by_test : (gen replay : Bool) → cond gen (option_map Gen (number_named 1 64 word)) (cond replay (option_map Replay (number_named 0 254 word)) None) ≡ None
    by_test true replay = rw (no_number 1 64 word (omega arith) begins) refl
    by_test false true = rw (no_number 0 254 word (omega arith) begins) refl
    by_test false false = refl

no_command : (word : Text) → get_or word 0 0 ≡ 45 → word_form word ≡ None
unfolding word_form
no_command word begins =
    let show = other_word word (codes "show") begins (λ is. absurd (omega (arith, is))) in
    let plan = other_word word (codes "plan") begins (λ is. absurd (omega (arith, is))) in
    let run = other_word word (codes "run") begins (λ is. absurd (omega (arith, is))) in
    let check = other_word word (codes "check") begins (λ is. absurd (omega (arith, is))) in
    let margin = other_word word (codes "margin") begins (λ is. absurd (omega (arith, is))) in
    let backup = other_word word (codes "backup") begins (λ is. absurd (omega (arith, is))) in
    let restore = other_word word (codes "restore") begins (λ is. absurd (omega (arith, is))) in
    rw (show, plan, margin, run, check, backup, restore) refl

flag_first : (word : Text) (rest : List Text) → get_or word 0 0 ≡ 45 → plain_form (word ∷ rest) ≡ None
unfolding plain_form number_form
flag_first word [] begins = no_command word begins
flag_first word (number ∷ []) begins =
    let gen = other_word word (codes "gen") begins (λ is. absurd (omega (arith, is))) in
    let replay = other_word word (codes "replay") begins (λ is. absurd (omega (arith, is))) in
    rw (gen, replay) refl
flag_first word (a ∷ b ∷ rest) begins = refl

flag_second : (a word : Text) (rest : List Text) → get_or word 0 0 ≡ 45 → plain_form (a ∷ word ∷ rest) ≡ None
unfolding plain_form
flag_second a word [] begins = no_form_of_number a word begins
flag_second a word (b ∷ rest) begins = refl

flagged_one : (a word : Text) (rest : List Text) → bytes_eq word (codes "--") ≡ false → get_or word 0 0 ≡ 45 → plain_form (all_values false (a ∷ []) (word ∷ rest)) ≡ None
unfolding all_values without_dashes
flagged_one a word rest other begins = rw other (flag_second a word (without_dashes rest) begins)

flagged_none : (word : Text) (rest : List Text) → bytes_eq word (codes "--") ≡ false → get_or word 0 0 ≡ 45 → plain_form (all_values false [] (word ∷ rest)) ≡ None
unfolding all_values without_dashes
flagged_none word rest other begins = rw other (flag_first word (without_dashes rest) begins)

-- ---- all words

not_true : (test : Bool) → test ≡ false → not test ≡ true
not_true test is = rw is refl

goes_two : (dashes : Bool) (a b : Text) (rest : List Text) → Goes dashes (a ∷ b ∷ []) rest
unfolding state
goes_two dashes a b [] = ends dashes (a ∷ b ∷ []) (omega arith)
goes_two true a b (word ∷ rest) = refused _ (stops _ word rest _ ((value_after_dashes word).third a b)) (too_many true a b word rest refl)
goes_two false a b (word ∷ rest) = by_kind (kind_of_word word) (goes_two true a b rest)
  where
    by_kind : WordKind word → Goes true (a ∷ b ∷ []) rest → Goes false (a ∷ b ∷ []) (word ∷ rest)
    by_kind (dashes_word is turns) further = goes_on false true (a ∷ b ∷ []) (a ∷ b ∷ []) rest word (turns.third a b) (dashes_more (a ∷ b ∷ []) rest word is) further
    by_kind (value_word other turns) further = refused _ (stops _ word rest _ (turns.third a b)) (too_many false a b word rest (not_true _ other))
    by_kind (flag other begins turns) further = refused _ (stops _ word rest _ (turns.third a b)) (too_many false a b word rest (not_true _ other))

goes_one : (dashes : Bool) (a : Text) (rest : List Text) → Goes dashes (a ∷ []) rest
unfolding state
goes_one dashes a [] = ends dashes (a ∷ []) (omega arith)
goes_one true a (word ∷ rest) = goes_on true true (a ∷ []) (a ∷ word ∷ []) rest word ((value_after_dashes word).second a) (value_more true (a ∷ []) rest word refl) (goes_two true a word rest)
goes_one false a (word ∷ rest) = by_kind (kind_of_word word) (goes_one true a rest)
  where
    by_kind : WordKind word → Goes true (a ∷ []) rest → Goes false (a ∷ []) (word ∷ rest)
    by_kind (dashes_word is turns) further = goes_on false true (a ∷ []) (a ∷ []) rest word (turns.second a) (dashes_more (a ∷ []) rest word is) further
    by_kind (value_word other turns) further = goes_on false false (a ∷ []) (a ∷ word ∷ []) rest word (turns.second a) (value_more false (a ∷ []) rest word (not_true _ other)) (goes_two false a word rest)
    by_kind (flag other begins turns) further = refused _ (stops _ word rest _ (turns.second a)) (flagged_one a word rest other begins)

goes_none : (dashes : Bool) (rest : List Text) → Goes dashes [] rest
unfolding state
goes_none dashes [] = ends dashes [] (omega arith)
goes_none true (word ∷ rest) = goes_on true true [] (word ∷ []) rest word ((value_after_dashes word).first) (value_more true [] rest word refl) (goes_one true word rest)
goes_none false (word ∷ rest) = by_kind (kind_of_word word) (goes_none true rest)
  where
    by_kind : WordKind word → Goes true [] rest → Goes false [] (word ∷ rest)
    by_kind (dashes_word is turns) further = goes_on false true [] [] rest word turns.first (dashes_more [] rest word is) further
    by_kind (value_word other turns) further = goes_on false false [] (word ∷ []) rest word turns.first (value_more false [] rest word (not_true _ other)) (goes_one false word rest)
    by_kind (flag other begins turns) further = refused _ (stops _ word rest _ turns.first) (flagged_none word rest other begins)

-- ---- what a parse comes to

-- a parse's kinds of error, by the walk's end and the walk's own
fault_by : Walk → Kinds → Kinds
fault_by w fault =
    or_else fault
    (or_else (entered_fault (built command_line) w.stopped)
    (or_else (settle_fault rules top.args_override_self w.held)
    (or_else (defaults_fault (settled rules w.held).rows rules)
    (check_fault top (finished rules w.held) (is_some (entered (built command_line) w.stopped))))))

fault_is : (words : List Text) → fault_of command_line words ≡ fault_by (fold (walked rules []) (before false) words) (walk_fault top [] (before false) words)
unfolding fault_by
fault_is words = refl

matches_are : (words : List Text) → matches_of command_line words ≡ finished rules (fold (walked rules []) (before false) words).held
matches_are words = refl

no_fault : (dashes : Bool) (done : List Text) → length done ≤ 2 → fault_by (state dashes done) [] ≡ []
unfolding fault_by state defaults_fault
no_fault dashes [] few = refl
no_fault dashes (a ∷ []) few = refl
no_fault dashes (a ∷ b ∷ []) few = refl
no_fault dashes (a ∷ b ∷ c ∷ done) few = absurd (omega arith)

command_at : (dashes : Bool) (done : List Text) → length done ≤ 2 → first_of (codes "command") (finished rules (state dashes done).held) ≡ slice_get done 0
unfolding state
command_at dashes [] few = refl
command_at dashes (a ∷ []) few = refl
command_at dashes (a ∷ b ∷ []) few = refl
command_at dashes (a ∷ b ∷ c ∷ done) few = absurd (omega arith)

number_at : (dashes : Bool) (done : List Text) → length done ≤ 2 → first_of (codes "number") (finished rules (state dashes done).held) ≡ slice_get done 1
unfolding state
number_at dashes [] few = refl
number_at dashes (a ∷ []) few = refl
number_at dashes (a ∷ b ∷ []) few = refl
number_at dashes (a ∷ b ∷ c ∷ done) few = absurd (omega arith)

-- words that `clap` takes: their values are the words without the first `--`
pub record AreTaken (words : List Text) : Type 0 where
  pub passes : fault_of command_line words ≡ []
  pub command : first_of (codes "command") (matches_of command_line words) ≡ slice_get (without_dashes words) 0
  pub number : first_of (codes "number") (matches_of command_line words) ≡ slice_get (without_dashes words) 1
  pub few : length (without_dashes words) ≤ 2

-- what a parse of words comes to
pub data Reads (words : List Text) : Type 0 where
  taken_words : AreTaken words → Reads words
  refused_words : (k : ErrorKind) → fault_of command_line words ≡ k ∷ [] → form_of words ≡ None → Reads words

are_taken : (dashes : Bool) (words : List Text) → Runs (before false) words (state dashes (without_dashes words)) → length (without_dashes words) ≤ 2 → AreTaken words
are_taken dashes words runs few = record {
  passes = fault_is words ∙ rw (runs.to, runs.passes) (no_fault dashes (without_dashes words) few);
  command = ap (first_of (codes "command")) (matches_are words) ∙ rw runs.to (command_at dashes (without_dashes words) few);
  number = ap (first_of (codes "number")) (matches_are words) ∙ rw runs.to (number_at dashes (without_dashes words) few);
  few = few;
}

are_refused : (words : List Text) (k : ErrorKind) → walk_fault top [] (before false) words ≡ k ∷ [] → fault_of command_line words ≡ k ∷ []
unfolding fault_by
are_refused words k fault = fault_is words ∙ ap (fault_by (fold (walked rules []) (before false) words)) fault

pub words_read : (words : List Text) → Reads words
unfolding state all_values form_of
words_read words = by_walk (goes_none false words)
  where
    by_walk : Goes false [] words → Reads words
    by_walk (taken dashes runs few) = taken_words (are_taken dashes words runs few)
    by_walk (refused k fault none) = refused_words k (are_refused words k fault) none
