-- The words of the commands.
use Rattle.std.specs.Prelude.{ℕ, ◌≤◌, ◌+◌, ◌-◌, cond, Bool, true, false, List, [], ◌∷◌, codes, decimal, Option, Some, None, option_map}
use Rattle.std.specs.List.{find, range_with_len}
use Rattle.std.specs.Str.{bytes_eq}
use Rattle.sercos_words.specs.declared.form.Form.{Form}
use Rattle.sercos_words.specs.declared.form.Form.TheVariants.{Show, Plan, Margin, Run, Check, Backup, Restore, Gen, Replay}

-- the words without the first `--`, at any place
unfoldable pub without_dashes : List (List ℕ) → List (List ℕ)
without_dashes [] = []
without_dashes (word ∷ words) = cond (bytes_eq word (codes "--")) words (word ∷ without_dashes words)

-- the form of one word
unfoldable pub word_form : List ℕ → Option Form
word_form word =
    cond (bytes_eq word (codes "show")) (Some Show)
    (cond (bytes_eq word (codes "plan")) (Some Plan)
    (cond (bytes_eq word (codes "margin")) (Some Margin)
    (cond (bytes_eq word (codes "run")) (Some Run)
    (cond (bytes_eq word (codes "check")) (Some Check)
    (cond (bytes_eq word (codes "backup")) (Some Backup)
    (cond (bytes_eq word (codes "restore")) (Some Restore) None))))))

-- the number from the first to the last of these that a word names, in decimal digits
unfoldable pub number_named : ℕ → ℕ → List ℕ → Option ℕ
number_named first last word = find (λ n. bytes_eq word (decimal n)) (range_with_len first (last + 1 - first))

-- `gen` names 1 to 64 drives
unfoldable pub gen_form : List ℕ → Option Form
gen_form number = option_map Gen (number_named 1 64 number)

-- `replay` names an address, 0 to 254
unfoldable pub replay_form : List ℕ → Option Form
replay_form number = option_map Replay (number_named 0 254 number)

-- the form of a word and a number
unfoldable pub number_form : List ℕ → List ℕ → Option Form
number_form word number =
    cond (bytes_eq word (codes "gen")) (gen_form number)
    (cond (bytes_eq word (codes "replay")) (replay_form number) None)

-- the form of words that hold no `--`
unfoldable pub plain_form : List (List ℕ) → Option Form
plain_form (word ∷ []) = word_form word
plain_form (word ∷ number ∷ []) = number_form word number
plain_form _ = None

-- the form of the words, if they have one; one word `--` may be at any place
unfoldable pub form_of : List (List ℕ) → Option Form
form_of words = plain_form (without_dashes words)

-- whether a command reads its source: `gen` doesn't, and words in no form don't
unfoldable pub reads_input : Option Form → Bool
reads_input None = false
reads_input (Some (Gen drives)) = false
reads_input (Some _) = true

-- The number of drives that `gen` names is 1 to 64. An address that `replay` names is at most 254.
abbrev pub HasNumber : Form → Type 0
HasNumber (Gen drives) = (1 ≤ drives) × (drives ≤ 64)
HasNumber (Replay address) = address ≤ 254
HasNumber _ = Unit {0}
