-- The words of the program.
use Rattle.std.specs.Prelude.{ℕ, Bool, true, false, if◌then◌else◌, List, [], ◌∷◌, codes, Option, Some, None}
use Rattle.std.specs.Str.{bytes_eq}
use Rattle.sercos_multi.specs.declared.words.Form.{Form}
use Rattle.sercos_multi.specs.declared.words.Form.TheVariants.{Run}

-- the words without the first `--`, wherever it is
unfoldable pub without_dashes : List (List ℕ) → List (List ℕ)
without_dashes [] = []
without_dashes (word ∷ words) = if bytes_eq word (codes "--") then words else word ∷ without_dashes words

-- the one form is the word `run`
unfoldable pub run_form : List (List ℕ) → Option Form
run_form (word ∷ []) = if bytes_eq word (codes "run") then Some Run else None
run_form _ = None

unfoldable pub form_of : List (List ℕ) → Option Form
form_of words = run_form (without_dashes words)

-- whether the source is read: not with words in no form
unfoldable pub reads_input : Option Form → Bool
reads_input None = false
reads_input (Some Run) = true
