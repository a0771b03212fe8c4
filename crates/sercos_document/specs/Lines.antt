-- The line of a refusal. Its number is that of the refusal's kind.
use Rattle.std.specs.Prelude.{ℕ, List, [], ◌∷◌, codes}
use Rattle.std.specs.Fmt.{signed_decimal}
use Rattle.std.specs.List.{concat}
use Rattle.sercos_document.specs.declared.refusal.BadDocument.{BadDocument}
use Rattle.sercos_document.specs.declared.refusal.BadDocument.TheVariants.{Toml, Missing, Kind, Range, Twice, Unknown, Memory}

-- a line that ends with a path
unfoldable pub path_line : List ℕ → List ℕ → List ℕ
path_line head p = concat (head ∷ p ∷ codes "\n" ∷ [])

-- the line of a value that isn't allowed
unfoldable pub range_line : List ℕ → List ℕ → List ℕ
range_line p digits = concat (codes "refused 4 range " ∷ p ∷ codes " " ∷ digits ∷ codes "\n" ∷ [])

-- the line of each refusal; `Memory` is not a refusal, and has no line
unfoldable pub line_of : BadDocument → List ℕ
line_of Toml = codes "refused 1 toml\n"
line_of (Missing p) = path_line (codes "refused 2 missing ") p
line_of (Kind p) = path_line (codes "refused 3 kind ") p
line_of (Range p value) = range_line p (signed_decimal value)
line_of (Twice p) = path_line (codes "refused 5 twice ") p
line_of (Unknown p) = path_line (codes "refused 6 unknown ") p
line_of Memory = []
