-- The keys of a table: values under them, and the keys that have no meaning.
use Rattle.std.specs.Prelude.{ℕ, ℤ, pos, negsuc, ◌&&◌, ◌||◌, Bool, false, nat_le, if◌then◌else◌, List, [], ◌∷◌, Option, Some, None, unwrap_or, Ok, Err}
use Rattle.std.specs.Str.{bytes_eq}
use Rattle.std.specs.Ordering.{nat_cmp, is_lt}
use Rattle.std.specs.Cmp.Lexicographic.{slice_cmp}
use Rattle.toml.specs.Data.{Data, Members, no_members, member, get_member, as_integer, as_bool}
use Rattle.sercos_document.specs.declared.path.Place.{Place}
use Rattle.sercos_document.specs.declared.refusal.BadDocument.TheVariants as bad
use Rattle.sercos_document.specs.Paths.{path}
use Rattle.sercos_document.specs.Answers.{Answer, ◌>>=◌, or_refused}

-- a table, and where it is
pub record Located : Type 0 where
  pub place : Place
  pub members : Members

-- The value under a key as one of TOML's types: None if the key is absent, Kind if the value has
-- another type.
abbrev pub typed : {A : Type 0} → (Data → Option A) → List ℕ → Option Data → Answer (Option A)
typed kind p None = Ok None
typed kind p (Some d) = or_refused (bad.Kind p) (kind d) >>= (λ x. Ok (Some x))

unfoldable pub optional : {A : Type 0} → (Data → Option A) → Located → List ℕ → Answer (Option A)
optional kind t key = typed kind (path t.place key) (get_member key t.members)

-- the same, but Missing if the key is absent
unfoldable pub required : {A : Type 0} → (Data → Option A) → Located → List ℕ → Answer A
required kind t key = optional kind t key >>= or_refused (bad.Missing (path t.place key))

-- a number from `low` to `high`; otherwise Range with the number
unfoldable pub between : List ℕ → ℕ → ℕ → ℤ → Answer ℕ
between p low high (pos n) = if nat_le low n && nat_le n high then Ok n else Err (bad.Range p (pos n))
between p low high (negsuc n) = Err (bad.Range p (negsuc n))

-- a required number from `low` to `high`
unfoldable pub number : Located → List ℕ → ℕ → ℕ → Answer ℕ
number t key low high = required as_integer t key >>= between (path t.place key) low high

-- a number from `low` to `high`, or the default if the key is absent
abbrev pub between_or : ℕ → List ℕ → ℕ → ℕ → Option ℤ → Answer ℕ
between_or default p low high None = Ok default
between_or default p low high (Some z) = between p low high z

unfoldable pub number_or : Located → List ℕ → ℕ → ℕ → ℕ → Answer ℕ
number_or t key low high default = optional as_integer t key >>= between_or default (path t.place key) low high

-- a boolean, or the default if the key is absent
unfoldable pub boolean_or : Located → List ℕ → Bool → Answer Bool
boolean_or t key default = optional as_bool t key >>= (λ truth. Ok (unwrap_or truth default))

-- whether the key is one of these
unfoldable pub is_among : List ℕ → List (List ℕ) → Bool
is_among key [] = false
is_among key (k ∷ keys) = bytes_eq key k || is_among key keys

-- the lesser of two keys in byte order
abbrev pub lesser : List ℕ → Option (List ℕ) → List ℕ
lesser key None = key
lesser key (Some other) = if is_lt (slice_cmp nat_cmp other key) then other else key

-- the least key of a table that isn't one of these
unfoldable pub least_unknown : List (List ℕ) → Members → Option (List ℕ)
least_unknown keys no_members = None
least_unknown keys (member key value rest) =
    if is_among key keys then least_unknown keys rest else Some (lesser key (least_unknown keys rest))

abbrev pub refuse_unknown : Place → Option (List ℕ) → Answer (Unit {0})
refuse_unknown place None = Ok tt
refuse_unknown place (Some key) = Err (bad.Unknown (path place key))

-- Unknown with the least key of a table that isn't one of these, if there is one
unfoldable pub known : Located → List (List ℕ) → Answer (Unit {0})
known t keys = refuse_unknown t.place (least_unknown keys t.members)
