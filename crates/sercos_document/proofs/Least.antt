-- The least unknown key of a map is the first one.
use Rattle.std.proofs.Common.{◌≡◌, ℕ, if◌then◌else◌, List, [], ◌∷◌, Option, Some, None, String, Global, Less, string_bytes, nat_cmp, Bor, refl, ap, sym, ◌∙◌, inl, inr}
use Rattle.std.proofs.lemmas.Bool.{cases_Bool}
use Rattle.std.proofs.lemmas.Cmp.{nat_list_cmp_total}
use Rattle.std.specs.Cmp.Lexicographic.{slice_cmp}
use Rattle.std.specs.Prelude.{not, option_map}
use Rattle.std.specs.List.{AllByRecursion, find}
use Rattle.std.specs.List.Sorted.{IsStrictlySortedBy}
use Rattle.std.specs.Map.{keys_of}
use Rattle.std.specs.Ordering.{ordering_reverse}
use Rattle.std.specs.String.{string_cmp}
use Rattle.toml.specs.declared.value.Value.{Value}
use Rattle.toml.specs.View.{members_view}
use Rattle.toml.specs.Data.{Members, no_members, member}
use Rattle.sercos_document.specs.Tables.{is_among, lesser, least_unknown}

-- the first key that isn't one of these
first_unknown : List (List ℕ) → Members → Option (List ℕ)
first_unknown keys no_members = None
first_unknown keys (member key value rest) = if is_among key keys then first_unknown keys rest else Some key

Entry : Type 0
Entry = String Global × Value

-- the first unknown key lies above a key that lies below all
abbrev IsAbove : List ℕ → Option (List ℕ) → Type 0
IsAbove k None = Unit {0}
IsAbove k (Some l) = slice_cmp nat_cmp k l ≡ Less

lesser_first : (k : List ℕ) (o : Option (List ℕ)) → IsAbove k o → lesser k o ≡ k
lesser_first k None h = refl
lesser_first k (Some l) h = let back = nat_list_cmp_total.antisymm l k ∙ ap ordering_reverse h in rw back refl

above : (ks : List (List ℕ)) (k : List ℕ) (es : List (String Global × Value)) → AllByRecursion (λ y. slice_cmp nat_cmp k (string_bytes y) ≡ Less) (keys_of es) → IsAbove k (first_unknown ks (members_view es))
unfolding first_unknown
above ks k [] h = tt
above ks k (e ∷ es) h =
    elim (cases_Bool (is_among (string_bytes e.0) ks)) [
      | inl known ↦ rw known (above ks k es h.1)
      | inr other ↦ rw other h.0
    ]

least_first : (ks : List (List ℕ)) (es : List (String Global × Value)) → IsStrictlySortedBy string_cmp (keys_of es) → least_unknown ks (members_view es) ≡ first_unknown ks (members_view es)
unfolding IsStrictlySortedBy least_unknown first_unknown
least_first ks [] h = refl
least_first ks (e ∷ es) h =
    let rest = least_first ks es h.1 in
    elim (cases_Bool (is_among (string_bytes e.0) ks)) [
      | inl known ↦ rw known rest
      | inr other ↦ rw (other, rest) (ap Some (lesser_first (string_bytes e.0) (first_unknown ks (members_view es)) (above ks (string_bytes e.0) es h.0)))
    ]

-- a search among the keys finds the least unknown key
found_first : (ks : List (List ℕ)) (es : List (String Global × Value)) → option_map string_bytes (find (λ k. not (is_among (string_bytes k) ks)) (keys_of es)) ≡ first_unknown ks (members_view es)
unfolding first_unknown
found_first ks [] = refl
found_first ks (e ∷ es) =
    elim (cases_Bool (is_among (string_bytes e.0) ks)) [
      | inl known ↦ rw known (found_first ks es)
      | inr other ↦ rw other refl
    ]

pub least_found : (ks : List (List ℕ)) (es : List (String Global × Value)) (found : Option (Bor (String Global))) → IsStrictlySortedBy string_cmp (keys_of es)
    → option_map (λ k. k.now) found ≡ find (λ k. not (is_among (string_bytes k) ks)) (keys_of es) → option_map (λ k. string_bytes k.now) found ≡ least_unknown ks (members_view es)
least_found ks es found sorted is = seen found ∙ ap (option_map string_bytes) is ∙ found_first ks es ∙ sym (least_first ks es sorted)
  where
    seen : (o : Option (Bor (String Global))) → option_map (λ k. string_bytes k.now) o ≡ option_map string_bytes (option_map (λ k. k.now) o)
    seen None = refl
    seen (Some k) = refl
