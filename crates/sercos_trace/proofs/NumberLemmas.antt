-- Numbers within the bounds of their fields.
use Rattle.std.proofs.Common.{ℕ, zero, suc, ◌<◌, List, [], ◌∷◌, ◌++◌, length, slice_index, Option, Some, None, arith}
use Rattle.sercos_trace.specs.Lines.{AreWithin, IsNumber, bound_by, bounds_of}
use Rattle.sercos_text.specs.declared.template.Field.{Field}
use Rattle.sercos_text.specs.declared.template.Field.TheVariants.{Number, Signed, Hex, Digits, Ident}
use Rattle.sercos_text.specs.Templates.{field_of, Value, IsPart, IsOf, AreOf, part_left, numbers_in}
use Rattle.sercos_text.specs.Templates.Value.{number, signed, bytes, ident}

pub number_in : (numbers bounds : List ℕ) (k : ℕ) → AreWithin numbers bounds → k < length bounds → IsNumber numbers k (slice_index bounds k)
number_in [] [] k within inside = absurd (omega (arith, inside))
number_in [] (bound ∷ bounds) k within inside = absurd within
number_in (n ∷ numbers) [] k within inside = absurd (omega (arith, inside))
number_in (n ∷ numbers) (bound ∷ bounds) zero within inside = (omega arith, within.0)
number_in (n ∷ numbers) (bound ∷ bounds) (suc k) within inside =
    let rest = number_in numbers bounds k within.1 (omega (arith, inside)) in (omega (arith, rest.0), rest.1)

-- values of a template's fields have their numbers within its bounds
within_part : (found : Option Field) (values : List Value) (bounds : List ℕ) → IsPart found values → AreWithin (numbers_in (part_left found values)) bounds → AreWithin (numbers_in values) (bound_by found ++ bounds)
unfolding IsPart IsOf part_left numbers_in bound_by
within_part None values bounds part rest = rest
within_part (Some field) [] bounds part rest = absurd part
within_part (Some (Number most)) (number n ∷ values) bounds part rest = (part, rest)
within_part (Some Signed) (signed z ∷ values) bounds part rest = rest
within_part (Some (Hex most)) (bytes list ∷ values) bounds part rest = rest
within_part (Some (Digits count)) (bytes list ∷ values) bounds part rest = rest
within_part (Some Ident) (ident raw ∷ values) bounds part rest = rest
within_part (Some _) (_ ∷ values) bounds part rest = absurd part

pub within : (template : List ℕ) (values : List Value) → AreOf template values → AreWithin (numbers_in values) (bounds_of template)
unfolding AreOf bounds_of numbers_in
within [] [] are = tt
within [] (value ∷ values) are = absurd are
within (letter ∷ template) values are = within_part (field_of letter) values (bounds_of template) are.0 (within template (part_left (field_of letter) values) are.1)
