use Rattle.std.proofs.Common.{sym, ap, ◌∙◌}
use Rattle.std.specs.Prelude.{option_and_then}
use Rattle.sercos_block.specs.Rings.{attribute_in, built_in_attribute}
use Rattle.sercos_block.specs.declared.built_in.BuiltIn.{BuiltIn}
use Rattle.sercos_block.proofs.carried.built_in_attribute.Goals as goal

pub returns-in-Some : goal.returns-in-Some
unfolding built_in_attribute
returns-in-Some c =
    c.attribute_in.ensures ∙ ap (option_and_then (λ (row : BuiltIn). attribute_in row.attribute)) (sym c.in-Some.is ∙ c.row_in.ensures)

pub returns-in-None : goal.returns-in-None
unfolding built_in_attribute
returns-in-None c = ap (option_and_then (λ (row : BuiltIn). attribute_in row.attribute)) (sym c.in-None.is ∙ c.row_in.ensures)
