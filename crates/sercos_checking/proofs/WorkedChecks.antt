-- Captures whose verdicts are worked out by hand. The checker computes them from the definitions.
use Rattle.std.proofs.Common.{◌≡◌, [], ◌∷◌, ◌++◌, codes, map, refl}
use Rattle.std.specs.Fmt.{digits}
use Rattle.std.specs.List.{range_with_len}
use Rattle.sercos_text.specs.Tails.{end_fault, tail_fault, tail_of}
use Rattle.sercos_text.specs.Templates.{field_of, field_fault, field_len, byte_fault, part_fault, part_len, line_fault, field_value, part_values, values_of, items_of, numbers_in, signed_by, bytes_by}
use Rattle.sercos_trace.specs.Kinds.{template_of, tail_for, later, kinds_fault, first_kind}
use Rattle.sercos_trace.specs.Lines.{line_by}
use Rattle.sercos_check.specs.Names.{rule_name}
use Rattle.sercos_check.specs.Tests.{can_follow}
use Rattle.sercos_checking.specs.declared.verdict.Verdict.TheVariants as verdict
use Rattle.sercos_answer.specs.Answer.{line_feed}
use Rattle.sercos_answer.specs.Lines.{lines_of}
use Rattle.sercos_checking.specs.Checking.{read_as, grammar_fault, shape_fault, column_of, capture_fault, verdict_by, verdict_of, name_with, violation_text, clean_text, verdict_text}

-- the empty text lacks its head
empty : verdict_of [] ≡ verdict.Refused 1 1
unfolding verdict_of verdict_by lines_of capture_fault
empty = refl

violation : verdict_text (verdict.Violation 8 6) ≡ codes "violation line 8 rule 6 gap" ++ line_feed
unfolding verdict_text violation_text name_with rule_name digits
violation = refl

-- the names of the nine rules; no other number has one
names : map name_with (range_with_len 0 11)
    ≡ [] ∷ codes "order" ∷ codes "frame" ∷ codes "layout" ∷ codes "phase" ∷ codes "start" ∷ codes "gap" ∷ codes "recovery" ∷ codes "transition"
    ∷ codes "end" ∷ [] ∷ []
unfolding name_with rule_name
names = refl

clean : verdict_text (verdict.Clean 8) ≡ codes "clean 8" ++ line_feed
unfolding verdict_text clean_text digits
clean = refl

-- a head that ends after its first line
short : verdict_of (codes "sercos 1") ≡ verdict.Refused 2 1
unfolding verdict_of verdict_by lines_of capture_fault column_of grammar_fault shape_fault read_as can_follow kinds_fault first_kind later template_of tail_for line_fault part_fault part_len field_of field_fault field_len byte_fault end_fault tail_fault line_by values_of part_values field_value items_of tail_of numbers_in signed_by bytes_by
short = refl

-- another version is refused at its number
version : verdict_of (codes "sercos 2") ≡ verdict.Refused 1 8
unfolding verdict_of verdict_by lines_of capture_fault column_of grammar_fault shape_fault read_as can_follow kinds_fault first_kind later template_of tail_for line_fault part_fault part_len field_of field_fault field_len byte_fault end_fault tail_fault line_by values_of part_values field_value items_of tail_of numbers_in signed_by bytes_by
version = refl
