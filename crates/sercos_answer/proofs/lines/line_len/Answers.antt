use Rattle.std.proofs.Common.{◌≡◌, ℕ, ◌==◌, Bool, true, false, List, length, Option, Some, None, unwrap_or, refl, sym, ◌∙◌, arith}
use Rattle.std.specs.List.{position_or_len}
use Rattle.std.proofs.lemmas.List.Sums.{position_or_len_is}
use Rattle.std.proofs.lemmas.Bool.{false_from_ne_true}
use Rattle.memchr.specs.Find.{IsFirstByte, is_byte}
use Rattle.sercos_answer.proofs.lines.line_len.Goals as goal

first_place : (text : List ℕ) (found : Option ℕ) → IsFirstByte (is_byte 10) text found → unwrap_or found (length text) ≡ position_or_len (λ byte. byte == 10) text
first_place text None nowhere =
    sym (position_or_len_is (λ byte. byte == 10) text (length text) 0 (omega arith) (λ k below. false_from_ne_true _ (nowhere k (omega arith) below)) (λ inside. absurd (omega arith)))
first_place text (Some place) (first, is) =
    sym (position_or_len_is (λ byte. byte == 10) text place 0 (omega (arith, first.high)) (λ k below. false_from_ne_true _ (first.before k (omega arith) below)) (λ inside. is))

pub returns-clause-value : goal.returns-clause-value
returns-clause-value c = c.unwrap_or.ensures ∙ first_place c.args.text.now c.memchr.result c.memchr.ensures
