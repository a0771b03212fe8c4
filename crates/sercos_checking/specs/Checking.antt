-- What `check` answers to a capture.
use Rattle.std.specs.Prelude.{ℕ, ◌+◌, not, List, [], ◌∷◌, ◌++◌, length, codes, decimal, Option, Some, None, unwrap_or}
use Rattle.std.specs.Bool.{then_some}
use Rattle.std.specs.Option.{option_or, option_map}
use Rattle.sercos_io.specs.declared.status.Status.{Status}
use Rattle.sercos_io.specs.declared.status.Status.TheVariants.{Done, No, Refused}
use Rattle.sercos_trace.specs.declared.reading.Line.{Line}
use Rattle.sercos_trace.specs.declared.reading.Line.TheVariants as line
use Rattle.sercos_trace.specs.Kinds.{all_kinds, kinds_fault}
use Rattle.sercos_trace.specs.Lines.{line_in}
use Rattle.sercos_check.specs.Names.{rule_name, rule_with}
use Rattle.sercos_check.specs.Shape.{has_head}
use Rattle.sercos_check.specs.Tests.{can_follow}
use Rattle.sercos_check.specs.Verdicts.{rule_broken}
use Rattle.sercos_checking.specs.declared.verdict.Verdict.{Verdict}
use Rattle.sercos_checking.specs.declared.verdict.Verdict.TheVariants as verdict
use Rattle.sercos_answer.specs.Answer.{Answer, line_feed, refused_text}
use Rattle.sercos_answer.specs.Lines.{lines_of}

-- the line of a trace that a text is; any other text has a fault of grammar
unfoldable pub read_as : List ℕ → Line
read_as text = unwrap_or (line_in text) line.Other

-- the column of a fault of grammar: the first byte with which no line of a trace goes on
unfoldable pub grammar_fault : List ℕ → Option ℕ
grammar_fault text = option_map (λ place. place + 1) (kinds_fault all_kinds text)

-- the column of a fault of shape: a line that can't follow those before it is refused at its first one
unfoldable pub shape_fault : List Line → List ℕ → Option ℕ
shape_fault before text = then_some (not (can_follow before (read_as text))) 1

-- the column at which a text is refused after the lines before it, the newest of which comes first
unfoldable pub column_of : List Line → List ℕ → Option ℕ
column_of before text = option_or (grammar_fault text) (shape_fault before text)

-- The first fault of grammar or shape: its line, counted from 1, and its column. If there is none, a head that ends early is
-- refused one past the last line.
unfoldable pub capture_fault : List Line → List (List ℕ) → Option (ℕ × ℕ)
capture_fault before [] = then_some (not (has_head before)) (length before + 1, 1)
capture_fault before (text ∷ texts) =
    option_or (option_map (λ column. (length before + 1, column)) (column_of before text)) (capture_fault (read_as text ∷ before) texts)

-- the first line that breaks a rule, counted from 1, and the lowest rule that it breaks
unfoldable pub first_violation : List Line → List (List ℕ) → Option (ℕ × ℕ)
first_violation before [] = None
first_violation before (text ∷ texts) =
    option_or (option_map (λ rule. (length before + 1, rule)) (rule_broken before (read_as text)))
    (first_violation (read_as text ∷ before) texts)

-- A fault goes before a violation, wherever they are.
unfoldable pub verdict_by : Option (ℕ × ℕ) → Option (ℕ × ℕ) → ℕ → Verdict
verdict_by (Some fault) violation lines = verdict.Refused fault.0 fault.1
verdict_by None (Some broken) lines = verdict.Violation broken.0 broken.1
verdict_by None None lines = verdict.Clean lines

-- the verdict on a capture
unfoldable pub verdict_of : List ℕ → Verdict
verdict_of text = let lines = lines_of text in verdict_by (capture_fault [] lines) (first_violation [] lines) (length lines)

-- the name of the rule with a number; no text if no rule has it
unfoldable pub name_with : ℕ → List ℕ
name_with number = unwrap_or (option_map rule_name (rule_with number)) []

unfoldable pub violation_text : ℕ → ℕ → List ℕ
violation_text line rule = codes "violation line " ++ decimal line ++ codes " rule " ++ decimal rule ++ codes " " ++ name_with rule ++
    line_feed

unfoldable pub clean_text : ℕ → List ℕ
clean_text lines = codes "clean " ++ decimal lines ++ line_feed

unfoldable pub verdict_text : Verdict → List ℕ
verdict_text (verdict.Refused line column) = refused_text line column
verdict_text (verdict.Violation line rule) = violation_text line rule
verdict_text (verdict.Clean lines) = clean_text lines

unfoldable pub verdict_status : Verdict → Status
verdict_status (verdict.Refused line column) = Refused
verdict_status (verdict.Violation line rule) = No
verdict_status (verdict.Clean lines) = Done

-- the answer to a capture
unfoldable pub check_answer : List ℕ → Answer
check_answer text = record { status = verdict_status (verdict_of text); output = verdict_text (verdict_of text) }
