-- What the checkers of a capture have taken. Lines are listed the newest first.
use Rattle.std.specs.Prelude.{ℕ, ◌+◌, not, List, [], ◌∷◌, length, map, Option, None}
use Rattle.std.specs.Bool.{then_some}
use Rattle.std.specs.Option.{option_or, option_map}
use Rattle.sercos_trace.specs.declared.reading.Line.{Line}
use Rattle.sercos_check.specs.declared.trouble.Trouble.{Trouble}
use Rattle.sercos_check.specs.declared.trouble.Trouble.TheVariants as trouble
use Rattle.sercos_check.specs.Shape.{HasShape, has_head}
use Rattle.sercos_check.specs.Verdicts.{plain, rule_broken, CheckerState, CheckerStandsFor}
use Rattle.sercos_checking.specs.declared.verdict.Verdict.{Verdict}
use Rattle.sercos_checking.specs.declared.verdict.Verdict.TheVariants as verdict
use Rattle.sercos_checking.specs.Checking.{verdict_by}

-- One checker has taken the lines as they are, the other one each telegram as any other line of a cycle, so that it judges the
-- shape alone; and they have the right shape.
pub record HasTaken (shape rules : CheckerState) (lines : List Line) : Type 0 where
  pub shape_stands : CheckerStandsFor shape (map plain lines)
  pub rules_stand : CheckerStandsFor rules lines
  pub shaped : HasShape lines

-- the first line that breaks a rule, counted from 1, and the lowest rule that it breaks
unfoldable pub violation_in : List Line → Option (ℕ × ℕ)
violation_in [] = None
violation_in (line ∷ before) = option_or (violation_in before) (option_map (λ rule. (length before + 1, rule)) (rule_broken before line))

-- the verdict on all lines, which have the right shape
unfoldable pub verdict_after : List Line → Verdict
verdict_after lines = verdict_by (then_some (not (has_head lines)) (length lines + 1, 1)) (violation_in lines) (length lines)

-- the verdict that a checker's trouble is
unfoldable pub verdict_on : Trouble → Verdict
verdict_on (trouble.Grammar line) = verdict.Refused line 1
verdict_on (trouble.Violation line rule) = verdict.Violation line rule
