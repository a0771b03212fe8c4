-- The nine rules for the telegrams of a capture, by number and by name.
use Rattle.std.specs.Prelude.{ℕ, ◌==◌, if◌then◌else◌, List, codes, Option, Some, None}
use Rattle.sercos_check.specs.declared.rule.Rule.{Rule}
use Rattle.sercos_check.specs.declared.rule.Rule.TheVariants.{Order, Frame, Layout, Phase, Start, Gap, Recovery, Transition, End}

-- the number of a rule, and the rule with a number
abbrev pub rule_number : Rule → ℕ
rule_number Order = 1
rule_number Frame = 2
rule_number Layout = 3
rule_number Phase = 4
rule_number Start = 5
rule_number Gap = 6
rule_number Recovery = 7
rule_number Transition = 8
rule_number End = 9

abbrev pub rule_with : ℕ → Option Rule
rule_with n =
    if n == 1 then Some Order else (if n == 2 then Some Frame else (if n == 3 then Some Layout else (if n == 4 then Some Phase
    else (if n == 5 then Some Start else (if n == 6 then Some Gap else (if n == 7 then Some Recovery
    else (if n == 8 then Some Transition else (if n == 9 then Some End else None))))))))

-- the name of a rule, as the line of a verdict has it
unfoldable pub rule_name : Rule → List ℕ
rule_name Order = codes "order"
rule_name Frame = codes "frame"
rule_name Layout = codes "layout"
rule_name Phase = codes "phase"
rule_name Start = codes "start"
rule_name Gap = codes "gap"
rule_name Recovery = codes "recovery"
rule_name Transition = codes "transition"
rule_name End = codes "end"
