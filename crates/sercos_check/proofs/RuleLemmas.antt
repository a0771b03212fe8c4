-- The rule of a first trouble has a number.
use Rattle.std.proofs.Common.{◌≡◌, ℕ, inl, inr, List, [], ◌∷◌, Option, Some, None, option_map, refl, ap, subst, unwrap_or}
use Rattle.std.proofs.lemmas.Option.{none-some}
use Rattle.sercos_trace.specs.declared.reading.Line.{Line}
use Rattle.sercos_trace.specs.declared.reading.Line.TheVariants as line
use Rattle.sercos_check.specs.declared.rule.Rule.{Rule}
use Rattle.sercos_check.specs.declared.rule.Rule.TheVariants.{Order, Frame, Layout, Phase, Start, Gap, Recovery, Transition, End}
use Rattle.sercos_check.specs.declared.trouble.Trouble.TheVariants as trouble
use Rattle.sercos_check.specs.Names.{rule_number, rule_with}
use Rattle.sercos_check.specs.Rules.{broken_rule}
use Rattle.sercos_check.specs.Shape.{wishes_by}
use Rattle.sercos_check.specs.Verdicts.{told, rule_broken, NumberRules}

number_back : (rule : Rule) → rule_with (rule_number rule) ≡ Some rule
number_back Order = refl
number_back Frame = refl
number_back Layout = refl
number_back Phase = refl
number_back Start = refl
number_back Gap = refl
number_back Recovery = refl
number_back Transition = refl
number_back End = refl

numbered : (o : Option Rule) (number : ℕ) → option_map rule_number o ≡ Some number → (r : Rule) × (rule_with number ≡ Some r)
numbered None number is = absurd (none-some _ is)
numbered (Some r) number is = (r, subst (λ (n : ℕ). rule_with n ≡ Some r) (ap (λ (o : Option ℕ). unwrap_or o 0) is) (number_back r))

-- only a telegram breaks a rule
has_number : (before : List Line) (l : Line) (rule : ℕ) → rule_broken before l ≡ Some rule → (r : Rule) × (rule_with rule ≡ Some r)
has_number before line.Version rule is = absurd (none-some _ is)
has_number before (line.Ring rate cycle control gap drives) rule is = absurd (none-some _ is)
has_number before (line.Drive wish) rule is = absurd (none-some _ is)
has_number before (line.Order addresses) rule is = absurd (none-some _ is)
has_number before (line.Telegram cycle sent) rule is =
    numbered (broken_rule (wishes_by before) (told before) (record { cycle = cycle; sent = sent })) rule is
has_number before line.Other rule is = absurd (none-some _ is)
has_number before line.End rule is = absurd (none-some _ is)

pub number_rules : NumberRules
number_rules [] number rule first = absurd first
number_rules (l ∷ before) number rule (inl earlier) = number_rules before number rule earlier
number_rules (l ∷ before) number rule (inr first) = has_number before l rule first.1.1
