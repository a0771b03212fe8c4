-- The result of a checker for a capture, whose lines are listed newest first.
use Rattle.std.specs.Prelude.{◌≡◌, ℕ, ◌+◌, ◌⊎◌, ◌↔◌, true, false, List, [], ◌∷◌, length, map, Option, Some, None, option_map}
use Rattle.sercos_timing.specs.Views.{WishesView}
use Rattle.sercos_trace.specs.declared.reading.Line.{Line}
use Rattle.sercos_trace.specs.declared.reading.Line.TheVariants as line
use Rattle.sercos_check.specs.declared.trouble.Trouble.{Trouble}
use Rattle.sercos_check.specs.declared.trouble.Trouble.TheVariants as trouble
use Rattle.sercos_check.specs.Seen.{Told}
use Rattle.sercos_check.specs.declared.rule.Rule.{Rule}
use Rattle.sercos_check.specs.Names.{rule_number, rule_with}
use Rattle.sercos_check.specs.Rules.{broken_rule}
use Rattle.sercos_check.specs.Kept.{SeenState, SeenStandsFor}
use Rattle.sercos_check.specs.Shape.{CanFollow, HasShape, HeadView, HeadStandsFor, has_head, wishes_by}

-- the telegrams among lines
abbrev pub told : List Line → List Told
told [] = []
told (line.Telegram cycle sent ∷ before) = (record { cycle = cycle; sent = sent }) ∷ told before
told (_ ∷ before) = told before

-- the number of the lowest rule that a line breaks after those before it; only telegrams can break one
abbrev pub rule_broken : List Line → Line → Option ℕ
rule_broken before (line.Telegram cycle sent) =
    option_map rule_number (broken_rule (wishes_by before) (told before) (record { cycle = cycle; sent = sent }))
rule_broken before _ = None

-- each line can follow those before it, and breaks no rule
abbrev pub IsClean : List Line → Type 0
IsClean [] = Unit {0}
IsClean (line ∷ before) = IsClean before × CanFollow before line × (rule_broken before line ≡ None)

-- the trouble with a line after clean lines: it can't follow them, or it can and breaks a rule
abbrev pub IsFault : List Line → Line → Trouble → Type 0
IsFault before line (trouble.Grammar number) = (CanFollow before line → ⊥) × (number ≡ length before + 1)
IsFault before line (trouble.Violation number rule) = CanFollow before line × (rule_broken before line ≡ Some rule) ×
    (number ≡ length before + 1)

-- the first trouble among lines
abbrev pub IsTrouble : List Line → Trouble → Type 0
IsTrouble [] t = ⊥
IsTrouble (line ∷ before) t = IsTrouble before t ⊎ (IsClean before × IsFault before line t)

-- The verdict on a whole capture. If its lines are clean and the head is complete, it is their
-- number. If they are clean and the head is incomplete, it is a fault one past the last line.
-- Otherwise it is the first trouble.
abbrev pub IsWhole : List Line → ℕ → Type 0
IsWhole lines number = IsClean lines × (has_head lines ≡ true) × (number ≡ length lines)

abbrev pub IsShort : List Line → Trouble → Type 0
IsShort lines t = IsClean lines × (has_head lines ≡ false) × (t ≡ trouble.Grammar (length lines + 1))

abbrev pub IsRefused : List Line → Trouble → Type 0
IsRefused lines t = IsTrouble lines t ⊎ IsShort lines t

-- a line for a check of the shape alone: a telegram counts as any other line of a cycle
abbrev pub plain : Line → Line
plain (line.Telegram cycle sent) = line.Other
plain l = l

-- a line can't follow lines of the right shape; and the first such line
abbrev pub IsMisplaced : List Line → Line → Trouble → Type 0
IsMisplaced before line (trouble.Grammar number) = (CanFollow before line → ⊥) × (number ≡ length before + 1)
IsMisplaced before line (trouble.Violation number rule) = ⊥

abbrev pub IsShapeFault : List Line → Trouble → Type 0
IsShapeFault [] t = ⊥
IsShapeFault (line ∷ before) t = IsShapeFault before t ⊎ (HasShape before × IsMisplaced before line t)

-- The verdict on the plain lines is the verdict on the shape of the lines.
abbrev pub ArePlainClean : Type 0
ArePlainClean = (lines : List Line) → (IsClean (map plain lines) ↔ HasShape lines)

abbrev pub ArePlainFaults : Type 0
ArePlainFaults = (lines : List Line) (t : Trouble) → (IsTrouble (map plain lines) t ↔ IsShapeFault lines t)

abbrev pub IsPlainHead : Type 0
IsPlainHead = (lines : List Line) → has_head (map plain lines) ≡ has_head lines

-- Lines of the right shape have no fault of grammar, so that their first trouble is a rule.
abbrev pub BreakRules : Type 0
BreakRules = (lines : List Line) (number : ℕ) → HasShape lines → IsTrouble lines (trouble.Grammar number) → ⊥

-- A rule has the number that a first trouble names.
abbrev pub NumberRules : Type 0
NumberRules = (lines : List Line) (number rule : ℕ) → IsTrouble lines (trouble.Violation number rule) → (r : Rule) × (rule_with rule ≡ Some r)

-- what is kept of the lines of a capture
pub record CheckerState : Type 0 where
  pub head : HeadView
  pub seen : SeenState
  pub lines : ℕ
  pub trouble : Option Trouble

-- The telegrams are noted with the planner's input of the head. Before the head is complete there
-- are none.
abbrev pub AreSeen : SeenState → List Line → Type 0
AreSeen seen lines = (w : WishesView) → (has_head lines ≡ true → w ≡ wishes_by lines) → SeenStandsFor seen w (told lines)

-- a line can follow and breaks no rule, and what is kept is that of the lines with it
pub record IsNext (before : List Line) (line : Line) (head : HeadView) (seen : SeenState) : Type 0 where
  pub can : CanFollow before line
  pub kept : rule_broken before line ≡ None
  pub stands : HeadStandsFor head (line ∷ before)
  pub are_seen : AreSeen seen (line ∷ before)

pub record IsRunning (v : CheckerState) (lines : List Line) : Type 0 where
  pub clean : IsClean lines
  pub head : HeadStandsFor v.head lines
  pub seen : AreSeen v.seen lines

abbrev pub StandsBy : Option Trouble → CheckerState → List Line → Type 0
StandsBy None v lines = IsRunning v lines
StandsBy (Some t) v lines = IsTrouble lines t

-- The state of a checker after these lines: all are clean so far, or their first trouble is kept.
pub record CheckerStandsFor (v : CheckerState) (lines : List Line) : Type 0 where
  pub count : v.lines ≡ length lines
  pub stands : StandsBy v.trouble v lines
