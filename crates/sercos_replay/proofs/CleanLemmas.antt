-- In a clean capture no cycle goes back.
use Rattle.std.proofs.Common.{◌≡◌, ℕ, ◌+◌, ◌≤◌, Bool, true, false, List, [], ◌∷◌, if◌then◌else◌, Option, Some, None, option_map, refl, sym, ◌∙◌, ap, subst, arith}
use Rattle.std.proofs.lemmas.Bool.{eqb-true}
use Rattle.std.proofs.lemmas.Option.{none-some}
use Rattle.sercos_telegram.specs.declared.layout.Kind.{Kind}
use Rattle.sercos_telegram.specs.declared.layout.Kind.TheVariants as telegram
use Rattle.sercos_trace.specs.Views.{SentView}
use Rattle.sercos_trace.specs.declared.reading.Line.{Line}
use Rattle.sercos_trace.specs.declared.reading.Line.TheVariants as line
use Rattle.sercos_check.specs.declared.marks.Command.{Command}
use Rattle.sercos_check.specs.declared.rule.Rule.{Rule}
use Rattle.sercos_check.specs.declared.rule.Rule.TheVariants as rule
use Rattle.sercos_check.specs.Names.{rule_number}
use Rattle.sercos_timing.specs.Views.{WishesView}
use Rattle.sercos_check.specs.Seen.{Told, is_mst, command_of, command_before, phase_before, newest_in}
use Rattle.sercos_check.specs.Rules.{is_next_cycle, order_of, keeps_order, keeps_frame, keeps_layout, keeps_phase, keeps_start, keeps_gap, keeps_recovery, keeps_transition, keeps_end, first_broken, broken_rule}
use Rattle.sercos_check.specs.Shape.{wishes_by}
use Rattle.sercos_check.specs.Verdicts.{told, IsClean}
use Rattle.sercos_replay.specs.Cycles.{Cycle, at_after, mdt_after, with_at, with_mdt, with_telegram, cycles_of, newest_cycle, goes_on, GoesOn}
use Rattle.sercos_replay.specs.Captured.{telegrams}

abbrev pub number_of : Option Command → ℕ
number_of None = 0
number_of (Some c) = c.cycle

pub at-newest : (sent : SentView) (j : List Cycle) → newest_cycle (with_at sent j) ≡ newest_cycle j
at-newest sent [] = refl
at-newest sent (t ∷ j) = by t.mdt
  where
    by : (m : Option SentView) → (at_after m sent t).cycle ≡ t.cycle
    by None = refl
    by (Some mdt) = refl

pub mdt-newest : (sent : SentView) (j : List Cycle) → newest_cycle (with_mdt sent j) ≡ newest_cycle j
mdt-newest sent [] = refl
mdt-newest sent (t ∷ j) = by t.mdt
  where
    by : (m : Option SentView) → (mdt_after m sent t).cycle ≡ t.cycle
    by None = refl
    by (Some mdt) = refl

-- the newest cycle is that of the newest MST
pub newest-command : (lines : List Line) → newest_cycle (cycles_of lines) ≡ number_of (command_before (told lines))
newest-command [] = refl
newest-command (line.Version ∷ lines) = newest-command lines
newest-command (line.Ring rate cycle control gap drives ∷ lines) = newest-command lines
newest-command (line.Drive wish ∷ lines) = newest-command lines
newest-command (line.Order addresses ∷ lines) = newest-command lines
newest-command (line.Telegram cycle sent ∷ lines) = by sent.kind (newest-command lines)
  where
    by : (kind : Kind) → newest_cycle (cycles_of lines) ≡ number_of (command_before (told lines)) → newest_cycle (with_telegram kind cycle sent (cycles_of lines))
        ≡ number_of (if is_mst kind then Some (command_of (record { cycle = cycle; sent = sent })) else command_before (told lines))
    by telegram.Mst before = refl
    by telegram.At before = at-newest sent (cycles_of lines) ∙ before
    by telegram.Mdt before = mdt-newest sent (cycles_of lines) ∙ before
newest-command (line.Other ∷ lines) = newest-command lines
newest-command (line.End ∷ lines) = newest-command lines

-- the first rule is kept, if none is broken
first-kept : (b : Bool) (tests : List (Rule × Bool)) → option_map rule_number (first_broken ((rule.Order, b) ∷ tests)) ≡ None → b ≡ true
unfolding first_broken
first-kept true tests none = refl
first-kept false tests none = absurd (none-some 1 (sym none))

pub order-kept : (w : WishesView) (before : List Told) (t : Told) → option_map rule_number (broken_rule w before t) ≡ None → keeps_order w before t ≡ true
order-kept w before t none = first-kept (keeps_order w before t) (
    (rule.Frame, keeps_frame t.sent)
    ∷ (rule.Layout, keeps_layout w (phase_before before) t.sent)
    ∷ (rule.Phase, keeps_phase (command_before before) t.sent)
    ∷ (rule.Start, keeps_start w (phase_before before) t.sent)
    ∷ (rule.Gap, keeps_gap w (phase_before before) (newest_in w before) t.sent)
    ∷ (rule.Recovery, keeps_recovery w before t.sent)
    ∷ (rule.Transition, keeps_transition w before t.sent)
    ∷ (rule.End, keeps_end w (phase_before before) t.sent)
    ∷ []) none

later : (command : Option Command) (cycle : ℕ) → is_next_cycle command cycle ≡ true → number_of command ≤ cycle
later None cycle is = omega arith
later (Some c) cycle is = let same = eqb-true cycle (c.cycle + 1) is in omega (arith, same)

ordered : (before : List Line) (cycle : ℕ) (sent : SentView) (kind : Kind) → order_of kind (wishes_by before) (told before) (record { cycle = cycle; sent = sent }) ≡ true
    → goes_on kind cycle (cycles_of before)
ordered before cycle sent telegram.Mst kept = subst (λ n. n ≤ cycle) (sym (newest-command before)) (later (command_before (told before)) cycle kept)
ordered before cycle sent telegram.At kept = tt
ordered before cycle sent telegram.Mdt kept = tt

pub clean_goes_on : (before : List Line) (l : Line) → IsClean (l ∷ before) → GoesOn before l
clean_goes_on before line.Version clean = tt
clean_goes_on before (line.Ring rate cycle control gap drives) clean = tt
clean_goes_on before (line.Drive wish) clean = tt
clean_goes_on before (line.Order addresses) clean = tt
clean_goes_on before (line.Telegram cycle sent) clean = ordered before cycle sent sent.kind (order-kept (wishes_by before) (told before) (record { cycle = cycle; sent = sent }) clean.2)
clean_goes_on before line.Other clean = tt
clean_goes_on before line.End clean = tt

pub of_telegrams : (lines : List Line) → cycles_of lines ≡ cycles_of (telegrams lines)
unfolding telegrams
of_telegrams [] = refl
of_telegrams (line.Version ∷ lines) = of_telegrams lines
of_telegrams (line.Ring rate cycle control gap drives ∷ lines) = of_telegrams lines
of_telegrams (line.Drive wish ∷ lines) = of_telegrams lines
of_telegrams (line.Order addresses ∷ lines) = of_telegrams lines
of_telegrams (line.Telegram cycle sent ∷ lines) = ap (with_telegram sent.kind cycle sent) (of_telegrams lines)
of_telegrams (line.Other ∷ lines) = of_telegrams lines
of_telegrams (line.End ∷ lines) = of_telegrams lines
