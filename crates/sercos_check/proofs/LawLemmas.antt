-- The shape of a capture, apart from its telegrams.
use Rattle.std.proofs.Common.{◌≡◌, ℕ, ◌+◌, ◌-◌, inl, inr, List, [], ◌∷◌, length, map, ◌++◌, None, refl, sym, ◌∙◌, ap, subst, arith}
use Rattle.std.proofs.lemmas.Option.{none-some}
use Rattle.sercos_timing.specs.Views.{WishesView}
use Rattle.sercos_timing.specs.Valid.{IsValid}
use Rattle.sercos_trace.specs.declared.reading.Line.{Line}
use Rattle.sercos_trace.specs.declared.reading.Line.TheVariants as line
use Rattle.sercos_check.specs.declared.trouble.Trouble.{Trouble}
use Rattle.sercos_check.specs.declared.trouble.Trouble.TheVariants as trouble
use Rattle.sercos_check.specs.Shape.{drives_left, drive_or_order, awaited_after, places, wishes_by, CanFollow, HasShape, is_past_head}
use Rattle.sercos_check.specs.Verdicts.{rule_broken, IsClean, IsTrouble, plain, IsShapeFault, ArePlainClean, ArePlainFaults, IsPlainHead, BreakRules}

same_length : (lines : List Line) → length (map plain lines) ≡ length lines
same_length [] = refl
same_length (l ∷ before) = let rest = same_length before in omega (arith, rest)

same_left : (lines : List Line) → drives_left (map plain lines) ≡ drives_left lines
same_left [] = refl
same_left (line.Version ∷ before) = same_left before
same_left (line.Ring rate cycle control gap drives ∷ before) = refl
same_left (line.Drive wish ∷ before) = ap (λ (n : ℕ). n - 1) (same_left before)
same_left (line.Order addresses ∷ before) = same_left before
same_left (line.Telegram cycle sent ∷ before) = same_left before
same_left (line.Other ∷ before) = same_left before
same_left (line.End ∷ before) = same_left before

same_awaited : (lines : List Line) → awaited_after (map plain lines) ≡ awaited_after lines
same_awaited [] = refl
same_awaited (line.Version ∷ before) = refl
same_awaited (line.Ring rate cycle control gap drives ∷ before) = refl
same_awaited (line.Drive wish ∷ before) = ap (λ (n : ℕ). drive_or_order (n - 1)) (same_left before)
same_awaited (line.Order addresses ∷ before) = refl
same_awaited (line.Telegram cycle sent ∷ before) = refl
same_awaited (line.Other ∷ before) = refl
same_awaited (line.End ∷ before) = refl

same_wishes : (lines : List Line) → wishes_by (map plain lines) ≡ wishes_by lines
same_wishes [] = refl
same_wishes (line.Version ∷ before) = same_wishes before
same_wishes (line.Ring rate cycle control gap drives ∷ before) =
    ap (λ (w : WishesView). record { rate = rate; cycle = cycle; control = control; gap = gap; order = w.order; drives = w.drives }) (same_wishes before)
same_wishes (line.Drive wish ∷ before) = ap (λ (w : WishesView). record w { drives = w.drives ++ wish ∷ [] }) (same_wishes before)
same_wishes (line.Order addresses ∷ before) = ap (λ (w : WishesView). record w { order = places w.drives addresses.items }) (same_wishes before)
same_wishes (line.Telegram cycle sent ∷ before) = same_wishes before
same_wishes (line.Other ∷ before) = same_wishes before
same_wishes (line.End ∷ before) = same_wishes before

can_plain : (before : List Line) (l : Line) → CanFollow before l → CanFollow (map plain before) (plain l)
can_plain before line.Version can = (same_awaited before ∙ can.0, tt)
can_plain before (line.Ring rate cycle control gap drives) can = (same_awaited before ∙ can.0, tt)
can_plain before (line.Drive wish) can = (same_awaited before ∙ can.0, tt)
can_plain before (line.Order addresses) can =
    (same_awaited before ∙ can.0, subst (λ (w : WishesView). IsValid (record w { order = places w.drives addresses.items })) (sym (same_wishes before)) can.1)
can_plain before (line.Telegram cycle sent) can = (same_awaited before ∙ can.0, tt)
can_plain before line.Other can = (same_awaited before ∙ can.0, tt)
can_plain before line.End can = (same_awaited before ∙ can.0, tt)

can_from : (before : List Line) (l : Line) → CanFollow (map plain before) (plain l) → CanFollow before l
can_from before line.Version can = (sym (same_awaited before) ∙ can.0, tt)
can_from before (line.Ring rate cycle control gap drives) can = (sym (same_awaited before) ∙ can.0, tt)
can_from before (line.Drive wish) can = (sym (same_awaited before) ∙ can.0, tt)
can_from before (line.Order addresses) can =
    (sym (same_awaited before) ∙ can.0, subst (λ (w : WishesView). IsValid (record w { order = places w.drives addresses.items })) (same_wishes before) can.1)
can_from before (line.Telegram cycle sent) can = (sym (same_awaited before) ∙ can.0, tt)
can_from before line.Other can = (sym (same_awaited before) ∙ can.0, tt)
can_from before line.End can = (sym (same_awaited before) ∙ can.0, tt)

-- plain lines have no rules
no_rule : (before : List Line) (l : Line) → rule_broken before (plain l) ≡ None
no_rule before line.Version = refl
no_rule before (line.Ring rate cycle control gap drives) = refl
no_rule before (line.Drive wish) = refl
no_rule before (line.Order addresses) = refl
no_rule before (line.Telegram cycle sent) = refl
no_rule before line.Other = refl
no_rule before line.End = refl

shape_of : (lines : List Line) → IsClean (map plain lines) → HasShape lines
shape_of [] clean = tt
shape_of (l ∷ before) clean = (can_from before l clean.1, shape_of before clean.0)

clean_by : (lines : List Line) → HasShape lines → IsClean (map plain lines)
clean_by [] shape = tt
clean_by (l ∷ before) shape = (clean_by before shape.1, can_plain before l shape.0, no_rule (map plain before) l)

pub plain_clean : ArePlainClean
plain_clean lines = (shape_of lines, clean_by lines)

fault_of : (lines : List Line) (t : Trouble) → IsTrouble (map plain lines) t → IsShapeFault lines t
fault_of [] t first = absurd first
fault_of (l ∷ before) t (inl earlier) = inl (fault_of before t earlier)
fault_of (l ∷ before) (trouble.Grammar number) (inr first) =
    inr (shape_of before first.0, (λ can. first.1.0 (can_plain before l can), first.1.1 ∙ ap (λ (n : ℕ). n + 1) (same_length before)))
fault_of (l ∷ before) (trouble.Violation number rule) (inr first) = absurd (none-some _ (sym (no_rule (map plain before) l) ∙ first.1.1))

fault_by : (lines : List Line) (t : Trouble) → IsShapeFault lines t → IsTrouble (map plain lines) t
fault_by [] t first = absurd first
fault_by (l ∷ before) t (inl earlier) = inl (fault_by before t earlier)
fault_by (l ∷ before) (trouble.Grammar number) (inr first) =
    inr (clean_by before first.0, (λ can. first.1.0 (can_from before l can), first.1.1 ∙ sym (ap (λ (n : ℕ). n + 1) (same_length before))))
fault_by (l ∷ before) (trouble.Violation number rule) (inr first) = absurd first.1

pub plain_faults : ArePlainFaults
plain_faults lines t = (fault_of lines t, fault_by lines t)

pub plain_head : IsPlainHead
plain_head lines = ap is_past_head (same_awaited lines)

pub break_rules : BreakRules
break_rules [] number shape first = absurd first
break_rules (l ∷ before) number shape (inl earlier) = break_rules before number shape.1 earlier
break_rules (l ∷ before) number shape (inr first) = first.1.0 shape.0
