-- A capture's lines, one by one.
use Rattle.std.proofs.Common.{◌≡◌, ℕ, ◌+◌, inl, inr, true, false, List, [], ◌∷◌, length, Option, Some, None, option_map, refl, sym, ◌∙◌, ap, subst, unwrap_or, arith}
use Rattle.std.proofs.lemmas.Bool.{false≢true}
use Rattle.std.proofs.lemmas.Option.{none-some}
use Rattle.sercos_timing.specs.Views.{WishesView}
use Rattle.sercos_trace.specs.Views.{SentView}
use Rattle.sercos_trace.specs.declared.reading.Line.{Line}
use Rattle.sercos_trace.specs.declared.reading.Line.TheVariants as line
use Rattle.sercos_check.specs.declared.trouble.Trouble.{Trouble}
use Rattle.sercos_check.specs.declared.trouble.Trouble.TheVariants as trouble
use Rattle.sercos_check.specs.declared.awaited.Awaited.{Awaited}
use Rattle.sercos_check.specs.declared.awaited.Awaited.TheVariants as awaited
use Rattle.sercos_check.specs.declared.rule.Rule.{Rule}
use Rattle.sercos_check.specs.Names.{rule_number}
use Rattle.sercos_check.specs.Seen.{Told}
use Rattle.sercos_check.specs.Rules.{broken_rule}
use Rattle.sercos_check.specs.Kept.{SeenState, SeenStandsFor}
use Rattle.sercos_check.specs.Shape.{is_past_head, CanFollow, has_head, wishes_by}
use Rattle.sercos_check.specs.Verdicts.{told, rule_broken, IsClean, IsFault, IsTrouble, IsRefused, AreSeen, CheckerState, IsRunning, StandsBy, CheckerStandsFor}

-- a telegram of a cycle
abbrev pub telegram : ℕ → SentView → Told
telegram cycle sent = record { cycle = cycle; sent = sent }

pub telegram_rule : (lines : List Line) (cycle : ℕ) (sent : SentView) (w : WishesView) (seen : SeenState) (rule : Option Rule)
    → w ≡ wishes_by lines → ((before : List Told) → SeenStandsFor seen w before → rule ≡ broken_rule w before (telegram cycle sent))
    → AreSeen seen lines → option_map rule_number rule ≡ rule_broken lines (line.Telegram cycle sent)
telegram_rule lines cycle sent w seen rule is broken stand = rw (← is) (ap (option_map rule_number) (broken (told lines) (stand w (λ _. is))))

pub telegram_seen : (lines : List Line) (cycle : ℕ) (sent : SentView) (w : WishesView) (seen seen' : SeenState)
    → w ≡ wishes_by lines → ((before : List Told) → SeenStandsFor seen w before → SeenStandsFor seen' w (telegram cycle sent ∷ before))
    → AreSeen seen lines → AreSeen seen' (line.Telegram cycle sent ∷ lines)
telegram_seen lines cycle sent w seen seen' is noted stand w' same = rw (same refl, ← is) (noted (told lines) (stand w (λ _. is)))

pub other_rule : (lines : List Line) (l : Line) → ((cycle : ℕ) (sent : SentView) → l ≡ line.Telegram cycle sent → ⊥) → None ≡ rule_broken lines l
other_rule lines line.Version not = refl
other_rule lines (line.Ring rate cycle control gap drives) not = refl
other_rule lines (line.Drive wish) not = refl
other_rule lines (line.Order addresses) not = refl
other_rule lines (line.Telegram cycle sent) not = absurd (not cycle sent refl)
other_rule lines line.Other not = refl
other_rule lines line.End not = refl

-- the head isn't whole where a line of it is awaited
not_past : (a b : Awaited) → a ≡ b → is_past_head b ≡ false → is_past_head a ≡ true → ⊥
not_past a b is not past = false≢true (sym not ∙ ap is_past_head (sym is) ∙ past)

pub other_seen : (lines : List Line) (l : Line) (seen : SeenState) → ((cycle : ℕ) (sent : SentView) → l ≡ line.Telegram cycle sent → ⊥)
    → CanFollow lines l → AreSeen seen lines → AreSeen seen (l ∷ lines)
other_seen lines line.Version seen not can stand w same = stand w (λ past. absurd (not_past _ awaited.Version can.0 refl past))
other_seen lines (line.Ring rate cycle control gap drives) seen not can stand w same = stand w (λ past. absurd (not_past _ awaited.Ring can.0 refl past))
other_seen lines (line.Drive wish) seen not can stand w same = stand w (λ past. absurd (not_past _ awaited.Drive can.0 refl past))
other_seen lines (line.Order addresses) seen not can stand w same = stand w (λ past. absurd (not_past _ awaited.Order can.0 refl past))
other_seen lines (line.Telegram cycle sent) seen not can stand w same = absurd (not cycle sent refl)
other_seen lines line.Other seen not can stand w same = stand w (λ past. same refl)
other_seen lines line.End seen not can stand w same = stand w (λ past. same refl)

some_same : {A : Type 0} (x y : A) → Some x ≡ Some y → x ≡ y
some_same x y e = ap (λ o. unwrap_or o x) e

pub no_fault : (lines : List Line) (l : Line) (t : Trouble) → CanFollow lines l → rule_broken lines l ≡ None → IsFault lines l t → ⊥
no_fault lines l (trouble.Grammar number) can kept fault = fault.0 can
no_fault lines l (trouble.Violation number rule) can kept fault = none-some _ (sym kept ∙ fault.1)

-- clean lines have no trouble
pub no_trouble : (lines : List Line) (t : Trouble) → IsClean lines → IsTrouble lines t → ⊥
no_trouble [] t clean first = absurd first
no_trouble (l ∷ lines) t clean (inl earlier) = no_trouble lines t clean.0 earlier
no_trouble (l ∷ lines) t clean (inr first) = no_fault lines l t clean.1 clean.2 first.1

one_fault : (lines : List Line) (l : Line) (t u : Trouble) → IsFault lines l t → IsFault lines l u → t ≡ u
one_fault lines l (trouble.Grammar n) (trouble.Grammar m) a b = ap trouble.Grammar (a.1 ∙ sym b.1)
one_fault lines l (trouble.Grammar n) (trouble.Violation m s) a b = absurd (a.0 b.0)
one_fault lines l (trouble.Violation n r) (trouble.Grammar m) a b = absurd (b.0 a.0)
one_fault lines l (trouble.Violation n r) (trouble.Violation m s) a b = rw (a.2, b.2, some_same r s (sym a.1 ∙ b.1)) refl

-- lines have one first trouble
pub one_trouble : (lines : List Line) (t u : Trouble) → IsTrouble lines t → IsTrouble lines u → t ≡ u
one_trouble [] t u a b = absurd a
one_trouble (l ∷ lines) t u (inl a) (inl b) = one_trouble lines t u a b
one_trouble (l ∷ lines) t u (inl a) (inr b) = absurd (no_trouble lines t b.0 a)
one_trouble (l ∷ lines) t u (inr a) (inl b) = absurd (no_trouble lines u a.0 b)
one_trouble (l ∷ lines) t u (inr a) (inr b) = one_fault lines l t u a.1 b.1

-- What is kept, by the trouble that is kept; `v` is the fields of the checker `now`.
pub stopped : (v now : CheckerState) (lines : List Line) (t : Trouble) → v ≡ now → v.trouble ≡ Some t → CheckerStandsFor now lines → IsTrouble lines t
stopped v now lines t view is stands = by v.trouble is (subst (λ u. CheckerStandsFor u lines) (sym view) stands).stands
  where
    by : (o : Option Trouble) → o ≡ Some t → StandsBy o v lines → IsTrouble lines t
    by None e s = absurd (none-some _ e)
    by (Some u) e s = subst (IsTrouble lines) (some_same u t e) s

pub running : (v now : CheckerState) (lines : List Line) → v ≡ now → v.trouble ≡ None → CheckerStandsFor now lines → IsRunning v lines
running v now lines view is stands = by v.trouble is (subst (λ u. CheckerStandsFor u lines) (sym view) stands).stands
  where
    by : (o : Option Trouble) → o ≡ None → StandsBy o v lines → IsRunning v lines
    by None e s = s
    by (Some u) e s = absurd (none-some _ (sym e))

pub count : (v now : CheckerState) (lines : List Line) → v ≡ now → CheckerStandsFor now lines → v.lines ≡ length lines
count v now lines view stands = (subst (λ u. CheckerStandsFor u lines) (sym view) stands).count

pub next_count : (v now : CheckerState) (lines : List Line) (l : Line) → v ≡ now → CheckerStandsFor now lines → v.lines + 1 ≡ length (l ∷ lines)
next_count v now lines l view stands = let n = count v now lines view stands in omega (arith, n)

-- the trouble of a checker that has stopped is the only one
pub only_refused : (lines : List Line) (t u : Trouble) → IsTrouble lines t → IsRefused lines u → t ≡ u
only_refused lines t u first (inl other) = one_trouble lines t u first other
only_refused lines t u first (inr short) = absurd (no_trouble lines t short.0 first)

pub only_short : (lines : List Line) (t u : Trouble) (n : ℕ) → IsClean lines → t ≡ trouble.Grammar (n + 1) → n ≡ length lines → IsRefused lines u → t ≡ u
only_short lines t u n clean is count (inl other) = absurd (no_trouble lines u clean other)
only_short lines t u n clean is count (inr short) = is ∙ ap (λ (m : ℕ). trouble.Grammar (m + 1)) count ∙ sym short.2

pub not_refused : (lines : List Line) (u : Trouble) → IsClean lines → has_head lines ≡ true → IsRefused lines u → ⊥
not_refused lines u clean whole (inl other) = no_trouble lines u clean other
not_refused lines u clean whole (inr short) = false≢true (sym short.1 ∙ whole)

pub going : (v : CheckerState) (lines : List Line) → v.trouble ≡ None → v.lines ≡ length lines → IsRunning v lines → CheckerStandsFor v lines
going v lines is number now = record { count = number; stands = by v.trouble is }
  where
    by : (o : Option Trouble) → o ≡ None → StandsBy o v lines
    by None e = now
    by (Some u) e = absurd (none-some _ (sym e))
