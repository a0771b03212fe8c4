-- If all reads have ended and there is no stop, the MDT's turn has made the plan.
use Rattle.sercos_law_run.proofs.Words.{◌≡◌, ℕ, ◌+◌, true, List, [], ◌∷◌, length, Option, None, refl, sym, ap, ap₂, ◌∙◌, not, nat_le, is_none, is_some, none-some, Outcome, record_bytes, WishesView, Wish, is_read, wishes_from, wish_given, wishes_given, Known, MemberView, member, Past, outcomes, all_read, after_mdt, leaves, mdt_adds, settled_keeps}
use Rattle.sercos_law_run.proofs.Agenda.OneTurn.{from_same}

-- what is asked is told by the outcomes
wishes_same : (drives : List MemberView) (k : ℕ) (f g : ℕ → List Outcome) → ((j : ℕ) → f j ≡ g j) → wishes_from drives k f ≡ wishes_from drives k g
wishes_same [] k f g same = refl
wishes_same (d ∷ drives) k f g same = ap₂ (λ (w : Wish) (l : List Wish). w ∷ l) (ap (wish_given d) (same k)) (wishes_same drives (k + 1) f g same)

pub read_same : (s : Known) (p q : Past) → ((j : ℕ) → outcomes p j ≡ outcomes q j) → all_read s p ≡ all_read s q
read_same s p q same =
    ap (λ (o : Option ℕ). is_none o) (from_same (length s.drives) 0 (λ k. not (is_read (member s k) (outcomes p k))) (λ k. not (is_read (member s k) (outcomes q k))) (λ j. ap (λ (l : List Outcome). not (is_read (member s j) l)) (same j)))

pub plan_made : (s : Known) (q : Past) → (after_mdt s q).now.phase ≡ 2 → (after_mdt s q).stop ≡ None → all_read s (after_mdt s q) ≡ true
    → nat_le (record_bytes (wishes_given s (outcomes (after_mdt s q))).drives) 2047 ≡ true → is_some (after_mdt s q).plan ≡ true
plan_made s q two none read fits = settled_keeps (λ p. p.stop ≡ None → is_some p.plan ≡ true) s q
    (λ rests free. rests.has_plan free (sym (leaves s q).phase ∙ two) (read_same s q (after_mdt s q) same ∙ read)
    (ap (λ (w : WishesView). nat_le (record_bytes w.drives) 2047)
    (ap (λ (drives : List Wish). record {
      rate = s.rate;
      cycle = s.cycle;
      control = s.control;
      gap = s.gap;
      order = s.order;
      drives =
          drives;
    }) (wishes_same s.drives 0 (outcomes q) (outcomes (after_mdt s q)) same)) ∙ fits))
    (λ x free brings stopped. absurd (none-some x (sym stopped))) (λ plan makes free. refl) none
  where
    same : (k : ℕ) → outcomes q k ≡ outcomes (after_mdt s q) k
    same k = sym (mdt_adds s q k)
