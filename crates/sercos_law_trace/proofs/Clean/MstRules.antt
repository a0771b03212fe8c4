-- An MST keeps the rules.
use Rattle.sercos_law_trace.proofs.Words.{◌≡◌, ℕ, pos, ◌≤◌, ◌+ℤ◌, nat_lt, nat_le, true, false, List, length, Option, None, is_none, refl, ◌∙◌, arith, nat_tests, Decides-int_eq, frame_of, mst_content, WishesView, Command, Told, command_before, phase_of, in_cycle, is_next_cycle, is_next_phase, broken_rule, start_before, sent_mst, ends_at_0, mst_fault, head_fault}
use Rattle.sercos_law_trace.proofs.Clean.RuleLemmas.{none_broken, rule_so}
use Rattle.sercos_law_trace.proofs.Clean.SeenLemmas.{not_asked, frame_kept}
use Rattle.sercos_telegram.specs.declared.layout.Kind.TheVariants as kinds

mst_layout : (phase : ℕ) → phase ≤ 4 → is_none (mst_fault (mst_content phase)) ≡ true
unfolding mst_fault head_fault
mst_layout phase low = let no : nat_lt 4 phase ≡ false = grind (arith, nat_tests, low) in rw no refl

pub mst_ruled : (w : WishesView) (before : List Told) (o : Option Command) (cycle phase : ℕ) → command_before before ≡ o → is_next_cycle o cycle ≡ true → is_next_phase o phase ≡ true → phase ≤ 4
    → broken_rule w before (record { cycle = cycle; sent = sent_mst (mst_content phase) }) ≡ None
mst_ruled w before o cycle phase is next rises low =
    rule_so w before cycle kinds.Mst (start_before (length (frame_of (mst_content phase)))) (length (frame_of (mst_content phase)))
    (mst_content phase) o (in_cycle before) is refl
    ∙ none_broken _ _ _ _ _ _ _ _ _
    next
    (frame_kept (mst_content phase) (record { some = omega arith; most = omega arith }))
    (mst_layout phase low)
    rises
    ((Decides-int_eq (start_before (length (frame_of (mst_content phase))) +ℤ pos (length (frame_of (mst_content phase)))) (pos 0)).1 (ends_at_0 (length (frame_of (mst_content phase)))))
    (not_asked (nat_le 3 (phase_of o)) _)
    (not_asked (nat_le 3 (phase_of o)) _)
    (not_asked (nat_le 3 (phase_of o)) _)
    (not_asked (nat_le 3 (phase_of o)) _)
