-- The telegrams of phases 3 and 4 keep the rules.
use Rattle.sercos_law_trace.proofs.Words.{inr, inl, cases_Bool, ◌≡◌, ℕ, ℤ, pos, ◌+◌, ◌*◌, ◌≤◌, ◌+ℤ◌, ◌==◌, nat_lt, nat_le, true, false, if◌then◌else◌, List, [], ◌∷◌, length, max, Some, None, is_none, option_map, refl, ◌∙◌, ap, arith, slice_index, list_all, find, le_z, and_from, eq-eqb, le-leb, nat_tests, frame_of, joint_fault, record_bytes, bound_9, greatest_tmtsy, WishesView, Said, Sent, Command, is_drive, wish_for, mark_of, is_at_of, is_after_gap, is_after_mark, is_after_transition, start_before, sent_at, sent_mst, ends_at_0, cond-false, or_left, not_from_false}
use Rattle.sercos_law_trace.proofs.Clean.RuleLemmas.{none_broken, broken_by, seen_of, mdt_at, AreRuled, newest_by}
use Rattle.sercos_law_trace.proofs.Clean.SeenLemmas.{Each, EachAfter, each_map, not_asked, asked, no_mdt_seen, HasOther, none_from, later_start, IsFramed, frame_kept, fresh, order}

-- the drive's slave, and the end of its AT
abbrev pub slave_by : WishesView → Said → ℕ
slave_by w s = (wish_for w (slice_index s.content 0)).slave

abbrev pub end_at : ℕ → Said → ℕ
end_at rate s = rate * s.start + length (frame_of s.content)

-- between two ATs is the gap, unless one slave sends both
abbrev pub pause_by : WishesView → Said → Said → ℕ
pause_by w earlier later = if slave_by w earlier == slave_by w later then 0 else w.rate * w.gap

-- one AT comes before another
pub record IsBefore (w : WishesView) (rate : ℕ) (later earlier : Said) : Type 0 where
  pub other : HasOther (slice_index later.content 0) earlier
  pub pause : end_at rate earlier + pause_by w earlier later ≤ rate * later.start
  pub recovered : (slave_by w earlier == slave_by w later) ≡ true → end_at rate earlier + w.rate * (wish_for w (slice_index later.content 0)).times.tatat ≤ rate * later.start

-- an AT of phases 3 and 4
pub record IsLateAt (w : WishesView) (rate : ℕ) (s : Said) : Type 0 where
  pub framed : IsFramed s.content
  pub long : length s.content ≡ (wish_for w (slice_index s.content 0)).at_len + 1
  pub drive : is_drive w (slice_index s.content 0) ≡ true
  pub ready : w.rate * (wish_for w (slice_index s.content 0)).times.t1min ≤ rate * s.start
  pub after_mst : w.rate * w.gap ≤ rate * s.start

-- the MDT comes after an AT
pub record IsBeforeMdt (w : WishesView) (rate start : ℕ) (s : Said) : Type 0 where
  pub gap : end_at rate s + w.rate * w.gap ≤ start
  pub receive : end_at rate s + w.rate * (wish_for w (slice_index s.content 0)).times.tatmt ≤ start

pub record IsLateMdt (w : WishesView) (rate : ℕ) (m : Sent) : Type 0 where
  pub framed : IsFramed m.content
  pub layout : is_none (joint_fault (record_bytes w.drives) m.content) ≡ true
  pub after_mst : w.rate * w.gap ≤ rate * m.start
  pub room : rate * m.start + length (frame_of m.content) + w.rate * max w.gap (greatest_tmtsy w) ≤ bound_9 w

abbrev pub AreBefore : WishesView → ℕ → List Said → List Said → Type 0
AreBefore w rate done ats = EachAfter (λ (x y : Said). IsBefore w rate y x) done ats

-- after the MST is the gap
after_mst : (n gap start : ℕ) → gap ≤ start → le_z ((start_before n +ℤ pos n) +ℤ pos gap) (pos start) ≡ true
after_mst n gap start low = ap (λ (z : ℤ). le_z (z +ℤ pos gap) (pos start)) (ends_at_0 n) ∙ le-leb (0 + gap) start (omega (arith, low))

module _ (w : WishesView) (rate : ℕ) (c : Command) (mst : List ℕ) (late : 3 ≤ c.phase) where
  not_early : nat_lt c.phase 3 ≡ false
  not_early = grind (arith, nat_tests, late)

  gap_kept : (done : List Said) (s : Said) → w.rate * w.gap ≤ rate * s.start → Each (IsBefore w rate s) done → is_after_gap w (newest_by w (seen_of rate (sent_mst mst) done)) (sent_at rate s.start s.content) ≡ true
  gap_kept [] s first are = after_mst (length (frame_of mst)) (w.rate * w.gap) (rate * s.start) first
  gap_kept (x ∷ done) s first are = le-leb (end_at rate x + pause_by w x s) (rate * s.start) are.0.pause

  mark_kept : (done : List Said) (s : Said) → Each (IsBefore w rate s) done
      → is_after_mark (option_map mark_of (find (is_at_of w (slave_by w s)) (seen_of rate (sent_mst mst) done))) (w.rate * (wish_for w (slice_index s.content 0)).times.tatat) (pos (rate * s.start)) ≡ true
  mark_kept [] s are = refl
  mark_kept (x ∷ done) s are = elim (cases_Bool (slave_by w x == slave_by w s)) [
    | inl own ↦ rw own (le-leb (end_at rate x + w.rate * (wish_for w (slice_index s.content 0)).times.tatat) (rate * s.start)
        (are.0.recovered own))
    | inr other ↦ rw other (mark_kept done s are.1)
  ]

  at_ruled : (done : List Said) (s : Said) → IsLateAt w rate s → Each (IsBefore w rate s) done → broken_by w (Some c) (seen_of rate (sent_mst mst) done) c.cycle (sent_at rate s.start s.content) ≡ None
  at_ruled done s is are =
      let later = later_start w rate (rate * s.start) mst done (each_map (IsBefore w rate s) (λ (x : Said). rate * x.start ≤ rate * s.start) (λ x is. let p = is.pause in omega (arith, p)) done are) in
      let others = each_map (IsBefore w rate s) (HasOther (slice_index s.content 0)) (λ x before. before.other) done are in
      none_broken _ _ _ _ _ _ _ _ _
      (and_from _ _ (order _ _ later (no_mdt_seen rate mst done) c.cycle) (fresh (nat_lt 0 (length s.content)) _ (none_from rate (slice_index s.content 0) mst done others)))
      (frame_kept s.content is.framed)
      (and_from _ _ (grind (arith, nat_tests, late)) (cond-false _ _ _ not_early
      ∙ and_from _ _ (eq-eqb (length s.content) ((wish_for w (slice_index s.content 0)).at_len + 1) is.long) is.drive))
      refl
      (cond-false _ _ _ not_early ∙ (le-leb (w.rate * (wish_for w (slice_index s.content 0)).times.t1min) (rate * s.start) is.ready))
      (asked _ _ (gap_kept done s is.after_mst are))
      (asked _ _ (mark_kept done s are))
      (not_asked (nat_le 3 c.phase) _)
      (not_asked (nat_le 3 c.phase) _)

  mdt_gap : (done : List Said) (m : Sent) → w.rate * w.gap ≤ rate * m.start → Each (IsBeforeMdt w rate (rate * m.start)) done → is_after_gap w (newest_by w (seen_of rate (sent_mst mst) done)) (mdt_at rate m) ≡ true
  mdt_gap [] m first are = after_mst (length (frame_of mst)) (w.rate * w.gap) (rate * m.start) first
  mdt_gap (x ∷ done) m first are = le-leb (end_at rate x + w.rate * w.gap) (rate * m.start) are.0.gap

  transition_kept : (done : List Said) (start : ℕ) → Each (IsBeforeMdt w rate start) done → list_all (is_after_transition w (pos start)) (seen_of rate (sent_mst mst) done) ≡ true
  transition_kept [] start are = refl
  transition_kept (x ∷ done) start are =
      and_from _ _ (le-leb (end_at rate x + w.rate * (wish_for w (slice_index x.content 0)).times.tatmt) start are.0.receive) (transition_kept done start are.1)

  rest_ruled : (ats done : List Said) (m : Sent) → Each (IsLateAt w rate) ats → AreBefore w rate done ats → IsLateMdt w rate m → Each (IsBeforeMdt w rate (rate * m.start)) done → Each (IsBeforeMdt w rate (rate * m.start)) ats
      → AreRuled w rate c (sent_mst mst) done ats (Some m)
  rest_ruled [] done m are before is early rest = let later = later_start w rate (rate * m.start) mst done
      (each_map (IsBeforeMdt w rate (rate * m.start)) (λ (x : Said). rate * x.start ≤ rate * m.start) (λ x before. let g = before.gap in
      omega (arith, g)) done early) in
      none_broken _ _ _ _ _ _ _ _ _
      (order _ _ later (no_mdt_seen rate mst done) c.cycle)
      (frame_kept m.content is.framed)
      (and_from _ _ (grind (arith, nat_tests, late)) (cond-false _ _ _ not_early ∙ is.layout))
      refl
      (or_left _ _ (not_from_false _ not_early))
      (asked _ _ (mdt_gap done m is.after_mst early))
      (not_asked (nat_le 3 c.phase) _)
      (asked _ _ (transition_kept done (rate * m.start) early))
      (asked _ _ (le-leb (rate * m.start + length (frame_of m.content) + w.rate * max w.gap (greatest_tmtsy w)) (bound_9 w) is.room))
  rest_ruled (s ∷ ats) done m are before is early rest = (at_ruled done s are.0 before.0, rest_ruled ats (s ∷ done) m are.1 before.1 is (rest.0, early) rest.1)

  pub late_ruled : (ats : List Said) (m : Sent) → Each (IsLateAt w rate) ats → AreBefore w rate [] ats → IsLateMdt w rate m → Each (IsBeforeMdt w rate (rate * m.start)) ats → AreRuled w rate c (sent_mst mst) [] ats (Some m)
  late_ruled ats m are before is rest = rest_ruled ats [] m are before is tt rest
