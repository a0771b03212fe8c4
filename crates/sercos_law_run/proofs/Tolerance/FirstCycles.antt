-- No phase from 1 to 3 is left in its first cycle.
use Rattle.sercos_law_run.proofs.Words.{cases_Bool, ◌≡◌, inl, inr, ℕ, ◌+◌, ◌<◌, ◌≤◌, Bool, true, false, List, [], ◌∷◌, length, Option, Some, None, refl, sym, ap, ◌∙◌, subst, arith, if◌then◌else◌, ◌==◌, and_parts, cases_eq, false≢true, Job, RingView, Begun, answer_in, answers_it, with_answer, CycleView, is_checked, is_ready, reads_count, outcomes_in, known_of, member, ended_there, Past, addressed_before, fall_of, has_identified, is_done, is_done_in, is_identified, outcomes, each_passes, not_longer, Carry, Restarts, begun_in, epoch_begun, unless_restart, with_heard, Heard, View, ats_in, mst_in, begins, drive_at, own_mst, IsClear, IsRun, behind_ats, behind_mdt, behind_mst, view_of, views_of, IsOpened, StartsEpoch, begins_empty}
use Rattle.sercos_law_run.proofs.Views.MasterSame.{ats_none, done_below}
use Rattle.sercos_law_run.proofs.Views.Members.{members_count}
use Rattle.sercos_law_run.proofs.Headline.HeadlineRuns.{all_stand}
use Rattle.sercos_law_run.proofs.Held.Extended.{begun_same}
use Rattle.sercos_law_run.proofs.Undisturbed.Arriving.AtsTaken.{unheard_ats}
use Rattle.sercos_law_run.proofs.Undisturbed.JobsBegun.{begun_end, begun_then, few_now}
use Rattle.sercos_law_run.proofs.Undisturbed.NoFalls.{heard_mdt}
use Rattle.sercos_law_run.proofs.Undisturbed.PhaseCounts.{none_identified}
use Rattle.sercos_law_run.proofs.Undisturbed.PhaseRuns.{fresh_at}
use Rattle.sercos_law_run.proofs.Undisturbed.PhaseZero.{in_zero, none_addressed}
use Rattle.sercos_law_run.proofs.Undisturbed.StaysUp.{begun_none}
use Rattle.sercos_law_run.proofs.Undisturbed.StaysUp as undisturbed
use Rattle.sercos_law_run.proofs.Recovery.LateDown.{turns_now}
use Rattle.sercos_law_run.proofs.Undisturbed.Stops.StopOnce.{same_start}
use Rattle.sercos_law_run.proofs.Undisturbed.ChannelsKept.{phase_now}

-- OUTCOMES: one that ended well is there, and there are no more than requests begun before the cycle.
as_many : (b : Bool) (a : Heard) (begun : List Begun) → length (if b then with_answer (answer_in a.status a.word) begun else begun) ≡ length
    begun
as_many true a [] = refl
as_many true a (b ∷ begun) = refl
as_many false a begun = refl

heard_count : (o : Option Heard) (begun : List Begun) → length (with_heard o begun) ≡ length begun
heard_count None begun = refl
heard_count (Some a) begun = as_many (answers_it begun a.status) a begun

no_more : (b : Bool) (begun : List Begun) → length (if b then [] else begun) ≤ length begun
no_more true begun = omega arith
no_more false begun = omega arith

few_in : (v : View) (past : List View) → length (outcomes_in (begun_in v past)) ≤ length (epoch_begun past)
few_in v past =
    let begun = ap length (begun_same v.begins (with_heard v.heard (unless_restart v (epoch_begun past)))) in
    let few = not_longer (with_heard v.heard (unless_restart v (epoch_begun past))) in
    let same = heard_count v.heard (unless_restart v (epoch_begun past)) in
    let most = no_more v.master_restarts (epoch_begun past) in omega (arith, begun, few, same, most)

module _ (r : RingView) (jobs : List Job) (carry : Carry) (restarts : Restarts) (opened : IsOpened r jobs) where
  -- THE FIRST CYCLE OF A PHASE, u, after w
  module _ (u w : CycleView) (j : List CycleView) (run : IsRun r jobs carry restarts (u ∷ w ∷ j)) (clear : IsClear (u ∷ w ∷ j))
      (none : fall_of (known_of r) (behind_mdt r jobs carry restarts w.sent j) ≡ None) (still : restarts (length (w ∷ j)) 0 ≡ false)
      (still_before : restarts (length j) 0 ≡ false) (first : w.phase + 1 ≡ u.phase)
      (done : is_done (known_of r) (behind_mdt r jobs carry restarts u.sent (w ∷ j)) ≡ true) (k : ℕ) (below : k < length r.drives) where
    abbrev now : Past
    now = behind_mdt r jobs carry restarts u.sent (w ∷ j)

    abbrev before : Past
    before = behind_mdt r jobs carry restarts w.sent j

    inside : k < length (known_of r).drives
    inside = let count = members_count r in omega (arith, count, below)

    few : length (outcomes now k) ≤ length (epoch_begun (views_of r jobs carry restarts k (w ∷ j)))
    few = subst (λ (l : List Begun). length (outcomes_in l) ≤ length (epoch_begun (views_of r jobs carry restarts k (w ∷ j))))
        (sym (begun_then r jobs carry restarts opened u (w ∷ j) run clear k below))
        (few_in (view_of r jobs carry restarts k u (w ∷ j)) (views_of r jobs carry restarts k (w ∷ j)))

    done_in : (n : ℕ) → u.phase ≡ n → is_done_in n (known_of r) now ≡ true
    done_in n is = ap (λ (m : ℕ). is_done_in m (known_of r) now) (sym is ∙ sym (phase_now r jobs carry restarts u (w ∷ j) run.1)) ∙ done

    not_three : u.phase ≡ 3 → ⊥
    not_three three =
        let ready : is_ready (member (known_of r) k) (outcomes now k) ≡ true = each_passes (length (known_of r).drives) 0
        (λ i. is_ready (member (known_of r) i) (outcomes now i)) (done_in 3 three) k (omega arith) (omega (arith, inside)) in
        let within = ended_there (outcomes now k) (reads_count (member (known_of r) k) + 12) (and_parts _ _ ready).1 in
        let same = phase_now r jobs carry restarts w j run.0.1 in
        let begun = few_now r jobs carry restarts opened w j run.0 clear.0 none k below (omega (arith, same, first, three)) in
        let most = few in omega (arith, within, most, begun)

    not_one : u.phase ≡ 1 → ⊥
    not_one one =
        let zero_is : before.now.phase ≡ 0 = phase_now r jobs carry restarts w j run.0.1 ∙ (omega (arith, first, one)) in
        let start_before = same_start r jobs carry restarts j still_before in
        let starts : StartsEpoch r jobs carry restarts j =
        ap (λ (p : Past). p.now.phase) (sym start_before) ∙ sym run.0.1.phase ∙ (omega (arith, first, one)) in
        let fresh : has_identified k now.turns ≡ false =
        ap (has_identified k) (turns_now r jobs carry restarts u w j none still)
        ∙ none_identified before.now.phase (before.now.heard k) (has_identified k before.turns)
        zero_is (ap (has_identified k) (undisturbed.turns_now r jobs carry restarts opened w j
        ∙ ap (λ (p : Past). p.turns) start_before) ∙ (in_zero r jobs carry restarts j starts).fresh k) in
        let quiet : (behind_mst r jobs carry restarts u.sent (w ∷ j)).now.heard k ≡ false =
        ap (λ (p : Past). p.now.heard k) (same_start r jobs carry restarts (w ∷ j) still) ∙ fresh_at r jobs carry restarts k (w ∷ j) in
        false≢true (sym (elim (cases_Bool (now.now.phase == 1)) [
          | inl on ↦ rw on (rw (
            (ap (λ (f : ℕ → Bool). f k) (heard_mdt (known_of r) (behind_ats r jobs carry restarts u.sent (w ∷ j)))
                ∙ unheard_ats r jobs carry (length (w ∷ j)) k (behind_mst r jobs carry restarts u.sent (w ∷ j)) (ats_in u.sent)
                (own_mst carry (length (w ∷ j)) (mst_in u.sent) (begins r carry restarts (w ∷ j)))
                (ats_none (known_of r) k (λ content. Unit {0}) (behind_mst r jobs carry restarts u.sent (w ∷ j)))
                (rw (
                  (sym run.1.phase ∙ one),
                  (ap addressed_before
                      (sym (undisturbed.turns_now r jobs carry restarts opened u (w ∷ j)) ∙ turns_now r jobs carry restarts u w j none still)
                      ∙ none_addressed (known_of r) (behind_ats r jobs carry restarts w.sent j) zero_is),
                ) refl) quiet),
            fresh,
          ) refl)
          | inr off ↦ rw off fresh
        ])
        ∙ each_passes (length (known_of r).drives) 0 (λ i. is_identified now i) (done_in 1 one) k
        (omega arith) (omega (arith, inside)))

    -- isn't its last.
    pub never_first : ⊥
    never_first = elim (cases_eq u.phase 1) [
      | inl one ↦ not_one one
      | inr more_than ↦ elim (cases_eq u.phase 2) [
        | inl two ↦ let checked : is_checked (member (known_of r) k) (outcomes now k) ≡ true = each_passes (length (known_of r).drives) 0
            (λ i. is_checked (member (known_of r) i) (outcomes now i)) (done_in 2 two) k (omega arith) (omega (arith, inside)) in
            let nothing : epoch_begun (views_of r jobs carry restarts k (w ∷ j)) ≡ [] = begun_end r jobs carry restarts opened w j run.0
            clear.0
            none k
            ∙ begun_none (drive_at r k).busy (begins_empty (drive_at r k).busy) (view_of r jobs carry restarts k w j)
            (views_of r jobs carry restarts k j) (all_stand r jobs carry restarts opened (w ∷ j) run.0 clear.0 k below).sees.run
            (omega (arith, first, two)) in
            let zero = ap length nothing in
            let most = few in omega (arith, ended_there (outcomes now k) (reads_count (member (known_of r) k) + 11) checked, most, zero)
        | inr other ↦ (let top = done_below now.now.phase (known_of r) now done in
            not_three (omega (arith, first, more_than, other, top, phase_now r jobs carry restarts u (w ∷ j) run.1)))
      ]
    ]
