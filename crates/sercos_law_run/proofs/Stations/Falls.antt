-- Why a ring falls, by what arrived at the master in its last cycles.
use Rattle.sercos_law_run.proofs.Words.{◌≡◌, ℕ, zero, suc, ◌+◌, ◌<◌, ◌≤◌, ◌==◌, Bool, true, false, not, ◌&&◌, List, [], ◌∷◌, length, Option, Some, None, refl, sym, ◌∙◌, ap, subst, arith, if◌then◌else◌, nat_le, is_some, is_none, slice_index, unwrap_or, option_or, and_parts, false_from_ne_true, false≢true, not-true, nat_tests, at_fault, Layout, Outcome, Job, RingView, answers_it, open_in, Begin, Send, Hear, EndCycle, age_of, begun_by, cycles_open, at_len, is_place, outcomes_in, Known, MemberView, known_of, member, tasks_for, Past, Turn, Call, after_at, after_at_of, after_taken, count_addressed, fall_at, fall_of, first_place, goes_on, has_lost_at, has_lost_mst, is_at_limit, is_done, is_mst, is_taken, new_epoch, next_phase, outcomes, place_of, still_waiting, restart_told, CycleView, EventsView, Fall, MstLost, AtLost, StepLimit, Carry, Restarts, heard, passage, mst_in, ats_in, IsRun, IsNext, at_calls, begins, drive_at, looks_back, master_calls, middle, no_events, own_mst, station_of, with_at, at_start, behind_ats, behind_mdt, behind_mst, IsOpened, AreTo, FallsHaveCause, HasCause, Identification, IsLate, IsOpenFor, MissesAt, MissesMst, MstComesFirst, NoneReads, NoneReadsIn, comes_back, was_sent, first_found, head_fault, cases_Bool, cases_Option, inl, inr, ChannelCall, Kind, eq-eqb}
use Rattle.sercos_trace.specs.declared.events.Fall.TheVariants.{Restart}
use Rattle.sercos_law_run.specs.Stations.Falls.{Step}
use Rattle.sercos_law_run.proofs.Stations.Limits.{IsWithin, within}
use Rattle.sercos_law_run.proofs.Undisturbed.Arriving.Addressed.{place_found, place_so}
use Rattle.sercos_law_run.proofs.Undisturbed.NoFalls.{heard_mdt}
use Rattle.sercos_law_run.proofs.Views.MasterSame.{SameTurn, begun_cycle, turn_mdt}
use Rattle.sercos_law_run.proofs.Views.Members.{member_is, members_count}
use Rattle.sercos_law_run.proofs.Views.ViewRuns.{started}
use Rattle.sercos_law_run.proofs.Undisturbed.Arriving.AfterAt.{after_at_so, ats_keep}

-- Without an age no record was sent for the open step.
never_sent : (h : List ChannelCall) → is_some (open_in (begun_by h)) ≡ true → age_of h ≡ None → was_sent h ≡ false
never_sent [] waits none = refl
never_sent (Begin r ∷ h) waits none = refl
never_sent (Send ∷ h) waits none =
    let some : Some (unwrap_or (age_of h) 0) ≡ None = sym (ap (λ (b : Bool). if b then Some (unwrap_or (age_of h) 0) else None) waits) ∙ none in
    absurd (cc)
never_sent (EndCycle ∷ h) waits none = never_sent h waits (elim (cases_Option (age_of h)) [
  | inl is ↦ rw is
  | inr (n, some) ↦ let none = rw some at none in absurd (cc)
])
never_sent (Hear status word ∷ h) waits none = elim (cases_Bool (answers_it (begun_by h) status)) [
  | inl on ↦ rw on
  | inr off ↦ rw off (never_sent h (rw off at waits) (rw off at none))
]

-- A STEP is open for as many cycles as its age has.
abbrev IsOpenAt : List ChannelCall → Type 0
IsOpenAt h = (n : ℕ) → age_of h ≡ Some n → IsOpenFor h n

open_for : (h : List ChannelCall) → IsOpenAt h
open_for [] n e = cc
open_for (Begin r ∷ h) n e = cc
open_for (EndCycle ∷ h) n e = elim (cases_Option (age_of h)) [
  | inl is ↦ let e = rw is at e in cc
  | inr (m, is) ↦
      let since = open_for h m is in
      let next : m + 1 ≡ n = (let e = rw is at e in cc) in
      record { newer = EndCycle ∷ since.newer; older = since.older; split = ap (λ (c : List ChannelCall). EndCycle ∷ c) since.split; waits = since.waits; first = since.first; same = since.same; count = ap (λ (m : ℕ). m + 1) since.count ∙ next }
]
open_for (Hear status word ∷ h) n e = elim (cases_Bool (answers_it (begun_by h) status)) [
  | inl is ↦ let e = rw is at e in cc
  | inr is ↦
      let since = open_for h n (rw is at e) in
      record {
        newer = Hear status word ∷ since.newer;
        older = since.older;
        split = ap (λ (c : List ChannelCall). Hear status word ∷ c)
            since.split;
        waits = since.waits;
        first = since.first;
        same = rw is since.same;
        count = since.count;
      }
]
open_for (Send ∷ h) n e = elim (cases_Bool (is_some (open_in (begun_by h)))) [
  | inl waits ↦ elim (cases_Option (age_of h)) [
    | inl age ↦
        let zero : 0 ≡ n = (let e = rw (waits, age) at e in cc) in
        record { newer = []; older = h; split = refl; waits = waits; first = never_sent h waits age; same = refl; count = zero }
    | inr (m, age) ↦
        let since = open_for h m age in
        let same : m ≡ n = (let e = rw (waits, age) at e in cc) in
        record { newer = Send ∷ since.newer; older = since.older; split = ap (λ (c : List ChannelCall). Send ∷ c) since.split; waits = since.waits; first = since.first; same = since.same; count = since.count ∙ same }
  ]
  | inr shut ↦ let e = rw shut at e in cc
]

late_step : (h : List ChannelCall) → nat_le 64 (cycles_open h) ≡ true → ((n : ℕ) → age_of h ≡ Some n → n ≤ 64) → IsOpenFor h 64
late_step h late few = elim (cases_Option (age_of h)) [
  | inl is ↦ absurd (false≢true (rw is at late))
  | inr (n, is) ↦
      let least : 64 ≤ n = grind (arith, nat_tests, (rw is at late)) in
      open_for h 64 (is ∙ ap Some (omega (arith, few n is, least)))
]

-- AN IDENTIFICATION goes to one drive.
are_to : (k n : ℕ) (turns : List Turn) → n ≤ count_addressed k turns → AreTo k n turns
are_to k zero turns many = tt
are_to k (suc n) [] many = absurd (omega (arith, many))
are_to k (suc n) (t ∷ turns) many = elim (cases_Bool ((t.phase == 1) && is_place k t.addressed)) [
  | inl is ↦
      let (one, to) = and_parts (t.phase == 1) (is_place k t.addressed) is in
      (grind (arith, nat_tests, one), place_so k t.addressed to, are_to k n turns (omega (arith, (rw is at many))))
  | inr is ↦ absurd (omega (arith, (rw is at many)))
]

-- .. and to no other in so many cycles
no_more : (k n : ℕ) (turns : List Turn) → AreTo k n turns → n ≤ count_addressed k turns
no_more k zero turns are = omega arith
no_more k (suc n) [] are = absurd are
no_more k (suc n) (t ∷ turns) are =
    let to : is_place k t.addressed ≡ true = ap (is_place k) are.1 ∙ eq-eqb k k refl in
    let on : ((t.phase == 1) && is_place k t.addressed) ≡ true = rw (are.0, to) refl in
    omega (arith, no_more k n turns are.2, ap (λ (b : Bool). if b then count_addressed k turns + 1 else 0) on)

late_so : (p : Past) (k : ℕ) → IsWithin p k → is_at_limit p k ≡ true → IsLate p k
late_so p k within limit = elim (cases_Bool (p.now.phase == 1)) [
  | inl one ↦
      let (to, many) = and_parts (is_place k p.now.addressed) (nat_le 64 (count_addressed k p.turns)) (rw one at limit) in
      let is : p.now.phase ≡ 1 = grind (arith, nat_tests, one) in
      Identification is (is, place_so k p.now.addressed to, are_to k 64 p.turns (grind (arith, nat_tests, many)))
      (λ are. omega (arith, within.few, no_more k 65 p.turns are.2))
  | inr one ↦ Step (late_step (p.calls k) (rw one at limit) within.aged.1)
]

-- THE ATS of a cycle, as the master takes them. A place from which none was taken has its channel as before.
record AtsLeave (k : ℕ) (q p : Past) : Type 0 where
  phase_is : p.now.phase ≡ q.now.phase
  whole_is : p.now.whole ≡ q.now.whole
  turns_are : p.turns ≡ q.turns
  quiet : p.now.heard k ≡ false → (q.now.heard k ≡ false) × (p.calls k ≡ q.calls k)

leaves_same : (k : ℕ) (q : Past) → AtsLeave k q q
leaves_same k q = record { phase_is = refl; whole_is = refl; turns_are = refl; quiet = λ none. (none, refl) }

leaves_then : (k : ℕ) (q p o : Past) → AtsLeave k q p → AtsLeave k p o → AtsLeave k q o
leaves_then k q p o one two = record {
  phase_is = two.phase_is ∙ one.phase_is;
  whole_is = two.whole_is ∙ one.whole_is;
  turns_are = two.turns_are ∙ one.turns_are;
  quiet = λ none. let (first, calls) = two.quiet none in let (before, same) = one.quiet first in (before, calls ∙ same);
}

at_leaves : (s : Known) (k : ℕ) (content : List ℕ) (q : Past) → AtsLeave k q (after_at s content q)
at_leaves s k content q = after_at_so (λ x. AtsLeave k q x) s content q (leaves_same k q)
    (λ i. record { phase_is = refl; whole_is = refl; turns_are = refl; quiet = which (k == i) _ })
  where
    which : (same : Bool) (calls : List ChannelCall) → (if same then true else q.now.heard k) ≡ false
        → (q.now.heard k ≡ false) × ((if same then calls else q.calls k) ≡ q.calls k)
    which true calls none = absurd (false≢true (sym none))
    which false calls none = (none, refl)

-- a place from which none is taken in phases 3 and 4 gets none that reads
unread : (s : Known) (k : ℕ) (content : List ℕ) (q : Past) → place_of s (slice_index content 0) ≡ Some k → 3 ≤ q.now.phase
    → (after_at s content q).now.heard k ≡ false
    → is_none (at_fault (member s k).address (at_len (member s k) (outcomes q k)) content) ≡ false
unread s k content q found late none =
    by (is_taken s q k content) refl (subst (λ (o : Option ℕ). (after_at_of s o content q).now.heard k ≡ false) found none)
  where
    reads : Bool
    reads = is_none (at_fault (member s k).address (at_len (member s k) (outcomes q k)) content)

    high : nat_le 3 q.now.phase ≡ true
    high = grind (arith, nat_tests, late)

    same_place : (k == k) ≡ true
    same_place = grind (arith, nat_tests)

    by : (b : Bool) → is_taken s q k content ≡ b → (if b then after_taken k content q else q).now.heard k ≡ false → reads ≡ false
    by true is none = absurd (false≢true (sym none ∙ rw same_place refl))
    by false is none = false_from_ne_true reads (λ good. false≢true (sym is ∙ (rw (high, none) good)))

-- So none of the ATs of a cycle reads as that of a drive from which none is taken.
-- one that has another address doesn't
other_address : (address len : ℕ) (content : List ℕ) → (slice_index content 0 == address) ≡ false
    → is_some (at_fault address len content) ≡ true
unfolding head_fault
other_address address len content other = rw other (elim (cases_Bool (length content == 1 + len)) [ inl on ↦ rw on | inr off ↦ rw off ])

some_so : (o : Option Layout) → is_none o ≡ false → is_some o ≡ true
some_so None e = absurd (false≢true (sym e))
some_so (Some x) e = refl

record AtsAre (r : RingView) (jobs : List Job) (carry : Carry) (cycle k : ℕ) (ats : List (List ℕ)) (q p : Past) : Type 0 where
  leaves : AtsLeave k q p
  none : p.now.heard k ≡ false → 3 ≤ q.now.phase
      → NoneReads r carry cycle (drive_at r k).address (at_len (member (known_of r) k) (outcomes p k)) ats

module _ (r : RingView) (jobs : List Job) (carry : Carry) (restarts : Restarts) (opened : IsOpened r jobs) where
  ats_are : (cycle k : ℕ) → k < length r.drives → (ats : List (List ℕ)) (h : List Call)
      → AtsAre r jobs carry cycle k ats (looks_back r jobs h) (looks_back r jobs (at_calls r carry cycle ats h))
  ats_are cycle k below [] h = record { leaves = leaves_same k (looks_back r jobs h); none = λ none late. tt }
  ats_are cycle k below (at ∷ ats) h = by (heard carry (passage cycle Kind.At (station_of r (slice_index at 0)) 0) at) refl (λ (o : Option (List ℕ)). ats_are cycle k below ats (with_at o h))
    where
      by : (o : Option (List ℕ)) → heard carry (passage cycle Kind.At (station_of r (slice_index at 0)) 0) at ≡ o
          → ((o : Option (List ℕ)) → AtsAre r jobs carry cycle k ats (looks_back r jobs (with_at o h)) (looks_back r jobs (at_calls r carry cycle ats (with_at o h))))
          → AtsAre r jobs carry cycle k (at ∷ ats) (looks_back r jobs h) (looks_back r jobs (at_calls r carry cycle ats (with_at o h)))
      by None is more = let rest = more None in record { leaves = rest.leaves; none = λ quiet late. ((λ content came. let no : None ≡ Some content = sym is ∙ came in absurd (cc)), rest.none quiet late) }
      by (Some got) is more = record {
        leaves = leaves_then k (looks_back r jobs h) (after_at (known_of r) got (looks_back r jobs h)) _
            (at_leaves (known_of r) k got (looks_back r jobs h)) (more (Some got)).leaves;
        none = λ quiet late.
            let (before, calls) = (more (Some got)).leaves.quiet quiet in (
              (λ content came. let same : got ≡ content = cc in subst (λ (c : List ℕ). is_some (at_fault (drive_at r k).address (at_len (member (known_of r) k) (outcomes last k)) c) ≡ true) same
                  (reads before calls ((at_leaves (known_of r) k got (looks_back r jobs h)).quiet before).1 late)),
              (more (Some got)).none quiet (omega (arith, late, (at_leaves (known_of r) k got (looks_back r jobs h)).phase_is)),
            );
      }
        where
          last : Past
          last = looks_back r jobs (at_calls r carry cycle ats (with_at (Some got) h))

          reads : (after_at (known_of r) got (looks_back r jobs h)).now.heard k ≡ false
              → last.calls k ≡ (after_at (known_of r) got (looks_back r jobs h)).calls k
              → (after_at (known_of r) got (looks_back r jobs h)).calls k ≡ (looks_back r jobs h).calls k
              → 3 ≤ (looks_back r jobs h).now.phase
              → is_some (at_fault (drive_at r k).address (at_len (member (known_of r) k) (outcomes last k)) got) ≡ true
          reads before calls same late =
              let outs = ap (λ (c : List ChannelCall). outcomes_in (begun_by c)) (sym same ∙ sym calls) in
              elim (cases_Bool (slice_index got 0 == (drive_at r k).address)) [
                | inl own ↦
                    let mine : slice_index got 0 ≡ (drive_at r k).address = grind (arith, nat_tests, own) in
                    let found : place_of (known_of r) (slice_index got 0) ≡ Some k = ap (place_of (known_of r)) mine ∙ place_found r k opened.valid below in
                    some_so _ (ap (λ (l : List Outcome). is_none (at_fault (drive_at r k).address (at_len (member (known_of r) k) l) got)) (sym outs)
                    ∙ ap (λ (a : ℕ). is_none (at_fault a (at_len (member (known_of r) k) (outcomes (looks_back r jobs h) k)) got))
                    (sym (ap (λ (m : MemberView). m.address) (member_is r k)))
                    ∙ unread (known_of r) k got (looks_back r jobs h) found late before)
                | inr other ↦ other_address (drive_at r k).address (at_len (member (known_of r) k) (outcomes last k)) got other
              ]

  -- THE TURN of a cycle.
  turn_at : (t : CycleView) (j : List CycleView)
      → SameTurn (behind_mdt r jobs carry restarts t.sent j) (behind_mst r jobs carry restarts t.sent j)
  turn_at t j =
      let a = turn_mdt (known_of r) (behind_ats r jobs carry restarts t.sent j) in
      let b = ats_keep (λ g. SameTurn (looks_back r jobs g)
      (looks_back r jobs (own_mst carry (length j) (mst_in t.sent) (begins r carry restarts j)))) r carry (length j) (ats_in t.sent)
      (own_mst carry (length j) (mst_in t.sent) (begins r carry restarts j))
      (record { phase_is = refl; whole_is = refl; turns_are = refl })
      (λ content g so. after_at_so (λ p. SameTurn p (looks_back r jobs
      (own_mst carry (length j) (mst_in t.sent) (begins r carry restarts j)))) (known_of r) content (looks_back r jobs g) so
      (λ k. record { phase_is = so.phase_is; whole_is = so.whole_is; turns_are = so.turns_are })) in
      record { phase_is = a.phase_is ∙ b.phase_is; whole_is = a.whole_is ∙ b.whole_is; turns_are = a.turns_are ∙ b.turns_are }

  phase_at : (t : CycleView) (j : List CycleView) → IsNext r jobs carry restarts t j
      → (behind_mdt r jobs carry restarts t.sent j).now.phase ≡ t.phase
  phase_at t j next = (turn_at t j).phase_is ∙ sym next.phase

  whole_at : (t : CycleView) (j : List CycleView) → IsNext r jobs carry restarts t j
      → (behind_mdt r jobs carry restarts t.sent j).now.whole ≡ comes_back carry t j
  whole_at t j next = (turn_at t j).whole_is ∙ ap (λ (n : ℕ). is_mst n (heard carry (passage (length j) Kind.Mst 0 0) (mst_in t.sent))) (sym next.phase)

  none_at : (t : CycleView) (j : List CycleView) (k : ℕ) → k < length r.drives → IsNext r jobs carry restarts t j → 3 ≤ t.phase
      → (behind_mdt r jobs carry restarts t.sent j).now.heard k ≡ false → NoneReadsIn r jobs carry restarts t j k
  none_at t j k below next late quiet =
      let same = next.phase in
      (ats_are (length j) k below (ats_in t.sent) (own_mst carry (length j) (mst_in t.sent) (begins r carry restarts j))).none
      (ap (λ (f : ℕ → Bool). f k) (sym (heard_mdt (known_of r) (behind_ats r jobs carry restarts t.sent j))) ∙ quiet) (omega (arith, late, same))

  -- the turn before it is that of the cycle before, from which the phase hasn't gone down
  record IsBefore (t : CycleView) (j : List CycleView) (b : Turn) : Type 0 where
    before : CycleView
    older : List CycleView
    follows : j ≡ before ∷ older
    turn : b ≡ (behind_mdt r jobs carry restarts before.sent older).now
    phase : b.phase ≤ (at_start r jobs carry restarts j).now.phase

  turn_before : (t : CycleView) (j : List CycleView) (b : Turn) (rest : List Turn)
      → (behind_mdt r jobs carry restarts t.sent j).turns ≡ b ∷ rest → IsBefore t j b
  turn_before t j b rest is = by (restarts (length j) 0) j (started r jobs (restarts (length j) 0) (master_calls r carry restarts j)) (sym (turn_at t j).turns_are ∙ is) refl
    where
      last : (u : CycleView) (older : List CycleView) → (b' : Bool) → (p : Past) → p ≡ (behind_mdt r jobs carry restarts u.sent older)
          → (if b' then new_epoch (p.cycle + 1) (still_waiting p) else goes_on (next_phase (known_of r) p) p).turns ≡ b ∷ rest
          → (b ≡ p.now) × (b.phase ≤ (if b' then new_epoch (p.cycle + 1) (still_waiting p) else goes_on (next_phase (known_of r) p) p).now.phase)
      last u older true p e is = cc
      last u older false p e is =
          let same : p.now ≡ b = cc in (
            sym same,
            subst (λ (x : Turn). x.phase ≤ next_phase (known_of r) p) same
                (elim (cases_Bool (is_done (known_of r) p)) [ inl on ↦ rw on (omega arith) | inr off ↦ rw off (omega arith) ]),
          )

      by : (restarted : Bool) (i : List CycleView)
          → at_start r jobs carry restarts j ≡ begun_cycle restarted (looks_back r jobs (master_calls r carry restarts j))
          → (at_start r jobs carry restarts j).turns ≡ b ∷ rest → j ≡ i → IsBefore t j b
      by true i start is same = let none : [] ≡ b ∷ rest = sym (ap (λ (p : Past). p.turns) start) ∙ is in absurd (cc)
      by false [] start is same =
          let none : [] ≡ b ∷ rest = sym (ap (λ (i : List CycleView). (looks_back r jobs (master_calls r carry restarts i)).turns) same) ∙ sym (ap (λ (p : Past). p.turns) start) ∙ is in absurd (cc)
      by false (u ∷ older) start is same =
          let (turn, low) = last u older (is_some (fall_of (known_of r) (behind_mdt r jobs carry restarts u.sent older))) (behind_mdt r jobs carry restarts u.sent older) refl
          (sym (ap (λ (i : List CycleView). (looks_back r jobs (master_calls r carry restarts i)).turns) same) ∙ sym (ap (λ (p : Past). p.turns) start) ∙ is) in
          record {
            before = u;
            older = older;
            follows = same;
            turn = turn;
            phase = subst (λ (n : ℕ). b.phase ≤ n) (sym (ap (λ (p : Past). p.now.phase) start ∙ ap (λ (i : List CycleView). (looks_back r jobs (master_calls r carry restarts i)).now.phase) same)) low;
          }

  -- THE CAUSES.
  mst_lost : (t : CycleView) (j : List CycleView) → IsRun r jobs carry restarts (t ∷ j)
      → has_lost_mst ((behind_mdt r jobs carry restarts t.sent j).now ∷ (behind_mdt r jobs carry restarts t.sent j).turns) ≡ true
      → MissesMst carry t j
  mst_lost t j run lost = by (behind_mdt r jobs carry restarts t.sent j).turns refl lost
    where
      by : (turns : List Turn) → (behind_mdt r jobs carry restarts t.sent j).turns ≡ turns
          → has_lost_mst ((behind_mdt r jobs carry restarts t.sent j).now ∷ turns) ≡ true → MissesMst carry t j
      by [] is lost = absurd (false≢true lost)
      by (b ∷ rest) is lost =
          let (up, both) = and_parts (nat_le 1 b.phase) (not (behind_mdt r jobs carry restarts t.sent j).now.whole && not b.whole) lost in
          let (now, then_) = and_parts (not (behind_mdt r jobs carry restarts t.sent j).now.whole) (not b.whole) both in
          let before = turn_before t j b rest is in
          let older_next : IsNext r jobs carry restarts before.before before.older = (subst (λ (i : List CycleView). IsRun r jobs carry restarts i) before.follows run.0).1 in
          record {
            now = sym (whole_at t j run.1) ∙ not-true (behind_mdt r jobs carry restarts t.sent j).now.whole now;
            phase_now = grind (arith, nat_tests, up, before.phase, run.1.phase);
            before = before.before;
            older = before.older;
            follows = before.follows;
            lost = sym (whole_at before.before before.older older_next) ∙ ap (λ (x : Turn). x.whole) (sym before.turn) ∙ not-true b.whole then_;
            phase = grind (arith, nat_tests, up, ap (λ (x : Turn). x.phase) before.turn ∙ phase_at before.before before.older older_next);
          }

  at_lost : (t : CycleView) (j : List CycleView) (k : ℕ) → k < length r.drives → IsRun r jobs carry restarts (t ∷ j)
      → has_lost_at k ((behind_mdt r jobs carry restarts t.sent j).now ∷ (behind_mdt r jobs carry restarts t.sent j).turns) ≡ true
      → MissesAt r jobs carry restarts t j (member (known_of r) k).address
  at_lost t j k below run lost = by (behind_mdt r jobs carry restarts t.sent j).turns refl lost
    where
      by : (turns : List Turn) → (behind_mdt r jobs carry restarts t.sent j).turns ≡ turns
          → has_lost_at k ((behind_mdt r jobs carry restarts t.sent j).now ∷ turns) ≡ true
          → MissesAt r jobs carry restarts t j (member (known_of r) k).address
      by [] is lost = absurd (false≢true lost)
      by (b ∷ rest) is lost =
          let (up, both) = and_parts (nat_le 3 b.phase) (not ((behind_mdt r jobs carry restarts t.sent j).now.heard k) && not (b.heard k)) lost in
          let (now, then_) = and_parts (not ((behind_mdt r jobs carry restarts t.sent j).now.heard k)) (not (b.heard k)) both in
          let before = turn_before t j b rest is in
          let older_next : IsNext r jobs carry restarts before.before before.older = (subst (λ (i : List CycleView). IsRun r jobs carry restarts i) before.follows run.0).1 in
          let phase_then = ap (λ (x : Turn). x.phase) before.turn ∙ phase_at before.before before.older older_next in
          let late : 3 ≤ t.phase = grind (arith, nat_tests, up, before.phase, run.1.phase) in
          record {
            place = k;
            inside = below;
            address_is = ap (λ (m : MemberView). m.address) (sym (member_is r k));
            now = none_at t j k below run.1 late (not-true ((behind_mdt r jobs carry restarts t.sent j).now.heard k) now);
            phase_now = late;
            before = before.before;
            older = before.older;
            follows = before.follows;
            lost = none_at before.before before.older k below older_next (grind (arith, nat_tests, up, phase_then)) (ap (λ (x : Turn). x.heard k) (sym before.turn) ∙ not-true (b.heard k) then_);
            phase = grind (arith, nat_tests, up, phase_then);
          }

  -- THE ORDER. The turn before is that of the cycle before, where phase 1 or a later one is commanded.
  turn_then : (t u : CycleView) (older : List CycleView) → IsNext r jobs carry restarts t (u ∷ older) → 1 ≤ t.phase
      → (rest : List Turn) × ((behind_mdt r jobs carry restarts t.sent (u ∷ older)).turns ≡ (behind_mdt r jobs carry restarts u.sent older).now ∷ rest)
  turn_then t u older next some = by (restarts (length (u ∷ older)) 0)
      (started r jobs (restarts (length (u ∷ older)) 0) (master_calls r carry restarts (u ∷ older)))
    where
      p : Past
      p = behind_mdt r jobs carry restarts u.sent older

      last : (fell : Bool) → 1 ≤ (if fell then new_epoch (p.cycle + 1) (still_waiting p) else goes_on (next_phase (known_of r) p) p).now.phase
          → (rest : List Turn)
          × ((if fell then new_epoch (p.cycle + 1) (still_waiting p) else goes_on (next_phase (known_of r) p) p).turns ≡ p.now ∷ rest)
      last true high = absurd (omega (arith, high))
      last false high = (p.turns, refl)

      by : (restarted : Bool)
          → at_start r jobs carry restarts (u ∷ older) ≡ begun_cycle restarted (looks_back r jobs (master_calls r carry restarts (u ∷ older)))
          → (rest : List Turn) × ((behind_mdt r jobs carry restarts t.sent (u ∷ older)).turns ≡ p.now ∷ rest)
      by true start =
          absurd (omega (arith, ap (λ (q : Past). q.now.phase) start, next.phase, some))
      by false start =
          let found = last (is_some (fall_of (known_of r) p)) (omega (arith, next.phase, some, ap (λ (q : Past). q.now.phase) start)) in
          (found.0, (turn_at t (u ∷ older)).turns_are ∙ (ap (λ (q : Past). q.turns) start ∙ found.1))

  -- the own MST that is lost twice is the first thing that is looked at
  lost_so : (t u : CycleView) (older : List CycleView) → IsRun r jobs carry restarts (t ∷ u ∷ older) → 1 ≤ t.phase
      → comes_back carry t (u ∷ older) ≡ false → comes_back carry u older ≡ false → 1 ≤ u.phase
      → fall_of (known_of r) (behind_mdt r jobs carry restarts t.sent (u ∷ older)) ≡ Some MstLost
  lost_so t u older run some now then_ up =
      let before = whole_at u older run.0.1 ∙ then_ in
      let phase = phase_at u older run.0.1 in
      let high : nat_le 1 (behind_mdt r jobs carry restarts u.sent older).now.phase ≡ true = grind (arith, nat_tests, phase, up) in
      let lost : has_lost_mst ((behind_mdt r jobs carry restarts t.sent (u ∷ older)).now ∷ (behind_mdt r jobs carry restarts t.sent (u ∷ older)).turns) ≡ true =
      rw ((turn_then t u older run.1 some).1, high, (whole_at t (u ∷ older) run.1 ∙ now), before) refl in rw lost refl

  placed : (k : ℕ) (test : ℕ → Bool) → first_place (known_of r) test ≡ Some k → (k < length r.drives) × (test k ≡ true)
  placed k test is = let first = first_found 0 (length (known_of r).drives) k test is in
      (omega (arith, first.below, members_count r), first.passes)

  caused : (t : CycleView) (j : List CycleView) → IsRun r jobs carry restarts (t ∷ j) → (f : Fall)
      → fall_of (known_of r) (behind_mdt r jobs carry restarts t.sent j) ≡ Some f → HasCause r jobs carry restarts t j f
  caused t j run f is = by (has_lost_mst (p.now ∷ p.turns)) refl (first_place (known_of r) (λ k. has_lost_at k (p.now ∷ p.turns))) refl (first_place (known_of r) (is_at_limit p)) refl is
    where
      p : Past
      p = behind_mdt r jobs carry restarts t.sent j

      within_so : (k : ℕ) → k < length r.drives → IsWithin p k
      within_so k below =
          within (known_of r) (tasks_for (known_of r) jobs) k (omega (arith, below, members_count r)) (middle r carry restarts t.sent j)

      by : (m : Bool) → has_lost_mst (p.now ∷ p.turns) ≡ m → (a : Option ℕ)
          → first_place (known_of r) (λ k. has_lost_at k (p.now ∷ p.turns)) ≡ a → (l : Option ℕ)
          → first_place (known_of r) (is_at_limit p) ≡ l
          → option_or (if m then Some MstLost else None) (option_or (fall_at AtLost (known_of r) a) (fall_at StepLimit (known_of r) l)) ≡ Some f
          → HasCause r jobs carry restarts t j f
      by true lost a at l late is = let same : MstLost ≡ f = cc in subst (HasCause r jobs carry restarts t j) same (mst_lost t j run lost)
      by false lost (Some k) at l late is =
          let same : AtLost (member (known_of r) k).address ≡ f = cc in
          let (below, passes) = placed k (λ k. has_lost_at k (p.now ∷ p.turns)) at in
          subst (HasCause r jobs carry restarts t j) same (at_lost t j k below run passes)
      by false lost None at (Some k) late is =
          let same : StepLimit (member (known_of r) k).address ≡ f = cc in
          let (below, passes) = placed k (is_at_limit p) late in
          subst (HasCause r jobs carry restarts t j) same (record { place = k; inside = below; address_is = ap (λ (m : MemberView). m.address) (sym (member_is r k)); late = late_so p k (within_so k below) passes })
      by false lost None at None late is = cc

pub falls_have_cause : FallsHaveCause
falls_have_cause r jobs carry restarts t j opened run f is =
    by (fall_of (known_of r) (behind_mdt r jobs carry restarts t.sent j)) refl (restarts (length j) 0) refl (sym (ap (λ (e : EventsView). e.fall) run.1.events) ∙ is)
  where
    by : (o : Option Fall) → fall_of (known_of r) (behind_mdt r jobs carry restarts t.sent j) ≡ o → (b : Bool) → restarts (length j) 0 ≡ b
        → option_or o (if b then restart_told (known_of r) (looks_back r jobs (master_calls r carry restarts j)) no_events else no_events).fall ≡ Some f
        → HasCause r jobs carry restarts t j f
    by (Some x) falls b restarted is = let same : x ≡ f = cc in subst (HasCause r jobs carry restarts t j) same (caused r jobs carry restarts opened t j run x falls)
    by None falls true restarted is = let same : Restart ≡ f = cc in subst (HasCause r jobs carry restarts t j) same restarted
    by None falls false restarted is = cc

pub mst_comes_first : MstComesFirst
mst_comes_first r jobs carry restarts t j opened run misses = by j misses.follows run misses.now
  where
    by : (i : List CycleView) → i ≡ misses.before ∷ misses.older → IsRun r jobs carry restarts (t ∷ i) → comes_back carry t i ≡ false
        → t.events.fall ≡ Some MstLost
    by [] same run now = absurd (cc)
    by (u ∷ older) same run now =
        let first : u ≡ misses.before = cc in
        let rest : older ≡ misses.older = cc in
        let phase : 1 ≤ u.phase = rw first misses.phase in
        let falls = lost_so r jobs carry restarts opened t u older run misses.phase_now now (rw (first, rest) misses.lost) phase in
        ap (λ (e : EventsView). e.fall) run.1.events ∙ rw falls refl
