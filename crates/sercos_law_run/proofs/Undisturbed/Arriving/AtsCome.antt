-- In an undisturbed cycle the master takes each AT that it awaits.
use Rattle.sercos_law_run.proofs.Words.{◌≡◌, ℕ, ◌+◌, ◌<◌, ◌≤◌, Bool, true, ◌&&◌, List, ◌∷◌, length, refl, sym, ◌∙◌, ap, subst, if◌then◌else◌, nat_le, is_some, Job, wishes_of, RingView, phase_in, cycle_in, blocks_in, sends, values_in, CycleView, reads, wishes_given, is_place, MemberView, member, member_of, known_of, AreAnswers, Past, outcomes, place_of, is_awaited, wanted_len, addressed_before, mdt_said, Carry, Restarts, standing, stood_in, mst_in, ats_in, drive_at, own_mst, begins, given_mst, said_below, contents, disturbs_ats, IsRun, IsClear, behind_mst, behind_ats, behind_mdt, after_mst, view_of, views_of, IsOpened, IsUndisturbed, arith, head_fault-none, inl, inr, cases_Bool}
use Rattle.sercos_seat.specs.Agenda as seat
use Rattle.sercos_law_run.proofs.Journal.RunLemmas.{ats_in-said}
use Rattle.sercos_law_run.proofs.Views.Members.{all_said, member_is}
use Rattle.sercos_law_run.proofs.Held.Runs.{wishes_so, answers_at, rules, holding}
use Rattle.sercos_law_run.proofs.Headline.HeadlineRuns.{first_store}
use Rattle.sercos_law_run.proofs.Undisturbed.Arriving.Arrivals.{AllHeard, all_heard}
use Rattle.sercos_law_run.proofs.Undisturbed.Arriving.Taken.{Took, IsAmong, own_taken, among_said}
use Rattle.sercos_law_run.proofs.Undisturbed.Arriving.Addressed.{place_found}
use Rattle.sercos_law_run.proofs.Undisturbed.Arriving.Speaking.{Speaks, speaks, sends_late, no_values, asked_len, carried_so}
use Rattle.sercos_law_run.proofs.Undisturbed.Arriving.Phases.{late_so, early_so, is_late}
use Rattle.sercos_law_run.proofs.Undisturbed.Arriving.Sending.{spelled, stored, all, mst_is, started_late}
use Rattle.sercos_law_run.proofs.Undisturbed.Arriving.MdtComes.{still, start_is, mst_came, stands_in}

module _ (r : RingView) (jobs : List Job) (carry : Carry) (restarts : Restarts) (opened : IsOpened r jobs) where
  module _ (t : CycleView) (j : List CycleView) (run : IsRun r jobs carry restarts (t ∷ j)) (clear : IsClear (t ∷ j))
      (undisturbed : IsUndisturbed r carry restarts t j) where
    ats_are : ats_in t.sent ≡ contents (said_below (length r.drives) (drive_at r) r.rate (given_mst carry restarts t.sent j))
    ats_are = ap ats_in run.1.sent ∙ ats_in-said r.rate (said_below (length r.drives) (drive_at r) r.rate (given_mst carry restarts t.sent j)) (mdt_said (known_of r) (behind_mdt r jobs carry restarts t.sent j))

    ats_come : AllHeard r carry (length j) (ats_in t.sent)
    ats_come = subst (λ (l : List (List ℕ)). AllHeard r carry (length j) l) (sym ats_are)
        (all_heard r carry (length j) (length r.drives) (drive_at r) r.rate (given_mst carry restarts t.sent j) (said_below (length r.drives) (drive_at r) r.rate (given_mst carry restarts t.sent j)) (spelled r jobs carry restarts opened t j run clear).ats
        (all_said (length r.drives) (drive_at r) r.rate (given_mst carry restarts t.sent j)) (ap (disturbs_ats r carry (length j)) (sym ats_are) ∙ (still r jobs carry restarts opened t j run clear undisturbed).ats))

    -- the bytes that the master wants of a drive are those that it sends
    wanted_is : (k : ℕ) → k < length r.drives → phase_in (after_mst r carry restarts t.sent j k) ≡ t.phase
        → wanted_len (known_of r) (behind_mst r jobs carry restarts t.sent j) k
        ≡ 4 + length (values_in (cycle_in (after_mst r carry restarts t.sent j k)) (phase_in (after_mst r carry restarts t.sent j k)) (blocks_in (drive_at r k) (after_mst r carry restarts t.sent j k)))
    wanted_is k below stands =
        let first = run.1.phase in
        elim (cases_Bool (nat_le 3 t.phase)) [
          | inl is ↦
              let late : 3 ≤ t.phase = late_so t.phase is in
              let (plan, planned, holds) = holding r jobs carry restarts opened (first_store r jobs carry restarts opened) t j run.1 clear.1 (spelled r jobs carry restarts opened t j run clear) (stored r jobs carry restarts opened t j run clear) (all r jobs carry restarts opened t j run clear) (started_late r jobs carry restarts opened t j run clear late) k below in
              let asked : wishes_given (known_of r) (outcomes (behind_mst r jobs carry restarts t.sent j)) ≡ wishes_of r =
              wishes_so r jobs carry restarts opened (first_store r jobs carry restarts opened) (outcomes (behind_mst r jobs carry restarts t.sent j)) (λ i low.
              subst (λ (p : Past). AreAnswers (drive_at r i) (reads (member_of (drive_at r i))) (outcomes p i)) (sym (start_is r jobs carry restarts opened t j run clear undisturbed)) (answers_at r jobs carry restarts opened (first_store r jobs carry restarts opened) j plan (all r jobs carry restarts opened t j run clear) planned.before i low)) in
              ap (λ (b : Bool). if b then seat.at_len (member (known_of r) k) (outcomes (behind_mst r jobs carry restarts t.sent j) k) else 4) (ap (nat_le 3) (sym first) ∙ is)
              ∙ asked_len r (outcomes (behind_mst r jobs carry restarts t.sent j)) k below asked
              ∙ sym (carried_so (drive_at r k) (cycle_in (after_mst r carry restarts t.sent j k))
              (phase_in (after_mst r carry restarts t.sent j k)) r.control r.cycle k plan
              (blocks_in (drive_at r k) (after_mst r carry restarts t.sent j k))
              (rules r jobs carry restarts opened (first_store r jobs carry restarts opened) t j run.1 clear.1 (spelled r jobs carry restarts opened t j run clear) (stored r jobs carry restarts opened t j run clear) (all r jobs carry restarts opened t j run clear) k below)
              (stored r jobs carry restarts opened t j run clear k below).0 (stored r jobs carry restarts opened t j run clear k below).1
              holds (subst (λ (n : ℕ). 3 ≤ n) (sym stands) late))
          | inr is ↦
              let early : phase_in (after_mst r carry restarts t.sent j k) ≤ 2 = subst (λ (n : ℕ). n ≤ 2) (sym stands) (early_so t.phase is) in
              let none = no_values (cycle_in (after_mst r carry restarts t.sent j k)) (phase_in (after_mst r carry restarts t.sent j k)) (blocks_in (drive_at r k) (after_mst r carry restarts t.sent j k)) early in
              ap (λ (b : Bool). if b then seat.at_len (member (known_of r) k) (outcomes (behind_mst r jobs carry restarts t.sent j) k) else 4) (ap (nat_le 3) (sym first) ∙ is) ∙ ap (λ (n : ℕ). 4 + n) (sym none)
        ]

    -- An AT that is awaited is taken.
    pub taken_if : (k : ℕ) → k < length r.drives → phase_in (after_mst r carry restarts t.sent j k) ≡ t.phase → is_awaited (behind_mst r jobs carry restarts t.sent j) k ≡ true → sends (after_mst r carry restarts t.sent j k) ≡ true
        → Took k (behind_mst r jobs carry restarts t.sent j) (behind_ats r jobs carry restarts t.sent j)
    taken_if k below stands awaited sent =
        let speaking : Speaks (drive_at r k) r.rate (after_mst r carry restarts t.sent j k) = speaks (drive_at r k) r.rate (after_mst r carry restarts t.sent j k) sent in
        let among : IsAmong speaking.says.content (ats_in t.sent) =
        subst (λ (l : List (List ℕ)). IsAmong speaking.says.content l) (sym ats_are) (among_said (length r.drives) (drive_at r) r.rate (given_mst carry restarts t.sent j) k speaking.says below speaking.is) in
        own_taken r jobs carry (length j) k (behind_mst r jobs carry restarts t.sent j) speaking.says.content (ats_in t.sent) (own_mst carry (length j) (mst_in t.sent) (begins r carry restarts j))
        (ap (place_of (known_of r)) speaking.address ∙ place_found r k opened.valid below) awaited
        (head_fault-none (1 + wanted_len (known_of r) (behind_mst r jobs carry restarts t.sent j) k) (member (known_of r) k).address
        speaking.says.content
        (speaking.long ∙ ap (λ (n : ℕ). 1 + n) (sym (wanted_is k below stands)))
        (speaking.address ∙ sym (ap (λ (m : MemberView). m.address) (member_is r k)))) among ats_come (record {
          unheard = ap (λ (p : Past). p.now.heard k) (start_is r jobs carry restarts opened t j run clear undisturbed)
              ∙ (all r jobs carry restarts opened t j run clear k below).sees.master.fresh;
          calls_are = refl;
          phase_is = refl;
          turns_are = refl;
        })

    -- in phases 3 and 4 each is
    pub listens_in : (k : ℕ) → k < length r.drives → 3 ≤ t.phase → 1 ≤ stood_in (view_of r jobs carry restarts k t j) (standing (views_of r jobs carry restarts k j)) → is_some (view_of r jobs carry restarts k t j).heard ≡ true
    listens_in k below late up =
        let stands = stands_in r jobs carry restarts opened t j run clear undisturbed k below up in
        let first : t.phase ≡ (behind_mst r jobs carry restarts t.sent j).now.phase = run.1.phase in
        let three : nat_le 3 (behind_mst r jobs carry restarts t.sent j).now.phase ≡ true = ap (nat_le 3) (sym first) ∙ is_late t.phase late in
        (taken_if k below stands
        (ap (λ (b : Bool). if b then true else (nat_le 1 (behind_mst r jobs carry restarts t.sent j).now.phase && is_place k (addressed_before (behind_mst r jobs carry restarts t.sent j).turns))) three)
        (sends_late (after_mst r carry restarts t.sent j k)
        (mst_is r jobs carry restarts opened t j run clear k below
        ∙ mst_came r jobs carry restarts opened t j run clear undisturbed k below) (subst (λ (n : ℕ). 3 ≤ n) (sym stands) late))).last
        (subst (λ (n : ℕ). 2 ≤ n) first (omega (arith, late)))
