-- The headline, by induction over the cycles of a run.
use Rattle.sercos_law_run.proofs.Words.{cases_Option, ◌≡◌, ◌⊎◌, inl, inr, ℕ, ◌<◌, ◌≤◌, false, List, [], ◌∷◌, ◌++◌, length, Option, Some, None, refl, sym, ap, subst, arith, max, All-nil, All-cons, wire_bits, frame_of, Job, Outcome, IsStore, store_of, DriveView, RingView, Processed, Entry, log_of, Begun, accepted_at, blocks_in, Said, SentView, EventsView, CycleView, known_of, tasks_for, Sent, mst_said, mdt_said, Carry, Restarts, View, standing, stood_in, begun_in, AreInStep, phase_commanded, all_entries, drive_at, given_before, given_mst, master_calls, looks_back, no_events, restart_events, begins, sent_at, sent_mst, sent_mdt, ats_said, said_below, middle, IsNext, IsRun, IsClear, HasOutcome, behind_mdt, after_mst, view_of, views_of, IsSpelled, IsOpened, IsStored, HaveRealBits, phase_before, OnStores, IsExactAt, AreReportedIn, KeepsAll, length-IsFrame, runs_exact, handshake, stands_no_later, is_planned}
use Rattle.sercos_law_channel.specs.Handshake.Runs.{IsNext as IsNextView}
use Rattle.sercos_law_run.proofs.Typed.Ats.{IsContent, at_content}
use Rattle.sercos_law_run.proofs.Typed.Mdts.{mdt_whole}
use Rattle.sercos_law_run.proofs.Views.Members.{members_count}
use Rattle.sercos_law_run.proofs.Views.Received.{address_of}
use Rattle.sercos_law_run.proofs.Held.AnsweredRuns.{EntriesStored, entries_stored}
use Rattle.sercos_law_run.proofs.Held.StoreOf.{store_of_so}
use Rattle.sercos_law_run.proofs.Held.Runs.{AllStand, all_first, all_next, s_known, small, kept_at_mst, begun_then}
use Rattle.sercos_law_run.proofs.Headline.ApartCycles.{AreFramed, apart_in, on_plan_in}
use Rattle.sercos_law_run.proofs.Headline.WellRuns.{AllWell, all_well, stops_in}
use Rattle.sercos_law_run.proofs.Settings.WellSets.{well_first}
use Rattle.sercos_law_run.proofs.Headline.OnceRuns.{are_once, restarts_so}
use Rattle.sercos_law_run.proofs.Agenda.Requests.{are_requests}
use Rattle.sercos_law_run.proofs.Agenda.ToldEvents.{are_told, are_told_at_restart}
use Rattle.sercos_law_run.proofs.Cited.{begins_tasks, is_framed, told_in_order, told_once, told_right}
use Rattle.sercos_law_run.proofs.Typed.Spelled.{keeps_always, keeps_within, spelled_next}

on_stores : (d : DriveView) (entries : List Entry) → EntriesStored d entries → OnStores entries
on_stores d [] are = tt
on_stores d (e ∷ entries) are = (on_stores d entries are.0, are.1.0)

-- A cycle may follow others whether its MDT comes to the drive or not.
abbrev without_mdt : View → View
without_mdt v = record v { mdt_comes = false }

next_without : (busy : ℕ) (v : View) (past : List View) → IsNextView busy v past → IsNextView busy (without_mdt v) past
next_without busy v past next = record {
  commanded = next.commanded;
  heard = elim (cases_Option v.heard) [
    | inl none ↦ let is = rw none at next.heard in rw none is
    | inr some ↦ let is = rw some.1 at next.heard in rw some.1 (record { got_mst = is.got_mst; stands = is.stands; says = is.says })
  ];
  late = next.late;
  begins = next.begins;
  sent = next.sent;
  ten = next.ten;
  rests = next.rests;
  top = next.top;
}

before_is : (r : RingView) (jobs : List Job) (carry : Carry) (restarts : Restarts) (k : ℕ) (j : List CycleView) → phase_commanded (views_of r jobs carry restarts k j) ≡ phase_before j
before_is r jobs carry restarts k [] = refl
before_is r jobs carry restarts k (t ∷ j) = refl

-- each telegram of a cycle has the bits of its frame
real_mdt : (rate : ℕ) (m : Option Sent) → HaveRealBits (sent_mdt rate m)
real_mdt rate None = All-nil (λ (s : SentView). s.bits ≡ length (frame_of s.content))
real_mdt rate (Some m) = All-cons (λ (s : SentView). s.bits ≡ length (frame_of s.content)) _ [] refl (All-nil (λ (s : SentView). s.bits ≡ length (frame_of s.content)))

real_ats : (rate : ℕ) (ats : List Said) (m : Option Sent) → HaveRealBits (ats_said rate ats ++ sent_mdt rate m)
real_ats rate [] m = real_mdt rate m
real_ats rate (a ∷ ats) m = All-cons (λ (s : SentView). s.bits ≡ length (frame_of s.content)) (sent_at rate a.start a.content) (ats_said rate ats ++ sent_mdt rate m) refl (real_ats rate ats m)

real_bits : (rate : ℕ) (mst : List ℕ) (ats : List Said) (m : Option Sent) → HaveRealBits ((sent_mst mst ∷ ats_said rate ats) ++ sent_mdt rate m)
real_bits rate mst ats m = All-cons (λ (s : SentView). s.bits ≡ length (frame_of s.content)) (sent_mst mst) (ats_said rate ats ++ sent_mdt rate m) refl (real_ats rate ats m)

module _ (r : RingView) (jobs : List Job) (carry : Carry) (restarts : Restarts) (opened : IsOpened r jobs) where
  pub first_store : (k : ℕ) → k < length r.drives → IsStore (store_of (drive_at r k))
  first_store k below = (keeps_always r carry restarts [] k opened.valid opened.typed below).store

  pub stored_in : (t : CycleView) (j : List CycleView) (k : ℕ) → k < length r.drives → IsStored (drive_at r k) (blocks_in (drive_at r k) (after_mst r carry restarts t.sent j k))
  stored_in t j k below = (
    (keeps_within r carry restarts t.sent j k opened.valid opened.typed below).store,
    (store_of_so (drive_at r k) r.rate (given_mst carry restarts t.sent j k) (first_store k below).ascending).0,
  )

  pub spelled_in : (t : CycleView) (j : List CycleView) → IsNext r jobs carry restarts t j → IsSpelled r jobs carry restarts t j
  spelled_in t j next = spelled_next r jobs carry restarts t j opened.valid opened.typed opened.jobs_typed next

  pub all_stand : (j : List CycleView) → IsRun r jobs carry restarts j → IsClear j → AllStand r jobs carry restarts j
  all_stand [] run clear = all_first r jobs carry restarts
  all_stand (t ∷ j) (run, next) (before, clear) =
      all_next r jobs carry restarts opened first_store t j next clear (spelled_in t j next) (stored_in t j) (all_stand j run before)

  pub well : (j : List CycleView) → IsRun r jobs carry restarts j → IsClear j → AllWell r jobs carry restarts opened first_store j
  well [] run clear = λ k below. well_first r jobs carry restarts k
  well (t ∷ j) (run, next) (before, clear) =
      all_well r jobs carry restarts opened first_store t j next clear (spelled_in t j next) (stored_in t j) (all_stand j run before) (all_stand (t ∷ j) (run, next) (before, clear)) (well j run before)

  framed_so : (content : List ℕ) → IsContent content → length (frame_of content) ≤ wire_bits (length content)
  framed_so content is = length-IsFrame content (frame_of content) (is_framed content is.bytes is.some is.most)

  framed_in : (t : CycleView) (j : List CycleView) → AreFramed r jobs carry restarts t j
  framed_in t j = record {
    ats = λ content is. framed_so content (subst IsContent (sym is.content_is) (let high = (address_of r is.place opened.valid is.inside).1 in
        at_content (drive_at r is.place) r.rate (given_mst carry restarts t.sent j is.place) is.says (omega (arith, high)) (keeps_within r carry restarts t.sent j is.place opened.valid opened.typed is.inside) is.said));
    mdt = λ m said. framed_so m.content (mdt_whole (known_of r) (behind_mdt r jobs carry restarts t.sent j) m (s_known r jobs carry restarts opened first_store)
        (is_planned (known_of r) (tasks_for (known_of r) jobs) (middle r carry restarts t.sent j)) said);
  }

  pub keeps_all : (t : CycleView) (j : List CycleView) → IsRun r jobs carry restarts (t ∷ j) → IsClear (t ∷ j) → KeepsAll r jobs carry restarts t j
  keeps_all t j (run, next) (before, clear) = record {
    apart = apart_in r jobs carry restarts opened first_store t j next clear (spelled_in t j next) (stored_in t j) (all_stand j run before) (framed_in t j);
    on_plan = on_plan_in r jobs carry restarts opened first_store t j next clear (spelled_in t j next) (stored_in t j) (all_stand j run before) (framed_in t j);
    real = subst (λ (l : List SentView). HaveRealBits l) (sym next.sent) (real_bits r.rate (mst_said (looks_back r jobs (begins r carry restarts j))) (said_below (length r.drives) (drive_at r) r.rate (given_mst carry restarts t.sent j))
        (mdt_said (known_of r) (behind_mdt r jobs carry restarts t.sent j)));
    no_later = λ k below. let kept = kept_at_mst r jobs carry restarts opened first_store t j next clear (spelled_in t j next)
        (stored_in t j) (all_stand j run before) k below in
        let bound = stands_no_later (view_of r jobs carry restarts k t j) (views_of r jobs carry restarts k j) in
        subst (λ (n : ℕ). n ≤ max t.phase (phase_before j)) (sym kept.ended)
        (subst (λ (n : ℕ). stood_in (view_of r jobs carry restarts k t j) (standing (views_of r jobs carry restarts k j)) ≤ max t.phase
        n) (before_is r jobs carry restarts k j) bound);
    exact = exact_in;
    told = λ k below. let count = members_count r in
        let inside : k < length (known_of r).drives = omega (arith, below, count) in
        record {
          in_order = told_in_order (known_of r) (tasks_for (known_of r) jobs) (master_calls r carry restarts (t ∷ j)) k
              (are_requests (known_of r) jobs k).1 inside (restarts_so r carry restarts (t ∷ j));
          once = told_once (known_of r) jobs (master_calls r carry restarts (t ∷ j)) k inside (restarts_so r carry restarts (t ∷ j));
        };
    once = are_once r jobs carry restarts opened.valid t j (run, next);
    reported = reported_in;
    stops = stops_in r jobs carry restarts opened first_store t j next clear (spelled_in t j next) (stored_in t j) (all_stand j run before) at_end (well (t ∷ j) (run, next) (before, clear));
    in_step = λ k below two stands. let sees = (at_end k below).sees in
        subst (λ (l : List Begun). AreInStep l (accepted_at (drive_at r k) r.rate (given_before carry restarts (t ∷ j) k)))
        (sym (begun_then r jobs carry restarts opened first_store t j next clear (spelled_in t j next) (stored_in t j)
        (all_stand j run before) k below))
        (subst (λ (h : List Processed). AreInStep (begun_in (view_of r jobs carry restarts k t j) (views_of r jobs carry restarts k j))
        (log_of h)) (sym sees.drive.records) (handshake (drive_at r k).busy (view_of r jobs carry restarts k t j)
        (views_of r jobs carry restarts k j) sees.run two (subst (λ (n : ℕ). 2 ≤ n) sees.drive.ended stands)));
  }
    where
      at_end : AllStand r jobs carry restarts (t ∷ j)
      at_end = all_stand (t ∷ j) (run, next) (before, clear)

      exact_in : (k : ℕ) → k < length r.drives → IsExactAt r jobs carry restarts t j k
      exact_in k below =
          let stands = at_end k below in
          record {
            exact = runs_exact (drive_at r k).busy (store_of (drive_at r k)) (views_of r jobs carry restarts k (t ∷ j)) (small r jobs carry restarts opened first_store k below) stands.sees.run stands.sound;
            before = runs_exact (drive_at r k).busy (store_of (drive_at r k)) (without_mdt (view_of r jobs carry restarts k t j) ∷ views_of r jobs carry restarts k j) (small r jobs carry restarts opened first_store k below)
                (stands.sees.run.0, next_without (drive_at r k).busy (view_of r jobs carry restarts k t j) (views_of r jobs carry restarts k j) stands.sees.run.1) stands.sound;
            writes = sym stands.sees.drive.writes;
            accepted = ap log_of (sym stands.sees.drive.records);
            begun = sym stands.sees.master.begun_are;
            begun_now = sym (begun_then r jobs carry restarts opened first_store t j next clear (spelled_in t j next) (stored_in t j) (all_stand j run before) k below);
            stored = on_stores (drive_at r k) (all_entries (views_of r jobs carry restarts k (t ∷ j))) (entries_stored (drive_at r k) (views_of r jobs carry restarts k (t ∷ j)) stands.stored);
          }

      -- nothing stands in the events before a restart
      only : {A B : Type 0} → (A → ⊥ ⊎ B) → A → B
      only f a = by (f a)
        where
          by : {B : Type 0} → ⊥ ⊎ B → B
          by (inl none) = absurd none
          by (inr b) = b

      reported_in : AreReportedIn r jobs carry restarts t j
      reported_in = record {
        events = λ number o.
            let same = are_told (known_of r) (behind_mdt r jobs carry restarts t.sent j) (restart_events r jobs restarts (length j) (master_calls r carry restarts j)) number o in
            let outcomes = ap (λ (e : EventsView). e.outcomes) next.events in
            (λ has. same.0 (subst (λ (l : List (ℕ × Outcome)). HasOutcome l number o) outcomes has), λ has. subst (λ (l : List (ℕ × Outcome)). HasOutcome l number o) (sym outcomes) (same.1 has));
        at_restart = λ number o.
            let same = are_told_at_restart (known_of r) (looks_back r jobs (master_calls r carry restarts j)) no_events number o in
            (λ has. only same.0 has, λ has. same.1 (inr has));
        tasks = λ k below. let count = members_count r in begins_tasks (known_of r) (tasks_for (known_of r) jobs) (middle r carry restarts t.sent j) k (omega (arith, below, count));
        right = λ k x below is. let count = members_count r in told_right (known_of r) (tasks_for (known_of r) jobs) (middle r carry restarts t.sent j) k x (omega (arith, below, count)) is;
      }
