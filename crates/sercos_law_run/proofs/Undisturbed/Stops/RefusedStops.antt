-- A stop in phase 2 that comes of a refusal comes of the cycle time.
use Rattle.sercos_law_run.proofs.Words.{◌≡◌, inl, inr, ℕ, ◌<◌, List, [], ◌∷◌, length, Some, sym, ap, ◌∙◌, subst, arith, cases_lt, Code, Idn, Job, Request, bytes_in, PlanView, RingView, Begun, begun_by, CycleView, asked_by, idn, reads_count, MemberView, known_of, member, tasks_for, Past, Carry, Restarts, begun_in, drive_at, middle, IsRun, IsClear, behind_mdt, view_of, views_of, IsOpened, jobs_of, AreAt, RefusesCycleTime, Stop}
use Rattle.sercos_law_run.proofs.Start.CheckPasses.{KeepsRules, ring_drive}
use Rattle.sercos_law_run.proofs.Views.Members.{members_count, member_is}
use Rattle.sercos_law_run.proofs.Held.AnsweredRuns.{Time, Attribute, is_read_request}
use Rattle.sercos_law_run.proofs.Held.Runs.{drive_got, small, s_known}
use Rattle.sercos_law_run.proofs.Headline.HeadlineRuns.{all_stand, first_store}
use Rattle.sercos_law_run.proofs.Undisturbed.JobsBegun.{begun_then, few_then, places_then}
use Rattle.sercos_law_run.proofs.Undisturbed.CycleHeld.{cycle_some, checked_within}
use Rattle.sercos_law_run.proofs.Undisturbed.JobPlaces.{reading, some_plan}
use Rattle.sercos_law_run.proofs.Undisturbed.InOrder.{in_order}
use Rattle.sercos_law_run.proofs.Undisturbed.Stops.RefusedRuns.{IsRefused, IsCycle, newest_refused}
use Rattle.sercos_law_run.proofs.Undisturbed.Stops.RefusedJobs.{refused_job}
use Rattle.sercos_law_run.proofs.Agenda.Requests.{are_requests}
use Rattle.sercos_law_run.proofs.Cited.{refused_has_cause}
use Rattle.sercos_law_run.proofs.Undisturbed.ChannelsKept.{phase_now}

module _ (r : RingView) (jobs : List Job) (carry : Carry) (restarts : Restarts) (opened : IsOpened r jobs) (t : CycleView)
    (j : List CycleView) (run : IsRun r jobs carry restarts (t ∷ j)) (clear : IsClear (t ∷ j)) (two : t.phase ≡ 2) where
  abbrev now : Past
  now = behind_mdt r jobs carry restarts t.sent j

  now_two : (behind_mdt r jobs carry restarts t.sent j).now.phase ≡ 2
  now_two = phase_now r jobs carry restarts t j run.1 ∙ two

  -- THE NEWEST REQUEST of a channel, refused
  pub refused_here : (k : ℕ) → k < length r.drives → (one : Begun) (older : List Begun) (code : Code) → begun_in (view_of r jobs carry restarts k t j) (views_of r jobs carry restarts k j) ≡ one ∷ older → (ref : IsRefused (drive_at r k) one.request code 2) → IsCycle (drive_at r k) r.cycle one.request code
  refused_here k below one older code split ref =
      let keeps : KeepsRules (drive_at r k) = ring_drive r k (drive_at r k) opened.valid (drive_got r k below) in
      let few = few_then r jobs carry restarts opened t j run clear k below (omega (arith, now_two)) in
      let place = subst (AreAt (jobs_of (known_of r) now.plan k)) split (places_then r jobs carry restarts opened t j run clear k below (omega (arith, now_two))) in
      refused_job (drive_at r k) keeps.blocks (small r jobs carry restarts opened (first_store r jobs carry restarts opened) k below)
      keeps.at keeps.mdt (opened.typed k below).at (opened.typed k below).mdt (known_of r) k (member_is r k)
      (cycle_some r.cycle (s_known r jobs carry restarts opened (first_store r jobs carry restarts opened)).cycles.cycle).1 code now.plan
      (length older) one.request (omega (arith, few, ap (λ (l : List Begun). length l) split)) place.1 ref (omega (arith, ref.between))

  pub refused_stop : (address : ℕ) (i : Idn) (code : Code) → now.stop ≡ Some (Stop.Refused address i code) → RefusesCycleTime r address i code × (plan : PlanView) × (now.plan ≡ Some plan)
  refused_stop address i code is =
      let has = refused_has_cause (known_of r) (tasks_for (known_of r) jobs) (middle r carry restarts t.sent j) address i code is in
      let e = has.ended in
      let k = e.place in
      let low : k < length r.drives = omega (arith, members_count r, e.there) in
      let begun = begun_then r jobs carry restarts opened t j run clear k low in
      let split = sym begun ∙ e.begun in
      let stands = all_stand r jobs carry restarts opened (t ∷ j) run clear k low in
      let ref = (newest_refused (drive_at r k).busy (drive_at r k)
      (small r jobs carry restarts opened (first_store r jobs carry restarts opened) k low) (view_of r jobs carry restarts k t j)
      (views_of r jobs carry restarts k j) stands.sees.run stands.sound stands.stored e.one e.older code split e.ended).0 in
      let cycle = refused_here k low e.one e.older code split (subst (λ (n : ℕ). IsRefused (drive_at r k) e.one.request code n) two ref) in
      let places = places_then r jobs carry restarts opened t j run clear k low (omega (arith, now_two)) in
      let place = subst (AreAt (jobs_of (known_of r) now.plan k)) split places in
      let written : reads_count (member (known_of r) k) < length (begun_by (now.calls k)) =
      elim (cases_lt (length e.older) (reads_count (member (known_of r) k))) [
        | inl early ↦ elim (is_read_request (member (known_of r) k) (length e.older) e.one.request
            (sym (reading (known_of r) k now.plan (length e.older) early) ∙ place.1)) [
              | Time raw built same ↦ let wrong : Request.Read (idn raw) 7 ≡ Request.Write (idn 2) 7 (bytes_in (r.cycle ∷ [])) = sym same ∙ cycle.asks in absurd (cc)
              | Attribute x same ↦ let wrong : Request.Read x 3 ≡ Request.Write (idn 2) 7 (bytes_in (r.cycle ∷ [])) = sym same ∙ cycle.asks in absurd (cc)
            ]
        | inr late ↦ omega (arith, late, ap (λ (l : List Begun). length l) e.begun)
      ] in
      let made =
      some_plan (known_of r) k now.plan (begun_in (view_of r jobs carry restarts k t j) (views_of r jobs carry restarts k j)) places
      (omega (arith, ap (λ (l : List Begun). length l) begun, written)) in (
        record {
          place = k;
          there = low;
          address_is = ap (λ (m : MemberView). m.address) (sym (member_is r k)) ∙ e.address_is;
          number = sym (ap (λ (x : Idn). x.raw) (sym (ap (λ (q : Request). (asked_by q).idn) (sym e.asks ∙ cycle.asks)) ∙ has.names));
          outside = cycle.limit;
          first =
              λ m earlier. checked_within r jobs carry restarts opened t j run clear (omega (arith, now_two)) m
              (omega (arith, earlier, low))
              (in_order (known_of r) (tasks_for (known_of r) jobs) (λ i. (are_requests (known_of r) jobs i).0) (middle r carry restarts t.sent j) now_two k e.there written m earlier);
        },
        made.0,
        made.1,
      )
