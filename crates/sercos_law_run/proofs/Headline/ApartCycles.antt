-- In a cycle commanded 3 or 4 the telegrams are apart.
use Rattle.sercos_law_run.proofs.Words.{◌≡◌, ◌⊎◌, inl, inr, ℕ, ◌+◌, ◌*◌, ◌<◌, ◌≤◌, Bool, true, false, List, ◌∷◌, ◌++◌, map, length, Option, Some, refl, sym, ◌∙◌, ap, ap₂, subst, arith, if◌then◌else◌, ◌==◌, nat_le, slice_index, pos, nat_tests, wire_bits, frame_of, all_drives, Job, WishesView, PlanView, record_bytes, Wish, IsStore, store_of, DriveView, RingView, number_at, carried_len, phase_in, cycle_in, blocks_in, Said, values_in, SentView, CycleView, AtSlot, MdtSlot, IsSending, IsApart, Known, known_of, fields_length, IsStoreOf, start_up, Holds, held_by, AreSent, AllHold, Past, Sent, records_from, joint, mdt_said, Carry, Restarts, standing, stood_in, drive_at, given_mst, sent_mdt, ats_said, mst_next, IsNext, at_start, behind_mdt, after_mst, view_of, views_of, IsSaid, IsSpelled, IsOpened, IsStored, takes_part, store_in_cycle, AreApartIn, stands_as_commanded, wishes_of, same_Some, [], AreOnPlanIn, IsOnPlan, StartOnPlan}
use Rattle.sercos_telegram.specs.declared.layout.Kind.TheVariants as kinds
use Rattle.sercos_law_run.proofs.Slots.Places.{length_records}
use Rattle.sercos_law_run.proofs.Start.CheckPasses.{wish_is}
use Rattle.sercos_law_run.proofs.Views.Members.{members_count}
use Rattle.sercos_law_run.proofs.Held.Laid.{records_of, records_concat, records_lengths}
use Rattle.sercos_law_run.proofs.Held.Runs.{AllStand, IsPlannedIn, drive_got, got_inside, s_known, holding, phase_same, kept_at_mst}
use Rattle.sercos_law_run.proofs.Headline.Placed.{Placed, placed_below, placed_said, IsPlaced, are_placed, are_ordered}
use Rattle.sercos_law_run.proofs.Headline.AtLengths.{carried_length}
use Rattle.sercos_law_run.proofs.Headline.ApartRuns.{ends_at_0, slot_of, all_slots, slots_ordered, Sends, sent_by, ats_sent}
use Rattle.sercos_law_run.proofs.Held.Agreed.{wishes_count}
use Rattle.sercos_law_run.proofs.Slots.SendingLemmas.{starts_on_plan}
use Rattle.sercos_law_run.proofs.Start.HeldLemmas.{holds_plan}
use Rattle.sercos_law_run.proofs.Start.RingSlotLemmas.{on_plan, ring_sends_apart}
use Rattle.sercos_law_run.proofs.Start.RingSlotLemmas.{lengths as wish_lengths}

-- no frame is longer than its content may need
pub record AreFramed (r : RingView) (jobs : List Job) (carry : Carry) (restarts : Restarts) (t : CycleView) (j : List CycleView) : Type 0 where
  pub ats : (content : List ℕ) → IsSaid (length r.drives) (drive_at r) r.rate (given_mst carry restarts t.sent j) content → length (frame_of content) ≤ wire_bits (length content)
  pub mdt : (m : Sent) → mdt_said (known_of r) (behind_mdt r jobs carry restarts t.sent j) ≡ Some m → length (frame_of m.content) ≤ wire_bits (length m.content)

-- the MDT to all
pub joint_said : (s : Known) (p : Past) (plan : PlanView) → 3 ≤ p.now.phase → p.plan ≡ Some plan → mdt_said s p ≡ Some (joint s p plan)
joint_said s p plan late has =
    let one : (p.now.phase == 1) ≡ false = grind (arith, nat_tests, late) in
    let two : (p.now.phase == 2) ≡ false = grind (arith, nat_tests, late) in
    let three : nat_le 3 p.now.phase ≡ true = grind (arith, nat_tests, late) in
    rw (one, two, three, has) refl

module _ (r : RingView) (jobs : List Job) (carry : Carry) (restarts : Restarts) (opened : IsOpened r jobs)
    (first : (k : ℕ) → k < length r.drives → IsStore (store_of (drive_at r k))) (t : CycleView) (j : List CycleView)
    (next : IsNext r jobs carry restarts t j) (clear : t.unseen ≡ 0) (spelled : IsSpelled r jobs carry restarts t j)
    (stored : (k : ℕ) → k < length r.drives → IsStored (drive_at r k) (blocks_in (drive_at r k) (after_mst r carry restarts t.sent j k)))
    (all : AllStand r jobs carry restarts j) where
  -- a drive that sends stands in the commanded phase
  pub sender_phase : (k : ℕ) → k < length r.drives → (s : Said) → Sends (drive_at r k) (after_mst r carry restarts t.sent j k) s → phase_in (after_mst r carry restarts t.sent j k) ≡ t.phase
  sender_phase k below s sending =
      let kept = kept_at_mst r jobs carry restarts opened first t j next clear spelled stored all k below in
      let comes : (view_of r jobs carry restarts k t j).mst_comes ≡ true = sym kept.got ∙ sending.got in
      by (stands_as_commanded (view_of r jobs carry restarts k t j) (views_of r jobs carry restarts k j) comes) kept.ended sending.stands
    where
      by : (stood_in (view_of r jobs carry restarts k t j) (standing (views_of r jobs carry restarts k j)) ≡ 0) ⊎ (stood_in (view_of r jobs carry restarts k t j) (standing (views_of r jobs carry restarts k j)) ≡ t.phase)
          → phase_in (after_mst r carry restarts t.sent j k) ≡ stood_in (view_of r jobs carry restarts k t j) (standing (views_of r jobs carry restarts k j)) → 1 ≤ phase_in (after_mst r carry restarts t.sent j k)
          → phase_in (after_mst r carry restarts t.sent j k) ≡ t.phase
      by (inl none) is up = absurd (omega (arith, none, is, up))
      by (inr same) is up = is ∙ same

  abbrev placed : List Placed
  placed = placed_below (length r.drives) (drive_at r) r.rate (given_mst carry restarts t.sent j)

  -- an AT by its place
  sending_of : (x : Placed) → IsPlaced (length r.drives) (drive_at r) r.rate (given_mst carry restarts t.sent j) x → Sends (drive_at r x.place) (after_mst r carry restarts t.sent j x.place) x.says
  sending_of x (low, says) = sent_by (drive_at r x.place) r.rate (after_mst r carry restarts t.sent j x.place) x.says says

  -- with the plan
  module _ (framed : AreFramed r jobs carry restarts t j) (late : 3 ≤ (at_start r jobs carry restarts j).now.phase) (plan : PlanView)
      (planned : IsPlannedIn r jobs carry restarts t j plan) where
    said : mdt_said (known_of r) (behind_mdt r jobs carry restarts t.sent j) ≡ Some (joint (known_of r) (behind_mdt r jobs carry restarts t.sent j) plan)
    said = joint_said (known_of r) (behind_mdt r jobs carry restarts t.sent j) plan
        (subst (λ n. 3 ≤ n) (sym (phase_same r jobs carry restarts opened first t j next clear spelled stored all)) late) planned.now

    abbrev ats : List AtSlot
    ats = map (slot_of r.rate) placed

    abbrev content : List ℕ
    content = all_drives ∷ records_from (known_of r) (behind_mdt r jobs carry restarts t.sent j) 0 (length (known_of r).drives)

    abbrev mdt : MdtSlot
    mdt = record { start = r.rate * plan.t2; bits = length (frame_of content); records = records_of (known_of r) (behind_mdt r jobs carry restarts t.sent j) 0 (length (known_of r).drives) }

    abbrev last : SentView
    last = record { kind = kinds.Mdt; start = pos (r.rate * plan.t2); bits = length (frame_of content); content = content }

    holds : AllHold r plan (takes_part r carry restarts t j) (store_in_cycle r carry restarts t j)
    holds k d got takes =
        let (low, same) = got_inside r.drives k d got in
        let (made, by, there) = holding r jobs carry restarts opened first t j next clear spelled stored all late k low in
        let one : made ≡ plan = same_Some _ _ (sym by.before ∙ planned.before) in
        subst (λ (x : DriveView). IsStoreOf x (store_in_cycle r carry restarts t j k) × Holds (store_in_cycle r carry restarts t j k) (start_up r.control r.cycle plan k x.at x.mdt)) (sym same)
        ((stored k low).1, subst (λ (p : PlanView). Holds (store_in_cycle r carry restarts t j k) (start_up r.control r.cycle p k (drive_at r k).at (drive_at r k).mdt)) one there)

    lengths : map length (records_of (known_of r) (behind_mdt r jobs carry restarts t.sent j) 0 (length (known_of r).drives)) ≡ map (λ (w : Wish). w.record_len) (wishes_of r).drives
    lengths = records_lengths (known_of r) (behind_mdt r jobs carry restarts t.sent j) ∙ ap (λ (w : WishesView). map (λ (x : Wish). x.record_len) w.drives) planned.asked

    long : length content ≡ 1 + plan.mdt_len
    long =
        let whole : length (records_from (known_of r) (behind_mdt r jobs carry restarts t.sent j) 0 (length (known_of r).drives)) ≡ record_bytes (wishes_of r).drives =
        ap (λ (l : List ℕ). length l) (sym (records_concat (known_of r) (behind_mdt r jobs carry restarts t.sent j) 0 (length (known_of r).drives))) ∙ length_records _ (wishes_of r).drives lengths in
        omega (arith, whole, planned.of.least.fits.rule_12.1)

    -- an AT in its slot
    phase_of : (x : Placed) → IsPlaced (length r.drives) (drive_at r) r.rate (given_mst carry restarts t.sent j) x → nat_le 3 (phase_in (after_mst r carry restarts t.sent j x.place)) ≡ true
    phase_of x is = let same = sender_phase x.place is.0 x.says (sending_of x is) in let first_is = next.phase in grind (arith, nat_tests, same, late, first_is)

    framed_at : (x : Placed) → IsPlaced (length r.drives) (drive_at r) r.rate (given_mst carry restarts t.sent j) x → length (frame_of x.says.content) ≤ wire_bits (1 + carried_len (store_in_cycle r carry restarts t j x.place) 16)
    framed_at x is =
        let sending = sending_of x is in
        let spelled_so = sending.content in
        let bits = framed.ats x.says.content (record { place = x.place; says = x.says; inside = is.0; said = is.1; content_is = refl }) in
        let carried = carried_length (cycle_in (after_mst r carry restarts t.sent j x.place)) (phase_in (after_mst r carry restarts t.sent j x.place)) (store_in_cycle r carry restarts t j x.place) (stored x.place is.0).0 (phase_of x is) in
        let fields_long = fields_length sending.word sending.info (values_in (cycle_in (after_mst r carry restarts t.sent j x.place)) (phase_in (after_mst r carry restarts t.sent j x.place)) (blocks_in (drive_at r x.place) (after_mst r carry restarts t.sent j x.place))) in
        let whole : length x.says.content ≡ 1 + carried_len (store_in_cycle r carry restarts t j x.place) 16 = ap (λ (l : List ℕ). length l) spelled_so ∙ omega (arith, carried, fields_long) in
        subst (λ (n : ℕ). length (frame_of x.says.content) ≤ wire_bits n) whole bits

    sent : AreSent r plan (takes_part r carry restarts t j) (store_in_cycle r carry restarts t j) ats mdt
    sent = record {
      senders = all_slots (λ (a : AtSlot). (a.drive < length r.drives) × (takes_part r carry restarts t j a.drive ≡ true)) r.rate (length r.drives) (drive_at r) (given_mst carry restarts t.sent j) placed
          (are_placed (length r.drives) (drive_at r) r.rate (given_mst carry restarts t.sent j)) (λ x is. (is.0, phase_of x is));
      starts = all_slots (λ (a : AtSlot). a.start ≡ r.rate * number_at (store_in_cycle r carry restarts t j a.drive) 6) r.rate (length r.drives) (drive_at r) (given_mst carry restarts t.sent j) placed
          (are_placed (length r.drives) (drive_at r) r.rate (given_mst carry restarts t.sent j))
          (λ x is. ap (λ (n : ℕ). r.rate * n) ((sending_of x is).start ∙ ap (λ (b : Bool). if b then number_at (store_in_cycle r carry restarts t j x.place) 6 else 300) (phase_of x is)));
      bits = all_slots (λ (a : AtSlot). a.bits ≤ wire_bits (1 + carried_len (store_in_cycle r carry restarts t j a.drive) 16)) r.rate (length r.drives) (drive_at r) (given_mst carry restarts t.sent j) placed
          (are_placed (length r.drives) (drive_at r) r.rate (given_mst carry restarts t.sent j)) framed_at;
      in_order = slots_ordered r.rate (s_known r jobs carry restarts opened first).cycles.rate placed (are_ordered (length r.drives) (drive_at r) r.rate (given_mst carry restarts t.sent j));
      mdt_start = refl;
      mdt_bits = subst (λ (n : ℕ). length (frame_of content) ≤ wire_bits n) long (framed.mdt (joint (known_of r) (behind_mdt r jobs carry restarts t.sent j) plan) said);
      records = lengths ∙ sym (wish_lengths r);
    }

    sending : IsSending (wishes_of r) ats mdt (mst_next r jobs carry restarts j) (ats_said r.rate (map (λ (x : Placed). x.says) placed)) last
    sending = record {
      mst_kind = refl;
      mst_end = ends_at_0 (mst_next r jobs carry restarts j).bits;
      are_ats = ats_sent (wishes_of r) r.rate (length r.drives) (drive_at r) (given_mst carry restarts t.sent j) placed (are_placed (length r.drives) (drive_at r) r.rate (given_mst carry restarts t.sent j)) (λ x is.
          let spelled_so = (sending_of x is).content in
          let wide = wishes_count r in
          let low = is.0 in
          (ap (λ (l : List ℕ). slice_index l 0) spelled_so ∙ sym (ap (λ (w : Wish). w.address) (wish_is r x.place (drive_at r x.place) (drive_got r x.place low))), omega (arith, low, wide)));
      mdt_kind = refl;
      mdt_start = refl;
      mdt_bits = refl;
      mdt_is = ap (λ (l : List ℕ). all_drives ∷ l) (sym (records_concat (known_of r) (behind_mdt r jobs carry restarts t.sent j) 0 (length (known_of r).drives)));
    }

    abbrev all_sent : List SentView
    all_sent = mst_next r jobs carry restarts j ∷ (ats_said r.rate (map (λ (x : Placed). x.says) placed) ++ last ∷ [])

    sent_is : t.sent ≡ all_sent
    sent_is = next.sent
        ∙ ap₂ (λ (l : List Said) (m : Option Sent). mst_next r jobs carry restarts j ∷ (ats_said r.rate l ++ sent_mdt r.rate m))
        (sym (placed_said (length r.drives) (drive_at r) r.rate (given_mst carry restarts t.sent j))) said

    pub apart_with : (records : List (List ℕ)) × IsApart (wishes_of r) (held_by (takes_part r carry restarts t j) (store_in_cycle r carry restarts t j)) records t.sent
    apart_with = (
      records_of (known_of r) (behind_mdt r jobs carry restarts t.sent j) 0 (length (known_of r).drives),
      subst (λ (l : List SentView). IsApart (wishes_of r) (held_by (takes_part r carry restarts t j) (store_in_cycle r carry restarts t j))
          (records_of (known_of r) (behind_mdt r jobs carry restarts t.sent j) 0 (length (known_of r).drives)) l) (sym sent_is)
          (ring_sends_apart r plan (takes_part r carry restarts t j) (store_in_cycle r carry restarts t j) ats mdt (mst_next r jobs carry restarts j) (ats_said r.rate (map (λ (x : Placed). x.says) placed)) last opened.valid planned.of.valid planned.of.least.fits
          holds sent sending),
    )

    pub on_plan_with : IsOnPlan r carry restarts t j plan
    on_plan_with = record {
      made = planned.of.made;
      held = λ k low takes.
          let got = drive_got r k low in
          holds_plan r plan k (drive_at r k) (store_in_cycle r carry restarts t j k) planned.of.valid planned.of.least.fits got (holds k (drive_at r k) got takes).1;
      starts = subst (λ (l : List SentView). StartOnPlan (wishes_of r) plan l) (sym sent_is)
          (starts_on_plan (wishes_of r) plan (held_by (takes_part r carry restarts t j) (store_in_cycle r carry restarts t j)) ats mdt (mst_next r jobs carry restarts j)
          (ats_said r.rate (map (λ (x : Placed). x.says) placed)) last planned.of.valid sending
          (on_plan r plan (takes_part r carry restarts t j) (store_in_cycle r carry restarts t j) ats mdt opened.valid planned.of.valid planned.of.least.fits holds sent));
    }

  some : 0 < length r.drives
  some = let most = (s_known r jobs carry restarts opened first).some in let count = members_count r in omega (arith, most, count)

  pub apart_in : AreFramed r jobs carry restarts t j → AreApartIn r carry restarts t j
  apart_in framed late =
      let early : 3 ≤ (at_start r jobs carry restarts j).now.phase = subst (λ n. 3 ≤ n) next.phase late in
      let (plan, planned, holds) = holding r jobs carry restarts opened first t j next clear spelled stored all early 0 some in
      apart_with framed early plan planned

  pub on_plan_in : AreFramed r jobs carry restarts t j → AreOnPlanIn r carry restarts t j
  on_plan_in framed late =
      let early : 3 ≤ (at_start r jobs carry restarts j).now.phase = subst (λ n. 3 ≤ n) next.phase late in
      let (plan, planned, holds) = holding r jobs carry restarts opened first t j next clear spelled stored all early 0 some in
      (plan, on_plan_with framed early plan planned)
