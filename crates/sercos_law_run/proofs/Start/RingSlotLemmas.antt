-- The time slots of a ring whose drives hold one plan are apart.
use Rattle.sercos_law_run.proofs.Words.{◌≡◌, ℕ, ◌+◌, ◌*◌, ◌<◌, ◌≤◌, Bool, true, false, cond, List, [], ◌∷◌, map, length, Some, None, slice_index_or, refl, sym, ◌∙◌, ap, arith, cond-true, wire_bits, Wish, PlanView, at_bits, record_bytes, IsValid, Fits, Block, is_ring, record_len, wish_of, RingView, DriveView, number_at, carried_len, AtSlot, MdtSlot, Held, IsAtItsTime, held_of, AreOnPlan, held_in, held_by, AreSent, AllHold, RingKeepsApart, RingSendsApart, wishes_of, drive_at, no_drive, slice_get-get_or}
use Rattle.sercos_law_run.proofs.Slots.SlotLemmas.{keeps_apart}
use Rattle.sercos_law_run.proofs.Slots.SendingLemmas.{sends_slots}
use Rattle.sercos_law_run.proofs.Start.Lengths.{are_as_long}
use Rattle.sercos_law_run.proofs.Start.CheckPasses.{ring_drive, wish_is}
use Rattle.sercos_law_run.proofs.Start.HeldLemmas.{holds_plan}
use Rattle.sercos_law_run.proofs.Held.Agreed.{wishes_count}

lengths_from : (drives : List DriveView) → map record_len drives ≡ map (λ (d : Wish). d.record_len) (map wish_of drives)
lengths_from [] = refl
lengths_from (d ∷ drives) = ap (λ rest. record_len d ∷ rest) (lengths_from drives)

pub lengths : (r : RingView) → map record_len r.drives ≡ map (λ (d : Wish). d.record_len) (wishes_of r).drives
unfolding wishes_of
lengths r = lengths_from r.drives

pub rate_is : (r : RingView) → (wishes_of r).rate ≡ r.rate
unfolding wishes_of
rate_is r = refl

le_eq : (a b c : ℕ) → a ≤ b → b ≡ c → a ≤ c
le_eq a b c h e = omega arith

wire_same : (a b : ℕ) → a ≡ b → wire_bits (1 + a) ≡ wire_bits (b + 1)
wire_same a b e = ap wire_bits (omega arith)

-- what a drive holds is the plan's
held_is : (b : Bool) (g h : Held) → cond b (Some g) None ≡ Some h → (b ≡ true) × (g ≡ h)
held_is true g h e = (refl, cc)
held_is false g h e = cc

pub on_plan : (r : RingView) (p : PlanView) (takes_part : ℕ → Bool) (stores : ℕ → List Block) (ats : List AtSlot) (mdt : MdtSlot) → is_ring r ≡ true → IsValid (wishes_of r) → Fits (wishes_of r) p
    → AllHold r p takes_part stores → AreSent r p takes_part stores ats mdt → AreOnPlan (wishes_of r) p (held_by takes_part stores) ats mdt
on_plan r p takes_part stores ats mdt ok valid fits hold sent =
    record {
      holds = λ k h in' e. holds k h in' e;
      drives = λ i d in'. omega (arith, (sent.senders i d in').0, wishes_count r);
      starts = λ i d in'. start (slice_index_or ats i d) (sent.senders i d in').1 (sent.starts i d in');
      bits = λ i d in'. bits (slice_index_or ats i d) (sent.senders i d in').0 (sent.senders i d in').1 (sent.bits i d in');
      in_order = sent.in_order;
      mdt_start = sent.mdt_start ∙ ap (λ rate. rate * p.t2) (sym (rate_is r));
      mdt_bits = le_eq _ _ _ sent.mdt_bits (wire_same p.mdt_len (record_bytes (wishes_of r).drives) fits.rule_12.1);
      records = sent.records ∙ lengths r;
    }
  where
    holds : (k : ℕ) (h : Held) → k < length (wishes_of r).drives → held_by takes_part stores k ≡ Some h → h ≡ held_of p k
    holds k h in' e =
        let (up, same) = held_is (takes_part k) (held_in (stores k)) h e in
        let at = slice_get-get_or r.drives k no_drive (omega (arith, in', wishes_count r)) in
        sym same ∙ holds_plan r p k (drive_at r k) (stores k) valid fits at (hold k (drive_at r k) at up).1

    start : (s : AtSlot) → takes_part s.drive ≡ true → s.start ≡ r.rate * number_at (stores s.drive) 6 → IsAtItsTime (wishes_of r) (held_by takes_part stores) s
    start s up e = (held_in (stores s.drive), cond-true _ _ _ up, e ∙ ap (λ rate. rate * number_at (stores s.drive) 6) (sym (rate_is r)))

    bits : (s : AtSlot) → s.drive < length r.drives → takes_part s.drive ≡ true → s.bits ≤ wire_bits (1 + carried_len (stores s.drive) 16) → s.bits ≤ at_bits (wishes_of r) s.drive
    bits s in' up less =
        let at = slice_get-get_or r.drives s.drive no_drive in' in
        let there = hold s.drive (drive_at r s.drive) at up in
        let long = (are_as_long (drive_at r s.drive) (stores s.drive) (ring_drive r s.drive (drive_at r s.drive) ok at).blocks there.0).0
        there.1.1.1.1.1.1.1.1.1.0 in
        le_eq _ _ _ less (wire_same _ _ (long ∙ sym (ap (λ (x : Wish). x.at_len) (wish_is r s.drive (drive_at r s.drive) at))))

pub ring_keeps_apart : RingKeepsApart
ring_keeps_apart r p takes_part stores ats mdt ok valid fits hold sent =
    keeps_apart (wishes_of r) p (held_by takes_part stores) ats mdt valid fits (on_plan r p takes_part stores ats mdt ok valid fits hold sent)

pub ring_sends_apart : RingSendsApart
ring_sends_apart r p takes_part stores ats mdt mst sent last ok valid fits hold are is =
    sends_slots (wishes_of r) (held_by takes_part stores) ats mdt mst sent last valid is (ring_keeps_apart r p takes_part stores ats mdt ok valid fits hold are)
