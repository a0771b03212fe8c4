-- What drives and master send in each phase.
use Rattle.sercos_law_trace.proofs.Words.{◌≡◌, ℕ, ◌<◌, ◌≤◌, ◌==◌, nat_le, false, List, [], ◌∷◌, length, Option, Some, None, option_map, refl, ◌∙◌, ap, arith, slice_index, nat_tests, fields, wishes_of, DriveView, RingView, Moment, phase_in, cycle_in, blocks_in, Said, said, values_in, Known, MemberView, known_of, fields_length, word_said, Past, addressed_in, said_to, idle, single, mdt_said, drive_at, first_found, Sends, member_is, is_drive, inl, inr, cases_Bool, none-some}
use Rattle.sercos_service_master.specs.Begun.{Said as Told}
use Rattle.sercos_law_trace.proofs.Clean.SaidLemmas.{drive_there}
use Rattle.sercos_law_trace.proofs.Clean.EarlyRules.{IsEarlyAt, IsEarlyMdt, IsEarlyIf}

-- WHAT A DRIVE SENDS
pub own_address : (d : DriveView) (past : List Moment) (s : Said) → Sends d past s → slice_index s.content 0 ≡ d.address
own_address d past s is = ap (λ (l : List ℕ). slice_index l 0) is.content

pub early_said : (r : RingView) (k : ℕ) (past : List Moment) (s : Said) → k < length r.drives → Sends (drive_at r k) past s → phase_in past < 3 → IsEarlyAt (wishes_of r) s
early_said r k past s below is low =
    let early : nat_le 3 (phase_in past) ≡ false = grind (arith, nat_tests, low) in
    let none : values_in (cycle_in past) (phase_in past) (blocks_in (drive_at r k) past) ≡ [] = rw early refl in
    let long = fields_length is.word is.info [] in
    record {
      start = is.start ∙ rw early refl;
      long = ap (λ (l : List ℕ). length l) (is.content ∙ ap (λ (v : List ℕ). (drive_at r k).address ∷ fields is.word is.info v) none) ∙ omega (arith, long);
      drive = ap (is_drive (wishes_of r)) (own_address (drive_at r k) past s is) ∙ drive_there r k below;
    }

-- WHAT THE MASTER SENDS in phases 1 and 2: an MDT to a drive of the ring
pub addressed_inside : (s : Known) (p : Past) (i : ℕ) → addressed_in s p ≡ Some i → i < length s.drives
addressed_inside s p i is = elim (cases_Bool (p.now.phase == 1)) [
  | inl one ↦ let found = (first_found 0 (length s.drives) i _ (rw one at is)).below in omega (arith, found)
  | inr other ↦ elim (cases_Bool (p.now.phase == 2)) [
    | inl two ↦ let found = (first_found 0 (length s.drives) i _ (rw (other, two) at is)).below in omega (arith, found)
    | inr none ↦ absurd (none-some i (rw (other, none) at is))
  ]
]

single_early : (r : RingView) (said : Told) (k : ℕ) → k < length r.drives → IsEarlyMdt (wishes_of r) (single (known_of r) said k)
single_early r said k below =
    let long = fields_length (word_said said) said.step.word [] in
    record {
      start = refl;
      long = omega (arith, long);
      drive = ap (λ (m : MemberView). is_drive (wishes_of r) m.address) (member_is r k) ∙ drive_there r k below;
    }

early_if : (r : RingView) (word : ℕ → Told) (o : Option ℕ) → ((i : ℕ) → o ≡ Some i → i < length r.drives) → IsEarlyIf (wishes_of r) (option_map (λ i. single (known_of r) (word i) i) o)
early_if r word None inside = tt
early_if r word (Some i) inside = single_early r (word i) i (inside i refl)

pub early_mdt_said : (r : RingView) (p : Past) → p.now.phase < 3 → 1 ≤ p.now.phase → ((i : ℕ) → p.now.addressed ≡ Some i → i < length r.drives) → IsEarlyIf (wishes_of r) (mdt_said (known_of r) p)
early_mdt_said r p low some inside = elim (cases_Bool (p.now.phase == 1)) [
  | inl is ↦ rw is (early_if r (λ i. idle) p.now.addressed inside)
  | inr not_one ↦ elim (cases_Bool (p.now.phase == 2)) [
    | inl is ↦ rw (not_one, is) (early_if r (said_to p) p.now.addressed inside)
    | inr is ↦ absurd (grind (arith, nat_tests, low, some, not_one, is))
  ]
]

pub none_in_zero : (s : Known) (p : Past) → p.now.phase ≡ 0 → mdt_said s p ≡ None
none_in_zero s p is = rw is refl
