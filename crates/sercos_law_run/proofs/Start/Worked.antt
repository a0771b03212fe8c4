-- A worked start-up: two drives, each with one block of its own, which is in both lists.
use Rattle.sercos_law_run.proofs.Words.{◌≡◌, ℕ, zero, suc, ◌+◌, ◌*◌, ◌<◌, ◌≤◌, inl, true, false, List, [], ◌∷◌, ◌++◌, map, length, Some, None, slice_get, refl, subst, arith, All, All-cons, All-nil, wire_bits, Idn, Request, Outcome, PlanView, IsValid, Fits, fits_from, Block, with_data, DriveView, RingView, record_len, unfit_for_phase_3, member_of, known_of, idn, declared_times, reads, wishes_given, AtSlot, MdtSlot, AreApart, IsSentBefore, IsStoreOf, Holds, start_up, element_read, AreAnswers, HaveFactors, held_by, AllHold, attribute_fault, attribute_of, is_rate, is_cycle, is_control, built_in, block_fault, blocks_fault, with_own, store_of, are_ring_numbers, are_times, are_drive_numbers, has_blocks, attribute_in, row_in, built_in_attribute, own_attribute, block_attribute, are_cyclic, has_address, is_drive, are_drives, is_turn, are_turns, is_order, mdt_len, listed_len, has_drives, is_ring, wishes_of, idns_at, carried_len, cyclic_len, number_at, inserted}
use Rattle.sercos_timing.specs.FirstBroken.{first_broken, broken_by, broken_position}
use Rattle.sercos_law_run.proofs.Slots.Worked.{slot, each_two, pair_of_two}
use Rattle.sercos_law_run.proofs.Start.CheckPasses.{plan_passes_check}
use Rattle.sercos_law_run.proofs.Start.WellLemmas.{ring_is_valid}
use Rattle.sercos_law_run.proofs.Start.AnswerLemmas.{asks_as_ring}
use Rattle.sercos_law_run.proofs.Start.RingSlotLemmas.{ring_keeps_apart}

-- a feedback and command value of four bytes
abbrev own : Block
own = record {
  idn = record { raw = 51 };
  attribute = attribute_of 0x00220001;
  name = None;
  unit = None;
  min = None;
  max = None;
  value = 0 ∷ 0 ∷ 0 ∷ 0 ∷ [];
  max_len = 0;
  fixed = false;
  step = 0;
  fails = false;
}

abbrev drive : ℕ → ℕ → DriveView
drive address t1min = record {
  address = address;
  slave = address;
  busy = 1;
  command = 5;
  times = record { t1min = t1min; tatmt = 6; t4min = 20; tatat = 5; tmtsy = 10; tmtsg = 20 };
  cycle_min = 250;
  cycle_max = 1000;
  at = (record { raw = 51 }) ∷ [];
  mdt = (record { raw = 51 }) ∷ [];
  blocks = own ∷ [];
}

abbrev ring : RingView
ring = record { rate = 4; cycle = 250; control = 250; gap = 5; cycles = 100; order = 0 ∷ 1 ∷ []; drives = drive 1 10 ∷ drive 2 12 ∷ [] }

abbrev plan : PlanView
plan = record { t1 = 10 ∷ 46 ∷ []; t2 = 83; t3 = 153; t4 = 230; position = 1 ∷ 9 ∷ []; mdt_len = 16 }

abbrev stored : List (ℕ × List ℕ) → List Block → List Block
stored [] blocks = blocks
stored (v ∷ values) blocks = stored values (with_data v.0 v.1 blocks)

-- the store of each drive after the eleven writes
abbrev at_place : ℕ → DriveView
at_place zero = drive 1 10
at_place (suc k) = drive 2 12

abbrev stores : ℕ → List Block
stores k = stored (start_up 250 250 plan k (at_place k).at (at_place k).mdt) (store_of (at_place k))

is_a_ring : is_ring ring ≡ true
unfolding is_ring are_ring_numbers is_rate is_cycle is_control has_drives are_drives is_drive has_address are_drive_numbers are_times has_blocks blocks_fault block_fault are_cyclic cyclic_len block_attribute built_in_attribute own_attribute row_in attribute_in attribute_fault attribute_of mdt_len listed_len is_order are_turns is_turn
is_a_ring = refl

each_drive : (P : ℕ → DriveView → Type 0) → P 0 (drive 1 10) → P 1 (drive 2 12) → (k : ℕ) (d : DriveView) → slice_get ring.drives k ≡ Some d → P k d
each_drive P first second zero d e = let same : drive 1 10 ≡ d = cc in subst (P 0) same first
each_drive P first second (suc zero) d e = let same : drive 2 12 ≡ d = cc in subst (P 1) same second
each_drive P first second (suc (suc k)) d e = cc

valid : IsValid (wishes_of ring)
valid = ring_is_valid ring is_a_ring (each_drive (λ k d. (length d.at ≤ 16) × (length d.mdt ≤ 16)) (omega arith, omega arith)
    (omega arith, omega arith))

no_break : first_broken (wishes_of ring) plan ≡ None
unfolding wishes_of listed_len cyclic_len block_attribute built_in_attribute own_attribute row_in attribute_in attribute_fault attribute_of first_broken broken_by broken_position
no_break = refl

counts : (length plan.t1 ≡ length (wishes_of ring).drives) × (length plan.position ≡ length (wishes_of ring).drives)
unfolding wishes_of
counts = (refl, refl)

fits : Fits (wishes_of ring) plan
fits = fits_from (wishes_of ring) plan valid counts.0 counts.1 no_break

first_store : IsStoreOf (drive 1 10) (stores 0) × Holds (stores 0) (start_up 250 250 plan 0 (drive 1 10).at (drive 1 10).mdt)
unfolding store_of with_own inserted built_in attribute_of
first_store = (refl, (refl, (refl, (refl, (refl, (refl, (refl, (refl, (refl, (refl, (refl, (refl, tt))))))))))))

second_store : IsStoreOf (drive 2 12) (stores 1) × Holds (stores 1) (start_up 250 250 plan 1 (drive 2 12).at (drive 2 12).mdt)
unfolding store_of with_own inserted built_in attribute_of
second_store = (refl, (refl, (refl, (refl, (refl, (refl, (refl, (refl, (refl, (refl, (refl, (refl, tt))))))))))))

-- the check for phase 3 finds nothing
passes : unfit_for_phase_3 4 (stores 1) ≡ []
passes = plan_passes_check ring plan 1 (drive 2 12) (stores 1) is_a_ring valid fits refl second_store.0 second_store.1

-- both drives send, and the slots of the cycle are apart
hold : AllHold ring plan (λ k. true) stores
hold k d at up = each_drive (λ k d. IsStoreOf d (stores k) × Holds (stores k) (start_up 250 250 plan k d.at d.mdt)) first_store second_store k d at

abbrev two_ats : List AtSlot
two_ats = slot 0 40 110 ∷ slot 1 184 112 ∷ []

abbrev mdt : MdtSlot
mdt = record { start = 332; bits = 190; records = (0 ∷ 1 ∷ 2 ∷ 3 ∷ 4 ∷ 5 ∷ 6 ∷ 7 ∷ []) ∷ (8 ∷ 9 ∷ 10 ∷ 11 ∷ 12 ∷ 13 ∷ 14 ∷ 15 ∷ []) ∷ [] }

numbers : (number_at (stores 0) 6 ≡ 10) × (number_at (stores 1) 6 ≡ 46) × (carried_len (stores 0) 16 ≡ 8) × (carried_len (stores 1) 16 ≡ 8)
unfolding number_at carried_len idns_at store_of with_own inserted built_in attribute_of
numbers = (refl, refl, refl, refl)

records : map length mdt.records ≡ map record_len ring.drives
unfolding listed_len cyclic_len block_attribute built_in_attribute own_attribute row_in attribute_in attribute_fault attribute_of
records = refl

apart : AreApart (wishes_of ring) (held_by (λ k. true) stores) two_ats mdt
apart = ring_keeps_apart ring plan (λ k. true) stores two_ats mdt is_a_ring valid fits hold (record {
  senders = each_two (λ s. (s.drive < 2) × (true ≡ true)) _ _ (omega arith, refl) (omega arith, refl);
  starts = each_two (λ s. s.start ≡ 4 * number_at (stores s.drive) 6) _ _ (rw numbers.0 refl) (rw numbers.1 refl);
  bits = each_two (λ s. s.bits ≤ wire_bits (1 + carried_len (stores s.drive) 16)) _ _ (rw numbers.2 (omega arith))
      (rw numbers.3 (omega arith));
  in_order = pair_of_two IsSentBefore _ _ (inl (omega arith));
  mdt_start = refl;
  mdt_bits = omega arith;
  records = records;
})

-- each drive answers the master's first reads from its store at the opening; so the master asks of the plan what the ring asks
abbrev answer : DriveView → Request → Outcome
answer d (Request.Read i e) = Outcome.Complete (element_read (store_of d) i.raw e)
answer d r = Outcome.Broken

attributes_answered : (d : DriveView) (idns : List Idn) → AreAnswers d (map (λ i. Request.Read i 3) idns) (map (answer d) (map (λ i. Request.Read i 3) idns))
attributes_answered d [] = tt
attributes_answered d (i ∷ idns) = ((store_of d, refl, refl), attributes_answered d idns)

all_answered : (d : DriveView) (raws : List ℕ) (idns : List Idn)
    → AreAnswers d (map (λ raw. Request.Read (idn raw) 7) raws ++ map (λ i. Request.Read i 3) idns) (map (answer d) (map (λ raw. Request.Read (idn raw) 7) raws ++ map (λ i. Request.Read i 3) idns))
all_answered d [] idns = attributes_answered d idns
all_answered d (raw ∷ raws) idns = ((store_of d, refl, refl), all_answered d raws idns)

factors : (k : ℕ) (d : DriveView) → slice_get ring.drives k ≡ Some d → HaveFactors d
unfolding attribute_of
factors = each_drive (λ k d. HaveFactors d) own_factor own_factor
  where
    own_factor : All (λ (b : Block). b.attribute.factor < 65536) (own ∷ [])
    own_factor = All-cons (λ (b : Block). b.attribute.factor < 65536) own [] (omega arith) (All-nil (λ (b : Block). b.attribute.factor < 65536))

answered : (k : ℕ) (d : DriveView) → slice_get ring.drives k ≡ Some d → AreAnswers d (reads (member_of d)) (map (answer (at_place k)) (reads (member_of (at_place k))))
answered = each_drive (λ k d. AreAnswers d (reads (member_of d)) (map (answer (at_place k)) (reads (member_of (at_place k)))))
    (all_answered (drive 1 10) declared_times ((drive 1 10).at ++ (drive 1 10).mdt)) (all_answered (drive 2 12) declared_times ((drive 2 12).at ++ (drive 2 12).mdt))

asks : wishes_given (known_of ring) (λ k. map (answer (at_place k)) (reads (member_of (at_place k)))) ≡ wishes_of ring
asks = asks_as_ring ring (λ k. map (answer (at_place k)) (reads (member_of (at_place k)))) is_a_ring (λ k d at. (factors k d at, answered k d at))
