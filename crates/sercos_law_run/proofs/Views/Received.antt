-- What a drive gets of the MDT is what the master tells it, or nothing.
use Rattle.sercos_law_run.proofs.Words.{◌≡◌, inl, inr, ℕ, zero, suc, ◌+◌, ◌<◌, ◌≤◌, Bool, true, false, not, ◌&&◌, List, [], ◌∷◌, ◌++◌, length, Option, Some, None, refl, sym, ◌∙◌, ap, subst, arith, if◌then◌else◌, append_assoc, ◌==◌, nat_le, nat_lt, slice_index, is_some, is_none, option_map, then_some, option_or, cases_eq, nat_tests, all_drives, joint_fault, Block, DriveView, RingView, is_ring, number_at, carried_len, master_says, begun_by, PlanView, Told, mdt_got, lies_within, mdt_attributes, record_said, values_said, Known, MemberView, member, known_of, Past, outcomes, Sent, said_to, record_to, records_from, idle, single, joint, mdt_said, no_drive, drive_at, told_to, IsSayable, head_fault, single_in, IsRing-is_ring, get_or_past, cases_Bool}
use Rattle.std.proofs.lemmas.Bool.{and_right}
use Rattle.sercos_service_master.specs.Begun.{Said}
use Rattle.sercos_drive.specs.Heard.{joint_in}
use Rattle.sercos_law_run.proofs.Views.Codecs.{single_clear, single_other, joint_clear}
use Rattle.sercos_law_run.proofs.Views.DriveSame.{said_to as said_by_told}
use Rattle.sercos_law_run.proofs.Views.Members.{member_is, members_count, same_drive}

-- the address of a drive isn't one of the master's
pub address_of : (r : RingView) (k : ℕ) → is_ring r ≡ true → k < length r.drives → (1 ≤ (drive_at r k).address) × ((drive_at r k).address ≤ 254)
address_of r k valid below = (IsRing-is_ring r valid).addresses k no_drive below

-- a content with another address has a fault
fault_later : {A : Type 0} (b : Bool) (x y : A) → is_none (option_or (then_some b x) (Some y)) ≡ false
fault_later true x y = refl
fault_later false x y = refl

wrong_head : (wanted address : ℕ) (content : List ℕ) → (slice_index content 0 == address) ≡ false → is_none (head_fault wanted address content) ≡ false
unfolding head_fault
wrong_head wanted address content off = rw off (fault_later (not (length content == wanted)) _ _)

-- a telegram to another drive is not heard
single_late : (said : Said) (address other phase : ℕ) (blocks : List Block) → 3 ≤ phase → (other == all_drives) ≡ false → mdt_got address phase blocks (Some (other ∷ record_said said [])) ≡ None
unfolding joint_in
single_late said address other phase blocks late off =
    let is_late : nat_le 3 phase ≡ true = grind (arith, nat_tests, late) in
    let wrong : is_none (joint_fault (number_at blocks 10) (other ∷ record_said said [])) ≡ false = wrong_head (1 + number_at blocks 10) all_drives (other ∷ record_said said []) off in
    rw (is_late, wrong, and_right (lies_within (number_at blocks 10) (number_at blocks 9) (carried_len blocks 24)) false refl) refl

joint_early : (address phase : ℕ) (blocks : List Block) (content : List ℕ) → phase ≤ 2 → (slice_index content 0 == address) ≡ false → mdt_got address phase blocks (Some content) ≡ None
unfolding single_in
joint_early address phase blocks content early off =
    let not_late : nat_le 3 phase ≡ false = grind (arith, nat_tests, early) in
    rw (not_late, wrong_head 5 address content off) refl

-- WHAT THE DRIVE AT A PLACE GETS of an MDT to one drive
single_got : (r : RingView) (k i : ℕ) (said : Said) (phase : ℕ) (blocks : List Block) → is_ring r ≡ true → k < length r.drives → said.step.element < 8 → said.step.word < 65536
    → option_map said_by_told (mdt_got (drive_at r k).address phase blocks (Some ((member (known_of r) i).address ∷ record_said said []))) ≡ (if (k == i) && nat_le phase 2 then Some said else None)
single_got r k i said phase blocks valid below low small = elim (cases_eq k i) [
  | inl same ↦
      let here : (k == i) ≡ true = grind (arith, nat_tests, same) in
      let mine : (member (known_of r) i).address ≡ (drive_at r k).address = ap (λ (j : ℕ). (member (known_of r) j).address) (sym same) ∙ ap (λ (m : MemberView). m.address) (member_is r k) in
      rw (here, mine) (own (nat_le phase 2) refl)
  | inr other ↦
      let there : (k == i) ≡ false = grind (arith, nat_tests, other) in
      rw (there, elsewhere (nat_le phase 2) refl (λ same. other same)) refl
]
  where
    own : (early : Bool) → nat_le phase 2 ≡ early → option_map said_by_told (mdt_got (drive_at r k).address phase blocks (Some ((drive_at r k).address ∷ record_said said []))) ≡ (if true && early then Some said else None)
    own true early = single_clear said (drive_at r k).address phase blocks (grind (arith, nat_tests, early)) low small
    own false late =
        let high = (address_of r k valid below).1 in
        let off : ((drive_at r k).address == all_drives) ≡ false = grind (arith, nat_tests, high) in
        ap (option_map said_by_told) (single_late said (drive_at r k).address (drive_at r k).address phase blocks (grind (arith, nat_tests, late)) off)

    -- the address of a place that isn't this one
    foreign : (k ≡ i → ⊥) → ((member (known_of r) i).address ≡ (drive_at r k).address → ⊥)
    foreign other same = elim (cases_Bool (nat_lt i (length r.drives))) [
      | inl is ↦ other (sym (same_drive r i k valid (grind (arith, nat_tests, is)) below (ap (λ (m : MemberView). m.address) (sym (member_is r i)) ∙ same)))
      | inr is ↦
          let none : (member (known_of r) i).address ≡ 0 = ap (λ (m : MemberView). m.address) (member_is r i)
          ∙ ap (λ (d : DriveView). d.address) (get_or_past r.drives i no_drive (grind (arith, nat_tests, is))) in
          let low = (address_of r k valid below).0 in
          absurd (omega (arith, none, same, low))
    ]

    high_of : (member (known_of r) i).address ≤ 254
    high_of = by (nat_lt i (length r.drives)) refl
      where
        by : (b : Bool) → nat_lt i (length r.drives) ≡ b → (member (known_of r) i).address ≤ 254
        by true is = subst (λ a. a ≤ 254) (ap (λ (m : MemberView). m.address) (sym (member_is r i))) (address_of r i valid (grind (arith, nat_tests, is))).1
        by false is = let none : (member (known_of r) i).address ≡ 0 = ap (λ (m : MemberView). m.address) (member_is r i)
            ∙ ap (λ (d : DriveView). d.address) (get_or_past r.drives i no_drive (grind (arith, nat_tests, is))) in omega (arith, none)

    elsewhere : (early : Bool) → nat_le phase 2 ≡ early → (k ≡ i → ⊥) → mdt_got (drive_at r k).address phase blocks (Some ((member (known_of r) i).address ∷ record_said said [])) ≡ None
    elsewhere true early other = let differs = foreign other in single_other said (drive_at r k).address (member (known_of r) i).address phase blocks (grind (arith, nat_tests, early)) (grind (arith, nat_tests, differs))
    elsewhere false late other = let high = high_of in single_late said (drive_at r k).address (member (known_of r) i).address phase blocks (grind (arith, nat_tests, late)) (grind (arith, nat_tests, high))

-- AN MDT TO ALL: the record of a place comes after those of the places before
record_among : (s : Known) (p : Past) (base i n : ℕ) → i < n → (rest : List ℕ) × (records_from s p base n ≡ records_from s p base i ++ (record_to s p (base + i) ++ rest))
record_among s p base i zero below = absurd (omega (arith, below))
record_among s p base zero (suc n) below = (records_from s p (base + 1) n, let e : base ≡ base + 0 = omega arith in ap (λ (j : ℕ). record_to s p j ++ records_from s p (base + 1) n) e)
record_among s p base (suc i) (suc n) below =
    let (rest, split) = record_among s p (base + 1) i n (omega (arith, below)) in
    let e : base + 1 + i ≡ base + suc i = omega arith in (
      rest,
      ap (λ (l : List ℕ). record_to s p base ++ l) (split ∙ ap (λ (j : ℕ). records_from s p (base + 1) i ++ (record_to s p j ++ rest)) e)
          ∙ sym (append_assoc (record_to s p base) (records_from s p (base + 1) i) (record_to s p (base + suc i) ++ rest)),
    )

-- What a drive holds agrees with where the master lays its record, and with how long the MDT is.
pub record Agrees (s : Known) (p : Past) (k : ℕ) (blocks : List Block) : Type 0 where
  pub place : number_at blocks 9 ≡ 1 + length (records_from s p 0 k)
  pub within : number_at blocks 9 + carried_len blocks 24 ≤ number_at blocks 10 + 1
  pub long : number_at blocks 10 ≡ length (records_from s p 0 (length s.drives))

pub joint_got : (s : Known) (p : Past) (k address phase : ℕ) (blocks : List Block) → k < length s.drives → 3 ≤ phase → IsSayable (said_to p k) → Agrees s p k blocks
    → option_map said_by_told (mdt_got address phase blocks (Some (all_drives ∷ records_from s p 0 (length s.drives)))) ≡ Some (said_to p k)
joint_got s p k address phase blocks below late (low, small) a =
    let (rest, split) = record_among s p 0 k (length s.drives) below in
    let zero : 0 + k ≡ k = omega arith in
    let whole : records_from s p 0 (length s.drives) ≡ (records_from s p 0 k ++ record_to s p k) ++ rest =
    split ∙ ap (λ (j : ℕ). records_from s p 0 k ++ (record_to s p j ++ rest)) zero ∙ sym (append_assoc (records_from s p 0 k) (record_to s p k) rest) in
    let place = a.place in
    let long : length ((records_from s p 0 k ++ record_said (said_to p k) (values_said p.cycle (mdt_attributes (member s k) (outcomes p k)))) ++ rest) ≡ number_at blocks 10 = ap (λ (l : List ℕ). length l) (sym whole) ∙ sym a.long in
    ap (λ (l : List ℕ). option_map said_by_told (mdt_got address phase blocks (Some (all_drives ∷ l)))) whole
    ∙ joint_clear (said_to p k) address phase blocks (all_drives ∷ records_from s p 0 k) (values_said p.cycle (mdt_attributes (member s k) (outcomes p k))) rest late low small refl
    (omega (arith, place)) (omega (arith, place)) a.within (omega (arith, long))

-- WHAT COMES of the MDT is what was sent, or nothing; so the drive gets what it is told, or nothing.
-- either nothing is got, or what is told
pub data GotTold (got : Option Told) (told : Option Said) : Type 0 where
  NothingGot : got ≡ None → GotTold got told
  ToldGot : option_map said_by_told got ≡ told → GotTold got told

pub got_or_none : (got : Option Told) (told : Option Said) → GotTold got told → option_map said_by_told got ≡ (if is_some got then told else None)
got_or_none got told (NothingGot none) = rw none refl
got_or_none None told (ToldGot same) = refl
got_or_none (Some t) told (ToldGot same) = same

none_got : (o : Option Told) → option_map said_by_told o ≡ None → o ≡ None
none_got None none = refl
none_got (Some t) none = cc

single_told : (r : RingView) (p : Past) (k i : ℕ) (said : Said) (phase : ℕ) (blocks : List Block) → is_ring r ≡ true → k < length r.drives → IsSayable said → nat_le 3 p.now.phase ≡ false → p.now.addressed ≡ Some i
    → (k ≡ i → said ≡ master_says (begun_by (p.calls k))) → GotTold (mdt_got (drive_at r k).address phase blocks (Some ((member (known_of r) i).address ∷ record_said said []))) (told_to p k)
single_told r p k i said phase blocks valid below (low, small) early to same = by (k == i) (nat_le phase 2) refl (single_got r k i said phase blocks valid below low small)
  where
    by : (here early' : Bool) → (k == i) ≡ here → option_map said_by_told (mdt_got (drive_at r k).address phase blocks (Some ((member (known_of r) i).address ∷ record_said said []))) ≡ (if here && early' then Some said else None)
        → GotTold (mdt_got (drive_at r k).address phase blocks (Some ((member (known_of r) i).address ∷ record_said said []))) (told_to p k)
    by true true here got = ToldGot (got ∙ ap (λ (x : Said). Some x) (same (grind (arith, nat_tests, here))) ∙ rw (early, to, here) refl)
    by true false here got = NothingGot (none_got _ got)
    by false early' here got = NothingGot (none_got _ got)

pub mdt_told : (r : RingView) (p : Past) (k phase : ℕ) (blocks : List Block) (m : Sent) → is_ring r ≡ true → k < length r.drives → mdt_said (known_of r) p ≡ Some m
    → (p.now.phase ≡ 1 → master_says (begun_by (p.calls k)) ≡ idle) → ((i : ℕ) → IsSayable (said_to p i)) → ((plan : PlanView) → 3 ≤ p.now.phase → 3 ≤ phase → p.plan ≡ Some plan → Agrees (known_of r) p k blocks)
    → GotTold (mdt_got (drive_at r k).address phase blocks (Some m.content)) (told_to p k)
mdt_told r p k phase blocks m valid below said quiet small agrees = elim (cases_Bool (p.now.phase == 1)) [
  | inl one ↦ let is = rw one at said in to_one (λ i. idle) (λ i. (omega arith, omega arith))
      (λ same. sym (quiet (grind (arith, nat_tests, one)))) (grind (arith, nat_tests, one)) p.now.addressed refl is
  | inr one ↦ let is = rw one at said in second (p.now.phase == 2) refl is
]
  where
    s : Known
    s = known_of r

    content_is : (x : Sent) → Some x ≡ Some m → x.content ≡ m.content
    content_is x e = let same : x ≡ m = cc in ap (λ (y : Sent). y.content) same

    to_one : (word : ℕ → Said) → ((i : ℕ) → IsSayable (word i)) → (k ≡ k → word k ≡ master_says (begun_by (p.calls k))) → nat_le 3 p.now.phase ≡ false → (o : Option ℕ) → p.now.addressed ≡ o
        → option_map (λ i. single s (word i) i) o ≡ Some m → GotTold (mdt_got (drive_at r k).address phase blocks (Some m.content)) (told_to p k)
    to_one word sayable mine early None to is = cc
    to_one word sayable mine early (Some i) to is =
        subst (λ (c : List ℕ). GotTold (mdt_got (drive_at r k).address phase blocks (Some c)) (told_to p k)) (content_is (single s (word i) i) is)
        (single_told r p k i (word i) phase blocks valid below (sayable i) early to (λ same. ap word (sym same) ∙ mine refl))

    to_all : nat_le 3 p.now.phase ≡ true → (o : Option PlanView) → p.plan ≡ o → option_map (joint s p) o ≡ Some m → GotTold (mdt_got (drive_at r k).address phase blocks (Some m.content)) (told_to p k)
    to_all late None has is = cc
    to_all late (Some plan) has is =
        subst (λ (c : List ℕ). GotTold (mdt_got (drive_at r k).address phase blocks (Some c)) (told_to p k)) (content_is (joint s p plan) is) (by (nat_le 3 phase) refl)
      where
        by : (stands : Bool) → nat_le 3 phase ≡ stands → GotTold (mdt_got (drive_at r k).address phase blocks (Some (joint s p plan).content)) (told_to p k)
        by true stands =
            let count = members_count r in
            ToldGot (joint_got s p k (drive_at r k).address phase blocks (omega (arith, below, count)) (grind (arith, nat_tests, stands)) (small k)
            (agrees plan (grind (arith, nat_tests, late)) (grind (arith, nat_tests, stands)) has) ∙ rw (late, has) refl)
        by false stands =
            let high = (address_of r k valid below).1 in
            NothingGot (joint_early (drive_at r k).address phase blocks (joint s p plan).content (grind (arith, nat_tests, stands)) (grind (arith, nat_tests, high)))

    second : (b : Bool) → (p.now.phase == 2) ≡ b → (if b then option_map (λ i. single s (said_to p i) i) p.now.addressed else (if nat_le 3 p.now.phase then option_map (joint s p) p.plan else None)) ≡ Some m
        → GotTold (mdt_got (drive_at r k).address phase blocks (Some m.content)) (told_to p k)
    second true two is = to_one (said_to p) small (λ same. refl) (grind (arith, nat_tests, two)) p.now.addressed refl is
    second false two is = elim (cases_Bool (nat_le 3 p.now.phase)) [
      | inl late ↦ to_all late p.plan refl (rw late at is)
      | inr late ↦ let is = rw late at is in cc
    ]
