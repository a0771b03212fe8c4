-- To which drive an MDT is, and that the drive gets of it what it is told.
use Rattle.sercos_law_run.proofs.Words.{◌≡◌, inl, inr, ℕ, zero, suc, ◌+◌, ◌<◌, ◌≤◌, Bool, true, false, not, ◌&&◌, ◌||◌, List, [], ◌∷◌, length, Option, Some, None, refl, sym, ◌∙◌, ap, arith, if◌then◌else◌, ◌==◌, nat_le, is_some, is_none, option_map, and_from, cases_eq, cond-false, cond-true, eqb-true, false≢true, not-true, nat_tests, PlanView, Block, is_ring, RingView, open_in, master_says, begun_by, Told, mdt_got, is_place, record_said, Known, MemberView, member, known_of, Past, first_from, first_place, place_of, is_idle, is_identified, in_turn, ready_to_send, is_sent_to, addressed_in, after_mdt, Sent, idle, said_to, single, joint, mdt_said, HasTurn, drive_at, is_told, told_to, IsSayable, Begun, cases_Bool}
use Rattle.sercos_service_master.specs.Begun.{Said}
use Rattle.sercos_law_run.proofs.Views.DriveSame.{said_to as said_by_told}
use Rattle.sercos_law_run.proofs.Views.Members.{member_is, members_count, place_is}
use Rattle.sercos_law_run.proofs.Views.Codecs.{single_clear}
use Rattle.sercos_law_run.proofs.Views.Received.{Agrees, joint_got}
use Rattle.sercos_law_run.proofs.Headline.ApartCycles.{joint_said}
use Rattle.sercos_law_run.proofs.Agenda.AtWork.{IsFound}
use Rattle.sercos_law_run.proofs.Views.MasterSame.{send_same}

-- if some place passes the test, one is found
pub finds : (k n i : ℕ) (test : ℕ → Bool) → k ≤ i → i < k + n → test i ≡ true → IsFound k n test
finds k zero i test low high passes = absurd (omega (arith, low, high))
finds k (suc n) i test low high passes = by (test k) refl (λ above. finds (k + 1) n i test above (omega (arith, high)) passes)
  where
    by : (b : Bool) → test k ≡ b → (k + 1 ≤ i → IsFound (k + 1) n test) → IsFound k (suc n) test
    by true is next = record { place = k; found = cond-true (test k) (Some k) (first_from (k + 1) n test) is; below = omega arith; passes = is }
    by false is next =
        let later = next (elim (cases_eq k i) [ inl same ↦ absurd (false≢true (sym is ∙ ap test same ∙ passes)) | inr other ↦ omega (arith, low, other) ]) in
        let less = later.below in
        record { place = later.place; found = cond-false (test k) (Some k) (first_from (k + 1) n test) is ∙ later.found; below = omega (arith, less); passes = later.passes }

-- the drive at a place is found by its address
pub place_found : (r : RingView) (k : ℕ) → is_ring r ≡ true → k < length r.drives → place_of (known_of r) (drive_at r k).address ≡ Some k
place_found r k valid below =
    let count = members_count r in
    let same : ((drive_at r k).address == (drive_at r k).address) ≡ true = grind (arith, nat_tests) in
    let mine : ((member (known_of r) k).address == (drive_at r k).address) ≡ true = ap (λ (m : MemberView). m.address == (drive_at r k).address) (member_is r k) ∙ same in
    let one = finds 0 (length (known_of r).drives) k (λ i. (member (known_of r) i).address == (drive_at r k).address) (omega arith) (omega (arith, below, count)) mine in
    (one.found ∙ ap (λ (i : ℕ). Some i) (sym (place_is r k one.place valid below one.found)))

pub place_so : (k : ℕ) (o : Option ℕ) → is_place k o ≡ true → o ≡ Some k
place_so k None is = cc
place_so k (Some i) is = ap (λ (n : ℕ). Some n) (sym (eqb-true k i is))

pub place_some : (k : ℕ) (o : Option ℕ) → o ≡ Some k → is_place k o ≡ true
place_some k o is = let same : (k == k) ≡ true = grind (arith, nat_tests) in ap (is_place k) is ∙ same

-- PHASE 2. Sending changes nothing of what a channel has begun.
idle_same : (s : Known) (p : Past) (k : ℕ) → is_idle (after_mdt s p) k ≡ is_idle (ready_to_send s p) k
idle_same s p k = ap (λ (l : List Begun). is_none (open_in l))
    (send_same (is_sent_to (ready_to_send s p) (addressed_in s (ready_to_send s p)) k) ((ready_to_send s p).calls k))

-- The MDT is to the drive whose step is open, since no other channel has one.
pub addressed_open : (s : Known) (p : Past) (k : ℕ) → k < length s.drives → ((i : ℕ) → i < length s.drives → HasTurn s (after_mdt s p) i) → (after_mdt s p).now.phase ≡ 2 → is_idle (after_mdt s p) k ≡ false → (after_mdt s p).now.addressed ≡ Some k
addressed_open s p k below turns two opens =
    let q = ready_to_send s p in
    let one = finds 0 (length s.drives) k (λ i. not (is_idle q i)) (omega arith) (omega (arith, below)) (ap (λ (b : Bool). not b) (sym (idle_same s p k) ∙ opens)) in
    let other : is_idle (after_mdt s p) one.place ≡ false = idle_same s p one.place ∙ not-true (is_idle q one.place) one.passes in
    let here : in_turn s (after_mdt s p) ≡ Some k = turns k below two opens in
    let there : in_turn s (after_mdt s p) ≡ Some one.place = turns one.place (omega (arith, one.below)) two other in
    (ap (λ (n : ℕ). if n == 1 then first_place s (λ k. not (is_identified q k)) else
    (if n == 2 then first_place s (λ k. not (is_idle q k)) else None)) two) ∙ one.found ∙ sym there ∙ here

-- WHAT IS TOLD. In phases 3 and 4 each drive is told something, in phases 1 and 2 the one to which the MDT is.
pub told_if : (p : Past) (k : ℕ) → is_told p k ≡ true → is_some (told_to p k) ≡ true
told_if p k is = ap (λ (b : Bool). is_some (if b then Some (master_says (begun_by (p.calls k))) else None)) is

pub told_then : (p : Past) (k : ℕ) → is_some (told_to p k) ≡ true → is_told p k ≡ true
told_then p k = by (is_told p k)
  where
    by : (b : Bool) → is_some (if b then Some (master_says (begun_by (p.calls k))) else None) ≡ true → b ≡ true
    by true some = refl
    by false some = cc

pub told_late : (p : Past) (k : ℕ) (plan : PlanView) → 3 ≤ p.now.phase → p.plan ≡ Some plan → is_told p k ≡ true
told_late p k plan late has =
    let three : nat_le 3 p.now.phase ≡ true = grind (arith, nat_tests, late) in
    ap (λ (b : Bool). b || is_place k p.now.addressed) (and_from (nat_le 3 p.now.phase) (is_some p.plan) three (ap (λ (o : Option PlanView). is_some o) has))

pub told_one : (p : Past) (k : ℕ) → p.now.addressed ≡ Some k → is_told p k ≡ true
told_one p k to =
    elim (cases_Bool (nat_le 3 p.now.phase && is_some p.plan)) [ inl on ↦ rw on | inr off ↦ rw off (place_some k p.now.addressed to) ]

pub told_early : (p : Past) (k : ℕ) → p.now.phase ≤ 2 → is_told p k ≡ true → p.now.addressed ≡ Some k
told_early p k early told =
    let late : nat_le 3 p.now.phase ≡ false = grind (arith, nat_tests, early) in
    place_so k p.now.addressed (sym (ap (λ (b : Bool). (b && is_some p.plan) || is_place k p.now.addressed) late) ∙ told)

-- THE MDT THAT A DRIVE IS TOLD IN. A drive in the commanded phase gets its record of it.
pub record IsTold (r : RingView) (p : Past) (k : ℕ) (blocks : List Block) : Type 0 where
  pub sent : Sent
  pub said : mdt_said (known_of r) p ≡ Some sent
  pub got : is_some (mdt_got (drive_at r k).address p.now.phase blocks (Some sent.content)) ≡ true

pub some_got : (o : Option Told) (said : Said) → option_map said_by_told o ≡ Some said → is_some o ≡ true
some_got None said is = cc
some_got (Some t) said is = refl

pub told_got : (r : RingView) (p : Past) (k : ℕ) (blocks : List Block) → is_ring r ≡ true → k < length r.drives → 1 ≤ p.now.phase → is_told p k ≡ true → ((i : ℕ) → IsSayable (said_to p i))
    → (3 ≤ p.now.phase → (plan : PlanView) × (p.plan ≡ Some plan) × Agrees (known_of r) p k blocks) → IsTold r p k blocks
told_got r p k blocks valid below some told small planned = elim (cases_Bool (nat_le 3 p.now.phase)) [
  | inl is ↦
      let late : 3 ≤ p.now.phase = grind (arith, nat_tests, is) in
      let (plan, has, agrees) = planned late in
      record {
        sent = joint s p plan;
        said = joint_said s p plan late has;
        got = some_got (mdt_got (drive_at r k).address p.now.phase blocks (Some (joint s p plan).content)) (said_to p k)
            (joint_got s p k (drive_at r k).address p.now.phase blocks (omega (arith, below, members_count r)) late (small k) agrees);
      }
  | inr is ↦
      let early : p.now.phase ≤ 2 = grind (arith, nat_tests, is) in
      early_by (p.now.phase == 1) refl early (told_early p k early told)
]
  where
    s : Known
    s = known_of r

    -- an MDT to one drive
    to_one : (word : Said) → IsSayable word → p.now.phase ≤ 2 → mdt_said (known_of r) p ≡ Some (single s word k) → IsTold r p k blocks
    to_one word (low, sixteen) early said = record {
      sent = single s word k;
      said = said;
      got = some_got (mdt_got (drive_at r k).address p.now.phase blocks (Some (single s word k).content)) word
          (ap (λ (m : MemberView). option_map said_by_told (mdt_got (drive_at r k).address p.now.phase blocks (Some (m.address ∷ record_said word [])))) (member_is r k)
          ∙ single_clear word (drive_at r k).address p.now.phase blocks early low sixteen);
    }

    early_by : (one : Bool) → (p.now.phase == 1) ≡ one → p.now.phase ≤ 2 → p.now.addressed ≡ Some k → IsTold r p k blocks
    early_by true is early to = to_one idle (omega arith, omega arith) early (rw (is, to) refl)
    early_by false is early to =
        let two : (p.now.phase == 2) ≡ true = grind (arith, nat_tests, is, early, some) in
        to_one (said_to p k) (small k) early (rw (is, two, to) refl)
