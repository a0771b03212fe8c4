-- Telegrams that are apart keep the rules of phases 3 and 4.
use Rattle.sercos_law_trace.proofs.Words.{◌≡◌, inl, inr, ℕ, zero, suc, ◌+◌, ◌-◌, ◌*◌, ◌<◌, ◌≤◌, ◌==◌, true, if◌then◌else◌, List, [], ◌∷◌, ◌++◌, length, max, Option, Some, None, is_none, refl, sym, ◌∙◌, ap, subst, arith, slice_index, All, AllPairs, filter, concat, eq-eqb, cases_eq, All-head, All-tail, wire_bits, frame_of, joint_fault, all_drives, Wish, wish, times, record_bytes, first_sent, greatest, greatest_tmtsy, IsValid, AreBelow, WishesView, SentView, Said, Sent, AtSlot, MdtSlot, Held, end_of, mdt_content, HasPause, HasRecovered, AreApart, place_of, at_slot, mdt_slot, IsApart, length_records, wish_for, sent_at, sent_mst, sent_mdt, ats_said, head_fault}
use Rattle.sercos_telegram.specs.Kinds.{is_mdt}
use Rattle.sercos_law_run.specs.Slots.Sending.{ats_in}
use Rattle.sercos_law_trace.proofs.Clean.RuleLemmas.{mdt_at}
use Rattle.sercos_law_trace.proofs.Clean.SeenLemmas.{Each, EachPair, each_map, each_both, pairs_both, pairs_map, IsFramed}
use Rattle.sercos_law_trace.proofs.Clean.SaidLemmas.{IsOther, wish_found}
use Rattle.sercos_law_trace.proofs.Clean.LateRules.{slave_by, end_at, pause_by, IsBefore, IsBeforeMdt, IsLateMdt}

-- the slot of an AT
abbrev pub slot_by : WishesView → ℕ → Said → AtSlot
slot_by w rate s = at_slot w (sent_at rate s.start s.content)

abbrev slots_by : WishesView → ℕ → List Said → List AtSlot
slots_by w rate [] = []
slots_by w rate (s ∷ ats) = slot_by w rate s ∷ slots_by w rate ats

slots_are : (w : WishesView) (rate : ℕ) (mst : List ℕ) (ats : List Said) (o : Option Sent) → ats_in w (sent_mst mst ∷ ats_said rate ats ++ sent_mdt rate o) ≡ slots_by w rate ats
slots_are w rate mst [] None = refl
slots_are w rate mst [] (Some m) = refl
slots_are w rate mst (s ∷ ats) o = ap (λ (l : List AtSlot). slot_by w rate s ∷ l) (slots_are w rate mst ats o)

mdts_are : (rate : ℕ) (mst : List ℕ) (ats : List Said) (o : Option Sent) → filter (λ (s : SentView). is_mdt s.kind) (sent_mst mst ∷ ats_said rate ats ++ sent_mdt rate o) ≡ sent_mdt rate o
mdts_are rate mst [] None = refl
mdts_are rate mst [] (Some m) = refl
mdts_are rate mst (s ∷ ats) o = mdts_are rate mst ats o

-- what holds of all slots
each_slot : (w : WishesView) (rate : ℕ) (P : AtSlot → Type 0) (ats : List Said) → All P (slots_by w rate ats) → Each (λ (s : Said). P (slot_by w rate s)) ats
each_slot w rate P [] all = tt
each_slot w rate P (s ∷ ats) all = (All-head P (slot_by w rate s) (slots_by w rate ats) all, each_slot w rate P ats (All-tail P (slot_by w rate s) (slots_by w rate ats) all))

each_pair : (w : WishesView) (rate : ℕ) (R : AtSlot → AtSlot → Type 0) (ats : List Said) → AllPairs R (slots_by w rate ats) → EachPair (λ (x y : Said). R (slot_by w rate x) (slot_by w rate y)) ats
each_pair w rate R [] pairs = tt
each_pair w rate R (s ∷ ats) pairs = (
  each_slot w rate (R (slot_by w rate s)) ats (λ j d within. pairs 0 (suc j) d (omega arith) (omega (arith, within))),
  each_pair w rate R ats (λ i j d low within. pairs (suc i) (suc j) d (omega (arith, low)) (omega (arith, within))),
)

-- what the ring declares for a drive, by its address
pause_so : (w : WishesView) (rate : ℕ) (x y : Said) → HasPause w (slot_by w rate x) (slot_by w rate y) → end_at rate x + pause_by w x y ≤ rate * y.start
pause_so w rate x y has =
    subst (λ (b : Wish). end_at rate x + (if slave_by w x == b.slave then 0 else w.rate * w.gap) ≤ rate * y.start) (wish_found w (slice_index y.content 0))
    (subst (λ (a : Wish). end_at rate x + (if a.slave == (wish w (place_of w (slice_index y.content 0))).slave then 0 else w.rate * w.gap) ≤ rate * y.start) (wish_found w (slice_index x.content 0)) has)

recovered_so : (w : WishesView) (rate : ℕ) (x y : Said) → HasRecovered w (slot_by w rate x) (slot_by w rate y) → (slave_by w x == slave_by w y) ≡ true
    → end_at rate x + w.rate * (wish_for w (slice_index y.content 0)).times.tatat ≤ rate * y.start
recovered_so w rate x y has =
    subst (λ (b : Wish). (slave_by w x == b.slave) ≡ true → end_at rate x + w.rate * b.times.tatat ≤ rate * y.start) (wish_found w (slice_index y.content 0))
    (subst (λ (a : Wish). (a.slave == (wish w (place_of w (slice_index y.content 0))).slave) ≡ true → end_at rate x + w.rate * (times w (place_of w (slice_index y.content 0))).tatat ≤ rate * y.start) (wish_found w (slice_index x.content 0)) has)

-- the greatest time that a drive declares
both_max : (P : ℕ → Type 0) (a b : ℕ) → P a → P b → P (max a b)
both_max P a b pa pb = elim (cases_eq (a - b) 0) [
  | inl less ↦ let is : max a b ≡ b = omega (arith, less) in subst P (sym is) pb
  | inr more ↦ let is : max a b ≡ a = omega (arith, more) in subst P (sym is) pa
]

greatest_so : (P : ℕ → Type 0) (f : ℕ → ℕ) (order : List ℕ) (n count : ℕ) → AreBelow order count → n ≤ length order → P 0 → ((k : ℕ) → k < count → P (f k)) → P (greatest f (first_sent order n))
greatest_so P f order zero count below low none each = none
greatest_so P f order (suc n) count below low none each =
    both_max P (f (slice_index order n)) (greatest f (first_sent order n)) (each (slice_index order n) (below n (omega (arith, low)))) (greatest_so P f order n count below (omega (arith, low)) none each)

-- the layout of the MDT to all
joint_so : (content : List ℕ) (n : ℕ) → length content ≡ 1 + n → slice_index content 0 ≡ all_drives → is_none (joint_fault n content) ≡ true
unfolding head_fault
joint_so content n long address = rw (eq-eqb (length content) (1 + n) long, eq-eqb (slice_index content 0) all_drives address) refl

module _ (w : WishesView) (rate : ℕ) (held : ℕ → Option Held) (records : List (List ℕ)) (mst : List ℕ) (ats : List Said) where
  module _ (m : Sent) (apart : IsApart w held records (sent_mst mst ∷ ats_said rate ats ++ sent_mdt rate (Some m))) (valid : IsValid w) where
    mdt_is : apart.mdt ≡ mdt_at rate m
    mdt_is = let same : mdt_at rate m ∷ [] ≡ apart.mdt ∷ [] = sym (mdts_are rate mst ats (Some m)) ∙ apart.one_mdt in cc

    abbrev last : MdtSlot
    last = mdt_slot records (mdt_at rate m)

    slots : AreApart w held (slots_by w rate ats) last
    slots = subst (λ (l : List AtSlot). AreApart w held l last) (slots_are w rate mst ats (Some m)) (subst (λ (s : SentView). AreApart w held (ats_in w (sent_mst mst ∷ ats_said rate ats ++ sent_mdt rate (Some m))) (mdt_slot records s)) mdt_is apart.apart)

    content_is : m.content ≡ all_drives ∷ concat records
    content_is = subst (λ (s : SentView). s.content ≡ mdt_content (mdt_slot records s)) mdt_is apart.content

    pub before : EachPair IsOther ats → EachPair (λ (x y : Said). IsBefore w rate y x) ats
    before others = pairs_map _ (λ (x y : Said). IsBefore w rate y x) (λ x y is. record { other = is.0; pause = pause_so w rate x y is.1.0; recovered = recovered_so w rate x y is.1.1 }) ats
        (pairs_both IsOther _ ats others (pairs_both _ _ ats (each_pair w rate (HasPause w) ats slots.pauses) (each_pair w rate (HasRecovered w) ats slots.recovered)))

    -- an AT that isn't before its drive can send, and has the gap after the MST
    pub early_enough : Each (λ (s : Said). (w.rate * (wish_for w (slice_index s.content 0)).times.t1min ≤ rate * s.start) × (w.rate * w.gap ≤ rate * s.start)) ats
    early_enough = each_both _ _ ats
        (each_map _ (λ (s : Said). w.rate * (wish_for w (slice_index s.content 0)).times.t1min ≤ rate * s.start) (λ s is. subst (λ (x : Wish). w.rate * x.times.t1min ≤ rate * s.start) (wish_found w (slice_index s.content 0)) is) ats
        (each_slot w rate (λ (a : AtSlot). w.rate * (times w a.drive).t1min ≤ a.start) ats slots.ready))
        (each_slot w rate (λ (a : AtSlot). w.rate * w.gap ≤ a.start) ats slots.after_mst.0)

    pub before_last : Each (IsBeforeMdt w rate (rate * m.start)) ats
    before_last = each_map _ (IsBeforeMdt w rate (rate * m.start)) (λ s is. record { gap = is.0; receive = subst (λ (x : Wish). end_at rate s + w.rate * x.times.tatmt ≤ rate * m.start) (wish_found w (slice_index s.content 0)) is.1 }) ats
        (each_both _ _ ats (each_slot w rate (λ (a : AtSlot). end_of a + w.rate * w.gap ≤ rate * m.start) ats slots.before_mdt)
        (each_slot w rate (λ (a : AtSlot). end_of a + w.rate * (times w a.drive).tatmt ≤ rate * m.start) ats slots.receive))

    -- so much time is left after the MDT
    abbrev Fits : ℕ → Type 0
    Fits n = rate * m.start + length (frame_of m.content) + w.rate * n + wire_bits 2 ≤ w.rate * w.cycle

    pub last_late : IsFramed m.content → IsLateMdt w rate m
    last_late framed = record {
      framed = framed;
      layout = let long = length_records records w.drives slots.records in
          joint_so m.content (record_bytes w.drives) (ap (λ (l : List ℕ). length l) content_is ∙ omega (arith, long)) (ap (λ (l : List ℕ). slice_index l 0) content_is);
      after_mst = slots.after_mst.1;
      room = let all = within in omega (arith, all);
    }
      where
        within : Fits (max w.gap (greatest_tmtsy w))
        within = both_max Fits w.gap (greatest_tmtsy w) slots.room (greatest_so Fits (λ k. (times w k).tmtsy) w.order (length w.order) (length w.drives) valid.order.within (omega arith)
            (let g : Fits w.gap = slots.room in omega (arith, g)) slots.room_of_each)

-- an MDT is sent
pub sends_one : (w : WishesView) (rate : ℕ) (held : ℕ → Option Held) (records : List (List ℕ)) (mst : List ℕ) (ats : List Said) (o : Option Sent) → IsApart w held records (sent_mst mst ∷ ats_said rate ats ++ sent_mdt rate o) → (m : Sent) × (o ≡ Some m)
sends_one w rate held records mst ats None apart = absurd (let same : [] ≡ apart.mdt ∷ [] = sym (mdts_are rate mst ats None) ∙ apart.one_mdt in cc)
sends_one w rate held records mst ats (Some m) apart = (m, refl)
