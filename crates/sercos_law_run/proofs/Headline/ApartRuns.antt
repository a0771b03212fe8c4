-- In a cycle commanded 3 or 4 the telegrams are apart.
use Rattle.sercos_law_run.proofs.Words.{◌≡◌, ◌⊎◌, inl, inr, ℕ, zero, suc, ◌*◌, ◌<◌, ◌≤◌, true, false, List, [], ◌∷◌, map, length, Some, refl, ap, subst, arith, ◌-◌, nat_lt, slice_index, pos, ◌+ℤ◌, All, AllPairs, nat_tests, All-nil, All-cons, AllPairs-cons, frame_of, fields, WishesView, wish, DriveView, DriveCall, Moment, phase_in, cycle_in, has_mst, has_taken, blocks_in, commands_in, records_in, Said, said_in, shown_word, values_in, start_in, Shown, channel_says, AtSlot, IsSentBefore, AreAtsOf, start_before, ats_said}
use Rattle.sercos_law_run.proofs.Headline.Placed.{Placed, IsPlaced, ArePlaced, ComesBefore, AreBehind, AreOrdered}
use Rattle.sercos_law_run.proofs.Views.Coupled.{sends_so}
use Rattle.sercos_law_run.proofs.Journal.StationLemmas.{says_that}

-- an MST ends at 0
pub ends_at_0 : (n : ℕ) → start_before n +ℤ pos n ≡ pos 0
ends_at_0 zero = refl
ends_at_0 (suc n) =
    let less : nat_lt (suc n) (suc n) ≡ false = grind (arith, nat_tests) in
    let none : suc n - suc n ≡ 0 = omega arith in
    rw (less, none) refl

-- the slot of an AT
abbrev pub slot_of : ℕ → Placed → AtSlot
slot_of rate x = record { drive = x.place; start = rate * x.says.start; bits = length (frame_of x.says.content) }

pub all_slots : (P : AtSlot → Type 0) (rate : ℕ) (n : ℕ) (d : ℕ → DriveView) (h : ℕ → List DriveCall) (others : List Placed) → ArePlaced n d rate h others → ((x : Placed) → IsPlaced n d rate h x → P (slot_of rate x)) → All P (map (slot_of rate) others)
all_slots P rate n d h [] are each = All-nil P
all_slots P rate n d h (x ∷ others) (one, are) each = All-cons P (slot_of rate x) (map (slot_of rate) others) (each x one) (all_slots P rate n d h others are each)

-- a rate is positive, so starts keep their order
ordered_start : (rate a b : ℕ) → (rate ≡ 2) ⊎ (rate ≡ 4) ⊎ (rate ≡ 8) ⊎ (rate ≡ 16) → a < b → rate * a < rate * b
ordered_start rate a b (inl is) less = rw is (omega (arith, less))
ordered_start rate a b (inr (inl is)) less = rw is (omega (arith, less))
ordered_start rate a b (inr (inr (inl is))) less = rw is (omega (arith, less))
ordered_start rate a b (inr (inr (inr is))) less = rw is (omega (arith, less))

slots_behind : (rate : ℕ) → (rate ≡ 2) ⊎ (rate ≡ 4) ⊎ (rate ≡ 8) ⊎ (rate ≡ 16) → (a : Placed) (others : List Placed) → AreBehind a others → All (IsSentBefore (slot_of rate a)) (map (slot_of rate) others)
slots_behind rate is a [] are = All-nil (IsSentBefore (slot_of rate a))
slots_behind rate is a (b ∷ others) (first, are) = All-cons (IsSentBefore (slot_of rate a)) (slot_of rate b) (map (slot_of rate) others) (by first) (slots_behind rate is a others are)
  where
    by : ComesBefore a b → IsSentBefore (slot_of rate a) (slot_of rate b)
    by (inl less) = inl (ordered_start rate a.says.start b.says.start is less)
    by (inr (same, low)) = inr (ap (λ (n : ℕ). rate * n) same, low)

pub slots_ordered : (rate : ℕ) → (rate ≡ 2) ⊎ (rate ≡ 4) ⊎ (rate ≡ 8) ⊎ (rate ≡ 16) → (others : List Placed) → AreOrdered others → AllPairs IsSentBefore (map (slot_of rate) others)
slots_ordered rate is [] are = λ i j d low within. absurd (omega (arith, within))
slots_ordered rate is (a ∷ others) (behind, are) = AllPairs-cons IsSentBefore (slot_of rate a) (map (slot_of rate) others) (slots_behind rate is a others behind) (slots_ordered rate is others are)

-- WHAT A DRIVE SENDS
pub record Sends (d : DriveView) (past : List Moment) (s : Said) : Type 0 where
  pub got : has_mst past ≡ true
  pub stands : 1 ≤ phase_in past
  pub start : s.start ≡ start_in (phase_in past) (blocks_in d past)
  pub word : ℕ
  pub info : ℕ
  pub content : s.content ≡ d.address ∷ fields word info (values_in (cycle_in past) (phase_in past) (blocks_in d past))

pub sent_by : (d : DriveView) (rate : ℕ) (past : List Moment) (s : Said) → said_in d rate past ≡ Some s → Sends d past s
sent_by d rate past s is =
    let shows : Shown = channel_says d.busy (cycle_in past) (commands_in d rate past) (records_in past) in
    let (sent, same) = says_that d rate past s is in
    let (got, stands) = sends_so (has_mst past) (has_taken past) (phase_in past) sent in
    subst (λ x. Sends d past x) same (record { got = got; stands = stands; start = refl; word = shown_word shows; info = shows.word; content = refl })

-- the ATs that are sent in these slots
pub ats_sent : (w : WishesView) (rate : ℕ) (n : ℕ) (d : ℕ → DriveView) (h : ℕ → List DriveCall) (others : List Placed) → ArePlaced n d rate h others
    → ((x : Placed) → IsPlaced n d rate h x → (slice_index x.says.content 0 ≡ (wish w x.place).address) × (x.place < length w.drives))
    → AreAtsOf w (ats_said rate (map (λ (x : Placed). x.says) others)) (map (slot_of rate) others)
ats_sent w rate n d h [] are each = tt
ats_sent w rate n d h (x ∷ others) (one, are) each = let (address, inside) = each x one in ((refl, refl, refl, address, inside), ats_sent w rate n d h others are each)
