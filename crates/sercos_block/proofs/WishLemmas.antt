-- What a valid ring asks of its plan may be asked.
use Rattle.std.proofs.Common.{◌≡◌, ◌≢◌, ℕ, zero, suc, ◌+◌, ◌<◌, ◌≤◌, ◌%◌, ◌==◌, ◌⊎◌, inl, inr, nat_lt, nat_le, Bool, true, false, ◌&&◌, ◌||◌, not, List, [], ◌∷◌, ◌++◌, length, map, slice_index, slice_index_or, sum_by, refl, sym, ◌∙◌, ap, arith}
use Rattle.std.specs.List.{list_any, All, fold}
use Rattle.std.proofs.lemmas.Bool.{and_parts, or_parts, not-true, or_cases}
use Rattle.std.proofs.lemmas.Bool.Decides.{nat_tests}
use Rattle.std.proofs.lemmas.List.Elements.{All-tail}
use Rattle.sercos_timing.specs.declared.wishes.Wish.{Wish}
use Rattle.sercos_timing.specs.Order.{no_wish, record_bytes}
use Rattle.sercos_timing.specs.Limits.{most_drives, most_address, most_records, most_cycle, most_gap}
use Rattle.sercos_timing.specs.Valid.{AreDistinct, addresses, IsWish, AreDrives, IsOrder, is_rate, AreCycles, IsValid, is_cycle, is_control, is_address}
use Rattle.sercos_block.specs.Views.{DriveView, RingView}
use Rattle.sercos_block.specs.Rings.{HasLens, are_ring_numbers, has_ring_numbers, are_drive_numbers, has_drive_numbers, has_address, is_drive, are_drives, is_turn, are_turns, is_order, has_drives, is_ring, mdt_len, record_len, wish_of, wishes_of}

-- a test of some element of a list with one more at its end
any_appended : {A : Type 0} (p : A → Bool) (xs : List A) (x : A) → list_any p (xs ++ x ∷ []) ≡ (list_any p xs || p x)
any_appended p [] x = by (p x)
  where
    by : (b : Bool) → (b || false) ≡ (false || b)
    by true = refl
    by false = refl
any_appended p (y ∷ xs) x = rw (any_appended p xs x) (by (p y) (list_any p xs) (p x))
  where
    by : (a b c : Bool) → (a || (b || c)) ≡ ((a || b) || c)
    by true b c = refl
    by false b c = refl

apart_from : (a b : ℕ) → (a == b) ≡ false → a ≢ b
apart_from a b h e = absurd (grind (arith, nat_tests))

-- the order: each place is one of the drives', and none stands before
turn_at : (drives : ℕ) (before order : List ℕ) → are_turns drives before order ≡ true → (i : ℕ) → i < length order
    → (slice_index order i < drives) × (list_any (λ k. k == slice_index order i) before ≡ false)
unfolding are_turns is_turn
turn_at drives before [] ok i in' = absurd (omega arith)
turn_at drives before (place ∷ order) ok zero in' =
    let (here, rest) = and_parts (is_turn drives before place) (are_turns drives (before ++ place ∷ []) order) ok in
    let (below, new) = and_parts (nat_lt place drives) (not (list_any (λ k. k == place) before)) here in
    (grind (arith, nat_tests), not-true _ new)
turn_at drives before (place ∷ order) ok (suc i) in' =
    let (here, rest) = and_parts (is_turn drives before place) (are_turns drives (before ++ place ∷ []) order) ok in
    let (below, new) = turn_at drives (before ++ place ∷ []) order rest i (omega arith) in
    (below, (or_parts _ _ (sym (any_appended (λ k. k == slice_index order i) before place) ∙ new)).0)

turns_apart : (drives : ℕ) (before order : List ℕ) → are_turns drives before order ≡ true → AreDistinct order
unfolding are_turns
turns_apart drives before [] ok i j less in' = absurd (omega arith)
turns_apart drives before (place ∷ order) ok i zero less in' = absurd (omega arith)
turns_apart drives before (place ∷ order) ok zero (suc j) less in' =
    let (here, rest) = and_parts (is_turn drives before place) (are_turns drives (before ++ place ∷ []) order) ok in
    let (below, new) = turn_at drives (before ++ place ∷ []) order rest j (omega arith) in
    apart_from place (slice_index order j) (or_parts _ _ (sym (any_appended (λ k. k == slice_index order j) before place) ∙ new)).1
turns_apart drives before (place ∷ order) ok (suc i) (suc j) less in' =
    let (here, rest) = and_parts (is_turn drives before place) (are_turns drives (before ++ place ∷ []) order) ok in
    turns_apart drives (before ++ place ∷ []) order rest i j (omega arith) (omega arith)

pub IsOrder-is_order : (drives : ℕ) (order : List ℕ) → is_order drives order ≡ true → IsOrder order drives
unfolding is_order
IsOrder-is_order drives order ok =
    let (count, turns) = and_parts (length order == drives) (are_turns drives [] order) ok in
    record {
      count = grind (arith, nat_tests);
      within = λ i in'. (turn_at drives [] order turns i in').0;
      once = turns_apart drives [] order turns;
    }

-- the drives: each has an address, which none before it has
drive_at : (before drives : List DriveView) → are_drives before drives ≡ true → All HasLens (map wish_of drives) → (k : ℕ) → k < length (map wish_of drives)
    → IsWish (slice_index_or (map wish_of drives) k no_wish)
unfolding are_drives is_drive are_drive_numbers
drive_at before [] ok lens k in' = absurd (omega arith)
drive_at before (d ∷ drives) ok lens zero in' =
    let (here, rest) = and_parts (is_drive before d) (are_drives (before ++ d ∷ []) drives) ok in
    let (_, numbers) = and_parts (not (has_address d.address before)) _ here in
    let (numbers', _) = and_parts (has_drive_numbers d) _ numbers in
    let (address, _) = and_parts (is_address d.address) _ numbers' in
    let (low, high) = and_parts (nat_le 1 d.address) (nat_le d.address most_address) address in
    let lens' : HasLens (wish_of d) = lens 0 no_wish (omega arith) in
    record { address = (grind (arith, nat_tests), grind (arith, nat_tests)); at_len = (lens'.0, lens'.1); record_len = (lens'.2, lens'.3) }
drive_at before (d ∷ drives) ok lens (suc k) in' =
    let (here, rest) = and_parts (is_drive before d) (are_drives (before ++ d ∷ []) drives) ok in
    drive_at (before ++ d ∷ []) drives rest (All-tail HasLens (wish_of d) (map wish_of drives) lens) k (omega arith)

address_new : (before drives : List DriveView) → are_drives before drives ≡ true → (k : ℕ) → k < length (addresses (map wish_of drives))
    → has_address (slice_index (addresses (map wish_of drives)) k) before ≡ false
unfolding are_drives is_drive has_address
address_new before [] ok k in' = absurd (omega arith)
address_new before (d ∷ drives) ok zero in' =
    let (here, rest) = and_parts (is_drive before d) (are_drives (before ++ d ∷ []) drives) ok in
    not-true _ (and_parts (not (has_address d.address before)) _ here).0
address_new before (d ∷ drives) ok (suc k) in' =
    let (here, rest) = and_parts (is_drive before d) (are_drives (before ++ d ∷ []) drives) ok in
    let new = address_new (before ++ d ∷ []) drives rest k (omega arith) in
    (or_parts _ _ (sym (any_appended (λ (e : DriveView). e.address == slice_index (addresses (map wish_of drives)) k) before d) ∙ new)).0

pub addresses_apart : (before drives : List DriveView) → are_drives before drives ≡ true → AreDistinct (addresses (map wish_of drives))
unfolding are_drives has_address
addresses_apart before [] ok i j less in' = absurd (omega arith)
addresses_apart before (d ∷ drives) ok i zero less in' = absurd (omega arith)
addresses_apart before (d ∷ drives) ok zero (suc j) less in' =
    let (here, rest) = and_parts (is_drive before d) (are_drives (before ++ d ∷ []) drives) ok in
    let new = address_new (before ++ d ∷ []) drives rest j (omega arith) in
    apart_from d.address _ (or_parts _ _ (sym (any_appended (λ (e : DriveView). e.address == slice_index (addresses (map wish_of drives)) j) before d) ∙ new)).1
addresses_apart before (d ∷ drives) ok (suc i) (suc j) less in' =
    let (here, rest) = and_parts (is_drive before d) (are_drives (before ++ d ∷ []) drives) ok in
    addresses_apart (before ++ d ∷ []) drives rest i j (omega arith) (omega arith)

pub length_wishes : (drives : List DriveView) → length (map wish_of drives) ≡ length drives
length_wishes [] = refl
length_wishes (d ∷ drives) = ap suc (length_wishes drives)

sum_from : (a : ℕ) (drives : List DriveView) → fold (λ (n : ℕ) (w : Wish). n + w.record_len) a (map wish_of drives) ≡ fold (λ (n : ℕ) (d : DriveView). n + record_len d) a drives
sum_from a [] = refl
sum_from a (d ∷ drives) = sum_from (a + record_len d) drives

sum_wishes : (drives : List DriveView) → record_bytes (map wish_of drives) ≡ sum_by record_len drives
sum_wishes drives = sum_from 0 drives

-- the ring's numbers
pub AreCycles-has_ring_numbers : (r : RingView) → has_ring_numbers r ≡ true → AreCycles (wishes_of r)
unfolding are_ring_numbers is_rate is_cycle is_control wishes_of
AreCycles-has_ring_numbers r ok =
    let (rate, rest) = and_parts (is_rate r.rate) _ ok in
    let (cycle, rest2) = and_parts (is_cycle r.cycle) _ rest in
    let (control, rest3) = and_parts (is_control r.cycle r.control) _ rest2 in
    let (_, rest4) = and_parts (nat_le r.control most_cycle) _ rest3 in
    let (gap, _) = and_parts (nat_le r.gap most_gap) _ rest4 in
    let (some, multiple) = and_parts (nat_le 1 r.control) (r.control % r.cycle == 0) control in
    record {
      rate = rates r.rate (or_cases (r.rate == 2) _ rate);
      cycle = cycles r.cycle (or_cases (r.cycle == 125) _ cycle);
      control = (grind (arith, nat_tests), grind (arith, nat_tests));
      gap = grind (arith, nat_tests);
    }
  where
    last : (rate : ℕ) → ((rate == 8) ≡ true) ⊎ ((rate == 16) ≡ true) → (rate ≡ 8) ⊎ (rate ≡ 16)
    last rate (inl e) = inl (grind (arith, nat_tests))
    last rate (inr e) = inr (grind (arith, nat_tests))

    next : (rate : ℕ) → ((rate == 4) ≡ true) ⊎ (((rate == 8) || (rate == 16)) ≡ true) → (rate ≡ 4) ⊎ (rate ≡ 8) ⊎ (rate ≡ 16)
    next rate (inl e) = inl (grind (arith, nat_tests))
    next rate (inr e) = inr (last rate (or_cases (rate == 8) _ e))

    rates : (rate : ℕ) → ((rate == 2) ≡ true) ⊎ (((rate == 4) || ((rate == 8) || (rate == 16))) ≡ true) → (rate ≡ 2) ⊎ (rate ≡ 4) ⊎ (rate ≡ 8) ⊎ (rate ≡ 16)
    rates rate (inl e) = inl (grind (arith, nat_tests))
    rates rate (inr e) = inr (next rate (or_cases (rate == 4) _ e))

    cycles : (cycle : ℕ) → ((cycle == 125) ≡ true) ⊎ ((nat_le 250 cycle && (nat_le cycle 64000 && (cycle % 250 == 0))) ≡ true)
        → (cycle ≡ 125) ⊎ ((250 ≤ cycle) × (cycle ≤ 64000) × (cycle % 250 ≡ 0))
    cycles cycle (inl e) = inl (grind (arith, nat_tests))
    cycles cycle (inr e) =
        let (low, rest) = and_parts (nat_le 250 cycle) _ e in
        let (high, whole) = and_parts (nat_le cycle 64000) (cycle % 250 == 0) rest in
        inr (grind (arith, nat_tests), grind (arith, nat_tests), grind (arith, nat_tests))

AreDrives-has_drives : (r : RingView) → has_drives r ≡ true → All HasLens (map wish_of r.drives) → AreDrives (wishes_of r)
unfolding has_drives mdt_len wishes_of
AreDrives-has_drives r ok lens =
    let (some, rest) = and_parts (nat_le 1 (length r.drives)) _ ok in
    let (few, rest2) = and_parts (nat_le (length r.drives) most_drives) _ rest in
    let (drives, len) = and_parts (are_drives [] r.drives) (nat_le (mdt_len r.drives) most_records) rest2 in
    let count = length_wishes r.drives in
    let sum = sum_wishes r.drives in
    let most : sum_by record_len r.drives ≤ most_records = grind (arith, nat_tests) in
    record {
      some = rw count (grind (arith, nat_tests));
      few = rw count (grind (arith, nat_tests));
      wishes = drive_at [] r.drives drives lens;
      apart = addresses_apart [] r.drives drives;
      mdt_len = rw sum most;
    }

pub IsValid-wishes_of : (r : RingView) → is_ring r ≡ true → All HasLens (map wish_of r.drives) → IsValid (wishes_of r)
unfolding is_ring wishes_of
IsValid-wishes_of r ok lens =
    let (numbers, rest) = and_parts (has_ring_numbers r) _ ok in
    let (drives, order) = and_parts (has_drives r) (is_order (length r.drives) r.order) rest in
    record {
      drives = AreDrives-has_drives r drives lens;
      order = rw (length_wishes r.drives) (IsOrder-is_order (length r.drives) r.order order);
      cycles = AreCycles-has_ring_numbers r numbers;
    }

pub IsValid-asked : (inside r : RingView) {order order' : List ℕ} {drives : List DriveView} {wishes : List Wish} → inside ≡ r → is_ring r ≡ true
    → order' ≡ inside.order → order ≡ order' → drives ≡ inside.drives → wishes ≡ map wish_of drives → All HasLens wishes
    → IsValid (record { rate = inside.rate; cycle = inside.cycle; control = inside.control; gap = inside.gap; order = order; drives = wishes })
unfolding wishes_of
IsValid-asked inside r {order} {order'} {drives} {wishes} seen ok at_order copied at_drives made lens =
    let lens' : All HasLens (map wish_of r.drives) = rw (made, at_drives, seen) at lens in
    rw (copied, at_order, made, at_drives, seen) (IsValid-wishes_of r ok lens')
