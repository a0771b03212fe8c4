-- What the test of valid wishes tells.
use Rattle.std.proofs.Common.{◌≡◌, ◌≢◌, ℕ, zero, suc, ◌<◌, ◌≤◌, ◌%◌, ◌⊎◌, inl, inr, ◌==◌, nat_le, Bool, true, false, not, ◌&&◌, ◌||◌, List, [], ◌∷◌, length, slice_index, slice_index_or, refl, sym, ◌∙◌, arith}
use Rattle.std.specs.List.{list_all, list_any}
use Rattle.std.proofs.lemmas.Bool.{false≢true, leb-true, le-leb, eqb-true, eq-eqb, or_parts, not-true, or_cases, and_parts, and_from}
use Rattle.sercos_timing.specs.declared.wishes.Wish.{Wish}
use Rattle.sercos_timing.specs.Views.{WishesView}
use Rattle.sercos_timing.specs.Limits.{most_drives, most_address, least_cycle, cycle_unit, most_cycle}
use Rattle.sercos_timing.specs.Order.{no_wish}
use Rattle.sercos_timing.specs.Valid.{AreDistinct, AreBelow, addresses, IsWish, AreDrives, IsOrder, is_rate, is_cycle, IsCycle, is_control, AreCycles, IsValid}
use Rattle.sercos_timing.specs.Tests.{are_distinct, are_below, is_wish, are_drives, is_order, are_cycles, is_valid, TellsValid}

left : (a b : Bool) → a ≡ true → (a || b) ≡ true
left a b e = rw e refl

right : (a b : Bool) → b ≡ true → (a || b) ≡ true
right true b e = refl
right false b e = e

not_true : (a : Bool) → a ≡ false → not a ≡ true
not_true a e = rw e refl

-- a number that differs from each of a list
differs : (x : ℕ) (xs : List ℕ) → list_any (λ y. x == y) xs ≡ false → (i : ℕ) → i < length xs → x ≢ slice_index xs i
differs x [] none i inside = absurd (omega (arith, inside))
differs x (y ∷ ys) none zero inside = λ same. false≢true (sym (or_parts _ _ none).0 ∙ eq-eqb x y same)
differs x (y ∷ ys) none (suc i) inside = differs x ys (or_parts _ _ none).1 i (omega (arith, inside))

none_same : (x : ℕ) (xs : List ℕ) → ((i : ℕ) → i < length xs → x ≢ slice_index xs i) → list_any (λ y. x == y) xs ≡ false
none_same x [] apart = refl
none_same x (y ∷ ys) apart = by (x == y) refl (none_same x ys (λ i inside. apart (suc i) (omega (arith, inside))))
  where
    by : (b : Bool) → (x == y) ≡ b → list_any (λ z. x == z) ys ≡ false → list_any (λ z. x == z) (y ∷ ys) ≡ false
    by true e rest = absurd (apart zero (omega arith) (eqb-true x y e))
    by false e rest = rw e rest

distinct_by : (xs : List ℕ) → are_distinct xs ≡ true → AreDistinct xs
distinct_by [] e i j below inside = absurd (omega (arith, inside))
distinct_by (x ∷ xs) e i zero below inside = absurd (omega (arith, below))
distinct_by (x ∷ xs) e zero (suc j) below inside = differs x xs (not-true _ (and_parts _ _ e).0) j (omega (arith, inside))
distinct_by (x ∷ xs) e (suc i) (suc j) below inside = distinct_by xs (and_parts _ _ e).1 i j (omega (arith, below)) (omega (arith, inside))

test_distinct : (xs : List ℕ) → AreDistinct xs → are_distinct xs ≡ true
test_distinct [] apart = refl
test_distinct (x ∷ xs) apart =
    and_from _ _ (not_true _ (none_same x xs (λ i inside. apart zero (suc i) (omega arith) (omega (arith, inside)))))
    (test_distinct xs (λ i j below inside. apart (suc i) (suc j) (omega (arith, below)) (omega (arith, inside))))

below_by : (xs : List ℕ) (limit : ℕ) → are_below xs limit ≡ true → AreBelow xs limit
below_by [] limit e i inside = absurd (omega (arith, inside))
below_by (x ∷ xs) limit e zero inside = leb-true _ _ (and_parts _ _ e).0
below_by (x ∷ xs) limit e (suc i) inside = below_by xs limit (and_parts _ _ e).1 i (omega (arith, inside))

test_below : (xs : List ℕ) (limit : ℕ) → AreBelow xs limit → are_below xs limit ≡ true
test_below [] limit all = refl
test_below (x ∷ xs) limit all =
    and_from _ _ (le-leb _ _ (all zero (omega arith))) (test_below xs limit (λ i inside. all (suc i) (omega (arith, inside))))

-- a number between two
between : (low n high : ℕ) → (nat_le low n && nat_le n high) ≡ true → (low ≤ n) × (n ≤ high)
between low n high e = (leb-true _ _ (and_parts _ _ e).0, leb-true _ _ (and_parts _ _ e).1)

test_between : (low n high : ℕ) → low ≤ n → n ≤ high → (nat_le low n && nat_le n high) ≡ true
test_between low n high least most = and_from _ _ (le-leb _ _ least) (le-leb _ _ most)

wish_by : (d : Wish) → is_wish d ≡ true → IsWish d
wish_by d e = let b = and_parts _ _ e in let c = and_parts _ _ b.1 in
    record { address = between 1 d.address most_address b.0; at_len = between 4 d.at_len 68 c.0; record_len = between 4 d.record_len 68 c.1 }

test_wish : (d : Wish) → IsWish d → is_wish d ≡ true
test_wish d w =
    and_from _ _ (test_between 1 d.address most_address w.address.0 w.address.1)
    (and_from _ _ (test_between 4 d.at_len 68 w.at_len.0 w.at_len.1) (test_between 4 d.record_len 68 w.record_len.0 w.record_len.1))

wishes_all : (drives : List Wish) → list_all is_wish drives ≡ true → (k : ℕ) → k < length drives → IsWish (slice_index_or drives k no_wish)
wishes_all [] e k inside = absurd (omega (arith, inside))
wishes_all (d ∷ drives) e zero inside = wish_by d (and_parts _ _ e).0
wishes_all (d ∷ drives) e (suc k) inside = wishes_all drives (and_parts _ _ e).1 k (omega (arith, inside))

test_wishes : (drives : List Wish) → ((k : ℕ) → k < length drives → IsWish (slice_index_or drives k no_wish)) → list_all is_wish drives ≡ true
test_wishes [] all = refl
test_wishes (d ∷ drives) all =
    and_from _ _ (test_wish d (all zero (omega arith))) (test_wishes drives (λ k inside. all (suc k) (omega (arith, inside))))

drives_by : (w : WishesView) → are_drives w ≡ true → AreDrives w
drives_by w e = let b = and_parts _ _ e in let c = and_parts _ _ b.1 in let d = and_parts _ _ c.1 in let n = between 1 (length w.drives) most_drives b.0 in
    record { some = n.0; few = n.1; wishes = wishes_all w.drives c.0; apart = distinct_by (addresses w.drives) d.0; mdt_len = leb-true _ _ d.1 }

test_drives : (w : WishesView) → AreDrives w → are_drives w ≡ true
test_drives w is =
    and_from _ _ (test_between 1 (length w.drives) most_drives is.some is.few)
    (and_from _ _ (test_wishes w.drives is.wishes) (and_from _ _ (test_distinct (addresses w.drives) is.apart) (le-leb _ _ is.mdt_len)))

order_by : (order : List ℕ) (drives : ℕ) → is_order order drives ≡ true → IsOrder order drives
order_by order drives e = let b = and_parts _ _ e in let c = and_parts _ _ b.1 in
    record { count = eqb-true _ _ b.0; within = below_by order drives c.0; once = distinct_by order c.1 }

test_order : (order : List ℕ) (drives : ℕ) → IsOrder order drives → is_order order drives ≡ true
test_order order drives is = and_from _ _ (eq-eqb _ _ is.count) (and_from _ _ (test_below order drives is.within) (test_distinct order is.once))

rate_by : (rate : ℕ) → is_rate rate ≡ true → (rate ≡ 2) ⊎ (rate ≡ 4) ⊎ (rate ≡ 8) ⊎ (rate ≡ 16)
unfolding is_rate
rate_by rate e = first (or_cases _ _ e)
  where
    third : ((rate == 8) ≡ true) ⊎ ((rate == 16) ≡ true) → (rate ≡ 2) ⊎ (rate ≡ 4) ⊎ (rate ≡ 8) ⊎ (rate ≡ 16)
    third (inl t) = inr (inr (inl (eqb-true _ _ t)))
    third (inr t) = inr (inr (inr (eqb-true _ _ t)))

    second : ((rate == 4) ≡ true) ⊎ (((rate == 8) || (rate == 16)) ≡ true) → (rate ≡ 2) ⊎ (rate ≡ 4) ⊎ (rate ≡ 8) ⊎ (rate ≡ 16)
    second (inl t) = inr (inl (eqb-true _ _ t))
    second (inr t) = third (or_cases _ _ t)

    first : ((rate == 2) ≡ true) ⊎ (((rate == 4) || ((rate == 8) || (rate == 16))) ≡ true) → (rate ≡ 2) ⊎ (rate ≡ 4) ⊎ (rate ≡ 8) ⊎ (rate ≡ 16)
    first (inl t) = inl (eqb-true _ _ t)
    first (inr t) = second (or_cases _ _ t)

test_rate : (rate : ℕ) → (rate ≡ 2) ⊎ (rate ≡ 4) ⊎ (rate ≡ 8) ⊎ (rate ≡ 16) → is_rate rate ≡ true
unfolding is_rate
test_rate rate (inl e) = rw e refl
test_rate rate (inr (inl e)) = rw e refl
test_rate rate (inr (inr (inl e))) = rw e refl
test_rate rate (inr (inr (inr e))) = rw e refl

cycle_by : (cycle : ℕ) → is_cycle cycle ≡ true → IsCycle cycle
unfolding is_cycle
cycle_by cycle e = by (or_cases _ _ e)
  where
    by : ((cycle == least_cycle) ≡ true) ⊎ ((nat_le cycle_unit cycle && (nat_le cycle most_cycle && (cycle % cycle_unit == 0))) ≡ true) → IsCycle cycle
    by (inl t) = inl (eqb-true _ _ t)
    by (inr t) = inr (leb-true _ _ (and_parts _ _ t).0, leb-true _ _ (and_parts _ _ (and_parts _ _ t).1).0, eqb-true _ _ (and_parts _ _ (and_parts _ _ t).1).1)

test_cycle : (cycle : ℕ) → IsCycle cycle → is_cycle cycle ≡ true
unfolding is_cycle
test_cycle cycle (inl e) = left _ _ (eq-eqb _ _ e)
test_cycle cycle (inr e) = right _ _ (and_from _ _ (le-leb _ _ e.0) (and_from _ _ (le-leb _ _ e.1) (eq-eqb _ _ e.2)))

control_by : (cycle control : ℕ) → is_control cycle control ≡ true → (1 ≤ control) × (control % cycle ≡ 0)
unfolding is_control
control_by cycle control e = (leb-true _ _ (and_parts _ _ e).0, eqb-true _ _ (and_parts _ _ e).1)

test_control : (cycle control : ℕ) → (1 ≤ control) × (control % cycle ≡ 0) → is_control cycle control ≡ true
unfolding is_control
test_control cycle control is = and_from _ _ (le-leb _ _ is.0) (eq-eqb _ _ is.1)

cycles_by : (w : WishesView) → are_cycles w ≡ true → AreCycles w
cycles_by w e = let b = and_parts _ _ e in let c = and_parts _ _ b.1 in let d = and_parts _ _ c.1 in
    record { rate = rate_by w.rate b.0; cycle = cycle_by w.cycle c.0; control = control_by w.cycle w.control d.0; gap = leb-true _ _ d.1 }

test_cycles : (w : WishesView) → AreCycles w → are_cycles w ≡ true
test_cycles w is =
    and_from _ _ (test_rate w.rate is.rate)
    (and_from _ _ (test_cycle w.cycle is.cycle) (and_from _ _ (test_control w.cycle w.control is.control) (le-leb _ _ is.gap)))

valid_by : (w : WishesView) → is_valid w ≡ true → IsValid w
unfolding is_valid
valid_by w e = let b = and_parts _ _ e in let c = and_parts _ _ b.1 in
    record { drives = drives_by w b.0; order = order_by w.order (length w.drives) c.0; cycles = cycles_by w c.1 }

test_valid : (w : WishesView) → IsValid w → is_valid w ≡ true
unfolding is_valid
test_valid w is = and_from _ _ (test_drives w is.drives) (and_from _ _ (test_order w.order (length w.drives) is.order) (test_cycles w is.cycles))

pub tells_valid : TellsValid
tells_valid w = (valid_by w, test_valid w)
