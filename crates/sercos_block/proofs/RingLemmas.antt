-- A ring that keeps the rules has drives that can be told apart, and an order of them.
use Rattle.std.proofs.Common.{◌≡◌, ℕ, nat_le, true, not, List, [], ◌∷◌, ◌++◌, length, map, refl, ap, arith, subst}
use Rattle.std.specs.List.{All}
use Rattle.std.proofs.lemmas.Bool.{and_parts, leb-true}
use Rattle.std.proofs.lemmas.Bool.Decides.{nat_tests}
use Rattle.std.proofs.lemmas.List.Elements.{All-nil, All-cons}
use Rattle.sercos_timing.specs.Limits.{most_drives, most_address, most_records, most_t1min, most_tatmt, most_t4min, most_tatat, most_tmtsy, most_tmtsg}
use Rattle.sercos_timing.specs.Valid.{IsAddress, AreDistinct, addresses, is_address}
use Rattle.sercos_timing.specs.declared.wishes.Times.{Times}
use Rattle.sercos_block.specs.Limits.{most_busy, most_command}
use Rattle.sercos_block.specs.Views.{DriveView, RingView}
use Rattle.sercos_block.specs.Rings.{has_ring_numbers, are_times, has_drive_numbers, are_drive_numbers, has_address, is_drive, are_drives, is_order, has_drives, is_ring, mdt_len, wish_of}
use Rattle.sercos_block.specs.ValidRings.{AreWithinLimits, IsRing}
use Rattle.sercos_block.proofs.WishLemmas.{IsOrder-is_order, addresses_apart, AreCycles-has_ring_numbers}

abbrev HasAddress : DriveView → Type 0
HasAddress d = IsAddress d.address

each_address : (before drives : List DriveView) → are_drives before drives ≡ true → All HasAddress drives
unfolding are_drives is_drive are_drive_numbers
each_address before [] ok = All-nil HasAddress
each_address before (d ∷ drives) ok =
    let (here, rest) = and_parts (is_drive before d) (are_drives (before ++ d ∷ []) drives) ok in
    let (_, numbers) = and_parts (not (has_address d.address before)) _ here in
    let (numbers', _) = and_parts (has_drive_numbers d) _ numbers in
    let (address, _) = and_parts (is_address d.address) _ numbers' in
    let (low, high) = and_parts (nat_le 1 d.address) (nat_le d.address most_address) address in
    let within : HasAddress d = (grind (arith, nat_tests), grind (arith, nat_tests)) in
    All-cons HasAddress d drives within (each_address (before ++ d ∷ []) drives rest)

abbrev DeclaresWithin : DriveView → Type 0
DeclaresWithin d = AreWithinLimits d.times

within_limits : (t : Times) → are_times t ≡ true → AreWithinLimits t
unfolding are_times
within_limits t ok =
    let (t1min, rest) = and_parts (nat_le t.t1min most_t1min) _ ok in
    let (tatmt, rest2) = and_parts (nat_le t.tatmt most_tatmt) _ rest in
    let (t4min, rest3) = and_parts (nat_le t.t4min most_t4min) _ rest2 in
    let (tatat, rest4) = and_parts (nat_le t.tatat most_tatat) _ rest3 in
    let (tmtsy, tmtsg) = and_parts (nat_le t.tmtsy most_tmtsy) (nat_le t.tmtsg most_tmtsg) rest4 in
    record {
      t1min = leb-true _ _ t1min;
      tatmt = leb-true _ _ tatmt;
      t4min = leb-true _ _ t4min;
      tatat = leb-true _ _ tatat;
      tmtsy = leb-true _ _ tmtsy;
      tmtsg = leb-true _ _ tmtsg;
    }

each_times : (before drives : List DriveView) → are_drives before drives ≡ true → All DeclaresWithin drives
unfolding are_drives is_drive are_drive_numbers
each_times before [] ok = All-nil DeclaresWithin
each_times before (d ∷ drives) ok =
    let (here, rest) = and_parts (is_drive before d) (are_drives (before ++ d ∷ []) drives) ok in
    let (_, numbers) = and_parts (not (has_address d.address before)) _ here in
    let (numbers', _) = and_parts (has_drive_numbers d) _ numbers in
    let (_, slave) = and_parts (is_address d.address) _ numbers' in
    let (_, busy) = and_parts (is_address d.slave) _ slave in
    let (_, command) = and_parts (nat_le d.busy most_busy) _ busy in
    let (_, times) = and_parts (nat_le d.command most_command) _ command in
    let (times', _) = and_parts (are_times d.times) _ times in
    All-cons DeclaresWithin d drives (within_limits d.times times') (each_times (before ++ d ∷ []) drives rest)

addresses_are : (drives : List DriveView) → addresses (map wish_of drives) ≡ map (λ d. d.address) drives
addresses_are [] = refl
addresses_are (d ∷ drives) = ap (λ (xs : List ℕ). d.address ∷ xs) (addresses_are drives)

pub IsRing-is_ring : (r : RingView) → is_ring r ≡ true → IsRing r
unfolding is_ring has_drives
IsRing-is_ring r ok =
    let (numbers, rest) = and_parts (has_ring_numbers r) _ ok in
    let (drives, order) = and_parts (has_drives r) (is_order (length r.drives) r.order) rest in
    let (some, rest2) = and_parts (nat_le 1 (length r.drives)) _ drives in
    let (few, rest3) = and_parts (nat_le (length r.drives) most_drives) _ rest2 in
    let (are, _) = and_parts (are_drives [] r.drives) (nat_le (mdt_len r.drives) most_records) rest3 in
    record {
      some = grind (arith, nat_tests);
      few = grind (arith, nat_tests);
      addresses = each_address [] r.drives are;
      times = each_times [] r.drives are;
      apart = subst AreDistinct (addresses_are r.drives) (addresses_apart [] r.drives are);
      order = IsOrder-is_order (length r.drives) r.order order;
      cycles = AreCycles-has_ring_numbers r numbers;
    }
