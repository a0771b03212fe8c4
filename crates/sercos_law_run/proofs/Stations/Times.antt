-- What an empty list of the check for phase 3 says of a store, in times and places.
use Rattle.sercos_law_run.proofs.Words.{◌≡◌, ℕ, ◌+◌, ◌-◌, ◌%◌, ◌==◌, nat_lt, Bool, true, false, not, ◌||◌, List, [], refl, arith, nat_le, list_all, not-false, nat_tests, Idn, is_cycle, or_parts, number_at, idns_at, is_cyclic, carried_len, listed_if, EmptyKeepsTimes, breaks_1, breaks_2, breaks_6, breaks_7, breaks_8, breaks_9, breaks_10, breaks_15, breaks_list, breaks_89, unfit_for_phase_3}

-- an empty list names none
unnamed : (raw : ℕ) (broken : Bool) (rest : List Idn) → listed_if raw broken rest ≡ [] → (broken ≡ false) × (rest ≡ [])
unnamed raw true rest e = cc
unnamed raw false rest e = (refl, e)

pub empty_keeps_times : EmptyKeepsTimes
unfolding unfit_for_phase_3 breaks_1 breaks_2 breaks_6 breaks_7 breaks_8 breaks_9 breaks_10 breaks_15 breaks_list breaks_89
empty_keeps_times rate blocks e =
    let n : ℕ → ℕ = number_at blocks in
    let (b1, r1) = unnamed 1 (breaks_1 blocks) _ e in
    let (b2, r2) = unnamed 2 (breaks_2 blocks) _ r1 in
    let (b6, r6) = unnamed 6 (breaks_6 blocks) _ r2 in
    let (b7, r7) = unnamed 7 (breaks_7 blocks) _ r6 in
    let (b8, r8) = unnamed 8 (breaks_8 blocks) _ r7 in
    let (b9, r9) = unnamed 9 (breaks_9 blocks) _ r8 in
    let (b10, r10) = unnamed 10 (breaks_10 blocks) _ r9 in
    let (b15, r15) = unnamed 15 (breaks_15 blocks) _ r10 in
    let (b16, r16) = unnamed 16 (breaks_list 16 blocks) _ r15 in
    let (b24, r24) = unnamed 24 (breaks_list 24 blocks) _ r16 in
    let (b89, _) = unnamed 89 (breaks_89 rate blocks) _ r24 in
    let (no_2, one) = or_parts (n 2 == 0) ((n 1 == 0) || not (n 1 % n 2 == 0)) b1 in
    let (no_1, whole) = or_parts (n 1 == 0) (not (n 1 % n 2 == 0)) one in
    let multiple = not-false (n 1 % n 2 == 0) whole in
    let (no_8, inside) = or_parts (n 8 == 0) (nat_lt (n 2) (n 8)) b8 in
    let (no_9, within) = or_parts (n 9 == 0) (nat_lt (n 10) (n 9 + carried_len blocks 24 - 1)) b9 in
    let place : nat_le 1 (n 9) ≡ true = grind (arith, nat_tests, no_9) in
    let ends : nat_le (n 9 + carried_len blocks 24) (n 10 + 1) ≡ true = grind (arith, nat_tests, no_9, within) in
    record {
      sends = grind (arith, nat_tests, b6);
      turns = grind (arith, nat_tests, b89);
      command = (grind (arith, nat_tests, no_8), grind (arith, nat_tests, inside));
      feedback = grind (arith, nat_tests, b7);
      lies = rw (place, ends) refl;
      room = grind (arith, nat_tests, b10);
      cycle = not-false (is_cycle (n 2)) b2;
      control = (grind (arith, nat_tests, no_2), grind (arith, nat_tests, no_1), grind (arith, nat_tests, multiple));
      kind = grind (arith, nat_tests, not-false (n 15 == 7) b15);
      numbers = (not-false (list_all (is_cyclic blocks) (idns_at blocks 16)) b16, not-false (list_all (is_cyclic blocks) (idns_at blocks 24)) b24);
    }
