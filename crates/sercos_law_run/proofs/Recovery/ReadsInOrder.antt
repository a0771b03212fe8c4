-- Up to phase 2, where something of a drive has begun, each drive before it in the ring has been read.
use Rattle.sercos_law_run.proofs.Words.{◌≡◌, ℕ, ◌<◌, ◌≤◌, Bool, true, false, not, List, length, Option, Some, None, refl, ap, arith, is_none, option_or, not-false, same_Some, is_checked, is_read, Known, Task, member, Call, Past, outcomes, first_place, settled, in_turn, past, each_passes, leaves, going, past_keeps, read_stays}
use Rattle.sercos_law_run.proofs.Undisturbed.InOrder.{AreFirst, before_first, begins_in_turn, mdt_first, taken_first}

-- a drive that has its turn comes after drives that have been read
turn_reads : (s : Known) (p : Past) (k : ℕ) → k < length s.drives → in_turn s p ≡ Some k → (j : ℕ) → j < k → is_read (member s j) (outcomes p j) ≡ true
turn_reads s p k there turn j low = by (first_place s (λ i. not (is_read (member s i) (outcomes p i)))) refl turn
  where
    by : (o : Option ℕ) → first_place s (λ i. not (is_read (member s i) (outcomes p i))) ≡ o → option_or o (first_place s (λ i. not (is_checked (member s i) (outcomes p i)))) ≡ Some k → is_read (member s j) (outcomes p j) ≡ true
    by None none second = each_passes (length s.drives) 0 (λ i. is_read (member s i) (outcomes p i)) (ap (λ (o : Option ℕ). is_none o) none) j (omega arith) (omega (arith, low, there))
    by (Some i) found first =
        let same : i ≡ k = same_Some i k first in
        not-false _ (before_first 0 (length s.drives) (λ m. not (is_read (member s m) (outcomes p m))) i found j (omega arith) (omega (arith, same, low)))

module _ (s : Known) (requests : ℕ → List Task) where
  abbrev AreReadInOrder : Past → Type 0
  AreReadInOrder p = AreFirst s requests (λ n. n ≤ 2) (λ k. 0) is_read read_stays p

  -- THE END OF A CYCLE
  goes_order : (h : List Call) (done : Bool) → AreReadInOrder (past s requests h) → AreReadInOrder (going done (past s requests h))
  goes_order h false have two k there more j low = have two k there more j low
  goes_order h true have two k there more j low = have (omega (arith, two)) k there more j low

  pub reads_in_order : (h : List Call) → AreReadInOrder (past s requests h)
  reads_in_order = past_keeps AreReadInOrder s requests (record {
    first = λ two k there more j low. absurd (omega (arith, more));
    mst = λ h whole have. have;
    taken = λ h i content inside is. taken_first s requests (λ n. n ≤ 2) (λ k. 0) is_read read_stays i content (past s requests h);
    mdt = λ h. mdt_first s requests (λ n. n ≤ 2) (λ k. 0) is_read read_stays h (λ before k there t some few more j low.
        turn_reads s (settled s (past s requests h)) k there (begins_in_turn s (settled s (past s requests h)) k t
        (let same = (leaves s (past s requests h)).phase in omega (arith, same, before)) some) j low);
    on = λ h done is. goes_order h done;
    new = λ h cycle have two k there more j low. absurd (omega (arith, more));
  })
