-- In phase 2, where a drive's writes have begun, the check for phase 3 of each drive before it in the ring has ended well.
use Rattle.sercos_law_run.proofs.Words.{◌≡◌, inl, inr, ℕ, ◌+◌, ◌<◌, ◌≤◌, Bool, true, false, not, List, [], ◌∷◌, length, Option, Some, None, refl, sym, ap, ◌∙◌, subst, arith, if◌then◌else◌, option_or, cases_lt, false≢true, le-leb, not-false, same_Some, Status, status_of, word_at, Request, Outcome, Begun, answers_it, answer_in, with_answer, begun_by, reads_count, is_read, is_checked, ended_well, outcomes_in, with_outcome, Known, MemberView, Task, member, AreWaiting, ended_there, before_end, Call, Past, outcomes, first_from, first_place, after_taken, settled, in_turn, past, mdt_adds, leaves, begins_next, channel_keeps, first_found, going, past_keeps, at_adds, with_begun, with_status, AreBegunTasks, request_of}
use Rattle.sercos_service_master.specs.Calls as channel
use Rattle.sercos_master.specs.Annals.{Mdt, begins}
use Rattle.sercos_law_run.proofs.Undisturbed.StaysUp.{found_passes}
use Rattle.sercos_law_run.proofs.Views.MasterSame.{begun_so, turn_mdt}
use Rattle.sercos_law_run.proofs.Cited.{begins_none, begins_tasks}

-- a check that has ended well stays so
pub checked_stays : (m : MemberView) (outs : List Outcome) (o : Option Outcome) → is_checked m outs ≡ true → is_checked m (with_outcome o outs) ≡ true
checked_stays m outs None well = well
checked_stays m outs (Some o) well = let there = ended_there outs (reads_count m + 11) well in ap ended_well (before_end outs o (reads_count m + 11) (λ e. omega (arith, e, there))) ∙ well

-- an answer leaves the number of requests
pub same_count : (status : Status) (word : ℕ) (begun : List Begun) → length (with_status status word begun) ≡ length begun
same_count status word begun = by (answers_it begun status) begun
  where
    by : (v : Bool) (l : List Begun) → length (if v then with_answer (answer_in status word) l else l) ≡ length l
    by true [] = refl
    by true (b ∷ l) = refl
    by false l = refl

-- up to phase 2 a request begins only where its drive has its turn
pub begins_in_turn : (s : Known) (p : Past) (k : ℕ) (t : Task) → p.now.phase ≤ 2 → begins s p k ≡ Some t → in_turn s p ≡ Some k
begins_in_turn s p k t low some = let next = begins_next s p k t some in let late = next.late in next.turn (omega (arith, low, late))

-- THE FIRST PLACE: those before it fail the test.
pub before_first : (k n : ℕ) (test : ℕ → Bool) (i : ℕ) → first_from k n test ≡ Some i → (j : ℕ) → k ≤ j → j < i → test j ≡ false
before_first k n test i found = (first_found k n i test found).before

-- a drive that has been read and has its turn comes after drives that are checked
turn_after : (s : Known) (p : Past) (k : ℕ) → in_turn s p ≡ Some k → is_read (member s k) (outcomes p k) ≡ true → (j : ℕ) → j < k → is_checked (member s j) (outcomes p j) ≡ true
turn_after s p k turn read j low = by (first_place s (λ i. not (is_read (member s i) (outcomes p i)))) refl turn
  where
    by : (o : Option ℕ) → first_place s (λ i. not (is_read (member s i) (outcomes p i))) ≡ o → option_or o (first_place s (λ i. not (is_checked (member s i) (outcomes p i)))) ≡ Some k → is_checked (member s j) (outcomes p j) ≡ true
    by None none second = not-false _ (before_first 0 (length s.drives) (λ i. not (is_checked (member s i) (outcomes p i))) k second j (omega arith) low)
    by (Some i) found first =
        let same : i ≡ k = same_Some i k first in
        let unread = found_passes 0 (length s.drives) i (λ m. not (is_read (member s m) (outcomes p m))) found in
        absurd (false≢true (sym (ap not (subst (λ (m : ℕ). is_read (member s m) (outcomes p m) ≡ true) (sym same) read)) ∙ unread))

-- WHAT COMES FIRST: in an early phase, where more than so many requests of a drive have begun, each drive before it in the ring passes a
-- test that outcomes keep.
module _ (s : Known) (requests : ℕ → List Task) (early : ℕ → Type 0) (count : ℕ → ℕ) (test : MemberView → List Outcome → Bool)
    (stays : (m : MemberView) (outs : List Outcome) (o : Option Outcome) → test m outs ≡ true → test m (with_outcome o outs) ≡ true) where
  abbrev pub AreFirst : Past → Type 0
  AreFirst p = early p.now.phase → (k : ℕ) → k < length s.drives → count k < length (begun_by (p.calls k)) → (j : ℕ) → j < k → test (member s j) (outcomes p j) ≡ true

  -- an AT
  pub taken_first : (i : ℕ) (content : List ℕ) (p : Past) → AreFirst p → AreFirst (after_taken i content p)
  taken_first i content p have two k there more j low =
      let adds = at_adds i content p j in
      ap (test (member s j)) adds.1 ∙ stays (member s j) (outcomes p j) adds.0
      (have two k there (let same = channel_keeps (λ calls. length (begun_by calls) ≡ length (begun_by (p.calls k))) i k content p refl
      (λ same. same_count (status_of (word_at content 1)) (word_at content 3) (begun_by (p.calls k))) in
      omega (arith, more, same)) j low)

  -- an MDT, if it is so where a request begins
  pub mdt_first : (h : List Call) → (early (past s requests h).now.phase → (k : ℕ) → k < length s.drives → (t : Task) → begins s (settled s (past s requests h)) k ≡ Some t
      → length (begun_by ((past s requests h).calls k)) ≤ count k → count k < length (begun_by ((past s requests (Mdt ∷ h)).calls k))
      → (j : ℕ) → j < k → test (member s j) (outcomes (settled s (past s requests h)) j) ≡ true)
      → AreFirst (past s requests h) → AreFirst (past s requests (Mdt ∷ h))
  mdt_first h begun have two k there more j low =
      ap (test (member s j)) (mdt_adds s (past s requests h) j) ∙ elim (cases_lt (count k) (length (begun_by ((past s requests h).calls k)))) [
        | inl had ↦ have (subst early (turn_mdt s (past s requests h)).phase_is two) k there had j low
        | inr few ↦ fresh (begins s (settled s (past s requests h)) k) refl (omega (arith, few))
      ]
    where
      fresh : (o : Option Task) → begins s (settled s (past s requests h)) k ≡ o → length (begun_by ((past s requests h).calls k)) ≤ count k → test (member s j) (outcomes (past s requests h) j) ≡ true
      fresh None none few =
          let same = ap (λ (l : List Begun). length l) (begun_so s (past s requests h) k ∙ ap (λ (o : Option Task). with_begun (request_of o) (begun_by ((past s requests h).calls k))) none) in
          absurd (omega (arith, few, more, same))
      fresh (Some t) some few = ap (λ (calls : ℕ → List channel.Call). test (member s j) (outcomes_in (begun_by (calls j)))) (sym (leaves s (past s requests h)).calls)
          ∙ begun (subst early (turn_mdt s (past s requests h)).phase_is two) k there t some few more j low

module _ (s : Known) (requests : ℕ → List Task) (waits : (j : ℕ) → AreWaiting (requests j)) where
  abbrev AreInOrder : Past → Type 0
  AreInOrder p = AreFirst s requests (λ n. n ≡ 2) (λ k. reads_count (member s k)) is_checked checked_stays p

  -- a request that begins: the reads have ended, so it is the turn of a drive after those that are checked
  order_begun : (h : List Call) → (past s requests h).now.phase ≡ 2 → (k : ℕ) → k < length s.drives → (t : Task) → begins s (settled s (past s requests h)) k ≡ Some t
      → length (begun_by ((past s requests h).calls k)) ≤ reads_count (member s k) → reads_count (member s k) < length (begun_by ((past s requests (Mdt ∷ h)).calls k))
      → (j : ℕ) → j < k → is_checked (member s j) (outcomes (settled s (past s requests h)) j) ≡ true
  order_begun h before k there t some few more j low = turn_after s (settled s (past s requests h)) k turn
      (ap (λ (calls : ℕ → List channel.Call). is_read (member s k) (outcomes_in (begun_by (calls k)))) (leaves s (past s requests h)).calls
      ∙ le-leb (reads_count (member s k)) (length (outcomes (past s requests h) k)) many) j low
    where
      ended : (b : Begun) (older : List Begun) (ts : List Task) → AreBegunTasks s k (past s requests (Mdt ∷ h)).plan ((past s requests (Mdt ∷ h)).waiting k) (past s requests (Mdt ∷ h)).now.phase (b ∷ older) ts → length (outcomes_in older) ≡ length older
      ended b older [] are = absurd are
      ended b older (t ∷ ts) are = are.1.ended

      begun_is : begun_by ((past s requests (Mdt ∷ h)).calls k) ≡ record { request = t.request; answers = [] } ∷ begun_by ((past s requests h).calls k)
      begun_is = begun_so s (past s requests h) k ∙ ap (λ (o : Option Request). with_begun o (begun_by ((past s requests h).calls k))) (ap request_of some)

      all_ended : length (outcomes (past s requests h) k) ≡ length (begun_by ((past s requests h).calls k))
      all_ended = ended (record { request = t.request; answers = [] }) (begun_by ((past s requests h).calls k)) ((past s requests (Mdt ∷ h)).tasks k)
          (subst (λ (l : List Begun). AreBegunTasks s k (past s requests (Mdt ∷ h)).plan ((past s requests (Mdt ∷ h)).waiting k) (past s requests (Mdt ∷ h)).now.phase l ((past s requests (Mdt ∷ h)).tasks k)) begun_is (begins_tasks s requests (Mdt ∷ h) k there))

      many : reads_count (member s k) ≤ length (outcomes (past s requests h) k)
      many = let long = ap (λ (l : List Begun). length l) begun_is in let same = all_ended in omega (arith, long, same, more)

      turn : in_turn s (settled s (past s requests h)) ≡ Some k
      turn = begins_in_turn s (settled s (past s requests h)) k t (let same = (leaves s (past s requests h)).phase in omega (arith, same, before)) some

  -- THE END OF A CYCLE
  goes_order : (h : List Call) (done : Bool) → AreInOrder (past s requests h) → AreInOrder (going done (past s requests h))
  goes_order h false have two k there more j low = have two k there more j low
  goes_order h true have two k there more j low =
      let none = ap (λ (l : List Begun). length l) (begins_none s requests h k waits there (omega (arith, two))) in absurd (omega (arith, none, more))

  pub in_order : (h : List Call) → AreInOrder (past s requests h)
  in_order = past_keeps AreInOrder s requests (record {
    first = λ two k there more j low. absurd (omega (arith, two));
    mst = λ h whole have. have;
    taken = λ h i content inside is. taken_first s requests (λ n. n ≡ 2) (λ k. reads_count (member s k)) is_checked checked_stays i content (past s requests h);
    mdt = λ h. mdt_first s requests (λ n. n ≡ 2) (λ k. reads_count (member s k)) is_checked checked_stays h (order_begun h);
    on = λ h done is. goes_order h done;
    new = λ h cycle have two k there more j low. absurd (omega (arith, two));
  })
