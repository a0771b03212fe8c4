-- No step is open for more than 64 cycles, and no identification goes to one drive in more: then the ring falls, whatever arrived.
use Rattle.sercos_law_run.proofs.Words.{false≢true, none-some, cases_Option, ◌≡◌, inl, inr, ℕ, ◌+◌, ◌<◌, ◌≤◌, ◌==◌, Bool, true, false, ◌&&◌, List, [], ◌∷◌, length, Option, Some, None, refl, sym, ◌∙◌, ap, subst, arith, if◌then◌else◌, nat_le, min, is_some, option_map, slice_index, unwrap_or, option_or, and_parts, cases_lt, cond_both, false_from_ne_true, or_cases, nat_tests, word_at, status_of, answers_it, open_in, Send, age_of, begun_by, is_place, Known, Task, Fall, Past, Call, HearMst, HearAt, End, Restart, addressed_in, after_mdt, after_taken, count_addressed, fall_at, fall_of, first_place, goes_on, has_lost_at, has_lost_mst, is_at_limit, is_done, is_sent_to, next_phase, past, place_of, ready_to_send, settled, with_begin, leaves, at_keeps, channel_keeps, cases_Bool, task_begun, MasterMdt, ChannelCall}
use Rattle.sercos_law_run.proofs.Undisturbed.Arriving.Addressed.{finds}

-- what is known of a channel, in a phase
abbrev IsAged : ℕ → Option ℕ → Type 0
IsAged phase o = (phase ≤ 1 → o ≡ None) × ((n : ℕ) → o ≡ Some n → n ≤ 64)

none_aged : (phase : ℕ) → IsAged phase None
none_aged phase = (λ low. refl, λ n is. cc)

pub record IsWithin (p : Past) (k : ℕ) : Type 0 where
  pub aged : IsAged p.now.phase (age_of (p.calls k))
  pub few : count_addressed k p.turns ≤ 64

-- WITHOUT A FALL a drive isn't at its limit.
no_first : (m a : Option Fall) (l : Option ℕ) (f : ℕ → Fall) → option_or m (option_or a (option_map f l)) ≡ None → l ≡ None
no_first None None None f is = refl
no_first None None (Some k) f is = absurd (cc)
no_first None (Some x) l f is = absurd (cc)
no_first (Some x) a l f is = absurd (cc)

pub not_at_limit : (s : Known) (p : Past) (k : ℕ) → k < length s.drives → fall_of s p ≡ None → is_at_limit p k ≡ false
not_at_limit s p k there none =
    let first = no_first (if has_lost_mst (p.now ∷ p.turns) then Some Fall.MstLost else None)
    (fall_at Fall.AtLost s (first_place s (λ i. has_lost_at i (p.now ∷ p.turns)))) (first_place s (is_at_limit p)) _ none in
    false_from_ne_true (is_at_limit p k) (λ on.
    let some : is_some (first_place s (is_at_limit p)) ≡ true =
    ap (λ (o : Option ℕ). is_some o) (finds 0 (length s.drives) k (is_at_limit p) (omega arith) (omega (arith, there)) on).found in
    false≢true (sym (ap (λ (o : Option ℕ). is_some o) first) ∙ some))

-- AT THE END OF A CYCLE without a fall an open step gets a cycle older.
older : (phase : ℕ) (next : ℕ) (o : Option ℕ) → (next ≤ 1 → phase ≤ 1) → IsAged phase o
    → (2 ≤ phase → nat_le 64 (min (unwrap_or o 0) 64) ≡ false) → IsAged next (option_map (λ age. age + 1) o)
older phase next None low aged off = none_aged next
older phase next (Some n) low aged off = (
  λ early. ap (λ (o : Option ℕ). option_map (λ age. age + 1) o) (aged.0 (low early)),
  λ m is.
      let same : n + 1 ≡ m = cc in
      let late : 2 ≤ phase =
      elim (cases_lt phase 2) [ inl early ↦ absurd (none-some n (sym (aged.0 (omega (arith, early))))) | inr late ↦ late ] in
      let less : n < 64 = grind (arith, nat_tests, off late) in omega (arith, same, less),
)

module _ (s : Known) (requests : ℕ → List Task) (k : ℕ) (there : k < length s.drives) where
  taken : (i : ℕ) (content : List ℕ) (p : Past) → IsWithin p k → IsWithin (after_taken i content p) k
  taken i content p was = record {
    aged = channel_keeps (λ (l : List ChannelCall). IsAged p.now.phase (age_of l)) i k content p was.aged
        (λ same. cond_both (answers_it (begun_by (p.calls k)) (status_of (word_at content 1))) None (age_of (p.calls k)) (λ (o : Option ℕ). IsAged p.now.phase o)
        (λ on. none_aged p.now.phase) (λ off. was.aged));
    few = was.few;
  }

  -- THE MDT: a request begins, or not, and its step is sent, or not
  sent : (phase : ℕ) (l : List ChannelCall) (on : Bool) → (on ≡ true → 2 ≤ phase) → IsAged phase (age_of l)
      → IsAged phase (age_of (if on then Send ∷ l else l))
  sent phase l false late aged = aged
  sent phase l true late aged = cond_both (is_some (open_in (begun_by l))) (Some (unwrap_or (age_of l) 0)) None
      (λ (o : Option ℕ). IsAged phase o) (λ waits.
      (λ low. absurd (omega (arith, low, late refl)), λ n is. at (age_of l) n aged.1 is)) (λ shut. none_aged phase)
    where
      at : (o : Option ℕ) (n : ℕ) → ((m : ℕ) → o ≡ Some m → m ≤ 64) → Some (unwrap_or o 0) ≡ Some n → n ≤ 64
      at None n few is = let same : 0 ≡ n = cc in omega (arith, same)
      at (Some m) n few is = let same : m ≡ n = cc in omega (arith, same, few m refl)

  late_sent : (p : Past) (addressed : Option ℕ) → is_sent_to p addressed k ≡ true → 2 ≤ p.now.phase
  late_sent p addressed on = elim (or_cases (nat_le 3 p.now.phase) ((p.now.phase == 2) && is_place k addressed) on) [
    | inl high ↦ (let three : 3 ≤ p.now.phase = grind (arith, nat_tests, high) in omega (arith, three))
    | inr two ↦ (let is : p.now.phase ≡ 2 = grind (arith, nat_tests, (and_parts (p.now.phase == 2) _ two).0) in omega (arith, is))
  ]

  at_mdt : (p : Past) → IsWithin p k → IsWithin (after_mdt s p) k
  at_mdt p was =
      let left = leaves s p in
      let aged : IsAged (settled s p).now.phase (age_of ((settled s p).calls k)) =
      subst (λ (n : ℕ). IsAged n (age_of ((settled s p).calls k))) (sym left.phase)
      (subst (λ (f : ℕ → List ChannelCall). IsAged p.now.phase (age_of (f k))) (sym left.calls) was.aged) in
      record {
        aged = sent (settled s p).now.phase (with_begin (task_begun s (settled s p) k) ((settled s p).calls k))
            (is_sent_to (ready_to_send s p) (addressed_in s (ready_to_send s p)) k)
            (late_sent (ready_to_send s p) (addressed_in s (ready_to_send s p))) (elim (cases_Option (task_begun s (settled s p) k)) [
              | inl none ↦ rw none aged
              | inr some ↦ rw some.1 (none_aged (settled s p).now.phase)
            ]);
        few = subst (λ (l : List _). count_addressed k l ≤ 64) (sym left.turns) was.few;
      }

  went_on : (p : Past) → fall_of s p ≡ None → IsWithin p k → IsWithin (goes_on (next_phase s p) p) k
  went_on p none was =
      let low = cond_both (is_done s p) (p.now.phase + 1) p.now.phase (λ (n : ℕ). n ≤ 1 → p.now.phase ≤ 1) (λ on few. omega (arith, few))
      (λ not_done few. few) in
      record {
        aged = older p.now.phase (next_phase s p) (age_of (p.calls k)) low was.aged at_limit;
        few = elim (cases_Bool ((p.now.phase == 1) && is_place k p.now.addressed)) [
          | inl is ↦
              rw is (let (one, to) = and_parts (p.now.phase == 1) (is_place k p.now.addressed) is in
              let phase : p.now.phase ≡ 1 = grind (arith, nat_tests, one) in
              let less : count_addressed k p.turns < 64 = grind (arith, nat_tests, at_identification phase, to) in omega (arith, less))
          | inr is ↦ rw is (omega arith)
        ];
      }
    where
      at_limit : 2 ≤ p.now.phase → nat_le 64 (min (unwrap_or (age_of (p.calls k)) 0) 64) ≡ false
      at_limit late = let other : (p.now.phase == 1) ≡ false = grind (arith, nat_tests, late) in rw other at (not_at_limit s p k there none)

      at_identification : p.now.phase ≡ 1 → (is_place k p.now.addressed && nat_le 64 (count_addressed k p.turns)) ≡ false
      at_identification one = let is : (p.now.phase == 1) ≡ true = grind (arith, nat_tests, one) in rw is at (not_at_limit s p k there none)

  -- AFTER ANY CALLS
  pub within : (h : List Call) → IsWithin (past s requests h) k
  within [] = record { aged = none_aged 0; few = omega arith }
  within (HearMst content ∷ h) = let was = within h in record { aged = was.aged; few = was.few }
  within (HearAt content ∷ h) = at_keeps (λ (q : Past). IsWithin q k) s (place_of s (slice_index content 0)) content (past s requests h)
      (within h) (λ i place is. taken i content (past s requests h) (within h))
  within (MasterMdt ∷ h) = at_mdt (past s requests h) (within h)
  within (End ∷ h) = elim (cases_Option (fall_of s (past s requests h))) [
    | inl none ↦ rw none (went_on (past s requests h) none (within h))
    | inr (f, falls) ↦ rw falls (record { aged = none_aged 0; few = omega arith })
  ]
  within (Restart ∷ h) = record { aged = none_aged 0; few = omega arith }
