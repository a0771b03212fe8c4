-- What settling leaves, the phases, and outcomes that stay. Where phase 3 or 4 is commanded, the check for phase 3 has ended well at every
-- drive, in this epoch, and where phase 4 is, that for phase 4.
use Rattle.sercos_master.proofs.Words.{inl, inr, ◌⊎◌, ◌≡◌, ℕ, zero, suc, ◌+◌, ◌<◌, ◌≤◌, Bool, true, false, List, ◌∷◌, Option, Some, None, length, ap, subst, refl, sym, ◌∙◌, arith, if◌then◌else◌, is_none, nat_le, not, and_parts, cases_Bool, cases_eq, false≢true, nat_tests, status_of, word_at, Outcome, begun_by, outcome_at, Known, MemberView, Task, member, reads_count, given, ended_well, is_checked, is_ready, all_checked, all_ready, Past, Call, past, outcomes, after_at_of, after_taken, after_mdt, begins, begun, with_begin, is_sent_to, addressed_in, ready_to_send, settled, is_done, is_done_in, first_from, outcomes_in, with_outcome, behind_end}
use Rattle.sercos_service_master.specs.Calls as channel
use Rattle.sercos_seat.proofs.Channels.{heard}
use Rattle.sercos_seat.proofs.Seats.{before_end}
use Rattle.sercos_master.proofs.Keeping.{at_keeps, channel_keeps, past_keeps, settled_keeps}

-- WHAT SETTLING LEAVES. A plan comes where there was none.
pub record Leaves (q p : Past) : Type 0 where
  pub calls : q.calls ≡ p.calls
  pub tasks : q.tasks ≡ p.tasks
  pub waiting : q.waiting ≡ p.waiting
  pub turns : q.turns ≡ p.turns
  pub phase : q.now.phase ≡ p.now.phase
  pub heard : q.now.heard ≡ p.now.heard
  pub whole : q.now.whole ≡ p.now.whole
  pub report : q.now.report ≡ p.now.report
  pub plan : (p.plan ≡ None) ⊎ (q.plan ≡ p.plan)

pub leaves : (s : Known) (p : Past) → Leaves (settled s p) p
leaves s p = settled_keeps (λ q. Leaves q p) s p
    (λ rests. record { calls = refl; tasks = refl; waiting = refl; turns = refl; phase = refl; heard = refl; whole = refl; report = refl; plan = inr refl })
    (λ x none brings. record {
      calls = refl;
      tasks = refl;
      waiting = refl;
      turns = refl;
      phase = refl;
      heard = refl;
      whole = refl;
      report
          = refl;
      plan = inr refl;
    })
    (λ plan makes. record { calls = refl; tasks = refl; waiting = refl; turns = refl; phase = refl; heard = refl; whole = refl; report = refl; plan = inl makes.none })

-- the MDT's turn adds no outcome
begin_adds : (t : Option Task) (calls : List channel.Call) → outcomes_in (begun_by (with_begin t calls)) ≡ outcomes_in (begun_by calls)
begin_adds None calls = refl
begin_adds (Some t) calls = refl

send_adds : (b : Bool) (calls : List channel.Call) → outcomes_in (begun_by (if b then channel.Send ∷ calls else calls)) ≡ outcomes_in (begun_by calls)
send_adds true calls = refl
send_adds false calls = refl

pub begun_adds : (s : Known) (p : Past) (k : ℕ) → outcomes (begun s p) k ≡ outcomes p k
begun_adds s p k = begin_adds (begins s p k) (p.calls k)

pub mdt_adds : (s : Known) (p : Past) (k : ℕ) → outcomes (after_mdt s p) k ≡ outcomes p k
mdt_adds s p k =
    send_adds (is_sent_to (ready_to_send s p) (addressed_in s (ready_to_send s p)) k) ((ready_to_send s p).calls k)
    ∙ (begin_adds (begins s (settled s p) k) ((settled s p).calls k)
    ∙ ap (λ calls. outcomes_in (begun_by (calls k))) (leaves s p).calls)

-- OUTCOMES COME AT THE END of each channel's list, or none does.
abbrev pub Adds : Past → Past → Type 0
Adds p q = (j : ℕ) → (o : Option Outcome) × (outcomes q j ≡ with_outcome o (outcomes p j))

-- an AT adds one outcome at most to each channel
pub at_adds : (i : ℕ) (content : List ℕ) (p : Past) → Adds p (after_taken i content p)
at_adds i content p j = channel_keeps (λ calls. (o : Option Outcome) ×
    (outcomes_in (begun_by calls) ≡ with_outcome o (outcomes p j))) i j content p (None, refl) (λ same.
    let o = outcome_at (p.calls j) (status_of (word_at content 1)) (word_at content 3) in
    (o, (heard (p.calls j) (status_of (word_at content 1)) (word_at content 3) _ refl).outcomes))

-- THE PHASE is 0 to 4.
pub at_phase : (s : Known) (place : Option ℕ) (content : List ℕ) (p : Past) → (after_at_of s place content p).now.phase ≡ p.now.phase
at_phase s place content p = at_keeps (λ q. q.now.phase ≡ p.now.phase) s place content p refl (λ k there is. refl)

pub phase_low : (s : Known) (requests : ℕ → List Task) (h : List Call) → (past s requests h).now.phase ≤ 4
phase_low s requests = past_keeps (λ p. p.now.phase ≤ 4) s requests (record {
  first = omega arith;
  mst = λ h whole low. low;
  taken = λ h k content inside is low. low;
  mdt = λ h low. rw (leaves s (past s requests h)).phase low;
  on = λ h done. goes (past s requests h) done;
  new = λ h cycle low. omega arith;
})
  where
    goes : (p : Past) (done : Bool) → is_done s p ≡ done → p.now.phase ≤ 4 → (if done then p.now.phase + 1 else p.now.phase) ≤ 4
    goes p false is low = low
    goes p true is low = elim (cases_eq p.now.phase 4) [ inl four ↦ absurd (false≢true (rw four at is)) | inr other ↦ omega (arith, low, other) ]

-- where each place passes, every one does
pub each_passes : (n k : ℕ) (test : ℕ → Bool) → is_none (first_from k n (λ j. not (test j))) ≡ true → (j : ℕ) → k ≤ j → j < k + n → test j ≡ true
each_passes zero k test e j low high = absurd (omega (arith, low, high))
each_passes (suc n) k test e j low high = elim (cases_Bool (test k)) [
  | inl t ↦ elim (cases_eq j k) [
    | inl is ↦ rw is t
    | inr other ↦ each_passes n (k + 1) test (rw t at e) j (omega (arith, low, other)) (omega (arith, high))
  ]
  | inr f ↦ absurd (false≢true (rw f at e))
]

-- WHAT HOLDS OF A CHANNEL above a phase: it stays with one outcome more, and holds wherever that phase is done.
module _ (test : List Outcome → Bool) (n : ℕ) (s : Known) (k : ℕ) where
  pub holds_above : ((all : List Outcome) (o : Option Outcome) → test all ≡ true → test (with_outcome o all) ≡ true) →
      ((p : Past) → is_done_in n s p ≡ true → test (outcomes p k) ≡ true) →
      (requests : ℕ → List Task) (h : List Call) → nat_le (n + 1) (past s requests h).now.phase ≡ true → test (outcomes (past s requests h) k) ≡ true
  holds_above stays done requests = past_keeps (λ p. nat_le (n + 1) p.now.phase ≡ true → test (outcomes p k) ≡ true) s requests (record {
    first = λ high. absurd (grind (arith, nat_tests, high));
    mst = λ h whole before. before;
    taken = λ h i content inside is before high. let a = at_adds i content (past s requests h) k in rw a.1
        (stays (outcomes (past s requests h) k) a.0 (before high));
    mdt = λ h before high. subst (λ all. test all ≡ true) (sym (mdt_adds s (past s requests h) k)) (before (subst (λ i. nat_le (n + 1) i ≡ true) (leaves s (past s requests h)).phase high));
    on = λ h rises. goes (past s requests h) rises;
    new = λ h cycle before high. absurd (grind (arith, nat_tests, high));
  })
    where
      goes : (p : Past) (rises : Bool) → is_done s p ≡ rises → (nat_le (n + 1) p.now.phase ≡ true → test (outcomes p k) ≡ true)
          → nat_le (n + 1) (if rises then p.now.phase + 1 else p.now.phase) ≡ true → test (outcomes p k) ≡ true
      goes p false e before high = before high
      goes p true e before high = elim (cases_eq p.now.phase n) [
        | inl is ↦ done p (subst (λ i. is_done_in i s p ≡ true) is e)
        | inr other ↦ before (grind (arith, nat_tests, high, other))
      ]

-- one outcome more doesn't undo a check
stays_well : (i : ℕ) (all : List Outcome) (o : Option Outcome) → ended_well (given all i) ≡ true → ended_well (given (with_outcome o all) i) ≡ true
stays_well i all None e = e
stays_well i all (Some o) e = elim (cases_eq i (length all)) [
  | inl here ↦ absurd (false≢true (subst (λ b. ended_well b ≡ true) (behind_end all i (omega (arith, here))) e))
  | inr other ↦ rw (before_end all o i other) e
]

pub stays_ready : (d : MemberView) (all : List Outcome) (o : Option Outcome) → is_ready d all ≡ true → is_ready d (with_outcome o all) ≡ true
stays_ready d all o e =
    let both = and_parts (is_checked d all) (ended_well (given all (reads_count d + 12))) e in
    rw (stays_well (reads_count d + 11) all o both.0, stays_well (reads_count d + 12) all o both.1) refl

-- at all drives
pub all_pass : (n k : ℕ) (test : ℕ → Bool) → ((j : ℕ) → k ≤ j → j < k + n → test j ≡ true) → is_none (first_from k n (λ j. not (test j))) ≡ true
all_pass zero k test each = refl
all_pass (suc n) k test each = rw (each k (omega arith) (omega arith)) (all_pass n (k + 1) test (λ j low high. each j (omega (arith, low)) (omega (arith, high))))

pub configured : (s : Known) (requests : ℕ → List Task) (h : List Call) (k : ℕ) → k < length s.drives → nat_le 3 (past s requests h).now.phase ≡ true →
    is_checked (member s k) (outcomes (past s requests h) k) ≡ true
configured s requests h k within = holds_above (is_checked (member s k)) 2 s k (stays_well (reads_count (member s k) + 11))
    (λ p done. each_passes (length s.drives) 0 (λ j. is_checked (member s j) (outcomes p j)) done k (omega arith) (omega (arith, within))) requests h

pub ready : (s : Known) (requests : ℕ → List Task) (h : List Call) (k : ℕ) → k < length s.drives → nat_le 4 (past s requests h).now.phase ≡ true →
    is_ready (member s k) (outcomes (past s requests h) k) ≡ true
ready s requests h k within = holds_above (is_ready (member s k)) 3 s k (stays_ready (member s k))
    (λ p done. each_passes (length s.drives) 0 (λ j. is_ready (member s j) (outcomes p j)) done k (omega arith) (omega (arith, within))) requests h

pub all_configured : (s : Known) (requests : ℕ → List Task) (h : List Call) → nat_le 3 (past s requests h).now.phase ≡ true → all_checked s (past s requests h) ≡ true
all_configured s requests h three = all_pass (length s.drives) 0 (λ k. is_checked (member s k) (outcomes (past s requests h) k)) (λ j low high. configured s requests h j (omega (arith, high)) three)

pub all_made_ready : (s : Known) (requests : ℕ → List Task) (h : List Call) → nat_le 4 (past s requests h).now.phase ≡ true → all_ready s (past s requests h) ≡ true
all_made_ready s requests h four = all_pass (length s.drives) 0 (λ k. is_ready (member s k) (outcomes (past s requests h) k)) (λ j low high. ready s requests h j (omega (arith, high)) four)
