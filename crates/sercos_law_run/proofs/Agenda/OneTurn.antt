-- In phase 2 at most one channel has an open transfer.
use Rattle.sercos_law_run.proofs.Words.{◌≡◌, inl, inr, ℕ, zero, suc, ◌+◌, ◌<◌, ◌≤◌, Bool, true, false, not, ◌&&◌, List, [], ◌∷◌, length, refl, sym, ap, ap₂, ◌∙◌, subst, arith, if◌then◌else◌, ◌==◌, Option, Some, None, is_some, is_none, option_or, and_parts, both_ways, eq-eqb, cases_eq, same_Some, beq, Status, status_of, word_at, Answer, Outcome, outcome_of, next_step, PlanView, Begun, open_in, mhs_in, answers_it, answer_in, with_answer, outcome_with, begun_by, with_status, going_on, Known, Task, member, is_read, is_checked, with_outcome, outcomes_in, AreWaiting, all_waiting, mdt_adds, leaves, begins_next, going, past_keeps, Call, Past, first_from, outcomes, is_idle, after_taken, in_turn, with_begin, settled, begun, is_sent_to, addressed_in, ready_to_send, after_mdt, past, hearing, other_place, outcome_in, AreBegunTasks, HasTurn, cases_Bool, cases_Option, task_begun, ChannelCall}
use Rattle.sercos_law_run.proofs.Agenda.TaskRuns.{begun_tasks}
use Rattle.sercos_law_run.proofs.Views.MasterSame.{send_same}
use Rattle.sercos_law_run.proofs.Agenda.AgendaTasks.{task_phase}

-- A STATUS IS HEARD. Where no step is open, it changes nothing.
pub idle_hears : (status : Status) (word : ℕ) (begun : List Begun) → is_none (open_in begun) ≡ true → with_status status word begun ≡ begun
idle_hears status word begun idle = elim (cases_Option (open_in begun)) [
  | inl is ↦ ap (λ (v : Bool). if v && (beq status.ahs (mhs_in begun) && not status.busy) then with_answer (answer_in status word) begun else begun) (ap is_some is)
  | inr (x, is) ↦ let idle = rw is at idle in absurd (cc)
]

-- otherwise it adds the outcome, if it brings one, and then no step is open any more
pub record HearsSo (status : Status) (word : ℕ) (begun : List Begun) : Type 0 where
  pub adds : outcomes_in (with_status status word begun) ≡ with_outcome (outcome_in begun status word) (outcomes_in begun)
  pub was_open : is_some (outcome_in begun status word) ≡ true → is_some (open_in begun) ≡ true
  pub closes : is_some (outcome_in begun status word) ≡ true → is_none (open_in (with_status status word begun)) ≡ true

answered_so : (a : Answer) (begun : List Begun) → is_some (open_in begun) ≡ true →
    (outcomes_in (with_answer a begun) ≡ with_outcome (outcome_with a begun) (outcomes_in begun)) × (is_some (outcome_with a begun) ≡ true → is_none (open_in (with_answer a begun)) ≡ true)
answered_so a [] on = absurd (cc)
answered_so a (b ∷ older) on =
    (ap (λ (l : List Outcome). with_outcome (outcome_of b.request (a ∷ b.answers)) l) (sym (ap (λ (o : Option Outcome). with_outcome o (outcomes_in older)) (going_on b older on))), closed (outcome_of b.request (a ∷ b.answers)))
  where
    closed : (o : Option Outcome) → is_some o ≡ true → is_none (if is_some o then None else next_step b.request (a ∷ b.answers)) ≡ true
    closed None on = absurd (cc)
    closed (Some o) on = refl

pub hears_so : (status : Status) (word : ℕ) (begun : List Begun) → HearsSo status word begun
hears_so status word begun = record {
  adds = adds (answers_it begun status) refl;
  was_open = λ some. open_so (answers_it begun status) refl some;
  closes = closes (answers_it begun status) refl;
}
  where
    adds : (v : Bool) → answers_it begun status ≡ v → outcomes_in (if v then with_answer (answer_in status word) begun else begun) ≡ with_outcome (if v then outcome_with (answer_in status word) begun else None) (outcomes_in begun)
    adds true on = (answered_so (answer_in status word) begun ((and_parts (is_some (open_in begun)) _ on).0)).0
    adds false off = refl

    open_so : (v : Bool) → answers_it begun status ≡ v → is_some (if v then outcome_with (answer_in status word) begun else None) ≡ true → is_some (open_in begun) ≡ true
    open_so true on some = (and_parts (is_some (open_in begun)) _ on).0
    open_so false off some = absurd (cc)

    closes : (v : Bool) → answers_it begun status ≡ v → is_some (if v then outcome_with (answer_in status word) begun else None) ≡ true → is_none (open_in (if v then with_answer (answer_in status word) begun else begun)) ≡ true
    closes true on some = (answered_so (answer_in status word) begun ((and_parts (is_some (open_in begun)) _ on).0)).1 some
    closes false off some = absurd (cc)

-- The first of the places is the same where the outcomes are.
pub from_same : (n k : ℕ) (f g : ℕ → Bool) → ((j : ℕ) → f j ≡ g j) → first_from k n f ≡ first_from k n g
from_same zero k f g same = refl
from_same (suc n) k f g same = ap₂ (λ (v : Bool) (o : Option ℕ). if v then Some k else o) (same k) (from_same n (k + 1) f g same)

pub turn_same : (s : Known) (p q : Past) → ((j : ℕ) → outcomes q j ≡ outcomes p j) → in_turn s q ≡ in_turn s p
turn_same s p q same =
    ap₂ (λ (a b : Option ℕ). option_or a b)
    (from_same (length s.drives) 0 (λ k. not (is_read (member s k) (outcomes q k))) (λ k. not (is_read (member s k) (outcomes p k))) (λ j. ap (λ (l : List Outcome). not (is_read (member s j) l)) (same j)))
    (from_same (length s.drives) 0 (λ k. not (is_checked (member s k) (outcomes q k))) (λ k. not (is_checked (member s k) (outcomes p k))) (λ j. ap (λ (l : List Outcome). not (is_checked (member s j) l)) (same j)))

-- What an AT does to a channel: nothing, or its status is heard.
pub data AtHears (p q : Past) (k : ℕ) : Type 0 where
  SameAt : begun_by (q.calls k) ≡ begun_by (p.calls k) → AtHears p q k
  HeardAt : (status : Status) → (word : ℕ) → begun_by (q.calls k) ≡ with_status status word (begun_by (p.calls k)) → AtHears p q k

pub elsewhere_same : (i k : ℕ) (content : List ℕ) (p : Past) → (k ≡ i → ⊥) → begun_by ((after_taken i content p).calls k) ≡ begun_by (p.calls k)
elsewhere_same i k content p other = ap (λ (v : Bool). begun_by (if v then (hearing (p.now.phase == 1) i content p).calls else p.calls k))
    (other_place k i other)

pub here_hears : (i : ℕ) (content : List ℕ) (p : Past) → AtHears p (after_taken i content p) i
here_hears i content p =
    let place = ap (λ (v : Bool). begun_by (if v then (hearing (p.now.phase == 1) i content p).calls else p.calls i)) (eq-eqb i i refl) in
    elim (cases_Bool (p.now.phase == 1)) [
      | inl on ↦ SameAt (place ∙ ap (λ (v : Bool). begun_by (hearing v i content p).calls) on)
      | inr off ↦ HeardAt (status_of (word_at content 1)) (word_at content 3)
          (place ∙ ap (λ (v : Bool). begun_by (hearing v i content p).calls) off)
    ]

module _ (s : Known) where
  abbrev pub AllHaveTurn : Past → Type 0
  AllHaveTurn p = (k : ℕ) → k < length s.drives → HasTurn s p k

  -- an AT
  taken_turn : (i : ℕ) (content : List ℕ) (p : Past) → i < length s.drives → AllHaveTurn p → AllHaveTurn (after_taken i content p)
  taken_turn i content p inside have k there two opens = by (here_hears i content p)
    where
      same_all : begun_by ((after_taken i content p).calls i) ≡ begun_by (p.calls i) → in_turn s (after_taken i content p) ≡ Some k
      same_all here = turn_same s p (after_taken i content p) (λ j. (ap outcomes_in (at j)))
          ∙ have k there two (ap (λ (l : List Begun). is_none (open_in l)) (sym (at k)) ∙ opens)
        where
          at : (j : ℕ) → begun_by ((after_taken i content p).calls j) ≡ begun_by (p.calls j)
          at j = elim (cases_eq j i) [ inl same ↦ subst (λ (m : ℕ). begun_by ((after_taken i content p).calls m) ≡ begun_by (p.calls m)) (sym same) here | inr other ↦ elsewhere_same i j content p other ]

      by : AtHears p (after_taken i content p) i → in_turn s (after_taken i content p) ≡ Some k
      by (SameAt here) = same_all here
      by (HeardAt status word here) = which (outcome_in (begun_by (p.calls i)) status word) refl
        where
          so : HearsSo status word (begun_by (p.calls i))
          so = hears_so status word (begun_by (p.calls i))

          -- a channel that is open was open before
          before : (j : ℕ) → is_idle (after_taken i content p) j ≡ false → is_idle p j ≡ false
          before j on = elim (cases_eq j i) [
            | inl same ↦ subst (λ (m : ℕ). is_idle p m ≡ false) (sym same) (was (is_idle p i) refl (subst (λ (m : ℕ). is_idle (after_taken i content p) m ≡ false) same on))
            | inr other ↦ ap (λ (l : List Begun). is_none (open_in l)) (sym (elsewhere_same i j content p other)) ∙ on
          ]
            where
              was : (v : Bool) → is_idle p i ≡ v → is_idle (after_taken i content p) i ≡ false → is_idle p i ≡ false
              was false is on = is
              was true is on = absurd (both_ways (is_idle (after_taken i content p) i) on (ap (λ (l : List Begun). is_none (open_in l)) (here ∙ idle_hears status word (begun_by (p.calls i)) is) ∙ is))

          which : (o : Option Outcome) → outcome_in (begun_by (p.calls i)) status word ≡ o → in_turn s (after_taken i content p) ≡ Some k
          which None none = turn_same s p (after_taken i content p) (λ j. elim (cases_eq j i) [
            | inl same ↦ subst (λ (m : ℕ). outcomes (after_taken i content p) m ≡ outcomes p m) (sym same)
                (ap outcomes_in here ∙ so.adds ∙ ap (λ (o : Option Outcome). with_outcome o (outcomes p i)) none)
            | inr other ↦ ap outcomes_in (elsewhere_same i j content p other)
          ]) ∙ have k there two (before k opens)
          which (Some o) some =
              let on : is_some (outcome_in (begun_by (p.calls i)) status word) ≡ true = ap is_some some in
              let same : i ≡ k = same_Some i k (sym (have i inside two
              (elim (cases_Option (open_in (begun_by (p.calls i)))) [
                | inl none ↦ let on = rw none at (so.was_open on) in
                    absurd (cc)
                | inr (x, some) ↦ rw some
              ])) ∙ (have k there two (before k opens))) in
              let closed : is_idle (after_taken i content p) i ≡ true = ap (λ (l : List Begun). is_none (open_in l)) here ∙ so.closes on in
              absurd (both_ways (is_idle (after_taken i content p) k) opens (subst (λ (m : ℕ). is_idle (after_taken i content p) m ≡ true) same closed))

  -- the MDT
  mdt_turn : (p : Past) → AllHaveTurn p → AllHaveTurn (after_mdt s p)
  mdt_turn p have k there two opens = by (task_begun s (settled s p) k) refl (ap (λ (l : List Begun). is_none (open_in l)) (sym (send_same (is_sent_to (ready_to_send s p) (addressed_in s (ready_to_send s p)) k) ((ready_to_send s p).calls k))) ∙ opens)
    where
      settled_turn : in_turn s (settled s p) ≡ in_turn s p
      settled_turn = turn_same s p (settled s p) (λ j. ap (λ (calls : ℕ → List ChannelCall). outcomes_in (begun_by (calls j))) (leaves s p).calls)

      by : (o : Option Task) → task_begun s (settled s p) k ≡ o → is_none (open_in (begun_by (with_begin o ((settled s p).calls k)))) ≡ false → in_turn s (after_mdt s p) ≡ Some k
      by None none opens =
          turn_same s p (after_mdt s p) (λ j. mdt_adds s p j) ∙ have k there (sym (leaves s p).phase ∙ two)
          (ap (λ (calls : ℕ → List ChannelCall). is_none (open_in (begun_by (calls k)))) (sym ((leaves s p).calls)) ∙ opens)
      by (Some t) some opens = turn_same s p (after_mdt s p) (λ j. mdt_adds s p j) ∙ sym settled_turn ∙
          (begins_next s (settled s p) k t some).turn two

  -- In phases 0 and 1 nothing was begun.
  pub none_begun : (k : ℕ) (plan : Option PlanView) (waiting : List Task) (phase : ℕ) (begun : List Begun) (tasks : List Task) → AreWaiting waiting → AreBegunTasks s k plan waiting phase begun tasks → phase ≤ 1 → begun ≡ []
  none_begun k plan waiting phase [] tasks are tasks_are low = refl
  none_begun k plan waiting phase (b ∷ older) [] are tasks_are low = absurd tasks_are
  none_begun k plan waiting phase (b ∷ older) (t ∷ tasks) are tasks_are low = let two =
      (task_phase s k tasks_are.1.by_then waiting (outcomes_in older) t are tasks_are.1.task).0 in let early = tasks_are.1.early in absurd
      (omega (arith, two, early, low))

  module _ (requests : ℕ → List Task) (are : (j : ℕ) → AreWaiting (requests j)) where
    pub none_early : (h : List Call) (k : ℕ) → k < length s.drives → (past s requests h).now.phase ≤ 1 → begun_by ((past s requests h).calls k) ≡ []
    none_early h k there low =
        let p = past s requests h in
        none_begun k p.plan (p.waiting k) p.now.phase (begun_by (p.calls k)) (p.tasks k) (all_waiting s requests h are k) (begun_tasks s k there requests h) low

    goes_turn : (h : List Call) (done : Bool) → AllHaveTurn (past s requests h) → AllHaveTurn (going done (past s requests h))
    goes_turn h false have k there two opens = turn_same s (past s requests h) (going false (past s requests h)) (λ j. refl)
        ∙ have k there two opens
    goes_turn h true have k there two opens = absurd (both_ways (is_idle (past s requests h) k) opens
        (ap (λ (l : List Begun). is_none (open_in l)) (none_early h k there (omega (arith, two)))))

    pub all_in_turn : (h : List Call) → AllHaveTurn (past s requests h)
    all_in_turn = past_keeps AllHaveTurn s requests (record {
      first = λ k there two opens. absurd (omega (arith, two));
      mst = λ h whole have. have;
      taken = λ h i content inside is. taken_turn i content (past s requests h) inside;
      mdt = λ h. mdt_turn (past s requests h);
      on = λ h done is. goes_turn h done;
      new = λ h cycle have k there two opens. absurd (omega (arith, two));
    })
