-- After any calls a stop has its cause.
use Rattle.sercos_law_run.proofs.Words.{◌≡◌, ℕ, suc, ◌+◌, ◌<◌, Bool, true, ◌&&◌, List, [], ◌∷◌, ◌++◌, length, refl, sym, ap, ◌∙◌, subst, arith, if◌then◌else◌, ap₂, nat_le, Option, Some, None, Err, is_some, is_none, option_map, slice_get, filter, last_or, get_or_from_slice_get, same_Some, slice_get_within, leb-true, status_of, word_at, Idn, Outcome, outcome_of, next_step, record_bytes, WishesView, ChainView, planned, Begun, open_in, begun_by, Stop, is_read, reads_count, stop_by, asked_by, wishes_given, mdt_attributes, RecordEntry, record_entries, entries_from, has_four_bytes, stop_of_entry, last_long_stop, no_member, Known, Task, MemberView, member, with_outcome, outcomes_in, last_outcome, trouble_by, of_phase, each_passes, Brings, OfTrouble, OfChain, OfRecords, channel_keeps, going, made, past_keeps, settled_keeps, stopped, Adds, part_before, asks_same, at_adds, Call, Past, outcomes, is_idle, trouble, after_taken, all_read, settled, has_turn, next_task, with_begin, with_task, is_sent_to, addressed_in, ready_to_send, after_mdt, past, AreTooLong, HasBegunTasks, cases_Option, inl, inr, task_begun}
use Rattle.sercos_master.proofs.Keeping.{came_back}
use Rattle.sercos_law_run.proofs.Agenda.ReadWell.{AllComplete, complete, stay_complete}
use Rattle.sercos_law_run.proofs.Agenda.TaskRuns.{begun_tasks}
use Rattle.sercos_law_run.proofs.Agenda.OneTurn.{idle_hears}
use Rattle.sercos_law_run.proofs.Views.MasterSame.{send_same}

-- A stop is what the outcome of a task of the start-up brought, the newest of its channel; or all reads are complete, and no plan
-- fits what was read, or the records are too long for an MDT by it.
pub data StopsFor (s : Known) (p : Past) (x : Stop) : Type 0 where
  OfTask : (k : ℕ) → (b : Begun) → (older : List Begun) → (t : Task) → (tasks : List Task) → (o : Outcome) → k < length s.drives → begun_by (p.calls k) ≡ b ∷ older → p.tasks k ≡ t ∷ tasks → t.number ≡ None →
      outcome_of b.request b.answers ≡ Some o → stop_by (member s k).address (asked_by t.request) o ≡ Some x → StopsFor s p x
  OfPlan : (chain : ChainView) → x ≡ Stop.NoFit chain → AllComplete s p → all_read s p ≡ true → planned (wishes_given s (outcomes p)) ≡ Err chain → StopsFor s p x
  OfLength : (address : ℕ) → (i : Idn) → (word : ℕ) → x ≡ Stop.BadConfig address i word → AllComplete s p → AreTooLong s p x → StopsFor s p x

abbrev pub StopHasCause : Known → Past → Type 0
StopHasCause s p = (x : Stop) → p.stop ≡ Some x → StopsFor s p x

-- records too long for an MDT are a bad configuration
long_bad : (drives : List MemberView) (k : ℕ) (all : ℕ → List Outcome) (x : Stop) → last_long_stop drives k all ≡ Some x
    → (address : ℕ) × (i : Idn) × (word : ℕ) × (x ≡ Stop.BadConfig address i word)
long_bad drives k all x is = elim (cases_Option (last_or None (filter has_four_bytes (entries_from drives k all)))) [
  | inl none ↦ let is = rw none at is in absurd (cc)
  | inr (e, some) ↦ (e.address, e.idn, e.word, sym (same_Some (stop_of_entry e) x (rw some at is)))
]

-- what is the last value of four bytes stays, if outcomes come after the reads alone
attributes_stay : (d : MemberView) (all : List Outcome) (o : Option Outcome) → is_read d all ≡ true → mdt_attributes d (with_outcome o all) ≡ mdt_attributes d all
attributes_stay d all None read = refl
attributes_stay d all (Some o) read =
    part_before all o (6 + length d.at) (length d.mdt) (omega (arith, leb-true (reads_count d) (length all) read))

entries_same : (drives : List MemberView) (k : ℕ) (f g : ℕ → List Outcome)
    → ((j : ℕ) (d : MemberView) → slice_get drives j ≡ Some d → mdt_attributes d (g (k + j)) ≡ mdt_attributes d (f (k + j)))
    → entries_from drives k g ≡ entries_from drives k f
entries_same [] k f g same = refl
entries_same (d ∷ drives) k f g same =
    ap₂ (λ (l : List ℕ) (entries : List RecordEntry). record_entries d.address d.mdt l ++ entries)
    (subst (λ (n : ℕ). mdt_attributes d (g n) ≡ mdt_attributes d (f n)) (omega arith) (same 0 d refl))
    (entries_same drives (k + 1) f g (λ j e got. let n : k + suc j ≡ (k + 1) + j = omega arith in subst
    (λ (m : ℕ). mdt_attributes e (g m) ≡ mdt_attributes e (f m)) n (same (suc j) e got)))

longs_after : (s : Known) (p q : Past) → Adds p q → all_read s p ≡ true → last_long_stop s.drives 0 (outcomes q) ≡ last_long_stop s.drives 0 (outcomes p)
longs_after s p q adds all =
    ap (λ (entries : List RecordEntry). option_map stop_of_entry (last_or None (filter has_four_bytes entries)))
    (entries_same s.drives 0 (outcomes p) (outcomes q) each)
  where
    each : (j : ℕ) (d : MemberView) → slice_get s.drives j ≡ Some d → mdt_attributes d (outcomes q (0 + j)) ≡ mdt_attributes d (outcomes p (0 + j))
    each j d got =
        let below = slice_get_within s.drives j d got in
        let passes : is_read (member s j) (outcomes p j) ≡ true = each_passes (length s.drives) 0 (λ k. is_read (member s k) (outcomes p k)) all j (omega arith) (omega (arith, below)) in
        let read : is_read d (outcomes p j) ≡ true = subst (λ (m : MemberView). is_read m (outcomes p j) ≡ true) (get_or_from_slice_get s.drives j d no_member got) passes in
        let zero_is : 0 + j ≡ j = omega arith in
        subst (λ (n : ℕ). mdt_attributes d (outcomes q n) ≡ mdt_attributes d (outcomes p n)) (sym zero_is) (ap (mdt_attributes d) (adds j).1 ∙ attributes_stay d (outcomes p j) (adds j).0 read)

module _ (s : Known) where
  -- a cause stays, where idle channels stay as they are and outcomes come at the end alone
  moved : (p q : Past) (x : Stop) → ((k : ℕ) → is_idle p k ≡ true → begun_by (q.calls k) ≡ begun_by (p.calls k)) → ((k : ℕ) → q.tasks k ≡ p.tasks k) → ((j : ℕ) → (o : Option Outcome) × (outcomes q j ≡ with_outcome o (outcomes p j))) →
      StopsFor s p x → StopsFor s q x
  moved p q x same tasks_same adds (OfTask k b older t tasks o there begun begun_tasks number ended is) =
      OfTask k b older t tasks o there (same k (ap (λ (l : List Begun). is_none (open_in l)) begun
      ∙ ap (λ (x : Option Outcome). is_none (if is_some x then None else next_step b.request b.answers)) ended) ∙ begun)
      (tasks_same k ∙ begun_tasks) number ended is
  moved p q x same tasks_same adds (OfPlan chain is whole all made) = let after = asks_same s p q adds all in OfPlan chain is (stay_complete s p q adds whole) after.0 (ap planned after.1 ∙ made)
  moved p q x same tasks_same adds (OfLength address i word is whole (all, long, last)) = let after = asks_same s p q adds all in OfLength address i word is (stay_complete s p q adds whole) (after.0, ap (λ (w : WishesView). nat_le (record_bytes w.drives) 2047) after.1 ∙ long, longs_after s p q adds all ∙ last)

  -- an AT
  taken_has : (i : ℕ) (content : List ℕ) (p : Past) → StopHasCause s p → StopHasCause s (after_taken i content p)
  taken_has i content p has = λ x is. moved p (after_taken i content p) x
      (λ k idle. channel_keeps (λ calls. begun_by calls ≡ begun_by (p.calls k)) i k content p refl
      (λ same. idle_hears (status_of (word_at content 1)) (word_at content 3) (begun_by (p.calls k)) idle)) (λ k. refl)
      (λ j. at_adds i content p j)
      (has x (sym refl ∙ is))

  -- a stop that comes
  of_trouble : (p : Past) (k : ℕ) (x : Stop) → k < length s.drives → trouble s p k ≡ Some x → StopsFor s p x
  of_trouble p k x there is = by (p.tasks k) (begun_by (p.calls k)) refl refl is
    where
      by : (tasks : List Task) (begun : List Begun) → p.tasks k ≡ tasks → begun_by (p.calls k) ≡ begun → trouble_by (member s k).address tasks (last_outcome begun) ≡ Some x → StopsFor s p x
      by [] begun ts bs is = absurd (cc)
      by (t ∷ tasks) [] ts bs is = absurd (cc)
      by (t ∷ tasks) (b ∷ older) ts bs is = elim (cases_Option (outcome_of b.request b.answers)) [
        | inl none ↦ let is = rw none at is in absurd (cc)
        | inr (o, some) ↦ numbered o t.number refl some (rw some at is)
      ]
        where
          numbered : (o : Outcome) (n : Option ℕ) → t.number ≡ n → outcome_of b.request b.answers ≡ Some o → (if is_some n then None else stop_by (member s k).address (asked_by t.request) o) ≡ Some x → StopsFor s p x
          numbered o None none some is = OfTask k b older t tasks o there bs ts none some is
          numbered o (Some i) none some is = absurd (cc)

  settled_has : (p : Past) → ((k : ℕ) → k < length s.drives → HasBegunTasks s p k) → StopHasCause s p → StopHasCause s (settled s p)
  settled_has p are has = settled_keeps (StopHasCause s) s p (λ rests. has)
      (λ y none brings x is. moved p (stopped y p) x (λ k idle. refl) (λ k. refl) (λ j. (None, refl))
      (subst (StopsFor s p) (same_Some y x is) (of_what y brings)))
      (λ plan makes. λ x is. moved p (made plan p) x (λ k idle. refl) (λ k. refl) (λ j. (None, refl)) (has x (sym refl ∙ is)))
    where
      of_what : (x : Stop) → Brings s p x → StopsFor s p x
      of_what x (OfTrouble k there is) = of_trouble p k x there is
      of_what x (OfChain chain is none all fails) = OfPlan chain is (complete s p are all none) all fails
      of_what x (OfRecords none all long is) = let bad = long_bad s.drives 0 (outcomes p) x is in OfLength bad.0 bad.1 bad.2 bad.3
          (complete s p are all none) (all, long, is)

  -- after a stop nothing begins
  mdt_has : (p : Past) → ((k : ℕ) → k < length s.drives → HasBegunTasks s p k) → StopHasCause s p → StopHasCause s (after_mdt s p)
  mdt_has p are has x is = moved (settled s p) (after_mdt s p) x (λ k idle. begun_same k)
      (λ k. ap (λ (t : Option Task). with_task t ((settled s p).tasks k)) (none k)) (λ j. (None, ap outcomes_in (begun_same j)))
      (settled_has p are has x is)
    where
      none : (k : ℕ) → task_begun s (settled s p) k ≡ None
      none k = ap (λ (v : Bool). if v && (is_idle (settled s p) k && has_turn s (settled s p) k) then of_phase (settled s p).now.phase
          (next_task s (settled s p) k) else None) (ap is_none is)

      begun_same : (k : ℕ) → begun_by ((after_mdt s p).calls k) ≡ begun_by ((settled s p).calls k)
      begun_same k =
          send_same (is_sent_to (ready_to_send s p) (addressed_in s (ready_to_send s p)) k) ((ready_to_send s p).calls k)
          ∙ ap (λ (t : Option Task). begun_by (with_begin t ((settled s p).calls k))) (none k)

  pub stop_has_cause : (requests : ℕ → List Task) (h : List Call) → StopHasCause s (past s requests h)
  stop_has_cause requests = past_keeps (StopHasCause s) s requests (record {
    first = λ x is. absurd (cc);
    mst = λ h whole. λ has x is. moved (past s requests h) (came_back whole (past s requests h)) x (λ k idle. refl) (λ k. refl)
        (λ j. (None, refl)) (has x (sym refl ∙ is));
    taken = λ h k content inside is. taken_has k content (past s requests h);
    mdt = λ h. mdt_has (past s requests h) (λ k there. begun_tasks s k there requests h);
    on = λ h done is. λ has x is. moved (past s requests h) (going done (past s requests h)) x (λ k idle. refl) (λ k. refl)
        (λ j. (None, refl)) (has x (sym refl ∙ is));
    new = λ h cycle before x is. absurd (cc);
  })
