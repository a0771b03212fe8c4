-- A request of the start-up that a drive refuses in phase 2 is the write of the cycle time, outside the drive's limits.
use Rattle.sercos_law_run.proofs.Words.{◌≡◌, ◌⊎◌, ℕ, ◌+◌, ◌<◌, ◌≤◌, Bool, true, false, List, [], ◌∷◌, ◌++◌, Option, Some, None, refl, sym, ap, ◌∙◌, subst, arith, if◌then◌else◌, beq, Code, Request, Answer, answer_words, is_whole, outcome_of, bytes_in, row, store_of, DriveView, Processed, Entry, ahs, accepted, answered, writes_of, Begun, idn, command, command_in, epoch_records, unless_restart, begun_in, records_in_views, log_in, AreExact, replies_of, Unsent, Unheard, HaveBlocks, IsTransfer, View, with_record, processed_in, AreSound, AreSmall, all_entries, epoch, cycle_exact, entries_ago, entries_in_epochs, IsStoreOf, AreStored, make_transfers, have_replies, processes_in_phase, IsViewRun, cases_Bool, inl, inr, HeardPart, Outcome}
use Rattle.sercos_law_run.proofs.Held.AnsweredRuns.{EntriesStored, entries_stored}
use Rattle.sercos_law_run.proofs.Settings.NoCheck127.{next_still, stays}
use Rattle.sercos_law_run.proofs.Undisturbed.Arriving.Small.{first_is}

-- THE PHASES in which the steps of an epoch were accepted
abbrev IsBetween : ℕ → Processed → Type 0
IsBetween n t = (t.phase ≤ n) × (2 ≤ t.phase)

abbrev AreBetween : ℕ → List Processed → Type 0
AreBetween n [] = Unit {0}
AreBetween n (t ∷ h) = AreBetween n h × IsBetween n t

between_more : (n m : ℕ) (h : List Processed) → n ≤ m → AreBetween n h → AreBetween m h
between_more n m [] le are = tt
between_more n m (t ∷ h) le are = (between_more n m h le are.0, (omega (arith, are.1.0, le), are.1.1))

between_accepted : (n : ℕ) (h : List Processed) → AreBetween n h → AreBetween n (accepted h)
between_accepted n [] are = tt
between_accepted n (t ∷ h) are = elim (cases_Bool (beq t.mhs (ahs h))) [
  | inl on ↦ rw on (between_accepted n h are.0)
  | inr off ↦ rw off ((between_accepted n h are.0), are.1)
]

newest_between : (n : ℕ) (h : List Processed) (e : Entry) (entries rest : List Entry) → answered h ≡ (e ∷ entries) ++ rest → AreBetween n h → IsBetween n e.processed
newest_between n [] e entries rest same are = absurd (cc)
newest_between n (t ∷ h) e entries rest same are = subst (λ (x : Entry). IsBetween n x.processed) (first_is _ _ _ _ same).0 are.1

cycle_between : (v : View) (past : List View) → v.phase ≡ command_in v past → AreBetween (command past) (epoch_records past) → AreBetween v.phase (records_in_views v past)
cycle_between v past commanded before = by (processed_in v past) refl (elim (cases_Bool v.master_restarts) [
  | inl on ↦ rw on tt
  | inr off ↦ rw off (between_more (command past) v.phase (epoch_records past) (omega (arith, (rw off at commanded))) before)
])
  where
    by : (o : Option Processed) → processed_in v past ≡ o → AreBetween v.phase (unless_restart v (epoch_records past)) → AreBetween v.phase (with_record o (unless_restart v (epoch_records past)))
    by None none are = are
    by (Some t) some are = let is = processes_in_phase v past t some in (are, (omega (arith, is.0), is.2))

epoch_between : (busy : ℕ) (past : List View) → IsViewRun busy past → AreBetween (command past) (epoch_records past)
epoch_between busy [] run = tt
epoch_between busy (v ∷ past) run = ended v.falls v.rises (cycle_between v past run.1.commanded (epoch_between busy past run.0))
  where
    ended : (f u : Bool) → AreBetween v.phase (records_in_views v past) → AreBetween (if f then 0 else (if u then v.phase + 1 else v.phase)) (if f then [] else records_in_views v past)
    ended true u are = tt
    ended false true are = between_more v.phase (v.phase + 1) (records_in_views v past) (omega arith) are
    ended false false are = are

-- THE STEP THAT WAS REFUSED is the newest of the newest request.
pub record IsRefused (d : DriveView) (r : Request) (code : Code) (phase : ℕ) : Type 0 where
  pub e : Entry
  pub entries : List Entry
  pub log : List Entry
  pub transfer : IsTransfer r (store_of d) e entries log
  pub error : e.answer.error ≡ true
  pub code_is : e.answer.word ≡ code.raw
  pub between : (e.processed.phase ≤ phase) × (2 ≤ e.processed.phase)
  pub stored : IsStoreOf d e.processed.blocks

refused_is : (r : Request) (a : Answer) (h : List Answer) (code : Code) → outcome_of r (a ∷ h) ≡ Some (Outcome.Refused code) → (a.error ≡ true) × (a.word ≡ code.raw)
refused_is r a h code is = elim (cases_Bool a.error) [
  | inl on ↦ (on, ap (λ (c : Code). c.raw) (same_code (rw on at is)))
  | inr off ↦ elim (cases_Bool (is_whole r (answer_words h ++ a.word ∷ []))) [
    | inl whole ↦ let is = rw (off, whole) at is in absurd (cc)
    | inr whole ↦ let is = rw (off, whole) at is in absurd (cc)
  ]
]
  where
    same_code : {x y : Code} → Some (Outcome.Refused x) ≡ Some (Outcome.Refused y) → x ≡ y
    same_code e = cc

module _ (busy : ℕ) (d : DriveView) (small : AreSmall (store_of d)) (v : View) (past : List View)
    (run : IsViewRun busy (v ∷ past)) (sound : AreSound (store_of d) (v ∷ past)) (stored : AreStored d (v ∷ past)) where
  have : HaveBlocks (store_of d) (log_in v past)
  have = (epoch (store_of d) busy (stays v ∷ past) (run.0, next_still busy v past run.1) sound).alike

  have_first : (part rest : List Entry) → HaveBlocks (store_of d) (part ++ rest) → HaveBlocks (store_of d) part
  have_first [] rest are = tt
  have_first (e ∷ part) rest are = (have_first part rest are.0, are.1)

  pub newest_refused : (one : Begun) (older : List Begun) (code : Code) → begun_in v past ≡ one ∷ older → outcome_of one.request one.answers ≡ Some (Outcome.Refused code) → (ref : IsRefused d one.request code v.phase) × (log_in v past ≡ ref.e ∷ (ref.entries ++ ref.log))
  newest_refused one older code split refused = by (subst (λ (l : List Begun). AreExact (store_of d) l (log_in v past) (writes_of (log_in v past))) split (cycle_exact (store_of d) busy small v past run sound))
    where
      by : AreExact (store_of d) (one ∷ older) (log_in v past) (writes_of (log_in v past)) → (ref : IsRefused d one.request code v.phase) × (log_in v past ≡ ref.e ∷ (ref.entries ++ ref.log))
      by (part, rest, own, others, of_entries, of_writes, is, behind) = elim is.part_of [
        | Unsent none no_answers ↦ let nothing : None ≡ Some (Outcome.Refused code) = sym (ap (outcome_of one.request) no_answers) ∙ refused in absurd (cc)
        | Unheard e entries of_part row answers ↦ let nothing : None ≡ Some (Outcome.Refused code) = sym (ap (outcome_of one.request) answers ∙ row.goes_on) ∙ refused in absurd (cc)
        | HeardPart e entries of_part row answers ↦
            let log_so : log_in v past ≡ (e ∷ entries) ++ rest = of_entries ∙ ap (λ (l : List Entry). l ++ rest) of_part in
            let ends = refused_is one.request e.answer (replies_of entries) code (sym (ap (outcome_of one.request) answers) ∙ refused) in
            let all : all_entries (stays v ∷ past) ≡ ((e ∷ entries) ++ rest) ++ entries_ago (stays v ∷ past) =
            entries_in_epochs busy (stays v ∷ past) (run.0, next_still busy v past run.1) ∙ ap (λ (l : List Entry). l ++ entries_ago (stays v ∷ past)) log_so in (
              record {
                e = e;
                entries = entries;
                log = rest;
                transfer = make_transfers one (store_of d) e entries rest row (have_replies (accepted (records_in_views v past)) (e ∷ entries) rest log_so) (have_first (e ∷ entries) rest (subst (HaveBlocks (store_of d)) log_so have));
                error = ends.0;
                code_is = ends.1;
                between = newest_between v.phase (accepted (records_in_views v past)) e entries rest log_so (between_accepted v.phase (records_in_views v past) (cycle_between v past run.1.commanded (epoch_between busy past run.0)));
                stored = (subst (EntriesStored d) all (entries_stored d (stays v ∷ past) stored)).1.1;
              },
              log_so,
            )
      ]

-- THE REQUEST
pub record IsCycle (d : DriveView) (cycle : ℕ) (q : Request) (code : Code) : Type 0 where
  pub asks : q ≡ Request.Write (idn 2) 7 (bytes_in (cycle ∷ []))
  pub limit : ((cycle < d.cycle_min) × (code.raw ≡ 0x7006)) ⊎ ((d.cycle_max < cycle) × (code.raw ≡ 0x7007))
