-- What the drive accepted and wrote in the whole run is what it did in the epochs, one after the other.
use Rattle.sercos_law_channel.proofs.Words.{◌≡◌, ℕ, Bool, true, false, List, [], ◌∷◌, ◌++◌, refl, sym, ap, ◌∙◌, arith, if◌then◌else◌, Option, Some, None, beq, Processed, Entry, ahs, reply_of, answered, log_of, Write, with_added, writes_of, added_on, View, processed_in, with_record, kept_in, unless_restart, epoch_records, records_in_views, epoch_log, log_in, IsRun, accepted_of, all_entries, write_of, all_writes, leaving, grows, inl, inr, cases_Bool}
use Rattle.sercos_law_channel.proofs.Handshake.PhaseMoves.{Nothing, Record, processes, processed_phase}
use Rattle.sercos_law_channel.proofs.Handshake.EpochRuns.{joined, same_at}

-- each entry of a log has the reply to its step, after those before it
abbrev pub HasReplies : List Entry → Type 0
HasReplies [] = Unit {0}
HasReplies (e ∷ log) = HasReplies log × (e.answer ≡ reply_of e.processed log)

pub answered_replies : (h : List Processed) → HasReplies (answered h)
answered_replies [] = tt
answered_replies (t ∷ h) = (answered_replies h, refl)

-- what the epochs that have ended have left
abbrev pub entries_ago : List View → List Entry
entries_ago [] = []
entries_ago (v ∷ past) = leaving v.falls (log_in v past) (leaving v.master_restarts (epoch_log past) (entries_ago past))

abbrev pub writes_ago : List View → List Write
writes_ago [] = []
writes_ago (v ∷ past) = leaving v.falls (writes_of (log_in v past)) (leaving v.master_restarts (writes_of (epoch_log past)) (writes_ago past))

with_added-append : (o : Option Write) (writes ago : List Write) → with_added o (writes ++ ago) ≡ with_added o writes ++ ago
with_added-append None writes ago = refl
with_added-append (Some w) writes ago = refl

pub written : (t : Processed) (h : List Processed) → with_added (added_on t h) (writes_of (log_of h)) ≡ writes_of (log_of (t ∷ h))
written t h = sym (grows t h)

entries_more : (o : Option Processed) (kept h : List Processed) (ago : List Entry) → ((t : Processed) → o ≡ Some t → kept ≡ h) → accepted_of o kept (log_of h ++ ago) ≡ log_of (with_record o h) ++ ago
entries_more None kept h ago same = refl
entries_more (Some t) kept h ago same = ap (λ (k : List Processed). accepted_of (Some t) k (log_of h ++ ago)) (same t refl)
    ∙ (elim (cases_Bool (beq t.mhs (ahs h))) [ inl on ↦ rw on | inr off ↦ rw off ])

writes_more : (o : Option Processed) (kept h : List Processed) (ago : List Write) → ((t : Processed) → o ≡ Some t → kept ≡ h) → with_added (write_of o kept) (writes_of (log_of h) ++ ago) ≡ writes_of (log_of (with_record o h)) ++ ago
writes_more None kept h ago same = refl
writes_more (Some t) kept h ago same =
    ap (λ (k : List Processed). with_added (added_on t k) (writes_of (log_of h) ++ ago)) (same t refl) ∙ with_added-append (added_on t h) (writes_of (log_of h)) ago ∙ ap (λ (l : List Write). l ++ ago) (written t h)

-- a restart and a fall move what there is to what was left
moved_on : {A : Type 0} (ends : Bool) (f : List Processed → List A) (h : List Processed) (ago : List A) → f [] ≡ [] → f h ++ ago ≡ f (if ends then [] else h) ++ leaving ends (f h) ago
moved_on {A = A} true f h ago none = sym (ap (λ (l : List A). l ++ (f h ++ ago)) none)
moved_on false f h ago none = refl

module _ (busy : ℕ) where
  -- what a drive that processes a record keeps is what it took in this epoch
  pub kept_same : (v : View) (past : List View) → IsRun busy (v ∷ past) → (t : Processed) → processed_in v past ≡ Some t → kept_in v past ≡ unless_restart v (epoch_records past)
  kept_same v past run t is = elim (processes v past) [
    | Nothing none ↦ absurd (cc)
    | Record s got came two some ↦
        let phase = processed_phase v past came (omega arith) in
        same_at busy v past run (joined busy past run.0) (omega arith) (λ z. omega arith)
  ]

  pub entries_in_epochs : (past : List View) → IsRun busy past → all_entries past ≡ epoch_log past ++ entries_ago past
  entries_in_epochs [] run = refl
  entries_in_epochs (v ∷ past) run =
      ap (accepted_of (processed_in v past) (kept_in v past)) (entries_in_epochs past run.0 ∙ moved_on v.master_restarts log_of (epoch_records past) (entries_ago past) refl)
      ∙ entries_more (processed_in v past) (kept_in v past) (unless_restart v (epoch_records past)) (leaving v.master_restarts (epoch_log past) (entries_ago past)) (kept_same v past run)
      ∙ moved_on v.falls log_of (records_in_views v past) (leaving v.master_restarts (epoch_log past) (entries_ago past)) refl

  pub writes_in_epochs : (past : List View) → IsRun busy past → all_writes past ≡ writes_of (epoch_log past) ++ writes_ago past
  writes_in_epochs [] run = refl
  writes_in_epochs (v ∷ past) run =
      ap (with_added (write_of (processed_in v past) (kept_in v past))) (writes_in_epochs past run.0 ∙ moved_on v.master_restarts (λ h. writes_of (log_of h)) (epoch_records past) (writes_ago past) refl)
      ∙ writes_more (processed_in v past) (kept_in v past) (unless_restart v (epoch_records past)) (leaving v.master_restarts (writes_of (epoch_log past)) (writes_ago past)) (kept_same v past run)
      ∙ moved_on v.falls (λ h. writes_of (log_of h)) (records_in_views v past) (leaving v.master_restarts (writes_of (epoch_log past)) (writes_ago past)) refl
