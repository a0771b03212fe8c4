-- At each entry of an epoch's log a procedure command is set if the newest write to it, among the entries before, isn't 0.
use Rattle.sercos_law_run.proofs.Words.{◌≡◌, ℕ, true, false, List, [], ◌∷◌, ◌++◌, sym, ap, ◌∙◌, subst, ◌==◌, Some, is_some, w16, from_le_bytes, is_command, find_set, set_in, Processed, Entry, writes_of, View, unless_restart, epoch_records, epoch_log, newest_to, kept_same, HaveStores, AreSetBy, IsCommandAt, SettingsFollow, Block, newest, IsViewRun}
use Rattle.sercos_law_run.proofs.Settings.SetRuns.{set_by_writes}
use Rattle.sercos_law_run.proofs.Settings.SetKept.{set_by_kept}
use Rattle.sercos_law_run.proofs.Settings.EpochRecords.{at_entry, epoch_next}

-- at each record the settings are what the records before it left
abbrev pub AllSet : List Processed → Type 0
AllSet [] = Unit {0}
AllSet (t ∷ h) = AllSet h × AreSetBy h t.commands

module _ (raw : ℕ) where
  module _ (busy : ℕ) where
    -- the records of an epoch
    pub epoch_set : (past : List View) → IsViewRun busy past → SettingsFollow past → AllSet (epoch_records past)
    epoch_set [] run follow = tt
    epoch_set (v ∷ past) run follow = epoch_next AllSet v past tt (λ t some blocks commands all. (
      all,
      subst (AreSetBy (unless_restart v (epoch_records past))) (sym commands)
          (subst (λ (h : List Processed). AreSetBy h v.commands) (kept_same busy v past run t some) (set_by_kept v past follow)),
    ))
        (epoch_set past run.0 follow.0)

    pub epoch_commands : (past : List View) → HaveStores (λ blocks. is_command blocks raw ≡ true) past → IsCommandAt raw (epoch_records past)
    epoch_commands [] have = tt
    epoch_commands (v ∷ past) have = epoch_next (IsCommandAt raw) v past tt
        (λ t some blocks commands all. (all, ap (λ (l : List Block). is_command l raw) blocks ∙ have.1)) (epoch_commands past have.0)

    -- so at an entry of the epoch's log
    pub set_at_entry : (past : List View) (newer : List Entry) (e : Entry) (behind : List Entry) (bytes : List ℕ) → IsViewRun busy past → SettingsFollow past → HaveStores (λ blocks. is_command blocks raw ≡ true) past →
        epoch_log past ≡ newer ++ e ∷ behind → newest_to raw (writes_of behind) ≡ Some bytes → (from_le_bytes w16 bytes == 0) ≡ false → is_some (find_set raw (set_in e.processed.commands)) ≡ true
    set_at_entry past newer e behind bytes run follow have is newest off =
        let (kept, log_is, both) = at_entry (λ h. AllSet h × IsCommandAt raw h) (λ t h all. (all.0.0, all.1.0)) (epoch_records past) newer e
        behind
        (epoch_set past run follow, epoch_commands past have) is in
        set_by_writes raw kept e.processed.commands bytes both.0.1 both.1.0
        (ap (λ (l : List Entry). newest_to raw (writes_of l)) log_is ∙ newest) off
