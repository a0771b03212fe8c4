-- In a run in which each check for phase 3 was set well, each complete one of an epoch gives 3.
use Rattle.sercos_law_run.proofs.Words.{◌≡◌, ℕ, true, List, [], ◌∷◌, ◌++◌, refl, sym, ap, ap₂, ◌∙◌, subst, append_assoc, Some, None, Request, outcome_of, Block, is_command, Processed, Entry, accepted, Begun, HaveBlocks, IsTransfer, IsRow, IsPart, Unsent, Unheard, AreParts, fall_into_parts, in_step, HasReplies, answered_replies, epoch, split_replies, split_blocks, View, epoch_begun, epoch_records, epoch_log, AreSound, idn, HaveStores, are_well_set, StandWell, SettingsFollow, SetCommand, find_set, set_in, IsViewRun, HeardPart, Outcome}
use Rattle.sercos_law_run.proofs.Settings.WellRuns.{found_well, stand_well}
use Rattle.sercos_law_run.proofs.Settings.SetInEpoch.{set_at_entry}
use Rattle.sercos_law_run.proofs.Settings.CheckGives3.{check_gives_3}
use Rattle.sercos_law_run.proofs.Settings.EpochRecords.{at_entry, epoch_next}
use Rattle.sercos_law_run.specs.Settings.Checks.{ChecksGive3}

-- the part of a request in the log
pub record IsPartAt (log : List Entry) (b : Begun) : Type 0 where
  pub front : List Entry
  pub part : List Entry
  pub rest : List Entry
  pub split : log ≡ front ++ (part ++ rest)
  pub is : IsPart b part

pub part_at : (newer older : List Begun) (b : Begun) (log : List Entry) → AreParts (newer ++ b ∷ older) log → IsPartAt log b
part_at [] older b log (part, rest, those, is, others) = record { front = []; part = part; rest = rest; split = those; is = is }
part_at (x ∷ newer) older b log (part, rest, those, is, others) =
    let more = part_at newer older b rest others in
    record { front = part ++ more.front; part = more.part; rest = more.rest; split = those ∙ ap (λ (l : List Entry). part ++ l) more.split ∙ sym (append_assoc part more.front (more.part ++ more.rest)); is = more.is }

pub poll_at : (log : List Entry) (b : Begun) (at : IsPartAt log b) (e : Entry) (entries : List Entry) → at.part ≡ e ∷ entries → (poll : Entry) (before : List Entry) → entries ≡ poll ∷ before
    → log ≡ (at.front ++ e ∷ []) ++ poll ∷ (before ++ at.rest)
poll_at log b at e entries part poll before behind =
    at.split ∙ ap (λ (l : List Entry). at.front ++ (l ++ at.rest)) part ∙ ap (λ (l : List Entry). at.front ++ ((e ∷ l) ++ at.rest)) behind
    ∙ sym (append_assoc at.front (e ∷ []) (poll ∷ (before ++ at.rest)))

-- it is a transfer
pub transfer_at : (blocks : List Block) (log : List Entry) (b : Begun) (at : IsPartAt log b) (e : Entry) (entries : List Entry) → HasReplies log → HaveBlocks blocks log → at.part ≡ e ∷ entries → IsRow b e entries
    → IsTransfer b.request blocks e entries at.rest
transfer_at blocks log b at e entries replied same part row =
    let log_is : log ≡ at.front ++ ((e ∷ entries) ++ at.rest) = at.split ∙ ap (λ (l : List Entry). at.front ++ (l ++ at.rest)) part in
    record {
      steps = row.steps;
      in_turn = row.in_turn;
      goes_on = row.goes_on;
      replies = (split_replies (e ∷ entries) at.rest (split_replies at.front ((e ∷ entries) ++ at.rest) (subst HasReplies log_is replied)).1).0;
      alike = (split_blocks blocks (e ∷ entries) at.rest (split_blocks blocks at.front ((e ∷ entries) ++ at.rest) (subst (HaveBlocks blocks) log_is same)).1).0;
    }

-- at each of these records, each check for phase 3 that is set ends well
abbrev pub WellAt : List Processed → Type 0
WellAt [] = Unit {0}
WellAt (t ∷ h) = WellAt h × (are_well_set t.commands ≡ true)

epoch_well : (past : List View) → StandWell past → WellAt (epoch_records past)
epoch_well [] well = tt
epoch_well (v ∷ past) well =
    epoch_next WellAt v past tt (λ t some blocks commands all. (all, ap are_well_set commands ∙ well.1)) (epoch_well past well.0)

module _ (raw busy : ℕ) (blocks : List Block) where
  -- EACH COMPLETE COMMAND of the epoch gives 3, if it ends well wherever it is set.
  pub checks_give : (past : List View) → IsViewRun busy past → AreSound blocks past → SettingsFollow past
      → ((newer : List Entry) (poll : Entry) (behind : List Entry) → epoch_log past ≡ newer ++ poll ∷ behind → (s : SetCommand) → find_set
      raw (set_in poll.processed.commands) ≡ Some s → s.well ≡ true)
      → HaveStores (λ blocks. is_command blocks raw ≡ true) past →
      (newer older : List Begun) (b : Begun) (bytes : List ℕ) → epoch_begun past ≡ newer ++ b ∷ older → b.request ≡ Request.Command
      (idn raw) → outcome_of b.request b.answers ≡ Some (Outcome.Complete bytes) → bytes ≡ 3 ∷ 0 ∷ []
  checks_give past run sound follow well have newer older b bytes split asks complete = elim at.is [
    | Unsent none answers ↦ let on : outcome_of b.request b.answers ≡ None = ap (outcome_of b.request) answers in absurd (cc)
    | HeardPart e entries those row answers ↦ let transfer = transfer_at blocks (epoch_log past) b at e entries
        (answered_replies (accepted (epoch_records past))) (epoch blocks busy past run sound).alike those row in
        check_gives_3 raw blocks e entries at.rest bytes (subst (λ (r : Request). IsTransfer r blocks e entries at.rest) asks transfer)
        (sym (ap₂ (λ (r : Request) (h : List _). outcome_of r h) asks answers) ∙ complete)
        (λ poll before behind. well (at.front ++ e ∷ []) poll (before ++ at.rest)
        (poll_at (epoch_log past) b at e entries those poll before behind))
        (λ poll before behind newest. set_at_entry raw busy past (at.front ++ e ∷ []) poll (before ++ at.rest) (3 ∷ 0 ∷ []) run follow
        have (poll_at (epoch_log past) b at e entries those poll before behind) newest refl)
    | Unheard e entries those row answers ↦ let on : outcome_of b.request b.answers ≡ None = ap (outcome_of b.request) answers ∙ row.goes_on in absurd (cc)
  ]
    where
      at : IsPartAt (epoch_log past) b
      at = part_at newer older b (epoch_log past) (subst (λ (l : List Begun). AreParts l (epoch_log past)) split (fall_into_parts (epoch_begun past) (epoch_log past) (epoch blocks busy past run sound).in_turn (in_step busy past run)))

-- so does each complete check for phase 3
pub checks_give_3 : (busy : ℕ) → ChecksGive3 busy
checks_give_3 busy blocks past run sound follow well have = checks_give 127 busy blocks past run sound follow
    (λ newer poll behind is s. found_well (set_in poll.processed.commands) s
    (at_entry WellAt (λ t h all. all.0) (epoch_records past) newer poll behind (epoch_well past (stand_well past well)) is).2.1)
    have
