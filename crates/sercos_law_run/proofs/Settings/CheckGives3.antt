-- A complete procedure command gives 3, if it is set where the newest write to it isn't 0, and each that is set ends well.
use Rattle.sercos_law_run.proofs.Words.{◌≡◌, inl, inr, ℕ, ◌/◌, ◌%◌, true, List, [], ◌∷◌, ◌++◌, sym, ap, ◌∙◌, subst, arith, Some, is_some, bytes_in, outcome_of, Block, SetCommand, find_set, set_in, Entry, writes_of, replies_of, IsTransfer, newest_to, idn, ends_with_status, Request, Outcome}
use Rattle.sercos_law_run.proofs.Settings.WellRuns.{complete_status}
use Rattle.sercos_law_run.proofs.Settings.Histories.{status_ends}
use Rattle.sercos_law_run.proofs.Settings.SetAtPoll.{set_at_poll}
use Rattle.sercos_law_run.proofs.Undisturbed.Arriving.Small.{first_is}

pub seven_of : (x : ℕ) → bytes_in (x ∷ []) ≡ 7 ∷ 0 ∷ [] → x ≡ 7
seven_of x same = let low : x % 256 ≡ 7 = cc in let high : x / 256 ≡ 0 = cc in omega arith

module _ (raw : ℕ) (blocks : List Block) where
  pub check_gives_3 : (e : Entry) (entries log : List Entry) (bytes : List ℕ) → IsTransfer (Request.Command (idn raw)) blocks e entries log
      → outcome_of (Request.Command (idn raw)) (replies_of (e ∷ entries)) ≡ Some (Outcome.Complete bytes) →
      ((poll : Entry) (before : List Entry) → entries ≡ poll ∷ before → (s : SetCommand) → find_set raw (set_in poll.processed.commands) ≡
      Some s → s.well ≡ true) →
      ((poll : Entry) (before : List Entry) → entries ≡ poll ∷ before → newest_to raw (writes_of (before ++ log)) ≡ Some (3 ∷ 0 ∷ []) →
      is_some (find_set raw (set_in poll.processed.commands)) ≡ true) →
      bytes ≡ 3 ∷ 0 ∷ []
  check_gives_3 e entries log bytes is complete well set =
      let (cancel, poll, before, split, reads, element, gives) = ends_with_status (idn raw) bytes blocks e entries log is complete in
      let behind = set_at_poll (idn raw) blocks e entries log bytes is complete in
      let here : entries ≡ poll ∷ before = (first_is e cancel entries (poll ∷ before) split).1 in
      let both : behind.poll ∷ behind.before ≡ poll ∷ before = sym behind.behind ∙ here in
      let on = subst (λ (x : Entry). is_some (find_set raw (set_in x.processed.commands)) ≡ true)
      (first_is behind.poll poll behind.before before both).0 (set behind.poll behind.before behind.behind behind.newest) in
      let status = complete_status (idn raw) e.answer (replies_of entries) bytes (is.in_turn, is.goes_on) complete in
      elim (status_ends raw poll.processed.cycle poll.processed.commands on (well poll before here)) [
        | inl three ↦ gives ∙ ap (λ (n : ℕ). n ∷ 0 ∷ []) three
        | inr seven ↦ absurd (status.2 (seven_of status.0 (sym status.1 ∙ gives ∙ ap (λ (n : ℕ). n ∷ 0 ∷ []) seven)))
      ]
