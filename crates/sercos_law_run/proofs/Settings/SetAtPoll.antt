-- At the last poll of a complete setting of a procedure command, the newest write to the command is that of the setting.
use Rattle.sercos_law_run.proofs.Words.{◌≡◌, ℕ, ◌≤◌, Bool, true, false, not, ◌&&◌, List, [], ◌∷◌, ◌++◌, length, refl, sym, ap, ap₂, ◌∙◌, subst, arith, if◌then◌else◌, ◌==◌, Option, Some, None, option_map, option_and_then, eq-eqb, Idn, Step, Request, Outcome, outcome_of, Block, Entry, open_idn, run_before, with_added, written_by, writes_of, replies_of, IsTransfer, is_complete, setting, second_of, added_by_setting, cancelled_by, newest_step, without_newest, goes_on-outcome_of, newest_to, ends_with_status, sets_and_cancels, AreStepAnswers}
use Rattle.sercos_law_run.proofs.Undisturbed.Arriving.Small.{first_is}

-- if a transfer goes on, its second step wasn't refused
second_fine : (r : Request) (x : Entry) (entries : List Entry) → AreStepAnswers r (replies_of (x ∷ entries)) → outcome_of r (replies_of (x ∷ entries)) ≡ None → 1 ≤ length entries → (y : Entry) × (second_of (x ∷ entries) ≡ Some y) × (y.answer.error ≡ false)
second_fine r x [] are on long = absurd (omega arith)
second_fine r x (d ∷ []) are on long = (x, refl, (goes_on-outcome_of r x.answer (replies_of (d ∷ [])) on).0)
second_fine r x (d ∷ c ∷ entries) are on long = second_fine r d (c ∷ entries) are.0 are.1 (omega arith)

pub record IsSetAtPoll (raw : ℕ) (e : Entry) (entries log : List Entry) : Type 0 where
  pub poll : Entry
  pub before : List Entry
  pub behind : entries ≡ poll ∷ before
  pub newest : newest_to raw (writes_of (before ++ log)) ≡ Some (3 ∷ 0 ∷ [])

-- a transfer begins with its opening, which is a write
not_first : (idn : Idn) (blocks : List Block) (poll : Entry) (log : List Entry) → IsTransfer (Request.Command idn) blocks poll [] log → poll.processed.step.write ≡ false → ⊥
not_first idn blocks poll log is reads = let first : Some poll.processed.step.write ≡ Some true = ap (option_map (λ (s : Step). s.write)) (sym (newest_step (Request.Command idn) blocks log poll [] is)) in cc

longer : (idn : Idn) (blocks : List Block) (poll : Entry) (before log : List Entry) → IsTransfer (Request.Command idn) blocks poll before log → poll.processed.step.write ≡ false → 1 ≤ length before
longer idn blocks poll [] log is reads = absurd (not_first idn blocks poll log is reads)
longer idn blocks poll (x ∷ before) log is reads = omega arith

module _ (idn : Idn) (blocks : List Block) where
  set_poll : (e poll : Entry) (before log : List Entry) → IsTransfer (Request.Command idn) blocks e (poll ∷ before) log → poll.processed.step.write ≡ false → 1 ≤ length before → newest_to idn.raw (writes_of (before ++ log)) ≡ Some (3 ∷ 0 ∷ [])
  set_poll e poll before log is reads long =
      let second = second_fine (Request.Command idn) poll before is.in_turn is.goes_on long in
      ap (newest_to idn.raw) (sym (ap (λ (v : Bool). with_added
      (if v && ((poll.processed.step.element == 7) && (poll.processed.step.last && not poll.answer.error)) then option_and_then
      (written_by poll.processed (run_before true 7 (before ++ log))) (open_idn (before ++ log)) else None) (writes_of (before ++ log)))
      reads) ∙ sets_and_cancels idn blocks poll before log (without_newest (Request.Command idn) blocks log e poll before is)
      ∙ ap₂ (λ (o : Option Outcome) (s : Option Entry). cancelled_by idn.raw (is_complete o) poll ++ (added_by_setting idn.raw s ++ writes_of log)) is.goes_on second.1)
      ∙ ap (λ (v : Bool). newest_to idn.raw ((if v then [] else setting idn.raw 3 second.0 ∷ []) ++ writes_of log)) second.2
      ∙ ap (λ (v : Bool). if v then Some (3 ∷ 0 ∷ []) else newest_to idn.raw (writes_of log)) (eq-eqb idn.raw idn.raw refl)

  pub set_at_poll : (e : Entry) (entries log : List Entry) (bytes : List ℕ) → IsTransfer (Request.Command idn) blocks e entries log → outcome_of (Request.Command idn) (replies_of (e ∷ entries)) ≡ Some (Outcome.Complete bytes) → IsSetAtPoll idn.raw e entries log
  set_at_poll e entries log bytes is complete =
      let (cancel, poll, before, split, reads, element, gives) = ends_with_status idn bytes blocks e entries log is complete in
      let behind : entries ≡ poll ∷ before = (first_is e cancel entries (poll ∷ before) split).1 in
      let whole = subst (λ (l : List Entry). IsTransfer (Request.Command idn) blocks e l log) behind is in
      record {
        poll = poll;
        before = before;
        behind = behind;
        newest = set_poll e poll before log whole reads
            (longer idn blocks poll before log (without_newest (Request.Command idn) blocks log e poll before whole) reads);
      }
