-- After any calls a request that is reported as ended was begun in this epoch, and ended so.
use Rattle.sercos_law_run.proofs.Words.{◌≡◌, ◌⊎◌, inl, inr, ℕ, ◌<◌, Bool, true, false, List, [], ◌∷◌, length, refl, sym, ap, ◌∙◌, subst, if◌then◌else◌, Option, Some, None, option_or, Status, Answer, Outcome, outcome_of, Begun, answers_it, answer_in, with_answer, outcome_with, Known, Task, Report, report_of, number_in, numbered, Call, past, IsReportOf, Ends, Channel, channel_at, Stays, Identifies, Hears, Plans, Begins, Moves, Within, Falls, same_Some, cases_Option}
use Rattle.sercos_law_run.specs.Agenda.Channels.{hearing}
use Rattle.sercos_law_run.proofs.Agenda.CallMoves.{always}

abbrev ReportsRight : Channel → Type 0
ReportsRight c = (r : Report) → c.report ≡ Some r → IsReportOf r c.begun c.tasks

record IsRight (c : Channel) : Type 0 where
  right : ReportsRight c
  quiet : c.heard ≡ false → c.report ≡ None

-- the answer that ends it
answer_right : (a : Answer) (begun : List Begun) (tasks : List Task) (r : Report) → option_or (report_of (outcome_with a begun) (number_in tasks)) None ≡ Some r → IsReportOf r (with_answer a begun) tasks
answer_right a [] tasks r is = absurd (cc)
answer_right a (b ∷ older) [] r is = absurd (elim (cases_Option (outcome_of b.request (a ∷ b.answers))) [
  | inl none ↦ let is = rw none at is in cc
  | inr (o, some) ↦ let is = rw some at is in cc
])
answer_right a (b ∷ older) (t ∷ tasks) r is = by (outcome_of b.request (a ∷ b.answers)) t.number refl refl is
  where
    by : (o : Option Outcome) (n : Option ℕ) → outcome_of b.request (a ∷ b.answers) ≡ o → t.number ≡ n → option_or (report_of o n) None ≡ Some r →
        ((t.number ≡ Some r.number) × (outcome_of b.request (a ∷ b.answers) ≡ Some r.outcome)) ⊎ IsReportOf r older tasks
    by None n outcome number is = absurd (cc)
    by (Some o) None outcome number is = absurd (cc)
    by (Some o) (Some i) outcome number is =
        let same : numbered o i ≡ r = same_Some (numbered o i) r is in
        inl (number ∙ ap (λ (x : Report). Some x.number) same, outcome ∙ ap (λ (x : Report). Some x.outcome) same)

hearing_right : (status : Status) (word : ℕ) (c : Channel) → c.report ≡ None → ReportsRight (hearing status word c)
hearing_right status word c none r is = by (answers_it c.begun status) (sym (ap (λ (x : Option Report). option_or (report_of (if answers_it c.begun status then outcome_with (answer_in status word) c.begun else None) (number_in c.tasks)) x) none) ∙ is)
  where
    by : (v : Bool) → option_or (report_of (if v then outcome_with (answer_in status word) c.begun else None) (number_in c.tasks)) None ≡ Some r → IsReportOf r (if v then with_answer (answer_in status word) c.begun else c.begun) c.tasks
    by true is = answer_right (answer_in status word) c.begun c.tasks r is
    by false is = absurd (cc)

module _ (s : Known) (k : ℕ) where
  right_step : (c d : Channel) → Moves s k c d → IsRight c → IsRight d
  right_step c d (Within (Stays is)) right = subst IsRight (sym is) right
  right_step c d (Within (Identifies is)) right = subst IsRight (sym is) (record { right = right.right; quiet = λ off. absurd (cc) })
  right_step c d (Within (Hears status word free is)) right = subst IsRight (sym is) (record { right = hearing_right status word c (right.quiet free); quiet = λ off. absurd (cc) })
  right_step c d (Within (Plans plan none two is)) right = subst IsRight (sym is) (record { right = right.right; quiet = right.quiet })
  right_step c d (Within (Begins t next is)) right = subst IsRight (sym is) (record { right = λ r told. inr (right.right r told); quiet = right.quiet })
  right_step c d (Ends rises done is) right = subst IsRight (sym is) (record { right = λ r told. absurd (cc); quiet = λ off. refl })
  right_step c d (Falls is) right = subst IsRight (sym is) (record { right = λ r told. absurd (cc); quiet = λ off. refl })

  pub reports_right : k < length s.drives → (requests : ℕ → List Task) (h : List Call) (r : Report) → (channel_at (past s requests h) k).report ≡ Some r → IsReportOf r (channel_at (past s requests h) k).begun (channel_at (past s requests h) k).tasks
  reports_right there requests h = (always s k there IsRight right_step requests (record { right = λ r told. absurd (cc); quiet = λ off. refl }) h).right
