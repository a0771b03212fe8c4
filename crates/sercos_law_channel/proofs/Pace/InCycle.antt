-- One cycle in which nothing is lost: how the time at its end is related to the answers, if it is so related at its start.
use Rattle.sercos_law_channel.proofs.Words.{cases_Option, ◌≡◌, inl, inr, ℕ, ◌+◌, true, List, ◌∷◌, length, refl, sym, ap, subst, Option, Some, None, IfSome, is_some, cond-false, Processed, reply_of, log_of, Begun, open_in, answers_it, AreInStep, Heard, View, standing, stood_in, record_in, processed_in, with_record, with_heard, unless_restart, epoch_begun, begun_in, epoch_records, log_in, IsShown, IsRun, IsUndisturbed}
use Rattle.sercos_law_channel.proofs.Handshake.HandshakeMoves.{log-taken}
use Rattle.sercos_law_channel.proofs.Handshake.PhaseMoves.{of_processed}
use Rattle.sercos_law_channel.proofs.Handshake.EpochRuns.{joined, restarted, shown_of, heard_of, begun_of, said_of, in_step}
use Rattle.sercos_law_channel.proofs.Handshake.HandshakeMoves.{quiet_none}
use Rattle.sercos_law_channel.proofs.Pace.OnTime.{Starts, StartsFree, StartsNew, StartsBusy, Works, Free, new_works, heard_works, Ends, taken_works, silent_works, begun_works}

module _ (Fits : ℕ → ℕ → Type 0) (add : (a b n : ℕ) → Fits a b → Fits (a + n) (b + n)) (busy : ℕ) where
  -- after what is heard
  heard_so : (v : View) (past : List View) (spent : ℕ) → IsRun busy (v ∷ past) → (o : Option Heard) → IfSome o (λ a. IsShown busy a v past)
      → AreInStep (with_heard o (unless_restart v (epoch_begun past))) (log_of (unless_restart v (epoch_records past))) →
      (is_some (open_in (unless_restart v (epoch_begun past))) ≡ true → is_some o ≡ true) →
      Starts Fits busy (length past) spent (unless_restart v (epoch_begun past)) (log_of (unless_restart v (epoch_records past))) →
      Works Fits busy (length past) spent (with_heard o (unless_restart v (epoch_begun past)))
      (log_of (unless_restart v (epoch_records past)))
  heard_so v past spent run None shown after hears (StartsFree none is) = Free none is
  heard_so v past spent run None shown after hears (StartsNew s opened more is) = let lost = hears (ap is_some opened) in absurd (cc)
  heard_so v past spent run None shown after hears (StartsBusy e log those opened all earlier soon sum) = let lost = hears
      (ap is_some opened) in absurd (cc)
  heard_so v past spent run (Some a) shown after hears (StartsFree none is) =
      subst (λ (l : List Begun). Works Fits busy (length past) spent l (log_of (unless_restart v (epoch_records past))))
      (sym (cond-false (answers_it (unless_restart v (epoch_begun past)) a.status) _ _
      (quiet_none (unless_restart v (epoch_begun past)) a.status none))) (Free none is)
  heard_so v past spent run (Some a) shown after hears
      (StartsNew s opened more is) = elim (shown_of busy v past run (joined busy past run.0) a shown) [
        | inl none ↦ let free : open_in (unless_restart v (epoch_begun past)) ≡ None = ap open_in none in absurd (cc)
        | inr says ↦ new_works Fits busy (length past) spent v.showing a.status a.word (unless_restart v (epoch_begun past))
            (unless_restart v (epoch_records past)) says s opened more is
      ]
  heard_so v past spent run (Some a) shown after hears
      (StartsBusy e log those opened all earlier soon sum) = elim (shown_of busy v past run (joined busy past run.0) a shown) [
        | inl none ↦ let free : open_in (unless_restart v (epoch_begun past)) ≡ None = ap open_in none in absurd (cc)
        | inr says ↦ heard_works Fits busy (length past) spent v.showing a.status a.word (unless_restart v (epoch_begun past))
            (unless_restart v (epoch_records past)) says e log
            (restarted busy v (epoch_begun past) (epoch_records past) (in_step busy past run.0)) after those opened all earlier soon sum
      ]

  -- after the record
  recorded : (v : View) (past : List View) (spent : ℕ) → IsRun busy (v ∷ past)
      → (is_some (open_in (begun_in v past)) ≡ true → is_some (processed_in v past) ≡ true) →
      Works Fits busy (length past) spent (begun_in v past) (log_of (unless_restart v (epoch_records past))) → Ends Fits busy
      (length past) spent (begun_in v past) (log_in v past)
  recorded v past spent run takes w = of_processed v past
      (λ o. (is_some (open_in (begun_in v past)) ≡ true → is_some o ≡ true) →
      Ends Fits busy (length past) spent (begun_in v past) (log_of (with_record o (unless_restart v (epoch_records past)))))
      (λ takes. silent_works Fits busy (length past) spent (begun_in v past) (log_of (unless_restart v (epoch_records past)))
      (elim (cases_Option (open_in (begun_in v past))) [
        | inl none ↦ rw none refl
        | inr some ↦ let takes = rw some.1 at takes in rw some.1 (let lost = takes refl in absurd (cc))
      ]) w)
      (λ s got came two takes.
      let t : Processed = record_in v (length past) (stood_in v (standing past)) s in
      subst (Ends Fits busy (length past) spent (begun_in v past)) (sym (log-taken t (unless_restart v (epoch_records past))))
      (taken_works Fits busy (length past) spent (begun_in v past) (log_of (unless_restart v (epoch_records past))) add t
      (reply_of t (log_of (unless_restart v (epoch_records past)))) (said_of busy v past run.1.sent s got) refl w)) takes

  -- one cycle, before a fall
  pub in_cycle : (v : View) (past : List View) (spent : ℕ) → IsRun busy (v ∷ past) → IsUndisturbed v past
      → Starts Fits busy (length past) spent (unless_restart v (epoch_begun past)) (log_of (unless_restart v (epoch_records past)))
      → Ends Fits busy (length past) spent (begun_in v past) (log_in v past)
  in_cycle v past spent run whole start =
      let taken = unless_restart v (epoch_records past) in
      let h0 = restarted busy v (epoch_begun past) (epoch_records past) (in_step busy past run.0) in
      let h1 = heard_of busy v past run (joined busy past run.0) v.heard run.1.heard h0 in
      let h2 = begun_of busy v.begins (with_heard v.heard (unless_restart v (epoch_begun past))) taken run.1.begins h1 in
      let second = begun_works Fits busy (length past) spent (with_heard v.heard (unless_restart v (epoch_begun past)))
      (log_of taken) v.begins run.1.begins h1 h2 (heard_so v past spent run v.heard run.1.heard h1 whole.hears start) in
      recorded v past spent run whole.takes second
