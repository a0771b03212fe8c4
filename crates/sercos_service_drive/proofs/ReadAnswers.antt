-- What a step that reads comes to.
use Rattle.std.proofs.Common.{◌≡◌, ℕ, ◌≤◌, ◌==◌, Bool, true, false, cond, List, [], ◌∷◌, length, Some, None, refl, ap, sym, ◌∙◌, arith}
use Rattle.std.specs.Prelude.{slice_index}
use Rattle.sercos_step.specs.Words.{words_of}
use Rattle.sercos_service_drive.specs.Log.{Processed, Entry, opens, open_idn, run_before, selection}
use Rattle.sercos_service_drive.specs.Replies.{good, refused, answer_by, copy, read_cause, reply_of}
use Rattle.sercos_service_drive.specs.Kept.{run_of, place_of, continued, place_in, selected, SessionView, IsReading, IsKeptRun, HoldsRun, SessionStandsFor, IsAnswered}
use Rattle.sercos_service_drive.proofs.RunLemmas.{run_before-run_of, place_is, holds_continued, continued_bit, place_some, word_within}
use Rattle.sercos_service_drive.proofs.SessionLemmas.{refused_step, good_step}

words_few : (bytes : List ℕ) → length (words_of bytes) ≤ length bytes
words_few [] = omega arith
words_few (a ∷ []) = omega arith
words_few (a ∷ b ∷ bytes) = let more = words_few bytes in omega (arith, more)

pub reading_of : (write : Bool) (raw : ℕ) (s : Processed) (rest : List Processed) (buffer : List ℕ) → write ≡ false → IsKeptRun write raw s rest buffer → IsReading raw s rest buffer
reading_of true raw s rest buffer off h = cc
reading_of false raw s rest buffer off h = h

pub run_of_reading : (write : Bool) (raw : ℕ) (s : Processed) (rest : List Processed) (buffer : List ℕ) → write ≡ false → IsReading raw s rest buffer → IsKeptRun write raw s rest buffer
run_of_reading true raw s rest buffer off h = cc
run_of_reading false raw s rest buffer off h = h

module _ (v : SessionView) (t : Processed) (log : List Entry) (raw : ℕ) (stood : SessionStandsFor v log) (open_is : open_idn log ≡ Some raw)
    (reads : t.step.write ≡ false) (not_closing : (t.step.element == 0) ≡ false) where
  abbrev run : List Processed
  run = continued false t.step.element (run_of log)

  no_opening : opens t.step ≡ false
  no_opening = rw reads refl

  run_is : run_before false t.step.element log ≡ run
  run_is = run_before-run_of false t.step.element log refl not_closing

  at : place_in v.selection false t.step.element ≡ place_of run
  at = rw stood.selection_is (place_is false t.step.element (run_of log))

  holds : HoldsRun (Some raw) run v.buffer
  holds = holds_continued false t.step.element raw (run_of log) v.buffer (rw open_is at stood.buffer_is)

  reply : (r : List Processed) → run ≡ r → reply_of t log ≡ answer_by (read_cause raw (selection t r)) (slice_index (copy raw (selection t r)) (length r))
  reply r is = rw (reads, not_closing, open_is, run_is, is) refl

  kept : (r : List Processed) → run ≡ r → run_before t.step.write t.step.element log ≡ r
  kept r is = rw (reads, run_is) is

  -- the element is missing
  pub read_refused : (place code : ℕ) (buffer : List ℕ) → place ≡ place_in v.selection false t.step.element → Some code ≡ cond (place == 0) (read_cause raw t) None
      → IsAnswered (record { opened = v.opened; selection = None; buffer = buffer }) t log (refused code)
  read_refused place code buffer p is = refused_step v t log stood no_opening not_closing buffer code (by run refl)
    where
      by : (r : List Processed) → run ≡ r → refused code ≡ reply_of t log
      by [] e =
          let none : place ≡ 0 = p ∙ at ∙ ap place_of e in
          let cause : Some code ≡ read_cause raw t = rw none at is in
          sym (reply [] e ∙ rw (← cause) refl)
      by (s ∷ rest) e =
          let some : (place == 0) ≡ false = rw (p ∙ at ∙ ap place_of e) (place_some s rest) in
          let no : Some code ≡ None = rw some at is in cc

  -- the element is copied, or was
  pub read_good : (place word : ℕ) (buffer : List ℕ) → place ≡ place_in v.selection false t.step.element → None ≡ cond (place == 0) (read_cause raw t) None
      → (place ≡ 0 → read_cause raw t ≡ None → words_of buffer ≡ copy raw t) → ((place == 0) ≡ false → buffer ≡ v.buffer) → length buffer ≤ 1028
      → word ≡ slice_index (words_of buffer) place
      → IsAnswered (record { opened = v.opened; selection = selected t.step.last t.step place; buffer = buffer }) t log (good word)
  read_good place word buffer p is copies stays few word_is = by run refl
    where
      by : (r : List Processed) → run ≡ r → IsAnswered (record { opened = v.opened; selection = selected t.step.last t.step place; buffer = buffer }) t log (good word)
      by [] e =
          let here : place ≡ place_of [] = p ∙ at ∙ ap place_of e in
          let there : read_cause raw t ≡ None = sym (rw here at is) in
          let words = copies here there in
          let says : good word ≡ reply_of t log = sym (reply [] e ∙ rw (there, word_is, words, here) refl) in
          let keeps = run_of_reading t.step.write raw t [] buffer reads (record { there = there; words = words }) in
          rw here (good_step v t log stood no_opening not_closing raw word [] buffer says open_is (kept [] e) (λ _. keeps))
      by (s ∷ rest) e =
          let here : place ≡ place_of (s ∷ rest) = p ∙ at ∙ ap place_of e in
          let some : (place == 0) ≡ false = rw here (place_some s rest) in
          let same = stays some in
          let bit : s.step.write ≡ false = continued_bit false t.step.element (run_of log) s rest e in
          let before : IsKeptRun s.step.write raw s rest v.buffer = rw e at holds in
          let reading = reading_of s.step.write raw s rest v.buffer bit before in
          let short : length (words_of buffer) ≤ 65535 = (let few_words = words_few buffer in omega (arith, few_words, few)) in
          let value : slice_index (words_of buffer) place ≡ slice_index (copy raw (selection s rest)) (length (s ∷ rest)) =
          ap (slice_index (words_of buffer)) here ∙ word_within (words_of buffer) (length (s ∷ rest)) short ∙ rw (same, reading.words) refl in
          let says : good word ≡ reply_of t log = sym (reply (s ∷ rest) e ∙ rw (reading.there, word_is, value) refl) in
          let keeps = run_of_reading t.step.write raw t (s ∷ rest) buffer reads (record { there = reading.there; words = rw same reading.words }) in
          rw here (good_step v t log stood no_opening not_closing raw word (s ∷ rest) buffer says open_is (kept (s ∷ rest) e) (λ _. keeps))
