-- What is kept between the steps, over one step more.
use Rattle.std.proofs.Common.{◌≡◌, ℕ, ◌==◌, Bool, true, false, cond, ◌||◌, List, [], ◌∷◌, Some, None, is_some, refl}
use Rattle.std.specs.Prelude.{Result, Ok, Err}
use Rattle.std.specs.Result.{IsErrAnd}
use Rattle.sercos_idn.specs.declared.idn.Idn.{Idn}
use Rattle.sercos_idn.specs.declared.code.Code.{Code}
use Rattle.sercos_step.specs.declared.step.Answer.{Answer}
use Rattle.sercos_block.specs.Stores.{find_block}
use Rattle.sercos_service_drive.specs.Log.{Processed, Entry, opens, open_idn, run_before}
use Rattle.sercos_service_drive.specs.Replies.{good, refused, reply_of}
use Rattle.sercos_service_drive.specs.Kept.{place_of, selection_in, selected, SessionView, IsKeptRun, HoldsRun, SessionStandsFor, IsAnswered}
use Rattle.sercos_service_drive.specs.Partial.{IsReplied}
use Rattle.sercos_service_drive.proofs.RunLemmas.{place_more}

-- the error of a reply goes up as it is
pub is_refused : (v : SessionView) (t : Processed) (log : List Entry) (r : Result ℕ Code) (code : Code) → IsErrAnd r (λ e. e ≡ code) →
    IsAnswered (record v { selection = None }) t log (refused code.raw) → IsReplied v t log r
is_refused v t log (Ok word) code is answered = absurd is
is_refused v t log (Err e) code is answered = rw is answered

abbrev entry : Processed → Answer → Entry
entry t answer = record { processed = t; answer = answer }

-- An opening and a step of element 0 end the run, and so does an error.

pub opened : (v : SessionView) (t : Processed) (log : List Entry) (idn : Idn) → opens t.step ≡ true → t.step.word ≡ idn.raw →
    (known : Bool) → is_some (find_block idn.raw t.blocks) ≡ known →
    IsAnswered (record { opened = cond known (Some idn) None; selection = None; buffer = v.buffer }) t log (cond known (good 0) (refused 0x1001))
opened v t log idn on word true known = record {
  reply_is = rw (on, word, known) refl;
  stands = record { opened_is = rw (on, word) refl; selection_is = rw on refl; buffer_is = rw on tt };
}
opened v t log idn on word false known = record {
  reply_is = rw (on, word, known) refl;
  stands = record { opened_is = rw on refl; selection_is = rw on refl; buffer_is = rw on tt };
}

pub closed : (v : SessionView) (t : Processed) (log : List Entry) → opens t.step ≡ false → (t.step.element == 0) ≡ true →
    IsAnswered (record { opened = None; selection = None; buffer = v.buffer }) t log (good 0)
closed v t log no_opening zero_is = record {
  reply_is = rw (no_opening, zero_is) refl;
  stands = record { opened_is = rw (no_opening, zero_is) refl; selection_is = rw (no_opening, zero_is) refl; buffer_is = rw (no_opening, zero_is) tt };
}

module _ (v : SessionView) (t : Processed) (log : List Entry) (stood : SessionStandsFor v log) (no_opening : opens t.step ≡ false) (not_closing : (t.step.element == 0) ≡ false) where
  -- .. where it is the reply
  pub refused_step : (buffer : List ℕ) (code : ℕ) → refused code ≡ reply_of t log → IsAnswered (record { opened = v.opened; selection = None; buffer = buffer }) t log (refused code)
  refused_step buffer code is = record {
    reply_is = is;
    stands = record {
      opened_is = rw (no_opening, not_closing) stood.opened_is;
      selection_is = by_last (opens t.step || (t.step.element == 0)) t.step.last (λ run. None ≡ selection_in run) refl;
      buffer_is = by_last (opens t.step || (t.step.element == 0)) t.step.last (λ run. HoldsRun (open_idn (entry t (refused code) ∷ log)) run buffer) tt;
    };
  }
    where
      by_last : (closes last : Bool) (P : List Processed → Type 0) → P [] → P (cond (closes || (last || true)) [] (t ∷ run_before t.step.write t.step.element log))
      by_last true last P h = h
      by_last false true P h = h
      by_last false false P h = h

  -- a step that is answered with a word goes on
  pub good_step : (raw word : ℕ) (run : List Processed) (buffer : List ℕ) → good word ≡ reply_of t log → open_idn log ≡ Some raw → run_before t.step.write t.step.element log ≡ run
      → (t.step.last ≡ false → IsKeptRun t.step.write raw t run buffer)
      → IsAnswered (record { opened = v.opened; selection = selected t.step.last t.step (place_of run); buffer = buffer }) t log (good word)
  good_step raw word run buffer is open_is run_is keeps = record {
    reply_is = is;
    stands = record {
      opened_is = rw (no_opening, not_closing) stood.opened_is;
      selection_is = rw (no_opening, not_closing, run_is) (selections t.step.last);
      buffer_is = rw (no_opening, not_closing, open_is, run_is) (buffers t.step.last keeps);
    };
  }
    where
      selections : (last : Bool) → selected last t.step (place_of run) ≡ selection_in (cond (false || (last || false)) [] (t ∷ run))
      selections true = refl
      selections false = rw (place_more t run (place_of run) refl) refl

      buffers : (last : Bool) → (last ≡ false → IsKeptRun t.step.write raw t run buffer) → HoldsRun (Some raw) (cond (false || (last || false)) [] (t ∷ run)) buffer
      buffers true keeps = tt
      buffers false keeps = keeps refl
