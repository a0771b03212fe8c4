-- Lemmas on the answers of `show`.
use Rattle.std.proofs.Common.{◌≡◌, ℕ, ◌+◌, List, [], ◌∷◌, ◌++◌, length, Some, None, refl, sym, ◌∙◌, arith, append_assoc, append-nil}
use Rattle.std.specs.List.{flat_map}
use Rattle.sercos_hdlc.specs.Reason.{reason_of}
use Rattle.sercos_io.specs.declared.status.Status.TheVariants as status
use Rattle.sercos_show.specs.Line.{kind_of, line_fault, line_bits}
use Rattle.sercos_show.specs.declared.line.LineKind.{LineKind}
use Rattle.sercos_answer.specs.Answer.{refused_text}
use Rattle.sercos_answer.specs.Lines.{lines_of}
use Rattle.sercos_answer.proofs.CutLemmas.{Cut, lines_of-cut}
use Rattle.sercos_show.specs.Show.{first_fault, line_answer, show_answer, show_text, show_status, frame_text, answer_by}

-- a line without a fault
pub first_fault-good : (number : ℕ) (rest line others : List ℕ) → Cut rest line others → line_fault line ≡ None → first_fault number (lines_of rest) ≡ first_fault (number + 1) (lines_of others)
unfolding first_fault
first_fault-good number rest line others cut good = rw (lines_of-cut rest line others cut, good) refl

answers-good : (before : List ℕ) (rest line others : List ℕ) → Cut rest line others → before ++ flat_map line_answer (lines_of rest) ≡ (before ++ line_answer line) ++ flat_map line_answer (lines_of others)
answers-good before rest line others cut = rw (lines_of-cut rest line others cut) (sym (append_assoc before (line_answer line) (flat_map line_answer (lines_of others))))

-- the answers so far, and one more
pub answers-more : (before after all rest line others : List ℕ) (kind : LineKind) → Cut rest line others → kind_of line ≡ Some kind → after ≡ before ++ frame_text kind (line_bits line) (reason_of (line_bits line)) → before ++ flat_map line_answer (lines_of rest) ≡ all → after ++ flat_map line_answer (lines_of others) ≡ all
unfolding line_answer answer_by
answers-more before after all rest line others kind cut kind_is after_is so_far =
    let answer : line_answer line ≡ frame_text kind (line_bits line) (reason_of (line_bits line)) = rw kind_is refl in
    rw (after_is, ← answer) (sym (answers-good before rest line others cut) ∙ so_far)

-- a line with a fault
pub first_fault-bad : (number place : ℕ) (rest line others : List ℕ) → Cut rest line others → line_fault line ≡ Some place → first_fault number (lines_of rest) ≡ Some (number, place + 1)
unfolding first_fault
first_fault-bad number place rest line others cut bad = rw (lines_of-cut rest line others cut, bad) refl

pub first_fault-end : (number : ℕ) (rest : List ℕ) → length rest ≡ 0 → first_fault number (lines_of rest) ≡ None
unfolding first_fault lines_of
first_fault-end number [] none = refl
first_fault-end number (byte ∷ rest) none = absurd (omega arith)

pub answers-end : (before rest : List ℕ) → length rest ≡ 0 → before ++ flat_map line_answer (lines_of rest) ≡ before
unfolding lines_of
answers-end before [] none = append-nil before
answers-end before (byte ∷ rest) none = absurd (omega arith)

-- the answer to a text
pub show_answer-done : (text : List ℕ) → first_fault 1 (lines_of text) ≡ None → (show_answer text).status ≡ status.Done
unfolding show_answer show_status
show_answer-done text none = rw none refl

pub show_answer-answers : (text : List ℕ) → first_fault 1 (lines_of text) ≡ None → (show_answer text).output ≡ flat_map line_answer (lines_of text)
unfolding show_answer show_text
show_answer-answers text none = rw none refl

pub show_answer-refused : (text : List ℕ) (line column : ℕ) → first_fault 1 (lines_of text) ≡ Some (line, column) → (show_answer text).status ≡ status.Refused
unfolding show_answer show_status
show_answer-refused text line column fault = rw fault refl

pub show_answer-refusal : (text : List ℕ) (line column : ℕ) → first_fault 1 (lines_of text) ≡ Some (line, column) → (show_answer text).output ≡ refused_text line column
unfolding show_answer show_text
show_answer-refusal text line column fault = rw fault refl
