-- The records that a drive took: their elements and words fit, and their blocks are a store. So what they write are bytes.
use Rattle.sercos_law_run.proofs.Words.{ℕ, zero, suc, ◌<◌, ◌==◌, Bool, true, not, ◌&&◌, List, [], ◌∷◌, drop, take, IfSome, cond_both, slice_index, beq, AreBytes, AreBytes-take, is_list, bytes_in, Block, find_block, Processed, Entry, ahs, accepted, open_idn, run_before, selection, in_order, reply_of, answered, log_of, takes_effect, added_on, IsRecord, AreRecords, bytes_written, cases_Bool, cases_Option, inl, inr}
use Rattle.sercos_law_run.proofs.Typed.Words.{AreWords, bytes_of_words}

abbrev pub AreEntries : List Entry → Type 0
AreEntries [] = Unit {0}
AreEntries (e ∷ log) = IsRecord e.processed × AreEntries log

pub accepted_so : (h : List Processed) → AreRecords h → AreRecords (accepted h)
accepted_so [] are = tt
accepted_so (t ∷ h) are =
    elim (cases_Bool (beq t.mhs (ahs h))) [ inl on ↦ rw on (accepted_so h are.1) | inr off ↦ rw off (are.0, (accepted_so h are.1)) ]

pub answered_so : (h : List Processed) → AreRecords h → AreEntries (answered h)
answered_so [] are = tt
answered_so (t ∷ h) are = (are.0, answered_so h are.1)

pub run_so : (write : Bool) (element : ℕ) (log : List Entry) → AreEntries log → AreRecords (run_before write element log)
run_so write element [] are = tt
run_so write element (e ∷ log) are = elim (cases_Bool (beq e.processed.step.write write && ((e.processed.step.element == element) && (not e.processed.step.last && not e.answer.error)))) [
  | inl on ↦ rw on (are.0, (run_so write element log are.1))
  | inr off ↦ rw off tt
]

-- the selection of a run is one of it
pub selection_so : (t : Processed) (run : List Processed) → IsRecord t → AreRecords run → IsRecord (selection t run)
selection_so t [] is are = is
selection_so t (s ∷ run) is are = selection_so s run are.0 are.1

in_order_so : (run : List Processed) (words : List ℕ) → AreRecords run → AreWords words → AreWords (in_order run words)
in_order_so [] words are fit = fit
in_order_so (t ∷ run) words are fit = in_order_so run (t.step.word ∷ words) are.1 (are.0.word, fit)

pub words_drop : (n : ℕ) (words : List ℕ) → AreWords words → AreWords (drop n words)
words_drop zero words are = are
words_drop (suc n) [] are = tt
words_drop (suc n) (word ∷ words) are = words_drop n words are.1

bytes_so : (b : Block) (words : List ℕ) → AreWords words → AreBytes (bytes_written b words)
unfolding bytes_written
bytes_so b words are = cond_both (is_list b.attribute.length) (take (slice_index words 0) (bytes_in (drop 2 words))) (bytes_in words)
    AreBytes
    (λ on. AreBytes-take (slice_index words 0) (bytes_in (drop 2 words)) (bytes_of_words (drop 2 words) (words_drop 2 words are)))
    (λ off. bytes_of_words words are)

-- what a record adds are bytes
pub added_bytes : (t : Processed) (h : List Processed) → t.step.word < 65536 → AreRecords h → IfSome (added_on t h) (λ w. AreBytes w.bytes)
added_bytes t h fits are = elim (cases_Bool (beq t.mhs (ahs h))) [
  | inl on ↦ rw on tt
  | inr off ↦ rw off (elim (cases_Bool (takes_effect (record { processed = t; answer = reply_of t (log_of h) }))) [
    | inl on ↦ rw on (elim (cases_Option (open_idn (log_of h))) [
      | inl none ↦ rw none tt
      | inr (raw, some) ↦ rw some (elim (cases_Option (find_block raw t.blocks)) [
        | inl none ↦ rw none tt
        | inr some ↦ rw some.1 (bytes_so some.0 _ (in_order_so (run_before true 7 (log_of h)) (t.step.word ∷ [])
            (run_so true 7 (log_of h) (answered_so (accepted h) (accepted_so h are))) (fits, tt)))
      ])
    ])
    | inr off ↦ rw off tt
  ])
]
