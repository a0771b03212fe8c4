-- A write that took effect was allowed: the store has no cause against it.
use Rattle.std.proofs.Common.{◌≡◌, ℕ, ◌==◌, Bool, true, false, cond, not, ◌&&◌, List, [], ◌∷◌, ◌++◌, length, map, Option, Some, None, IfSome, option_map, option_and_then, refl, sym, ◌∙◌, ap, arith}
use Rattle.std.specs.Prelude.{slice_index}
use Rattle.std.proofs.lemmas.Bool.Decides.{nat_tests}
use mathlib.Core.Bool.{beq}
use Rattle.sercos_model.proofs.FaultLemmas.{none_of-or}
use Rattle.sercos_block.specs.declared.block.Block.{Block}
use Rattle.sercos_block.specs.Stores.{find_block, with_data, put_fault}
use Rattle.sercos_command.specs.Settings.{is_command}
use Rattle.sercos_command.specs.Calls.{CommandHistory, with_check_list}
use Rattle.sercos_service_drive.specs.Log.{Processed, Entry, ahs, accepted, open_idn, run_before, in_order}
use Rattle.sercos_service_drive.specs.Replies.{answer_by, bytes_written, write_cause, write_cause_in, reply_of, answered, log_of}
use Rattle.sercos_service_drive.specs.Writes.{Write, without_data, AreAlike, AreThose, written_by, with_added, writes_of, command_value, blocks_with, adds, added_on}
use Rattle.sercos_service_drive.specs.Kept.{IsMidway}
use Rattle.sercos_service_drive.specs.Partial.{IsStarted, place_cause}
use Rattle.sercos_service_drive.proofs.WordLemmas.{cause_is, has_passed, goes_on}
use Rattle.sercos_service_drive.proofs.WriteAnswers.{in_order-append, started_by, midway_in}
use Rattle.sercos_service_drive.proofs.RunLemmas.{same_bits}

-- What a record adds is what the writes grow by.
pub grows : (t : Processed) (h : List Processed) → writes_of (log_of (t ∷ h)) ≡ with_added (added_on t h) (writes_of (log_of h))
grows t h = by (beq t.mhs (ahs h))
  where
    by : (same : Bool) → writes_of (answered (cond same (accepted h) (t ∷ accepted h))) ≡ with_added (cond same None (adds t (log_of h))) (writes_of (log_of h))
    by true = refl
    by false = refl

-- A write changes operation data alone.
data_alike : (raw : ℕ) (bytes : List ℕ) (blocks : List Block) → AreAlike (with_data raw bytes blocks) blocks
data_alike raw bytes [] = refl
data_alike raw bytes (b ∷ blocks) = by (b.idn.raw == raw) ∙ ap (λ (rest : List Block). without_data b ∷ rest) (data_alike raw bytes blocks)
  where
    by : (same : Bool) → without_data (cond same (record b { value = bytes }) b) ∷ map without_data (with_data raw bytes blocks) ≡ without_data b ∷ map without_data (with_data raw bytes blocks)
    by true = refl
    by false = refl

lists_alike : (c : CommandHistory) (raw value : ℕ) (blocks : List Block) → AreAlike (with_check_list c raw value blocks) blocks
unfolding with_check_list
lists_alike c raw value blocks = by _ (raw == 127) (raw == 128) _ _
  where
    by : (sets first second : Bool) (one other : List ℕ) → AreAlike (cond sets (cond first (with_data 21 one blocks) (cond second (with_data 22 other blocks) blocks)) blocks) blocks
    by true true second one other = data_alike 21 one blocks
    by true false true one other = data_alike 22 other blocks
    by true false false one other = refl
    by false first second one other = refl

pub alike : (w : Option Write) (c : CommandHistory) (blocks : List Block) → AreAlike (blocks_with w c blocks) blocks
alike None c blocks = refl
alike (Some w) c blocks = by (is_command blocks w.raw)
  where
    by : (command : Bool) → AreAlike (cond command (with_check_list c w.raw (command_value w) (with_data w.raw w.bytes blocks)) (with_data w.raw w.bytes blocks)) blocks
    by true = lists_alike c w.raw (command_value w) (with_data w.raw w.bytes blocks) ∙ data_alike w.raw w.bytes blocks
    by false = data_alike w.raw w.bytes blocks

pub those_moved : (blocks others : List Block) (h : List Processed) → AreAlike others blocks → AreThose blocks h → AreThose others h
those_moved blocks others [] same those = tt
those_moved blocks others (t ∷ h) same those = (those.0 ∙ sym same, those_moved blocks others h same those.1)

those_accepted : (blocks : List Block) (h : List Processed) → AreThose blocks h → AreThose blocks (accepted h)
those_accepted blocks [] those = tt
those_accepted blocks (t ∷ h) those = by (beq t.mhs (ahs h)) (those_accepted blocks h those.1)
  where
    by : (same : Bool) → AreThose blocks (accepted h) → AreThose blocks (cond same (accepted h) (t ∷ accepted h))
    by true rest = rest
    by false rest = (those.0, rest)

-- Words of operation data that were accepted may go on.

pub no_cause : (code : Option ℕ) (word : ℕ) → (answer_by code word).error ≡ false → code ≡ None
no_cause None word well = refl
no_cause (Some code) word well = cc

abbrev words_before : List Entry → List ℕ
words_before log = in_order (run_before true 7 log) []

reply_is : (t : Processed) (log : List Entry) (raw : ℕ) → t.step.write ≡ true → t.step.element ≡ 7 → open_idn log ≡ Some raw
    → reply_of t log ≡ answer_by (write_cause_in (find_block raw t.blocks) t.phase t.step.last (words_before log ++ t.step.word ∷ [])) 0
reply_is t log raw write seven opened = rw (write, seven, opened) (ap (λ (words : List ℕ). answer_by (write_cause_in (find_block raw t.blocks) t.phase t.step.last words) 0) (in_order-append (run_before true 7 log) [] (t.step.word ∷ [])))

-- .. with one word more, where those before it may go on
midway : (raw : ℕ) (b : Block) (blocks : List Block) (t : Processed) (log : List Entry) → AreAlike t.blocks blocks → find_block raw blocks ≡ Some b
    → ((c : Block) → find_block raw t.blocks ≡ Some c → IsStarted c (words_before log))
    → t.step.write ≡ true → t.step.element ≡ 7 → t.step.last ≡ false → (reply_of t log).error ≡ false → open_idn log ≡ Some raw → IsMidway b (words_before log ++ t.step.word ∷ [])
midway raw b blocks t log same found begun write seven last well opened =
    midway_in raw t.blocks blocks b (words_before log ++ t.step.word ∷ []) same found (by (find_block raw t.blocks) refl (no_cause _ 0 (rw (reply_is t log raw write seven opened, last) at well)))
  where
    by : (o : Option Block) → find_block raw t.blocks ≡ o → write_cause_in o t.phase false (words_before log ++ t.step.word ∷ []) ≡ None → IfSome o (λ c. IsMidway c (words_before log ++ t.step.word ∷ []))
    by None there none = cc
    by (Some c) there none =
        let parts = none_of-or _ _ (sym (cause_is c t.phase false (words_before log) t.step.word (begun c there)) ∙ none) in
        goes_on c t.phase (words_before log) t.step.word (begun c there) (has_passed c t.phase false (words_before log ++ t.step.word ∷ []) parts.0)

started : (raw : ℕ) (b : Block) (blocks : List Block) (a : List Processed) → AreThose blocks a → find_block raw blocks ≡ Some b → open_idn (answered a) ≡ Some raw → IsStarted b (words_before (answered a))
started raw b blocks [] those found opened = tt
started raw b blocks (t ∷ a) those found opened =
    by (λ c there was. started raw c t.blocks a (those_moved blocks t.blocks a those.0 those.1) there was)
    (beq t.step.write true) refl (t.step.element == 7) refl t.step.last refl (reply_of t (answered a)).error refl
  where
    by : ((c : Block) → find_block raw t.blocks ≡ Some c → open_idn (answered a) ≡ Some raw → IsStarted c (words_before (answered a)))
        → (bit : Bool) → beq t.step.write true ≡ bit → (number : Bool) → (t.step.element == 7) ≡ number → (last : Bool) → t.step.last ≡ last → (error : Bool) → (reply_of t (answered a)).error ≡ error
        → IsStarted b (in_order (cond (bit && (number && (not last && not error))) (t ∷ run_before true 7 (answered a)) []) [])
    by begun true write true element false last false well =
        let on : t.step.write ≡ true = same_bits t.step.write true write in
        let seven : t.step.element ≡ 7 = grind (arith, nat_tests) in
        let was : open_idn (answered a) ≡ Some raw = rw (on, seven) at opened in
        rw (in_order-append (run_before true 7 (answered a)) [] (t.step.word ∷ []))
        (started_by b (words_before (answered a) ++ t.step.word ∷ []) (midway raw b blocks t (answered a) those.0 found (λ c there. begun c there was) on seven last well was))
    by begun true write true element false last true well = tt
    by begun true write true element true last error well = tt
    by begun true write false element last is error well = tt
    by begun false write number element last is error well = tt

pub allowed : (t : Processed) (h : List Processed) → AreThose t.blocks h → IfSome (added_on t h) (λ w. put_fault (find_block w.raw t.blocks) t.phase w.bytes ≡ None)
allowed t h those = by (beq t.mhs (ahs h))
  where
    adds_allowed : IfSome (adds t (log_of h)) (λ w. put_fault (find_block w.raw t.blocks) t.phase w.bytes ≡ None)
    adds_allowed = take t.step.write refl (t.step.element == 7) refl t.step.last refl (reply_of t (log_of h)).error refl
      where
        last_word : (raw : ℕ) (b : Block) → t.step.write ≡ true → t.step.element ≡ 7 → t.step.last ≡ true → (reply_of t (log_of h)).error ≡ false → open_idn (log_of h) ≡ Some raw → find_block raw t.blocks ≡ Some b
            → put_fault (find_block raw t.blocks) t.phase (bytes_written b (in_order (run_before true 7 (log_of h)) (t.step.word ∷ []))) ≡ None
        last_word raw b write seven last well opened there =
            let none : write_cause b t.phase true (words_before (log_of h) ++ t.step.word ∷ []) ≡ None = no_cause (write_cause b t.phase true (words_before (log_of h) ++ t.step.word ∷ [])) 0 (rw (reply_is t (log_of h) raw write seven opened, there, last) at well) in
            let begun = started raw b t.blocks (accepted h) (those_accepted t.blocks h those) there opened in
            let parts = none_of-or (place_cause (Some b) t.phase true (length (words_before (log_of h) ++ t.step.word ∷ [])) (slice_index (words_before (log_of h) ++ t.step.word ∷ []) 0))
            (put_fault (Some b) t.phase (bytes_written b (words_before (log_of h) ++ t.step.word ∷ []))) (sym (cause_is b t.phase true (words_before (log_of h)) t.step.word begun) ∙ none) in
            rw (there, in_order-append (run_before true 7 (log_of h)) [] (t.step.word ∷ [])) parts.1

        found : (raw : ℕ) → t.step.write ≡ true → t.step.element ≡ 7 → t.step.last ≡ true → (reply_of t (log_of h)).error ≡ false → open_idn (log_of h) ≡ Some raw → (o : Option Block) → find_block raw t.blocks ≡ o
            → IfSome (option_map (λ (b : Block). (record { cycle = t.cycle; raw = raw; bytes = bytes_written b (in_order (run_before true 7 (log_of h)) (t.step.word ∷ [])) })) o) (λ (w : Write). put_fault (find_block w.raw t.blocks) t.phase w.bytes ≡ None)
        found raw write seven last well opened None there = tt
        found raw write seven last well opened (Some b) there = last_word raw b write seven last well opened there

        named : t.step.write ≡ true → t.step.element ≡ 7 → t.step.last ≡ true → (reply_of t (log_of h)).error ≡ false → (o : Option ℕ) → open_idn (log_of h) ≡ o
            → IfSome (option_and_then (written_by t (run_before true 7 (log_of h))) o) (λ w. put_fault (find_block w.raw t.blocks) t.phase w.bytes ≡ None)
        named write seven last well None opened = tt
        named write seven last well (Some raw) opened = found raw write seven last well opened (find_block raw t.blocks) refl

        take : (write : Bool) → t.step.write ≡ write → (number : Bool) → (t.step.element == 7) ≡ number → (last : Bool) → t.step.last ≡ last → (error : Bool) → (reply_of t (log_of h)).error ≡ error
            → IfSome (cond (write && (number && (last && not error))) (option_and_then (written_by t (run_before true 7 (log_of h))) (open_idn (log_of h))) None) (λ w. put_fault (find_block w.raw t.blocks) t.phase w.bytes ≡ None)
        take true write true element true last false well = named write (grind (arith, nat_tests)) last well (open_idn (log_of h)) refl
        take true write true element true last true well = tt
        take true write true element false last error well = tt
        take true write false element last is error well = tt
        take false write number element last is error well = tt

    by : (same : Bool) → IfSome (cond same None (adds t (log_of h))) (λ w. put_fault (find_block w.raw t.blocks) t.phase w.bytes ≡ None)
    by true = tt
    by false = adds_allowed
