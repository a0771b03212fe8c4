-- A run of steps that write words, and what it adds to the writes.
use Rattle.sercos_law_channel.proofs.Words.{◌≡◌, ℕ, suc, ◌+◌, Bool, true, false, not, ◌&&◌, List, [], ◌∷◌, length, take, drop, refl, ap, ap₂, ◌∙◌, arith, if◌then◌else◌, ◌==◌, Option, Some, None, slice_get, slice_index, option_map, option_and_then, beq, cond-true, cond-false, is_list, bytes_in, Step, a_step, run, Block, find_block, Processed, Entry, opens, open_idn, run_before, in_order, Write, AreAlike, without_data, written_by, with_added, writes_of, takes_effect, bytes_written}
use Rattle.sercos_law_channel.proofs.Handshake.AttributeReplies.{alike_there}
use Rattle.sercos_law_channel.proofs.Handshake.TransferSteps.{effect_by}

-- the steps after those of a run are those of the words that are left
run-get : (taken : List Processed) (word : ℕ) (rest : List ℕ) (k j : ℕ) → k ≡ length taken + j →
    slice_get (run true 7 (in_order taken (word ∷ rest))) k ≡ slice_get (run true 7 (word ∷ rest)) j
run-get [] word rest k j is = let same : k ≡ j = omega arith in ap (slice_get (run true 7 (word ∷ rest))) same
run-get (t ∷ taken) word rest k j is = run-get taken t.step.word (word ∷ rest) k (suc j) (omega arith)

pub run_next : (taken : List Processed) (word : ℕ) (rest : List ℕ) → slice_get (run true 7 (in_order taken (word ∷ rest))) (length taken) ≡ slice_get (run true 7 (word ∷ rest)) 0
run_next taken word rest = run-get taken word rest (length taken) 0 (omega arith)

-- one step more of a run
pub run_grows : (s : Step) (write : Bool) (element : ℕ) (e : Entry) (all : List Entry) (taken : List Processed) → e.processed.step ≡ s → e.answer.error ≡ false → run_before write element all ≡ taken →
    (beq s.write write && ((s.element == element) && not s.last)) ≡ true → run_before write element (e ∷ all) ≡ e.processed ∷ taken
run_grows s write element e all taken is well before fits =
    cond-true (beq e.processed.step.write write && ((e.processed.step.element == element) && (not e.processed.step.last && not e.answer.error))) (e.processed ∷ run_before write element all) []
    (ap₂ (λ (x : Step) (b : Bool). beq x.write write && ((x.element == element) && (not x.last && not b))) is well ∙ all_three (beq s.write write) (s.element == element) (not s.last) fits)
    ∙ ap (λ (l : List Processed). e.processed ∷ l) before
  where
    all_three : (a b c : Bool) → (a && (b && c)) ≡ true → (a && (b && (c && true))) ≡ true
    all_three true true true on = refl
    all_three true true false on = on
    all_three true false c on = on
    all_three false b c on = on

pub run_starts : (s : Step) (write : Bool) (element : ℕ) (e : Entry) (all : List Entry) → e.processed.step ≡ s → (beq s.write write && ((s.element == element) && not s.last)) ≡ false → run_before write element (e ∷ all) ≡ []
run_starts s write element e all is other =
    cond-false (beq e.processed.step.write write && ((e.processed.step.element == element) && (not e.processed.step.last && not e.answer.error))) (e.processed ∷ run_before write element all) []
    (ap (λ (x : Step). beq x.write write && ((x.element == element) && (not x.last && not e.answer.error))) is ∙ not_all (beq s.write write) (s.element == element) (not s.last) (not e.answer.error) other)
  where
    not_all : (a b c d : Bool) → (a && (b && c)) ≡ false → (a && (b && (c && d))) ≡ false
    not_all true true true d off = absurd (cc)
    not_all true true false d off = refl
    not_all true false c d off = refl
    not_all false b c d off = refl

-- the identifier number that is open after a step
pub open_by : (s : Step) (e : Entry) (all : List Entry) → e.processed.step ≡ s → e.answer.error ≡ false →
    open_idn (e ∷ all) ≡ (if opens s then Some s.word else (if s.element == 0 then None else open_idn all))
open_by s e all is well =
    ap₂ (λ (x : Step) (b : Bool). if opens x then (if b then None else Some x.word) else (if x.element == 0 then None else open_idn all)) is well

bytes_alike : (c d : Block) (words : List ℕ) → without_data c ≡ without_data d → bytes_written c words ≡ bytes_written d words
unfolding bytes_written
bytes_alike c d words same =
    ap (λ (x : Block). if is_list x.attribute.length then take (slice_index words 0) (bytes_in (drop 2 words)) else bytes_in words) same

-- the write of a last word
written_found : (t : Processed) (taken : List Processed) (raw : ℕ) (blocks : List Block) (b : Block) (words : List ℕ) → AreAlike t.blocks blocks → find_block raw blocks ≡ Some b → in_order taken (t.step.word ∷ []) ≡ words →
    written_by t taken raw ≡ Some (record { cycle = t.cycle; raw = raw; bytes = bytes_written b words })
written_found t taken raw blocks b words alike found ordered =
    let (c, there, same) = alike_there raw t.blocks blocks b alike found in
    let made : List ℕ → Write = λ bytes. record { cycle = t.cycle; raw = raw; bytes = bytes } in
    ap (option_map (λ (d : Block). made (bytes_written d (in_order taken (t.step.word ∷ []))))) there
    ∙ ap (λ (bytes : List ℕ). Some (made bytes)) (bytes_alike c b (in_order taken (t.step.word ∷ [])) same ∙ ap (bytes_written b) ordered)

pub last_word : (word : ℕ) (e : Entry) (all : List Entry) (taken : List Processed) (raw : ℕ) (blocks : List Block) (b : Block) (words : List ℕ) →
    e.processed.step ≡ a_step true true 7 word → e.answer.error ≡ false → open_idn all ≡ Some raw → run_before true 7 all ≡ taken → in_order taken (word ∷ []) ≡ words →
    AreAlike e.processed.blocks blocks → find_block raw blocks ≡ Some b →
    writes_of (e ∷ all) ≡ (record { cycle = e.processed.cycle; raw = raw; bytes = bytes_written b words }) ∷ writes_of all
last_word word e all taken raw blocks b words is well opened before ordered alike found =
    ap (λ (o : Option Write). with_added o (writes_of all))
    (cond-true (takes_effect e) _ None (effect_by (a_step true true 7 word) e is ∙ ap not well)
    ∙ ap₂ (λ (l : List Processed) (o : Option ℕ). option_and_then (written_by e.processed l) o) before opened
    ∙ written_found e.processed taken raw blocks b words alike found (ap (λ (s : Step). in_order taken (s.word ∷ [])) is ∙ ordered))
