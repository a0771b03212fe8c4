-- What a step that writes comes to.
use Rattle.std.proofs.Common.{◌≡◌, ℕ, ◌+◌, ◌*◌, ◌==◌, Bool, true, false, cond, not, ◌&&◌, List, [], ◌∷◌, ◌++◌, length, min, Option, Some, None, IfSome, refl, ap, sym, ◌∙◌, arith}
use Rattle.sercos_step.specs.Words.{bytes_in}
use Rattle.sercos_block.specs.declared.block.Block.{Block}
use Rattle.sercos_block.specs.Stores.{find_block}
use Rattle.sercos_command.specs.Kept.{CommandsView}
use Rattle.sercos_service_drive.specs.Log.{Processed, Entry, opens, open_idn, run_before, in_order}
use Rattle.sercos_service_drive.specs.Replies.{good, refused, answer_by, bytes_written, write_cause, write_cause_in, reply_of}
use Rattle.sercos_service_drive.specs.Writes.{Write, without_data, AreAlike, adds}
use Rattle.sercos_service_drive.specs.Kept.{run_of, place_of, continued, place_in, selected, SessionView, IsMidway, IsWriting, IsKeptRun, HoldsRun, SessionStandsFor, GoesWith, IsAnswered}
use Rattle.sercos_service_drive.specs.Partial.{IsStarted, IsEffect, IsWord, write_by}
use Rattle.sercos_service_drive.proofs.RunLemmas.{run_before-run_of, place_is, holds_continued, continued_bit, place_some}
use Rattle.sercos_service_drive.proofs.SessionLemmas.{refused_step, good_step}

pub writing_of : (write : Bool) (raw : ℕ) (s : Processed) (rest : List Processed) (buffer : List ℕ) → write ≡ true → IsKeptRun write raw s rest buffer → IsWriting raw s rest buffer
writing_of true raw s rest buffer on h = h
writing_of false raw s rest buffer on h = cc

pub run_of_writing : (write : Bool) (raw : ℕ) (s : Processed) (rest : List Processed) (buffer : List ℕ) → write ≡ true → IsWriting raw s rest buffer → IsKeptRun write raw s rest buffer
run_of_writing true raw s rest buffer on h = h
run_of_writing false raw s rest buffer on h = cc

-- Stores that are alike have the same blocks, but for their operation data.

alike_head : (b c : Block) (blocks others : List Block) → AreAlike (b ∷ blocks) (c ∷ others) → (without_data b ≡ without_data c) × AreAlike blocks others
alike_head b c blocks others same = (cc, cc)

number_of : (b : Block) → (without_data b).idn ≡ b.idn
number_of b = refl

pub found_alike : (raw : ℕ) (blocks others : List Block) (c : Block) → AreAlike blocks others → find_block raw others ≡ Some c
    → IfSome (find_block raw blocks) (λ b. without_data b ≡ without_data c) × (find_block raw blocks ≡ None → ⊥)
found_alike raw [] [] c same is = (tt, λ none. cc)
found_alike raw [] (d ∷ others) c same is = cc
found_alike raw (b ∷ blocks) [] c same is = cc
found_alike raw (b ∷ blocks) (d ∷ others) c same is =
    let (here, rest) = alike_head b d blocks others same in
    let number : b.idn.raw ≡ d.idn.raw = ap (λ (e : Block). e.idn.raw) here in
    by (b.idn.raw == raw) (d.idn.raw == raw) (rw number refl) is here (found_alike raw blocks others c rest)
  where
    by : (one other : Bool) → one ≡ other → cond other (Some d) (find_block raw others) ≡ Some c → without_data b ≡ without_data d
        → (find_block raw others ≡ Some c → IfSome (find_block raw blocks) (λ b. without_data b ≡ without_data c) × (find_block raw blocks ≡ None → ⊥))
        → IfSome (cond one (Some b) (find_block raw blocks)) (λ b. without_data b ≡ without_data c) × (cond one (Some b) (find_block raw blocks) ≡ None → ⊥)
    by true true e is here rest = (let same : d ≡ c = cc in here ∙ ap without_data same, λ none. cc)
    by false false e is here rest = rest is
    by true false e is here rest = cc
    by false true e is here rest = cc

midway_alike : (b c : Block) (words : List ℕ) → without_data b ≡ without_data c → IsMidway b words → IsMidway c words
midway_alike b c words same m =
    let moved : IsMidway (without_data c) words = rw same at (as_without b words m) in
    record { writable = moved.writable; more = moved.more; fits = moved.fits; even = moved.even }
  where
    as_without : (d : Block) (ws : List ℕ) → IsMidway d ws → IsMidway (without_data d) ws
    as_without d ws m = record { writable = m.writable; more = m.more; fits = m.fits; even = m.even }

-- The words of a run.

pub in_order-append : (run : List Processed) (words more : List ℕ) → in_order run (words ++ more) ≡ in_order run words ++ more
in_order-append [] words more = refl
in_order-append (t ∷ run) words more = in_order-append run (t.step.word ∷ words) more

pub length-in_order : (run : List Processed) (words : List ℕ) → length (in_order run words) ≡ length run + length words
length-in_order [] words = omega arith
length-in_order (t ∷ run) words = let more = length-in_order run (t.step.word ∷ words) in omega (arith, more)

pub started_by : (b : Block) (words : List ℕ) → IsMidway b words → IsStarted b words
started_by b [] m = tt
started_by b (v ∷ words) m = m

pub midway_in : (raw : ℕ) (blocks others : List Block) (c : Block) (words : List ℕ) → AreAlike blocks others → find_block raw others ≡ Some c
    → IfSome (find_block raw blocks) (λ b. IsMidway b words) → IsMidway c words
midway_in raw blocks others c words same is m = let (alike, there) = found_alike raw blocks others c same is in by (find_block raw blocks) alike there m
  where
    by : (o : Option Block) → IfSome o (λ b. without_data b ≡ without_data c) → (o ≡ None → ⊥) → IfSome o (λ b. IsMidway b words) → IsMidway c words
    by None alike there m = absurd (there refl)
    by (Some b) alike there m = midway_alike b c words alike m

goes_with : (write : Bool) (element : ℕ) (blocks : List Block) (run : List Processed) → GoesWith blocks run → GoesWith blocks (continued write element run)
goes_with write element blocks [] h = tt
goes_with write element blocks (t ∷ run) h = by (_)
  where
    by : (same : Bool) → GoesWith blocks (cond same (t ∷ run) [])
    by true = h
    by false = tt

-- an element that can't be written
module _ (v : SessionView) (t : Processed) (log : List Entry) (raw : ℕ) (stood : SessionStandsFor v log) (open_is : open_idn log ≡ Some raw)
    (writes : t.step.write ≡ true) (not_closing : (t.step.element == 0) ≡ false) (not_opening : (t.step.element == 1) ≡ false) (other : (t.step.element == 7) ≡ false) where
  pub protected_step : (code : ℕ) (buffer : List ℕ) → code ≡ 4096 * t.step.element + 4
      → IsAnswered (record { opened = v.opened; selection = None; buffer = buffer }) t log (refused code)
  protected_step code buffer is =
      refused_step v t log stood (rw (writes, not_opening) refl) not_closing buffer code (rw (writes, not_opening, not_closing, open_is, other, is) refl)

  pub protected_adds : adds t log ≡ None
  protected_adds = rw (writes, other) refl

module _ (v : SessionView) (t : Processed) (log : List Entry) (raw : ℕ) (stood : SessionStandsFor v log) (open_is : open_idn log ≡ Some raw)
    (writes : t.step.write ≡ true) (seven : t.step.element ≡ 7) where
  abbrev pub run : List Processed
  run = continued true 7 (run_of log)

  no_opening : opens t.step ≡ false
  no_opening = rw (writes, seven) refl

  not_closing : (t.step.element == 0) ≡ false
  not_closing = rw seven refl

  run_is : run_before true 7 log ≡ run
  run_is = run_before-run_of true 7 log refl refl

  run_at : run_before t.step.write t.step.element log ≡ run
  run_at = rw (writes, seven) run_is

  at : place_in v.selection true 7 ≡ place_of run
  at = rw stood.selection_is (place_is true 7 (run_of log))

  holds : HoldsRun (Some raw) run v.buffer
  holds = holds_continued true 7 raw (run_of log) v.buffer (rw open_is at stood.buffer_is)

  writing : (s : Processed) (rest : List Processed) → run ≡ s ∷ rest → IsWriting raw s rest v.buffer
  writing s rest e =
      let before : IsKeptRun s.step.write raw s rest v.buffer = rw e at holds in
      writing_of s.step.write raw s rest v.buffer (continued_bit true 7 (run_of log) s rest e) before

  -- what is kept of the words before
  pub bytes_before : (place : ℕ) (buffer : List ℕ) → place ≡ place_in v.selection true 7 → buffer ≡ cond (place == 0) [] v.buffer → buffer ≡ bytes_in (in_order run [])
  bytes_before place buffer p is = by run refl
    where
      by : (r : List Processed) → run ≡ r → buffer ≡ bytes_in (in_order r [])
      by [] e = let none : place ≡ 0 = p ∙ at ∙ ap place_of e in is ∙ rw none refl
      by (s ∷ rest) e =
          let some : (place == 0) ≡ false = rw (p ∙ at ∙ ap place_of e) (place_some s rest) in
          is ∙ rw some (writing s rest e).bytes

  pub place_before : (place : ℕ) → place ≡ place_in v.selection true 7 → place ≡ min (length (in_order run [])) 65535
  place_before place p =
      let count : length (in_order run []) ≡ length run = (let n = length-in_order run [] in omega (arith, n)) in
      p ∙ at ∙ rw count refl

  pub started : (b : Block) → GoesWith t.blocks (run_of log) → find_block raw t.blocks ≡ Some b → IsStarted b (in_order run [])
  started b with there = by run refl (goes_with true 7 t.blocks (run_of log) with)
    where
      by : (r : List Processed) → run ≡ r → GoesWith t.blocks r → IsStarted b (in_order r [])
      by [] e w = tt
      by (s ∷ rest) e w = started_by b (in_order (s ∷ rest) []) (midway_in raw s.blocks t.blocks b (in_order (s ∷ rest) []) w there (writing s rest e).midway)

  words_are : in_order run (t.step.word ∷ []) ≡ in_order run [] ++ t.step.word ∷ []
  words_are = in_order-append run [] (t.step.word ∷ [])

  reply : reply_of t log ≡ answer_by (write_cause_in (find_block raw t.blocks) t.phase t.step.last (in_order run (t.step.word ∷ []))) 0
  reply = rw (writes, seven, open_is, run_is) refl

  -- the drive has no such block
  pub absent_step : (buffer : List ℕ) (code : ℕ) → find_block raw t.blocks ≡ None → Some code ≡ Some 0x1001
      → IsAnswered (record { opened = v.opened; selection = None; buffer = buffer }) t log (refused code)
  absent_step buffer code none is =
      let same : code ≡ 0x1001 = cc in
      refused_step v t log stood no_opening not_closing buffer code (sym (reply ∙ rw (none, same) refl))

  module _ (b : Block) (there : find_block raw t.blocks ≡ Some b) (buffer : List ℕ) (blocks' : List Block) (commands commands' : CommandsView) where
    pub refused_write : (code : ℕ) → IsWord raw t.cycle t.phase b t.step.last (in_order run [] ++ t.step.word ∷ []) (Some code) buffer t.blocks blocks' commands commands'
        → IsAnswered (record { opened = v.opened; selection = None; buffer = buffer }) t log (refused code)
    refused_write code w = refused_step v t log stood no_opening not_closing buffer code (sym (reply ∙ rw (there, words_are, ← w.code_is) refl))

    pub good_write : (place : ℕ) → place ≡ place_in v.selection true 7
        → IsWord raw t.cycle t.phase b t.step.last (in_order run [] ++ t.step.word ∷ []) None buffer t.blocks blocks' commands commands'
        → IsAnswered (record { opened = v.opened; selection = selected t.step.last t.step place; buffer = buffer }) t log (good 0)
    good_write place p w =
        let says : good 0 ≡ reply_of t log = sym (reply ∙ rw (there, words_are, ← w.code_is) refl) in
        let keeps = (λ (off : t.step.last ≡ false). run_of_writing t.step.write raw t run buffer writes
        (record { element = seven; bytes = w.buffer_is refl ∙ ap bytes_in (sym words_are); midway = rw (there, words_are) (w.midway refl off) })) in
        rw (p ∙ at) (good_step v t log stood no_opening not_closing raw 0 run buffer says open_is run_at keeps)

    added : (code : Option ℕ) → code ≡ write_cause b t.phase t.step.last (in_order run [] ++ t.step.word ∷ [])
        → adds t log ≡ write_by t.step.last code (record { cycle = t.cycle; raw = raw; bytes = bytes_written b (in_order run [] ++ t.step.word ∷ []) })
    added code is = rw (reply, writes, seven, there, words_are, ← is, run_is, open_is, there, words_are) (by t.step.last code)
      where
        w : Write
        w = record { cycle = t.cycle; raw = raw; bytes = bytes_written b (in_order run [] ++ t.step.word ∷ []) }

        by : (last : Bool) (code : Option ℕ) → cond (last && not (answer_by code 0).error) (Some w) None ≡ write_by last code w
        by true None = refl
        by true (Some code) = refl
        by false code = refl

    pub effect : (code : Option ℕ) → IsWord raw t.cycle t.phase b t.step.last (in_order run [] ++ t.step.word ∷ []) code buffer t.blocks blocks' commands commands'
        → IsEffect (adds t log) t.cycle t.blocks blocks' commands commands'
    effect code w = rw (added code w.code_is) w.effect

  pub absent_adds : find_block raw t.blocks ≡ None → adds t log ≡ None
  absent_adds none = rw (reply, writes, seven, none) (by t.step.last _)
    where
      by : (last : Bool) (w : Option Write) → cond (last && false) w None ≡ None
      by true w = refl
      by false w = refl

-- What was done with the word, whether the drive has the block or not.
module _ (v : SessionView) (t : Processed) (log : List Entry) (raw : ℕ) (stood : SessionStandsFor v log) (open_is : open_idn log ≡ Some raw)
    (writes : t.step.write ≡ true) (seven : t.step.element ≡ 7) (with : GoesWith t.blocks (run_of log))
    (place : ℕ) (place_is_kept : place ≡ place_in v.selection true 7) (buffer buffer' : List ℕ) (started_is : buffer ≡ cond (place == 0) [] v.buffer)
    (code : Option ℕ) (blocks' : List Block) (commands commands' : CommandsView)
    (word : (b : Block) (words : List ℕ) → find_block raw t.blocks ≡ Some b → buffer ≡ bytes_in words → place ≡ min (length words) 65535 → IsStarted b words
    → IsWord raw t.cycle t.phase b t.step.last (words ++ t.step.word ∷ []) code buffer' t.blocks blocks' commands commands')
    (absent : find_block raw t.blocks ≡ None → (code ≡ Some 0x1001) × (blocks' ≡ t.blocks) × (commands' ≡ commands)) where
  word_of : (b : Block) → find_block raw t.blocks ≡ Some b
      → IsWord raw t.cycle t.phase b t.step.last (in_order (run v t log raw stood open_is writes seven) [] ++ t.step.word ∷ []) code buffer' t.blocks blocks' commands commands'
  word_of b there =
      word b (in_order (run v t log raw stood open_is writes seven) []) there (bytes_before v t log raw stood open_is writes seven place buffer place_is_kept started_is)
      (place_before v t log raw stood open_is writes seven place place_is_kept) (started v t log raw stood open_is writes seven b with there)

  pub write_refused : (n : ℕ) → code ≡ Some n → IsAnswered (record { opened = v.opened; selection = None; buffer = buffer' }) t log (refused n)
  write_refused n is = by (find_block raw t.blocks) refl
    where
      by : (o : Option Block) → find_block raw t.blocks ≡ o → IsAnswered (record { opened = v.opened; selection = None; buffer = buffer' }) t log (refused n)
      by None e = absent_step v t log raw stood open_is writes seven buffer' n e (sym is ∙ (absent e).0)
      by (Some b) e = refused_write v t log raw stood open_is writes seven b e buffer' blocks' commands commands' n (rw is at (word_of b e))

  pub write_good : code ≡ None → IsAnswered (record { opened = v.opened; selection = selected t.step.last t.step place; buffer = buffer' }) t log (good 0)
  write_good is = by (find_block raw t.blocks) refl
    where
      by : (o : Option Block) → find_block raw t.blocks ≡ o → IsAnswered (record { opened = v.opened; selection = selected t.step.last t.step place; buffer = buffer' }) t log (good 0)
      by None e = let no = (absent e).0 in cc
      by (Some b) e = good_write v t log raw stood open_is writes seven b e buffer' blocks' commands commands' place place_is_kept (rw is at (word_of b e))

  pub write_effect : IsEffect (adds t log) t.cycle t.blocks blocks' commands commands'
  write_effect = by (find_block raw t.blocks) refl
    where
      by : (o : Option Block) → find_block raw t.blocks ≡ o → IsEffect (adds t log) t.cycle t.blocks blocks' commands commands'
      by None e =
          let (_, same, still) = absent e in
          rw (absent_adds v t log raw stood open_is writes seven e, same, still) (record { blocks_are = λ c stands. refl; commands_are = λ c stands. stands })
      by (Some b) e = effect v t log raw stood open_is writes seven b e buffer' blocks' commands commands' code (word_of b e)
