-- What each way to take a word of operation data comes to.
use Rattle.std.proofs.Common.{◌≡◌, ℕ, ◌+◌, ◌*◌, ◌≤◌, ◌%◌, ◌/◌, ◌==◌, Bool, true, false, cond, List, [], ◌∷◌, ◌++◌, length, min, take, drop, Option, Some, None, refl, ap, sym, ◌∙◌, arith, length-append}
use Rattle.std.specs.Prelude.{slice_index, option_map, Result, Ok, Err}
use Rattle.std.specs.Result.{result_err, IsErrAnd}
use Rattle.std.proofs.lemmas.Bool.Decides.{nat_tests}
use Rattle.sercos_idn.specs.Codes.{is_list}
use Rattle.sercos_idn.specs.declared.code.Code.{Code}
use Rattle.sercos_step.specs.Words.{words_of, bytes_in}
use Rattle.sercos_block.specs.declared.block.Block.{Block}
use Rattle.sercos_block.specs.Stores.{put_fault}
use Rattle.sercos_command.specs.Calls.{CommandHistory}
use Rattle.sercos_command.specs.Kept.{CommandsView, CommandsStandFor}
use Rattle.sercos_service_drive.specs.Replies.{bytes_written}
use Rattle.sercos_service_drive.specs.Writes.{Write, unless, blocks_with, commands_with}
use Rattle.sercos_service_drive.specs.Partial.{place_cause, IsStarted, IsEffect, IsWord, write_by}
use Rattle.sercos_step.proofs.ReadWords.{bytes_in-append}
use Rattle.sercos_service_drive.proofs.WordLemmas.{length-bytes_in, written-is, room, cause_is, has_passed, goes_on}

halves : (word : ℕ) → word % 256 + 256 * (word / 256) ≡ word
halves word = omega arith

-- the first word of a run, of which these are there
pub first_word : (words : List ℕ) (word place : ℕ) (buffer : List ℕ) → buffer ≡ bytes_in words → place ≡ length words
    → cond (place == 0) word (slice_index (words_of buffer) 0) ≡ slice_index (words ++ word ∷ []) 0
first_word [] word place buffer b p = rw p refl
first_word (v ∷ words) word place buffer b p =
    let later : (length (v ∷ words) == 0) ≡ false = grind (arith, nat_tests) in
    rw (p, b, later) (halves v)

pub kept : (b : Block) (words : List ℕ) (word most : ℕ) (buffer : List ℕ) {buffer' : List ℕ} → b.max_len ≡ most → most ≤ 1024 → buffer ≡ bytes_in words → IsStarted b words
    → (length buffer ≤ 1026 → buffer' ≡ buffer ++ (word % 256) ∷ (word / 256) ∷ []) → buffer' ≡ bytes_in (words ++ word ∷ [])
kept b words word most buffer is few same started put =
    let fits : length buffer ≤ 1026 = rw same (room b words (rw is few) started) in
    put fits ∙ rw same (sym (bytes_in-append words word))

pub at_place : {o : Option Block} {cause : Option ℕ} (b : Block) (phase : ℕ) (last : Bool) (words : List ℕ) (word place first : ℕ) → cause ≡ place_cause o phase last (place + 1) first → o ≡ Some b → place ≡ length words
    → first ≡ slice_index (words ++ word ∷ []) 0 → cause ≡ place_cause (Some b) phase last (length (words ++ word ∷ [])) (slice_index (words ++ word ∷ []) 0)
at_place b phase last words word place first is there p f =
    let count : place + 1 ≡ length (words ++ word ∷ []) = rw length-append (omega (arith, p)) in
    is ∙ rw (there, count, f) refl

-- as many words as were accepted fit into a word
pub place_at : (b : Block) (words : List ℕ) (place most : ℕ) → b.max_len ≡ most → most ≤ 1024 → IsStarted b words → place ≡ min (length words) 65535 → place ≡ length words
place_at b words place most is few started p =
    let fits = room b words (rw is few) started in
    let bytes = length-bytes_in words in
    omega (arith, fits, bytes)

pub written_at : (b : Block) (words : List ℕ) {list : Bool} {first : ℕ} {bytes slice buffer : List ℕ} → bytes ≡ cond list (take first (drop 4 slice)) slice → list ≡ is_list b.attribute.length
    → first ≡ slice_index words 0 → slice ≡ buffer → buffer ≡ bytes_in words → bytes ≡ bytes_written b words
written_at b words {list} is l f s same = is ∙ rw (s, same, f) (written-is b words list l)

-- the code of an error as an option
pub error_is : {A : Type 0} (r : Result A Code) (code : Code) → IsErrAnd r (λ e. e ≡ code) → option_map (λ e. e.raw) (result_err r) ≡ Some code.raw
error_is (Ok a) code is = absurd is
error_is (Err e) code is = ap (λ (c : Code). Some c.raw) is

no_effect : (cycle : ℕ) (blocks : List Block) (commands : CommandsView) → IsEffect None cycle blocks blocks commands commands
no_effect cycle blocks commands = record { blocks_are = λ c stood. refl; commands_are = λ c stood. stood }

refused_effect : (last : Bool) (code cycle : ℕ) (w : Write) (blocks : List Block) (commands : CommandsView) → IsEffect (write_by last (Some code) w) cycle blocks blocks commands commands
refused_effect true code cycle w blocks commands = no_effect cycle blocks commands
refused_effect false code cycle w blocks commands = no_effect cycle blocks commands

module _ (raw cycle phase : ℕ) (b : Block) (words : List ℕ) (word : ℕ) (started : IsStarted b words) where
  -- there is a cause against its place
  pub refused_word : (last : Bool) (code : ℕ) (buffer : List ℕ) (blocks : List Block) (commands : CommandsView)
      → Some code ≡ place_cause (Some b) phase last (length (words ++ word ∷ [])) (slice_index (words ++ word ∷ []) 0)
      → IsWord raw cycle phase b last (words ++ word ∷ []) (Some code) buffer blocks blocks commands commands
  refused_word last code buffer blocks commands is = record {
    code_is = sym (cause_is b phase last words word started ∙ rw (← is) refl);
    buffer_is = λ none. cc;
    midway = λ none. cc;
    effect = refused_effect last code cycle _ blocks commands;
  }

  -- it isn't the last
  pub kept_word : (last : Bool) (buffer : List ℕ) (blocks : List Block) (commands : CommandsView) → last ≡ false
      → None ≡ place_cause (Some b) phase last (length (words ++ word ∷ [])) (slice_index (words ++ word ∷ []) 0) → buffer ≡ bytes_in (words ++ word ∷ [])
      → IsWord raw cycle phase b last (words ++ word ∷ []) None buffer blocks blocks commands commands
  kept_word true buffer blocks commands off is same = cc
  kept_word false buffer blocks commands off is same = record {
    code_is = sym (cause_is b phase false words word started ∙ rw (← is) refl);
    buffer_is = λ none. same;
    midway = λ none off. goes_on b phase words word started (has_passed b phase false (words ++ word ∷ []) (sym is));
    effect = no_effect cycle blocks commands;
  }

  -- it is the last, and the store is asked
  pub last_word : (last : Bool) (code : Option ℕ) (buffer bytes : List ℕ) (blocks blocks' : List Block) (commands commands' : CommandsView) → last ≡ true
      → None ≡ place_cause (Some b) phase last (length (words ++ word ∷ [])) (slice_index (words ++ word ∷ []) 0) → buffer ≡ bytes_in (words ++ word ∷ [])
      → bytes ≡ bytes_written b (words ++ word ∷ []) → code ≡ put_fault (Some b) phase bytes
      → ((c : CommandHistory) → CommandsStandFor commands c
      → blocks' ≡ blocks_with (unless (put_fault (Some b) phase bytes) (record { cycle = cycle; raw = raw; bytes = bytes })) c blocks)
      → ((c : CommandHistory) → CommandsStandFor commands c
      → CommandsStandFor commands' (commands_with (unless (put_fault (Some b) phase bytes) (record { cycle = cycle; raw = raw; bytes = bytes })) blocks c))
      → IsWord raw cycle phase b last (words ++ word ∷ []) code buffer blocks blocks' commands commands'
  last_word false code buffer bytes blocks blocks' commands commands' on is same put fault blocks_are commands_are = cc
  last_word true code buffer bytes blocks blocks' commands commands' on is same put fault blocks_are commands_are = record {
    code_is = fault ∙ rw put (sym (cause_is b phase true words word started ∙ rw (← is) refl));
    buffer_is = λ none. same;
    midway = λ none off. cc;
    effect = record {
      blocks_are = λ c stood. rw (fault, ← put) (blocks_are c stood);
      commands_are = λ c stood. rw (fault, ← put) (commands_are c stood);
    };
  }

  -- it is the last, and the store refuses the bytes
  pub refused_data : (last : Bool) (code : ℕ) (buffer bytes : List ℕ) (blocks blocks' : List Block) (commands : CommandsView) → last ≡ true
      → None ≡ place_cause (Some b) phase last (length (words ++ word ∷ [])) (slice_index (words ++ word ∷ []) 0) → buffer ≡ bytes_in (words ++ word ∷ [])
      → bytes ≡ bytes_written b (words ++ word ∷ []) → put_fault (Some b) phase bytes ≡ Some code → blocks' ≡ blocks
      → IsWord raw cycle phase b last (words ++ word ∷ []) (Some code) buffer blocks blocks' commands commands
  refused_data last code buffer bytes blocks blocks' commands on is same put fault stays =
      last_word last (Some code) buffer bytes blocks blocks' commands commands on is same put (sym fault) (λ c stood. rw fault stays) (λ c stood. rw fault stood)
