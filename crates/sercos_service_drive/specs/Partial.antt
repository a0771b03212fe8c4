-- The effect of a word of operation data, by its place in the run. Used in proofs alone.
use Rattle.std.specs.Prelude.{◌≡◌, ℕ, ◌%◌, ◌==◌, nat_lt, nat_le, Bool, true, false, not, ◌&&◌, ◌||◌, List, [], ◌∷◌, Option, Some, None, Result, Ok, Err}
use Rattle.std.specs.Bool.{then_some}
use Rattle.std.specs.Option.{option_or}
use Rattle.sercos_idn.specs.declared.attribute.Attribute.{Attribute}
use Rattle.sercos_idn.specs.Codes.{is_list, item_len}
use Rattle.sercos_idn.specs.declared.code.Code.{Code}
use Rattle.sercos_step.specs.Words.{bytes_in}
use Rattle.sercos_block.specs.declared.block.Block.{Block}
use Rattle.sercos_block.specs.Stores.{write_fault}
use Rattle.sercos_command.specs.Calls.{CommandHistory}
use Rattle.sercos_command.specs.Kept.{CommandsView, CommandsStandFor}
use Rattle.sercos_service_drive.specs.Replies.{good, refused, words_by, bytes_written, write_cause}
use Rattle.sercos_service_drive.specs.Log.{Processed, Entry}
use Rattle.sercos_service_drive.specs.Writes.{Write, unless, blocks_with, commands_with}
use Rattle.sercos_service_drive.specs.Kept.{SessionView, IsMidway, IsAnswered}

-- The first code for which a word of operation data is refused by its place and its attribute. With
-- it there are `count` words, and `first` is the first of them.
unfoldable pub length_cause : Attribute → ℕ → Bool → ℕ → ℕ → Option ℕ
length_cause a most last count first =
    option_or (then_some (last && nat_lt count (words_by a first)) 0x7002)
    (option_or (then_some ((is_list a.length && ((count == 1) && nat_lt most first)) || (not last && nat_le (words_by a first) count))
    0x7003)
    (then_some (is_list a.length && ((count == 1) && not (first % item_len a.length == 0))) 0x7008))

-- the same, with the codes for which the block can't be written before it
abbrev pub place_cause : Option Block → ℕ → Bool → ℕ → ℕ → Option ℕ
place_cause None phase last count first = Some 0x1001
place_cause (Some b) phase last count first = option_or (write_fault (Some b) phase) (length_cause b.attribute b.max_len last count first)

-- these words were accepted before, in a run that continues
abbrev pub IsStarted : Block → List ℕ → Type 0
IsStarted b [] = Unit {0}
IsStarted b (word ∷ words) = IsMidway b (word ∷ words)

-- the effect of a write, if there is one, on the blocks and the procedure commands
pub record IsEffect (w : Option Write) (cycle : ℕ) (blocks blocks' : List Block) (commands commands' : CommandsView) : Type 0 where
  pub blocks_are : (c : CommandHistory) → CommandsStandFor commands c → blocks' ≡ blocks_with w c blocks
  pub commands_are : (c : CommandHistory) → CommandsStandFor commands c → CommandsStandFor commands' (commands_with w blocks c)

-- a step is answered with a word, or refused; a refusal ends the run
abbrev pub IsReplied : SessionView → Processed → List Entry → Result ℕ Code → Type 0
IsReplied v t log (Ok word) = IsAnswered v t log (good word)
IsReplied v t log (Err code) = IsAnswered (record v { selection = None }) t log (refused code.raw)

-- the write of the last word, unless there is a code against it
abbrev pub write_by : Bool → Option ℕ → Write → Option Write
write_by true code w = unless code w
write_by false code w = None

-- The effect of a word of operation data, if with it the run has these words: the code against it,
-- if there is one; otherwise the buffer has its bytes, and the last word writes them.
pub record IsWord (raw cycle phase : ℕ) (b : Block) (last : Bool) (words : List ℕ) (code : Option ℕ) (buffer : List ℕ)
    (blocks blocks' : List Block) (commands commands' : CommandsView) : Type 0 where
  pub code_is : code ≡ write_cause b phase last words
  pub buffer_is : code ≡ None → buffer ≡ bytes_in words
  pub midway : code ≡ None → last ≡ false → IsMidway b words
  pub effect : IsEffect (write_by last code (record { cycle = cycle; raw = raw; bytes = bytes_written b words })) cycle blocks blocks'
      commands commands'
