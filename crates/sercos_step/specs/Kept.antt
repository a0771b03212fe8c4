-- What a transfer keeps of its answers, and how this represents them. It is for proofs alone.
use Rattle.std.specs.Prelude.{◌≡◌, ℕ, ◌-◌, ◌%◌, ◌/◌, ◌==◌, nat_le, nat_lt, Bool, true, false, ◌&&◌, ◌||◌, if◌then◌else◌, List, [], ◌∷◌, ◌++◌, length, take, drop, min, slice_index, is_some}
use Rattle.sercos_idn.specs.declared.idn.Idn.{Idn}
use Rattle.sercos_idn.specs.Elements.{data_element}
use Rattle.sercos_idn.specs.Commands.{running_status}
use Rattle.sercos_step.specs.declared.step.Answer.{Answer}
use Rattle.sercos_step.specs.declared.shape.Shape.{Shape}
use Rattle.sercos_step.specs.declared.shape.Shape.TheVariants as shape
use Rattle.sercos_step.specs.declared.request.Request.{Request}
use Rattle.sercos_step.specs.declared.request.Request.TheVariants as request
use Rattle.sercos_step.specs.Words.{shape_of, words_in_list, words_told, bytes_read}
use Rattle.sercos_step.specs.Steps.{reading, asks_attribute, steps_before, attribute_read, result_of, answer_words, is_whole, outcome_of, AreAnswers}

-- The number of answers so far, where the data statuses of a command count as one; the two words of
-- the attribute; of an element that is read, its first word and its bytes; of a command, the newest
-- word.
pub record ProgressView : Type 0 where
  pub count : ℕ
  pub low : ℕ
  pub high : ℕ
  pub first : ℕ
  pub bytes : List ℕ
  pub status : ℕ

-- whether the word at an index is the last of an element that is read, as far as that is known
abbrev pub is_last_read : Shape → ℕ → ℕ → Bool
is_last_read shape.One place first = true
is_last_read shape.Two place first = nat_le 1 place
is_last_read shape.List place first = nat_lt 0 place && nat_le (words_in_list first - 1) place

-- the most bytes that are kept of an element that is read
abbrev pub most_kept : Shape → ℕ → ℕ
most_kept shape.List first = min first 1024
most_kept _ first = 1024

-- the bytes that are kept, with those of the word at an index
abbrev pub kept_with : Shape → ℕ → ℕ → ℕ → List ℕ → List ℕ
kept_with shape.List place first word bytes = if nat_le 2 place then take (min first 1024) (bytes ++ (word % 256) ∷ (word / 256) ∷ [])
    else bytes
kept_with _ place first word bytes = take 1024 (bytes ++ (word % 256) ∷ (word / 256) ∷ [])

-- what is kept after these words of an element that is read, and whether the element is complete
pub record IsAfterWord (s : Shape) (e : ℕ) (words : List ℕ) (first : ℕ) (bytes : List ℕ) (whole : Bool) : Type 0 where
  pub first_is : first ≡ slice_index words 0
  pub bytes_is : bytes ≡ bytes_read s words
  pub whole_is : whole ≡ nat_le (length (reading s e words)) (length words)

-- what is kept in a read that goes on
pub record IsAtRead (p : ProgressView) (e : ℕ) (words : List ℕ) : Type 0 where
  pub count_is : p.count ≡ length words
  pub low_is : p.low ≡ (if asks_attribute e then slice_index words 1 else 0)
  pub high_is : p.high ≡ (if asks_attribute e then slice_index words 2 else 0)
  pub first_is : p.first ≡ slice_index words (steps_before e)
  pub bytes_is : p.bytes ≡ bytes_read (shape_of e (attribute_read e words)) (drop (steps_before e) words)

-- what is kept in a write that goes on
pub record IsAtWrite (p : ProgressView) (words : List ℕ) : Type 0 where
  pub count_is : p.count ≡ length words
  pub low_is : p.low ≡ slice_index words 1
  pub high_is : p.high ≡ slice_index words 2

-- all data statuses so far show that the command is running
abbrev pub is_running : List ℕ → Bool
is_running [] = true
is_running (status ∷ words) = (status == running_status) && is_running words

-- the number of answers to a command, without those with the data status; once one of them shows
-- that the command isn't running, they count as one
abbrev pub command_count : List ℕ → ℕ
command_count [] = 0
command_count (opened ∷ []) = 1
command_count (opened ∷ set ∷ statuses) = if is_running statuses then 2 else 3

-- what is kept in a command that goes on
pub record IsAtCommand (p : ProgressView) (words : List ℕ) : Type 0 where
  pub count_is : p.count ≡ command_count words
  pub status_is : p.status ≡ slice_index words (length words - 1)

-- the count of a command after one more word
abbrev pub count_with : ℕ → ℕ → ℕ
count_with count word = if count == 0 then 1 else (if (count == 1) || (word == running_status) then 2 else 3)

-- after these words of a command: whether it is complete, and what is kept
pub record IsAfterCommand (idn : Idn) (p : ProgressView) (words : List ℕ) (whole : Bool) : Type 0 where
  pub whole_is : whole ≡ is_whole (request.Command idn) words
  pub goes_on : whole ≡ false → IsAtCommand p words
  pub ended : whole ≡ true → p.status ≡ slice_index words (length words - 2)

-- what is kept, with one more word if that is one of the attribute
abbrev pub with_attribute : ProgressView → ℕ → ProgressView
with_attribute p word = record p { low = if p.count == 1 then word else p.low; high = if p.count == 2 then word else p.high }

-- whether one more answer ends a write, from the answers before it and the word of the attribute
abbrev pub ends_write : ℕ → ℕ → List ℕ → ℕ → Bool
ends_write e attribute bytes count =
    if e == data_element then nat_le 3 count && nat_le (length (words_told (shape_of data_element attribute) bytes)) (count - 2)
    else nat_le (length (words_told (shape_of e 0) bytes)) count

-- what is kept while a request goes on, after these words
abbrev pub IsAt : Request → ProgressView → List ℕ → Type 0
IsAt (request.Read idn e) p words = IsAtRead p e words
IsAt (request.Write idn e bytes) p words = IsAtWrite p words
IsAt (request.Command idn) p words = IsAtCommand p words

-- the result of a complete request, from what is kept
abbrev pub result_kept : Request → ProgressView → List ℕ
result_kept (request.Read idn e) p = p.bytes
result_kept (request.Write idn e bytes) p = []
result_kept (request.Command idn) p = (p.status % 256) ∷ (p.status / 256) ∷ []

-- after these words: whether the request is complete, what is kept if it isn't, and the result if
-- it is
pub record IsAfterAnswer (r : Request) (p : ProgressView) (words : List ℕ) (whole : Bool) : Type 0 where
  pub whole_is : whole ≡ is_whole r words
  pub goes_on : whole ≡ false → IsAt r p words
  pub ended : whole ≡ true → result_kept r p ≡ result_of r words

-- what contracts see of a transfer
pub record TransferView : Type 0 where
  pub request : Request
  pub progress : ProgressView
  pub done : Bool

-- a transfer represents a request and the answers to it, the newest first
pub record TransferStandsFor (v : TransferView) (request : Request) (h : List Answer) : Type 0 where
  pub request_is : v.request ≡ request
  pub in_turn : AreAnswers request h
  pub done_is : v.done ≡ is_some (outcome_of request h)
  pub at_work : v.done ≡ false → IsAt request v.progress (answer_words h)
