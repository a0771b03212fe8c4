-- The steps of a transfer, as far as the answers so far determine them, and how it ends.
use Rattle.std.specs.Prelude.{◌≡◌, ℕ, ◌+◌, ◌-◌, ◌*◌, ◌<◌, ◌≤◌, ◌==◌, nat_le, Bool, true, false, if◌then◌else◌, List, [], ◌∷◌, ◌++◌, length, drop, replicate, slice_index, slice_get, Option, Some, None}
use Rattle.std.specs.List.{All}
use Rattle.sercos_model.specs.Bits.{AreBytes}
use Rattle.sercos_idn.specs.declared.idn.Idn.{Idn}
use Rattle.sercos_idn.specs.Elements.{identifier_element, attribute_element, minimum_element, data_element}
use Rattle.sercos_idn.specs.Commands.{to_cancel, to_set, running_status}
use Rattle.sercos_step.specs.declared.step.Step.{Step}
use Rattle.sercos_step.specs.declared.step.Answer.{Answer}
use Rattle.sercos_step.specs.declared.shape.Shape.{Shape}
use Rattle.sercos_step.specs.declared.shape.Shape.TheVariants as shape
use Rattle.sercos_step.specs.declared.request.Request.{Request}
use Rattle.sercos_step.specs.declared.request.Request.TheVariants as request
use Rattle.sercos_step.specs.declared.request.Job.{Job}
use Rattle.sercos_step.specs.declared.request.Outcome.{Outcome}
use Rattle.sercos_step.specs.declared.request.Outcome.TheVariants as outcome
use Rattle.sercos_step.specs.Words.{bytes_in, bytes_read, shape_of, words_in_list, words_told}

-- a step of its parts
abbrev pub a_step : Bool → Bool → ℕ → ℕ → Step
a_step write last element word = record { write = write; last = last; element = element; word = word }

-- the step that opens an identifier number
abbrev pub opening : Idn → Step
opening idn = a_step true true identifier_element idn.raw

-- the steps that carry the words of an element one by one, the last of them marked
abbrev pub run : Bool → ℕ → List ℕ → List Step
run write e [] = []
run write e (word ∷ []) = a_step write true e word ∷ []
run write e (word ∷ next ∷ words) = a_step write false e word ∷ run write e (next ∷ words)

-- the steps that read an element, from its words so far; the first word of a list is its length
abbrev pub reading : Shape → ℕ → List ℕ → List Step
reading shape.One e words = run false e (0 ∷ [])
reading shape.Two e words = run false e (0 ∷ 0 ∷ [])
reading shape.List e [] = a_step false false e 0 ∷ []
reading shape.List e (actual ∷ words) = run false e (replicate (words_in_list actual) 0)

-- the steps that write these bytes to an element
abbrev pub writing : Shape → ℕ → List ℕ → List Step
writing s e bytes = run true e (words_told s bytes)

-- the two steps that read the attribute, and then the steps that depend on it and on the words that
-- follow
abbrev pub attribute_then : (ℕ → List ℕ → List Step) → List ℕ → List Step
attribute_then rest (low ∷ high ∷ words) = a_step false false attribute_element 0 ∷ a_step false true attribute_element 0 ∷
    rest (low + 65536 * high) words
attribute_then rest _ = a_step false false attribute_element 0 ∷ a_step false true attribute_element 0 ∷ []

-- the data status is read until it isn't that of a running command; then the command is cancelled
abbrev pub polling : List ℕ → List Step
polling [] = a_step false true identifier_element 0 ∷ []
polling (status ∷ words) = a_step false true identifier_element 0 ∷ (if status == running_status then polling words
    else a_step true true data_element to_cancel ∷ [])

-- whether a read of an element reads the attribute first: for minimum, maximum and operation data.
-- A write does so for operation data alone.
abbrev pub asks_attribute : ℕ → Bool
asks_attribute e = nat_le minimum_element e

-- all steps of a request that are known from the words of the answers so far
abbrev pub steps_of : Request → List ℕ → List Step
steps_of (request.Read idn e) words =
    opening idn ∷ (if asks_attribute e then attribute_then (λ attribute after. reading (shape_of e attribute) e after) (drop 1 words)
    else reading (shape_of e 0) e (drop 1 words))
steps_of (request.Write idn e bytes) words =
    opening idn ∷ (if e == data_element
    then attribute_then (λ attribute after. writing (shape_of data_element attribute) data_element bytes) (drop 1 words)
    else writing (shape_of e 0) e bytes)
steps_of (request.Command idn) words = opening idn ∷ a_step true true data_element to_set ∷ polling (drop 2 words)

-- the number of steps before an element's own words, and the attribute that they read
abbrev pub steps_before : ℕ → ℕ
steps_before e = if asks_attribute e then 3 else 1

abbrev pub attribute_read : ℕ → List ℕ → ℕ
attribute_read e words = if asks_attribute e then slice_index words 1 + 65536 * slice_index words 2 else 0

-- the result of a transfer when all its steps are answered
abbrev pub result_of : Request → List ℕ → List ℕ
result_of (request.Read idn e) words = bytes_read (shape_of e (attribute_read e words)) (drop (steps_before e) words)
result_of (request.Write idn e bytes) words = []
result_of (request.Command idn) words = bytes_in (slice_index words (length words - 2) ∷ [])

-- the words of answers; answers are listed newest first, their words oldest first
abbrev pub answer_words : List Answer → List ℕ
answer_words [] = []
answer_words (a ∷ h) = answer_words h ++ a.word ∷ []

-- whether all steps of a request are answered
abbrev pub is_whole : Request → List ℕ → Bool
is_whole r words = nat_le (length (steps_of r words)) (length words)

-- the outcome, if the newest answer ends the transfer: an error, or the answer to the last step
abbrev pub outcome_of : Request → List Answer → Option Outcome
outcome_of r [] = None
outcome_of r (a ∷ h) =
    if a.error then Some (outcome.Refused (record { raw = a.word }))
    else (if is_whole r (answer_words h ++ a.word ∷ []) then Some (outcome.Complete (result_of r (answer_words h ++ a.word ∷ [])))
    else None)

-- the first step that has no answer
abbrev pub next_step : Request → List Answer → Option Step
next_step r h = slice_get (steps_of r (answer_words h)) (length (answer_words h))

-- no answer came after the end of the transfer
abbrev pub AreAnswers : Request → List Answer → Type 0
AreAnswers r [] = Unit {0}
AreAnswers r (a ∷ h) = AreAnswers r h × (outcome_of r h ≡ None)

-- the element is one that a request may name: 1 to 7 in a read, 2 to 7 in a write
abbrev pub IsRequest : Request → Type 0
IsRequest (request.Read idn e) = (1 ≤ e) × (e ≤ 7)
IsRequest (request.Write idn e bytes) = (2 ≤ e) × (e ≤ 7)
IsRequest (request.Command idn) = Unit {0}

-- The numbers of a request are within their types: an identifier number of sixteen bits, and fewer
-- than 65,536 bytes to write. Its element is one that a transfer accepts.
abbrev pub IsTypedRequest : Request → Type 0
IsTypedRequest (request.Read idn e) = (idn.raw < 65536) × ((1 ≤ e) × (e ≤ 7))
IsTypedRequest (request.Write idn e bytes) = (idn.raw < 65536) × ((2 ≤ e) × (e ≤ 7)) × AreBytes bytes × (length bytes < 65536)
IsTypedRequest (request.Command idn) = idn.raw < 65536

abbrev pub AreTypedJobs : List Job → Type 0
AreTypedJobs jobs = All (λ job. IsTypedRequest job.request) jobs
