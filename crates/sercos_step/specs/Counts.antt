-- How many answers a transfer has. Answers are listed newest first, their words oldest first.
use Rattle.std.specs.Prelude.{◌≡◌, ℕ, ◌+◌, ◌*◌, ◌/◌, ◌<◌, ◌≤◌, ◌==◌, if◌then◌else◌, List, [], ◌∷◌, length, drop, slice_index, Some}
use Rattle.sercos_idn.specs.declared.idn.Idn.{Idn}
use Rattle.sercos_idn.specs.Elements.{attribute_element, minimum_element, data_element}
use Rattle.sercos_idn.specs.Commands.{running_status}
use Rattle.sercos_step.specs.declared.step.Answer.{Answer}
use Rattle.sercos_step.specs.declared.shape.Shape.TheVariants as shape
use Rattle.sercos_step.specs.declared.request.Request.{Request}
use Rattle.sercos_step.specs.declared.request.Request.TheVariants as request
use Rattle.sercos_step.specs.declared.request.Outcome.TheVariants as outcome
use Rattle.sercos_step.specs.Words.{shape_of, words_in, words_told}
use Rattle.sercos_step.specs.Steps.{steps_before, attribute_read, answer_words, outcome_of, AreAnswers}

-- how often the data status of a command is read: once, and once more after each status of a
-- running command
abbrev pub polls : List ℕ → ℕ
polls [] = 1
polls (status ∷ words) = 1 + (if status == running_status then polls words else 0)

-- The number of answers of a complete transfer, as far as the words so far determine it. One
-- answers the opening. In a read of minimum, maximum or operation data, and in a write of operation
-- data, two answer the reads of the attribute. Then there is one for each word of the element. In a
-- command one answers the opening, one the setting, one each read of the data status and one the
-- cancelling.
abbrev pub count_of : Request → List ℕ → ℕ
count_of (request.Read idn e) words = steps_before e + words_in (shape_of e (attribute_read e words)) (slice_index words (steps_before e))
count_of (request.Write idn e bytes) words = if e == data_element
    then 3 + length (words_told (shape_of data_element (attribute_read data_element words)) bytes)
    else 1 + length (words_told (shape_of e 0) bytes)
count_of (request.Command idn) words = 3 + polls (drop 2 words)

-- a complete transfer has exactly this number of answers
abbrev pub CountsAnswers : Type 0
CountsAnswers = (r : Request) (h : List Answer) (bytes : List ℕ) → AreAnswers r h → outcome_of r h ≡ Some (outcome.Complete bytes) →
    length h ≡ count_of r (answer_words h)

-- any transfer has at most this number
abbrev pub HasAtMost : Type 0
HasAtMost = (r : Request) (h : List Answer) → AreAnswers r h → length h ≤ count_of r (answer_words h)

-- a read of an attribute has at most three answers
abbrev pub AttributeTakes : Type 0
AttributeTakes = (idn : Idn) (h : List Answer) → AreAnswers (request.Read idn attribute_element) h → length h ≤ 3

-- A read of a minimum, a maximum or operation data has at most four answers if its attribute has a
-- length of one word. The attribute is known after three answers.
abbrev pub ValueTakes : Type 0
ValueTakes = (idn : Idn) (e : ℕ) (h : List Answer) → minimum_element ≤ e → AreAnswers (request.Read idn e) h →
    (3 ≤ length h → shape_of e (attribute_read e (answer_words h)) ≡ shape.One) → length h ≤ 4

-- A read of operation data has at most 5 + k answers if its attribute is that of a list, and the
-- list has at most 2k bytes by its first word.
abbrev pub ListTakes : Type 0
ListTakes = (idn : Idn) (k : ℕ) (h : List Answer) → AreAnswers (request.Read idn data_element) h →
    (3 ≤ length h → shape_of data_element (attribute_read data_element (answer_words h)) ≡ shape.List) →
    slice_index (answer_words h) 3 ≤ 2 * k → length h ≤ 5 + k

-- A write of at most two bytes to operation data of one word has at most four answers.
abbrev pub ValueWriteTakes : Type 0
ValueWriteTakes = (idn : Idn) (bytes : List ℕ) (h : List Answer) → length bytes ≤ 2 → AreAnswers (request.Write idn data_element bytes) h →
    (3 ≤ length h → shape_of data_element (attribute_read data_element (answer_words h)) ≡ shape.One) → length h ≤ 4

-- A write of at most 2k bytes to operation data that is a list has at most 5 + k answers.
abbrev pub ListWriteTakes : Type 0
ListWriteTakes = (idn : Idn) (bytes : List ℕ) (k : ℕ) (h : List Answer) → length bytes ≤ 2 * k →
    AreAnswers (request.Write idn data_element bytes) h →
    (3 ≤ length h → shape_of data_element (attribute_read data_element (answer_words h)) ≡ shape.List) → length h ≤ 5 + k

-- The data statuses of a command are read a period apart, the first of them a period after the
-- setting, or later. The command ends within a time from the setting on, so each status of a
-- running command was read before that.
abbrev pub EndsInTime : ℕ → ℕ → List Answer → Type 0
EndsInTime period time h = (k : ℕ) → k < polls (drop 2 (answer_words h)) → slice_index (drop 2 (answer_words h)) k ≡ running_status →
    (k + 1) * period < time

-- then the answers of the command, one in each period, take at most its time and four periods
abbrev pub CommandTakes : Type 0
CommandTakes = (idn : Idn) (period time : ℕ) (h : List Answer) → AreAnswers (request.Command idn) h → EndsInTime period time h →
    period * length h ≤ time + 4 * period

-- so there is at most one answer for each whole period of its time, and four more
abbrev pub CommandTakesSteps : Type 0
CommandTakesSteps = (idn : Idn) (period time : ℕ) (h : List Answer) → 0 < period → AreAnswers (request.Command idn) h →
    EndsInTime period time h → length h ≤ time / period + 4

-- a write has at most 1,024 bytes, and a command ends in time
abbrev pub IsBounded : ℕ → ℕ → Request → List Answer → Type 0
IsBounded period time (request.Read idn e) h = Unit {0}
IsBounded period time (request.Write idn e bytes) h = length bytes ≤ 1024
IsBounded period time (request.Command idn) h = EndsInTime period time h

-- such a request has at most 520 answers, and one more for each unit of the time
abbrev pub RequestTakes : Type 0
RequestTakes = (period time : ℕ) (r : Request) (h : List Answer) → 0 < period → AreAnswers r h → IsBounded period time r h →
    length h ≤ 520 + time
