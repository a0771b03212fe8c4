-- How many answers a transfer has.
use Rattle.std.proofs.Common.{◌≡◌, ℕ, zero, suc, ◌+◌, ◌*◌, ◌/◌, ◌<◌, ◌≤◌, Bool, true, false, List, [], ◌∷◌, length, drop, refl, ap, ◌∙◌, inl, inr, arith, if◌then◌else◌}
use Rattle.std.specs.Prelude.{◌⊎◌, Some, None, is_some, slice_get, slice_index, nat_le, ◌==◌}
use Rattle.std.proofs.lemmas.Bool.Decides.{nat_tests}
use Rattle.std.proofs.lemmas.Bool.{cases_eq, eq-eqb}
use Rattle.std.proofs.lemmas.Nat.{le-div}
use Rattle.std.proofs.Math.Nat.{div-le_self}
use Rattle.sercos_step.specs.declared.step.Step.{Step}
use Rattle.sercos_step.specs.declared.step.Answer.{Answer}
use Rattle.sercos_step.specs.declared.shape.Shape.{Shape}
use Rattle.sercos_step.specs.declared.shape.Shape.TheVariants as shape
use Rattle.sercos_step.specs.declared.request.Request.{Request}
use Rattle.sercos_step.specs.declared.request.Request.TheVariants as request
use Rattle.sercos_step.specs.declared.request.Outcome.TheVariants as outcome
use Rattle.sercos_step.specs.Words.{shape_of, words_in, words_told, words_of}
use Rattle.sercos_step.specs.Steps.{a_step, reading, writing, attribute_then, polling, asks_attribute, attribute_read, steps_of, answer_words, is_whole, outcome_of, AreAnswers}
use Rattle.sercos_step.specs.Counts.{polls, count_of, CountsAnswers, HasAtMost, AttributeTakes, ValueTakes, ListTakes, ValueWriteTakes, ListWriteTakes, CommandTakes, CommandTakesSteps, RequestTakes}
use Rattle.sercos_step.proofs.Flags.{chosen}
use Rattle.sercos_step.proofs.Runs.{length-run}
use Rattle.sercos_step.proofs.ReadWords.{length-reading, some_read}
use Rattle.sercos_step.proofs.WrittenWords.{length-words_of, length-at_least_one}
use Rattle.sercos_step.proofs.KnownSteps.{steps_known}
use Rattle.sercos_step.proofs.Ends.{has_next, none_is, length-answer_words, read_ends, write_ends}

pub get_below : (steps : List Step) (k : ℕ) → is_some (slice_get steps k) ≡ true → k < length steps
get_below [] k there = absurd (cc)
get_below (x ∷ steps) zero there = omega arith
get_below (x ∷ steps) (suc k) there = let i = get_below steps k there in omega (arith, i)

-- products
pub times_le : (p n k : ℕ) → n ≤ k → p * n ≤ p * k
times_le p n k le = grind arith

pub times_more : (p n : ℕ) → p * (3 + n) ≡ p * n + 3 * p
times_more p n = grind arith

-- The steps are at most as many as counted, from any words, and exactly as many if they all have a word.

reading_most : (s : Shape) (e : ℕ) (words : List ℕ) → length (reading s e words) ≤ words_in s (slice_index words 0)
reading_most shape.One e [] = omega arith
reading_most shape.Two e [] = omega arith
reading_most shape.List e [] = omega arith
reading_most s e (first ∷ words) = let same = length-reading s e first words in omega (arith, same)

reading_all : (s : Shape) (e : ℕ) (words : List ℕ) → length (reading s e words) ≤ length words → length (reading s e words) ≡ words_in s (slice_index words 0)
reading_all s e [] whole = let some = some_read s e in absurd (omega (arith, some, whole))
reading_all s e (first ∷ words) whole = length-reading s e first words

-- the steps of a read after the opening, from all words, with its test as a variable
abbrev read_steps : Bool → ℕ → List ℕ → List Step
read_steps asks e words = if asks then attribute_then (λ attribute after. reading (shape_of e attribute) e after) (drop 1 words) else reading (shape_of e 0) e (drop 1 words)

abbrev read_count : Bool → ℕ → List ℕ → ℕ
read_count asks e words = (if asks then 3 else 1) + words_in (shape_of e (if asks then slice_index words 1 + 65536 * slice_index words 2 else 0)) (slice_index words (if asks then 3 else 1))

read_most : (asks : Bool) (e : ℕ) (words : List ℕ) → suc (length (read_steps asks e words)) ≤ read_count asks e words
read_most false e [] = let most = reading_most (shape_of e 0) e [] in omega (arith, most)
read_most false e (o ∷ words) = let most = reading_most (shape_of e 0) e words in omega (arith, most)
read_most true e [] = omega arith
read_most true e (o ∷ []) = omega arith
read_most true e (o ∷ low ∷ []) = omega arith
read_most true e (o ∷ low ∷ high ∷ words) = let most = reading_most (shape_of e (low + 65536 * high)) e words in omega (arith, most)

read_all : (asks : Bool) (e : ℕ) (words : List ℕ) → suc (length (read_steps asks e words)) ≤ length words → suc (length (read_steps asks e words)) ≡ read_count asks e words
read_all false e [] whole = absurd (omega (arith, whole))
read_all false e (o ∷ words) whole = let all = reading_all (shape_of e 0) e words (omega (arith, whole)) in omega (arith, all)
read_all true e [] whole = absurd (omega (arith, whole))
read_all true e (o ∷ []) whole = absurd (omega (arith, whole))
read_all true e (o ∷ low ∷ []) whole = absurd (omega (arith, whole))
read_all true e (o ∷ low ∷ high ∷ words) whole = let all = reading_all (shape_of e (low + 65536 * high)) e words (omega (arith, whole)) in omega (arith, all)

abbrev write_steps : Bool → ℕ → List ℕ → List ℕ → List Step
write_steps seven e bytes words = if seven then attribute_then (λ attribute after. writing (shape_of 7 attribute) 7 bytes) (drop 1 words) else writing (shape_of e 0) e bytes

abbrev write_count : Bool → ℕ → List ℕ → List ℕ → ℕ
write_count seven e bytes words = if seven then 3 + length (words_told (shape_of 7 (slice_index words 1 + 65536 * slice_index words 2)) bytes) else 1 + length (words_told (shape_of e 0) bytes)

write_most : (seven : Bool) (e : ℕ) (bytes words : List ℕ) → suc (length (write_steps seven e bytes words)) ≤ write_count seven e bytes words
write_most false e bytes words = let same = length-run true e (words_told (shape_of e 0) bytes) in omega (arith, same)
write_most true e bytes [] = omega arith
write_most true e bytes (o ∷ []) = omega arith
write_most true e bytes (o ∷ low ∷ []) = omega arith
write_most true e bytes (o ∷ low ∷ high ∷ words) = let same = length-run true 7 (words_told (shape_of 7 (low + 65536 * high)) bytes) in omega (arith, same)

write_all : (seven : Bool) (e : ℕ) (bytes words : List ℕ) → suc (length (write_steps seven e bytes words)) ≤ length words → suc (length (write_steps seven e bytes words)) ≡ write_count seven e bytes words
write_all false e bytes words whole = let same = length-run true e (words_told (shape_of e 0) bytes) in omega (arith, same)
write_all true e bytes [] whole = absurd (omega (arith, whole))
write_all true e bytes (o ∷ []) whole = absurd (omega (arith, whole))
write_all true e bytes (o ∷ low ∷ []) whole = absurd (omega (arith, whole))
write_all true e bytes (o ∷ low ∷ high ∷ words) whole = let same = length-run true 7 (words_told (shape_of 7 (low + 65536 * high)) bytes) in omega (arith, same)

polling_most : (words : List ℕ) → length (polling words) ≤ 1 + polls words
polling_most [] = omega arith
polling_most (status ∷ words) = elim (chosen (status == 7)) [
  | inl seven ↦ rw seven (let most = polling_most words in omega (arith, most))
  | inr other ↦ rw other (omega arith)
]

polling_all : (words : List ℕ) → length (polling words) ≤ length words → length (polling words) ≡ 1 + polls words
polling_all [] whole = absurd (omega (arith, whole))
polling_all (status ∷ words) whole = by (status == 7) whole (polling_all words)
  where
    by : (seven : Bool) → suc (length (if seven then polling words else a_step true true 7 0 ∷ [])) ≤ suc (length words) → (length (polling words) ≤ length words → length (polling words) ≡ 1 + polls words) →
        suc (length (if seven then polling words else a_step true true 7 0 ∷ [])) ≡ 1 + (1 + (if seven then polls words else 0))
    by true whole more = let all = more (omega (arith, whole)) in omega (arith, all)
    by false whole more = omega arith

pub steps_most : (r : Request) (words : List ℕ) → length (steps_of r words) ≤ count_of r words
steps_most (request.Read idn e) words = read_most (asks_attribute e) e words
steps_most (request.Write idn e bytes) words = write_most (e == 7) e bytes words
steps_most (request.Command idn) words = let most = polling_most (drop 2 words) in omega (arith, most)

steps_all : (r : Request) (words : List ℕ) → length (steps_of r words) ≤ length words → length (steps_of r words) ≡ count_of r words
steps_all (request.Read idn e) words whole = read_all (asks_attribute e) e words whole
steps_all (request.Write idn e bytes) words whole = write_all (e == 7) e bytes words whole
steps_all (request.Command idn) [] whole = absurd (omega (arith, whole))
steps_all (request.Command idn) (o ∷ []) whole = absurd (omega (arith, whole))
steps_all (request.Command idn) (o ∷ s ∷ words) whole = let all = polling_all words (omega (arith, whole)) in omega (arith, all)

-- the newest answer is to a step that is known from the words before it
answered_known : (r : Request) (a : Answer) (h : List Answer) → AreAnswers r (a ∷ h) → length (answer_words h) < length (steps_of r (answer_words (a ∷ h)))
answered_known r a h answers =
    let next = has_next r h (none_is (outcome_of r h) answers.1) in
    let same = steps_known r (answer_words h) a.word (length (answer_words h)) (omega arith) in
    get_below (steps_of r (answer_words (a ∷ h))) (length (answer_words h)) (ap is_some same ∙ next)

pub has_at_most : HasAtMost
has_at_most r [] answers = omega arith
has_at_most r (a ∷ h) answers =
    let below = answered_known r a h answers in
    let long = length-answer_words h in
    let most = steps_most r (answer_words (a ∷ h)) in omega (arith, below, long, most)

-- a complete transfer has a word for each step
le_by : (n k : ℕ) → nat_le n k ≡ true → n ≤ k
le_by n k test = grind (arith, nat_tests)

ends_whole : (error whole : Bool) (raw : ℕ) (result bytes : List ℕ) → (if error then Some (outcome.Refused (record { raw = raw })) else (if whole then Some (outcome.Complete result) else None)) ≡ Some (outcome.Complete bytes) → whole ≡ true
ends_whole true whole raw result bytes is = absurd (cc)
ends_whole false true raw result bytes is = refl
ends_whole false false raw result bytes is = absurd (cc)

pub counts_answers : CountsAnswers
counts_answers r [] bytes answers ends = absurd (cc)
counts_answers r (a ∷ h) bytes answers ends =
    let whole : is_whole r (answer_words (a ∷ h)) ≡ true = ends_whole a.error (is_whole r (answer_words (a ∷ h))) a.word _ bytes ends in
    let few = le_by (length (steps_of r (answer_words (a ∷ h)))) (length (answer_words (a ∷ h))) whole in
    let below = answered_known r a h answers in
    let before = length-answer_words h in
    let long = length-answer_words (a ∷ h) in
    let all = steps_all r (answer_words (a ∷ h)) few in omega (arith, few, below, before, long, all)

pub attribute_takes : AttributeTakes
attribute_takes idn h answers = has_at_most (request.Read idn 3) h answers

-- the attribute isn't known yet, or it is
few_or_three : (n : ℕ) → (n ≤ 2) ⊎ (3 ≤ n)
few_or_three zero = inl (omega arith)
few_or_three (suc zero) = inl (omega arith)
few_or_three (suc (suc zero)) = inl (omega arith)
few_or_three (suc (suc (suc n))) = inr (omega arith)

-- the count of a read once the attribute is known
read_counted : (e : ℕ) (words : List ℕ) (s : Shape) → 5 ≤ e → shape_of e (attribute_read e words) ≡ s → count_of (request.Read (record { raw = 0 }) e) words ≡ 3 + words_in s (slice_index words 3)
read_counted e words s five is = by (asks_attribute e) asks is
  where
    asks : asks_attribute e ≡ true
    asks = grind (arith, nat_tests)

    by : (test : Bool) → test ≡ true → shape_of e (if test then slice_index words 1 + 65536 * slice_index words 2 else 0) ≡ s →
        (if test then 3 else 1) + words_in (shape_of e (if test then slice_index words 1 + 65536 * slice_index words 2 else 0)) (slice_index words (if test then 3 else 1)) ≡ 3 + words_in s (slice_index words 3)
    by true on is = ap (λ (x : Shape). 3 + words_in x (slice_index words 3)) is
    by false on is = absurd (cc)

pub value_takes : ValueTakes
value_takes idn e h five answers one = elim (few_or_three (length h)) [
  | inl few ↦ omega (arith, few)
  | inr three ↦
      let most = has_at_most (request.Read idn e) h answers in
      let same = read_counted e (answer_words h) shape.One five (one three) in omega (arith, most, same)
]

pub list_takes : ListTakes
list_takes idn k h answers list short = elim (few_or_three (length h)) [
  | inl few ↦ omega (arith, few)
  | inr three ↦
      let most = has_at_most (request.Read idn 7) h answers in
      let same = read_counted 7 (answer_words h) shape.List (omega arith) (list three) in omega (arith, most, same, short)
]

write_counted : (bytes words : List ℕ) (s : Shape) → shape_of 7 (attribute_read 7 words) ≡ s → count_of (request.Write (record { raw = 0 }) 7 bytes) words ≡ 3 + length (words_told s bytes)
write_counted bytes words s is = ap (λ (x : Shape). 3 + length (words_told x bytes)) is

pub value_write_takes : ValueWriteTakes
value_write_takes idn bytes h short answers one = elim (few_or_three (length h)) [
  | inl few ↦ omega (arith, few)
  | inr three ↦
      let most = has_at_most (request.Write idn 7 bytes) h answers in
      let same = write_counted bytes (answer_words h) shape.One (one three) in
      let some = length-at_least_one (words_of bytes) in
      let words = length-words_of bytes in omega (arith, most, same, some, words, short)
]

pub list_write_takes : ListWriteTakes
list_write_takes idn bytes k h short answers list = elim (few_or_three (length h)) [
  | inl few ↦ omega (arith, few)
  | inr three ↦
      let most = has_at_most (request.Write idn 7 bytes) h answers in
      let same = write_counted bytes (answer_words h) shape.List (list three) in
      let words = length-words_of bytes in omega (arith, most, same, words, short)
]

-- Commands.

times_one : (p : ℕ) → p * 1 ≡ p
times_one p = omega arith

times_suc : (p n : ℕ) → p * (1 + n) ≡ p + p * n
times_suc p n = grind arith

suc_times : (k p : ℕ) → (suc k + 1) * p ≡ p + (k + 1) * p
suc_times k p = grind arith

-- each data status that is 7 was read before the end, so that one period after the end is enough for all
polled_by : (period time spent : ℕ) (words : List ℕ) → spent ≤ time → ((k : ℕ) → k < polls words → slice_index words k ≡ 7 → spent + (k + 1) * period < time) → spent + period * polls words ≤ time + period
polled_by period time spent [] begun early = let one = times_one period in omega (arith, begun, one)
polled_by period time spent (status ∷ words) begun early = elim (cases_eq status 7) [
  | inl seven ↦
      let test : (status == 7) ≡ true = eq-eqb status 7 seven in
      let same : polls (status ∷ words) ≡ 1 + polls words = ap (λ (b : Bool). 1 + (if b then polls words else 0)) test in
      let first = early 0 (omega (arith, same)) seven in
      let more = polled_by period time (spent + period) words (omega (arith, first)) (λ k low is. let l = early (suc k) (omega (arith, same, low)) is in let s = suc_times k period in omega (arith, l, s)) in
      let times = times_suc period (polls words) in
      let all : period * polls (status ∷ words) ≡ period * (1 + polls words) = ap (λ (n : ℕ). period * n) same in omega (arith, more, times, all)
  | inr other ↦
      let test : (status == 7) ≡ false = grind (arith, nat_tests) in
      let one = times_one period in
      let all : period * polls (status ∷ words) ≡ period * 1 = ap (λ (b : Bool). period * (1 + (if b then polls words else 0))) test in omega (arith, begun, one, all)
]

pub polls_by : (period time spent : ℕ) (words : List ℕ) → spent ≤ time → ((k : ℕ) → slice_index words k ≡ 7 → spent + (k + 1) * period < time) → spent + period * polls words ≤ time + period
polls_by period time spent words begun early = polled_by period time spent words begun (λ k low is. early k is)

pub command_takes : CommandTakes
command_takes idn period time h answers ends =
    let statuses = drop 2 (answer_words h) in
    let most = has_at_most (request.Command idn) h answers in
    let all = polled_by period time 0 statuses (omega arith) (λ k low seven. let l = ends k low seven in omega (arith, l)) in
    let le = times_le period (length h) (3 + polls statuses) most in
    let same = times_more period (polls statuses) in omega (arith, all, le, same)

four_more : (p d : ℕ) → p * (4 + d) ≡ 4 * p + d * p
four_more p d = grind arith

steps_by : (p time n : ℕ) → 0 < p → p * n ≤ time + 4 * p → n ≤ time / p + 4
steps_by p time zero some le = omega arith
steps_by p time (suc zero) some le = omega arith
steps_by p time (suc (suc zero)) some le = omega arith
steps_by p time (suc (suc (suc zero))) some le = omega arith
steps_by p time (suc (suc (suc (suc d)))) some le =
    let same = four_more p d in
    let few = le-div d time p some (omega (arith, le, same)) in omega (arith, few)

pub command_takes_steps : CommandTakesSteps
command_takes_steps idn period time h some answers ends = steps_by period time (length h) some (command_takes idn period time h answers ends)

pub request_takes : RequestTakes
request_takes period time (request.Read idn e) h some answers ok = let few = read_ends idn e h answers in omega (arith, few)
request_takes period time (request.Write idn e bytes) h some answers ok = let few = write_ends idn e bytes h ok answers in omega (arith, few)
request_takes period time (request.Command idn) h some answers ok =
    let few = command_takes_steps idn period time h some answers ok in
    let less = div-le_self time period in omega (arith, few, less)
